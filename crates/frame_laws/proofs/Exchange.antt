-- The rows of the exchange of a topology version, each of which extends the node.
use Rattle.std.proofs.Common.{Bool, List, [], ◌∷◌, Option, Some, None}
use Rattle.std.specs.Prelude.{ℕ, ◌++◌}
use Rattle.frame_laws.proofs.Starts.{starts_all_kept}
use Rattle.act_rows.specs.Exchange.{after_compute, after_compute_if_all, after_count, after_count_installed, after_full, after_install, after_installed, after_learn, after_open_for_all, after_open_if_all, after_opens, after_send_demands, after_single, all_installed, demand_outs, is_newer_map, may_compute, next_map_seen, others_seen, without_single, without_singles}
use Rattle.act_rows.specs.Starts.{after_start_all}
use Rattle.act_rows.specs.Steps.{installed_top, outs_to, rows_of, with_note, with_out, with_outs}
use Rattle.ignite_types.specs.Names.{node_cmp, same_top}
use Rattle.ignite_types.specs.declared.journal.TopoEvent.{TopoEvent}
use Rattle.ignite_types.specs.declared.message.Single.{Single}
use Rattle.ignite_types.specs.declared.names.NodeId.{NodeId}
use Rattle.ignite_types.specs.declared.names.TopVer.{TopVer}
use Rattle.ignite_types.specs.declared.placement.PartMap.{PartMap}
use Rattle.node_state.specs.Node.{NodeState}
use Rattle.node_state.specs.declared.topology.Exchange.{Exchange}
use Rattle.ordered_set.specs.Members.{with_member}
use Rattle.ignite_types.specs.declared.message.Message.TheVariants as msg
use Rattle.ignite_types.specs.declared.journal.Rec.TheVariants as note
use Rattle.frame_laws.specs.Kits.{ClosedUnderAllWatchedSteps, ClosedUnderWatchedSteps}
use Rattle.frame_laws.proofs.Kits.{either_kept}

module _ {watched : Bool} (R : NodeState → NodeState → Type 0) (all : ClosedUnderAllWatchedSteps watched R) where
  abbrev kit : ClosedUnderWatchedSteps watched R
  kit = all.plain

  -- Seeing.

  pub learns_kept : (s : NodeState) (event : TopoEvent) → R s (after_learn s event)
  learns_kept s event = all.learns s event

  -- Installing.

  pub installs_kept : (s : NodeState) (m : PartMap) → R s (after_install s m)
  installs_kept s m = all.installs s m

  -- Opening.

  pub demands_kept : (s : NodeState) → R s (after_send_demands s)
  demands_kept s = all.sends s (demand_outs s.me (installed_top s) 0 (rows_of s))

  pub opens_row_kept : (s : NodeState) (top : TopVer) → R s (after_opens s top)
  opens_row_kept s top =
      let noted : NodeState = with_note (record s { opened = Some top }) (note.Opened top) in
      kit.andthen s noted (after_send_demands (after_start_all noted)) (all.opens s top)
      (kit.andthen noted (after_start_all noted) (after_send_demands (after_start_all noted)) (starts_all_kept R kit noted)
      (demands_kept (after_start_all noted)))

  -- The coordinator.

  pub opens_for_all_kept : (s : NodeState) (top : TopVer) → R s (after_open_for_all s top)
  opens_for_all_kept s top =
      let over : NodeState = record s { exchange = None } in
      let told : NodeState = with_outs over (outs_to (others_seen s) (msg.Opens top)) in
      kit.andthen s told (after_opens told top)
      (kit.andthen s over told (all.exchanges s None)
      (all.sends over (outs_to (others_seen s) (msg.Opens top))))
      (opens_row_kept told top)

  pub opens_if_all_kept : (s : NodeState) (found : Option Exchange) → R s (after_open_if_all s found)
  opens_if_all_kept s None = kit.nothing s
  opens_if_all_kept s (Some x) = either_kept R kit s (after_open_for_all s x.top) s (all_installed s.members x.installed)
      (opens_for_all_kept s x.top) (kit.nothing s)

  pub counts_kept : (s : NodeState) (x : Exchange) → R s (after_count s x)
  counts_kept s x =
      let here : NodeState = record s { exchange = Some x } in
      kit.andthen s here (after_open_if_all here (Some x)) (all.exchanges s (Some x))
      (opens_if_all_kept here (Some x))

  pub without_singles_kept : (s : NodeState) (top : TopVer) → R s (without_singles s top)
  without_singles_kept s top = all.drops_singles s top

  pub computes_kept : (s : NodeState) (m : PartMap) → R s (after_compute s m)
  computes_kept s m =
      let fewer : NodeState = without_singles s m.top in
      let there : NodeState = after_install fewer m in
      let told : NodeState = with_outs there (outs_to (others_seen s) (msg.Full m)) in
      let own : Exchange = record { top = m.top; installed = s.me ∷ [] } in
      kit.andthen s there (after_count told own)
      (kit.andthen s fewer there (without_singles_kept s m.top) (installs_kept fewer m))
      (kit.andthen there told (after_count told own) (all.sends there (outs_to (others_seen s) (msg.Full m)))
      (counts_kept told own))

  pub computes_if_all_kept : (s : NodeState) → R s (after_compute_if_all s)
  computes_if_all_kept s = either_kept R kit s (after_compute s (next_map_seen s)) s (may_compute s)
      (computes_kept s (next_map_seen s)) (kit.nothing s)

  pub single_row_kept : (s : NodeState) (from : NodeId) (top : TopVer) (m : Option PartMap) (complete : List ℕ) →
      R s (after_single s from top m complete)
  single_row_kept s from top m complete =
      let single : Single = record { from = from; top = top; map = m; complete = complete } in
      let here : NodeState = record s { singles = s.singles ++ single ∷ [] } in
      kit.andthen s here (after_compute_if_all here) (all.keeps_single s single) (computes_if_all_kept here)

  pub full_row_kept : (s : NodeState) (from : NodeId) (m : PartMap) → R s (after_full s from m)
  full_row_kept s from m = either_kept R kit s (with_out (after_install s m) from (msg.Installed m.top)) s
      (is_newer_map m s.installed)
      (kit.andthen s (after_install s m) (with_out (after_install s m) from (msg.Installed m.top)) (installs_kept s m)
      (all.sends (after_install s m) (record { to = from; msg = msg.Installed m.top } ∷ [])))
      (kit.nothing s)

  pub counts_installed_kept : (s : NodeState) (from : NodeId) (top : TopVer) (found : Option Exchange) →
      R s (after_count_installed s from top found)
  counts_installed_kept s from top None = kit.nothing s
  counts_installed_kept s from top (Some x) = let more : Exchange =
      record x { installed = with_member node_cmp x.installed from } in
      either_kept R kit s (after_count s more) s (same_top x.top top) (counts_kept s more) (kit.nothing s)

  pub installed_row_kept : (s : NodeState) (from : NodeId) (top : TopVer) → R s (after_installed s from top)
  installed_row_kept s from top = counts_installed_kept s from top s.exchange

  pub without_single_kept : (s : NodeState) (who : NodeId) → R s (without_single s who)
  without_single_kept s who = all.drops_lost s who
