-- What a node does at the end of each act extends it.
use Rattle.std.proofs.Common.{Bool, List, [], ◌∷◌, Option, Some, None, true}
use Rattle.act_rows.specs.Decisions.{txs_of}
use Rattle.act_rows.specs.Primary.{after_advance_shares, own_txs}
use Rattle.act_rows.specs.Starts.{after_start_all}
use Rattle.act_rows.specs.Steps.{entry_of, oldest_seen, with_out_to_oldest}
use Rattle.ignite_types.specs.declared.names.NodeId.{NodeId}
use Rattle.ignite_types.specs.declared.names.TxId.{TxId}
use Rattle.ignite_types.specs.declared.placement.Share.{Share}
use Rattle.node_state.specs.declared.near.TxEntry.{TxEntry}
use Rattle.node_state.specs.declared.near.TxState.{TxState}
use Rattle.node_state.specs.Node.{NodeState}
use Rattle.ignite_types.specs.declared.message.Message.TheVariants as msg
use Rattle.ignite_types.specs.declared.message.Message.{Message}
use Rattle.node_state.specs.declared.near.TxState.TheVariants as state
use Rattle.act_rows.specs.Closing.{after_advance_each_tx, after_advance_starter, after_advance_tx, after_advance_tx_in, after_closing_rules, after_phase, after_send_single, after_single_if_drained, owes_single}
use Rattle.frame_laws.proofs.Primary.{shares_on_kept}
use Rattle.frame_laws.proofs.Decisions.{decides_kept, ends_kept}
use Rattle.frame_laws.proofs.Starts.{starts_all_kept}
use Rattle.frame_laws.specs.Kits.{ClosedUnderAllWatchedSteps, ClosedUnderWatchedSteps}
use Rattle.frame_laws.proofs.Kits.{either_kept}

module _ {watched : Bool} (R : NodeState → NodeState → Type 0) (kit : ClosedUnderWatchedSteps watched R) where
  pub phase_over_kept : (s : NodeState) (tx : TxId) (e : TxEntry) (st : TxState) → R s (after_phase s tx e st)
  phase_over_kept s tx e state.Idle = kit.nothing s
  phase_over_kept s tx e state.Active = kit.nothing s
  phase_over_kept s tx e state.Waiting = kit.nothing s
  phase_over_kept s tx e state.Searching = kit.nothing s
  phase_over_kept s tx e state.Preparing = decides_kept R kit s tx true
  phase_over_kept s tx e state.Committing = ends_kept R kit s tx e.state e.outcome e.fault
  phase_over_kept s tx e state.RollingBack = ends_kept R kit s tx e.state e.outcome e.fault
  phase_over_kept s tx e state.Ended = kit.nothing s

  pub near_on_lists_kept : (s : NodeState) (tx : TxId) (e : TxEntry) (awaited : List NodeId) (backups : List Share) →
      R s (after_advance_tx_in s tx e awaited backups)
  near_on_lists_kept s tx e [] [] = phase_over_kept s tx e e.state
  near_on_lists_kept s tx e [] (b ∷ bs) = kit.nothing s
  near_on_lists_kept s tx e (a ∷ more) backups = kit.nothing s

  pub near_on_entry_kept : (s : NodeState) (tx : TxId) (entry : Option TxEntry) → R s (after_advance_tx s tx entry)
  near_on_entry_kept s tx None = kit.nothing s
  near_on_entry_kept s tx (Some e) = near_on_lists_kept s tx e e.awaited e.backups

  pub near_on_each_kept : (s : NodeState) (txs : List TxId) → R s (after_advance_each_tx s txs)
  near_on_each_kept s [] = kit.nothing s
  near_on_each_kept s (tx ∷ txs) = let next = after_advance_tx s tx (entry_of s tx) in
      kit.andthen s next (after_advance_each_tx next txs) (near_on_entry_kept s tx (entry_of s tx)) (near_on_each_kept next txs)

  pub near_on_kept : (s : NodeState) → R s (after_advance_starter s)
  near_on_kept s = near_on_each_kept s (txs_of s)

module _ {watched : Bool} (R : NodeState → NodeState → Type 0) (all : ClosedUnderAllWatchedSteps watched R) where
  abbrev kit : ClosedUnderWatchedSteps watched R
  kit = all.plain

  to_oldest : (s : NodeState) (m : Message) (to : Option NodeId) → R s (with_out_to_oldest s m to)
  to_oldest s m None = kit.nothing s
  to_oldest s m (Some oldest) = all.sends s (record { to = oldest; msg = m } ∷ [])

  pub sends_single_kept : (s : NodeState) → R s (after_send_single s)
  sends_single_kept s =
      let marked = record s { single_sent = Some s.seen } in
      kit.andthen s marked (after_send_single s)
      (all.marks_single s)
      (to_oldest marked (msg.Single s.seen s.installed s.complete) (oldest_seen s))

  pub single_if_drained_kept : (s : NodeState) → R s (after_single_if_drained s)
  single_if_drained_kept s = either_kept R kit s (after_send_single s) s (owes_single s) (sends_single_kept s) (kit.nothing s)

  pub closed_kept : (s : NodeState) → R s (after_closing_rules s)
  closed_kept s =
      let shared = after_advance_shares s (own_txs s) in
      let first = after_advance_starter shared in
      let started = after_start_all first in
      let second = after_advance_starter started in
      kit.andthen s shared (after_single_if_drained second) (shares_on_kept R kit s (own_txs s))
      (kit.andthen shared first (after_single_if_drained second) (near_on_kept R kit shared)
      (kit.andthen first started (after_single_if_drained second) (starts_all_kept R kit first)
      (kit.andthen started second (after_single_if_drained second) (near_on_kept R kit started)
      (single_if_drained_kept second))))
