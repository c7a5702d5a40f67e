-- How the copy of a mover is filled: each row extends the node.
use Rattle.std.proofs.Common.{List, Option, Bool, true, false, refl}
use Rattle.std.specs.Ordering.{nat_cmp}
use Rattle.std.specs.Prelude.{ℕ}
use Rattle.frame_laws.proofs.Steps.{sent_to_oldest_kept}
use Rattle.act_rows.specs.Filling.{after_claim_if_all, after_complete, after_complete_part, after_demand, after_supplied, after_supply, all_filled, last_key, with_copy}
use Rattle.act_rows.specs.Steps.{is_installed, oldest_seen, with_out, with_out_to_oldest}
use Rattle.part_model.specs.Copies.{Copy, batch_of, batch_size, copy_after_supply, copy_at, is_last_batch, without_tombstones}
use Rattle.ignite_types.specs.declared.message.Message.{Message}
use Rattle.ignite_types.specs.declared.message.Stored.{Stored}
use Rattle.ignite_types.specs.declared.names.NodeId.{NodeId}
use Rattle.ignite_types.specs.declared.names.TopVer.{TopVer}
use Rattle.ignite_types.specs.declared.text.Key.{Key}
use Rattle.node_state.specs.Node.{NodeState}
use Rattle.ordered_set.specs.Members.{with_member}
use Rattle.ignite_types.specs.declared.message.Message.TheVariants as msg
use Rattle.frame_laws.specs.Kits.{ClosedUnderSteps, ClosedUnderWatchedSteps}
use Rattle.frame_laws.proofs.Kits.{either_kept, sent_kept}

module _ {watched : Bool} (R : NodeState → NodeState → Type 0) (kit : ClosedUnderWatchedSteps watched R) where
  pub demand_row_kept : (s : NodeState) (from : NodeId) (top : TopVer) (part : ℕ) (after : Option Key) →
      R s (after_demand s from top part after)
  demand_row_kept s from top part after =
      let copy : Copy = copy_at s.stores part in
      let m : Message = msg.Supply top part (batch_of copy after batch_size) (is_last_batch copy after batch_size) in
      either_kept R kit s (with_out s from m) s (is_installed s top) (sent_kept R kit s from m refl) (kit.nothing s)

  pub with_copy_kept : (s : NodeState) (part : ℕ) (copy : Copy) → R s (with_copy s part copy)
  with_copy_kept s part copy = kit.aside s (with_copy s part copy) refl

  pub claims_if_all_kept : (s : NodeState) (top : TopVer) → R s (after_claim_if_all s top)
  claims_if_all_kept s top = either_kept R kit s (with_out_to_oldest s (msg.Complete top) (oldest_seen s)) s (all_filled s)
      (sent_to_oldest_kept R kit s (msg.Complete top) (oldest_seen s) refl) (kit.nothing s)

  pub completes_kept : (s : NodeState) (top : TopVer) (part : ℕ) → R s (after_complete_part s top part)
  completes_kept s top part =
      let here : NodeState = record (with_copy s part (without_tombstones (copy_at s.stores part))) {
        complete = with_member nat_cmp s.complete part;
      } in
      kit.andthen s here (after_claim_if_all here top) (kit.aside s here refl) (claims_if_all_kept here top)

  pub supplied_to_kept : (s : NodeState) (from : NodeId) (top : TopVer) (part : ℕ) (entries : List Stored) (last : Bool) →
      R s (after_supplied s from top part entries last)
  supplied_to_kept s from top part entries true = completes_kept s top part
  supplied_to_kept s from top part entries false = sent_kept R kit s from (msg.Demand top part (last_key entries)) refl

  pub supply_row_kept : (s : NodeState) (from : NodeId) (top : TopVer) (part : ℕ) (entries : List Stored) (last : Bool) →
      R s (after_supply s from top part entries last)
  supply_row_kept s from top part entries last =
      let here : NodeState = with_copy s part (copy_after_supply (copy_at s.stores part) entries) in
      either_kept R kit s (after_supplied here from top part entries last) s (is_installed s top)
      (kit.andthen s here (after_supplied here from top part entries last)
      (with_copy_kept s part (copy_after_supply (copy_at s.stores part) entries))
      (supplied_to_kept here from top part entries last))
      (kit.nothing s)

-- a claim is kept: a plain step where claims are not watched
module _ (R : NodeState → NodeState → Type 0) (kit : ClosedUnderSteps R) where
  pub complete_row_kept : (s : NodeState) (from : NodeId) (top : TopVer) → R s (after_complete s from top)
  complete_row_kept s from top = kit.aside s (after_complete s from top) refl
