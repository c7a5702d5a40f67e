-- Writes to a node's copies extend the node.
use Rattle.std.proofs.Common.{Bool, List, [], ◌∷◌, refl}
use Rattle.act_rows.specs.Steps.{with_note}
use Rattle.ignite_types.specs.declared.message.Stored.{Stored}
use Rattle.ignite_types.specs.declared.names.NodeId.{NodeId}
use Rattle.ignite_types.specs.declared.names.TopVer.{TopVer}
use Rattle.ignite_types.specs.declared.names.TxId.{TxId}
use Rattle.node_state.specs.Node.{NodeState}
use Rattle.ignite_types.specs.declared.journal.Rec.TheVariants as note
use Rattle.act_rows.specs.Stores.{after_apply_each, with_stored}
use Rattle.frame_laws.specs.Kits.{ClosedUnderWatchedSteps}

module _ {watched : Bool} (R : NodeState → NodeState → Type 0) (kit : ClosedUnderWatchedSteps watched R) where
  pub stored_kept : (s : NodeState) (write : Stored) → R s (with_stored s write)
  stored_kept s write = kit.aside s (with_stored s write) refl

  -- one write is done and noted
  applied_kept : (s : NodeState) (tx : TxId) (top : TopVer) (primary : NodeId) (w : Stored) →
      R s (with_note (with_stored s w) (note.Apply tx top primary w.key w.value w.ver))
  applied_kept s tx top primary w =
      kit.andthen s (with_stored s w) (with_note (with_stored s w) (note.Apply tx top primary w.key w.value w.ver))
      (stored_kept s w)
      (kit.noting (with_stored s w) (note.Apply tx top primary w.key w.value w.ver) refl refl refl)

  pub applied_all_kept : (s : NodeState) (tx : TxId) (top : TopVer) (primary : NodeId) (ws : List Stored) →
      R s (after_apply_each s tx top primary ws)
  applied_all_kept s tx top primary [] = kit.nothing s
  applied_all_kept s tx top primary (w ∷ ws) =
      let next = with_note (with_stored s w) (note.Apply tx top primary w.key w.value w.ver) in
      kit.andthen s next (after_apply_each next tx top primary ws)
      (applied_kept s tx top primary w)
      (applied_all_kept next tx top primary ws)
