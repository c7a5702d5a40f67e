-- Steps that follow from those of a kit.
use Rattle.std.proofs.Common.{◌≡◌, [], ◌∷◌, refl, Bool, true, false, if◌then◌else◌}
use Rattle.frame_laws.specs.Kits.{ClosedUnderWatchedSteps, is_plain_message}
use Rattle.act_rows.specs.Steps.{with_out}
use Rattle.ignite_types.specs.declared.message.Message.{Message}
use Rattle.ignite_types.specs.declared.names.NodeId.{NodeId}
use Rattle.node_state.specs.Node.{NodeState}

module _ {watched : Bool} (R : NodeState → NodeState → Type 0) (kit : ClosedUnderWatchedSteps watched R) where
  pub sent_kept : (s : NodeState) (to : NodeId) (m : Message) → is_plain_message m ≡ true → R s (with_out s to m)
  sent_kept s to m plain = kit.sent_all s (record { to = to; msg = m } ∷ []) (rw plain refl)

  -- a choice between two
  pub either_kept : (s x y : NodeState) (b : Bool) → R s x → R s y → R s (if b then x else y)
  either_kept s x y true first second = first
  either_kept s x y false first second = second
