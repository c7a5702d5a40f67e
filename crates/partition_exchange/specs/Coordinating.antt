-- The coordinator's steps between two looks at its state.
use Rattle.std.specs.Prelude.{◌++◌, ◌∷◌, []}
use Rattle.act_rows.specs.Exchange.{after_install, others_seen, without_singles}
use Rattle.act_rows.specs.Steps.{outs_to, with_outs}
use Rattle.ignite_types.specs.declared.message.Single.{Single}
use Rattle.ignite_types.specs.declared.placement.PartMap.{PartMap}
use Rattle.node_state.specs.Node.{NodeState}
use Rattle.ignite_types.specs.declared.message.Message.TheVariants as msg

abbrev pub with_single : NodeState → Single → NodeState
with_single s single = record s { singles = s.singles ++ single ∷ [] }

-- the computed map is installed, and the others are told
abbrev pub publishes : NodeState → PartMap → NodeState
publishes s m = with_outs (after_install (without_singles s m.top) m) (outs_to (others_seen s) (msg.Full m))
