use Rattle.std.proofs.Common.{◌≡◌, ◌++◌, drop}
use Rattle.std.specs.List.{flat_map}
use Rattle.tx_model.specs.Opening.{declared_nodes, joiner_of}
use Rattle.world_core.proofs.opening.declared_nodes.Given as goal

abbrev pub invariant-loop-step : goal.invariant-loop-step
invariant-loop-step l = l.members ++ flat_map joiner_of (drop l.step-index l.step-items) ≡ declared_nodes l.scenario
