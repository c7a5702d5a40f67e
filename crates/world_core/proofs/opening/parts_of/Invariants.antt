use Rattle.std.proofs.Common.{◌≡◌, ◌++◌, drop}
use Rattle.tx_model.specs.Opening.{opening_parts}
use Rattle.world_core.proofs.opening.parts_of.Given as goal

abbrev pub invariant-loop-id : goal.invariant-loop-id
invariant-loop-id l = l.parts.items ++ opening_parts l.scenario l.map (drop l.id-index l.ids)
    ≡ opening_parts l.scenario l.map l.ids
