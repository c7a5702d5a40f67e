use Rattle.std.proofs.Common.{◌≡◌, ◌++◌, ◌-◌}
use Rattle.ignite_types.specs.Affinity.{ideal_rows}
use Rattle.part_map.proofs.opening.push_ideal.Given as goal

abbrev pub invariant-loop-part : goal.invariant-loop-part
invariant-loop-part l = l.rows ++ ideal_rows l.servers l.backups l.part (l.parts - l.part) ≡ l.fn.rows
    ++ ideal_rows l.servers l.backups 0 l.parts
