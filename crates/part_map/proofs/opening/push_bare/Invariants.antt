use Rattle.std.proofs.Common.{◌≡◌, ◌++◌, ◌-◌}
use Rattle.ignite_types.specs.Affinity.{bare_rows}
use Rattle.part_map.proofs.opening.push_bare.Given as goal

abbrev pub invariant-loop : goal.invariant-loop
invariant-loop l = l.rows ++ bare_rows (l.parts - l.counter) ≡ l.fn.rows ++ bare_rows l.parts
