use Rattle.std.proofs.Common.{◌≡◌, ◌++◌, drop}
use Rattle.ignite_types.specs.Affinity.{opening_rows}
use Rattle.part_map.proofs.opening.opening_rows.Given as goal

abbrev pub invariant-loop-number : goal.invariant-loop-number
invariant-loop-number l = l.rows ++ opening_rows l.servers l.running l.number (drop l.number l.caches)
    ≡ opening_rows l.servers l.running 0 l.caches
