use Rattle.std.proofs.Common.{drop, ◌++◌, ◌≡◌}
use Rattle.act_rows.specs.Accesses.{wanted_at}
use Rattle.near_side.proofs.preparing.wanted_at.Given as goal

abbrev pub invariant-loop-key : goal.invariant-loop-key
invariant-loop-key l = l.wanted ++ wanted_at l.node l.entry l.primary (drop l.key-index l.keys)
    ≡ wanted_at l.node l.entry l.primary l.keys
