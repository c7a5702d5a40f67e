use Rattle.std.proofs.Common.{◌≡◌, ◌++◌, drop}
use Rattle.part_model.specs.NextMap.{next_rows}
use Rattle.part_map.proofs.next.next_rows.Given as goal

abbrev pub invariant-loop-part : goal.invariant-loop-part
invariant-loop-part l = l.next ++ next_rows l.members l.claims.singles.now l.claims.version l.part (drop l.part l.ideals)
    (drop l.part l.rows) ≡ next_rows l.members l.claims.singles.now l.claims.version 0 l.ideals l.rows
