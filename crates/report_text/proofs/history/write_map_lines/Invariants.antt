use Rattle.std.proofs.Common.{◌≡◌, ◌++◌, drop}
use Rattle.report_text.specs.Histories.{map_lines}
use Rattle.report_text.proofs.history.write_map_lines.Given as goal

abbrev pub invariant-loop-entry : goal.invariant-loop-entry
invariant-loop-entry l =
    l.out ++ map_lines l.scenario (drop l.entry-index l.entries)
    ≡ l.fn.out ++ map_lines l.scenario l.entries
