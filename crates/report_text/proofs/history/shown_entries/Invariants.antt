use Rattle.std.proofs.Common.{◌≡◌, ◌++◌, drop}
use Rattle.report_text.specs.Histories.{shown_entries}
use Rattle.report_text.proofs.history.shown_entries.Given as goal

abbrev pub invariant-loop-entry : goal.invariant-loop-entry
invariant-loop-entry l =
    l.shown ++ shown_entries l.running (drop l.entry-index l.entries)
    ≡ shown_entries l.running l.entries
