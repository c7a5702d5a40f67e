use Rattle.std.proofs.Common.{◌≡◌, ◌++◌, drop}
use Rattle.report_text.specs.Traces.{trace_lines}
use Rattle.report_text.proofs.traces.write_trace_lines.Given as goal

abbrev pub invariant-loop-place : goal.invariant-loop-place
invariant-loop-place l =
    l.out ++ trace_lines l.scenario l.place (drop l.place l.groups)
    ≡ l.fn.out ++ trace_lines l.scenario 0 l.groups
