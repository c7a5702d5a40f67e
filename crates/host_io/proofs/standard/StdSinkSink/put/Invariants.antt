use Rattle.std.proofs.Common.{◌≡◌}
use Rattle.host_io.proofs.standard.StdSinkSink.put.Given as goal

abbrev pub invariant-loop : goal.invariant-loop
invariant-loop l = l.self-inside.faults ≡ l.initial.self-inside.faults
