use Rattle.std.proofs.Common.{drop, ◌++◌, ◌≡◌}
use Rattle.prepare_finish.specs.Waits.{near_waits_at}
use Rattle.prepare_finish.proofs.finish.waits_at.Given as goal

abbrev pub invariant-loop-reader : goal.invariant-loop-reader
invariant-loop-reader l = l.waits ++ near_waits_at l.key (drop l.reader-index l.readers) ≡ near_waits_at l.key l.readers
