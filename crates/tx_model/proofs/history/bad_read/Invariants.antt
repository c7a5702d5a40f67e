use Rattle.std.proofs.Common.{◌≡◌, drop}
use Rattle.tx_model.specs.History.{bad_read}
use Rattle.tx_model.proofs.history.bad_read.Given as goal

abbrev pub invariant-loop-key : goal.invariant-loop-key
invariant-loop-key l = bad_read l.map (drop l.key-index l.reads) ≡ bad_read l.map l.reads
