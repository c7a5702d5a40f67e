use Rattle.std.proofs.Common.{◌≡◌, drop}
use Rattle.tx_model.specs.History.{map_with_writes}
use Rattle.report_text.proofs.history.write_all.Given as goal

abbrev pub invariant-loop-write : goal.invariant-loop-write
invariant-loop-write l = map_with_writes l.map (drop l.write-index l.writes) ≡ map_with_writes l.fn.map l.writes
