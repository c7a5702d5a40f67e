use Rattle.std.proofs.Common.{◌≡◌, drop}
use Rattle.tx_model.specs.History.{map_with_writes}
use Rattle.tx_model.proofs.history.write_all.Given as goal

abbrev pub invariant-loop-key : goal.invariant-loop-key
invariant-loop-key l = map_with_writes l.map (drop l.key-index l.writes) ≡ map_with_writes l.initial.map l.writes
