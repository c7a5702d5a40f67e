use Rattle.std.proofs.Common.{◌≡◌, [], drop}
use Rattle.tx_model.specs.History.{serial_from}
use Rattle.tx_model.proofs.history.serial.Given as goal

abbrev pub invariant-loop-place : goal.invariant-loop-place
invariant-loop-place l = serial_from l.place l.map (drop l.place l.entries) ≡ serial_from 0 [] l.entries
