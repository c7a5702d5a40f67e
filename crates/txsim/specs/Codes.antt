-- The exit code of each status.
use Rattle.std.specs.Prelude.{ℕ}
use Rattle.ignite_types.specs.declared.journal.Status.{Status}
use Rattle.ignite_types.specs.declared.journal.Status.TheVariants as status

abbrev pub exit_code : Status → ℕ
exit_code status.AllEnded = 0
exit_code status.Stalled = 1
exit_code status.Usage = 2
exit_code status.Refused = 3
exit_code status.StepLimit = 4
exit_code status.Memory = 5
exit_code status.ReadFault = 6
exit_code status.WriteFault = 7
