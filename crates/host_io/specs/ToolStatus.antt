-- The numbers that a tool ends with.
use Rattle.std.specs.Prelude.{ℕ}
use Rattle.host_io.specs.declared.status.ToolStatus.{ToolStatus}
use Rattle.host_io.specs.declared.status.ToolStatus.TheVariants.{Good, Usage, Refused, Memory, ReadFault, WriteFault, No}

abbrev pub status_code : ToolStatus → ℕ
status_code Good = 0
status_code Usage = 2
status_code Refused = 3
status_code Memory = 5
status_code ReadFault = 6
status_code WriteFault = 7
status_code No = 8
