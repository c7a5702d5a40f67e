-- The line that tells what was found.
use Rattle.std.specs.Prelude.{[], ◌∷◌, ◌++◌, codes, decimal}
use Rattle.host_io.specs.declared.status.ToolStatus.{ToolStatus}
use Rattle.host_io.specs.declared.status.ToolStatus.TheVariants as status
use Rattle.audit_core.specs.Histories.{Bytes}
use Rattle.audit_core.specs.declared.verdict.EntryFault.{EntryFault}
use Rattle.audit_core.specs.declared.verdict.EntryFault.TheVariants as fault
use Rattle.audit_core.specs.declared.verdict.Finding.{Finding}
use Rattle.audit_core.specs.declared.verdict.Finding.TheVariants as finding

abbrev pub entry_fault_text : EntryFault → Bytes
entry_fault_text fault.Twice = codes "twice"
entry_fault_text fault.VersionFalls = codes "version falls"
entry_fault_text (fault.Read key) = codes "read " ++ key

abbrev pub finding_text : Finding → Bytes
finding_text finding.NoShape = codes "no shape"
finding_text (finding.Entry place f) = codes "no at " ++ decimal place ++ codes ": " ++ entry_fault_text f
finding_text (finding.Map key) = codes "no map " ++ key
finding_text (finding.Yes n) = codes "yes " ++ decimal n

abbrev pub finding_line : Finding → Bytes
finding_line f = finding_text f ++ 10 ∷ []

-- 0 exactly at yes
abbrev pub finding_status : Finding → ToolStatus
finding_status (finding.Yes n) = status.Good
finding_status _ = status.No
