-- What a call of the audit comes to: its status, and the text that is to be written.
use Rattle.std.specs.Prelude.{◌≡◌, ◌⊎◌, ◌≤◌, ℕ, [], ◌∷◌, ◌++◌, Option, Some, None, IfSome, IsUtf8, codes, length}
use Rattle.std.specs.Io.KnownBytes.{append_known, IsAtEnd}
use Rattle.host_io.specs.Faults.{Faulted}
use Rattle.host_io.specs.ReadEnd.{EndsEarly}
use Rattle.host_io.specs.Sink.{AppendsPart}
use Rattle.host_io.specs.declared.source.ReadEnd.TheVariants as early
use Rattle.host_io.specs.declared.status.ToolStatus.{ToolStatus}
use Rattle.host_io.specs.declared.status.ToolStatus.TheVariants as status
use Rattle.serde_json.specs.Data.{Data}
use Rattle.serde_json.specs.Read as json
use Rattle.audit_core.specs.Histories.{Bytes}
use Rattle.audit_core.specs.Told.{finding_line, finding_status}
use Rattle.audit_core.specs.Verdict.{finding_of}
use Rattle.audit_core.specs.declared.verdict.Finding.{Finding}

-- the most bytes that are read
abbrev pub most_bytes : ℕ
most_bytes = 67108864

abbrev pub not_json_line : Bytes
not_json_line = codes "refused: not json" ++ (10 ∷ [])

abbrev pub too_long_line : Bytes
too_long_line = codes "refused: too long" ++ (10 ∷ [])

abbrev pub fault_line : Bytes
fault_line = codes "read fault" ++ (10 ∷ [])

-- what a call saw of its source: the bytes left and the count of faults, before and after
pub record Intake : Type 0 where
  pub before : Option Bytes
  pub after : Option Bytes
  pub faults_before : ℕ
  pub faults_after : ℕ

-- what a call did to its sink: the bytes held and the count of faults, before and after
pub record Outlet : Type 0 where
  pub before : Option Bytes
  pub after : Option Bytes
  pub faults_before : ℕ
  pub faults_after : ℕ

-- the bytes are the JSON text of a value, and this is what there is to say of it
pub record IsAudit (bytes : Bytes) (s : ToolStatus) (text : Bytes) : Type 0 where
  pub value : Data
  pub utf8 : IsUtf8 bytes
  pub json : json.read bytes ≡ Some value
  pub is : s ≡ finding_status (finding_of value)
  pub line : text ≡ finding_line (finding_of value)

-- the bytes are no JSON text
pub record IsNoJson (bytes text : Bytes) : Type 0 where
  pub unread : IsUtf8 bytes → json.read bytes ≡ None
  pub line : text ≡ not_json_line

-- what the bytes come to
abbrev pub BytesSay : Bytes → ToolStatus → Bytes → Type 0
BytesSay bytes status.Good text = IsAudit bytes status.Good text
BytesSay bytes status.No text = IsAudit bytes status.No text
BytesSay bytes status.Refused text = IsNoJson bytes text
BytesSay bytes status.Memory text = text ≡ []
BytesSay bytes _ text = ⊥

-- what a finding comes to
pub record IsFinding (f : Finding) (s : ToolStatus) (text : Bytes) : Type 0 where
  pub is : s ≡ finding_status f
  pub line : text ≡ finding_line f

abbrev pub FindingSays : Finding → ToolStatus → Bytes → Type 0
FindingSays f status.Good text = IsFinding f status.Good text
FindingSays f status.No text = IsFinding f status.No text
FindingSays f status.Memory text = text ≡ []
FindingSays f _ text = ⊥

-- what a fixed line comes to
abbrev pub FixedLine : ToolStatus → Bytes → ToolStatus → Bytes → Type 0
FixedLine status.Usage line status.Usage text = text ≡ line
FixedLine status.Refused line status.Refused text = text ≡ line
FixedLine status.ReadFault line status.ReadFault text = text ≡ line
FixedLine s line status.Memory text = text ≡ []
FixedLine s line _ text = ⊥

-- the source was read to its end, and this is what its bytes come to; where it tells them, they are those
pub record AtItsEnd (i : Intake) (s : ToolStatus) (text : Bytes) : Type 0 where
  pub read_out : IsAtEnd i.after
  pub bytes : Bytes
  pub few : length bytes ≤ most_bytes
  pub those : IfSome i.before (λ before. bytes ≡ before)
  pub say : BytesSay bytes s text

-- one byte more than the limit came
pub record IsTooLong (i : Intake) (text : Bytes) : Type 0 where
  pub came : EndsEarly early.TooLong most_bytes i.before i.after
  pub line : text ≡ too_long_line

pub record HasReadFault (i : Intake) (text : Bytes) : Type 0 where
  pub counted : Faulted i.faults_before i.faults_after
  pub line : text ≡ fault_line

-- what an audit of this source comes to, before it is written
abbrev pub AuditSays : Intake → ToolStatus → Bytes → Type 0
AuditSays i status.Good text = AtItsEnd i status.Good text
AuditSays i status.No text = AtItsEnd i status.No text
AuditSays i status.Refused text = AtItsEnd i status.Refused text ⊎ IsTooLong i text
AuditSays i status.ReadFault text = HasReadFault i text
AuditSays i status.Memory text = text ≡ []
AuditSays i _ text = ⊥

-- the whole text was written
pub record WholeText (Says : ToolStatus → Bytes → Type 0) (o : Outlet) (s : ToolStatus) : Type 0 where
  pub text : Bytes
  pub says : Says s text
  pub held : o.after ≡ append_known o.before text

-- a fault of the sink cut off the text of another status
pub record CutText (Says : ToolStatus → Bytes → Type 0) (o : Outlet) : Type 0 where
  pub other : ToolStatus
  pub text : Bytes
  pub says : Says other text
  pub held : AppendsPart o.before o.after text
  pub counted : Faulted o.faults_before o.faults_after

-- what a call ends with that comes to this
abbrev pub ToolEnds : (ToolStatus → Bytes → Type 0) → Outlet → ToolStatus → Type 0
ToolEnds Says o status.WriteFault = CutText Says o
ToolEnds Says o status.Good = WholeText Says o status.Good
ToolEnds Says o status.No = WholeText Says o status.No
ToolEnds Says o status.Usage = WholeText Says o status.Usage
ToolEnds Says o status.Refused = WholeText Says o status.Refused
ToolEnds Says o status.ReadFault = WholeText Says o status.ReadFault
ToolEnds Says o status.Memory = WholeText Says o status.Memory

-- what an audit ends with
abbrev pub AuditEnds : Intake → Outlet → ToolStatus → Type 0
AuditEnds i o s = ToolEnds (AuditSays i) o s
