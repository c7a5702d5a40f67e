-- What a call of the tools comes to.
use Rattle.std.specs.Prelude.{◌≡◌, List, [], ◌∷◌, ◌++◌, Option, Some, None, codes, ℕ}
use Rattle.host_io.specs.declared.status.ToolStatus.{ToolStatus}
use Rattle.host_io.specs.declared.status.ToolStatus.TheVariants as status
use Rattle.audit_core.specs.Ends.{AuditSays, Intake, Outlet, ToolEnds}
use Rattle.tools_top.specs.ToolWords.{tool_line}
use Rattle.tools_top.specs.declared.words.Tool.{Tool}
use Rattle.tools_top.specs.declared.words.Tool.TheVariants as tool

abbrev pub usage_line : List ℕ
usage_line = codes "usage: txtools audit" ++ (10 ∷ [])

-- the words were refused before anything was read
pub record IsUsage (i : Intake) (text : List ℕ) : Type 0 where
  pub same : i.after ≡ i.before
  pub same_faults : i.faults_after ≡ i.faults_before
  pub line : text ≡ usage_line

-- what a call comes to that asks for this tool, or for none, before it is written
abbrev pub ToolSays : Option Tool → Intake → ToolStatus → List ℕ → Type 0
ToolSays (Some tool.Audit) i s text = AuditSays i s text
ToolSays None i status.Usage text = IsUsage i text
ToolSays None i status.Memory text = text ≡ []
ToolSays None i _ text = ⊥

-- what a call with these words ends with
abbrev pub ToolsEnd : List (List ℕ) → Intake → Outlet → ToolStatus → Type 0
ToolsEnd words i o s = ToolEnds (ToolSays (tool_line words) i) o s
