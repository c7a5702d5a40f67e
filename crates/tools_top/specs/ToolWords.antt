-- What the words of the command line ask for. The program's name is none of them.
use Rattle.std.specs.Prelude.{List, [], ◌∷◌, Option, Some, None, bytes_eq, codes, if◌then◌else◌, ℕ}
use Rattle.tools_top.specs.declared.words.Tool.{Tool}
use Rattle.tools_top.specs.declared.words.Tool.TheVariants as tool

-- the tool, or none where the words are no command line
abbrev pub tool_line : List (List ℕ) → Option Tool
tool_line (word ∷ []) = if bytes_eq word (codes "audit") then Some tool.Audit else None
tool_line _ = None
