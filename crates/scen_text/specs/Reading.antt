-- What a text means: its lines in their order.
use Rattle.std.specs.Prelude.{ℕ, ◌+◌, nat_lt, List, [], ◌∷◌, length, flat_map, Result, Ok, Err, if◌then◌else◌}
use Rattle.std.specs.Str.Lines.{lines}
use Rattle.ignite_types.specs.declared.limits.TheConstants.{TEXT_BYTES}
use Rattle.ignite_types.specs.declared.names.NodeId.{NodeId}
use Rattle.ignite_types.specs.declared.scenario.Scenario.{Scenario}
use Rattle.scen_text.specs.declared.cause.Cause.{Cause}
use Rattle.scen_text.specs.declared.cause.Cause.TheVariants.{TooLong}
use Rattle.scen_text.specs.declared.draft.Draft.{Draft}
use Rattle.scen_text.specs.declared.line.Line.{Line}
use Rattle.scen_text.specs.declared.line.Line.TheVariants as line
use Rattle.scen_text.specs.Causes.{Refusal}
use Rattle.scen_text.specs.Drafts.{empty, finished, line_taken}
use Rattle.scen_text.specs.Meaning.{line_meant}

-- the node that a line or a join step names, whatever else is wrong with it
abbrev pub named_by : Result Line Cause → List NodeId
named_by (Ok (line.Member member)) = member.node ∷ []
named_by (Ok (line.Join moment member)) = member.node ∷ []
named_by _ = []

-- the nodes that the lines name
abbrev pub named_in : List (List ℕ) → List NodeId
named_in text = flat_map (λ bytes. named_by (line_meant 1 bytes)) text

-- what was found at this line, or its refusal there
abbrev pub at_line : {A : Type 0} → ℕ → Result A Cause → Result A Refusal
at_line n (Ok x) = Ok x
at_line n (Err cause) = Err (record { line = n; cause = cause })

abbrev pub and_then : {A B : Type 0} → Result A Refusal → (A → Result B Refusal) → Result B Refusal
and_then (Ok x) next = next x
and_then (Err refusal) next = Err refusal

-- the lines from line n on, one after the other, and then the end of the text, which is one line more
abbrev pub read_lines : ℕ → Draft → List (List ℕ) → Result Scenario Refusal
read_lines n draft [] = at_line n (finished draft)
read_lines n draft (bytes ∷ rest) = and_then (at_line n (line_taken draft bytes)) (λ next. read_lines (n + 1) next rest)

-- the scenario that the lines are
abbrev pub read_text : List (List ℕ) → Result Scenario Refusal
read_text text = read_lines 1 (empty (named_in text)) text

-- the scenario that the bytes are, or why they are none
abbrev pub scenario_of : List ℕ → Result Scenario Refusal
scenario_of bytes =
    if nat_lt TEXT_BYTES (length bytes) then Err (record { line = 0; cause = TooLong }) else read_text (lines bytes)
