use Rattle.std.proofs.Common.{◌≡◌, ℕ, ◌+◌, List, ◌∷◌, arith}
use Rattle.std.specs.Prelude.{Result, Ok}
use Rattle.ignite_types.specs.declared.scenario.Scenario.{Scenario}
use Rattle.scen_text.specs.declared.draft.Draft.{Draft}
use Rattle.scen_text.specs.Causes.{Refusal}
use Rattle.scen_text.specs.Drafts.{line_taken}
use Rattle.scen_text.specs.Reading.{read_lines}
use Rattle.scen_text.proofs.Few.{few_taken}
use Rattle.scen_text.proofs.read.read_text.Goals as goal

-- what the lines mean from one on is what those behind it mean from the next draft on
behind_line : (n : ℕ) (d e : Draft) (text : List (List ℕ)) (line : List ℕ) (rest : List (List ℕ))
    (said : Result Scenario Refusal)
    → text ≡ line ∷ rest → line_taken d line ≡ Ok e → read_lines n d text ≡ said → read_lines (n + 1) e rest ≡ said
behind_line n d e text line rest said is taken h = rw taken at (rw is at h)

pub loop-line-preserved : goal.loop-line-preserved
loop-line-preserved c = record {
  rest = behind_line _ _ _ _ _ _ _ c.in-Some.ensures.lines c.in-Ok-take_line.ensures c.loop-line.invariant.rest;
  few = few_taken _ _ _ c.in-Ok-take_line.ensures c.loop-line.invariant.few;
  small = omega (arith, c.in-Some.ensures.shorter);
}
