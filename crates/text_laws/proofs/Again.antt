-- What a program reads of what it printed.
use Rattle.std.proofs.Common.{◌≡◌, ℕ, ◌≤◌, true, List, length, ap, ◌∙◌, subst}
use Rattle.std.specs.Prelude.{Result, Ok, Err}
use Rattle.ignite_types.specs.Good.{good}
use Rattle.ignite_types.specs.declared.scenario.Scenario.{Scenario}
use Rattle.scen_text.specs.declared.cause.Cause.{Cause}
use Rattle.scen_text.specs.declared.cause.ReadFault.{ReadFault}
use Rattle.scen_text.specs.declared.cause.ReadFault.TheVariants.{Refused}
use Rattle.scen_text.specs.Causes.{Reads}
use Rattle.scen_print.specs.Printing.{scenario_text}
use Rattle.scen_text.specs.Reading.{scenario_of}
use Rattle.text_laws.specs.RoundTrip.{has_longs}
use Rattle.text_laws.proofs.Whole.{reads_back}

pub said : (s : Scenario) (bytes : List ℕ) → good s ≡ true → has_longs s ≡ true → length bytes ≤ 1048576 →
    bytes ≡ scenario_text s → scenario_of bytes ≡ Ok s
said s bytes g l few e = ap scenario_of e ∙ reads_back s g l (subst (λ text. length text ≤ 1048576) e few)

pub same_again : (s again : Scenario) (bytes : List ℕ) → scenario_of bytes ≡ Ok s → Reads (Ok again) (scenario_of bytes) →
    again ≡ s
same_again s again bytes h r = cc

pub never_refused : (s : Scenario) (bytes : List ℕ) (r : Result Scenario ReadFault) (line : ℕ) (cause : Cause) →
    scenario_of bytes ≡ Ok s → r ≡ Err (Refused line cause) → Reads r (scenario_of bytes) → ⊥
never_refused s bytes r line cause h e reads =
    let refused = subst (λ x. Reads x (scenario_of bytes)) e reads in
    cc
