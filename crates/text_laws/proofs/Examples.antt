-- A scenario that the law speaks of, and what its text is.
use Rattle.std.proofs.Common.{◌≡◌, ℕ, Bool, List, [], ◌∷◌, true, false, refl, negsuc, length}
use Rattle.std.specs.Prelude.{codes, Ok}
use Rattle.std.specs.Fmt.{digits}
use Rattle.std.proofs.lemmas.Bool.{leb-true}
use Rattle.ignite_types.specs.Good.{good}
use Rattle.ignite_types.specs.declared.scenario.Cache.{Cache}
use Rattle.ignite_types.specs.declared.scenario.Command.TheVariants as command
use Rattle.ignite_types.specs.declared.scenario.Item.TheVariants.{Plain, Next}
use Rattle.ignite_types.specs.declared.scenario.Member.{Member}
use Rattle.ignite_types.specs.declared.scenario.PlanStep.{PlanStep}
use Rattle.ignite_types.specs.declared.scenario.Scenario.{Scenario}
use Rattle.ignite_types.specs.declared.scenario.Step.{Step}
use Rattle.ignite_types.specs.declared.scenario.Step.TheVariants as step
use Rattle.scen_print.specs.Printing.{scenario_text}
use Rattle.scen_text.specs.Reading.{scenario_of}
use Rattle.text_laws.proofs.Lines.{all_lines}
use Rattle.text_laws.specs.RoundTrip.{has_longs}
use Rattle.text_laws.proofs.Split.{text_of}
use Rattle.text_laws.proofs.Whole.{reads_back}

abbrev member : ℕ → Bool → Member
member n server = record { node = record { 0 = n }; server = server }

abbrev at : ℕ → Step → PlanStep
at moment s = record { moment = moment; step = s }

abbrev cache : List ℕ → Bool → Bool → Cache
cache name first is_data = record { name = name; parts = 4; backups = 1; near = 0; first = first; «data» = is_data }

abbrev small : Scenario
small = record {
  format = 2;
  caches = cache (codes "c") true false ∷ cache (codes "d") true true ∷ cache (codes "e") false false ∷ [];
  nodes = member 1 true ∷ [];
  plan = at 3 (step.Start 2) ∷ at 3 (step.Join (member 20 false)) ∷ at 9 (step.Stop 2) ∷ [];
  sessions = record {
    name = codes "A";
    node = record { 0 = 20 };
    commands = Next (record { cache = 1; text = codes "s" }) ∷ Plain (command.Add (record { cache = 2; text = codes "k.1" })
        (negsuc 4)) ∷ [];
  } ∷ [];
}

small_text : scenario_text small
    ≡ codes "scenario 2\ncache c 4 1 0\ndata d 4 1 0\nserver 1\nplan 3 start e 4 1 0\nplan 3 join 20 client\nplan 9 stop e\nsession A 20\nnext d/s\nadd e/k.1 -5\nend\n"
unfolding digits
small_text = refl

same_text : text_of (all_lines small) ≡ scenario_text small
unfolding digits
same_text = refl

small_good : good small ≡ true
small_good = refl

small_longs : has_longs small ≡ true
small_longs = refl

-- the law at this scenario
small_again : scenario_of (scenario_text small) ≡ Ok small
unfolding digits
small_again = reads_back small small_good small_longs (leb-true (length (scenario_text small)) 1048576 refl)
