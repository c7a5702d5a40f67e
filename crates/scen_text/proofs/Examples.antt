-- Texts by way of example, and what the definitions make of them.
use Rattle.std.proofs.Common.{◌≡◌, ℕ, Bool, List, [], ◌∷◌, true, false, refl, pos, negsuc}
use Rattle.std.specs.Prelude.{codes, Ok, Err}
use Rattle.std.specs.Char.{encode_utf8}
use Rattle.std.specs.Fmt.{digits}
use Rattle.std.specs.Str.{is_utf8, chars}
use Rattle.std.specs.Str.Lines.{lines}
use Rattle.ignite_types.specs.declared.scenario.Cache.{Cache}
use Rattle.ignite_types.specs.declared.scenario.Member.{Member}
use Rattle.ignite_types.specs.declared.scenario.Mode.TheVariants.{Optimistic}
use Rattle.ignite_types.specs.declared.scenario.Command.TheVariants as command
use Rattle.ignite_types.specs.declared.scenario.Item.TheVariants.{Plain, Incr, Next}
use Rattle.ignite_types.specs.declared.scenario.PlanStep.{PlanStep}
use Rattle.ignite_types.specs.declared.scenario.Scenario.{Scenario}
use Rattle.ignite_types.specs.declared.scenario.Step.{Step}
use Rattle.ignite_types.specs.declared.scenario.Step.TheVariants as step
use Rattle.scen_text.specs.declared.cause.Cause.TheVariants.{Syntax, Limit, NoSuchNode}
use Rattle.scen_text.specs.declared.cause.What.TheVariants as what
use Rattle.scen_text.specs.Causes.{refusal_text}
use Rattle.scen_print.specs.Printing.{scenario_text}
use Rattle.scen_text.specs.Reading.{scenario_of}
use Rattle.scen_text.specs.Words.{integer, number_of_word, words}

two_lines : lines (codes "a\r\n\nb\r") ≡ codes "a" ∷ [] ∷ codes "b\r" ∷ []
two_lines = refl

three_words : words (codes "  put a   1 ") ≡ codes "put" ∷ codes "a" ∷ codes "1" ∷ []
three_words = refl

leading_zeros : number_of_word (codes "007") ≡ Ok 7
leading_zeros = refl

eight_digits : number_of_word (codes "00000001") ≡ Err Syntax
eight_digits = refl

negative_zero : integer (codes "-0") ≡ Err Syntax
negative_zero = refl

least : integer (codes "-9223372036854775808") ≡ Ok (negsuc 9223372036854775807)
least = refl

most : integer (codes "9223372036854775808") ≡ Err Syntax
most = refl

refused : refusal_text 12 (Limit what.Key) ≡ codes "refused line 12: limit key\n"
unfolding digits
refused = refl

abbrev member : ℕ → Bool → Member
member n server = record { node = record { 0 = n }; server = server }

abbrev at : ℕ → Step → PlanStep
at moment s = record { moment = moment; step = s }

abbrev first : Scenario
first = record {
  format = 1;
  caches = record { name = codes "default"; parts = 64; backups = 1; near = 0; first = true; «data» = false } ∷ [];
  nodes = member 1 true ∷ member 9 false ∷ [];
  plan = at 5 (step.Hold (record { 0 = 1 }) (record { 0 = 2 })) ∷ at 20 (step.Join (member 2 true)) ∷ [];
  sessions = record {
    name = codes "A";
    node = record { 0 = 2 };
    commands =
        Plain (command.Begin Optimistic 0)
        ∷ Plain (command.Put (record { cache = 0; text = codes "a" }) (codes "1"))
        ∷ Plain (command.Add (record { cache = 0; text = codes "b" }) (negsuc 4))
        ∷ Plain command.Commit ∷ [];
  } ∷ [];
}

-- what is printed is read again
first_again : scenario_of (scenario_text first) ≡ Ok first
unfolding digits is_utf8 chars encode_utf8
first_again = refl

abbrev cache : List ℕ → Bool → Bool → Cache
cache name first is_data = record { name = name; parts = 8; backups = 0; near = 0; first = first; «data» = is_data }

abbrev second : Scenario
second = record {
  format = 2;
  caches = cache (codes "c") true false ∷ cache (codes "d") true true ∷ cache (codes "e") false false ∷ [];
  nodes = member 1 true ∷ [];
  plan = at 1 (step.Start 2) ∷ at 9 (step.Stop 2) ∷ [];
  sessions = record {
    name = codes "A";
    node = record { 0 = 1 };
    commands =
        Incr (record { cache = 1; text = codes "n" }) (pos 5)
        ∷ Next (record { cache = 1; text = codes "s" })
        ∷ Plain (command.Get (record { cache = 2; text = codes "k.1" })) ∷ [];
  } ∷ [];
}

second_again : scenario_of (scenario_text second) ≡ Ok second
unfolding digits is_utf8 chars encode_utf8
second_again = refl

-- a word past its limit comes before a moment that falls, and a node may be named by a later line
limit_first : scenario_of (codes "scenario 1\nserver 1\nplan 5 lose 1\nplan 4 lose 100\n")
    ≡ Err (record { line = 4; cause = Limit what.Plan })
unfolding is_utf8 chars encode_utf8
limit_first = refl

no_node : scenario_of (codes "scenario 1\nserver 1\nplan 5 lose 2\n") ≡ Err (record { line = 3; cause = NoSuchNode })
unfolding is_utf8 chars encode_utf8
no_node = refl
