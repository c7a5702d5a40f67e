-- What is printed of a scenario, and what that text is read as.
use Rattle.std.specs.Prelude.{◌≡◌, ◌≤◌, ℤ, pos, negsuc, Bool, true, nat_le, length, Ok, IsTrue}
use Rattle.std.specs.List.{list_all}
use Rattle.ignite_types.specs.Good.{good}
use Rattle.ignite_types.specs.declared.scenario.Command.TheVariants.{Add}
use Rattle.ignite_types.specs.declared.scenario.Item.{Item}
use Rattle.ignite_types.specs.declared.scenario.Item.TheVariants.{Plain, Incr}
use Rattle.ignite_types.specs.declared.scenario.Scenario.{Scenario}
use Rattle.scen_print.specs.Printing.{scenario_text}
use Rattle.scen_text.specs.Reading.{scenario_of}

-- an integer of 64 bits
abbrev pub is_long : ℤ → Bool
is_long (pos n) = nat_le n 9223372036854775807
is_long (negsuc n) = nat_le n 9223372036854775807

abbrev pub has_long : Item → Bool
has_long (Plain (Add key number)) = is_long number
has_long (Incr key number) = is_long number
has_long _ = true

-- the integers that are added have 64 bits, as in every scenario that a program holds: the definition of a good scenario
-- does not look at them
abbrev pub has_longs : Scenario → Bool
has_longs s = list_all (λ session. list_all has_long session.commands) s.sessions

-- the canonical text of a good scenario, if a text may be so long, is read as that scenario
abbrev pub ReadsBack : Type 0
ReadsBack =
    (s : Scenario) → IsTrue (good s) → IsTrue (has_longs s) → length (scenario_text s) ≤ 1048576 →
    scenario_of (scenario_text s) ≡ Ok s
