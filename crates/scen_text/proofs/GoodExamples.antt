-- Scenarios that are good, and some that are not.
use Rattle.std.proofs.Common.{◌≡◌, ℕ, Bool, List, [], ◌∷◌, true, false, refl, pos}
use Rattle.std.specs.Prelude.{codes}
use Rattle.ignite_types.specs.Good.{good}
use Rattle.ignite_types.specs.declared.text.Key.{Key}
use Rattle.ignite_types.specs.declared.scenario.Cache.{Cache}
use Rattle.ignite_types.specs.declared.scenario.Command.TheVariants as command
use Rattle.ignite_types.specs.declared.scenario.Item.{Item}
use Rattle.ignite_types.specs.declared.scenario.Item.TheVariants as item
use Rattle.ignite_types.specs.declared.scenario.Member.{Member}
use Rattle.ignite_types.specs.declared.scenario.Mode.TheVariants.{Optimistic}
use Rattle.ignite_types.specs.declared.scenario.PlanStep.{PlanStep}
use Rattle.ignite_types.specs.declared.scenario.Scenario.{Scenario}
use Rattle.ignite_types.specs.declared.scenario.Session.{Session}
use Rattle.ignite_types.specs.declared.scenario.Step.{Step}
use Rattle.ignite_types.specs.declared.scenario.Step.TheVariants as step

abbrev cache : List ℕ → ℕ → Bool → Bool → Cache
cache name parts first data_line = record {
  name = name;
  parts = parts;
  backups = 1;
  near = 16;
  first = first;
  «data» =
      data_line;
}

abbrev member : ℕ → Bool → Member
member n server = record { node = record { 0 = n }; server = server }

abbrev at : ℕ → Step → PlanStep
at moment s = record { moment = moment; step = s }

abbrev key : ℕ → Key
key n = record { cache = n; text = codes "k1" }

abbrev session : List ℕ → ℕ → List Item → Session
session name n commands = record { name = name; node = record { 0 = n }; commands = commands }

-- caches m, c (a plain one), d (of data) and s (started, then stopped); nodes 1 and 2, and 5 that joins
abbrev rich : List Item → Scenario
rich commands = record {
  format = 2;
  caches = cache (codes "m") 64 true false ∷ cache (codes "c") 8 true false ∷ cache (codes "d") 8 true true
      ∷ cache (codes "s") 944 false false ∷ [];
  nodes = member 1 true ∷ member 2 false ∷ [];
  plan =
      at 1 (step.Hold (record { 0 = 1 }) (record { 0 = 5 }))
      ∷ at 2 (step.Start 3)
      ∷ at 2 (step.Join (member 5 true))
      ∷ at 9 (step.Stop 3)
      ∷ at 10 (step.Stop 1)
      ∷ at 1000000 (step.Lose (record { 0 = 1 })) ∷ [];
  sessions = session (codes "A") 5 commands ∷ session (codes "B") 2 [] ∷ [];
}

abbrev script : List Item
script =
    item.Incr (key 2) (pos 1)
    ∷ item.Plain (command.Begin Optimistic 1000000)
    ∷ item.Plain (command.Put (key 3) (codes "a:/+"))
    ∷ item.Plain command.Rollback
    ∷ item.Incr (key 2) (pos 2)
    ∷ item.Plain (command.Sleep 1) ∷ []

all_kinds : good (rich script) ≡ true
all_kinds = refl

data_in_block : good (rich (item.Plain (command.Begin Optimistic 0) ∷ item.Next (key 2) ∷ [])) ≡ false
data_in_block = refl

two_kinds : good (rich (item.Incr (key 2) (pos 1) ∷ item.Poll (key 2) ∷ [])) ≡ false
two_kinds = refl

plain_on_data : good (rich (item.Plain (command.Get (key 2)) ∷ [])) ≡ false
plain_on_data = refl

data_on_plain : good (rich (item.Next (key 1) ∷ [])) ≡ false
data_on_plain = refl

no_such_cache : good (rich (item.Plain (command.Get (key 4)) ∷ [])) ≡ false
no_such_cache = refl

long_sleep : good (rich (item.Plain (command.Sleep 1000001) ∷ [])) ≡ false
long_sleep = refl

closed : good (rich (item.Plain command.Close ∷ [])) ≡ false
closed = refl

-- the plan of `rich` in place of which another stands
abbrev planned : List PlanStep → Scenario
planned plan = record (rich []) { plan = plan; sessions = [] }

start_and_stop : good (planned (at 1 (step.Start 3) ∷ at 1 (step.Stop 3) ∷ [])) ≡ true
start_and_stop = refl

not_started : good (planned []) ≡ false
not_started = refl

stop_before_start : good (planned (at 1 (step.Stop 3) ∷ at 1 (step.Start 3) ∷ [])) ≡ false
stop_before_start = refl

stop_twice : good (planned (at 1 (step.Start 3) ∷ at 1 (step.Stop 1) ∷ at 1 (step.Stop 1) ∷ [])) ≡ false
stop_twice = refl

stop_first : good (planned (at 1 (step.Start 3) ∷ at 1 (step.Stop 0) ∷ [])) ≡ false
stop_first = refl

stop_data : good (planned (at 1 (step.Start 3) ∷ at 1 (step.Stop 2) ∷ [])) ≡ false
stop_data = refl

moment_falls : good (planned (at 2 (step.Start 3) ∷ at 1 (step.Stop 1) ∷ [])) ≡ false
moment_falls = refl

joins_twice : good (planned (at 2 (step.Start 3) ∷ at 2 (step.Join (member 2 true)) ∷ [])) ≡ false
joins_twice = refl

loses_no_node : good (planned (at 2 (step.Start 3) ∷ at 2 (step.Lose (record { 0 = 9 })) ∷ [])) ≡ false
loses_no_node = refl

too_many_partitions : good (record (planned (at 1 (step.Start 1) ∷ [])) {
  caches =
      cache (codes "m") 1024 true false ∷ cache (codes "s") 1 false false ∷ [];
}) ≡ false
too_many_partitions = refl

data_before_cache : good (record (planned []) {
  caches = cache (codes "d") 1 true true ∷ cache (codes "m") 1 true false
      ∷ [];
}) ≡ false
data_before_cache = refl

no_server : good (record (planned (at 1 (step.Start 3) ∷ [])) { nodes = member 1 false ∷ [] }) ≡ false
no_server = refl

format_1 : good (record (planned []) { format = 1; caches = cache (codes "default") 64 true false ∷ [] }) ≡ true
format_1 = refl

other_name : good (record (planned []) { format = 1; caches = cache (codes "m") 64 true false ∷ [] }) ≡ false
other_name = refl
