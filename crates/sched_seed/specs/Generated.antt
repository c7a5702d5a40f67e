-- The generated scenario of a seed: five servers and a client, of which server 5 joins and server 2 is lost, and sessions whose
-- transactions move amounts between keys.
use Rattle.std.specs.Prelude.{ℕ, zero, suc, ◌+◌, ◌%◌, codes, true, false, slice_index, List, [], ◌∷◌}
use Rattle.ignite_types.specs.declared.names.NodeId.{NodeId}
use Rattle.ignite_types.specs.declared.scenario.Cache.{Cache}
use Rattle.ignite_types.specs.declared.scenario.Member.{Member}
use Rattle.ignite_types.specs.declared.scenario.PlanStep.{PlanStep}
use Rattle.ignite_types.specs.declared.scenario.Scenario.{Scenario}
use Rattle.ignite_types.specs.declared.scenario.Session.{Session}
use Rattle.ignite_types.specs.declared.scenario.Step.TheVariants.{Join, Lose}
use Rattle.rand_pcg.specs.Lcg.{Lcg}
use Rattle.sched_seed.specs.Transactions.{after_script, numbered, script}
use Rattle.sched_seed.specs.Words.{generator}

abbrev pub generated_node : ℕ → NodeId
generated_node number = record { 0 = number }

abbrev pub generated_server : ℕ → Member
generated_server number = record { node = generated_node number; server = true }

abbrev pub generated_client : ℕ → Member
generated_client number = record { node = generated_node number; server = false }

abbrev pub caches : List Cache
caches = record { name = codes "default"; parts = 64; backups = 1; near = 16; first = true; «data» = false } ∷ []

abbrev pub nodes : List Member
nodes = generated_server 1 ∷ generated_server 2 ∷ generated_server 3 ∷ generated_server 4 ∷ generated_client 9 ∷ []

abbrev pub plan : List PlanStep
plan = record { moment = 20; step = Join (generated_server 5) } ∷ record { moment = 60; step = Lose (generated_node 2) } ∷ []

-- the node of session number `place` + 1
abbrev pub home : ℕ → NodeId
home place = generated_node (slice_index (1 ∷ 3 ∷ 4 ∷ 9 ∷ []) (place % 4))

-- session number `place` + 1
abbrev pub generated_session : ℕ → ℕ → Lcg → Session
generated_session place txs g = record { name = numbered 83 (place + 1); node = home place; commands = script txs g }

-- so many sessions from this place on, the words of each after those of the ones before it
abbrev pub sessions_from : ℕ → ℕ → ℕ → Lcg → List Session
sessions_from place zero txs g = []
sessions_from place (suc more) txs g = generated_session place txs g ∷ sessions_from (place + 1) more txs (after_script txs g)

-- The scenario of so many sessions of so many transactions each. All words are drawn from stream 7 of the seed.
abbrev pub generated : ℕ → ℕ → ℕ → Scenario
generated seed sessions txs =
    record {
      format = 1;
      caches = caches;
      nodes = nodes;
      plan = plan;
      sessions =
          sessions_from 0 sessions txs (generator seed 7);
    }
