-- A, on a client, has a lock at the primary when the primary is lost. Its commit fails, for the lock is gone; at the next
-- version the backup is the primary, and A's next transaction finds nothing.
use Rattle.std.proofs.Common.{[], Ok, false, refl, true, ◌∷◌, ◌≡◌}
use Rattle.ignite_types.specs.declared.scenario.Scenario.{Scenario}
use Rattle.machine_runs.specs.Driver.{Shown, laws_hold, shown}
use Rattle.machine_runs.specs.Words.{absent, begin, commit, commit_entry, from_moment, get, lose, node_lost, none, numbered_client, numbered_server, ok, put_item, scenario, session_on, sleep, tx, version}

abbrev primary_lost : Scenario
primary_lost = scenario 1 1 (numbered_server 1 ∷ numbered_server 2 ∷ numbered_client 9 ∷ []) (from_moment 10 (lose 1) ∷ [])
    (session_on "A" 9 (begin ∷ put_item "a" "1" ∷ sleep 20 ∷ commit ∷ get "a" ∷ []) ∷ [])

abbrev comes_to : Shown
comes_to = record {
  events = 45;
  ended = true;
  answers = (ok ∷ ok ∷ ok ∷ node_lost 1 ∷ none ∷ []) ∷ [];
  decided = (tx 9 1 1, false) ∷ (tx 9 1 2, true) ∷ [];
  history = commit_entry (tx 9 1 2) (version 2 0) (absent "a" ∷ []) [] ∷ [];
  left = Ok [];
}

the_commit_fails : shown primary_lost ≡ comes_to
the_commit_fails = refl

the_laws_hold : laws_hold primary_lost ≡ true
the_laws_hold = refl
