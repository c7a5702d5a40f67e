-- A, on a client, writes keys of two primaries and commits. The first primary is prepared; the prepare for the second one is
-- on a held link when the client is lost. The servers find that a share is missing and roll A back, and B, which has waited
-- for A's lock, finds nothing.
use Rattle.std.proofs.Common.{[], Ok, false, refl, true, ◌∷◌, ◌≡◌}
use Rattle.ignite_types.specs.declared.scenario.Scenario.{Scenario}
use Rattle.machine_runs.specs.Driver.{Shown, laws_hold, shown}
use Rattle.machine_runs.specs.Words.{absent, begin, commit, commit_entry, from_moment, get, hold, lose, none, numbered_client, numbered_server, ok, put_item, scenario, session_on, sleep, tx, version}

abbrev rollback_recovered : Scenario
rollback_recovered = scenario 2 0 (numbered_server 1 ∷ numbered_server 3 ∷ numbered_client 9 ∷ [])
    (from_moment 5 (hold 9 3) ∷ from_moment 20 (lose 9) ∷ [])
    (session_on "A" 9 (begin ∷ put_item "a" "1" ∷ put_item "b" "2" ∷ sleep 10 ∷ commit ∷ [])
    ∷ session_on "B" 1 (sleep 15 ∷ get "a" ∷ [])
    ∷ [])

abbrev comes_to : Shown
comes_to = record {
  events = 68;
  ended = true;
  answers = (ok ∷ ok ∷ ok ∷ ok ∷ []) ∷ (ok ∷ none ∷ []) ∷ [];
  decided = (tx 9 1 1, false) ∷ (tx 1 2 1, true) ∷ [];
  history = commit_entry (tx 1 2 1) (version 1 0) (absent "a" ∷ []) [] ∷ [];
  left = Ok [];
}

the_servers_roll_back : shown rollback_recovered ≡ comes_to
the_servers_roll_back = refl

the_laws_hold : laws_hold rollback_recovered ≡ true
the_laws_hold = refl
