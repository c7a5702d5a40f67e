-- A and B each lock one key and then want the other's. A has a timeout; when it is reached the search finds the circle of both
-- waits, A is rolled back, and B goes on and commits.
use Rattle.std.proofs.Common.{[], Ok, false, refl, true, ◌∷◌, ◌≡◌}
use Rattle.ignite_types.specs.declared.scenario.Scenario.{Scenario}
use Rattle.machine_runs.specs.Driver.{Shown, circles, laws_hold, shown}
use Rattle.machine_runs.specs.Words.{begin, begin_within, commit, commit_entry, map_pair, numbered_server, ok, pair_of, put_item, scenario, session_on, skipped, sleep, told_committed, told_deadlock, tx, version, waits}

abbrev deadlock_found : Scenario
deadlock_found = scenario 1024 0 (numbered_server 1 ∷ []) []
    (session_on "A" 1 (begin_within 100 ∷ put_item "x" "1" ∷ sleep 10 ∷ put_item "y" "1" ∷ commit ∷ [])
    ∷ session_on "B" 1 (begin ∷ put_item "y" "2" ∷ sleep 10 ∷ put_item "x" "2" ∷ commit ∷ [])
    ∷ [])

abbrev comes_to : Shown
comes_to = record {
  events = 57;
  ended = true;
  answers = (ok ∷ ok ∷ ok ∷ told_deadlock ∷ skipped ∷ []) ∷ (ok ∷ ok ∷ ok ∷ ok ∷ told_committed ∷ []) ∷ [];
  decided = (tx 1 1 1, false) ∷ (tx 1 2 1, true) ∷ [];
  history = commit_entry (tx 1 2 1) (version 1 0) [] (pair_of "x" "2" ∷ pair_of "y" "2" ∷ []) ∷ [];
  left = Ok (map_pair "x" "2" ∷ map_pair "y" "2" ∷ []);
}

one_of_both_commits : shown deadlock_found ≡ comes_to
one_of_both_commits = refl

-- each waits for the other
both_wait : circles deadlock_found ≡ (tx 1 1 1, waits "y" (tx 1 1 1) (tx 1 2 1) ∷ waits "x" (tx 1 2 1) (tx 1 1 1) ∷ []) ∷ []
both_wait = refl

the_laws_hold : laws_hold deadlock_found ≡ true
the_laws_hold = refl
