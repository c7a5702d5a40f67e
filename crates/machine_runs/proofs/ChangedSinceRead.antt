-- Two optimistic transactions read the same value. B commits a new one while A sleeps; A's prepare finds that the entry has
-- another version than the one that A read, and A is rolled back.
use Rattle.std.proofs.Common.{[], Ok, false, refl, true, ◌∷◌, ◌≡◌}
use Rattle.ignite_types.specs.declared.scenario.Scenario.{Scenario}
use Rattle.machine_runs.specs.Driver.{Shown, laws_hold, shown}
use Rattle.machine_runs.specs.Words.{begin_optimistic, commit, commit_entry, found_value, get, map_pair, numbered_server, ok, pair_of, put_item, scenario, session_on, sleep, told_changed, told_committed, tx, version}

abbrev changed_since_read : Scenario
changed_since_read = scenario 1024 0 (numbered_server 1 ∷ []) []
    (session_on "A" 1 (put_item "a" "0" ∷ begin_optimistic ∷ get "a" ∷ sleep 10 ∷ put_item "a" "2" ∷ commit ∷ [])
    ∷ session_on "B" 1 (sleep 5 ∷ begin_optimistic ∷ get "a" ∷ put_item "a" "1" ∷ commit ∷ [])
    ∷ [])

abbrev comes_to : Shown
comes_to = record {
  events = 60;
  ended = true;
  answers =
      (ok ∷ ok ∷ found_value "0" ∷ ok ∷ ok ∷ told_changed "a" 1 2 ∷ [])
      ∷ (ok ∷ ok ∷ found_value "0" ∷ ok ∷ told_committed ∷ [])
      ∷ [];
  decided = (tx 1 1 1, true) ∷ (tx 1 2 1, true) ∷ (tx 1 1 2, false) ∷ [];
  history =
      commit_entry (tx 1 1 1) (version 1 0) [] (pair_of "a" "0" ∷ [])
      ∷ commit_entry (tx 1 2 1) (version 1 0) (pair_of "a" "0" ∷ []) (pair_of "a" "1" ∷ [])
      ∷ [];
  left = Ok (map_pair "a" "1" ∷ []);
}

the_version_has_changed : shown changed_since_read ≡ comes_to
the_version_has_changed = refl

the_laws_hold : laws_hold changed_since_read ≡ true
the_laws_hold = refl
