-- A server joins, and its copy is filled from the old owner's. B's transaction holds the lock of one key while the old
-- entries are supplied, and removes the other key after that; its commit goes to the new copy too, and the switch to it waits
-- for the commit.
-- Then the new server is the primary: C finds B's value, and nothing at the removed key.
use Rattle.std.proofs.Common.{[], Ok, refl, true, ◌∷◌, ◌≡◌}
use Rattle.ignite_types.specs.declared.scenario.Scenario.{Scenario}
use Rattle.machine_runs.specs.Driver.{Shown, brought_at, laws_hold, shown}
use Rattle.machine_runs.specs.Words.{absent, begin, commit, commit_entry, found_value, from_moment, get, hold, join, map_pair, none, numbered_server, ok, pair_of, put_item, release, remove, scenario, session_on, sleep, told_committed, tx, version}

abbrev filled_and_removed : Scenario
filled_and_removed = scenario 1 0 (numbered_server 1 ∷ [])
    (from_moment 9 (hold 1 3) ∷ from_moment 10 (join (numbered_server 3)) ∷ from_moment 12 (release 1 3) ∷ [])
    (session_on "A" 1 (put_item "a" "1" ∷ put_item "b" "1" ∷ [])
    ∷ session_on "B" 1 (sleep 11 ∷ begin ∷ put_item "a" "2" ∷ remove "b" ∷ commit ∷ [])
    ∷ session_on "C" 1 (sleep 30 ∷ get "a" ∷ get "b" ∷ [])
    ∷ [])

abbrev comes_to : Shown
comes_to = record {
  events = 130;
  ended = true;
  answers =
      (ok ∷ ok ∷ [])
      ∷ (ok ∷ ok ∷ ok ∷ ok ∷ told_committed ∷ [])
      ∷ (ok ∷ found_value "2" ∷ none ∷ [])
      ∷ [];
  decided =
      (tx 1 1 1, true)
      ∷ (tx 1 1 2, true)
      ∷ (tx 1 2 1, true)
      ∷ (tx 1 3 1, true)
      ∷ (tx 1 3 2, true)
      ∷ [];
  history =
      commit_entry (tx 1 1 1) (version 1 0) [] (pair_of "a" "1" ∷ [])
      ∷ commit_entry (tx 1 1 2) (version 1 0) [] (pair_of "b" "1" ∷ [])
      ∷ commit_entry (tx 1 2 1) (version 2 0) [] (pair_of "a" "2" ∷ absent "b" ∷ [])
      ∷ commit_entry (tx 1 3 1) (version 2 1) (pair_of "a" "2" ∷ []) []
      ∷ commit_entry (tx 1 3 2) (version 2 1) (absent "b" ∷ []) []
      ∷ [];
  left = Ok (map_pair "a" "2" ∷ []);
}

the_removal_stays : shown filled_and_removed ≡ comes_to
the_removal_stays = refl

-- the supply comes before the prepare of the removal
first_the_old_entries : brought_at [] filled_and_removed ≡ pair_of "a" "1" ∷ pair_of "b" "1" ∷ pair_of "a" "2" ∷ absent "b" ∷ []
first_the_old_entries = refl

the_laws_hold : laws_hold filled_and_removed ≡ true
the_laws_hold = refl
