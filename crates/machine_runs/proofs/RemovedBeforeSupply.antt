-- A server joins and demands the old owner's entries, but the demand is on a held link. Meanwhile B writes one key and
-- removes the other, and its prepare comes to the new copy first. When the link is released the old owner still supplies what
-- it had before B's commit; the new copy takes both, and has B's value and no removed key when it is the primary, as C finds
-- on it.
use Rattle.std.proofs.Common.{[], Ok, refl, true, ◌∷◌, ◌≡◌}
use Rattle.std.specs.Prelude.{List, ℕ}
use Rattle.ignite_types.specs.declared.scenario.Scenario.{Scenario}
use Rattle.machine_runs.specs.Driver.{Shown, after_firsts, brought_at, laws_hold_at, shown_at}
use Rattle.machine_runs.specs.Words.{absent, begin, commit, commit_entry, found_value, from_moment, get, hold, join, map_pair, none, numbered_server, ok, pair_of, put_item, release, remove, scenario, session_on, sleep, told_committed, tx, version}

abbrev removed_before_supply : Scenario
removed_before_supply = scenario 1 0 (numbered_server 1 ∷ [])
    (from_moment 10 (join (numbered_server 3)) ∷ from_moment 10 (hold 3 1) ∷ from_moment 20 (release 3 1) ∷ [])
    (session_on "A" 1 (put_item "a" "1" ∷ put_item "b" "1" ∷ [])
    ∷ session_on "B" 1 (sleep 11 ∷ begin ∷ put_item "a" "2" ∷ remove "b" ∷ commit ∷ [])
    ∷ session_on "C" 3 (sleep 30 ∷ get "a" ∷ get "b" ∷ [])
    ∷ [])

-- the link is held as soon as the version of the join is open at the old owner
abbrev places : List ℕ
places = after_firsts 40 2

abbrev comes_to : Shown
comes_to = record {
  events = 129;
  ended = true;
  answers =
      (ok ∷ ok ∷ [])
      ∷ (ok ∷ ok ∷ ok ∷ ok ∷ told_committed ∷ [])
      ∷ (ok ∷ found_value "2" ∷ none ∷ [])
      ∷ [];
  decided =
      (tx 1 1 1, true)
      ∷ (tx 1 1 2, true)
      ∷ (tx 1 2 1, true)
      ∷ (tx 3 3 1, true)
      ∷ (tx 3 3 2, true)
      ∷ [];
  history =
      commit_entry (tx 1 1 1) (version 1 0) [] (pair_of "a" "1" ∷ [])
      ∷ commit_entry (tx 1 1 2) (version 1 0) [] (pair_of "b" "1" ∷ [])
      ∷ commit_entry (tx 1 2 1) (version 2 0) [] (pair_of "a" "2" ∷ absent "b" ∷ [])
      ∷ commit_entry (tx 3 3 1) (version 2 1) (pair_of "a" "2" ∷ []) []
      ∷ commit_entry (tx 3 3 2) (version 2 1) (absent "b" ∷ []) []
      ∷ [];
  left = Ok (map_pair "a" "2" ∷ []);
}

the_removal_stays : shown_at places removed_before_supply ≡ comes_to
the_removal_stays = refl

-- the prepare of the removal comes before the supply
last_the_old_entries : brought_at places removed_before_supply ≡ pair_of "a" "2" ∷ absent "b" ∷ pair_of "a" "1"
    ∷ pair_of "b" "1" ∷ []
last_the_old_entries = refl

the_laws_hold : laws_hold_at places removed_before_supply ≡ true
the_laws_hold = refl
