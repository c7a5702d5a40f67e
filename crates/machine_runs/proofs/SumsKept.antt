-- A moves 3 from one key to the other, and B moves 5 at the same time. B's first sum waits for A's lock and is made of A's sum.
use Rattle.std.proofs.Common.{[], Ok, refl, true, ◌∷◌, ◌≡◌}
use Rattle.std.specs.Fmt.{digits}
use Rattle.ignite_types.specs.declared.scenario.Scenario.{Scenario}
use Rattle.machine_runs.specs.Driver.{Shown, laws_hold, shown}
use Rattle.machine_runs.specs.Words.{begin, commit, commit_entry, found_value, give, map_pair, numbered_server, ok, pair_of, put_item, scenario, session_on, sleep, take, told_committed, tx, version}

abbrev sums_kept : Scenario
sums_kept = scenario 1024 0 (numbered_server 1 ∷ []) []
    (session_on "A" 1
    (put_item "a" "10" ∷ put_item "b" "0" ∷ sleep 5 ∷ begin ∷ take "a" 3 ∷ sleep 5 ∷ give "b" 3 ∷ commit ∷ [])
    ∷ session_on "B" 1 (sleep 5 ∷ begin ∷ take "a" 5 ∷ give "b" 5 ∷ commit ∷ [])
    ∷ [])

abbrev comes_to : Shown
comes_to = record {
  events = 84;
  ended = true;
  answers =
      (ok ∷ ok ∷ ok ∷ ok ∷ found_value "7" ∷ ok ∷ found_value "3" ∷ told_committed ∷ [])
      ∷ (ok ∷ ok ∷ found_value "2" ∷ found_value "8" ∷ told_committed ∷ [])
      ∷ [];
  decided = (tx 1 1 1, true) ∷ (tx 1 1 2, true) ∷ (tx 1 1 3, true) ∷ (tx 1 2 1, true) ∷ [];
  history =
      commit_entry (tx 1 1 1) (version 1 0) [] (pair_of "a" "10" ∷ [])
      ∷ commit_entry (tx 1 1 2) (version 1 0) [] (pair_of "b" "0" ∷ [])
      ∷ commit_entry (tx 1 1 3) (version 1 0)
      (pair_of "a" "10" ∷ pair_of "b" "0" ∷ [])
      (pair_of "a" "7" ∷ pair_of "b" "3" ∷ [])
      ∷ commit_entry (tx 1 2 1) (version 1 0)
      (pair_of "a" "7" ∷ pair_of "b" "3" ∷ [])
      (pair_of "a" "2" ∷ pair_of "b" "8" ∷ [])
      ∷ [];
  left = Ok (map_pair "a" "2" ∷ map_pair "b" "8" ∷ []);
}

the_sum_is_ten : shown sums_kept ≡ comes_to
unfolding digits
the_sum_is_ten = refl

the_laws_hold : laws_hold sums_kept ≡ true
unfolding digits
the_laws_hold = refl
