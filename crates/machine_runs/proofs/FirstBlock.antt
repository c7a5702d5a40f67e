-- One server. A session begins a transaction, puts a value, commits, and reads the value afterwards.
use Rattle.std.proofs.Common.{[], Ok, refl, true, ◌∷◌, ◌≡◌}
use Rattle.ignite_types.specs.declared.scenario.Scenario.{Scenario}
use Rattle.machine_runs.specs.Driver.{Shown, laws_hold, shown}
use Rattle.machine_runs.specs.Words.{begin, commit, commit_entry, found_value, get, map_pair, numbered_server, ok, pair_of, put_item, scenario, session_on, told_committed, tx, version}

abbrev first_block : Scenario
first_block = scenario 1024 0 (numbered_server 1 ∷ []) []
    (session_on "A" 1 (begin ∷ put_item "a" "1" ∷ commit ∷ get "a" ∷ []) ∷ [])

abbrev comes_to : Shown
comes_to = record {
  events = 32;
  ended = true;
  answers = (ok ∷ ok ∷ told_committed ∷ found_value "1" ∷ []) ∷ [];
  decided = (tx 1 1 1, true) ∷ (tx 1 1 2, true) ∷ [];
  history =
      commit_entry (tx 1 1 1) (version 1 0) [] (pair_of "a" "1" ∷ [])
      ∷ commit_entry (tx 1 1 2) (version 1 0) (pair_of "a" "1" ∷ []) []
      ∷ [];
  left = Ok (map_pair "a" "1" ∷ []);
}

the_value_is_read : shown first_block ≡ comes_to
the_value_is_read = refl

the_laws_hold : laws_hold first_block ≡ true
the_laws_hold = refl
