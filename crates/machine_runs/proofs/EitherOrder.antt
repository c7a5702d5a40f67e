-- Two sessions write one key at the same moment. Who calls first is first in the history, and the other one's value is left.
use Rattle.std.proofs.Common.{[], Ok, refl, true, ◌∷◌, ◌≡◌}
use Rattle.ignite_types.specs.declared.scenario.Scenario.{Scenario}
use Rattle.machine_runs.specs.Driver.{Shown, laws_hold, laws_hold_at, shown, shown_at}
use Rattle.machine_runs.specs.Words.{commit_entry, map_pair, numbered_server, ok, pair_of, put_item, scenario, session_on, tx, version}

abbrev either_order : Scenario
either_order = scenario 1024 0 (numbered_server 1 ∷ []) []
    (session_on "A" 1 (put_item "a" "1" ∷ []) ∷ session_on "B" 1 (put_item "a" "2" ∷ []) ∷ [])

abbrev a_first : Shown
a_first = record {
  events = 28;
  ended = true;
  answers = (ok ∷ []) ∷ (ok ∷ []) ∷ [];
  decided = (tx 1 1 1, true) ∷ (tx 1 2 1, true) ∷ [];
  history =
      commit_entry (tx 1 1 1) (version 1 0) [] (pair_of "a" "1" ∷ [])
      ∷ commit_entry (tx 1 2 1) (version 1 0) [] (pair_of "a" "2" ∷ [])
      ∷ [];
  left = Ok (map_pair "a" "2" ∷ []);
}

a_calls_first : shown either_order ≡ a_first
a_calls_first = refl

abbrev b_first : Shown
b_first = record {
  events = 28;
  ended = true;
  answers = (ok ∷ []) ∷ (ok ∷ []) ∷ [];
  decided = (tx 1 2 1, true) ∷ (tx 1 1 1, true) ∷ [];
  history =
      commit_entry (tx 1 2 1) (version 1 0) [] (pair_of "a" "2" ∷ [])
      ∷ commit_entry (tx 1 1 1) (version 1 0) [] (pair_of "a" "1" ∷ [])
      ∷ [];
  left = Ok (map_pair "a" "1" ∷ []);
}

b_calls_first : shown_at (1 ∷ 1 ∷ []) either_order ≡ b_first
b_calls_first = refl

the_laws_hold : laws_hold either_order ≡ true
the_laws_hold = refl

the_laws_hold_too : laws_hold_at (1 ∷ 1 ∷ []) either_order ≡ true
the_laws_hold_too = refl
