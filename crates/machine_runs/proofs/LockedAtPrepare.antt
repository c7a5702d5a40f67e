-- A holds a key's lock. B, which is optimistic, reads and writes the key without waiting; its prepare finds the lock, and B is
-- rolled back while A still sleeps.
use Rattle.std.proofs.Common.{[], Ok, false, refl, true, ◌∷◌, ◌≡◌}
use Rattle.ignite_types.specs.declared.scenario.Scenario.{Scenario}
use Rattle.machine_runs.specs.Driver.{Shown, laws_hold, shown}
use Rattle.machine_runs.specs.Words.{begin, begin_optimistic, commit, commit_entry, get, locked, map_pair, none, numbered_server, ok, pair_of, put_item, scenario, session_on, sleep, told_committed, tx, version}

abbrev locked_at_prepare : Scenario
locked_at_prepare = scenario 1024 0 (numbered_server 1 ∷ []) []
    (session_on "A" 1 (begin ∷ put_item "a" "1" ∷ sleep 10 ∷ commit ∷ [])
    ∷ session_on "B" 1 (sleep 5 ∷ begin_optimistic ∷ get "a" ∷ put_item "a" "2" ∷ commit ∷ [])
    ∷ [])

abbrev comes_to : Shown
comes_to = record {
  events = 44;
  ended = true;
  answers =
      (ok ∷ ok ∷ ok ∷ told_committed ∷ [])
      ∷ (ok ∷ ok ∷ none ∷ ok ∷ locked "a" (tx 1 1 1) ∷ [])
      ∷ [];
  decided = (tx 1 2 1, false) ∷ (tx 1 1 1, true) ∷ [];
  history = commit_entry (tx 1 1 1) (version 1 0) [] (pair_of "a" "1" ∷ []) ∷ [];
  left = Ok (map_pair "a" "1" ∷ []);
}

the_prepare_finds_the_lock : shown locked_at_prepare ≡ comes_to
the_prepare_finds_the_lock = refl

the_laws_hold : laws_hold locked_at_prepare ≡ true
the_laws_hold = refl
