-- A reads a key twice in one transaction; between the reads B writes it. The write waits for A's lock until A has committed, so
-- both reads find nothing, and B comes second in the history.
use Rattle.std.proofs.Common.{[], Ok, refl, true, ◌∷◌, ◌≡◌}
use Rattle.ignite_types.specs.declared.scenario.Scenario.{Scenario}
use Rattle.machine_runs.specs.Driver.{Shown, laws_hold, shown, shown_at}
use Rattle.machine_runs.specs.Words.{absent, begin, commit, commit_entry, get, map_pair, none, numbered_server, ok, pair_of, put_item, scenario, session_on, sleep, told_committed, tx, version}

abbrev blocked_writer : Scenario
blocked_writer = scenario 1024 0 (numbered_server 1 ∷ []) []
    (session_on "A" 1 (begin ∷ get "a" ∷ sleep 10 ∷ get "a" ∷ commit ∷ [])
    ∷ session_on "B" 1 (sleep 5 ∷ put_item "a" "2" ∷ [])
    ∷ [])

abbrev comes_to : Shown
comes_to = record {
  events = 40;
  ended = true;
  answers = (ok ∷ none ∷ ok ∷ none ∷ told_committed ∷ []) ∷ (ok ∷ ok ∷ []) ∷ [];
  decided = (tx 1 1 1, true) ∷ (tx 1 2 1, true) ∷ [];
  history =
      commit_entry (tx 1 1 1) (version 1 0) (absent "a" ∷ []) []
      ∷ commit_entry (tx 1 2 1) (version 1 0) [] (pair_of "a" "2" ∷ [])
      ∷ [];
  left = Ok (map_pair "a" "2" ∷ []);
}

the_write_waits : shown blocked_writer ≡ comes_to
the_write_waits = refl

-- also where B gives its first command before A
the_write_waits_again : shown_at (1 ∷ []) blocked_writer ≡ comes_to
the_write_waits_again = refl

the_laws_hold : laws_hold blocked_writer ≡ true
the_laws_hold = refl
