-- A, on a client, commits. Both shares, at the primary and at its backup, are prepared, but the link that brings the answer is
-- held, and then the client is lost before it decided. The servers find both shares prepared and commit for it; B, which reads
-- at the next version, finds A's value. A has no answer to its commit.
use Rattle.std.proofs.Common.{[], Ok, refl, true, ◌∷◌, ◌≡◌}
use Rattle.ignite_types.specs.declared.scenario.Scenario.{Scenario}
use Rattle.machine_runs.specs.Driver.{Shown, laws_hold, shown}
use Rattle.machine_runs.specs.Words.{begin, commit, commit_entry, found_value, from_moment, get, hold, lose, map_pair, numbered_client, numbered_server, ok, pair_of, put_item, scenario, session_on, sleep, tx, version}

abbrev commit_recovered : Scenario
commit_recovered = scenario 1 1 (numbered_server 1 ∷ numbered_server 2 ∷ numbered_client 9 ∷ [])
    (from_moment 5 (hold 1 9) ∷ from_moment 20 (lose 9) ∷ [])
    (session_on "A" 9 (begin ∷ put_item "a" "1" ∷ sleep 10 ∷ commit ∷ [])
    ∷ session_on "B" 2 (sleep 30 ∷ get "a" ∷ [])
    ∷ [])

abbrev comes_to : Shown
comes_to = record {
  events = 72;
  ended = true;
  answers = (ok ∷ ok ∷ ok ∷ []) ∷ (ok ∷ found_value "1" ∷ []) ∷ [];
  decided = (tx 9 1 1, true) ∷ (tx 2 2 1, true) ∷ [];
  history =
      commit_entry (tx 9 1 1) (version 1 0) [] (pair_of "a" "1" ∷ [])
      ∷ commit_entry (tx 2 2 1) (version 2 0) (pair_of "a" "1" ∷ []) []
      ∷ [];
  left = Ok (map_pair "a" "1" ∷ []);
}

the_servers_commit : shown commit_recovered ≡ comes_to
the_servers_commit = refl

the_laws_hold : laws_hold commit_recovered ≡ true
the_laws_hold = refl
