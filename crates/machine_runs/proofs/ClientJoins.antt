-- A client joins while A's transaction is open. The version of the join opens only once A has committed at the version before,
-- and B, which calls between both, waits until then. C reads on the new client.
use Rattle.std.proofs.Common.{[], Ok, refl, true, ◌∷◌, ◌≡◌}
use Rattle.ignite_types.specs.declared.scenario.Scenario.{Scenario}
use Rattle.machine_runs.specs.Driver.{Shown, laws_hold, shown}
use Rattle.machine_runs.specs.Words.{begin, commit, commit_entry, found_value, from_moment, get, join, map_pair, numbered_client, numbered_server, ok, pair_of, put_item, scenario, session_on, sleep, told_committed, tx, version}

abbrev client_joins : Scenario
client_joins = scenario 1024 0 (numbered_server 1 ∷ []) (from_moment 10 (join (numbered_client 3)) ∷ [])
    (session_on "A" 1 (begin ∷ put_item "a" "1" ∷ sleep 20 ∷ commit ∷ [])
    ∷ session_on "B" 1 (sleep 15 ∷ get "a" ∷ [])
    ∷ session_on "C" 3 (sleep 30 ∷ get "a" ∷ [])
    ∷ [])

abbrev comes_to : Shown
comes_to = record {
  events = 68;
  ended = true;
  answers = (ok ∷ ok ∷ ok ∷ told_committed ∷ []) ∷ (ok ∷ found_value "1" ∷ []) ∷ (ok ∷ found_value "1" ∷ []) ∷ [];
  decided = (tx 1 1 1, true) ∷ (tx 1 2 1, true) ∷ (tx 3 3 1, true) ∷ [];
  history =
      commit_entry (tx 1 1 1) (version 1 0) [] (pair_of "a" "1" ∷ [])
      ∷ commit_entry (tx 1 2 1) (version 2 0) (pair_of "a" "1" ∷ []) []
      ∷ commit_entry (tx 3 3 1) (version 2 0) (pair_of "a" "1" ∷ []) []
      ∷ [];
  left = Ok (map_pair "a" "1" ∷ []);
}

the_version_waits : shown client_joins ≡ comes_to
the_version_waits = refl

the_laws_hold : laws_hold client_joins ≡ true
the_laws_hold = refl
