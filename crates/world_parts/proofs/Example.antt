-- The parts that the events of a small run touch: a session on node 2 puts a key whose primary is node 1.
use Rattle.std.proofs.Common.{◌≡◌, ◌++◌, List, [], ◌∷◌, map, refl, ℕ}
use Rattle.ignite_types.specs.declared.scenario.Scenario.{Scenario}
use Rattle.machine_runs.specs.Driver.{groups}
use Rattle.machine_runs.specs.Words.{numbered_server, put_item, scenario, session_on}
use Rattle.tx_model.specs.Opening.{opening}
use Rattle.world_parts.specs.Steps.{touches}

abbrev small : Scenario
small = scenario 1 1 (numbered_server 1 ∷ numbered_server 2 ∷ []) [] (session_on "A" 2 (put_item "a" "1" ∷ []) ∷ [])

-- a message goes from a node, 1 or 3, to an inbox, 4 or 2, and from there to its node; then one goes back
abbrev round_trip : List (List ℕ)
round_trip = (2 ∷ 3 ∷ []) ∷ (1 ∷ 2 ∷ []) ∷ (1 ∷ 4 ∷ []) ∷ (3 ∷ 4 ∷ []) ∷ []

-- the Call at node 2, five round trips, and the Answer, which counts in the directory
the_parts_touched : map (touches small) (groups 100 (opening small)) ≡ ((3 ∷ []) ∷ round_trip) ++ round_trip ++ round_trip
    ++ round_trip ++ round_trip ++ (0 ∷ 3 ∷ []) ∷ []
the_parts_touched = refl
