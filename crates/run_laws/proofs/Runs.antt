-- What stays in one event stays in every run.
use Rattle.std.proofs.Common.{List, [], ◌∷◌, refl}
use Rattle.act_rows.specs.NewNodes.{opening_map_of}
use Rattle.ignite_types.specs.declared.journal.Group.{Group}
use Rattle.ignite_types.specs.declared.names.NodeId.{NodeId}
use Rattle.ignite_types.specs.declared.placement.PartMap.{PartMap}
use Rattle.ignite_types.specs.declared.scenario.Scenario.{Scenario}
use Rattle.run_laws.specs.Staying.{ClocksAgree, InTime, Runs}
use Rattle.run_laws.proofs.Staying.{Keeps, event_keeps, itself, twice}
use Rattle.tx_model.specs.Opening.{ids_of, opening, opening_parts}
use Rattle.tx_model.specs.Runs.{world_after}
use Rattle.tx_model.specs.World.{World, outcome}

keeps : (w : World) (gs : List Group) → Keeps w (world_after w gs)
keeps w [] = itself w
keeps w (g ∷ gs) = let w2 = (outcome w g.event).world in twice w w2 (world_after w2 gs) (event_keeps w g.event) (keeps w2 gs)

pub runs : (w : World) (gs : List Group) → Runs w gs
runs w gs = let kept = keeps w gs in record { stays = kept.stays; in_time = kept.in_time }

opening_in_time : (scenario : Scenario) (m : PartMap) (ids : List NodeId) → InTime 0 (opening_parts scenario m ids)
opening_in_time scenario m [] = tt
opening_in_time scenario m (id ∷ ids) = (λ alive. refl, opening_in_time scenario m ids)

pub clocks_agree : (scenario : Scenario) (gs : List Group) → ClocksAgree scenario gs
clocks_agree scenario gs =
    (keeps (opening scenario) gs).in_time (opening_in_time scenario (opening_map_of scenario) (ids_of scenario))
