use Rattle.placement_laws.proofs.PlacementLaws.{opening_map_holds}
use Rattle.placement_laws.proofs.opening_maps_fit.Goals as goal

pub returns : goal.returns
returns c = record { law = opening_map_holds }
