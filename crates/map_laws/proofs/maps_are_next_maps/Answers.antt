use Rattle.std.proofs.Common.{sym, ◌∙◌}
use Rattle.map_laws.proofs.MapLaws.{next_maps_hold}
use Rattle.map_laws.proofs.maps_are_next_maps.Goals as goal

pub returns-clause-law : goal.returns-clause-law
returns-clause-law c is j run = next_maps_hold c.args.events (sym c.maps_rise.ensures.covered ∙ is) j run
