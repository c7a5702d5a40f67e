use Rattle.std.proofs.Common.{sym, ◌∙◌}
use Rattle.map_laws.proofs.MapLaws.{highest_bases_hold}
use Rattle.map_laws.proofs.maps_rest_on_highest.Goals as goal

pub returns-clause-law : goal.returns-clause-law
returns-clause-law c is j run = highest_bases_hold c.args.events (sym c.maps_are_next_maps.ensures.covered ∙ is) j run
