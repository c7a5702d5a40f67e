use Rattle.std.proofs.Common.{sym, ◌∙◌}
use Rattle.map_laws.proofs.MapLaws.{rising_maps_hold}
use Rattle.map_laws.proofs.maps_rise.Goals as goal

pub returns-clause-law : goal.returns-clause-law
returns-clause-law c is j run = rising_maps_hold c.args.events (sym c.versions_have_one_map.ensures.covered ∙ is) j run
