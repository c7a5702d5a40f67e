use Rattle.std.proofs.Common.{sym, ◌∙◌}
use Rattle.placement_laws.proofs.PlacementLaws.{bare_holds}
use Rattle.placement_laws.proofs.stopped_caches_have_no_owner.Goals as goal

pub returns-clause-law : goal.returns-clause-law
returns-clause-law c is j run = bare_holds c.args.events (sym c.maps_are_next_maps.ensures.covered ∙ is) j run
