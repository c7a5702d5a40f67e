use Rattle.std.proofs.Common.{sym, ◌∙◌}
use Rattle.coordinator_laws.proofs.CoordinatorLaws.{one_coordinator_holds}
use Rattle.coordinator_laws.proofs.coordinators_are_one.Goals as goal

pub returns-clause-law : goal.returns-clause-law
returns-clause-law c is j run = one_coordinator_holds c.args.events (sym c.maps_are_next_maps.ensures.covered ∙ is) j run
