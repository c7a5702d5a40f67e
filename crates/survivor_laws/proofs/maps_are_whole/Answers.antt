use Rattle.std.proofs.Common.{sym, ◌∙◌}
use Rattle.survivor_laws.proofs.MapsWhole.{maps_hold}
use Rattle.survivor_laws.proofs.maps_are_whole.Goals as goal

pub returns-clause-law : goal.returns-clause-law
returns-clause-law c is j run = maps_hold c.args.events (sym c.live_owners_are_left.ensures.covered ∙ is) j run
