use Rattle.std.proofs.Common.{sym, ◌∙◌}
use Rattle.survivor_laws.proofs.OwnersLeft.{owners_left_holds}
use Rattle.survivor_laws.proofs.live_owners_are_left.Goals as goal

pub returns-clause-law : goal.returns-clause-law
returns-clause-law c is j run = owners_left_holds c.args.events (sym c.members_hold_partitions.ensures.covered ∙ is) j run
