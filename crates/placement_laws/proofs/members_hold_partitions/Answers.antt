use Rattle.std.proofs.Common.{sym, ◌∙◌}
use Rattle.placement_laws.proofs.PlacementLaws.{members_hold}
use Rattle.placement_laws.proofs.members_hold_partitions.Goals as goal

pub returns-clause-law : goal.returns-clause-law
returns-clause-law c is j run = members_hold c.args.events (sym c.stopped_caches_have_no_owner.ensures.covered ∙ is) j run
