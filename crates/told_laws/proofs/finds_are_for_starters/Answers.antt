use Rattle.std.proofs.Common.{sym, ◌∙◌}
use Rattle.told_laws.proofs.ToldLaws.{finds_reach_holds}
use Rattle.told_laws.proofs.finds_are_for_starters.Goals as goal

pub returns-clause-law : goal.returns-clause-law
returns-clause-law c is j run = finds_reach_holds c.args.events (sym c.requests_are_of_starters.ensures.covered ∙ is) j run
