use Rattle.std.proofs.Common.{sym, ◌∙◌}
use Rattle.told_laws.proofs.ToldLaws.{starters_ask_holds}
use Rattle.told_laws.proofs.requests_are_of_starters.Goals as goal

pub returns-clause-law : goal.returns-clause-law
returns-clause-law c is j run = starters_ask_holds c.args.events (sym c.names_rise.ensures.covered ∙ is) j run
