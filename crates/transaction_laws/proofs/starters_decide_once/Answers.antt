use Rattle.std.proofs.Common.{sym, ◌∙◌}
use Rattle.transaction_laws.proofs.TransactionLaws.{decided_once_holds}
use Rattle.transaction_laws.proofs.starters_decide_once.Goals as goal

pub returns-clause-law : goal.returns-clause-law
returns-clause-law c is j run = decided_once_holds c.args.events (sym c.events_are_told.ensures.covered ∙ is) j run
