use Rattle.std.proofs.Common.{sym, ◌∙◌}
use Rattle.transaction_laws.proofs.TransactionLaws.{started_once_holds}
use Rattle.transaction_laws.proofs.transactions_start_once.Goals as goal

pub returns-clause-law : goal.returns-clause-law
returns-clause-law c is j run = started_once_holds c.args.events (sym c.commits_stand_without_losses.ensures.covered ∙ is) j run
