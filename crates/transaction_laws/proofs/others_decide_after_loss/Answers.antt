use Rattle.std.proofs.Common.{sym, ◌∙◌}
use Rattle.transaction_laws.proofs.TransactionLaws.{recovered_after_loss_holds}
use Rattle.transaction_laws.proofs.others_decide_after_loss.Goals as goal

pub returns-clause-law : goal.returns-clause-law
returns-clause-law c is j run = recovered_after_loss_holds c.args.events (sym c.starters_decide_once.ensures.covered ∙ is) j run
