use Rattle.std.proofs.Common.{sym, ◌∙◌}
use Rattle.transaction_laws.proofs.TransactionLaws.{commits_stand_or_lost_holds}
use Rattle.transaction_laws.proofs.commits_stand_unless_lost.Goals as goal

pub returns-clause-law : goal.returns-clause-law
returns-clause-law c is j run = commits_stand_or_lost_holds c.args.events (sym c.others_decide_after_loss.ensures.covered
    ∙ is) j run
