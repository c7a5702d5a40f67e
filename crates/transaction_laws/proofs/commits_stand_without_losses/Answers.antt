use Rattle.std.proofs.Common.{sym, ◌∙◌}
use Rattle.transaction_laws.proofs.TransactionLaws.{commits_stand_holds}
use Rattle.transaction_laws.proofs.commits_stand_without_losses.Goals as goal

pub returns-clause-law : goal.returns-clause-law
returns-clause-law c is j run stays = commits_stand_holds c.args.events (sym c.commits_stand_unless_lost.ensures.covered
    ∙ is) j run stays
