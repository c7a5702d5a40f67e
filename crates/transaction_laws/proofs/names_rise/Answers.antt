use Rattle.std.proofs.Common.{sym, ◌∙◌}
use Rattle.transaction_laws.proofs.TransactionLaws.{rising_names_hold}
use Rattle.transaction_laws.proofs.names_rise.Goals as goal

pub returns-clause-law : goal.returns-clause-law
returns-clause-law c is j run = rising_names_hold c.args.events (sym c.transactions_start_once.ensures.covered ∙ is) j run
