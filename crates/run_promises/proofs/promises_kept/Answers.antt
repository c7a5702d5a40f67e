use Rattle.std.proofs.Common.{sym, ◌∙◌}
use Rattle.run_promises.proofs.RunPromises.{promises_hold}
use Rattle.run_promises.proofs.promises_kept.Goals as goal

pub returns-clause-law : goal.returns-clause-law
returns-clause-law c is j run = promises_hold c.args.events (sym c.names_rise.ensures.covered ∙ is) j run
