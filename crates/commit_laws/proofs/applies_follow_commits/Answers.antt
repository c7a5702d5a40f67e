use Rattle.std.proofs.Common.{sym, ◌∙◌}
use Rattle.commit_laws.proofs.CommitLaws.{applies_hold}
use Rattle.commit_laws.proofs.applies_follow_commits.Goals as goal

pub returns-clause-law : goal.returns-clause-law
returns-clause-law c is j run = applies_hold c.args.events (sym c.names_rise.ensures.covered ∙ is) j run
