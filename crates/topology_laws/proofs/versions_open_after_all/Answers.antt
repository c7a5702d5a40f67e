use Rattle.std.proofs.Common.{sym, ◌∙◌}
use Rattle.topology_laws.proofs.Laws.{opens_after_all_holds}
use Rattle.topology_laws.proofs.versions_open_after_all.Goals as goal

pub returns-clause-law : goal.returns-clause-law
returns-clause-law c is j run = opens_after_all_holds c.args.events (sym c.versions_open_once.ensures.covered ∙ is) j run
