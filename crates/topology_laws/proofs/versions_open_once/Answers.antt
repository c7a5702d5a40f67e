use Rattle.std.proofs.Common.{sym, ◌∙◌}
use Rattle.topology_laws.proofs.Laws.{opens_once_holds}
use Rattle.topology_laws.proofs.versions_open_once.Goals as goal

pub returns-clause-law : goal.returns-clause-law
returns-clause-law c is j run = opens_once_holds c.args.events (sym c.versions_have_one_map.ensures.covered ∙ is) j run
