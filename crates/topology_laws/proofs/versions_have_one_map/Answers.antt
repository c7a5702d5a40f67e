use Rattle.std.proofs.Common.{sym, ◌∙◌}
use Rattle.topology_laws.proofs.Laws.{one_map_holds}
use Rattle.topology_laws.proofs.versions_have_one_map.Goals as goal

pub returns-clause-law : goal.returns-clause-law
returns-clause-law c is j run = one_map_holds c.args.events (sym c.kept_tests_hold.ensures.covered ∙ is) j run
