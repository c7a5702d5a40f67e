use Rattle.std.proofs.Common.{sym, ◌∙◌}
use Rattle.scenes.proofs.EachRun.{lost_stay}
use Rattle.scenes.proofs.lost_nodes_stay.Goals as goal

pub returns-clause-law : goal.returns-clause-law
returns-clause-law c is j k n run lost = lost_stay c.args.events (sym c.kept_view_tests_hold.ensures.covered
    ∙ is) j run k n lost
