use Rattle.std.proofs.Common.{sym, ◌∙◌}
use Rattle.scenes.proofs.EachRun.{view_test_holds}
use Rattle.scenes.proofs.kept_view_tests_hold.Goals as goal

pub returns-clause-law : goal.returns-clause-law
returns-clause-law c is test j kept run = view_test_holds c.args.events (sym c.kept_tests_hold.ensures.covered
    ∙ is) j run test kept
