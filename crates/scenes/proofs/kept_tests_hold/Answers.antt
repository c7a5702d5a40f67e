use Rattle.std.proofs.Common.{sym, ◌∙◌}
use Rattle.scenes.proofs.EachRun.{test_holds}
use Rattle.scenes.proofs.kept_tests_hold.Goals as goal

pub returns-clause-law : goal.returns-clause-law
returns-clause-law c is test j kept run = test_holds c.args.events (sym c.scenes_are_sound.ensures.covered ∙ is) j run test kept
