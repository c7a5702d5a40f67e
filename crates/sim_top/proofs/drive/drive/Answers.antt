use Rattle.std.proofs.Common.{◌≡◌, true, ◌∙◌}
use Rattle.sim_top.proofs.DriveLaws.{moved, follows_next, next_picker, one_longer, same_scenario}
use Rattle.sim_top.proofs.drive.drive.Goals as goal

pub loop-done-preserved : goal.loop-done-preserved
loop-done-preserved c =
    let more : c.in_ok-advance.field-0 ≡ true = c.if-not-branch.false in
    let step = moved c.loop-done.picker c.advance.new.picker c.in_ok-advance.field-0 _ _ more c.in_ok-advance.ensures.moves in
    record {
      follows = follows_next c.args.options.seed c.loop-done._done c.loop-done.picker _ _ c.loop-done.invariant.picked
          c.loop-done.invariant.count c.loop-done.invariant.follows step.0;
      scenario = same_scenario c.loop-done.picker _ _ step.0 ∙ c.loop-done.invariant.scenario;
      count = one_longer c.loop-done.picker _ _ _ c.loop-done.invariant.count step.0;
      picked = next_picker c.args.options.seed c.loop-done._done c.loop-done.picker _ c.loop-done.invariant.picked step.1;
    }
