use Rattle.std.proofs.Common.{◌≡◌, length}
use Rattle.sched_seed.specs.Picks.{picker_at}
use Rattle.sim_top.specs.Drive.{Follows}
use Rattle.sim_top.proofs.drive.drive.Given as goal

abbrev pub invariant-loop-done : goal.invariant-loop-done
invariant-loop-done l = record {
  follows : Follows l.fn.options.seed l.world;
  scenario : l.world.scenario ≡ l.fn.world.scenario;
  count : length l.world.past ≡ l._done;
  picked : l.picker ≡ picker_at l.fn.options.seed l._done;
}
