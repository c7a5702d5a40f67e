use Rattle.std.proofs.Common.{◌≡◌, drop}
use Rattle.act_rows.specs.Searches.{soonest_moment}
use Rattle.tx_model.specs.World.{least_moment, live_moments}
use Rattle.world_core.proofs.world.World.least_moment.Given as goal

abbrev pub invariant-loop-part : goal.invariant-loop-part
invariant-loop-part l =
    soonest_moment l.clock l.best (live_moments (drop l.part-index l.part-items)) ≡ least_moment l.self.now
