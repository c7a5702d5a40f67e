use Rattle.std.proofs.Common.{◌≡◌, ◌++◌, drop, take}
use Rattle.tx_model.specs.World.{parts_after_loss}
use Rattle.world_core.proofs.parts.lose_each.Given as goal

abbrev pub invariant-loop-part : goal.invariant-loop-part
invariant-loop-part l = take l.part-index l.part-items ++ parts_after_loss l.lost (drop l.part-index l.part-items)
    ≡ parts_after_loss l.lost l.fn.parts.items
