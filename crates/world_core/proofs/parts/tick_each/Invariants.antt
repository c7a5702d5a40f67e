use Rattle.std.proofs.Common.{◌≡◌, ◌++◌, drop, take}
use Rattle.tx_model.specs.World.{parts_at_moment}
use Rattle.world_core.proofs.parts.tick_each.Given as goal

abbrev pub invariant-loop-part : goal.invariant-loop-part
invariant-loop-part l = take l.part-index l.part-items ++ parts_at_moment l.to (drop l.part-index l.part-items)
    ≡ parts_at_moment l.to l.fn.parts.items
