use Rattle.std.proofs.Common.{◌≡◌, drop, map}
use Rattle.tx_model.specs.Outlooks.{held_link_from}
use Rattle.tx_model.specs.World.{Part, node_ids}
use Rattle.world_core.proofs.world.World.held_from.Given as goal

abbrev pub invariant-loop-part : goal.invariant-loop-part
invariant-loop-part l =
    held_link_from l.self.now l.from (map (λ (p : Part). p.node.me) (drop l.part-index l.part-items))
    ≡ held_link_from l.self.now l.from (node_ids l.self.now)
