use Rattle.std.proofs.Common.{◌≡◌, drop, map}
use Rattle.tx_model.specs.Outlooks.{held_link}
use Rattle.tx_model.specs.World.{Part, node_ids}
use Rattle.world_core.proofs.world.World.held_link.Given as goal

abbrev pub invariant-loop-part : goal.invariant-loop-part
invariant-loop-part l =
    held_link l.self.now (map (λ (p : Part). p.node.me) (drop l.part-index l.part-items)) ≡ held_link l.self.now
    (node_ids l.self.now)
