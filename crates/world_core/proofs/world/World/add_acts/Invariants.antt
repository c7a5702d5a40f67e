use Rattle.std.proofs.Common.{◌≡◌, ◌++◌, drop, map}
use Rattle.tx_model.specs.World.{Part, node_ids, possible_acts}
use Rattle.world_core.proofs.world.World.add_acts.Given as goal

abbrev pub invariant-loop-part : goal.invariant-loop-part
invariant-loop-part l =
    l.events ++ possible_acts l.self.now (node_ids l.self.now) (map (λ (p : Part). p.node.me) (drop l.part-index l.part-items))
    ≡ l.initial.events ++ possible_acts l.self.now (node_ids l.self.now) (node_ids l.self.now)
