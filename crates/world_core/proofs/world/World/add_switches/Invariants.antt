use Rattle.std.proofs.Common.{◌≡◌, ◌++◌, drop, map}
use Rattle.ignite_types.specs.declared.journal.Event.TheVariants as event
use Rattle.tx_model.specs.World.{Part, possible_of}
use Rattle.world_core.proofs.world.World.add_switches.Given as goal

abbrev pub invariant-loop-part : goal.invariant-loop-part
invariant-loop-part l =
    l.events ++ possible_of l.self.now (map event.Minor (map (λ (p : Part). p.node.me) (drop l.part-index l.part-items)))
    ≡ l.initial.events ++ possible_of l.self.now (map event.Minor (map (λ (p : Part). p.node.me) l.part-items))
