use Rattle.std.proofs.Common.{◌≡◌, ◌++◌, drop, map, ℕ}
use Rattle.ignite_types.specs.declared.journal.Event.TheVariants as event
use Rattle.ignite_types.specs.declared.names.NodeId.{NodeId}
use Rattle.tx_model.specs.World.{possible_of}
use Rattle.world_core.proofs.world.World.add_answers.Given as goal

abbrev pub invariant-loop-session : goal.invariant-loop-session
invariant-loop-session l =
    l.events ++ possible_of l.self.now
    (map event.Answer (map (λ (home : ℕ × NodeId). home.0) (drop l.session-index l.session-items)))
    ≡ l.initial.events ++ possible_of l.self.now (map event.Answer (map (λ (home : ℕ × NodeId). home.0) l.session-items))
