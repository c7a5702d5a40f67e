use Rattle.std.proofs.Common.{◌≡◌, ◌++◌, drop, map, ℕ}
use Rattle.ignite_types.specs.declared.names.NodeId.{NodeId}
use Rattle.tx_model.specs.Outlooks.{standing_of}
use Rattle.tx_model.specs.World.{sessions}
use Rattle.world_core.proofs.world.World.standings.Given as goal

abbrev pub invariant-loop-session : goal.invariant-loop-session
invariant-loop-session l =
    l.standings ++ map (standing_of l.self.now) (map (λ (home : ℕ × NodeId). home.0) (drop l.session-index l.session-items))
    ≡ map (standing_of l.self.now) (sessions l.self.now)
