use Rattle.std.proofs.Common.{◌≡◌, drop, map, ℕ}
use Rattle.std.specs.List.{list_all}
use Rattle.ignite_types.specs.declared.names.NodeId.{NodeId}
use Rattle.tx_model.specs.World.{all_sessions_over, is_session_over}
use Rattle.world_core.proofs.world.World.all_over.Given as goal

abbrev pub invariant-loop-session : goal.invariant-loop-session
invariant-loop-session l =
    list_all (is_session_over l.self.now) (map (λ (home : ℕ × NodeId). home.0) (drop l.session-index l.session-items))
    ≡ all_sessions_over l.self.now
