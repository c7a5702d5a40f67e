use Rattle.std.proofs.Common.{◌≡◌, ◌++◌, drop, map, ℕ}
use Rattle.ignite_types.specs.declared.journal.Event.TheVariants as event
use Rattle.ignite_types.specs.declared.names.NodeId.{NodeId}
use Rattle.tx_model.specs.World.{open_txs, possible_of, txs_of_sessions}
use Rattle.world_core.proofs.world.World.add_expiries.Given as goal

abbrev pub invariant-loop-session : goal.invariant-loop-session
invariant-loop-session l =
    l.events ++ possible_of l.self.now
    (map event.Expire (txs_of_sessions l.self.now
    (map (λ (home : ℕ × NodeId). home.0) (drop l.session-index l.session-items))))
    ≡ l.initial.events ++ possible_of l.self.now (map event.Expire (open_txs l.self.now))
