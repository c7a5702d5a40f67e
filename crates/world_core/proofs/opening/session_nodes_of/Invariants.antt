use Rattle.std.proofs.Common.{◌≡◌, [], drop}
use Rattle.tx_model.specs.Opening.{session_nodes_from}
use Rattle.world_core.proofs.opening.session_nodes_of.Given as goal

abbrev pub invariant-loop-session : goal.invariant-loop-session
invariant-loop-session l = session_nodes_from l.number l.session_nodes (drop l.session-index l.sessions)
    ≡ session_nodes_from 1 [] l.sessions
