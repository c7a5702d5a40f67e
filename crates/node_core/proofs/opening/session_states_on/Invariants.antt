use Rattle.std.proofs.Common.{[], drop, ◌≡◌}
use Rattle.act_rows.specs.NewNodes.{session_states_on}
use Rattle.node_core.proofs.opening.session_states_on.Given as goal

abbrev pub invariant-loop-session : goal.invariant-loop-session
invariant-loop-session l = session_states_on l.id l.number l.session_states (drop l.session-index l.sessions)
    ≡ session_states_on l.id 1 [] l.sessions
