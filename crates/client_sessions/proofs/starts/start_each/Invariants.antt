use Rattle.std.proofs.Common.{drop, ◌≡◌}
use Rattle.act_rows.specs.Starts.{after_start_each}
use Rattle.client_sessions.proofs.starts.start_each.Given as goal

abbrev pub invariant-loop-session : goal.invariant-loop-session
invariant-loop-session l = after_start_each l.node (drop l.session-index l.sessions) ≡ after_start_each l.initial.node
    l.sessions
