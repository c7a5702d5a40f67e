use Rattle.std.proofs.Common.{drop, ◌++◌, ◌≡◌}
use Rattle.part_model.specs.Tables.{keys_in}
use Rattle.client_sessions.proofs.starts.sessions_of.Given as goal

abbrev pub invariant-loop-session : goal.invariant-loop-session
invariant-loop-session l = l.sessions ++ keys_in (drop l.session-index l.session-items) ≡ keys_in l.session-items
