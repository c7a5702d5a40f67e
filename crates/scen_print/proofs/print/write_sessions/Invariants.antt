use Rattle.std.proofs.Common.{◌≡◌, ◌++◌, drop}
use Rattle.std.specs.Prelude.{flat_map}
use Rattle.scen_print.specs.Printing.{session_text}
use Rattle.scen_print.proofs.print.write_sessions.Given as goal

abbrev pub invariant-loop-session : goal.invariant-loop-session
invariant-loop-session l = l.out ++ flat_map (session_text l.scenario) (drop l.session-index l.sessions) ≡ l.initial.out
    ++ flat_map (session_text l.scenario) l.sessions
