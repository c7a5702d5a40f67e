use Rattle.std.proofs.Common.{take}
use Rattle.std.specs.Prelude.{IsTrue}
use Rattle.std.specs.List.{list_all}
use Rattle.ignite_types.specs.declared.scenario.Session.{Session}
use Rattle.text_laws.specs.RoundTrip.{has_long}
use Rattle.text_laws.proofs.longs.integers_are_long.Given as goal

abbrev pub invariant-loop-session : goal.invariant-loop-session
invariant-loop-session l =
    IsTrue (list_all (λ (session : Session). list_all has_long session.commands) (take l.session-index l.session-items))
