use Rattle.std.proofs.Common.{◌≡◌, drop}
use Rattle.report_text.specs.Histories.{caches_of, running_in}
use Rattle.report_text.proofs.history.caches_of.Given as goal

abbrev pub invariant-loop-event : goal.invariant-loop-event
invariant-loop-event l =
    running_in l.top l.version l.running (drop l.event-index l.events)
    ≡ caches_of l.scenario l.events l.top
