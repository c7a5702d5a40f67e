use Rattle.std.proofs.Common.{drop, fold, ◌≡◌}
use Rattle.act_rows.specs.Exchange.{after_learn}
use Rattle.partition_exchange.proofs.seeing.learn_each.Given as goal

abbrev pub invariant-loop-event : goal.invariant-loop-event
invariant-loop-event l = fold after_learn l.node (drop l.event-index l.events) ≡ fold after_learn l.initial.node l.events
