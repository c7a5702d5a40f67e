use Rattle.std.proofs.Common.{sym, ◌∙◌}
use Rattle.entry_candidates.proofs.Calls.{dropped_indexed, none_dropped, waiter_placed}
use Rattle.entry_candidates.proofs.queues.Queues.drop_waiting.Goals as goal

pub returns-then-not-waits-clause-queues : goal.returns-then-not-waits-clause-queues
returns-then-not-waits-clause-queues c =
    let none = sym c.waits.ensures ∙ c.if-not-waits.true in
    rw (← c.self.view_is) (none_dropped c.self.inside.queues c.self.inside.places c.args.tx c.args.key.now c.self.invariant
    none)

pub settle-requires : goal.settle-requires
settle-requires c =
    let waits = sym c.waits.ensures ∙ c.if-not-waits.false in
    λ _. waiter_placed c.self.inside.queues c.self.inside.places c.args.tx c.args.key.now c.self.invariant waits

pub invariant_of-self : goal.invariant_of-self
invariant_of-self c =
    rw (c.settle.ensures, c.place-kept.ensures, c.drop_waiter.ensures)
    (dropped_indexed c.self.inside.queues c.self.inside.places c.args.tx c.args.key.now c.self.invariant)
