use Rattle.std.proofs.Common.{sym, ◌∙◌}
use Rattle.entry_candidates.proofs.Calls.{last_released, next_is, next_placed, released_indexed}
use Rattle.entry_candidates.proofs.queues.Queues.release.Goals as goal

pub settle-requires-in-Some : goal.settle-requires-in-Some
settle-requires-in-Some c =
    let owner = sym c.is_owner.ensures ∙ c.if-not-is_owner.false in
    let first = rw c.leave.ensures at (sym c.owner.ensures ∙ c.in-Some.is) in
    λ _. rw c.settle.ensures (next_placed c.self.inside.queues c.self.inside.places c.args.tx c.in-Some.next c.args.key.now
    c.self.invariant owner first)

pub invariant_of-self : goal.invariant_of-self
invariant_of-self c =
    let owner = sym c.is_owner.ensures ∙ c.if-not-is_owner.false in
    let first = rw c.leave.ensures at (sym c.owner.ensures ∙ c.in-Some.is) in
    rw (c.settle-in-Some.ensures, c.place-place.ensures, c.settle.ensures, c.leave.ensures)
    (released_indexed c.self.inside.queues c.self.inside.places c.args.tx c.in-Some.next c.args.key.now c.self.invariant owner
    first)

pub invariant_of-self-in-None : goal.invariant_of-self-in-None
invariant_of-self-in-None c =
    let owner = sym c.is_owner.ensures ∙ c.if-not-is_owner.false in
    let first = rw c.leave.ensures at (sym c.owner.ensures ∙ c.in-None.is) in
    rw (c.settle.ensures, c.leave.ensures)
    (last_released c.self.inside.queues c.self.inside.places c.args.tx c.args.key.now c.self.invariant owner first)

pub returns-in-Some-clause-next : goal.returns-in-Some-clause-next
returns-in-Some-clause-next c =
    let owner = sym c.is_owner.ensures ∙ c.if-not-is_owner.false in
    let first = rw c.leave.ensures at (sym c.owner.ensures ∙ c.in-Some.is) in
    rw (← c.self.view_is) (sym first ∙ next_is c.self.inside.queues c.self.inside.places c.args.tx c.args.key.now
    c.self.invariant owner)

pub returns-in-None-clause-next : goal.returns-in-None-clause-next
returns-in-None-clause-next c =
    let owner = sym c.is_owner.ensures ∙ c.if-not-is_owner.false in
    let first = rw c.leave.ensures at (sym c.owner.ensures ∙ c.in-None.is) in
    rw (← c.self.view_is) (sym first ∙ next_is c.self.inside.queues c.self.inside.places c.args.tx c.args.key.now
    c.self.invariant owner)
