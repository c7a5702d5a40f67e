use Rattle.entry_candidates.proofs.Calls.{last_indexed, last_placed, none_last}
use Rattle.entry_candidates.proofs.queues.Queues.take_last.Goals as goal

pub settle-requires : goal.settle-requires
settle-requires c = λ _. last_placed c.self.inside.queues c.self.inside.places c.args.key.now c.in-Some.tx c.self.invariant
    c.in-Some.ensures.last

pub invariant_of-self : goal.invariant_of-self
invariant_of-self c =
    rw (c.settle.ensures, c.place-place.ensures, c.pop.ensures.rest)
    (last_indexed c.self.inside.queues c.self.inside.places c.args.key.now c.in-Some.tx c.self.invariant c.in-Some.ensures.last)

pub invariant_of-self-in_default : goal.invariant_of-self-in_default
invariant_of-self-in_default c =
    rw (
      c.pop.ensures.rest,
      none_last c.self.inside.queues c.args.key.now c.self.invariant.queues_tidy
          c.in_default.ensures.last,
    )
    c.self.invariant
