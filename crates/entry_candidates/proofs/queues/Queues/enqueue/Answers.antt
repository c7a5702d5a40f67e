use Rattle.std.proofs.Common.{◌∙◌}
use Rattle.entry_candidates.proofs.Calls.{enqueued_indexed, taken_back_one}
use Rattle.entry_candidates.proofs.queues.Queues.enqueue.Goals as goal

pub invariant_of-self-in-Ok : goal.invariant_of-self-in-Ok
invariant_of-self-in-Ok c =
    rw (c.in_ok-push.ensures.ok, c.in-Ok.ensures.ok, c.is_some.ensures, c.owner-owner.ensures)
    (enqueued_indexed c.self.inside.queues c.self.inside.places c.args.key c.args.tx c.self.invariant)

pub invariant_of-self-in-Err : goal.invariant_of-self-in-Err
invariant_of-self-in-Err c =
    rw (
      c.pop-tx.ensures.rest,
      c.in_ok-push.ensures.ok,
      c.in-Err.ensures.err,
      taken_back_one c.self.inside.queues c.args.key c.args.tx c.self.invariant.queues_tidy,
    )
    c.self.invariant

pub returns-in-Err-clause-err : goal.returns-in-Err-clause-err
returns-in-Err-clause-err c =
    rw (c.pop-tx.ensures.rest, c.in_ok-push.ensures.ok)
    (taken_back_one c.self.inside.queues c.args.key c.args.tx c.self.invariant.queues_tidy ∙ c.self.view_is)
