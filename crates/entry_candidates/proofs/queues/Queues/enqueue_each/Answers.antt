use Rattle.std.proofs.Common.{ap, subst, sym, take, ◌∙◌}
use Rattle.part_model.specs.Queues.{Queues, queues_with}
use Rattle.ignite_types.specs.Names.{key_cmp}
use Rattle.entry_candidates.proofs.Calls.{all_taken_back, enqueued_more}
use Rattle.entry_candidates.specs.Placing.{IsTidy}
use Rattle.entry_candidates.proofs.queues.Queues.enqueue_each.Goals as goal

pub loop-place-preserved : goal.loop-place-preserved
loop-place-preserved c =
    c.in-Ok.ensures.queues
    ∙ ap (λ (q : Queues). queues_with q c.args.tx c.index-keys-place.result) c.loop-place.invariant
    ∙ sym (enqueued_more c.args.self.now c.args.keys.now c.loop-place.place c.index-keys-place.result c.args.tx
    c.loop-place-test.true c.index-keys-place.is)

pub returns-in-Err-clause-err : goal.returns-in-Err-clause-err
returns-in-Err-clause-err c =
    let tidy = subst (λ (q : Queues). IsTidy key_cmp q) c.self.view_is c.self.invariant.queues_tidy in
    rw (c.take_back.ensures, c.in-Err.ensures.err, c.loop-place.invariant)
    (all_taken_back c.args.self.now (take c.loop-place.place c.args.keys.now) c.args.tx tidy)
