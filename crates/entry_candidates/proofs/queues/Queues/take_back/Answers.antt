use Rattle.std.proofs.Common.{arith, ◌∙◌}
use Rattle.entry_candidates.proofs.Calls.{taken_more}
use Rattle.entry_candidates.proofs.queues.Queues.take_back.Goals as goal

pub loop-place-preserved : goal.loop-place-preserved
loop-place-preserved c =
    let more = taken_more c.loop-place.self c.args.keys.now c.loop-place.place c.index-keys-place.result
    c.loop-place-test.true c.loop-place.invariant.within c.index-keys-place.is in
    record {
      within = omega arith;
      back = rw c.take_last.ensures (more ∙ c.loop-place.invariant.back);
    }
