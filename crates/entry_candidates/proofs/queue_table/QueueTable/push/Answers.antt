use Rattle.std.proofs.Common.{◌≡◌}
use Rattle.std.proofs.lemmas.Result.{on_err_weaker}
use Rattle.entry_candidates.proofs.Named.{queue_aside}
use Rattle.entry_candidates.proofs.queue_table.QueueTable.push.Goals as goal

pub returns-in-Some-clause-err : goal.returns-in-Some-clause-err
returns-in-Some-clause-err c =
    let back = queue_aside _ _ c.args.key.now c.in-Some.queue c.in-Some.ensures in
    let seen = rw (← c.self.view_is) at back in
    on_err_weaker c.push-pushed.result (λ (same : c.push-pushed.new.self ≡ c.in-Some.queue). rw (
      c.replace-vacant.ensures.new,
      same,
    ) seen) c.push-pushed.ensures.err
