use Rattle.std.proofs.Common.{◌≡◌}
use Rattle.std.proofs.lemmas.Result.{on_err_weaker}
use Rattle.entry_candidates.proofs.Named.{table_aside}
use Rattle.entry_candidates.proofs.places.Places.set.Goals as goal

pub returns-in-Some-clause-err : goal.returns-in-Some-clause-err
returns-in-Some-clause-err c =
    let back = table_aside _ _ c.args.tx c.in-Some.table c.in-Some.ensures in
    let seen = rw (← c.self.view_is) at back in
    on_err_weaker c.set-done.result (λ (same : c.set-done.new.self ≡ c.in-Some.table). rw (
      c.replace-vacant.ensures.new,
      same,
    ) seen) c.set-done.ensures.err
