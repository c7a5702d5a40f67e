use Rattle.std.proofs.Common.{◌∙◌, ◌≡◌, ◌+◌, ◌-◌, ◌^◌, min, arith}
use Rattle.partition_store.proofs.Batches.{batch_is, last_is}
use Rattle.partition_store.proofs.store.Store.supply_batch.Goals as goal

pub returns-clause-entries : goal.returns-clause-entries
returns-clause-entries c =
    let room : c.saturating_add.result ≡ min (min c.args.most c.len-count.result + 1) (2 ^ 64 - 1) = omega arith in
    rw (← c.self.view_is) (c.in_ok-entries.ensures
    ∙ rw c.min-shown.ensures (batch_is c.self.inside.entries c.as_slice-values.result.now c.args.after c.args.most
    c.len-count.result c.saturating_add.result c.len-count.ensures.len (omega (arith, c.len-count.type_inv)) room
    (c.as_slice-values.ensures.value ∙ c.in_ok-first.ensures)))

pub returns-clause-last : goal.returns-clause-last
returns-clause-last c =
    let room : c.saturating_add.result ≡ min (min c.args.most c.len-count.result + 1) (2 ^ 64 - 1) = omega arith in
    rw (← c.self.view_is) (last_is c.self.inside.entries c.as_slice-values.result.now c.args.after c.args.most
    c.len-count.result c.saturating_add.result c.len-count.ensures.len (omega (arith, c.len-count.type_inv)) room
    (c.as_slice-values.ensures.value ∙ c.in_ok-first.ensures))
