use Rattle.ignite_types.proofs.NameLaws.{key_total}
use Rattle.ignite_types.specs.Names.{key_cmp}
use Rattle.ordered_table.specs.Places.{IsAscending}
use Rattle.ordered_table.proofs.Copies as copies
use Rattle.commit_history.proofs.copies.table_copied.Goals as goal

pub loop-key-preserved : goal.loop-key-preserved
loop-key-preserved g c =
    let ascending : IsAscending key_cmp c.as_slice-key-items.result.now =
    rw c.as_slice-key-items.ensures.value c.as_slice-key-items.ensures.ascending in
    let more = copies.copied_more key_cmp key_total c.as_slice-key-items.result.now c.loop-key.key-index
    c.loop-key-item.result ascending c.loop-key-test.true in
    cc (more, c.in_ok-set.ensures.ok, c.loop-key-item.is, c.loop-key.invariant)
