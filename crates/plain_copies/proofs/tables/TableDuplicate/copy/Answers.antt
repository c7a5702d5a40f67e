use Rattle.ordered_table.proofs.Copies.{copied_more}
use Rattle.ordered_table.specs.Places.{IsAscending}
use Rattle.plain_copies.proofs.tables.TableDuplicate.copy.Goals as goal

pub loop-key-preserved : goal.loop-key-preserved
loop-key-preserved g c =
    let ascending : IsAscending g.K.Ord.cmp c.as_slice-key-items.result.now =
    rw c.as_slice-key-items.ensures.value c.as_slice-key-items.ensures.ascending in
    let more = copied_more g.K.Ord.cmp g.met.K.Ord.total c.as_slice-key-items.result.now c.loop-key.key-index
    c.loop-key-item.result ascending c.loop-key-test.true in
    rw (c.in_ok-set.ensures.ok, c.in_ok-copy.ensures, c.loop-key.invariant) (cc (more, c.loop-key-item.is))
