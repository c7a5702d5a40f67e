use Rattle.ignite_types.specs.Names.{key_cmp}
use Rattle.ordered_table.specs.Places.{IsAscending}
use Rattle.session_scripts.proofs.Copies.{copied_more}
use Rattle.session_scripts.proofs.ranges.copied.Goals as goal

pub loop-object-preserved : goal.loop-object-preserved
loop-object-preserved c =
    let ascending : IsAscending key_cmp c.as_slice-object-items.result.now =
    rw c.as_slice-object-items.ensures.value c.as_slice-object-items.ensures.ascending in
    let more = copied_more c.as_slice-object-items.result.now c.loop-object.object-index c.loop-object-item.result ascending
    c.loop-object-test.true in
    cc (more, c.in_ok-set.ensures.ok, c.loop-object-item.is, c.loop-object.invariant)
