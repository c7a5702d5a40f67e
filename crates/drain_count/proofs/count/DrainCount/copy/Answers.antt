use Rattle.std.proofs.Common.{◌∙◌}
use Rattle.ignite_types.specs.Names.{top_cmp}
use Rattle.ordered_table.specs.Places.{IsAscending}
use Rattle.drain_count.proofs.Copies.{copied_more}
use Rattle.drain_count.proofs.count.DrainCount.copy.Goals as goal

pub loop-top-preserved : goal.loop-top-preserved
loop-top-preserved c =
    let ascending : IsAscending top_cmp c.as_slice-top-items.result.now =
    rw c.as_slice-top-items.ensures.value c.as_slice-top-items.ensures.ascending in
    let more = copied_more c.as_slice-top-items.result.now c.loop-top.top-index
    (record { 0 = record { major = 0; minor = 0 }; 1 = 0 }) ascending c.loop-top-test.true in
    c.in_ok-set.ensures.ok ∙ rw c.loop-top.invariant more
