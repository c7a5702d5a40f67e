use Rattle.ignite_types.specs.Names.{node_cmp}
use Rattle.link_memory.proofs.LinkLaws.{copied_more}
use Rattle.link_memory.proofs.inbox.copied.Goals as goal
use Rattle.ordered_table.specs.Places.{IsAscending}

pub loop-sender-preserved : goal.loop-sender-preserved
loop-sender-preserved c =
    let ascending : IsAscending node_cmp c.as_slice-sender-items.result.now =
    rw c.as_slice-sender-items.ensures.value c.as_slice-sender-items.ensures.ascending in
    let more = copied_more c.as_slice-sender-items.result.now c.loop-sender.sender-index c.loop-sender-item.result ascending
    c.loop-sender-test.true in
    rw (c.in_ok-set.ensures.ok, c.in_ok-copy.ensures, c.loop-sender.invariant) (cc (more, c.loop-sender-item.is))
