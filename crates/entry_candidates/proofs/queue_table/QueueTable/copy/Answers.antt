use Rattle.std.proofs.Common.{[], ◌∙◌}
use Rattle.ignite_types.proofs.NameLaws.{key_total}
use Rattle.ignite_types.specs.Names.{key_cmp}
use Rattle.entry_candidates.proofs.Reading.{read_copied}
use Rattle.entry_candidates.proofs.queue_table.QueueTable.copy.Goals as goal

pub loop-key-preserved : goal.loop-key-preserved
loop-key-preserved c =
    let up = rw c.self.view_is at c.len-count.ensures.ascending in
    let keys = c.as_slice-key-items.ensures ∙ rw c.self.view_is at c.in_ok-keys.ensures in
    let more = read_copied key_cmp key_total c.args.self.now _ c.loop-key.key-index c.key-item.result [] up keys
    c.loop-key-test.true c.key-item.is in
    rw (c.in_ok-set.ensures.ok, c.in_ok-from_slice.ensures, c.queue.ensures, c.loop-key.invariant) more
