use Rattle.partition_store.proofs.Supply.{supplied_more}
use Rattle.partition_store.proofs.store.Store.take_supplied.Goals as goal

pub loop-entry-preserved : goal.loop-entry-preserved
loop-entry-preserved c =
    supplied_more c.args.self.now c.take_one.new.self c.args.entries.now c.loop-entry.entry-index c.entry-item.result
    c.loop-entry-test.true c.entry-item.is (rw c.loop-entry.invariant at c.in_ok-take_one.ensures.ok)
