use Rattle.entry_candidates.proofs.FirstWaits.{first_wait_is}
use Rattle.entry_candidates.proofs.queues.Queues.first_wait.Goals as goal

pub returns : goal.returns
returns c =
    let found = rw c.table.ensures.value at c.wait_among.ensures in
    rw (← c.self.view_is, ← first_wait_is c.self.inside.queues c.self.inside.places c.args.tx.now c.self.invariant) found
