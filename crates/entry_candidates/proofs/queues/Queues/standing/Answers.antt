use Rattle.entry_candidates.proofs.Members.{standing_are}
use Rattle.entry_candidates.proofs.queues.Queues.standing.Goals as goal

pub returns : goal.returns
returns c = rw (← c.self.view_is, ← standing_are c.self.inside.queues c.self.inside.places c.self.invariant) c.txs.ensures
