use Rattle.entry_candidates.proofs.Gathered.{edges_are}
use Rattle.entry_candidates.proofs.queues.Queues.edges.Goals as goal

pub returns : goal.returns
returns c =
    let waits = rw c.in_ok-keys.ensures at c.waits_at.ensures in
    rw (← c.self.view_is, ← edges_are c.self.inside.queues c.self.inside.places c.args.of.now c.self.invariant) waits
