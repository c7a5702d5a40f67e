use Rattle.entry_candidates.proofs.Members.{keys_are}
use Rattle.entry_candidates.proofs.queues.Queues.keys_of.Goals as goal

pub returns : goal.returns
returns c =
    rw (← c.self.view_is, ← keys_are c.self.inside.queues c.self.inside.places c.args.tx c.self.invariant) c.keys.ensures
