use Rattle.std.proofs.Common.{◌≡◌, ◌++◌, drop}
use Rattle.tx_model.specs.Opening.{opening_inboxes}
use Rattle.world_core.proofs.opening.inboxes_of.Given as goal

abbrev pub invariant-loop-id : goal.invariant-loop-id
invariant-loop-id l = l.inboxes.items ++ opening_inboxes l.senders (drop l._id-index l.ids) ≡ opening_inboxes l.senders l.ids
