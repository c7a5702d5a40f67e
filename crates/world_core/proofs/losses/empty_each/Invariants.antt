use Rattle.std.proofs.Common.{◌≡◌, ◌++◌, drop, take}
use Rattle.tx_model.specs.World.{inboxes_emptied}
use Rattle.world_core.proofs.losses.empty_each.Given as goal

abbrev pub invariant-loop-inbox : goal.invariant-loop-inbox
invariant-loop-inbox l = take l.inbox-index l.inbox-items ++ inboxes_emptied l.id (drop l.inbox-index l.inbox-items)
    ≡ inboxes_emptied l.id l.fn.inboxes.items
