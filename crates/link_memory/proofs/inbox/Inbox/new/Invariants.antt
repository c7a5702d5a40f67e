use Rattle.std.proofs.Common.{◌≡◌, [], drop}
use Rattle.part_model.specs.Links.{inbox_from}
use Rattle.link_memory.proofs.inbox.Inbox.new.Given as goal

abbrev pub invariant-loop-sender : goal.invariant-loop-sender
invariant-loop-sender l = inbox_from l.links (drop l.sender-index l.senders) ≡ inbox_from [] l.senders
