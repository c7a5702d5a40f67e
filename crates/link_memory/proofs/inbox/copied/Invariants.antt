use Rattle.std.proofs.Common.{◌≡◌, take}
use Rattle.link_memory.proofs.inbox.copied.Given as goal

-- the copy holds the links so far
abbrev pub invariant-loop-sender : goal.invariant-loop-sender
invariant-loop-sender l = l.copy ≡ take l.sender-index l.sender-items
