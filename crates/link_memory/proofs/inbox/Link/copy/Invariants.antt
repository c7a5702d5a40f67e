use Rattle.std.proofs.Common.{◌≡◌, ◌++◌}
use Rattle.std.specs.VecDeque.Iter.{deque_iter_rest}
use Rattle.link_memory.proofs.inbox.Link.copy.Given as goal

-- the copy so far, with the messages that are left, is what the link holds
abbrev pub invariant-loop-message : goal.invariant-loop-message
invariant-loop-message l = l.messages.items ++ deque_iter_rest l.message-iterator ≡ l.self.messages
