use Rattle.std.proofs.Common.{drop, ◌≡◌}
use Rattle.part_model.specs.Links.{without_messages_of_each}
use Rattle.part_model.specs.Tables.{keys_in}
use Rattle.link_memory.proofs.inbox.Inbox.empty_each.Given as goal

-- the senders stay, and those that are left are still to be emptied
abbrev pub invariant-loop-place : goal.invariant-loop-place
invariant-loop-place l =
    (keys_in l.self.links ≡ keys_in l.initial.self.links)
    × (without_messages_of_each l.self (drop l.place (keys_in l.initial.self.links)) ≡ without_messages_of_each l.initial.self
    (keys_in l.initial.self.links))
