-- A node's inbox: for each sender a list of messages, the oldest first, and whether the link is held.
use Rattle.std.specs.Option.{option_and_then}
use Rattle.std.specs.Prelude.{Bool, None, Option, Some, [], drop, false, if◌then◌else◌, slice_get, true, ◌++◌, ◌∷◌}
use Rattle.part_model.specs.NextMap.{map_holders}
use Rattle.part_model.specs.Tables.{keys_in}
use Rattle.ignite_types.specs.Names.{node_cmp}
use Rattle.ignite_types.specs.declared.list.List.{List}
use Rattle.ignite_types.specs.declared.message.Message.{Message}
use Rattle.ignite_types.specs.declared.names.NodeId.{NodeId}
use Rattle.ordered_table.specs.Entries.{at, put}

pub record Link : Type 0 where
  pub held : Bool
  pub messages : List Message

-- links by sender; a closed inbox drops what is pushed
pub record Inbox : Type 0 where
  pub closed : Bool
  pub links : List (NodeId × Link)

abbrev pub with_link : Inbox → NodeId → Link → Inbox
with_link inbox from link = record inbox { links = put node_cmp inbox.links from link }

-- changes the link of a sender, where there is one
abbrev pub on_link : Inbox → NodeId → (Link → Link) → Option Link → Inbox
on_link inbox from f None = inbox
on_link inbox from f (Some link) = with_link inbox from (f link)

abbrev pub link_of : Inbox → NodeId → Option Link
link_of inbox from = at node_cmp inbox.links from

-- an empty link for each of these senders
abbrev pub inbox_from : List (NodeId × Link) → List NodeId → List (NodeId × Link)
inbox_from links [] = links
inbox_from links (from ∷ more) = inbox_from (put node_cmp links from (record { held = false; messages = [] })) more

abbrev pub new_inbox : List NodeId → Inbox
new_inbox senders = record { closed = false; links = inbox_from [] senders }

abbrev pub inbox_after_push : Inbox → NodeId → Message → Inbox
inbox_after_push inbox from m = if inbox.closed then inbox
    else on_link inbox from (λ link. record link { messages = link.messages ++ m ∷ [] }) (link_of inbox from)

abbrev pub oldest_in : Inbox → NodeId → Option Message
oldest_in inbox from = option_and_then (λ link. slice_get link.messages 0) (link_of inbox from)

abbrev pub inbox_after_pop : Inbox → NodeId → Inbox
inbox_after_pop inbox from = on_link inbox from (λ link. record link { messages = drop 1 link.messages }) (link_of inbox from)

abbrev pub is_link_held_by : Option Link → Bool
is_link_held_by None = false
is_link_held_by (Some link) = link.held

abbrev pub is_held : Inbox → NodeId → Bool
is_held inbox from = is_link_held_by (link_of inbox from)

abbrev pub with_hold : Inbox → NodeId → Bool → Inbox
with_hold inbox from map_holders = on_link inbox from (λ link. record link { held = map_holders }) (link_of inbox from)

-- a lost sender's messages are gone
abbrev pub without_messages_of : Inbox → NodeId → Inbox
without_messages_of inbox from = on_link inbox from (λ link. record link { messages = [] }) (link_of inbox from)

abbrev pub without_messages_of_each : Inbox → List NodeId → Inbox
without_messages_of_each inbox [] = inbox
without_messages_of_each inbox (from ∷ more) = without_messages_of_each (without_messages_of inbox from) more

-- the inbox of a lost node: empty and closed
abbrev pub inbox_shut : Inbox → Inbox
inbox_shut inbox = record (without_messages_of_each inbox (keys_in inbox.links)) { closed = true }
