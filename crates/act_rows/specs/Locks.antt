-- Locks at a primary: the row of Lock, the release of a transaction's places, and the row of Get.
use Rattle.std.specs.Prelude.{Bool, None, Option, Some, [], false, true, ℕ, ◌∷◌}
use Rattle.act_rows.specs.Steps.{installed_top, with_note, with_out}
use Rattle.act_rows.specs.Stores.{found_at}
use Rattle.part_model.specs.NearEntries.{with_reader}
use Rattle.part_model.specs.Queues.{edges_of, keys_queued_for, owner_in, queues_with, queues_without}
use Rattle.ignite_types.specs.Names.{same_tx}
use Rattle.ignite_types.specs.declared.list.List.{List}
use Rattle.ignite_types.specs.declared.message.Wanted.{Wanted}
use Rattle.ignite_types.specs.declared.names.NodeId.{NodeId}
use Rattle.ignite_types.specs.declared.names.TopVer.{TopVer}
use Rattle.ignite_types.specs.declared.names.TxId.{TxId}
use Rattle.ignite_types.specs.declared.text.Key.{Key}
use Rattle.node_state.specs.Node.{NodeState}
use Rattle.ignite_types.specs.declared.message.Message.TheVariants as msg
use Rattle.ignite_types.specs.declared.journal.Rec.TheVariants as note

abbrev pub owner_at : NodeState → Key → Option TxId
owner_at s key = owner_in s.queues key

abbrev pub with_queued : NodeState → TxId → Key → NodeState
with_queued s tx key = record s { queues = queues_with s.queues tx key }

-- notes that the transaction owns the key from now on, and tells its starter what the entry is
abbrev pub after_grant : NodeState → NodeId → TxId → TopVer → Key → NodeState
after_grant s to tx top key = with_out (with_note s (note.Grant tx top key)) to (msg.LockOk tx key (found_at s key))

abbrev pub after_lock_behind : NodeState → NodeId → TxId → TopVer → Key → Option TxId → NodeState
after_lock_behind s from tx top key None = after_grant (with_queued s tx key) from tx top key
after_lock_behind s from tx top key (Some owner) = with_note (with_queued s tx key) (note.Queue tx key owner)

-- Lock: the first at the key owns it and is told so, any other waits
abbrev pub after_lock : NodeState → NodeId → TxId → TopVer → Key → NodeState
after_lock s from tx top key = after_lock_behind s from tx top key (owner_at s key)

abbrev pub after_leave : NodeState → TxId → Key → NodeState
after_leave s tx key = record s { queues = queues_without s.queues tx key }

abbrev pub is_owner : TxId → Option TxId → Bool
is_owner tx None = false
is_owner tx (Some owner) = same_tx tx owner

-- where the owner has left, the first of those who waited becomes the owner
abbrev pub after_pass_on : NodeState → Key → Bool → Option TxId → NodeState
after_pass_on s key true (Some next) = after_grant s next.node next (installed_top s) key
after_pass_on s key _ _ = s

-- the transaction leaves the key's queue; where it owned the key, the next one owns it
abbrev pub after_release : NodeState → TxId → Key → NodeState
after_release s tx key = let after = with_note (after_leave s tx key) (note.Drop tx key) in
    after_pass_on after key (is_owner tx (owner_at s key)) (owner_at after key)

abbrev pub after_release_each : NodeState → TxId → List Key → NodeState
after_release_each s tx [] = s
after_release_each s tx (key ∷ keys) = after_release_each (after_release s tx key) tx keys

-- all places of the transaction are left, in the keys' order
abbrev pub after_release_all : NodeState → TxId → NodeState
after_release_all s tx = after_release_each s tx (keys_queued_for s.queues tx)

-- a prepare in optimistic mode owns its keys, with a Grant each
abbrev pub after_own_each : NodeState → TxId → TopVer → List Wanted → NodeState
after_own_each s tx top [] = s
after_own_each s tx top (w ∷ ws) = after_own_each (with_note (with_queued s tx w.key) (note.Grant tx top w.key)) tx top ws

abbrev pub with_reader_if : NodeState → NodeId → Bool → Key → NodeState
with_reader_if s from true key = record s { readers = with_reader s.readers key from }
with_reader_if s from false key = s

-- Get: what the entry is, without a lock; the sender may become a reader of the key
abbrev pub after_get : NodeState → NodeId → TxId → Key → Bool → NodeState
after_get s from tx key near = with_out (with_reader_if s from near key) from (msg.GetOk tx key (found_at s key))

-- Edges: the waits of the listed transactions at this act
abbrev pub after_edges : NodeState → NodeId → TxId → ℕ → List TxId → NodeState
after_edges s from tx round of = let waits = edges_of s.queues of in
    with_out (with_note s (note.Waits tx round waits)) from (msg.EdgesOk tx round s.acts waits)
