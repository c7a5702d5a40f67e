-- A node's copies: what it has at a key, and a write done to it.
use Rattle.std.specs.Prelude.{None, Some, [], slice_set, ◌∷◌}
use Rattle.act_rows.specs.Steps.{is_filling, partition_of, with_note}
use Rattle.part_model.specs.Copies.{Found, absent_version, copy_after_write, copy_at, found_in}
use Rattle.ignite_types.specs.declared.list.List.{List}
use Rattle.ignite_types.specs.declared.message.Stored.{Stored}
use Rattle.ignite_types.specs.declared.names.CacheVersion.{CacheVersion}
use Rattle.ignite_types.specs.declared.names.NodeId.{NodeId}
use Rattle.ignite_types.specs.declared.names.TopVer.{TopVer}
use Rattle.ignite_types.specs.declared.names.TxId.{TxId}
use Rattle.ignite_types.specs.declared.text.Key.{Key}
use Rattle.node_state.specs.Node.{NodeState}
use Rattle.ignite_types.specs.declared.journal.Rec.TheVariants as note

-- what the node's copy of the key's partition has at the key
abbrev pub found_at : NodeState → Key → Found
found_at s key = found_in (copy_at s.stores (partition_of s key)) key

abbrev pub version_of : Found → CacheVersion
version_of None = absent_version
version_of (Some (value, ver)) = ver

-- the write is done to the copy of its key's partition
abbrev pub with_stored : NodeState → Stored → NodeState
with_stored s write = let part = partition_of s write.key in
    record s { stores = slice_set s.stores part (copy_after_write (copy_at s.stores part) write (is_filling s part)) }

-- each write is done and noted, for the primary that drew its version
abbrev pub after_apply_each : NodeState → TxId → TopVer → NodeId → List Stored → NodeState
after_apply_each s tx top primary [] = s
after_apply_each s tx top primary (w ∷ ws) =
    after_apply_each (with_note (with_stored s w) (note.Apply tx top primary w.key w.value w.ver)) tx top primary ws
