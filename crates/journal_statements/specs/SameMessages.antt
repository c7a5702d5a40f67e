-- When two messages are the same: field by field.
use Rattle.std.specs.Cmp.Lexicographic.{pointwise}
use Rattle.std.specs.Prelude.{Bool, None, Option, Some, false, if◌then◌else◌, nat_eq, not, true, ℕ, ◌&&◌}
use Rattle.part_model.specs.Copies.{Found}
use Rattle.part_model.specs.Cycles.{same_wait}
use Rattle.part_model.specs.Orders.{same_share}
use Rattle.ignite_types.specs.Names.{same_key, same_node, same_top, same_tx}
use Rattle.ignite_types.specs.declared.answer.Fail.{Fail}
use Rattle.ignite_types.specs.declared.list.List.{List}
use Rattle.ignite_types.specs.declared.message.Message.{Message}
use Rattle.ignite_types.specs.declared.message.Orphan.{Orphan}
use Rattle.ignite_types.specs.declared.message.Stored.{Stored}
use Rattle.ignite_types.specs.declared.message.Wanted.{Wanted}
use Rattle.ignite_types.specs.declared.names.CacheVersion.{CacheVersion}
use Rattle.ignite_types.specs.declared.placement.PartMap.{PartMap}
use Rattle.ignite_types.specs.declared.placement.Row.{Row}
use Rattle.ignite_types.specs.declared.placement.Share.{Share}
use Rattle.ignite_types.specs.declared.placement.ShareState.{ShareState}
use Rattle.ignite_types.specs.declared.placement.ShareState.TheVariants.{Committed, Prepared, Preparing, Undoing}
use Rattle.ignite_types.specs.declared.scenario.Mode.{Mode}
use Rattle.ignite_types.specs.declared.text.Key.{Key}
use Rattle.ignite_types.specs.declared.answer.Fail.TheVariants as fail
use Rattle.ignite_types.specs.declared.scenario.Mode.TheVariants as mode
use Rattle.ignite_types.specs.declared.message.Message.TheVariants as msg

abbrev pub same_flag : Bool → Bool → Bool
same_flag a b = if a then b else not b

abbrev pub same_maybe : {A : Type 0} → (A → A → Bool) → Option A → Option A → Bool
same_maybe same None None = true
same_maybe same (Some a) (Some b) = same a b
same_maybe same _ _ = false

abbrev pub same_text : List ℕ → List ℕ → Bool
same_text a b = pointwise nat_eq a b

abbrev pub same_cache_version : CacheVersion → CacheVersion → Bool
same_cache_version a b = same_top a.top b.top && nat_eq a.order b.order && same_node a.node b.node

abbrev pub same_row : Row → Row → Bool
same_row a b = pointwise same_node a.owners b.owners && pointwise same_node a.movers b.movers

abbrev pub same_map : PartMap → PartMap → Bool
same_map a b = same_top a.top b.top && pointwise nat_eq a.parts b.parts && pointwise same_row a.rows b.rows

abbrev pub same_pair : List ℕ × CacheVersion → List ℕ × CacheVersion → Bool
same_pair a b = same_text a.0 b.0 && same_cache_version a.1 b.1

abbrev pub same_found : Found → Found → Bool
same_found a b = same_maybe same_pair a b

abbrev pub same_mode : Mode → Mode → Bool
same_mode mode.Pessimistic mode.Pessimistic = true
same_mode mode.Optimistic mode.Optimistic = true
same_mode _ _ = false

abbrev pub same_wanted : Wanted → Wanted → Bool
same_wanted a b = same_key a.key b.key && same_maybe same_cache_version a.had b.had

abbrev pub same_write : Key × Option (List ℕ) → Key × Option (List ℕ) → Bool
same_write a b = same_key a.0 b.0 && same_maybe same_text a.1 b.1

abbrev pub same_stored : Stored → Stored → Bool
same_stored a b = same_key a.key b.key && same_maybe same_text a.value b.value && same_cache_version a.ver b.ver

abbrev pub same_fail : Fail → Fail → Bool
same_fail (fail.Changed key had there) (fail.Changed k d s) =
    same_key key k && same_cache_version had d && same_cache_version there s
same_fail (fail.Candidate key holder) (fail.Candidate k h) = same_key key k && same_tx holder h
same_fail _ _ = false

abbrev pub same_share_state : ShareState → ShareState → Bool
same_share_state Preparing Preparing = true
same_share_state Prepared Prepared = true
same_share_state Committed Committed = true
same_share_state Undoing Undoing = true
same_share_state _ _ = false

abbrev pub same_held : Share × ShareState → Share × ShareState → Bool
same_held a b = same_share a.0 b.0 && same_share_state a.1 b.1

abbrev pub same_orphan : Orphan → Orphan → Bool
same_orphan a b = same_tx a.tx b.tx && pointwise same_share a.shares b.shares && pointwise same_held a.held b.held
    && same_flag a.locks b.locks

-- the messages of topology and recovery
abbrev pub same_topology_message : Message → Message → Bool
same_topology_message (msg.Single top m complete) (msg.Single t o c) =
    same_top top t && same_maybe same_map m o && pointwise nat_eq complete c
same_topology_message (msg.Full m) (msg.Full o) = same_map m o
same_topology_message (msg.Installed top) (msg.Installed t) = same_top top t
same_topology_message (msg.Opens top) (msg.Opens t) = same_top top t
same_topology_message (msg.Demand top part after) (msg.Demand t p a) =
    same_top top t && nat_eq part p && same_maybe same_key after a
same_topology_message (msg.Supply top part entries last) (msg.Supply t p e l) =
    same_top top t && nat_eq part p && pointwise same_stored entries e && same_flag last l
same_topology_message (msg.Complete top) (msg.Complete t) = same_top top t
same_topology_message (msg.Orphans round list) (msg.Orphans r l) = nat_eq round r && pointwise same_orphan list l
same_topology_message _ _ = false

-- the messages between the parts of a primary, its backups, movers and readers
abbrev pub same_holder_message : Message → Message → Bool
same_holder_message (msg.BackupPrepare tx top shares primary writes) (msg.BackupPrepare u t s p w) =
    same_tx tx u && same_top top t && pointwise same_share shares s && same_node primary p && pointwise same_stored writes w
same_holder_message (msg.BackupPrepared tx) (msg.BackupPrepared u) = same_tx tx u
same_holder_message (msg.BackupFinish tx primary commit) (msg.BackupFinish u p c) =
    same_tx tx u && same_node primary p && same_flag commit c
same_holder_message (msg.BackupFinished tx primary) (msg.BackupFinished u p) = same_tx tx u && same_node primary p
same_holder_message (msg.NearUpdate tx key new ver) (msg.NearUpdate u k n v) =
    same_tx tx u && same_key key k && same_maybe same_text new n && same_cache_version ver v
same_holder_message (msg.NearDone tx key) (msg.NearDone u k) = same_tx tx u && same_key key k
same_holder_message a b = same_topology_message a b

-- the messages between starters and primaries, and those of a search
abbrev pub same_message : Message → Message → Bool
same_message (msg.Lock tx top key) (msg.Lock u t k) = same_tx tx u && same_top top t && same_key key k
same_message (msg.LockOk tx key found) (msg.LockOk u k f) = same_tx tx u && same_key key k && same_found found f
same_message (msg.Get tx key near) (msg.Get u k n) = same_tx tx u && same_key key k && same_flag near n
same_message (msg.GetOk tx key found) (msg.GetOk u k f) = same_tx tx u && same_key key k && same_found found f
same_message (msg.Prepare tx top mode shares wanted writes) (msg.Prepare u t m s d w) =
    same_tx tx u && same_top top t && same_mode mode m && pointwise same_share shares s && pointwise same_wanted wanted d
    && pointwise same_write writes w
same_message (msg.Prepared tx) (msg.Prepared u) = same_tx tx u
same_message (msg.PrepareFail tx why) (msg.PrepareFail u w) = same_tx tx u && same_fail why w
same_message (msg.Finish tx commit) (msg.Finish u c) = same_tx tx u && same_flag commit c
same_message (msg.Finished tx) (msg.Finished u) = same_tx tx u
same_message (msg.Edges tx round of) (msg.Edges u r o) = same_tx tx u && nat_eq round r && pointwise same_tx of o
same_message (msg.EdgesOk tx round act waits) (msg.EdgesOk u r a w) =
    same_tx tx u && nat_eq round r && nat_eq act a && pointwise same_wait waits w
same_message a b = same_holder_message a b
