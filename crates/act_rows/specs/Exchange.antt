-- The exchange of a topology version: what a node sees, its Single, the map, and the opening of the version.
use Rattle.std.specs.List.{list_all}
use Rattle.std.specs.Prelude.{Bool, None, Option, Some, [], false, filter, fold, if◌then◌else◌, is_some, map, not, true, ℕ, ◌&&◌, ◌++◌, ◌∷◌}
use Rattle.act_rows.specs.Starts.{after_start_all}
use Rattle.act_rows.specs.Steps.{backup_cmp, installed_top, is_installed, is_oldest, outs_to, rows_of, with_note, with_out, with_outs}
use Rattle.part_model.specs.Copies.{Copy}
use Rattle.part_model.specs.Directory.{members_after, node_set, running_after, version_after}
use Rattle.part_model.specs.NextMap.{has_node, next_map, single_of}
use Rattle.part_model.specs.Orders.{is_lower_top, next_count}
use Rattle.part_model.specs.Tables.{keys_where, without_each}
use Rattle.ignite_types.specs.Good.{members}
use Rattle.ignite_types.specs.Names.{node_cmp, same_node, same_top, tx_cmp}
use Rattle.ignite_types.specs.Placement.{capped, first_owner}
use Rattle.ignite_types.specs.declared.journal.TopoEvent.{TopoEvent}
use Rattle.ignite_types.specs.declared.list.List.{List}
use Rattle.ignite_types.specs.declared.message.Out.{Out}
use Rattle.ignite_types.specs.declared.message.Single.{Single}
use Rattle.ignite_types.specs.declared.names.NodeId.{NodeId}
use Rattle.ignite_types.specs.declared.names.TopVer.{TopVer}
use Rattle.ignite_types.specs.declared.names.TxId.{TxId}
use Rattle.ignite_types.specs.declared.placement.PartMap.{PartMap}
use Rattle.ignite_types.specs.declared.placement.Row.{Row}
use Rattle.ignite_types.specs.declared.placement.ShareState.{ShareState}
use Rattle.ignite_types.specs.declared.placement.ShareState.TheVariants.{Committed}
use Rattle.ignite_types.specs.declared.scenario.Member.{Member}
use Rattle.node_state.specs.Node.{NodeState}
use Rattle.node_state.specs.declared.primary.BackupName.{BackupName}
use Rattle.node_state.specs.declared.primary.BackupShare.{BackupShare}
use Rattle.node_state.specs.declared.primary.OwnShare.{OwnShare}
use Rattle.node_state.specs.declared.topology.Exchange.{Exchange}
use Rattle.ordered_set.specs.Members.{has, with_member, without_member}
use Rattle.ignite_types.specs.declared.message.Message.TheVariants as msg
use Rattle.ignite_types.specs.declared.journal.Rec.TheVariants as note
use Rattle.ignite_types.specs.declared.journal.TopoEvent.TheVariants as topo

-- Seeing.

abbrev pub left_after : List NodeId → TopoEvent → List NodeId
left_after left (topo.Left node) = with_member node_cmp left node
left_after left _ = left

-- the last version seen and its members are at once those of the event; an exchange of an older version is dropped
abbrev pub after_learn : NodeState → TopoEvent → NodeState
after_learn s event = record s {
  read = next_count s.read;
  seen = version_after s.seen event;
  members = members_after s.members event;
  running = running_after s.running event;
  left = left_after s.left event;
  exchange = None;
}

-- what a joiner knows of the events before its own Join, and the clock
abbrev pub after_learn_all : NodeState → List TopoEvent → ℕ → NodeState
after_learn_all s events now = record (fold after_learn s events) { now = now }

-- Installing.

-- a copy is kept where this node owns its partition
abbrev pub kept_copies : NodeId → List Copy → List Row → List Copy
kept_copies me [] rows = []
kept_copies me (copy ∷ copies) [] = [] ∷ kept_copies me copies []
kept_copies me (copy ∷ copies) (row ∷ rows) = (if has_node row.owners me then copy else []) ∷ kept_copies me copies rows

abbrev pub is_kept_commit : ShareState → Bool
is_kept_commit Committed = true
is_kept_commit _ = false

-- a new map clears the copies that are not owned in it, near caches, readers, remembered commits, and what was filled
abbrev pub after_install : NodeState → PartMap → NodeState
after_install s m = with_note (record s {
  installed = Some m;
  stores = kept_copies s.me s.stores m.rows;
  near = [];
  readers = [];
  shares = without_each tx_cmp s.shares (keys_where (λ (e : TxId × OwnShare). is_kept_commit e.1.state) s.shares);
  backups = without_each backup_cmp s.backups (keys_where (λ (e : BackupName × BackupShare). is_kept_commit e.1.state)
      s.backups);
  complete = [];
  claims = [];
}) (note.Install m)

-- Opening.

-- Demand for one partition, where this node moves it
abbrev pub demands_of : NodeId → TopVer → ℕ → Row → Option NodeId → List Out
demands_of me top part row None = []
demands_of me top part row (Some primary) =
    if has_node row.movers me then record { to = primary; msg = msg.Demand top part None } ∷ [] else []

-- Demand for each partition that this node moves, the first of these rows having this number
abbrev pub demand_outs : NodeId → TopVer → ℕ → List Row → List Out
demand_outs me top part [] = []
demand_outs me top part (row ∷ rows) = demands_of me top part row (first_owner row) ++ demand_outs me top (capped part 1) rows

-- the copies of movers begin to be filled
abbrev pub after_send_demands : NodeState → NodeState
after_send_demands s = with_outs s (demand_outs s.me (installed_top s) 0 (rows_of s))

-- the version is open here: what waits for it starts, and a mover asks for its partitions
abbrev pub after_opens : NodeState → TopVer → NodeState
after_opens s top = after_send_demands (after_start_all (with_note (record s { opened = Some top }) (note.Opened top)))

-- The coordinator.

abbrev pub others_seen : NodeState → List NodeId
others_seen s = without_member node_cmp (node_set [] s.members) s.me

abbrev pub all_installed : List Member → List NodeId → Bool
all_installed members nodes = list_all (λ (m : Member). has node_cmp nodes m.node) members

abbrev pub after_open_for_all : NodeState → TopVer → NodeState
after_open_for_all s top =
    after_opens (with_outs (record s { exchange = None }) (outs_to (others_seen s) (msg.Opens top))) top

-- once all members have installed the map they are told that the version is open
abbrev pub after_open_if_all : NodeState → Option Exchange → NodeState
after_open_if_all s None = s
after_open_if_all s (Some x) = if all_installed s.members x.installed then after_open_for_all s x.top else s

-- the exchange in work has these members' word
abbrev pub after_count : NodeState → Exchange → NodeState
after_count s x = after_open_if_all (record s { exchange = Some x }) (Some x)

abbrev pub singles_under : NodeState → TopVer → List Single
singles_under s top = filter (λ (x : Single). same_top x.top top) s.singles

abbrev pub all_sent : List Member → List Single → Bool
all_sent members singles = list_all (λ (m : Member). is_some (single_of singles m.node)) members

-- Singles of this version and of older ones are of no more use
abbrev pub without_singles : NodeState → TopVer → NodeState
without_singles s top = record s { singles = filter (λ (x : Single). is_lower_top top x.top) s.singles }

-- the coordinator installs the map that it computed, counts itself, and tells the others
abbrev pub after_compute : NodeState → PartMap → NodeState
after_compute s m = after_count (with_outs (after_install (without_singles s m.top) m) (outs_to (others_seen s) (msg.Full m)))
    (record { top = m.top; installed = s.me ∷ [] })

abbrev pub next_map_seen : NodeState → PartMap
next_map_seen s = next_map s.seen s.members s.caches s.running (singles_under s s.seen)

-- the oldest member computes the map of the last version seen, once each member has sent its Single
abbrev pub may_compute : NodeState → Bool
may_compute s = is_oldest s && not (is_installed s s.seen) && all_sent s.members (singles_under s s.seen)

abbrev pub after_compute_if_all : NodeState → NodeState
after_compute_if_all s = if may_compute s then after_compute s (next_map_seen s) else s

-- Single: kept under its version
abbrev pub after_single : NodeState → NodeId → TopVer → Option PartMap → List ℕ → NodeState
after_single s from top m complete = after_compute_if_all (record s {
  singles = s.singles ++ record { from = from; top = top; map = m; complete = complete } ∷ [];
})

-- a map is installed where none of its version or a higher one is
abbrev pub is_newer_map : PartMap → Option PartMap → Bool
is_newer_map m None = true
is_newer_map m (Some there) = is_lower_top there.top m.top

-- Full: the map is installed
abbrev pub after_full : NodeState → NodeId → PartMap → NodeState
after_full s from m = if is_newer_map m s.installed then with_out (after_install s m) from (msg.Installed m.top) else s

abbrev pub after_count_installed : NodeState → NodeId → TopVer → Option Exchange → NodeState
after_count_installed s from top None = s
after_count_installed s from top (Some x) =
    if same_top x.top top then after_count s (record x { installed = with_member node_cmp x.installed from }) else s

-- Installed: counted where it speaks of the exchange in work
abbrev pub after_installed : NodeState → NodeId → TopVer → NodeState
after_installed s from top = after_count_installed s from top s.exchange

-- the Singles of a lost node are discarded
abbrev pub without_single : NodeState → NodeId → NodeState
without_single s node = record s { singles = filter (λ (x : Single). not (same_node x.from node)) s.singles }
