-- When a transaction may fail: what stands before each of its faults.
use Rattle.std.specs.List.{flat_map, list_any}
use Rattle.std.specs.Option.{option_and_then}
use Rattle.std.specs.Prelude.{Bool, None, Option, Some, [], false, filter, if◌then◌else◌, not, option_to_list, true, ◌&&◌, ◌++◌, ◌||◌, ◌∷◌}
use Rattle.tx_model.specs.declared.walk.Walk.{Walk}
use Rattle.act_rows.specs.Accesses.{access_key}
use Rattle.act_rows.specs.Stores.{version_of}
use Rattle.part_model.specs.Copies.{Found, found_in}
use Rattle.part_model.specs.Orders.{is_node}
use Rattle.ignite_types.specs.Names.{key_cmp, same_tx}
use Rattle.ignite_types.specs.Placement.{primary_of}
use Rattle.ignite_types.specs.declared.answer.Fail.{Fail}
use Rattle.ignite_types.specs.declared.answer.Fault.{Fault}
use Rattle.ignite_types.specs.declared.journal.Journal.{Journal}
use Rattle.ignite_types.specs.declared.journal.Rec.{Rec}
use Rattle.ignite_types.specs.declared.list.List.{List}
use Rattle.ignite_types.specs.declared.message.Edge.{Edge}
use Rattle.ignite_types.specs.declared.names.CacheVersion.{CacheVersion}
use Rattle.ignite_types.specs.declared.names.NodeId.{NodeId}
use Rattle.ignite_types.specs.declared.names.TxId.{TxId}
use Rattle.ignite_types.specs.declared.placement.PartMap.{PartMap}
use Rattle.ignite_types.specs.declared.text.Key.{Key}
use Rattle.ordered_table.specs.Entries.{at}
use Rattle.journal_statements.specs.CopyFolds.{kept_by}
use Rattle.journal_statements.specs.Noted.{Noted, is_lost, maps_installed, noted, recs_of}
use Rattle.journal_statements.specs.SameMessages.{same_cache_version}
use Rattle.journal_statements.specs.SearchRecords.{is_clear, lacks_answer}
use Rattle.journal_statements.specs.Timeouts.{is_past_most, is_timed_out, keys_done, map_for, was_waiting}
use Rattle.journal_statements.specs.Topologies.{topology_events}
use Rattle.journal_statements.specs.Waits.{holds_after, is_true_deadlock}
use Rattle.journal_statements.specs.Walks.{each_with_tx}
use Rattle.ignite_types.specs.declared.answer.Fail.TheVariants as fail
use Rattle.ignite_types.specs.declared.answer.Fault.TheVariants as fault
use Rattle.ignite_types.specs.declared.message.Message.TheVariants as msg
use Rattle.ignite_types.specs.declared.journal.Rec.TheVariants as note

-- The check at a primary.

abbrev pub is_prepare_of : TxId → Rec → Bool
is_prepare_of tx (note.Deliver from (msg.Prepare u top mode shares wanted writes)) = same_tx u tx
is_prepare_of tx r = false

-- what a node has noted before it takes the transaction's Prepare, where it has taken it
abbrev pub before_prepare : TxId → List Rec → List Rec → Option (List Rec)
before_prepare tx before [] = None
before_prepare tx before (r ∷ rs) = if is_prepare_of tx r then Some before else before_prepare tx (before ++ r ∷ []) rs

-- the transaction has found this version at the key; of a key that it only wrote it has found none
abbrev pub is_version_found : CacheVersion → Option Found → Bool
is_version_found had None = false
is_version_found had (Some found) = same_cache_version (version_of found) had

-- the key has this version at the primary, and the transaction has found another one
abbrev pub is_changed : Journal → Walk → NodeId → Key → CacheVersion → CacheVersion → Option (List Rec) → Bool
is_changed j w primary key had v None = false
is_changed j w primary key had v (Some own) = is_version_found had (at key_cmp w.finds key)
    && same_cache_version (version_of (found_in (kept_by j.scenario primary own).copy key)) v
    && not (same_cache_version had v)

-- another transaction holds the key
abbrev pub is_candidate : TxId → Key → TxId → Option (List Rec) → Bool
is_candidate tx key holder None = false
is_candidate tx key holder (Some own) = not (same_tx holder tx) && holds_after holder key false own

-- by what the primary had noted before its Prepare act
abbrev pub check_fails : Journal → TxId → Walk → List Noted → Fail → Option NodeId → Bool
check_fails j tx w before why None = false
check_fails j tx w before (fail.Changed key had v) (Some primary) =
    is_changed j w primary key had v (before_prepare tx [] (recs_of primary before))
check_fails j tx w before (fail.Candidate key holder) (Some primary) =
    is_candidate tx key holder (before_prepare tx [] (recs_of primary before))

abbrev pub key_of_fail : Fail → Key
key_of_fail (fail.Changed key had v) = key
key_of_fail (fail.Candidate key holder) = key

abbrev pub primary_in : Option PartMap → Key → Option NodeId
primary_in None key = None
primary_in (Some m) key = primary_of m key

-- The search.

abbrev pub edges_reported : TxId → Rec → List (List Edge)
edges_reported tx (note.Searched u edges) = if same_tx u tx then edges ∷ [] else []
edges_reported tx r = []

abbrev pub has_true_report : Journal → TxId → List Noted → Bool
has_true_report j tx before =
    list_any (is_true_deadlock j tx) (flat_map (λ (n : Noted). edges_reported tx n.rec) before)

-- The faults.

-- the pending key, unless it is one too many
abbrev pub pending_key : Walk → List Key
pending_key w = filter (λ (key : Key). not (is_past_most w key)) (option_to_list (option_and_then access_key w.called))

-- the node is the primary of a key of the transaction
abbrev pub is_primary_for : List PartMap → Walk → NodeId → Bool
is_primary_for maps w id =
    list_any (λ (key : Key). is_node id (primary_in (map_for maps w) key)) (keys_done w ++ pending_key w)

abbrev pub timeout_fits : Journal → List PartMap → TxId → List Noted → Bool
timeout_fits j maps tx before = not (was_waiting maps tx before)
    || is_clear j.scenario (topology_events j.scenario j.groups) (recs_of tx.node before) tx

abbrev pub cut_fits : Journal → List PartMap → TxId → List Noted → NodeId → Bool
cut_fits j maps tx before id = is_lost before id && was_waiting maps tx before
    && lacks_answer j.scenario (topology_events j.scenario j.groups) (recs_of tx.node before) tx id

abbrev pub fault_fits : Journal → List PartMap → TxId → List Noted → Walk → Fault → Bool
fault_fits j maps tx before w (fault.Check why) =
    check_fails j tx w before why (primary_in (map_for maps w) (key_of_fail why))
fault_fits j maps tx before w fault.Deadlock = is_timed_out tx before && has_true_report j tx before
fault_fits j maps tx before w (fault.Cut id) = is_timed_out tx before && cut_fits j maps tx before id
fault_fits j maps tx before w fault.Timeout = is_timed_out tx before && timeout_fits j maps tx before
fault_fits j maps tx before w (fault.NodeLost id) = is_lost before id && is_primary_for maps w id

abbrev pub faults_fit_at : Journal → List PartMap → TxId → List Noted → Walk → Rec → Bool
faults_fit_at j maps tx before w (note.Fault u why) = not (same_tx u tx) || fault_fits j maps tx before w why
faults_fit_at j maps tx before w r = true

-- each fault has its cause
abbrev pub faults_fit : Journal → Bool
faults_fit j = let maps = maps_installed j.scenario (noted j.scenario j.groups) in each_with_tx (faults_fit_at j maps) j
