-- More of searches than the headline says: a report is of one moment, and no search passes over a circle that stands.
use Rattle.std.specs.List.{flat_map, list_all, list_any}
use Rattle.std.specs.Prelude.{Bool, None, Option, Some, [], filter, if◌then◌else◌, map, not, true, ◌&&◌, ◌||◌, ◌∷◌}
use Rattle.part_model.specs.Cycles.{same_wait}
use Rattle.ignite_types.specs.Names.{same_key}
use Rattle.ignite_types.specs.declared.journal.Journal.{Journal}
use Rattle.ignite_types.specs.declared.journal.Rec.{Rec}
use Rattle.ignite_types.specs.declared.list.List.{List}
use Rattle.ignite_types.specs.declared.message.Edge.{Edge}
use Rattle.ignite_types.specs.declared.message.Wait.{Wait}
use Rattle.ignite_types.specs.declared.names.NodeId.{NodeId}
use Rattle.ignite_types.specs.declared.names.TxId.{TxId}
use Rattle.ignite_types.specs.declared.placement.PartMap.{PartMap}
use Rattle.ignite_types.specs.declared.scenario.Scenario.{Scenario}
use Rattle.ignite_types.specs.declared.text.Key.{Key}
use Rattle.tx_model.specs.Opening.{ids_of}
use Rattle.journal_statements.specs.Faults.{is_primary_for}
use Rattle.journal_statements.specs.Noted.{Noted, each_record, is_lost, maps_installed, noted, recs_of}
use Rattle.journal_statements.specs.SearchRecords.{has_circle}
use Rattle.journal_statements.specs.Timeouts.{before_expire}
use Rattle.journal_statements.specs.Versions.{is_decided}
use Rattle.journal_statements.specs.Waits.{is_queued_behind, waiters_of_edges}
use Rattle.journal_statements.specs.Walks.{walk_of_records}
use Rattle.ignite_types.specs.declared.journal.Rec.TheVariants as note

-- A report is of one moment.

abbrev pub lost_nodes : Scenario → List Noted → List NodeId
lost_nodes scenario recs = filter (is_lost recs) (ids_of scenario)

-- it is decided, or the primary of one of its keys is lost
abbrev pub is_over_or_orphaned : Scenario → List PartMap → List Noted → TxId → Bool
is_over_or_orphaned scenario maps recs tx = is_decided recs tx
    || list_any (is_primary_for maps (walk_of_records tx recs)) (lost_nodes scenario recs)

abbrev pub stand_together : List Noted → List Edge → Bool
stand_together recs edges = list_all (λ (e : Edge). is_queued_behind recs e.node e.wait) edges

abbrev pub report_of_moment : Scenario → List PartMap → List Noted → Rec → Bool
report_of_moment scenario maps before (note.Searched tx edges) =
    list_any (is_over_or_orphaned scenario maps before) (waiters_of_edges edges) || stand_together before edges
report_of_moment scenario maps before r = true

-- where no transaction of a report was over when its last edge came, all its edges stood together then
abbrev pub reports_of_moment : Journal → Bool
reports_of_moment j = let recs = noted j.scenario j.groups in let maps = maps_installed j.scenario recs in
    each_record (λ (before : List Noted) (n : Noted). report_of_moment j.scenario maps before n.rec) recs

-- No circle is passed over.

abbrev pub holder_at : Key → Rec → List TxId
holder_at key (note.Grant u top k) = if same_key k key then u ∷ [] else []
holder_at key r = []

abbrev pub wait_for_each : TxId → Key → List TxId → List Wait
wait_for_each tx key holders = map (λ (u : TxId). record { key = key; waiter = tx; holder = u }) holders

-- the waits that stand for a transaction that was queued at this node
abbrev pub waits_standing_of : List Noted → NodeId → TxId → Key → List Wait
waits_standing_of recs id tx key =
    filter (is_queued_behind recs id) (wait_for_each tx key (flat_map (holder_at key) (recs_of id recs)))

abbrev pub waits_standing_by : List Noted → Option NodeId → Rec → List Wait
waits_standing_by recs (Some id) (note.Queue tx key holder) = waits_standing_of recs id tx key
waits_standing_by recs who r = []

-- all waits that stand behind these records
abbrev pub waits_standing : List Noted → List Wait
waits_standing recs = flat_map (λ (n : Noted). waits_standing_by recs n.node n.rec) recs

abbrev pub is_wait_among : List Wait → Wait → Bool
is_wait_among waits w = list_any (same_wait w) waits

-- nobody is queued twice for one key, so a wait that stands at both ends stood all the time
abbrev pub waits_throughout : List Noted → Option (List Noted) → List Wait
waits_throughout now None = []
waits_throughout now (Some begun) = filter (is_wait_among (waits_standing begun)) (waits_standing now)

abbrev pub clear_search_fits : List Noted → Rec → Bool
clear_search_fits before (note.Searched tx []) = not (has_circle tx (waits_throughout before (before_expire tx [] before)))
clear_search_fits before r = true

-- no search ends without a report while a circle through its transaction stood from its beginning to its end
abbrev pub no_circle_overlooked : Journal → Bool
no_circle_overlooked j =
    each_record (λ (before : List Noted) (n : Noted). clear_search_fits before n.rec) (noted j.scenario j.groups)

abbrev pub search_laws : Journal → Bool
search_laws j = reports_of_moment j && no_circle_overlooked j
