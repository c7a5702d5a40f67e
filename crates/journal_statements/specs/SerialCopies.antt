-- After each group the copies are the serial map, but for the partitions of commits that are not applied everywhere.
use Rattle.std.specs.Cmp.Lexicographic.{pointwise}
use Rattle.std.specs.List.{flat_map, list_all, list_any}
use Rattle.std.specs.Prelude.{Bool, None, Option, Some, [], false, filter, if◌then◌else◌, length, map, nat_eq, not, option_to_list, true, ℕ, ◌&&◌, ◌++◌, ◌||◌, ◌∷◌}
use Rattle.part_model.specs.Copies.{Copy, is_tombstone}
use Rattle.part_model.specs.Orders.{is_node}
use Rattle.part_model.specs.declared.copies.Entry.{Entry}
use Rattle.ignite_types.specs.Names.{key_cmp, same_key}
use Rattle.ignite_types.specs.Placement.{part_of}
use Rattle.ignite_types.specs.declared.journal.End.{End}
use Rattle.ignite_types.specs.declared.journal.Group.{Group}
use Rattle.ignite_types.specs.declared.journal.Journal.{Journal}
use Rattle.ignite_types.specs.declared.journal.Rec.{Rec}
use Rattle.ignite_types.specs.declared.list.List.{List}
use Rattle.ignite_types.specs.declared.names.NodeId.{NodeId}
use Rattle.ignite_types.specs.declared.names.TxId.{TxId}
use Rattle.ignite_types.specs.declared.placement.PartMap.{PartMap}
use Rattle.ignite_types.specs.declared.scenario.Cache.{Cache}
use Rattle.ignite_types.specs.declared.scenario.Scenario.{Scenario}
use Rattle.ignite_types.specs.declared.text.Key.{Key}
use Rattle.ordered_table.specs.Entries.{at}
use Rattle.journal_statements.specs.CopyFolds.{Kept, empty_store, kept_after, owns}
use Rattle.tx_model.specs.History.{Map, committed_in, footprint, map_with_writes}
use Rattle.journal_statements.specs.LinkRecords.{any_link_keeps}
use Rattle.journal_statements.specs.Noted.{Homes, Noted, is_committed_before, is_lost, maps_installed, noted, noted_in}
use Rattle.tx_model.specs.Opening.{ids_of, session_nodes_from}
use Rattle.journal_statements.specs.SameMessages.{same_cache_version, same_text}
use Rattle.journal_statements.specs.Versions.{write_applied}
use Rattle.tx_model.specs.declared.history.CommitEntry.{CommitEntry}
use Rattle.ignite_types.specs.declared.journal.End.TheVariants as end

-- So far: the records, the store of each node, the map that the commits leave, and those of them that some live holder lacks.
pub record SoFar : Type 0 where
  pub recs : List Noted
  pub stores : List (NodeId × Kept)
  pub left : Map
  pub unsettled : List CommitEntry

abbrev pub stores_at_opening : Scenario → List NodeId → List (NodeId × Kept)
stores_at_opening scenario nodes = map (λ (id : NodeId). (id, empty_store scenario id)) nodes

abbrev pub at_opening : Scenario → SoFar
at_opening scenario = record { recs = []; stores = stores_at_opening scenario (ids_of scenario); left = []; unsettled = [] }

abbrev pub store_after : Option NodeId → Rec → NodeId × Kept → NodeId × Kept
store_after who r store = if is_node store.0 who then (store.0, kept_after store.0 store.1 r) else store

abbrev pub with_commit : SoFar → CommitEntry → SoFar
with_commit so entry = record so { left = map_with_writes so.left entry.writes; unsettled = so.unsettled ++ entry ∷ [] }

-- the first commit decision of a transaction counts
abbrev pub commit_after : Journal → SoFar → Option TxId → SoFar
commit_after j so None = so
commit_after j so (Some tx) = if is_committed_before so.recs tx then so else with_commit so (footprint j.groups tx)

abbrev pub with_noted : SoFar → Noted → SoFar
with_noted so n = record so { recs = so.recs ++ n ∷ []; stores = map (store_after n.node n.rec) so.stores }

abbrev pub after_noted : Journal → SoFar → List Noted → SoFar
after_noted j so [] = so
after_noted j so (n ∷ ns) = after_noted j (with_noted (commit_after j so (committed_in n.rec)) n) ns

-- some live holder of a key that the transaction wrote lacks the apply
abbrev pub is_unsettled : List PartMap → List Noted → CommitEntry → Bool
is_unsettled maps recs entry = not (list_all (write_applied maps recs entry.tx) entry.writes)

abbrev pub without_settled : List PartMap → SoFar → SoFar
without_settled maps so = record so { unsettled = filter (is_unsettled maps so.recs) so.unsettled }

-- The copies of one node.

abbrev pub writes_part : List ℕ → ℕ → CommitEntry → Bool
writes_part parts part entry = list_any (λ (w : Key × Option (List ℕ)). nat_eq (part_of parts w.0) part) entry.writes

-- the node owns the key's partition, and no unsettled transaction wrote there
abbrev pub is_looked_at : List ℕ → List CommitEntry → NodeId × Kept → Key → Bool
is_looked_at parts unsettled store key =
    owns store.0 store.1 key && not (list_any (writes_part parts (part_of parts key)) unsettled)

abbrev pub value_at_entry : Key × Entry → List (Key × List ℕ)
value_at_entry (key, entry) = map (λ (value : List ℕ). (key, value)) (option_to_list entry.value)

abbrev pub same_entry : Key × List ℕ → Key × List ℕ → Bool
same_entry a b = same_key a.0 b.0 && same_text a.1 b.1

-- its values there are those of the map
abbrev pub is_map_there : (Key → Bool) → Map → Copy → Bool
is_map_there looked m copy = pointwise same_entry
    (filter (λ (e : Key × List ℕ). looked e.0) m)
    (filter (λ (e : Key × List ℕ). looked e.0) (flat_map value_at_entry copy))

abbrev pub is_version_at : Key × Entry → Option Entry → Bool
is_version_at e None = false
is_version_at e (Some other) = same_cache_version e.1.ver other.ver

-- where two nodes own a partition their values have the same versions
abbrev pub same_versions : (Key → Bool) → Copy → Copy → Bool
same_versions looked a b =
    list_all (λ (e : Key × Entry). is_tombstone e || not (looked e.0) || is_version_at e (at key_cmp b e.0)) a

-- After each group.

abbrev pub both_own : List ℕ → List CommitEntry → NodeId × Kept → NodeId × Kept → Key → Bool
both_own parts unsettled a b key = is_looked_at parts unsettled a key && owns b.0 b.1 key

abbrev pub store_fits : List ℕ → SoFar → List (NodeId × Kept) → NodeId × Kept → Bool
store_fits parts so stores a = is_map_there (is_looked_at parts so.unsettled a) so.left a.1.copy
    && list_all (λ (b : NodeId × Kept). same_versions (both_own parts so.unsettled a b) a.1.copy b.1.copy) stores

abbrev pub copies_fit : List ℕ → SoFar → List (NodeId × Kept) → Bool
copies_fit parts so stores = list_all (store_fits parts so stores) stores

-- the copies of all live nodes
abbrev pub copies_after : List ℕ → SoFar → Bool
copies_after parts so = copies_fit parts so (filter (λ (s : NodeId × Kept). not (is_lost so.recs s.0)) so.stores)

abbrev pub is_full_end : End → Bool
is_full_end end.AllEnded = true
is_full_end end.Stalled = true
is_full_end _ = false

-- where nothing is possible any more, and no held link keeps a message, no transaction is unsettled
abbrev pub settled_at_end : Journal → SoFar → Bool
settled_at_end j so = not (is_full_end j.end) || any_link_keeps j.scenario so.recs || nat_eq (length so.unsettled) 0

abbrev pub copies_from : Journal → Homes → List PartMap → List ℕ → SoFar → List Group → Bool
copies_from j session_nodes maps parts so [] = settled_at_end j so
copies_from j session_nodes maps parts so (g ∷ gs) =
    let now = without_settled maps (after_noted j so (noted_in j.scenario session_nodes g)) in
    copies_after parts now && copies_from j session_nodes maps parts now gs

abbrev pub copies : Journal → Bool
copies j = copies_from j (session_nodes_from 1 [] j.scenario.sessions) (maps_installed j.scenario (noted j.scenario j.groups))
    (map (λ (c : Cache). c.parts) j.scenario.caches) (at_opening j.scenario) j.groups
