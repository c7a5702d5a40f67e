-- The laws of where partitions have owners, as statements of a journal.
use Rattle.std.specs.List.{list_all, list_any}
use Rattle.std.specs.Prelude.{Bool, None, Option, Some, [], drop, false, length, nat_eq, not, take, true, ℕ, ◌&&◌, ◌+◌, ◌||◌, ◌∷◌}
use Rattle.ignite_types.specs.declared.journal.Journal.{Journal}
use Rattle.ignite_types.specs.declared.journal.Rec.{Rec}
use Rattle.ignite_types.specs.declared.list.List.{List}
use Rattle.ignite_types.specs.declared.names.NodeId.{NodeId}
use Rattle.ignite_types.specs.declared.placement.PartMap.{PartMap}
use Rattle.ignite_types.specs.declared.placement.Row.{Row}
use Rattle.ignite_types.specs.declared.scenario.Cache.{Cache}
use Rattle.ignite_types.specs.declared.scenario.Scenario.{Scenario}
use Rattle.journal_statements.specs.Maps.{has_owner}
use Rattle.journal_statements.specs.Noted.{Noted, each_record, noted}
use Rattle.journal_statements.specs.Topologies.{Topology, topologies, topology_of}
use Rattle.part_model.specs.NextMap.{is_member}
use Rattle.ignite_types.specs.declared.journal.Rec.TheVariants as note

-- a partition of a cache that does not run has no owner
abbrev pub bare_unless : Bool → Row → Bool
bare_unless runs row = runs || not (has_owner row)

-- the rows of these caches, the first of which has this number: one for each partition, and those of caches that do not run are
-- without owners
abbrev pub bare_where_stopped : List ℕ → ℕ → List Cache → List Row → Bool
bare_where_stopped running number [] rows = nat_eq (length rows) 0
bare_where_stopped running number (c ∷ cs) rows = nat_eq (length (take c.parts rows)) c.parts
    && list_all (bare_unless (list_any (nat_eq number) running)) (take c.parts rows)
    && bare_where_stopped running (number + 1) cs (drop c.parts rows)

abbrev pub is_bare_in : Scenario → PartMap → Option Topology → Bool
is_bare_in s m None = false
is_bare_in s m (Some t) = bare_where_stopped t.running 0 s.caches m.rows

-- whether the test holds of the map that is installed, with the first topology of its version
abbrev pub installs_fitting : (PartMap → Option Topology → Bool) → List Topology → Rec → Bool
installs_fitting fits ts (note.Install m) = fits m (topology_of ts m.top)
installs_fitting fits ts r = true

-- each map that is installed has a row for each partition, and an owner only where the cache is one of its version
abbrev pub owned_only_where_run : Journal → Bool
owned_only_where_run j = let ts = topologies j in
    each_record (λ (before : List Noted) (n : Noted). installs_fitting (is_bare_in j.scenario) ts n.rec)
    (noted j.scenario j.groups)

-- the owners and movers of a row are such nodes
abbrev pub holds_only : (NodeId → Bool) → Row → Bool
holds_only is row = list_all is row.owners && list_all is row.movers

abbrev pub is_held_by_members : PartMap → Option Topology → Bool
is_held_by_members m None = false
is_held_by_members m (Some t) = list_all (holds_only (is_member t.members)) m.rows

-- in each map that is installed all owners and movers are members of its version
abbrev pub held_by_members : Journal → Bool
held_by_members j = let ts = topologies j in
    each_record (λ (before : List Noted) (n : Noted). installs_fitting is_held_by_members ts n.rec) (noted j.scenario j.groups)
