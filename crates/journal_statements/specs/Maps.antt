-- Each version has one map: the opening map, or the next map that its oldest member makes of the singles of all members.
use Rattle.std.specs.List.{flat_map, list_all, list_any}
use Rattle.std.specs.Prelude.{Bool, None, Option, Some, [], drop, false, filter, if◌then◌else◌, is_some, length, nat_eq, not, take, true, ℕ, ◌&&◌, ◌+◌, ◌∷◌}
use Rattle.act_rows.specs.NewNodes.{opening_map_of}
use Rattle.act_rows.specs.Exchange.{all_sent}
use Rattle.part_model.specs.Directory.{oldest_member, running_from}
use Rattle.part_model.specs.NextMap.{next_map}
use Rattle.ignite_types.specs.Names.{same_top}
use Rattle.ignite_types.specs.Placement.{first_owner}
use Rattle.ignite_types.specs.declared.journal.Journal.{Journal}
use Rattle.ignite_types.specs.declared.journal.Rec.{Rec}
use Rattle.ignite_types.specs.declared.list.List.{List}
use Rattle.ignite_types.specs.declared.message.Single.{Single}
use Rattle.ignite_types.specs.declared.names.NodeId.{NodeId}
use Rattle.ignite_types.specs.declared.names.TopVer.{TopVer}
use Rattle.ignite_types.specs.declared.placement.PartMap.{PartMap}
use Rattle.ignite_types.specs.declared.placement.Row.{Row}
use Rattle.ignite_types.specs.declared.scenario.Cache.{Cache}
use Rattle.ignite_types.specs.declared.scenario.Scenario.{Scenario}
use Rattle.journal_statements.specs.Noted.{Noted, each_record, is_lost, map_of_version, maps_installed, noted, recs_of}
use Rattle.journal_statements.specs.SameMessages.{same_flag, same_map}
use Rattle.journal_statements.specs.Topologies.{Topology, topologies, topology_of}
use Rattle.ignite_types.specs.declared.message.Message.TheVariants as msg
use Rattle.ignite_types.specs.declared.journal.Rec.TheVariants as note

-- Owners exactly where the cache runs.

abbrev pub has_owner : Row → Bool
has_owner row = is_some (first_owner row)

abbrev pub owned_as : Bool → Row → Bool
owned_as runs row = same_flag runs (has_owner row)

-- the rows of these caches, the first of which has this number
abbrev pub owned_where_run : List ℕ → ℕ → List Cache → List Row → Bool
owned_where_run running number [] rows = nat_eq (length rows) 0
owned_where_run running number (c ∷ cs) rows = nat_eq (length (take c.parts rows)) c.parts
    && list_all (owned_as (list_any (nat_eq number) running)) (take c.parts rows)
    && owned_where_run running (number + 1) cs (drop c.parts rows)

-- The singles that the oldest member received.

abbrev pub single_in : TopVer → Rec → List Single
single_in version (note.Deliver from (msg.Single top m complete)) = if same_top top version
    then record { from = from; top = top; map = m; complete = complete } ∷ []
    else []
single_in version r = []

-- those of a version; a lost node's are discarded
abbrev pub singles_at : List Noted → NodeId → TopVer → List Single
singles_at before oldest top =
    filter (λ (s : Single). not (is_lost before s.from)) (flat_map (single_in top) (recs_of oldest before))

abbrev pub is_next_map : Scenario → Topology → PartMap → List Single → Bool
is_next_map scenario t m singles = all_sent t.members singles
    && same_map m (next_map t.top t.members scenario.caches t.running singles)

abbrev pub is_map_from : Scenario → List Noted → Topology → PartMap → Option NodeId → Bool
is_map_from scenario before t m None = false
is_map_from scenario before t m (Some oldest) = is_next_map scenario t m (singles_at before oldest t.top)

-- the first map of a later version
abbrev pub is_new_map : Scenario → List Noted → PartMap → Option Topology → Bool
is_new_map scenario before m None = false
is_new_map scenario before m (Some t) = owned_where_run t.running 0 scenario.caches m.rows
    && is_map_from scenario before t m (oldest_member t.members)

-- the map of a version that has one already
abbrev pub map_fits : Scenario → List Topology → List Noted → PartMap → Option PartMap → Bool
map_fits scenario ts before m None = is_new_map scenario before m (topology_of ts m.top)
map_fits scenario ts before m (Some there) = same_map m there

abbrev pub install_fits : Scenario → List Topology → List Noted → Rec → Bool
install_fits scenario ts before (note.Install m) =
    map_fits scenario ts before m (map_of_version (maps_installed scenario before) m.top)
install_fits scenario ts before r = true

-- a partition of the opening map has an owner exactly where its cache runs from the start
abbrev pub opening_map_fits : Scenario → Bool
opening_map_fits scenario = owned_where_run (running_from 0 scenario.caches) 0 scenario.caches (opening_map_of scenario).rows

abbrev pub maps : Journal → Bool
maps j = let ts = topologies j in opening_map_fits j.scenario
    && each_record (λ (before : List Noted) (n : Noted). install_fits j.scenario ts before n.rec) (noted j.scenario j.groups)
