-- What each node keeps, as its records tell it, and that it is the serial map wherever no commit is in work.
use Rattle.std.specs.Prelude.{Bool, None, Option, Some, [], false, filter, if◌then◌else◌, is_some, ◌&&◌, ◌∷◌}
use Rattle.act_rows.specs.NewNodes.{map_if, opening_map_of}
use Rattle.act_rows.specs.Steps.{is_mover_in, is_owner_in}
use Rattle.part_model.specs.Copies.{Copy, copy_after_supply, copy_after_write}
use Rattle.part_model.specs.NextMap.{is_member}
use Rattle.part_model.specs.declared.copies.Entry.{Entry}
use Rattle.ignite_types.specs.Names.{same_top}
use Rattle.ignite_types.specs.Placement.{row_of}
use Rattle.ignite_types.specs.declared.journal.Rec.{Rec}
use Rattle.ignite_types.specs.declared.list.List.{List}
use Rattle.ignite_types.specs.declared.names.NodeId.{NodeId}
use Rattle.ignite_types.specs.declared.names.TopVer.{TopVer}
use Rattle.ignite_types.specs.declared.placement.PartMap.{PartMap}
use Rattle.ignite_types.specs.declared.placement.Row.{Row}
use Rattle.ignite_types.specs.declared.scenario.Scenario.{Scenario}
use Rattle.ignite_types.specs.declared.text.Key.{Key}
use Rattle.ignite_types.specs.declared.message.Message.TheVariants as msg
use Rattle.ignite_types.specs.declared.journal.Rec.TheVariants as note

-- A node's store: the map installed last, where there is one, and its copies, all partitions in one list by key.
pub record Kept : Type 0 where
  pub map : Option PartMap
  pub copy : Copy

abbrev pub row_in : Option PartMap → Key → Option Row
row_in None key = None
row_in (Some m) key = row_of m key

abbrev pub owns : NodeId → Kept → Key → Bool
owns me s key = is_owner_in me (row_in s.map key)

abbrev pub is_mover_of : NodeId → Kept → Key → Bool
is_mover_of me s key = is_mover_in me (row_in s.map key)

-- a map empties the copies of which it does not make the node an owner; it moved the others before, if at all, and needs no
-- marks
abbrev pub keeps_owned : NodeId → PartMap → Copy → Copy
keeps_owned me m copy = filter (λ (e : Key × Entry). is_some e.1.value && is_owner_in me (row_of m e.0)) copy

abbrev pub is_map_of : TopVer → Option PartMap → Bool
is_map_of top None = false
is_map_of top (Some m) = same_top m.top top

-- an apply of a write, a supply under the installed map, and an installed map change the store
abbrev pub kept_after : NodeId → Kept → Rec → Kept
kept_after me s (note.Apply tx top primary key new ver) =
    record s { copy = copy_after_write s.copy (record { key = key; value = new; ver = ver }) (is_mover_of me s key) }
kept_after me s (note.Deliver from (msg.Supply top part entries last)) =
    if is_map_of top s.map then record s { copy = copy_after_supply s.copy entries } else s
kept_after me s (note.Install m) = record { map = Some m; copy = keeps_owned me m s.copy }
kept_after me s r = s

abbrev pub kept_over : NodeId → Kept → List Rec → Kept
kept_over me s [] = s
kept_over me s (r ∷ rs) = kept_over me (kept_after me s r) rs

-- an initial node has the opening map; each copy begins empty
abbrev pub empty_store : Scenario → NodeId → Kept
empty_store scenario me = record { map = map_if (is_member scenario.nodes me) (opening_map_of scenario); copy = [] }

-- what a node with these records keeps
abbrev pub kept_by : Scenario → NodeId → List Rec → Kept
kept_by scenario me recs = kept_over me (empty_store scenario me) recs
