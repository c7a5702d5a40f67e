-- A committed transaction is applied whole: at all live holders before it is told, and before its locks are free.
use Rattle.std.specs.List.{list_all, list_any}
use Rattle.std.specs.Option.{option_and_then}
use Rattle.std.specs.Prelude.{Bool, None, Option, Some, nat_eq, not, true, ℕ, ◌&&◌, ◌||◌}
use Rattle.part_model.specs.Orders.{is_node}
use Rattle.ignite_types.specs.Names.{same_key}
use Rattle.ignite_types.specs.Placement.{part_of}
use Rattle.ignite_types.specs.declared.journal.Journal.{Journal}
use Rattle.ignite_types.specs.declared.journal.Rec.{Rec}
use Rattle.ignite_types.specs.declared.list.List.{List}
use Rattle.ignite_types.specs.declared.names.NodeId.{NodeId}
use Rattle.ignite_types.specs.declared.names.TxId.{TxId}
use Rattle.ignite_types.specs.declared.placement.PartMap.{PartMap}
use Rattle.ignite_types.specs.declared.scenario.Command.{Command}
use Rattle.ignite_types.specs.declared.text.Key.{Key}
use Rattle.tx_model.specs.History.{footprint, same_value}
use Rattle.journal_statements.specs.Noted.{Noted, all_applied, each_record, holders_of_key, is_committed_before, map_of_version, maps_installed, noted, version_of_tx}
use Rattle.journal_statements.specs.Told.{closing, is_told_committed}
use Rattle.journal_statements.specs.Versions.{writes_applied}
use Rattle.journal_statements.specs.Walks.{Answered, each_answer, with_command}
use Rattle.ignite_types.specs.declared.journal.Rec.TheVariants as note

abbrev pub is_write : Key → Option (List ℕ) → Key × Option (List ℕ) → Bool
is_write key new w = same_key w.0 key && same_value w.1 new

-- an apply stands behind its commit decision, at a holder of its key, and carries the written value
abbrev pub apply_fits : Journal → List PartMap → List Noted → Option NodeId → TxId → Key → Option (List ℕ) → Bool
apply_fits j maps before who tx key new = is_committed_before before tx
    && list_any (λ (holder : NodeId). is_node holder who) (holders_of_key maps before tx key)
    && list_any (is_write key new) (footprint j.groups tx).writes

-- the part of a key by the map of a transaction's version
abbrev pub part_in : Key → Option PartMap → ℕ
part_in key None = 0
part_in key (Some m) = part_of m.parts key

abbrev pub part_for : List PartMap → List Noted → TxId → Key → ℕ
part_for maps before tx key = part_in key (option_and_then (map_of_version maps) (version_of_tx before tx))

-- a write in the dropped key's partition is applied at each live holder of that key
abbrev pub drop_fits : List PartMap → List Noted → List Noted → TxId → Key → Key × Option (List ℕ) → Bool
drop_fits maps whole before tx key w = not (nat_eq (part_for maps whole tx w.0) (part_for maps whole tx key))
    || all_applied before tx w.0 (holders_of_key maps whole tx key)

-- `whole` are all records of the journal, so that a drop is looked at too where the commit decision stands behind it
abbrev pub synced_at : Journal → List PartMap → List Noted → List Noted → Option NodeId → Rec → Bool
synced_at j maps whole before who (note.Apply tx top primary key new ver) = apply_fits j maps before who tx key new
synced_at j maps whole before who (note.Drop tx key) = not (is_committed_before whole tx)
    || list_all (drop_fits maps whole before tx key) (footprint j.groups tx).writes
synced_at j maps whole before who r = true

-- applies are those of committed writes at their holders, and a lock of a committed transaction is free only after them
abbrev pub applied_whole : Journal → Bool
applied_whole j = let whole = noted j.scenario j.groups in let maps = maps_installed j.scenario whole in
    each_record (λ (before : List Noted) (n : Noted). synced_at j maps whole before n.node n.rec) whole

abbrev pub applied_if_told : Journal → List PartMap → Answered → Command → Bool
applied_if_told j maps a c = not (is_told_committed (closing a.walk c a.answer)) || writes_applied j maps a.before a.tx

-- a transaction is told committed only when its writes are applied at each live holder
abbrev pub told_when_applied : Journal → Bool
told_when_applied j = let maps = maps_installed j.scenario (noted j.scenario j.groups) in
    each_answer (λ (a : Answered). with_command true (applied_if_told j maps a) a.walk.called) j

-- what is committed is applied whole, before it is told and before its locks are free
abbrev pub full_sync : Journal → Bool
full_sync j = applied_whole j && told_when_applied j
