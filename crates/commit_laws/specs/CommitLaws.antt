-- The law of applied writes, as a statement of a journal.
use Rattle.std.specs.Prelude.{Bool, true}
use Rattle.ignite_types.specs.declared.journal.Journal.{Journal}
use Rattle.ignite_types.specs.declared.journal.Rec.{Rec}
use Rattle.ignite_types.specs.declared.list.List.{List}
use Rattle.journal_statements.specs.Noted.{Noted, each_record, is_committed_before, noted}
use Rattle.ignite_types.specs.declared.journal.Rec.TheVariants as note

-- a write that is applied is one of a transaction that was decided to commit before
abbrev pub is_apply_committed : List Noted → Rec → Bool
is_apply_committed before (note.Apply tx top primary key new ver) = is_committed_before before tx
is_apply_committed before r = true

abbrev pub is_committed_record : List Noted → Noted → Bool
is_committed_record before n = is_apply_committed before n.rec

-- each write that a node applies, as a primary, a backup or a mover, stands behind a commit decision of its transaction
abbrev pub applies_are_committed : Journal → Bool
applies_are_committed j = each_record is_committed_record (noted j.scenario j.groups)
