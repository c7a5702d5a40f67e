-- The laws of what starters ask and are told, as statements of a journal.
use Rattle.std.specs.List.{list_all}
use Rattle.std.specs.Prelude.{Bool, None, Option, Some, false, true}
use Rattle.ignite_types.specs.declared.journal.Journal.{Journal}
use Rattle.ignite_types.specs.declared.journal.Rec.{Rec}
use Rattle.ignite_types.specs.declared.names.NodeId.{NodeId}
use Rattle.journal_statements.specs.Noted.{Noted, noted}
use Rattle.told_laws.specs.LeavesAccesses.{is_right}
use Rattle.ignite_types.specs.declared.journal.Rec.TheVariants as note

-- a message that was sent or taken, by the node that noted it
abbrev pub is_right_record : Option NodeId → Rec → Bool
is_right_record (Some n) (note.Sent to m) = is_right n to m
is_right_record None (note.Sent to m) = false
is_right_record (Some n) (note.Deliver from m) = is_right from n m
is_right_record None (note.Deliver from m) = false
is_right_record who r = true

abbrev pub is_recorded_right : Noted → Bool
is_recorded_right n = is_right_record n.node n.rec

-- wherever one is sent or taken: a Lock, a Get or a Prepare comes from its transaction's starter; a LockOk, a GetOk, a
-- Prepared or a PrepareFail goes to it
abbrev pub starters_ask : Journal → Bool
starters_ask j = list_all is_recorded_right (noted j.scenario j.groups)
