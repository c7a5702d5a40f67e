-- What the report takes from a journal's records.
use Rattle.std.specs.Ordering.{match_ordering}
use Rattle.std.specs.Prelude.{List, [], if◌then◌else◌, length, ◌++◌, ◌==◌, ◌∷◌}
use Rattle.part_model.specs.Directory.{first_top}
use Rattle.ignite_types.specs.Names.{top_cmp}
use Rattle.ignite_types.specs.declared.journal.Group.{Group}
use Rattle.ignite_types.specs.declared.journal.Rec.{Rec}
use Rattle.ignite_types.specs.declared.message.Edge.{Edge}
use Rattle.ignite_types.specs.declared.names.TopVer.{TopVer}
use Rattle.ignite_types.specs.declared.names.TxId.{TxId}
use Rattle.report_text.specs.declared.digest.Digest.{Digest}
use Rattle.ignite_types.specs.declared.journal.Rec.TheVariants as note

-- the later of two versions
abbrev pub later_version : TopVer → TopVer → TopVer
later_version a b = match_ordering (top_cmp a b) b a a

-- a search that found no circle has no edges
abbrev pub with_search : Digest → TxId → List Edge → Digest
with_search d tx edges =
    if length edges == 0 then d
    else record d { deadlocks = d.deadlocks ++ record { tx = tx; edges = edges } ∷ [] }

-- the answers, the plan steps done or refused, the deadlocks, and the highest version that was opened
abbrev pub with_rec : Digest → Rec → Digest
with_rec d (note.Answer session answer) =
    record d { answers = d.answers ++ record { session = session; answer = answer } ∷ [] }
with_rec d (note.Planned place refused) = record d { steps = d.steps ++ (place, refused) ∷ [] }
with_rec d (note.Searched tx edges) = with_search d tx edges
with_rec d (note.Opened top) = record d { top = later_version d.top top }
with_rec d rec = d

abbrev pub with_recs : Digest → List Rec → Digest
with_recs d [] = d
with_recs d (r ∷ rs) = with_recs (with_rec d r) rs

abbrev pub with_groups : Digest → List Group → Digest
with_groups d [] = d
with_groups d (g ∷ gs) = with_groups (with_recs d g.recs) gs

-- of no group: a run begins with version 1.0 open
abbrev pub no_digest : Digest
no_digest = record { answers = []; steps = []; deadlocks = []; top = first_top }

abbrev pub digest : List Group → Digest
digest groups = with_groups no_digest groups
