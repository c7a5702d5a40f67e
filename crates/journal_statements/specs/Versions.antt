-- Each transaction has one topology version, and no version opens before all older transactions have ended.
use Rattle.std.specs.List.{flat_map, list_all, list_any}
use Rattle.std.specs.Prelude.{Bool, None, Option, Some, [], false, is_none, is_some, not, true, ℕ, ◌&&◌, ◌||◌, ◌∷◌}
use Rattle.part_model.specs.Directory.{first_top}
use Rattle.part_model.specs.NextMap.{is_member}
use Rattle.part_model.specs.Orders.{is_lower_top, is_node}
use Rattle.ignite_types.specs.Names.{same_top, same_tx}
use Rattle.ignite_types.specs.declared.journal.Journal.{Journal}
use Rattle.ignite_types.specs.declared.journal.Rec.{Rec}
use Rattle.ignite_types.specs.declared.list.List.{List}
use Rattle.ignite_types.specs.declared.names.NodeId.{NodeId}
use Rattle.ignite_types.specs.declared.names.TopVer.{TopVer}
use Rattle.ignite_types.specs.declared.names.TxId.{TxId}
use Rattle.ignite_types.specs.declared.placement.PartMap.{PartMap}
use Rattle.ignite_types.specs.declared.scenario.Scenario.{Scenario}
use Rattle.ignite_types.specs.declared.text.Key.{Key}
use Rattle.tx_model.specs.History.{footprint}
use Rattle.journal_statements.specs.Noted.{Noted, all_applied, each_record, holders_of_key, is_committed_before, is_lost, maps_installed, noted, version_of_tx}
use Rattle.ignite_types.specs.declared.journal.Rec.TheVariants as note

-- One version.

abbrev pub is_opened_in : TopVer → Rec → Bool
is_opened_in top (note.Opened opened) = same_top opened top
is_opened_in top r = false

abbrev pub has_opened : NodeId → TopVer → Noted → Bool
has_opened node top n = is_node node n.node && is_opened_in top n.rec

-- the version was open at the node: it opened there, or it is the first one at an initial node
abbrev pub was_open : Scenario → List Noted → NodeId → TopVer → Bool
was_open scenario before node top =
    (same_top top first_top && is_member scenario.nodes node) || list_any (has_opened node top) before

abbrev pub is_same_version : TopVer → Option TopVer → Bool
is_same_version top None = false
is_same_version top (Some version) = same_top version top

abbrev pub is_version_of : List Noted → TxId → TopVer → Bool
is_version_of before tx top = is_same_version top (version_of_tx before tx)

abbrev pub one_version_at : Scenario → List Noted → Rec → Bool
one_version_at scenario before (note.Start tx top) = is_none (version_of_tx before tx) && was_open scenario before tx.node top
one_version_at scenario before (note.Grant tx top key) = is_version_of before tx top
one_version_at scenario before (note.Apply tx top primary key new ver) = is_version_of before tx top
one_version_at scenario before (note.Decide tx true) = is_some (version_of_tx before tx)
one_version_at scenario before r = true

-- a transaction has at most one Start, whose version was open at its starter; its grants and applies name that version and
-- stand behind the Start, and so does a commit decision
abbrev pub one_version : Journal → Bool
one_version j =
    each_record (λ (before : List Noted) (n : Noted). one_version_at j.scenario before n.rec) (noted j.scenario j.groups)

-- Drained.

abbrev pub start_entries : Rec → List (TxId × TopVer)
start_entries (note.Start tx top) = (tx, top) ∷ []
start_entries r = []

-- the transactions that have started, with their versions
abbrev pub started_txs : List Noted → List (TxId × TopVer)
started_txs recs = flat_map (λ (n : Noted). start_entries n.rec) recs

abbrev pub is_decide_in : TxId → Rec → Bool
is_decide_in tx (note.Decide u commit) = same_tx u tx
is_decide_in tx r = false

abbrev pub is_decided : List Noted → TxId → Bool
is_decided recs tx = list_any (λ (n : Noted). is_decide_in tx n.rec) recs

abbrev pub write_applied : List PartMap → List Noted → TxId → Key × Option (List ℕ) → Bool
write_applied maps before tx w = all_applied before tx w.0 (holders_of_key maps before tx w.0)

-- a committed transaction's writes are applied at each live holder
abbrev pub writes_applied : Journal → List PartMap → List Noted → TxId → Bool
writes_applied j maps before tx = list_all (write_applied maps before tx) (footprint j.groups tx).writes

-- an older transaction has ended: it is decided or its starter is lost, and where it is committed its writes are applied
abbrev pub has_ended : Journal → List PartMap → List Noted → TxId → Bool
has_ended j maps before tx = (is_decided before tx || is_lost before tx.node)
    && (not (is_committed_before before tx) || writes_applied j maps before tx)

abbrev pub older_ended : Journal → List PartMap → List Noted → TopVer → TxId × TopVer → Bool
older_ended j maps before top t = not (is_lower_top t.1 top) || has_ended j maps before t.0

-- the versions that were opened, anywhere
abbrev pub opened_in : Rec → List TopVer
opened_in (note.Opened top) = top ∷ []
opened_in r = []

abbrev pub opened_before : List Noted → List TopVer
opened_before recs = flat_map (λ (n : Noted). opened_in n.rec) recs

-- nothing of a version below one that was opened
abbrev pub is_not_older : List Noted → TopVer → Bool
is_not_older before top = list_all (λ (opened : TopVer). not (is_lower_top top opened)) (opened_before before)

abbrev pub is_not_older_tx : List Noted → Option TopVer → Bool
is_not_older_tx before None = true
is_not_older_tx before (Some top) = is_not_older before top

abbrev pub drained_at : Journal → List PartMap → List Noted → Rec → Bool
drained_at j maps before (note.Opened top) =
    list_any (same_top top) (opened_before before) || list_all (older_ended j maps before top) (started_txs before)
drained_at j maps before (note.Start tx top) = is_not_older before top
drained_at j maps before (note.Grant tx top key) = is_not_older before top
drained_at j maps before (note.Apply tx top primary key new ver) = is_not_older before top
drained_at j maps before (note.Decide tx commit) = is_not_older_tx before (version_of_tx before tx)
drained_at j maps before r = true

-- when a version is first opened all older transactions have ended, and nothing of them follows
abbrev pub drained : Journal → Bool
drained j = let recs = noted j.scenario j.groups in let maps = maps_installed j.scenario recs in
    each_record (λ (before : List Noted) (n : Noted). drained_at j maps before n.rec) recs

-- Decisions.

abbrev pub decision_stands : List Noted → Rec → Bool
decision_stands before (note.Decide tx false) = not (is_committed_before before tx)
decision_stands before r = true

-- no rollback decision stands behind a commit decision
abbrev pub commits_stand : Journal → Bool
commits_stand j = each_record (λ (before : List Noted) (n : Noted). decision_stands before n.rec) (noted j.scenario j.groups)
