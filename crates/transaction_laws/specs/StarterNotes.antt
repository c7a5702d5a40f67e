-- What a node's own records are, each by those before it; and the lists of what lost starters have left behind.
use Rattle.std.specs.List.{list_any}
use Rattle.std.specs.Ordering.{nat_cmp}
use Rattle.std.specs.Prelude.{Bool, Option, Some, [], false, true, ℕ, ◌&&◌, ◌++◌, ◌||◌, ◌∷◌, ◌≡◌, ◌≤◌, ◌⊎◌}
use Rattle.part_model.specs.Directory.{first_top}
use Rattle.ignite_types.specs.Names.{same_top}
use Rattle.ignite_types.specs.declared.journal.Rec.{Rec}
use Rattle.ignite_types.specs.declared.list.List.{List}
use Rattle.ignite_types.specs.declared.message.Message.{Message}
use Rattle.ignite_types.specs.declared.message.Orphan.{Orphan}
use Rattle.ignite_types.specs.declared.message.Out.{Out}
use Rattle.ignite_types.specs.declared.names.NodeId.{NodeId}
use Rattle.ignite_types.specs.declared.names.TopVer.{TopVer}
use Rattle.ignite_types.specs.declared.names.TxId.{TxId}
use Rattle.journal_statements.specs.Noted.{Noted, is_lost}
use Rattle.journal_statements.specs.Versions.{is_opened_in}
use Rattle.node_state.specs.declared.session.SessionState.{SessionState}
use Rattle.node_state.specs.declared.topology.Report.{Report}
use Rattle.ordered_table.specs.Entries.{at}
use Rattle.topology_laws.specs.TopologyFacts.{HoldsOfEach}
use Rattle.transaction_laws.specs.StarterFacts.{decisions, versions}
use Rattle.ignite_types.specs.declared.journal.Rec.TheVariants as note
use Rattle.ignite_types.specs.declared.message.Message.TheVariants as msg

-- Records of a node.

-- the version was open here: it was opened by a record, or it is the first one, and the node an initial one
abbrev pub was_open_here : Bool → List Rec → TopVer → Bool
was_open_here initial own top = (same_top top first_top && initial) || list_any (is_opened_in top) own

-- a Start is of a version that is open here; of its session's transactions neither itself nor a later one has a Start yet
pub record StartFits (me : NodeId) (initial : Bool) (own : List Rec) (tx : TxId) (top : TopVer) : Type 0 where
  pub is_latest : (u : TxId) → u.node ≡ me → u.session ≡ tx.session → tx.number ≤ u.number → versions u own ≡ []
  pub is_open : was_open_here initial own top ≡ true

-- a record of a node, by its own records before
abbrev pub OwnRecordFits : NodeId → Bool → List Rec → Rec → Type 0
OwnRecordFits me initial own (note.Start tx top) = StartFits me initial own tx top
OwnRecordFits me initial own (note.Decide tx commit) = tx.node ≡ me → decisions tx own ≡ []
OwnRecordFits me initial own r = Unit {0}

abbrev pub OwnRecordsFit : NodeId → Bool → List Rec → List Rec → Type 0
OwnRecordsFit me initial own [] = Unit {0}
OwnRecordsFit me initial own (r ∷ rs) = OwnRecordFits me initial own r × OwnRecordsFit me initial (own ++ r ∷ []) rs

-- at a node with these records, an initial one or not: no session has had more transactions than this, the version that is open
-- was opened, and each record fits
pub record NotesFit (me : NodeId) (initial : Bool) (most : ℕ) (own : List Rec)
    (session_states : List (ℕ × SessionState)) (opened : Option TopVer) : Type 0 where
  pub few : (session : ℕ) (d : SessionState) → at nat_cmp session_states session ≡ Some d → d.started ≤ most
  pub opened_is : (top : TopVer) → opened ≡ Some top → was_open_here initial own top ≡ true
  pub fit : OwnRecordsFit me initial [] own

-- a record of no loss
abbrev pub tells_no_loss : Rec → Bool
tells_no_loss (note.Lost node) = false
tells_no_loss r = true

-- What lost starters leave behind.

-- a list names transactions of lost starters alone
abbrev pub NamesLost : List Noted → List Orphan → Type 0
NamesLost recs list = HoldsOfEach (λ (o : Orphan). is_lost recs o.tx.node ≡ true) list

abbrev pub MessageNamesLost : List Noted → Message → Type 0
MessageNamesLost recs (msg.Orphans round list) = NamesLost recs list
MessageNamesLost recs m = Unit {0}

-- a node has seen none leave that is not lost, and the lists that it keeps and sends name lost starters
pub record ListsFit (recs : List Noted) (left : List NodeId) (reports : List Report) (outbox : List Out) : Type 0 where
  pub left_lost : HoldsOfEach (λ (n : NodeId). is_lost recs n ≡ true) left
  pub reports_lost : HoldsOfEach (λ (r : Report). NamesLost recs r.list) reports
  pub outbox_lost : HoldsOfEach (λ (o : Out). MessageNamesLost recs o.msg) outbox

-- Starts are their node's own; decisions too, or their starter is lost by these records
abbrev pub IsOwnOrLost : List Noted → Option NodeId → Rec → Type 0
IsOwnOrLost recs who (note.Start tx top) = who ≡ Some tx.node
IsOwnOrLost recs who (note.Decide tx commit) = (who ≡ Some tx.node) ⊎ (is_lost recs tx.node ≡ true)
IsOwnOrLost recs who r = Unit {0}

abbrev pub AreOwnOrLost : List Noted → List Noted → Type 0
AreOwnOrLost before [] = Unit {0}
AreOwnOrLost before (n ∷ ns) = IsOwnOrLost before n.node n.rec × AreOwnOrLost (before ++ n ∷ []) ns
