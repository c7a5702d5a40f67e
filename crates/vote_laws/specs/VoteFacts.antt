-- What is true of votes and ends in every world that a run without topology events reaches.
use Rattle.std.specs.Prelude.{Bool, [], false, true, ◌∷◌, ◌≡◌, ◌⊎◌, None, Option, Some}
use Rattle.act_rows.specs.Steps.{backup_name}
use Rattle.ignite_types.specs.Names.{same_node}
use Rattle.ignite_types.specs.declared.list.List.{List}
use Rattle.ignite_types.specs.declared.message.Message.{Message}
use Rattle.ignite_types.specs.declared.names.NodeId.{NodeId}
use Rattle.ignite_types.specs.declared.names.TxId.{TxId}
use Rattle.ignite_types.specs.declared.placement.Share.{Share}
use Rattle.ignite_types.specs.declared.placement.ShareState.TheVariants.{Prepared, Preparing}
use Rattle.journal_statements.specs.ShareLaws.{is_ready_state, is_share_committed}
use Rattle.node_state.specs.declared.near.TxEntry.{TxEntry}
use Rattle.node_state.specs.declared.near.TxState.{TxState}
use Rattle.node_state.specs.declared.primary.BackupName.{BackupName}
use Rattle.node_state.specs.declared.primary.BackupShare.{BackupShare}
use Rattle.node_state.specs.declared.primary.OwnShare.{OwnShare}
use Rattle.owner_laws.specs.LockFacts.{Each, In}
use Rattle.scenes.specs.Rows.{MessageInHand}
use Rattle.vote_laws.specs.VoteViews.{VoteView}
use Rattle.ignite_types.specs.declared.message.Message.TheVariants as msg
use Rattle.node_state.specs.declared.near.TxState.TheVariants as state

-- how its starter has decided
abbrev pub Decided : VoteView → TxId → Bool → Type 0
Decided v t commit = v.decided t.node t ≡ commit ∷ []

abbrev pub IsDecided : List Bool → Type 0
IsDecided decisions = (commit : Bool) × (decisions ≡ commit ∷ [])

-- what all nodes hold for themselves, and for other primaries
abbrev pub OwnShares : Type 0
OwnShares = NodeId → TxId → Option OwnShare

abbrev pub Backups : Type 0
Backups = NodeId → BackupName → Option BackupShare

-- its starter awaits the answers to its Prepare
pub record Asking (e : Option TxEntry) : Type 0 where
  pub entry : TxEntry
  pub there : e ≡ Some entry
  pub preparing : entry.state ≡ state.Preparing

abbrev pub a_share : NodeId → NodeId → Share
a_share holder primary = record { holder = holder; primary = primary }

-- the share that is held for another primary is Prepared
pub record IsBackupReady (b : Option BackupShare) : Type 0 where
  pub kept : BackupShare
  pub there : b ≡ Some kept
  pub prepared : kept.state ≡ Prepared

-- a primary's own share is Prepared, and no finish is in work
pub record IsOwnReady (h : Option OwnShare) : Type 0 where
  pub kept : OwnShare
  pub there : h ≡ Some kept
  pub prepared : kept.state ≡ Prepared
  pub idle : kept.askers ≡ []

-- the primary's vote: its own share, which names these shares, and those of its other holders are Prepared
pub record IsReady (own_share : Option OwnShare) (backup : Backups) (t : TxId) (primary : NodeId) (shares : List Share)
    : Type 0 where
  pub own : IsOwnReady own_share
  pub same : own.kept.shares ≡ shares
  pub backups : (holder : NodeId) → In (a_share holder primary) shares → same_node holder primary ≡ false
      → IsBackupReady (backup holder (backup_name t primary))

-- a Prepare on its way to b: this primary has no share yet
pub record PrepareComes (decisions : List Bool) (e : Option TxEntry) (own_share : Option OwnShare) (b : NodeId)
    (shares : List Share) : Type 0 where
  pub undecided : decisions ≡ []
  pub asking : Asking e
  pub same : asking.entry.shares ≡ shares
  pub asked : In b asking.entry.asked
  pub none : own_share ≡ None

-- a Prepared on its way from a
pub record PreparedComes (e : Option TxEntry) (own_share : Option OwnShare) (backup : Backups) (a : NodeId) (t : TxId)
    : Type 0 where
  pub asking : Asking e
  pub asked : In a asking.entry.asked
  pub ready : IsReady own_share backup t a asking.entry.shares

-- what a Finish on its way from a to b tells
abbrev pub FinishFact : VoteView → NodeId → NodeId → TxId → Bool → Type 0
FinishFact v a b t true = (t.node ≡ a) × Decided v t true × IsOwnReady (v.share b t)
FinishFact v a b t false = Decided v t false

-- what a message on its way from a to b tells of votes; messages of topology are never on their way
abbrev pub Fact : VoteView → NodeId → NodeId → Message → Type 0
Fact v a b (msg.Prepare t top mode shares wanted writes) =
    (t.node ≡ a) × (Decided v t false ⊎ PrepareComes (v.decided t.node t) (v.entry t.node t) (v.share b t) b shares)
Fact v a b (msg.Prepared t) = IsDecided (v.decided t.node t) ⊎ PreparedComes (v.entry t.node t) (v.share a t) v.backup a t
Fact v a b (msg.BackupPrepare t top shares primary writes) = primary ≡ a
Fact v a b (msg.BackupPrepared t) = IsDecided (v.decided t.node t) ⊎ IsBackupReady (v.backup a (backup_name t b))
Fact v a b (msg.Finish t commit) = FinishFact v a b t commit
Fact v a b (msg.BackupFinish t primary commit) = Decided v t commit
Fact v a b (msg.Single top x complete) = ⊥
Fact v a b (msg.Full x) = ⊥
Fact v a b (msg.Installed top) = ⊥
Fact v a b (msg.Opens top) = ⊥
Fact v a b (msg.Demand top part after) = ⊥
Fact v a b (msg.Supply top part entries last) = ⊥
Fact v a b (msg.Complete top) = ⊥
Fact v a b (msg.Orphans round list) = ⊥
Fact v a b _ = Unit {0}

-- messages that come once on their link
pub data Tag : Type 0 where
  APrepare : TxId → Tag
  ACommit : TxId → Tag

abbrev pub once_finish : TxId → Bool → Option Tag
once_finish t true = Some (ACommit t)
once_finish t false = None

abbrev pub once : Message → Option Tag
once (msg.Prepare t top mode shares wanted writes) = Some (APrepare t)
once (msg.Finish t commit) = once_finish t commit
once _ = None

-- no message of the list is this one again
abbrev pub IsNew : Message → List Message → Type 0
IsNew x ms = (y : Message) (g : Tag) → In y ms → once x ≡ Some g → once y ≡ Some g → ⊥

abbrev pub Apart : List Message → Type 0
Apart [] = Unit {0}
Apart (x ∷ ms) = IsNew x ms × Apart ms

-- an own share of an undecided transaction: its starter has asked this primary, and names all its shares; each other holder is
-- awaited, or its share is Prepared
pub record Votes (decisions : List Bool) (e : Option TxEntry) (backup : Backups) (n : NodeId) (t : TxId) (h : OwnShare)
    : Type 0 where
  pub undecided : decisions ≡ []
  pub asking : Asking e
  pub same : h.shares ≡ asking.entry.shares
  pub asked : In n asking.entry.asked
  pub idle : h.askers ≡ []
  pub either : (h.state ≡ Preparing) ⊎ (h.state ≡ Prepared)
  pub backups : (holder : NodeId) → In (a_share holder n) h.shares → same_node holder n ≡ false
      → ((h.state ≡ Preparing) × In holder h.awaited) ⊎ IsBackupReady (backup holder (backup_name t n))

-- an own share, by the decision
abbrev pub ShareFactOf : List Bool → Option TxEntry → Backups → NodeId → TxId → Option OwnShare → Type 0
ShareFactOf decisions e backup n t None = Unit {0}
ShareFactOf decisions e backup n t (Some h) = ((decisions ≡ false ∷ []) × (is_share_committed h.state ≡ false))
    ⊎ ((decisions ≡ true ∷ []) × (is_ready_state h.state ≡ true)) ⊎ Votes decisions e backup n t h

abbrev pub ShareFact : VoteView → NodeId → TxId → Option OwnShare → Type 0
ShareFact v n t h = ShareFactOf (v.decided t.node t) (v.entry t.node t) v.backup n t h

-- a Committed share that is held for another primary is of a committed transaction
abbrev pub BackupFact : VoteView → TxId → Option BackupShare → Type 0
BackupFact v t None = Unit {0}
BackupFact v t (Some h) = is_share_committed h.state ≡ true → Decided v t true

-- it is undecided, and its Prepare was not sent yet
abbrev pub is_before_vote : TxState → Bool
is_before_vote state.Idle = true
is_before_vote state.Active = true
is_before_vote state.Waiting = true
is_before_vote state.Searching = true
is_before_vote _ = false

-- no node stands in the list twice
abbrev pub Distinct : List NodeId → Type 0
Distinct [] = Unit {0}
Distinct (n ∷ ns) = (In n ns → ⊥) × Distinct ns

-- a transaction at its starter: each primary that it has asked for its vote is awaited, or it has voted
pub record EntryFactOf (decisions : List Bool) (share : OwnShares) (backup : Backups) (t : TxId) (e : TxEntry) : Type 0 where
  pub asks : is_before_vote e.state ≡ true → e.keys ≡ [] → e.asked ≡ []
  pub distinct : e.state ≡ state.Preparing → Distinct e.asked
  pub counted : e.state ≡ state.Preparing → (x : NodeId) → In x e.asked
      → IsDecided decisions ⊎ In x e.awaited ⊎ IsReady (share x t) backup t x e.shares

abbrev pub EntryFact : VoteView → TxId → TxEntry → Type 0
EntryFact v t e = EntryFactOf (v.decided t.node t) v.share v.backup t e

pub record VotesHold (v : VoteView) : Type 0 where
  pub facts : (a b : NodeId) → Each (Fact v a b) (v.flight a b)
  pub apart : (a b : NodeId) → Apart (v.flight a b)
  pub shares : (n : NodeId) (t : TxId) → ShareFact v n t (v.share n t)
  pub backups : (n : NodeId) (name : BackupName) → BackupFact v name.tx (v.backup n name)
  pub entries : (t : TxId) (e : TxEntry) → v.entry t.node t ≡ Some e → EntryFact v t e

-- what a message in hand tells
abbrev pub InHand : VoteView → NodeId → MessageInHand → Type 0
InHand v me h = Fact v h.from me h.message × IsNew h.message (v.flight h.from me)
