-- The laws of votes and ends, as statements of a scene.
use Rattle.std.specs.Prelude.{Bool, Some, true, ◌≡◌, ◌⊎◌}
use Rattle.ignite_types.specs.declared.names.NodeId.{NodeId}
use Rattle.ignite_types.specs.declared.names.TxId.{TxId}
use Rattle.journal_statements.specs.ShareLaws.{is_ready_state, is_share_committed}
use Rattle.node_state.specs.declared.near.TxEntry.{TxEntry}
use Rattle.node_state.specs.declared.primary.BackupName.{BackupName}
use Rattle.node_state.specs.declared.primary.BackupShare.{BackupShare}
use Rattle.node_state.specs.declared.primary.OwnShare.{OwnShare}
use Rattle.owner_laws.specs.LockFacts.{In}
use Rattle.scenes.specs.Scenes.{Scene}
use Rattle.vote_laws.specs.VoteFacts.{Decided, IsDecided, IsOwnReady, IsReady, PreparedComes}
use Rattle.vote_laws.specs.VoteViews.{VoteView, vote_view}
use Rattle.ignite_types.specs.declared.message.Message.TheVariants as msg
use Rattle.node_state.specs.declared.near.TxState.TheVariants as state

pub record VotesAreTrue (v : VoteView) : Type 0 where
  -- while a starter awaits the answers to its Prepare, each primary that it has asked is awaited, or has voted: its own share
  -- is Prepared, and so is that of each other holder which the starter names
  pub counted : (tx : TxId) (e : TxEntry) (primary : NodeId) → v.entry tx.node tx ≡ Some e → e.state ≡ state.Preparing
      → In primary e.asked → In primary e.awaited ⊎ IsReady (v.share primary tx) v.backup tx primary e.shares
  -- while the Prepared of an undecided transaction is on its way, its sender has voted so
  pub prepared_comes : (from to : NodeId) (tx : TxId) → In (msg.Prepared tx) (v.flight from to)
      → IsDecided (v.decided tx.node tx) ⊎ PreparedComes (v.entry tx.node tx) (v.share from tx) v.backup from tx

abbrev pub VotesStand : Scene → Type 0
VotesStand sc = VotesAreTrue (vote_view sc)

pub record EndsAreDecided (v : VoteView) : Type 0 where
  -- a Finish carries what the transaction's starter has decided, and a commit meets a share that is Prepared
  pub finish_comes : (from to : NodeId) (tx : TxId) (commit : Bool) → In (msg.Finish tx commit) (v.flight from to)
      → Decided v tx commit
  pub commit_comes : (from to : NodeId) (tx : TxId) → In (msg.Finish tx true) (v.flight from to) → IsOwnReady (v.share to tx)
  -- a BackupFinish does too
  pub backup_finish_comes : (from to : NodeId) (tx : TxId) (primary : NodeId) (commit : Bool)
      → In (msg.BackupFinish tx primary commit) (v.flight from to) → Decided v tx commit
  -- a Committed share is of a committed transaction, and no own share of one is Preparing or Undoing
  pub own_committed : (node : NodeId) (tx : TxId) (h : OwnShare) → v.share node tx ≡ Some h
      → is_share_committed h.state ≡ true → Decided v tx true
  pub own_ready : (node : NodeId) (tx : TxId) (h : OwnShare) → v.share node tx ≡ Some h
      → Decided v tx true → is_ready_state h.state ≡ true
  pub backup_committed : (node : NodeId) (name : BackupName) (h : BackupShare) → v.backup node name ≡ Some h
      → is_share_committed h.state ≡ true → Decided v name.tx true

abbrev pub EndsStand : Scene → Type 0
EndsStand sc = EndsAreDecided (vote_view sc)
