-- What the invariant of votes sees of a world: tables as functions of the node, on each link what lies in the inbox, followed
-- by what the sender's outbox has for it, and what each node has decided of each transaction.
use Rattle.std.specs.Prelude.{Bool, ◌++◌, Option}
use Rattle.act_rows.specs.Steps.{backup_cmp, entry_of, share_of}
use Rattle.ignite_types.specs.declared.journal.Rec.{Rec}
use Rattle.ignite_types.specs.declared.list.List.{List}
use Rattle.ignite_types.specs.declared.message.Message.{Message}
use Rattle.ignite_types.specs.declared.names.NodeId.{NodeId}
use Rattle.ignite_types.specs.declared.names.TxId.{TxId}
use Rattle.journal_statements.specs.Noted.{recs_of}
use Rattle.node_state.specs.declared.near.TxEntry.{TxEntry}
use Rattle.node_state.specs.declared.primary.BackupName.{BackupName}
use Rattle.node_state.specs.declared.primary.BackupShare.{BackupShare}
use Rattle.node_state.specs.declared.primary.OwnShare.{OwnShare}
use Rattle.node_state.specs.Node.{NodeState}
use Rattle.ordered_table.specs.Entries.{at}
use Rattle.owner_laws.specs.LockViews.{of_node}
use Rattle.scenes.specs.Scenes.{Scene}
use Rattle.scenes.specs.Views.{outbox_for}
use Rattle.transaction_laws.specs.StarterFacts.{decisions}

pub record VoteView : Type 0 where
  pub entry : NodeId → TxId → Option TxEntry
  pub share : NodeId → TxId → Option OwnShare
  pub backup : NodeId → BackupName → Option BackupShare
  pub flight : NodeId → NodeId → List Message
  -- what a node has decided of a transaction, by its records
  pub decided : NodeId → TxId → List Bool

-- the rest of the world: the same of all other nodes, each inbox, and the records before the act, of the acting node and of all
pub record VoteAround : Type 0 where
  pub others : NodeId → NodeState
  pub link : NodeId → NodeId → List Message
  pub mine : List Rec
  pub recs : NodeId → List Rec

abbrev pub backups_at : NodeState → BackupName → Option BackupShare
backups_at s name = at backup_cmp s.backups name

-- with a node in the midst of its act
abbrev pub view_in_act : VoteAround → NodeState → VoteView
view_in_act around s = record {
  entry = λ n. of_node s.me (entry_of s) n (entry_of (around.others n));
  share = λ n. of_node s.me (share_of s) n (share_of (around.others n));
  backup = λ n. of_node s.me (backups_at s) n (backups_at (around.others n));
  flight = λ a b. around.link a b ++ outbox_for b (of_node s.me s.outbox a (around.others a).outbox);
  decided = λ n tx. decisions tx (of_node s.me (around.mine ++ s.noted) n (around.recs n));
}

-- between two acts
abbrev pub vote_view : Scene → VoteView
vote_view sc = record {
  entry = λ n. entry_of (sc.state n);
  share = λ n. share_of (sc.state n);
  backup = λ n. backups_at (sc.state n);
  flight = λ a b. sc.link a b ++ outbox_for b (sc.state a).outbox;
  decided = λ n tx. decisions tx (recs_of n sc.recs);
}
