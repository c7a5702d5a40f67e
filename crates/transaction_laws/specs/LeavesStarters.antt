-- What rows leave alone that are none of a starter's: they note no start, no decision and no loss, send no list of what lost
-- starters left behind, and leave transactions, sessions and the open version as they were.
use Rattle.std.specs.List.{list_all}
use Rattle.std.specs.Prelude.{Bool, Option, false, true, ℕ, ◌++◌, ◌≡◌}
use Rattle.ignite_types.specs.declared.journal.Rec.{Rec}
use Rattle.ignite_types.specs.declared.list.List.{List}
use Rattle.ignite_types.specs.declared.message.Message.{Message}
use Rattle.ignite_types.specs.declared.message.Out.{Out}
use Rattle.ignite_types.specs.declared.names.NodeId.{NodeId}
use Rattle.ignite_types.specs.declared.names.TopVer.{TopVer}
use Rattle.ignite_types.specs.declared.names.TxId.{TxId}
use Rattle.node_state.specs.Node.{NodeState}
use Rattle.node_state.specs.declared.near.TxEntry.{TxEntry}
use Rattle.node_state.specs.declared.session.SessionState.{SessionState}
use Rattle.node_state.specs.declared.topology.Report.{Report}
use Rattle.transaction_laws.specs.StarterFacts.{is_silent}
use Rattle.ignite_types.specs.declared.message.Message.TheVariants as msg

abbrev pub is_no_list : Message → Bool
is_no_list (msg.Orphans round list) = false
is_no_list _ = true

abbrev pub sends_no_list : Out → Bool
sends_no_list out = is_no_list out.msg

-- what of a node's state the laws of starters speak of
pub record StarterFace : Type 0 where
  pub me : NodeId
  pub txs : List (TxId × TxEntry)
  pub session_states : List (ℕ × SessionState)
  pub opened : Option TopVer
  pub left : List NodeId
  pub reports : List Report
  pub noted : List Rec
  pub outbox : List Out

abbrev pub starter_face : NodeState → StarterFace
starter_face s = record {
  me = s.me;
  txs = s.txs;
  session_states = s.session_states;
  opened = s.opened;
  left = s.left;
  reports = s.reports;
  noted = s.noted;
  outbox = s.outbox;
}

pub record LeavesStarters (before after : NodeState) : Type 0 where
  pub more : List Rec
  pub silent : list_all is_silent more ≡ true
  pub sent : List Out
  pub listless : list_all sends_no_list sent ≡ true
  pub face_is : starter_face after ≡ record (starter_face before) {
    noted = before.noted ++ more;
    outbox = before.outbox ++ sent;
  }
