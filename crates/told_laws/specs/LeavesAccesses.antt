-- What rows leave alone that are none of a starter's: transactions and sessions stay as they were; nothing is noted of calls,
-- answers, starts, decisions and faults; and requests that are sent come from their transaction's starter, answers go to it.
use Rattle.std.specs.List.{list_all}
use Rattle.std.specs.Prelude.{Bool, false, true, ℕ, ◌++◌, ◌≡◌}
use Rattle.ignite_types.specs.Names.{same_node}
use Rattle.ignite_types.specs.declared.journal.Rec.{Rec}
use Rattle.ignite_types.specs.declared.list.List.{List}
use Rattle.ignite_types.specs.declared.message.Message.{Message}
use Rattle.ignite_types.specs.declared.message.Out.{Out}
use Rattle.ignite_types.specs.declared.names.NodeId.{NodeId}
use Rattle.ignite_types.specs.declared.names.TxId.{TxId}
use Rattle.node_state.specs.Node.{NodeState}
use Rattle.node_state.specs.declared.near.TxEntry.{TxEntry}
use Rattle.node_state.specs.declared.session.SessionState.{SessionState}
use Rattle.ignite_types.specs.declared.journal.Rec.TheVariants as note
use Rattle.ignite_types.specs.declared.message.Message.TheVariants as msg

-- a record that says nothing of sessions and of how far transactions have come
abbrev pub is_quiet : Rec → Bool
is_quiet (note.Call session c) = false
is_quiet (note.Answer session a) = false
is_quiet (note.Start tx top) = false
is_quiet (note.Decide tx commit) = false
is_quiet (note.Fault tx why) = false
is_quiet (note.Deliver from m) = false
is_quiet (note.Lost node) = false
is_quiet r = true

-- a request comes from its transaction's starter, and the answer goes to it
abbrev pub is_right : NodeId → NodeId → Message → Bool
is_right from to (msg.Lock tx top key) = same_node tx.node from
is_right from to (msg.Get tx key near) = same_node tx.node from
is_right from to (msg.Prepare tx top mode shares wanted writes) = same_node tx.node from
is_right from to (msg.LockOk tx key found) = same_node tx.node to
is_right from to (msg.GetOk tx key found) = same_node tx.node to
is_right from to (msg.Prepared tx) = same_node tx.node to
is_right from to (msg.PrepareFail tx why) = same_node tx.node to
is_right from to m = true

abbrev pub is_sent_right : NodeId → Out → Bool
is_sent_right from out = is_right from out.to out.msg

-- what of a node's state sessions and accesses speak of
pub record AccessFace : Type 0 where
  pub me : NodeId
  pub txs : List (TxId × TxEntry)
  pub session_states : List (ℕ × SessionState)
  pub noted : List Rec
  pub outbox : List Out

abbrev pub access_face : NodeState → AccessFace
access_face s = record {
  me = s.me;
  txs = s.txs;
  session_states = s.session_states;
  noted = s.noted;
  outbox = s.outbox;
}

pub record LeavesAccesses (before after : NodeState) : Type 0 where
  pub more : List Rec
  pub quiet : list_all is_quiet more ≡ true
  pub sent : List Out
  pub right : list_all (is_sent_right before.me) sent ≡ true
  pub face_is : access_face after ≡ record (access_face before) {
    noted = before.noted ++ more;
    outbox = before.outbox ++ sent;
  }
