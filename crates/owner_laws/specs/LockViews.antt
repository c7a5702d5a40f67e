-- The world around an acting node, and what the invariant sees of both: tables as functions of the node, and on each link what
-- lies in the inbox, followed by what the sender's outbox has for it. A message that is taken is in the node's hand until the
-- row has done what it asks.
use Rattle.std.specs.Prelude.{if◌then◌else◌, ◌++◌, ℕ, Option}
use Rattle.act_rows.specs.Steps.{entry_of, session_state_of, share_of}
use Rattle.part_model.specs.Queues.{queue_in}
use Rattle.ignite_types.specs.Names.{same_node}
use Rattle.scenes.specs.Views.{outbox_for}
use Rattle.ignite_types.specs.declared.list.List.{List}
use Rattle.ignite_types.specs.declared.message.Message.{Message}
use Rattle.ignite_types.specs.declared.names.NodeId.{NodeId}
use Rattle.ignite_types.specs.declared.names.TxId.{TxId}
use Rattle.ignite_types.specs.declared.text.Key.{Key}
use Rattle.node_state.specs.declared.near.TxEntry.{TxEntry}
use Rattle.node_state.specs.Node.{NodeState}
use Rattle.node_state.specs.declared.primary.OwnShare.{OwnShare}
use Rattle.node_state.specs.declared.session.SessionState.{SessionState}

-- what the invariant sees
pub record View : Type 0 where
  pub entry : NodeId → TxId → Option TxEntry
  pub session_state : NodeId → ℕ → Option SessionState
  pub queue : NodeId → Key → List TxId
  pub share : NodeId → TxId → Option OwnShare
  pub flight : NodeId → NodeId → List Message

-- the rest of the world: the same of all other nodes, and each inbox
pub record Around : Type 0 where
  pub others : NodeId → NodeState
  pub link : NodeId → NodeId → List Message

-- the acting node's own, or another's
abbrev pub of_node : {A : Type 0} → NodeId → A → NodeId → A → A
of_node me mine id other = if same_node id me then mine else other

abbrev pub view : Around → NodeState → View
view around s = record {
  entry = λ n. of_node s.me (entry_of s) n (entry_of (around.others n));
  session_state = λ n. of_node s.me (session_state_of s) n (session_state_of (around.others n));
  queue = λ n. of_node s.me (queue_in s.queues) n (queue_in (around.others n).queues);
  share = λ n. of_node s.me (share_of s) n (share_of (around.others n));
  flight = λ a b. around.link a b ++ outbox_for b (of_node s.me s.outbox a (around.others a).outbox);
}
