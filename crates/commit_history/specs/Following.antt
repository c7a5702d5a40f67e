-- What it means that a transaction's own walk is found in the one walk for all.
use Rattle.std.specs.Prelude.{◌≡◌, ◌<◌, ◌≤◌, None, Some, ◌^◌, ◌-◌, ℕ}
use Rattle.tx_model.specs.declared.walk.Walk.{Walk}
use Rattle.part_model.specs.Copies.{Found}
use Rattle.part_model.specs.Tables.{keys_in}
use Rattle.commit_history.specs.Steps.{near_told_of, session_line_of, walk_of}
use Rattle.commit_history.specs.declared.line.Line.{Line}
use Rattle.commit_history.specs.declared.walks.Walks.{Walks}
use Rattle.ignite_types.specs.declared.list.List.{List}
use Rattle.ignite_types.specs.declared.names.TxId.{TxId}
use Rattle.ignite_types.specs.declared.text.Key.{Key}

-- a walk put together: the session's part, the transaction's, what its node's near cache was told, who is over, and a near_read
abbrev pub assembled : Line → Walk → List (Key × Found) → List TxId → Found → Walk
assembled l v near overs near_read = record {
  top = v.top;
  started = l.started;
  block = l.block;
  skipping = l.skipping;
  called = l.called;
  near_read = near_read;
  finds = v.finds;
  near = near;
  overs = overs;
  committed = v.committed;
  reads = v.reads;
  writes = v.writes;
}

-- The walk of the transaction with this number is that, and the near_read is the one that is kept while the transaction is its
-- session's last one; before that none is kept.
pub record Agrees (number : ℕ) (l : Line) (v : Walk) (near : List (Key × Found)) (overs : List TxId) (w : Walk) : Type 0 where
  pub same : w ≡ assembled l v near overs w.near_read
  pub now : l.started ≡ number → w.near_read ≡ v.near_read
  pub later : l.started < number → v.near_read ≡ None
  pub unseen : v.top ≡ None → w.near_read ≡ None
  pub fits : l.started ≤ 2 ^ 64 - 1

pub record Follows (m : Walks) (tx : TxId) (w : Walk) : Type 0 where
  pub line : Line
  pub here : session_line_of m tx.session ≡ Some line
  pub home : line.node ≡ tx.node
  pub agrees : Agrees tx.number line (walk_of m tx) (near_told_of m tx.node) (keys_in m.overs) w
