-- What the invariant says: all that ends a transaction as committed stands behind its commit decision, and so does each write
-- that was applied.
use Rattle.std.specs.List.{list_all}
use Rattle.std.specs.Prelude.{Bool, None, Option, Some, true, ℕ, ◌++◌, ◌≡◌}
use Rattle.commit_laws.specs.CommitLaws.{is_committed_record}
use Rattle.commit_laws.specs.CommitSteps.{CommitFace, commit_face, committed_by}
use Rattle.ignite_types.specs.declared.list.List.{List}
use Rattle.ignite_types.specs.declared.message.Message.{Message}
use Rattle.ignite_types.specs.declared.message.Out.{Out}
use Rattle.ignite_types.specs.declared.names.NodeId.{NodeId}
use Rattle.ignite_types.specs.declared.names.TxId.{TxId}
use Rattle.journal_statements.specs.Noted.{Noted, each_record, is_committed_before, noted_by}
use Rattle.node_state.specs.Node.{NodeState}
use Rattle.scenes.specs.Scenes.{Scene}
use Rattle.transaction_laws.specs.StarterInvariant.{StarterInvariant}

-- what is ended as committed was decided so by these records
abbrev pub is_committed_one : List Noted → Option TxId → Bool
is_committed_one recs None = true
is_committed_one recs (Some tx) = is_committed_before recs tx

abbrev pub is_backed : List Noted → Message → Bool
is_backed recs m = is_committed_one recs (committed_by m)

abbrev pub is_backed_out : List Noted → Out → Bool
is_backed_out recs out = is_backed recs out.msg

-- a node's outbox, and all records so far
pub record OutboxFits (recs : List Noted) (outbox : List Out) : Type 0 where
  pub outs : list_all (is_backed_out recs) outbox ≡ true
  pub applied : each_record is_committed_record recs ≡ true

abbrev pub FaceFits : List Noted → NodeId → CommitFace → Type 0
FaceFits past n f = OutboxFits (past ++ noted_by (Some n) f.noted) f.outbox

-- what a row of this node keeps, with these records before its act
abbrev pub KeepsCommits : List Noted → NodeId → NodeState → NodeState → Type 0
KeepsCommits past n a b = FaceFits past n (commit_face a) → FaceFits past n (commit_face b)

pub record CommitsFit (sc : Scene) : Type 0 where
  -- what a node has in its outbox, and what lies on a link
  pub outs : (n : NodeId) → list_all (is_backed_out sc.recs) (sc.state n).outbox ≡ true
  pub links : (a b : NodeId) → list_all (is_backed sc.recs) (sc.link a b) ≡ true
  -- what was applied
  pub applied : each_record is_committed_record sc.recs ≡ true

-- beside the invariant of starters, after so many events
pub record CommitInvariant (events : ℕ) (sc : Scene) : Type 0 where
  pub starters : StarterInvariant events sc
  pub commits : CommitsFit sc
