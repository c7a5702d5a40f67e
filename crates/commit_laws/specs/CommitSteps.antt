-- The small steps of rows, as far as committed writes go: what a row may do of itself, what it may do for a transaction that is
-- known to be committed, and a decision, which is noted before all that it brings.
use Rattle.std.specs.List.{list_all}
use Rattle.std.specs.Option.{is_none}
use Rattle.std.specs.Prelude.{Bool, None, Option, Some, [], false, true, ◌&&◌, ◌++◌, ◌∷◌, ◌≡◌}
use Rattle.act_rows.specs.Decisions.{is_committing}
use Rattle.act_rows.specs.Steps as steps
use Rattle.act_rows.specs.Stores.{with_stored}
use Rattle.ignite_types.specs.Names.{same_tx, tx_cmp}
use Rattle.ignite_types.specs.declared.journal.Rec.{Rec}
use Rattle.ignite_types.specs.declared.list.List.{List}
use Rattle.ignite_types.specs.declared.message.Message.{Message}
use Rattle.ignite_types.specs.declared.message.Out.{Out}
use Rattle.ignite_types.specs.declared.message.Stored.{Stored}
use Rattle.ignite_types.specs.declared.names.NodeId.{NodeId}
use Rattle.ignite_types.specs.declared.names.TopVer.{TopVer}
use Rattle.ignite_types.specs.declared.names.TxId.{TxId}
use Rattle.node_state.specs.Node.{NodeState}
use Rattle.node_state.specs.declared.near.TxEntry.{TxEntry}
use Rattle.ordered_table.specs.Entries.{at}
use Rattle.ignite_types.specs.declared.journal.Rec.TheVariants as note
use Rattle.ignite_types.specs.declared.message.Message.TheVariants as msg

-- the transaction that a message ends as committed
abbrev pub committed_if : Bool → TxId → Option TxId
committed_if true tx = Some tx
committed_if false tx = None

abbrev pub committed_by : Message → Option TxId
committed_by (msg.Finish tx commit) = committed_if commit tx
committed_by (msg.BackupFinish tx primary commit) = committed_if commit tx
committed_by m = None

-- it ends none as committed
abbrev pub is_tame : Message → Bool
is_tame m = is_none (committed_by m)

abbrev pub is_tame_out : Out → Bool
is_tame_out out = is_tame out.msg

-- it ends none but this one, if that is committed
abbrev pub ends_only : TxId → Bool → Option TxId → Bool
ends_only tx commit None = true
ends_only tx commit (Some u) = same_tx u tx && commit

abbrev pub is_end_of : TxId → Bool → Out → Bool
is_end_of tx commit out = ends_only tx commit (committed_by out.msg)

-- no write is applied
abbrev pub is_no_apply : Rec → Bool
is_no_apply (note.Apply tx top primary key new ver) = false
is_no_apply r = true

-- what of a node's state these laws speak of
pub record CommitFace : Type 0 where
  pub noted : List Rec
  pub outbox : List Out

abbrev pub commit_face : NodeState → CommitFace
commit_face s = record {
  noted = s.noted;
  outbox = s.outbox;
}

-- those of a starter's transactions that are being committed are known to be
abbrev pub EntriesCommitted : (TxId → Type 0) → List (TxId × TxEntry) → Type 0
EntriesCommitted Known txs = (tx : TxId) (e : TxEntry) → at tx_cmp txs tx ≡ Some e → is_committing e.state ≡ true → Known tx

-- what each row keeps, where these transactions are known to be committed
pub record CommitKit (Known : TxId → Type 0) (R : NodeState → NodeState → Type 0) : Type 0 where
  pub nothing : (s : NodeState) → R s s
  pub andthen : (a b c : NodeState) → R a b → R b c → R a c
  pub aside : (before after : NodeState) → commit_face after ≡ commit_face before → R before after
  pub noting : (s : NodeState) (r : Rec) → is_no_apply r ≡ true → R s (steps.with_note s r)
  pub sent_all : (s : NodeState) (outs : List Out) → list_all is_tame_out outs ≡ true → R s (steps.with_outs s outs)
  -- a write of a committed transaction is applied, and its other holders are told
  pub applied : (s : NodeState) (tx : TxId) (top : TopVer) (primary : NodeId) (w : Stored) → Known tx
      → R s (steps.with_note (with_stored s w) (note.Apply tx top primary w.key w.value w.ver))
  pub finished : (s : NodeState) (tx : TxId) (outs : List Out) → Known tx → list_all (is_end_of tx true) outs ≡ true
      → R s (steps.with_outs s outs)
  -- a decision is noted, and all that hold something of the transaction are told
  pub decided : (before after : NodeState) (tx : TxId) (commit : Bool) (outs : List Out)
      → after.noted ≡ before.noted ++ note.Decide tx commit ∷ [] → after.outbox ≡ before.outbox ++ outs
      → list_all (is_end_of tx commit) outs ≡ true → R before after
