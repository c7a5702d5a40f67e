-- What a starter does when it sees a node leave: a transaction that is being committed is ended at the lost node's backups.
use Rattle.std.proofs.Common.{◌≡◌, List, [], ◌∷◌, Option, Some, None, Bool, true, false, if◌then◌else◌, refl, subst}
use Rattle.act_rows.specs.Decisions.{after_decide_of, after_fail, after_left_at_starter, after_left_decided, after_left_for_each, after_left_for_tx, after_left_in_state, after_left_undecided_with, backup_finish_outs, decided_entry, entry_after_left, is_committing, primaries_at, txs_of, with_entry_left, with_fault}
use Rattle.act_rows.specs.Steps.{entry_of, live_holders, on_entry, with_note, with_outs}
use Rattle.commit_laws.proofs.StarterWalks.{fails_kept, on_entry_kept}
use Rattle.commit_laws.proofs.TameMessages.{ends_own, to_end, to_tame}
use Rattle.commit_laws.specs.CommitSteps.{CommitKit, EntriesCommitted}
use Rattle.ignite_types.proofs.NameLaws.{exact_txs, tx_total}
use Rattle.ignite_types.specs.Names.{node_cmp, tx_cmp}
use Rattle.ignite_types.specs.declared.answer.Fault.{Fault}
use Rattle.ignite_types.specs.declared.names.NodeId.{NodeId}
use Rattle.ignite_types.specs.declared.names.TxId.{TxId}
use Rattle.node_state.specs.Node.{NodeState}
use Rattle.node_state.specs.declared.near.TxEntry.{TxEntry}
use Rattle.node_state.specs.declared.near.TxState.{TxState}
use Rattle.ordered_set.specs.Members.{has}
use Rattle.part_model.specs.NextMap.{has_node}
use Rattle.transaction_laws.proofs.Tables.{put_elim}
use Rattle.ignite_types.specs.declared.answer.Fault.TheVariants as fault
use Rattle.ignite_types.specs.declared.journal.Rec.TheVariants as note
use Rattle.ignite_types.specs.declared.message.Message.TheVariants as msg
use Rattle.node_state.specs.declared.near.TxState.TheVariants as state

module _ (Known : TxId → Type 0) where
  -- an entry that is being committed was so before it changed
  changed_entries : (s : NodeState) (tx : TxId) (f : TxEntry → TxEntry) (o : Option TxEntry) → entry_of s tx ≡ o →
      ((e : TxEntry) → is_committing (f e).state ≡ true → is_committing e.state ≡ true)
      → EntriesCommitted Known s.txs → EntriesCommitted Known (on_entry s tx f o).txs
  changed_entries s tx f None there calm known = known
  changed_entries s tx f (Some e) there calm known =
      put_elim tx_cmp tx_total exact_txs (λ (u : TxId) (o : Option TxEntry). (y : TxEntry) → o ≡ Some y →
      is_committing y.state ≡ true → Known u) s.txs tx (f e)
      (λ y is committing. let same : y ≡ f e = cc in
      known tx e there (calm e (subst (λ (x : TxEntry). is_committing x.state ≡ true) same committing)))
      (λ u other. known u)

  failed_entries : (s : NodeState) (tx : TxId) (why : Fault) → EntriesCommitted Known s.txs →
      EntriesCommitted Known (after_fail s tx why).txs
  failed_entries s tx why known = by (entry_of noted tx)
    where
      noted : NodeState
      noted = with_note (with_fault s tx why) (note.Fault tx why)

      first : EntriesCommitted Known noted.txs
      first = changed_entries s tx (λ (e : TxEntry). record e { fault = Some why }) (entry_of s tx) refl
          (λ e committing. committing) known

      by : (o : Option TxEntry) → EntriesCommitted Known (after_decide_of noted tx false o).txs
      by None = first
      by (Some e) = changed_entries noted tx (decided_entry noted false) (entry_of noted tx) refl
          (λ x none. absurd (cc (none))) first

  module _ (R : NodeState → NodeState → Type 0) (kit : CommitKit Known R) where
    ends_at_backups : (s : NodeState) (tx : TxId) (lost : NodeId) (commit : Bool) (nodes : List NodeId) →
        (commit ≡ true → Known tx) → R s (with_outs s (backup_finish_outs tx lost commit nodes))
    ends_at_backups s tx lost true nodes known = kit.finished s tx (backup_finish_outs tx lost true nodes) (known refl)
        (to_end tx true nodes (msg.BackupFinish tx lost true) (ends_own tx true))
    ends_at_backups s tx lost false nodes known = kit.sent_all s (backup_finish_outs tx lost false nodes)
        (to_tame nodes (msg.BackupFinish tx lost false) refl)

    decided_left : (s : NodeState) (tx : TxId) (lost : NodeId) (e : TxEntry) → (is_committing e.state ≡ true → Known tx) →
        R s (after_left_decided s tx lost e)
    decided_left s tx lost e known =
        let left = with_entry_left s tx lost in
        let nodes = live_holders s e.shares lost in
        kit.andthen s left (after_left_decided s tx lost e) (on_entry_kept Known R kit s tx (entry_after_left s lost)
        (entry_of s tx))
        (elim (has node_cmp e.awaited lost) as (λ b.
        R left (with_outs left (if b then backup_finish_outs tx lost (is_committing e.state) nodes else []))) [
          | true ↦ ends_at_backups left tx lost (is_committing e.state) nodes known
          | false ↦ kit.sent_all left [] refl
        ])

    abbrev Left : NodeState → NodeState → Type 0
    Left s t = R s t × EntriesCommitted Known t.txs

    undecided_left : (s : NodeState) (tx : TxId) (lost : NodeId) (primaries : List NodeId) → EntriesCommitted Known s.txs →
        Left s (after_left_undecided_with s tx lost primaries)
    undecided_left s tx lost primaries known = by (has_node primaries lost)
      where
        by : (b : Bool) → Left s (if b then after_fail s tx (fault.NodeLost lost) else s)
        by true = (fails_kept Known R kit s tx (fault.NodeLost lost), failed_entries s tx (fault.NodeLost lost) known)
        by false = (kit.nothing s, known)

    finishing_left : (s : NodeState) (tx : TxId) (lost : NodeId) (e : TxEntry) → entry_of s tx ≡ Some e →
        EntriesCommitted Known s.txs → Left s (after_left_decided s tx lost e)
    finishing_left s tx lost e there known = (
      decided_left s tx lost e (known tx e there),
      changed_entries s tx (entry_after_left s lost) (entry_of s tx) refl (λ x committing. committing) known,
    )

    in_state_left : (s : NodeState) (tx : TxId) (lost : NodeId) (e : TxEntry) (st : TxState) → entry_of s tx ≡ Some e →
        EntriesCommitted Known s.txs → Left s (after_left_in_state s tx lost e st)
    in_state_left s tx lost e state.Searching there known = (kit.nothing s, known)
    in_state_left s tx lost e state.Committing there known = finishing_left s tx lost e there known
    in_state_left s tx lost e state.RollingBack there known = finishing_left s tx lost e there known
    in_state_left s tx lost e state.Ended there known = (kit.nothing s, known)
    in_state_left s tx lost e _ there known = undecided_left s tx lost (primaries_at s e.keys) known

    for_tx_left : (s : NodeState) (tx : TxId) (lost : NodeId) (o : Option TxEntry) → entry_of s tx ≡ o →
        EntriesCommitted Known s.txs → Left s (after_left_for_tx s tx lost o)
    for_tx_left s tx lost None there known = (kit.nothing s, known)
    for_tx_left s tx lost (Some e) there known = in_state_left s tx lost e e.state there known

    for_each_left : (s : NodeState) (lost : NodeId) (txs : List TxId) → EntriesCommitted Known s.txs →
        R s (after_left_for_each s lost txs)
    for_each_left s lost [] known = kit.nothing s
    for_each_left s lost (tx ∷ txs) known =
        let next = after_left_for_tx s tx lost (entry_of s tx) in
        let one = for_tx_left s tx lost (entry_of s tx) refl known in
        kit.andthen s next (after_left_for_each next lost txs) one.0 (for_each_left next lost txs one.1)

    pub starter_left_kept : (s : NodeState) (lost : NodeId) → EntriesCommitted Known s.txs → R s (after_left_at_starter s lost)
    starter_left_kept s lost known = for_each_left s lost (txs_of s) known
