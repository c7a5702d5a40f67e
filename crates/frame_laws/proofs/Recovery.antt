-- What becomes of the transactions of a lost starter: each row extends the node.
use Rattle.std.proofs.Common.{List, [], ◌∷◌, Option, Some, None, Bool, true, refl}
use Rattle.std.specs.Prelude.{not, ℕ, ◌&&◌, ◌++◌}
use Rattle.frame_laws.proofs.Steps.{sent_to_oldest_kept}
use Rattle.act_rows.specs.Decisions.{finishes_for_lost, orphaned_shares}
use Rattle.act_rows.specs.Recovery.{after_act_on_round, after_backup_finished_at_recoverer, after_begin_round, after_finished_at_recoverer, after_give_verdict, after_judge, after_judge_each, after_orphans, after_recover_if_all, after_recover_with, after_send_orphans, all_reported, backup_wait_cmp, finish_nodes, finish_wait_cmp, is_recoverer, lockers, names_of, on_round, orphans_for, orphans_message, primaries_of, reports_for, with_backup_waits, with_finish_waits, with_new_round, with_report, with_round_acted, with_verdict_awaited}
use Rattle.act_rows.specs.Steps.{lost_among, oldest_seen, outs_to, with_note, with_outs}
use Rattle.part_model.specs.Verdicts.{is_settled, shares_named, verdict}
use Rattle.ignite_types.specs.Names.{tx_cmp}
use Rattle.ignite_types.specs.declared.message.Orphan.{Orphan}
use Rattle.ignite_types.specs.declared.message.Out.{Out}
use Rattle.ignite_types.specs.declared.names.NodeId.{NodeId}
use Rattle.ignite_types.specs.declared.names.TxId.{TxId}
use Rattle.ignite_types.specs.declared.placement.Share.{Share}
use Rattle.ignite_types.specs.declared.scenario.Member.{Member}
use Rattle.node_state.specs.Node.{NodeState}
use Rattle.node_state.specs.declared.topology.Report.{Report}
use Rattle.node_state.specs.declared.topology.Round.{Round}
use Rattle.ordered_set.specs.Members.{without_member}
use Rattle.ordered_table.specs.Entries.{at, put}
use Rattle.ignite_types.specs.declared.message.Message.TheVariants as msg
use Rattle.ignite_types.specs.declared.journal.Rec.TheVariants as note
use Rattle.frame_laws.proofs.Plain.{both_plain, lost_plain, to_plain}
use Rattle.frame_laws.specs.Kits.{ClosedUnderWatchedSteps}
use Rattle.frame_laws.proofs.Kits.{either_kept}

module _ {watched : Bool} (R : NodeState → NodeState → Type 0) (kit : ClosedUnderWatchedSteps watched R) where
  -- A loss begins a new round.

  pub sends_orphans_kept : (s : NodeState) (round : ℕ) → R s (after_send_orphans s round)
  sends_orphans_kept s round = sent_to_oldest_kept R kit s (orphans_message s round) (oldest_seen s) refl

  pub starts_round_kept : (s : NodeState) (place : ℕ) → R s (with_new_round s place)
  starts_round_kept s place = kit.aside s (with_new_round s place) refl

  pub begins_round_kept : (s : NodeState) (place : ℕ) → R s (after_begin_round s place)
  begins_round_kept s place = kit.andthen s (with_new_round s place) (after_send_orphans (with_new_round s place) place)
      (starts_round_kept s place) (sends_orphans_kept (with_new_round s place) place)

  -- The verdicts.

  pub on_round_kept : (s : NodeState) (f : Round → Round) (found : Option Round) → R s (on_round s f found)
  on_round_kept s f None = kit.nothing s
  on_round_kept s f (Some r) = kit.aside s (record s { round = Some (f r) }) refl

  pub awaits_verdict_kept : (s : NodeState) (tx : TxId) (nodes : List NodeId) (backups : List Share) →
      R s (with_verdict_awaited s tx nodes backups)
  awaits_verdict_kept s tx nodes backups = on_round_kept s (λ (r : Round). record r {
    finishes = with_finish_waits r.finishes tx nodes;
    backups = with_backup_waits r.backups tx backups;
  }) s.round

  pub gives_verdict_kept : (s : NodeState) (tx : TxId) (commit : Bool) (shares : List Share) (nodes : List NodeId) →
      R s (after_give_verdict s tx commit shares nodes)
  gives_verdict_kept s tx commit shares nodes =
      let kept : NodeState = record s { verdicts = put tx_cmp s.verdicts tx commit } in
      let noted : NodeState = with_note kept (note.Decide tx commit) in
      let awaiting : NodeState = with_verdict_awaited noted tx (finish_nodes s shares nodes) (orphaned_shares s shares) in
      let outs : List Out = outs_to (finish_nodes s shares nodes) (msg.Finish tx commit)
      ++ finishes_for_lost s tx commit shares (lost_among s (primaries_of shares)) in
      kit.andthen s noted (with_outs awaiting outs)
      (kit.andthen s kept noted (kit.aside s kept refl) (kit.noting kept (note.Decide tx commit) refl refl refl))
      (kit.andthen noted awaiting (with_outs awaiting outs)
      (awaits_verdict_kept noted tx (finish_nodes s shares nodes) (orphaned_shares s shares))
      (kit.sent_all awaiting outs (both_plain (outs_to (finish_nodes s shares nodes) (msg.Finish tx commit)) _
      (to_plain (finish_nodes s shares nodes) (msg.Finish tx commit) refl)
      (lost_plain s tx commit shares (lost_among s (primaries_of shares))))))

  pub judges_kept : (s : NodeState) (tx : TxId) (members : List Member) (orphans : List Orphan) (nodes : List NodeId) →
      R s (after_judge s tx members orphans nodes)
  judges_kept s tx members orphans nodes =
      either_kept R kit s s (after_give_verdict s tx (verdict (at tx_cmp s.verdicts tx) orphans members)
      (shares_named orphans) nodes) (is_settled orphans)
      (kit.nothing s)
      (gives_verdict_kept s tx (verdict (at tx_cmp s.verdicts tx) orphans members) (shares_named orphans) nodes)

  pub judges_each_kept : (s : NodeState) (members : List Member) (reports : List Report) (txs : List TxId) →
      R s (after_judge_each s members reports txs)
  judges_each_kept s members reports [] = kit.nothing s
  judges_each_kept s members reports (tx ∷ txs) =
      let judged : NodeState = after_judge s tx members (orphans_for tx reports) (lockers tx reports) in
      kit.andthen s judged (after_judge_each judged members reports txs)
      (judges_kept s tx members (orphans_for tx reports) (lockers tx reports)) (judges_each_kept judged members reports txs)

  pub has_acted_kept : (s : NodeState) → R s (with_round_acted s)
  has_acted_kept s = on_round_kept s (λ (r : Round). record r { acted = true }) s.round

  pub acts_on_round_kept : (s : NodeState) (members : List Member) (reports : List Report) →
      R s (after_act_on_round s members reports)
  acts_on_round_kept s members reports =
      kit.andthen s (with_round_acted s) (after_judge_each (with_round_acted s) members reports (names_of reports))
      (has_acted_kept s) (judges_each_kept (with_round_acted s) members reports (names_of reports))

  pub recovers_with_kept : (s : NodeState) (r : Round) (reports : List Report) → R s (after_recover_with s r reports)
  recovers_with_kept s r reports = either_kept R kit s (after_act_on_round s r.members reports) s
      (all_reported r.members reports)
      (acts_on_round_kept s r.members reports) (kit.nothing s)

  pub recovers_if_all_kept : (s : NodeState) (found : Option Round) → R s (after_recover_if_all s found)
  recovers_if_all_kept s None = kit.nothing s
  recovers_if_all_kept s (Some r) = either_kept R kit s (after_recover_with s r (reports_for s.reports r.place)) s
      (is_recoverer s r && not r.acted)
      (recovers_with_kept s r (reports_for s.reports r.place)) (kit.nothing s)

  pub reports_more_kept : (s : NodeState) (r : Report) → R s (with_report s r)
  reports_more_kept s r = kit.aside s (with_report s r) refl

  pub orphans_row_kept : (s : NodeState) (from : NodeId) (round : ℕ) (list : List Orphan) →
      R s (after_orphans s from round list)
  orphans_row_kept s from round list = let here : NodeState = record s {
    reports = s.reports ++ record { round = round; from = from; list = list } ∷ [];
  } in kit.andthen s here (after_recover_if_all here here.round) (kit.aside s here refl) (recovers_if_all_kept here here.round)

  -- answers to the recoverer

  pub recovery_finished_kept : (s : NodeState) (from : NodeId) (tx : TxId) → R s (after_finished_at_recoverer s from tx)
  recovery_finished_kept s from tx = on_round_kept s (λ (r : Round). record r {
    finishes = without_member finish_wait_cmp r.finishes (record { tx = tx; node = from });
  }) s.round

  pub recovery_backup_finished_kept : (s : NodeState) (from : NodeId) (tx : TxId) (primary : NodeId) →
      R s (after_backup_finished_at_recoverer s from tx primary)
  recovery_backup_finished_kept s from tx primary = on_round_kept s (λ (r : Round). record r {
    backups = without_member backup_wait_cmp r.backups (record { tx = tx; primary = primary; holder = from });
  }) s.round
