-- Each row, and what follows it, keeps what is known of a node: its transactions and sessions, what it noted, and its lists.
use Rattle.std.proofs.Common.{◌≡◌, ◌≢◌, ◌++◌, ◌⊎◌, inl, inr, ℕ, List, [], ◌∷◌, Bool, true, false, if◌then◌else◌, not, Option, Some, None, refl, ap, sym, subst, ◌∙◌}
use Rattle.std.specs.List.{list_all}
use Rattle.std.specs.Prelude.{◌&&◌}
use Rattle.act_rows.specs.Acts.{after_backup_finished, after_event_effects, after_finished, after_message, after_see}
use Rattle.act_rows.specs.Accesses.{after_backup_finished_at_starter, after_finished_at_starter, after_near_update}
use Rattle.act_rows.specs.Closing.{after_advance_starter, after_closing_rules, after_single_if_drained}
use Rattle.act_rows.specs.Commands.{after_answer, after_call}
use Rattle.act_rows.specs.Decisions.{after_left_at_starter, finishes_for_lost, orphaned_shares}
use Rattle.act_rows.specs.Exchange.{after_compute, after_compute_if_all, after_count, after_count_installed, after_install, after_learn, after_open_for_all, after_open_if_all, after_opens, after_send_demands, all_installed, demand_outs, left_after, may_compute, next_map_seen, others_seen, without_singles}
use Rattle.act_rows.specs.Primary.{after_advance_shares, after_backup_finished_at_primary, after_left_at_primary, own_txs}
use Rattle.act_rows.specs.Recovery.{after_act_on_round, after_begin_round, after_judge, after_judge_each, after_orphans, after_recover_if_all, after_recover_with, after_give_verdict, all_reported, finish_nodes, held_txs, is_recoverer, lockers, lost_starters, names_from, names_of, orphan_names, orphans_among, orphans_for, orphans_of, primaries_of, reports_for, with_new_round, with_round_acted, with_verdict_awaited}
use Rattle.act_rows.specs.Searches.{after_expire, after_left_at_searches, is_overdue}
use Rattle.act_rows.specs.Starts.{after_start_all}
use Rattle.act_rows.specs.Steps.{installed_top, lost_among, oldest_seen, outs_to, rows_of, with_note, with_out_to_oldest, with_outs}
use Rattle.frame_laws.proofs.Extending.{append_none, append_twice}
use Rattle.ignite_types.proofs.NameLaws.{exact_nodes}
use Rattle.ignite_types.specs.Names.{node_cmp, same_top, same_tx, tx_cmp}
use Rattle.ignite_types.specs.declared.journal.Rec.{Rec}
use Rattle.ignite_types.specs.declared.journal.TopoEvent.{TopoEvent}
use Rattle.ignite_types.specs.declared.message.Message.{Message}
use Rattle.ignite_types.specs.declared.message.Orphan.{Orphan}
use Rattle.ignite_types.specs.declared.message.Out.{Out}
use Rattle.ignite_types.specs.declared.names.NodeId.{NodeId}
use Rattle.ignite_types.specs.declared.names.TopVer.{TopVer}
use Rattle.ignite_types.specs.declared.names.TxId.{TxId}
use Rattle.ignite_types.specs.declared.placement.PartMap.{PartMap}
use Rattle.ignite_types.specs.declared.placement.Share.{Share}
use Rattle.ignite_types.specs.declared.scenario.Member.{Member}
use Rattle.journal_statements.specs.Noted.{is_lost}
use Rattle.node_state.specs.Node.{NodeState}
use Rattle.node_state.specs.declared.topology.Exchange.{Exchange}
use Rattle.node_state.specs.declared.topology.Report.{Report}
use Rattle.node_state.specs.declared.topology.Round.{Round}
use Rattle.ordered_set.specs.Members.{has, with_member}
use Rattle.ordered_table.specs.Entries.{at, put}
use Rattle.part_model.specs.Queues.{queued_txs, with_members}
use Rattle.part_model.specs.Verdicts.{is_settled, shares_named, verdict}
use Rattle.std.specs.Ordering.{match_ordering}
use Rattle.std.specs.declared.cmp.Ordering.TheVariants.{Less, Equal, Greater}
use Rattle.scenes.specs.Rows.{MessageInHand}
use Rattle.topology_laws.proofs.Lists.{each_all, each_both, each_filter, each_with, has_passes}
use Rattle.topology_laws.specs.TopologyFacts.{HoldsOfEach}
use Rattle.ignite_types.specs.declared.journal.Rec.TheVariants as note
use Rattle.ignite_types.specs.declared.journal.TopoEvent.TheVariants as topo
use Rattle.ignite_types.specs.declared.message.Message.TheVariants as msg
use Rattle.transaction_laws.proofs.LeavesStarters.{all_of_both, aside, no_list_demands, no_list_for_lost, no_list_to, notes, sends_all}
use Rattle.transaction_laws.proofs.OtherRows.{advance_shares_leaves, backup_finish_leaves, backup_finished_at_primary_leaves, backup_finished_at_recoverer_leaves, backup_prepare_leaves, backup_prepared_leaves, complete_leaves, demand_leaves, edges_leaves, finish_leaves, finished_at_recoverer_leaves, full_leaves, get_leaves, install_leaves, left_at_primary_leaves, lock_leaves, near_done_leaves, on_round_leaves, prepare_leaves, single_if_drained_leaves, supply_leaves}
use Rattle.transaction_laws.proofs.StarterAnswers.{edges_ok_takes, expire_goes, finished_takes, get_ok_takes, lock_ok_takes, prepare_fail_takes, prepared_takes}
use Rattle.transaction_laws.proofs.StarterAtoms.{Goes}
use Rattle.transaction_laws.proofs.StarterFaces.{answer_face, face_kit, leaves_face, noted_face}
use Rattle.transaction_laws.proofs.StarterFacts.{SameSaid, decisions_append, starter_said, versions_append}
use Rattle.transaction_laws.proofs.StarterLosses.{backup_finished_goes, left_at_searches_goes, left_at_starter_goes}
use Rattle.transaction_laws.proofs.StarterNotes.{all_aside, opened_now, own_parts}
use Rattle.transaction_laws.proofs.StarterRows.{RoomAt, answer_row_goes, call_row_goes, near_on_goes, starts_all_goes}
use Rattle.transaction_laws.proofs.Tables.{tx_tells}
use Rattle.transaction_laws.specs.LeavesStarters.{LeavesStarters, StarterFace, sends_no_list, starter_face}
use Rattle.transaction_laws.specs.StarterFacts.{StarterFits, StarterInAct, decisions, is_aside, versions}
use Rattle.transaction_laws.specs.StarterInvariant.{ActPast, FaceFits, IsLostLeaver, KeepsFace, own_past}
use Rattle.transaction_laws.specs.StarterNotes.{IsOwnOrLost, MessageNamesLost, NamesLost, NotesFit, tells_no_loss, was_open_here}

-- Records that say nothing of starters.

silent_said : (tx : TxId) (own more : List Rec) → list_all is_aside more ≡ true → SameSaid own (own ++ more) tx
silent_said tx own more silent = (
  decisions_append tx own more ∙ ap (λ xs. decisions tx own ++ xs) (undecided more silent)
      ∙ append_none (decisions tx own),
  versions_append tx own more ∙ ap (λ xs. versions tx own ++ xs) (unstarted more silent)
      ∙ append_none (versions tx own),
)
  where
    undecided : (rs : List Rec) → list_all is_aside rs ≡ true → decisions tx rs ≡ []
    undecided [] s = refl
    undecided (note.Start u top ∷ rs) s = absurd (cc (s))
    undecided (note.Decide u commit ∷ rs) s = absurd (cc (s))
    undecided (_ ∷ rs) s = undecided rs s

    unstarted : (rs : List Rec) → list_all is_aside rs ≡ true → versions tx rs ≡ []
    unstarted [] s = refl
    unstarted (note.Start u top ∷ rs) s = absurd (cc (s))
    unstarted (note.Decide u commit ∷ rs) s = absurd (cc (s))
    unstarted (_ ∷ rs) s = unstarted rs s

pub starter_silent : (me : NodeId) (own more : List Rec) (s : NodeState) → list_all is_aside more ≡ true →
    StarterFits me own s.txs s.session_states → StarterFits me (own ++ more) s.txs s.session_states
starter_silent me own more s silent i = starter_said me own (own ++ more) s.txs s.session_states
    (λ tx mine. silent_said tx own more silent) i

-- sets of transactions of lost starters
each_tx : (P : TxId → Type 0) (xs : List TxId) (k : TxId) → P k → HoldsOfEach P xs → HoldsOfEach P (with_member tx_cmp xs k)
each_tx P [] k here all = (here, tt)
each_tx P (x ∷ xs) k here all =
    elim (tx_cmp k x) as (λ r. HoldsOfEach P (match_ordering r (k ∷ x ∷ xs) (x ∷ xs) (x ∷ with_member tx_cmp xs k))) [
      | Less ↦ (here, all)
      | Equal ↦ all
      | Greater ↦ (all.0, each_tx P xs k here all.1)
    ]

each_txs : (P : TxId → Type 0) (xs ks : List TxId) → HoldsOfEach P xs → HoldsOfEach P ks → HoldsOfEach P (with_members xs ks)
each_txs P xs [] all more = all
each_txs P xs (k ∷ ks) all more = each_txs P (with_member tx_cmp xs k) ks (each_tx P xs k more.0 all) more.1

module _ (past : ActPast) (lives : is_lost past.recs past.me ≡ false) where
  -- what is known of the node in the midst of its act
  pub record Held (s : NodeState) : Type 0 where
    pub starter : StarterInAct (own_past past) s
    pub face : FaceFits past (starter_face s)

  abbrev G : NodeState → NodeState → Type 0
  G = Goes (own_past past) past.most (KeepsFace past) (face_kit past)

  goes : (a b : NodeState) → (StarterInAct (own_past past) a → G a b) → Held a → Held b
  goes a b row h = let done = row h.starter in record { starter = done.0; face = done.1 h.face }

  -- a message in hand that is of no more use
  takes : (a b : NodeState) → (StarterInAct (own_past past) a → StarterInAct (own_past past) b × KeepsFace past a b) →
      Held a → Held b
  takes a b row h = let done = row h.starter in record { starter = done.0; face = done.1 h.face }

  pub leaves : (a b : NodeState) → LeavesStarters a b → Held a → Held b
  leaves a b l h = record {
    starter = subst (λ (f : StarterFace). StarterFits f.me (own_past past ++ f.noted) f.txs f.session_states) (sym l.face_is)
        (subst (λ (rs : List Rec). StarterFits a.me rs a.txs a.session_states) (append_twice (own_past past) a.noted l.more)
        (starter_silent a.me (own_past past ++ a.noted) l.more a (all_aside l.more l.silent) h.starter));
    face = leaves_face past a b l h.face;
  }

  either : (s x y : NodeState) (b : Bool) → (Held s → Held x) → (Held s → Held y) → Held s → Held (if b then x else y)
  either s x y true first second = first
  either s x y false first second = second

  -- What follows each row.

  starts_held : (s : NodeState) → Held s → Held (after_start_all s)
  starts_held s h = goes s (after_start_all s) (λ i. starts_all_goes (own_past past) past.most (KeepsFace past)
      (face_kit past) s i) h

  pub closes : (s : NodeState) → Held s → Held (after_closing_rules s)
  closes s h =
      let shared = after_advance_shares s (own_txs s) in
      let first = after_advance_starter shared in
      let started = after_start_all first in
      let second = after_advance_starter started in
      leaves second (after_single_if_drained second) (single_if_drained_leaves second)
      (goes started second (λ i. near_on_goes (own_past past) past.most (KeepsFace past) (face_kit past) started i)
      (starts_held first
      (goes shared first (λ i. near_on_goes (own_past past) past.most (KeepsFace past) (face_kit past) shared i)
      (leaves s shared (advance_shares_leaves s (own_txs s)) h))))

  -- Sessions and deadlines.

  pub calls : (s : NodeState) (session : ℕ) → RoomAt (own_past past) past.most (KeepsFace past) (face_kit past) s session →
      Held s → Held (after_call s session)
  calls s session room h =
      goes s (after_call s session) (λ i. call_row_goes (own_past past) past.most (KeepsFace past) (face_kit past) s session
      room i) h

  pub answers : (s : NodeState) (session : ℕ) → Held s → Held (after_answer s session)
  answers s session h = goes s (after_answer s session) (λ i. answer_row_goes (own_past past) past.most (KeepsFace past)
      (face_kit past) s session i) h

  pub expires : (s : NodeState) (tx : TxId) → is_overdue s tx ≡ true → Held s → Held (after_expire s tx)
  expires s tx due h = goes s (after_expire s tx) (λ i. expire_goes (own_past past) past.most (KeepsFace past)
      (λ (x : MessageInHand) (a b : NodeState). KeepsFace past a b) (face_kit past) (answer_face past) s tx due i) h

  -- Openings.

  opened_here : (s : NodeState) (top : TopVer) → Held s → Held (with_note (record s { opened = Some top }) (note.Opened top))
  opened_here s top h = record {
    starter = subst (λ (rs : List Rec). StarterFits s.me rs s.txs s.session_states)
        (append_twice (own_past past) s.noted (note.Opened top ∷ [])) (starter_silent s.me (own_past past ++ s.noted)
        (note.Opened top ∷ []) s refl h.starter);
    face = record {
      me_is = h.face.me_is;
      notes = subst (λ (rs : List Rec). NotesFit past.me past.initial past.most rs s.session_states (Some top))
          (append_twice (own_past past) s.noted (note.Opened top ∷ [])) (record {
            few = h.face.notes.few;
            opened_is = λ v is. let same : top ≡ v = cc (is) in
                subst (λ (t : TopVer). was_open_here past.initial ((own_past past ++ s.noted) ++ note.Opened top ∷ []) t ≡ true)
                same (opened_now past.initial (own_past past ++ s.noted) top);
            fit = own_parts past.me past.initial [] (own_past past ++ s.noted) (note.Opened top ∷ []) h.face.notes.fit (tt, tt);
          });
      lists = h.face.lists;
      own_or_lost = each_both (IsOwnOrLost past.recs (Some past.me)) s.noted (note.Opened top ∷ []) h.face.own_or_lost (tt, tt);
      lossless = all_of_both tells_no_loss s.noted (note.Opened top ∷ []) h.face.lossless refl;
    };
  }

  opens : (s : NodeState) (top : TopVer) → Held s → Held (after_opens s top)
  opens s top h =
      let opened = with_note (record s { opened = Some top }) (note.Opened top) in
      let started = after_start_all opened in
      let outs = demand_outs started.me (installed_top started) 0 (rows_of started) in
      leaves started (after_send_demands started) (sends_all started (after_send_demands started) outs
      (no_list_demands started.me (installed_top started) 0 (rows_of started)) refl)
      (starts_held opened (opened_here s top h))

  opens_for_all : (s : NodeState) (top : TopVer) → Held s → Held (after_open_for_all s top)
  opens_for_all s top h =
      let over : NodeState = record s { exchange = None } in
      let told = with_outs over (outs_to (others_seen s) (msg.Opens top)) in
      opens told top (leaves over told (sends_all over told (outs_to (others_seen s) (msg.Opens top))
      (no_list_to (others_seen s) (msg.Opens top) refl) refl) (leaves s over (aside s over refl) h))

  opens_if_all : (s : NodeState) (found : Option Exchange) → Held s → Held (after_open_if_all s found)
  opens_if_all s None h = h
  opens_if_all s (Some x) h = either s (after_open_for_all s x.top) s (all_installed s.members x.installed)
      (opens_for_all s x.top) (λ same. same) h

  counts : (s : NodeState) (x : Exchange) → Held s → Held (after_count s x)
  counts s x h = let here : NodeState = record s { exchange = Some x } in
      opens_if_all here (Some x) (leaves s here (aside s here refl) h)

  computes : (s : NodeState) (m : PartMap) → Held s → Held (after_compute s m)
  computes s m h =
      let fewer = without_singles s m.top in
      let there = after_install fewer m in
      let told = with_outs there (outs_to (others_seen s) (msg.Full m)) in
      counts told (record { top = m.top; installed = s.me ∷ [] })
      (leaves there told (sends_all there told (outs_to (others_seen s) (msg.Full m))
      (no_list_to (others_seen s) (msg.Full m) refl) refl)
      (leaves fewer there (install_leaves fewer m) (leaves s fewer (aside s fewer refl) h)))

  computes_if_all : (s : NodeState) → Held s → Held (after_compute_if_all s)
  computes_if_all s h = either s (after_compute s (next_map_seen s)) s (may_compute s) (computes s (next_map_seen s))
      (λ same. same) h

  counts_installed : (s : NodeState) (from : NodeId) (top : TopVer) (found : Option Exchange) → Held s →
      Held (after_count_installed s from top found)
  counts_installed s from top None h = h
  counts_installed s from top (Some x) h =
      let more : Exchange = record x { installed = with_member node_cmp x.installed from } in
      either s (after_count s more) s (same_top x.top top) (counts s more) (λ same. same) h

  -- Verdicts, of transactions of lost starters.

  verdict_given : (s : NodeState) (tx : TxId) (commit : Bool) (shares : List Share) (nodes : List NodeId) →
      is_lost past.recs tx.node ≡ true → Held s → Held (after_give_verdict s tx commit shares nodes)
  verdict_given s tx commit shares nodes lost h =
      let kept : NodeState = record s { verdicts = put tx_cmp s.verdicts tx commit } in
      let noted = with_note kept (note.Decide tx commit) in
      let awaiting = with_verdict_awaited noted tx (finish_nodes s shares nodes) (orphaned_shares s shares) in
      let outs = outs_to (finish_nodes s shares nodes) (msg.Finish tx commit) ++ finishes_for_lost s tx commit shares
      (lost_among s (primaries_of shares)) in
      let after_notes : Held noted = record {
        starter = subst (λ (rs : List Rec). StarterFits s.me rs s.txs s.session_states)
            (append_twice (own_past past) s.noted (note.Decide tx commit ∷ []))
            (starter_said s.me (own_past past ++ s.noted) ((own_past past ++ s.noted) ++ note.Decide tx commit ∷ []) s.txs
            s.session_states (λ u mine. said u mine (tx_tells tx u)) h.starter);
        face = noted_face past kept noted (note.Decide tx commit) [] (λ f mine. absurd (other (sym mine)))
            (λ f. inr lost) refl refl
            (λ j. record (starter_face s) {
              noted = s.noted ++ note.Decide tx commit ∷ [];
              outbox =
                  sym (append_none s.outbox) j;
            }) (leaves s kept (aside s kept refl) h).face;
      } in
      leaves awaiting (after_give_verdict s tx commit shares nodes)
      (sends_all awaiting (after_give_verdict s tx commit shares nodes) outs
      (all_of_both sends_no_list (outs_to (finish_nodes s shares nodes) (msg.Finish tx commit))
      (finishes_for_lost s tx commit shares (lost_among s (primaries_of shares)))
      (no_list_to (finish_nodes s shares nodes) (msg.Finish tx commit) refl)
      (no_list_for_lost s tx commit shares (lost_among s (primaries_of shares)))) refl)
      (leaves noted awaiting (on_round_leaves noted _ noted.round) after_notes)
    where
      other : past.me ≡ tx.node → ⊥
      other me = let here : is_lost past.recs past.me ≡ true = ap (λ (n : NodeId). is_lost past.recs n) me ∙ lost in
          cc (here, lives)

      said : (u : TxId) → u.node ≡ s.me → ((same_tx tx u ≡ true) × (tx ≡ u)) ⊎ ((same_tx tx u ≡ false) × (tx ≢ u)) →
          SameSaid (own_past past ++ s.noted) ((own_past past ++ s.noted) ++ note.Decide tx commit ∷ []) u
      said u mine (inl is) = absurd (other (sym (ap (λ (t : TxId). t.node) is.1 ∙ mine ∙ h.face.me_is)))
      said u mine (inr apart) = (
        decisions_append u (own_past past ++ s.noted) (note.Decide tx commit ∷ [])
            ∙ rw apart.0 (append_none (decisions u (own_past past ++ s.noted))),
        versions_append u (own_past past ++ s.noted) (note.Decide tx commit ∷ [])
            ∙ append_none (versions u (own_past past ++ s.noted)),
      )

  abbrev AreLost : List TxId → Type 0
  AreLost txs = HoldsOfEach (λ (tx : TxId). is_lost past.recs tx.node ≡ true) txs

  judges : (s : NodeState) (tx : TxId) (members : List Member) (orphans : List Orphan) (nodes : List NodeId) →
      is_lost past.recs tx.node ≡ true → Held s → Held (after_judge s tx members orphans nodes)
  judges s tx members orphans nodes lost h =
      either s s (after_give_verdict s tx (verdict (at tx_cmp s.verdicts tx) orphans members) (shares_named orphans) nodes)
      (is_settled orphans)
      (λ same. same) (verdict_given s tx (verdict (at tx_cmp s.verdicts tx) orphans members) (shares_named orphans) nodes
      lost) h

  judges_each : (s : NodeState) (members : List Member) (reports : List Report) (txs : List TxId) → AreLost txs → Held s →
      Held (after_judge_each s members reports txs)
  judges_each s members reports [] lost h = h
  judges_each s members reports (tx ∷ txs) lost h =
      let judged = after_judge s tx members (orphans_for tx reports) (lockers tx reports) in
      judges_each judged members reports txs lost.1 (judges s tx members (orphans_for tx reports) (lockers tx reports) lost.0 h)

  names_lost : (list : List Orphan) → NamesLost past.recs list → AreLost (orphan_names list)
  names_lost [] named = tt
  names_lost (o ∷ os) named = (named.0, names_lost os named.1)

  names_from_lost : (set : List TxId) (reports : List Report) → AreLost set →
      HoldsOfEach (λ (r : Report). NamesLost past.recs r.list) reports → AreLost (names_from set reports)
  names_from_lost set [] all more = all
  names_from_lost set (r ∷ rs) all more =
      names_from_lost (with_members set (orphan_names r.list)) rs
      (each_txs (λ (tx : TxId). is_lost past.recs tx.node ≡ true) set (orphan_names r.list) all
      (names_lost r.list more.0)) more.1

  acts_on_round : (s : NodeState) (members : List Member) (reports : List Report) →
      HoldsOfEach (λ (r : Report). NamesLost past.recs r.list) reports → Held s → Held (after_act_on_round s members reports)
  acts_on_round s members reports named h =
      judges_each (with_round_acted s) members reports (names_of reports) (names_from_lost [] reports tt named)
      (leaves s (with_round_acted s) (on_round_leaves s _ s.round) h)

  recovers_if_all : (s : NodeState) (found : Option Round) → Held s → Held (after_recover_if_all s found)
  recovers_if_all s None h = h
  recovers_if_all s (Some r) h =
      let mine = reports_for s.reports r.place in
      either s (after_recover_with s r mine) s (is_recoverer s r && not r.acted)
      (either s (after_act_on_round s r.members mine) s (all_reported r.members mine)
      (acts_on_round s r.members mine
      (each_filter (λ (x : Report). NamesLost past.recs x.list) _ s.reports h.face.lists.reports_lost)) (λ same. same))
      (λ same. same) h

  orphans_come : (s : NodeState) (from : NodeId) (round : ℕ) (list : List Orphan) → NamesLost past.recs list → Held s →
      Held (after_orphans s from round list)
  orphans_come s from round list named h =
      let report : Report = record { round = round; from = from; list = list } in
      let here : NodeState = record s { reports = s.reports ++ report ∷ [] } in
      recovers_if_all here here.round (record {
        starter = h.starter;
        face = record {
          me_is = h.face.me_is;
          notes = h.face.notes;
          lists = record {
            left_lost = h.face.lists.left_lost;
            reports_lost = each_both (λ (r : Report). NamesLost past.recs r.list) s.reports
                (report ∷ []) h.face.lists.reports_lost (named, tt);
            outbox_lost = h.face.lists.outbox_lost;
          };
          own_or_lost = h.face.own_or_lost;
          lossless = h.face.lossless;
        };
      })

  -- Events.

  pub learns : (s : NodeState) (e : TopoEvent) → IsLostLeaver past.recs e → Held s → Held (after_learn s e)
  learns s e lost h = record {
    starter = h.starter;
    face = record {
      me_is = h.face.me_is;
      notes = h.face.notes;
      lists = record {
        left_lost = by e lost;
        reports_lost = h.face.lists.reports_lost;
        outbox_lost =
            h.face.lists.outbox_lost;
      };
      own_or_lost = h.face.own_or_lost;
      lossless = h.face.lossless;
    };
  }
    where
      by : (e : TopoEvent) → IsLostLeaver past.recs e → HoldsOfEach (λ (n : NodeId). is_lost past.recs n ≡ true)
          (left_after s.left e)
      by (topo.Left n) lost = each_with (λ (n : NodeId). is_lost past.recs n ≡ true) s.left n lost h.face.lists.left_lost
      by (topo.Join m) lost = h.face.lists.left_lost
      by topo.Minor lost = h.face.lists.left_lost
      by (topo.Start cache) lost = h.face.lists.left_lost
      by (topo.Stop cache) lost = h.face.lists.left_lost

  -- the transactions whose starters were seen to leave
  lost_named : (s : NodeState) → HoldsOfEach (λ (n : NodeId). is_lost past.recs n ≡ true) s.left →
      (standing txs : List TxId) → NamesLost past.recs (orphans_among s standing (lost_starters s txs))
  lost_named s left standing [] = tt
  lost_named s left standing (tx ∷ txs) = by (lost_named s left standing txs) (has node_cmp s.left tx.node) refl
    where
      by : NamesLost past.recs (orphans_among s standing (lost_starters s txs)) → (c : Bool) →
          has node_cmp s.left tx.node ≡ c →
          NamesLost past.recs (orphans_among s standing (if not (not c) then tx ∷ lost_starters s txs else lost_starters s txs))
      by rest true gone = (
        has_passes (λ (n : NodeId). is_lost past.recs n) s.left tx.node exact_nodes
            (each_all (λ (n : NodeId). is_lost past.recs n) s.left left) gone,
        rest,
      )
      by rest false stays = rest

  begins_round : (s : NodeState) (place : ℕ) → Held s → Held (after_begin_round s place)
  begins_round s place h =
      let here = with_new_round s place in
      by (oldest_seen here) (leaves s here (aside s here refl) h)
    where
      by : (to : Option NodeId) → Held (with_new_round s place) →
          Held (with_out_to_oldest (with_new_round s place) (msg.Orphans place (orphans_of (with_new_round s place))) to)
      by None k = k
      by (Some oldest) k = record {
        starter = k.starter;
        face = record {
          me_is = k.face.me_is;
          notes = k.face.notes;
          lists = record {
            left_lost = k.face.lists.left_lost;
            reports_lost = k.face.lists.reports_lost;
            outbox_lost = each_both (λ (o : Out). MessageNamesLost past.recs o.msg) s.outbox
                (record { to = oldest; msg = msg.Orphans place (orphans_of (with_new_round s place)) } ∷ [])
                k.face.lists.outbox_lost (
                  lost_named (with_new_round s place) k.face.lists.left_lost (queued_txs s.queues)
                      (held_txs (with_new_round s place)),
                  tt,
                );
          };
          own_or_lost = k.face.own_or_lost;
          lossless = k.face.lossless;
        };
      }

  effects : (s : NodeState) (place : ℕ) (e : TopoEvent) → Held s → Held (after_event_effects s place e)
  effects s place (topo.Left node) h =
      let near = after_left_at_starter s node in
      let primary = after_left_at_primary near node in
      let round = after_begin_round primary place in
      goes round (after_left_at_searches round node) (λ i. left_at_searches_goes (own_past past) past.most (KeepsFace past)
      (face_kit past) round node i)
      (begins_round primary place (leaves near primary (left_at_primary_leaves near node)
      (goes s near (λ i. left_at_starter_goes (own_past past) past.most (KeepsFace past) (face_kit past) s node i) h)))
  effects s place (topo.Join m) h = h
  effects s place topo.Minor h = h
  effects s place (topo.Start cache) h = h
  effects s place (topo.Stop cache) h = h

  pub sees : (s : NodeState) (place : ℕ) (e : TopoEvent) → IsLostLeaver past.recs e → Held s → Held (after_see s place e)
  sees s place e lost h =
      let known = after_learn s e in
      let seen = with_note known (note.See place) in
      effects seen place e (leaves known seen (notes known seen (note.See place) refl refl) (learns s e lost h))

  -- Messages.

  abbrev InHand : MessageInHand → NodeState → NodeState → Type 0
  InHand x a b = KeepsFace past a b

  finishes : (s : NodeState) (from : NodeId) (tx : TxId) → Held s → Held (after_finished s from tx)
  finishes s from tx h =
      let near = after_finished_at_starter s from tx in
      leaves near (after_finished s from tx) (finished_at_recoverer_leaves near from tx)
      (takes s near (λ i. finished_takes (own_past past) past.most (KeepsFace past) InHand (face_kit past)
      (answer_face past) s from tx i) h)

  backup_finishes : (s : NodeState) (from : NodeId) (tx : TxId) (primary : NodeId) → Held s →
      Held (after_backup_finished s from tx primary)
  backup_finishes s from tx primary h =
      let own = after_backup_finished_at_primary s from tx primary in
      let near = after_backup_finished_at_starter own from tx primary in
      leaves near (after_backup_finished s from tx primary) (backup_finished_at_recoverer_leaves near from tx primary)
      (goes own near (λ i. backup_finished_goes (own_past past) past.most (KeepsFace past) (face_kit past) own from tx primary
      i)
      (leaves s own (backup_finished_at_primary_leaves s from tx primary) h))

  pub messages : (s : NodeState) (from : NodeId) (m : Message) → MessageNamesLost past.recs m → Held s →
      Held (after_message s from m)
  messages s from (msg.Lock tx top key) named h = leaves s _ (lock_leaves s from tx top key) h
  messages s from (msg.LockOk tx key found) named h =
      takes s _ (λ i. lock_ok_takes (own_past past) past.most (KeepsFace past) InHand (face_kit past)
      (answer_face past) s from tx key found i) h
  messages s from (msg.Get tx key near) named h = leaves s _ (get_leaves s from tx key near) h
  messages s from (msg.GetOk tx key found) named h =
      takes s _ (λ i. get_ok_takes (own_past past) past.most (KeepsFace past) InHand (face_kit past) (answer_face past) s from
      tx key found i) h
  messages s from (msg.Prepare tx top how shares wanted writes) named h =
      leaves s _ (prepare_leaves s from tx top how shares wanted writes) h
  messages s from (msg.Prepared tx) named h =
      takes s _ (λ i. prepared_takes (own_past past) past.most (KeepsFace past) InHand (face_kit past)
      (answer_face past) s from tx i) h
  messages s from (msg.PrepareFail tx why) named h =
      takes s _ (λ i. prepare_fail_takes (own_past past) past.most (KeepsFace past) InHand (face_kit past)
      (answer_face past) s from tx why i) h
  messages s from (msg.Finish tx commit) named h = leaves s _ (finish_leaves s from tx commit) h
  messages s from (msg.Finished tx) named h = finishes s from tx h
  messages s from (msg.Edges tx round asked) named h = leaves s _ (edges_leaves s from tx round asked) h
  messages s from (msg.EdgesOk tx round act waits) named h =
      takes s _ (λ i. edges_ok_takes (own_past past) past.most (KeepsFace past) InHand (face_kit past)
      (answer_face past) s from tx round act waits i) h
  messages s from (msg.BackupPrepare tx top shares primary writes) named h =
      leaves s _ (backup_prepare_leaves s from tx top shares primary writes) h
  messages s from (msg.BackupPrepared tx) named h = leaves s _ (backup_prepared_leaves s from tx) h
  messages s from (msg.BackupFinish tx primary commit) named h = leaves s _ (backup_finish_leaves s from tx primary commit) h
  messages s from (msg.BackupFinished tx primary) named h = backup_finishes s from tx primary h
  messages s from (msg.NearUpdate tx key new ver) named h =
      leaves s _ (sends_all s (after_near_update s from tx key new ver) (record { to = from; msg = msg.NearDone tx key } ∷ [])
      refl refl) h
  messages s from (msg.NearDone tx key) named h = leaves s _ (near_done_leaves s from tx key) h
  messages s from (msg.Single top o complete) named h =
      let here : NodeState = record s {
        singles = s.singles ++ record { from = from; top = top; map = o; complete = complete }
            ∷ [];
      } in
      computes_if_all here (leaves s here (aside s here refl) h)
  messages s from (msg.Full m) named h = leaves s _ (full_leaves s from m) h
  messages s from (msg.Installed top) named h = counts_installed s from top s.exchange h
  messages s from (msg.Opens top) named h = opens s top h
  messages s from (msg.Demand top part after) named h = leaves s _ (demand_leaves s from top part after) h
  messages s from (msg.Supply top part entries last) named h = leaves s _ (supply_leaves s from top part entries last) h
  messages s from (msg.Complete top) named h = leaves s _ (complete_leaves s from top) h
  messages s from (msg.Orphans round list) named h = orphans_come s from round list named h
