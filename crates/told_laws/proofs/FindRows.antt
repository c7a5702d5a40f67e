-- Each row sends only what is right: the atoms of the near side, and the rows that leave sessions and accesses alone.
use Rattle.std.proofs.Common.{◌≡◌, ◌++◌, ◌&&◌, ℕ, List, [], ◌∷◌, Bool, true, false, if◌then◌else◌, not, Option, Some, None, refl, ap, sym, subst, ◌∙◌}
use Rattle.std.specs.List.{list_all}
use Rattle.act_rows.specs.Acts.{after_backup_finished, after_event_effects, after_finished, after_message, after_see}
use Rattle.act_rows.specs.Accesses.{after_backup_finished_at_starter, after_finished_at_starter, after_keep_near, after_near_update, prepare_outs, read_of, shares_of, with_found_read, with_lock_asked, with_preparing, with_tx_state, with_value_asked, without_awaited, without_getting}
use Rattle.act_rows.specs.Closing.{after_advance_starter, after_closing_rules, after_single_if_drained}
use Rattle.act_rows.specs.Commands.{after_answer, after_call, after_open_tx, new_entry, next_tx}
use Rattle.act_rows.specs.Decisions.{after_decide_of, after_fail, after_left_at_starter, decided_entry, decision_outs, entry_after_left, finishes_for_lost, orphaned_shares, outs_after_left, primaries_at, with_entry_left}
use Rattle.act_rows.specs.Exchange.{after_compute, after_compute_if_all, after_count, after_count_installed, after_install, after_learn, after_open_for_all, after_open_if_all, after_opens, after_send_demands, all_installed, demand_outs, may_compute, next_map_seen, others_seen, without_singles}
use Rattle.act_rows.specs.Primary.{after_advance_shares, after_backup_finished_at_primary, after_left_at_primary, own_txs}
use Rattle.act_rows.specs.Recovery.{after_act_on_round, after_begin_round, after_give_verdict, after_judge, after_judge_each, after_orphans, after_recover_if_all, after_recover_with, all_reported, finish_nodes, is_recoverer, lockers, names_of, orphans_for, orphans_of, primaries_of, reports_for, with_new_round, with_round_acted, with_verdict_awaited}
use Rattle.act_rows.specs.Searches.{after_expire, is_overdue}
use Rattle.act_rows.specs.Starts.{after_start_all}
use Rattle.act_rows.specs.Steps.{entry_of, installed_top, lost_among, near_of, oldest_seen, on_entry, on_session_state, outs_to, rows_of, session_state_of, with_entry, with_near, with_note, with_out, with_out_to_oldest, with_outs, with_session_state}
use Rattle.frame_laws.proofs.Extending.{append_twice}
use Rattle.ignite_types.proofs.NameLaws.{same_node_itself}
use Rattle.ignite_types.specs.Names.{key_cmp, node_cmp, same_node, same_top, share_cmp, tx_cmp}
use Rattle.ignite_types.specs.declared.answer.Fault.{Fault}
use Rattle.ignite_types.specs.declared.journal.Rec.{Rec}
use Rattle.ignite_types.specs.declared.journal.TopoEvent.{TopoEvent}
use Rattle.ignite_types.specs.declared.message.Message.{Message}
use Rattle.ignite_types.specs.declared.message.Orphan.{Orphan}
use Rattle.ignite_types.specs.declared.message.Out.{Out}
use Rattle.ignite_types.specs.declared.names.NodeId.{NodeId}
use Rattle.ignite_types.specs.declared.names.TopVer.{TopVer}
use Rattle.ignite_types.specs.declared.names.TxId.{TxId}
use Rattle.ignite_types.specs.declared.placement.PartMap.{PartMap}
use Rattle.ignite_types.specs.declared.placement.Share.{Share}
use Rattle.ignite_types.specs.declared.scenario.Command.{Command}
use Rattle.ignite_types.specs.declared.scenario.Member.{Member}
use Rattle.ignite_types.specs.declared.scenario.Mode.{Mode}
use Rattle.ignite_types.specs.declared.text.Key.{Key}
use Rattle.node_state.specs.Node.{NodeState}
use Rattle.node_state.specs.declared.near.TxEntry.{TxEntry}
use Rattle.node_state.specs.declared.session.SessionState.{SessionState}
use Rattle.node_state.specs.declared.topology.Exchange.{Exchange}
use Rattle.node_state.specs.declared.topology.Report.{Report}
use Rattle.node_state.specs.declared.topology.Round.{Round}
use Rattle.ordered_set.specs.Members.{with_member, without_member}
use Rattle.ordered_table.specs.Entries.{at, put, without}
use Rattle.part_model.specs.Copies.{Found}
use Rattle.part_model.specs.NearEntries.{near_front}
use Rattle.part_model.specs.Verdicts.{is_settled, shares_named, verdict}
use Rattle.scenes.specs.Rows.{MessageInHand}
use Rattle.told_laws.proofs.LeavesAccesses.{aside, notes, right_decided, right_demands, right_for_lost, right_left, right_prepares, right_to, sends, sends_all, same_me as leaves_me}
use Rattle.told_laws.proofs.QuietRows.{advance_shares_leaves, backup_finish_leaves, backup_finished_at_primary_leaves, backup_finished_at_recoverer_leaves, backup_prepare_leaves, backup_prepared_leaves, complete_leaves, demand_leaves, edges_leaves, finish_leaves, finished_at_recoverer_leaves, full_leaves, get_leaves, install_leaves, left_at_primary_leaves, lock_leaves, near_done_leaves, on_round_leaves, prepare_leaves, single_if_drained_leaves, supply_leaves}
use Rattle.told_laws.specs.FindFacts.{SendsRight}
use Rattle.told_laws.specs.LeavesAccesses.{AccessFace, LeavesAccesses, is_quiet, is_right, is_sent_right}
use Rattle.transaction_laws.proofs.LeavesStarters.{all_of_both}
use Rattle.transaction_laws.proofs.StarterActs.{starter_silent}
use Rattle.transaction_laws.proofs.StarterAnswers.{edges_ok_takes, expire_goes, finished_takes, get_ok_takes, lock_ok_takes, prepare_fail_takes, prepared_takes}
use Rattle.transaction_laws.proofs.StarterAtoms.{no_more}
use Rattle.transaction_laws.proofs.StarterLosses.{backup_finished_goes, left_at_searches_goes, left_at_starter_goes}
use Rattle.transaction_laws.proofs.StarterRows.{RoomAt, answer_row_goes, call_row_goes, near_on_goes, starts_all_goes}
use Rattle.transaction_laws.specs.StarterFacts.{StarterFits, StarterInAct, is_aside}
use Rattle.transaction_laws.specs.StarterKits.{AnswerKit, StarterKit}
use Rattle.ignite_types.specs.declared.journal.Rec.TheVariants as note
use Rattle.ignite_types.specs.declared.journal.TopoEvent.TheVariants as topo
use Rattle.ignite_types.specs.declared.message.Message.TheVariants as msg
use Rattle.ignite_types.specs.declared.scenario.Command.TheVariants as command
use Rattle.node_state.specs.declared.near.TxState.TheVariants as state

-- Small steps.

pub sends_none : (a b : NodeState) → b.me ≡ a.me → b.outbox ≡ a.outbox → SendsRight a b
sends_none a b me same =
    record { same_me = me; right = λ all. subst (λ (os : List Out). list_all (is_sent_right a.me) os ≡ true) (sym same) all }

sends_more : (a b : NodeState) (outs : List Out) → b.me ≡ a.me → b.outbox ≡ a.outbox ++ outs →
    list_all (is_sent_right a.me) outs ≡ true → SendsRight a b
sends_more a b outs me is right = record {
  same_me = me;
  right = λ all. subst (λ (os : List Out). list_all (is_sent_right a.me) os ≡ true) (sym is)
      (all_of_both (is_sent_right a.me) a.outbox outs all right);
}

pub sends_then : (a b c : NodeState) → SendsRight a b → SendsRight b c → SendsRight a c
sends_then a b c first second = record {
  same_me = second.same_me ∙ first.same_me;
  right = λ all. subst (λ (n : NodeId). list_all (is_sent_right n) c.outbox ≡ true) first.same_me
      (second.right (subst (λ (n : NodeId). list_all (is_sent_right n) b.outbox ≡ true) (sym first.same_me) (first.right all)));
}

leaves_send : (a b : NodeState) → LeavesAccesses a b → SendsRight a b
leaves_send a b l = sends_more a b l.sent (leaves_me a b l) (ap (λ (f : AccessFace). f.outbox) l.face_is) l.right

entry_sends : (s : NodeState) (tx : TxId) (f : TxEntry → TxEntry) (o : Option TxEntry) → SendsRight s (on_entry s tx f o)
entry_sends s tx f None = sends_none s s refl refl
entry_sends s tx f (Some e) = sends_none s (with_entry s tx (f e)) refl refl

session_sends : (s : NodeState) (session : ℕ) (f : SessionState → SessionState) (o : Option SessionState) →
    SendsRight s (on_session_state s session f o)
session_sends s session f None = sends_none s s refl refl
session_sends s session f (Some d) = sends_none s (with_session_state s session (f d)) refl refl

-- The atoms of the near side.

own_right : (past : List Rec) (s : NodeState) (tx : TxId) (e : TxEntry) → StarterInAct past s → entry_of s tx ≡ Some e →
    same_node tx.node s.me ≡ true
own_right past s tx e i there = ap (λ (n : NodeId). same_node tx.node n) (sym (no_more past s i tx e there).starter)
    ∙ same_node_itself tx.node

decide_sends : (s : NodeState) (tx : TxId) (e : TxEntry) (commit : Bool) → SendsRight s (after_decide_of s tx commit (Some e))
decide_sends s tx e commit =
    let s2 = with_note (on_entry s tx (decided_entry s commit) (entry_of s tx)) (note.Decide tx commit) in
    let first = entry_sends s tx (decided_entry s commit) (entry_of s tx) in
    sends_then s (on_entry s tx (decided_entry s commit) (entry_of s tx)) (after_decide_of s tx commit (Some e)) first
    (sends_then (on_entry s tx (decided_entry s commit) (entry_of s tx)) s2 (after_decide_of s tx commit (Some e))
    (sends_none _ s2 refl refl)
    (sends_more s2 (after_decide_of s tx commit (Some e)) (decision_outs s tx commit e) refl refl
    (right_decided s2.me s tx commit e)))

decide_at_sends : (s : NodeState) (tx : TxId) (commit : Bool) (o : Option TxEntry) →
    SendsRight s (after_decide_of s tx commit o)
decide_at_sends s tx commit None = sends_none s s refl refl
decide_at_sends s tx commit (Some e) = decide_sends s tx e commit

fail_sends : (s : NodeState) (tx : TxId) (f : Fault) → SendsRight s (after_fail s tx f)
fail_sends s tx f =
    let s1 = on_entry s tx (λ (x : TxEntry). record x { fault = Some f }) (entry_of s tx) in
    let s2 = with_note s1 (note.Fault tx f) in
    sends_then s s1 (after_fail s tx f) (entry_sends s tx (λ (x : TxEntry). record x { fault = Some f }) (entry_of s tx))
    (sends_then s1 s2 (after_fail s tx f) (sends_none s1 s2 refl refl) (decide_at_sends s2 tx false (entry_of s2 tx)))

opens_sends : (s : NodeState) (tx : TxId) (m : Mode) (deadline : Option ℕ) (block : Bool) →
    SendsRight s (after_open_tx s tx m deadline block)
opens_sends s tx m deadline block =
    let known = with_entry s tx (new_entry m deadline) in
    sends_then s known (after_open_tx s tx m deadline block) (sends_none s known refl refl)
    (session_sends known tx.session (λ (d : SessionState). record d {
      tx = Some tx;
      block = block;
      skipping = false;
      started =
          tx.number;
    }) (session_state_of known tx.session))

found_sends : (s : NodeState) (tx : TxId) (key : Key) (found : Found) (c : Command) →
    SendsRight s (with_found_read s tx key found c)
found_sends s tx key found (command.Get k) =
    entry_sends s tx (λ (e : TxEntry). record e { reads = put key_cmp e.reads key (read_of found) }) (entry_of s tx)
found_sends s tx key found (command.Add k amount) =
    entry_sends s tx (λ (e : TxEntry). record e { reads = put key_cmp e.reads key (read_of found) }) (entry_of s tx)
found_sends s tx key found c = sends_none s s refl refl

near_kept_sends : (s : NodeState) (key : Key) (near : Bool) (found : Found) → SendsRight s (after_keep_near s key near found)
near_kept_sends s key true (Some (value, ver)) = sends_none s (after_keep_near s key true (Some (value, ver))) refl refl
near_kept_sends s key true None = sends_none s s refl refl
near_kept_sends s key false found = sends_none s s refl refl

module _ (past : List Rec) (most : ℕ) where
  pub send_kit : StarterKit past most SendsRight
  send_kit = record {
    nothing = λ s. sends_none s s refl refl;
    andthen = λ a b c first second. sends_then a b c first second;
    noted = λ s r i silent. sends_none s (with_note s r) refl refl;
    near_cache = λ s key near. sends_none s (with_near s key near) refl refl;
    session_state = λ s session d d2 i here same_tx count quietly. sends_none s (with_session_state s session d2) refl refl;
    opened = λ s session d m deadline block i here none room. opens_sends s (next_tx s session d.started) m deadline block;
    started = λ s tx e i there idle free.
        sends_none s (with_note (with_entry s tx (record e { top = Some s.seen; state = state.Active }))
        (note.Start tx s.seen)) refl refl;
    wrote = λ s tx top a key new i known.
        entry_sends s tx (λ (e : TxEntry). record e { writes = put key_cmp e.writes key new }) (entry_of s tx);
    outcome = λ s tx top a x i. entry_sends s tx (λ (e : TxEntry). record e { outcome = Some x }) (entry_of s tx);
    touched = λ s tx top a key i free. entry_sends s tx (λ (e : TxEntry). record e { keys = with_member key_cmp e.keys key })
        (entry_of s tx);
    hit = λ s tx top a key n i free.
        let s2 = with_near s key (near_front (near_of s key) n) in
        let f = λ (e : TxEntry). record e { reads = put key_cmp e.reads key (record { found = Some n.value; ver = n.ver }) } in
        sends_then s s2 (on_entry s2 tx f (entry_of s2 tx)) (sends_none s s2 refl refl) (entry_sends s2 tx f (entry_of s2 tx));
    asked_value = λ s tx top a key primary near i free first.
        let s2 = with_value_asked s tx key near in
        let asked = entry_sends s tx (λ (e : TxEntry). record e {
          keys = with_member key_cmp e.keys key;
          getting =
              Some (record { key = key; near = near });
        }) (entry_of s tx) in
        sends_then s s2 (with_out s2 primary (msg.Get tx key near)) asked
        (sends_more s2 (with_out s2 primary (msg.Get tx key near)) (record { to = primary; msg = msg.Get tx key near } ∷ [])
        refl refl (rw (asked.same_me, own_right past s tx a.entry i a.there) refl));
    asked_lock = λ s tx top a key primary i locks fresh first on.
        let s2 = with_lock_asked s tx key primary in
        let asked = entry_sends s tx (λ (e : TxEntry). record e {
          keys = with_member key_cmp e.keys key;
          asked =
              with_member node_cmp e.asked primary;
          state = state.Waiting;
        }) (entry_of s tx) in
        sends_then s s2 (with_out s2 primary (msg.Lock tx top key)) asked
        (sends_more s2 (with_out s2 primary (msg.Lock tx top key)) (record { to = primary; msg = msg.Lock tx top key } ∷ [])
        refl refl (rw (asked.same_me, own_right past s tx a.entry i a.there) refl));
    prepared = λ s tx top a key keys i has_keys.
        let nodes = primaries_at s (key ∷ keys) in
        let shares = shares_of s.installed (key ∷ keys) in
        let s2 = with_preparing s tx nodes shares in
        let asked = entry_sends s tx (λ (e : TxEntry). record e {
          state = state.Preparing;
          asked = nodes;
          awaited = nodes;
          shares = shares;
        }) (entry_of s tx) in
        sends_then s s2 (with_outs s2 (prepare_outs s tx top a.entry shares nodes)) asked
        (sends_more s2 (with_outs s2 (prepare_outs s tx top a.entry shares nodes))
        (prepare_outs s tx top a.entry shares nodes) refl refl (right_prepares s2.me s tx top a.entry shares nodes
        (ap (λ (n : NodeId). same_node tx.node n) asked.same_me ∙ own_right past s tx a.entry i a.there)));
    decided = λ s tx e commit i there free may. decide_sends s tx e commit;
    failed = λ s tx e f i there free. fail_sends s tx f;
    backed = λ s from tx primary e i there.
        entry_sends s tx (λ (x : TxEntry).
        record x { backups = without_member share_cmp x.backups (record { holder = from; primary = primary }) })
        (entry_of s tx);
    searched = λ s tx e search i there waits. entry_sends s tx (λ (x : TxEntry). record x {
      state = state.Searching;
      search =
          Some search;
    }) (entry_of s tx);
    edges_asked = λ s tx round known nodes. sends_more s (with_outs s (outs_to nodes (msg.Edges tx round known)))
        (outs_to nodes (msg.Edges tx round known)) refl refl (right_to s.me nodes (msg.Edges tx round known) (λ n. refl));
    left = λ s tx e node i there over.
        let s2 = with_entry_left s tx node in
        sends_then s s2 (with_outs s2 (outs_after_left s tx node e))
        (entry_sends s tx (entry_after_left s node) (entry_of s tx))
        (sends_more s2 (with_outs s2 (outs_after_left s tx node e)) (outs_after_left s tx node e) refl refl
        (right_left s2.me s tx node e));
    fault_kept = λ s tx e i there rolls awaited backups faulty.
        sends_none s (with_entry s tx (record e { state = state.Ended })) refl refl;
    closed = λ s tx e d d2 i there over awaited backups here none count.
        sends_none s (with_session_state (record s { txs = without tx_cmp s.txs tx }) tx.session d2) refl refl;
  }

  abbrev InHand : MessageInHand → NodeState → NodeState → Type 0
  InHand h a b = SendsRight a b

  awaited_sends : (s : NodeState) (tx : TxId) (from : NodeId) → SendsRight s (without_awaited s tx from)
  awaited_sends s tx from = entry_sends s tx (λ (e : TxEntry). record e { awaited = without_member node_cmp e.awaited from })
      (entry_of s tx)

  answer_kit : AnswerKit past SendsRight InHand
  answer_kit = record {
    after = λ h a b c first second. sends_then a b c first second;
    ignored = λ s h i why. sends_none s s refl refl;
    lock_ok = λ s from tx key found e d c i there waiting here pending on.
        let s1 = with_tx_state s tx state.Active in
        sends_then s s1 (with_found_read s1 tx key found c)
        (entry_sends s tx (λ (x : TxEntry). record x { state = state.Active }) (entry_of s tx))
        (found_sends s1 tx key found c);
    get_ok = λ s from tx key found near e d c i there active gets here pending.
        let s1 = without_getting s tx in
        let s2 = after_keep_near s1 key near found in
        sends_then s s1 (with_found_read s2 tx key found c) (entry_sends s tx (λ (x : TxEntry). record x { getting = None })
        (entry_of s tx))
        (sends_then s1 s2 (with_found_read s2 tx key found c) (near_kept_sends s1 key near found)
        (found_sends s2 tx key found c));
    prepared_by = λ s from tx e i there preparing. awaited_sends s tx from;
    finished_by = λ s from tx e i there over. awaited_sends s tx from;
  }

  -- Rows.

  abbrev pub Sends : NodeState → NodeState → Type 0
  Sends a b = StarterInAct past b × SendsRight a b

  quiet_aside : (rs : List Rec) → list_all is_quiet rs ≡ true → list_all is_aside rs ≡ true
  quiet_aside [] all = refl
  quiet_aside (note.Start tx top ∷ rs) all = absurd (cc (all))
  quiet_aside (note.Decide tx commit ∷ rs) all = absurd (cc (all))
  quiet_aside (note.Call session c ∷ rs) all = absurd (cc (all))
  quiet_aside (note.Answer session a ∷ rs) all = absurd (cc (all))
  quiet_aside (note.Fault tx why ∷ rs) all = absurd (cc (all))
  quiet_aside (note.Deliver from m ∷ rs) all = absurd (cc (all))
  quiet_aside (note.Lost node ∷ rs) all = absurd (cc (all))
  quiet_aside (_ ∷ rs) all = quiet_aside rs all

  pub starter_leaves : (a b : NodeState) → LeavesAccesses a b → StarterInAct past a → StarterInAct past b
  starter_leaves a b l i =
      subst (λ (f : AccessFace). StarterFits f.me (past ++ f.noted) f.txs f.session_states) (sym l.face_is)
      (subst (λ (rs : List Rec). StarterFits a.me rs a.txs a.session_states) (append_twice past a.noted l.more)
      (starter_silent a.me (past ++ a.noted) l.more a (quiet_aside l.more l.quiet) i))

  leaves : (a b : NodeState) → LeavesAccesses a b → StarterInAct past a → Sends a b
  leaves a b l i = (starter_leaves a b l i, leaves_send a b l)

  seq : (a b c : NodeState) → Sends a b → (StarterInAct past b → Sends b c) → Sends a c
  seq a b c first second = let rest = second first.0 in (rest.0, sends_then a b c first.1 rest.1)

  starts_send : (s : NodeState) → StarterInAct past s → Sends s (after_start_all s)
  starts_send s i = starts_all_goes past most SendsRight send_kit s i

  pub closes_send : (s : NodeState) → StarterInAct past s → Sends s (after_closing_rules s)
  closes_send s i =
      let shared = after_advance_shares s (own_txs s) in
      let first = after_advance_starter shared in
      let started = after_start_all first in
      let second = after_advance_starter started in
      seq s shared (after_closing_rules s) (leaves s shared (advance_shares_leaves s (own_txs s)) i)
      (λ i1. seq shared first (after_closing_rules s) (near_on_goes past most SendsRight send_kit shared i1)
      (λ i2. seq first started (after_closing_rules s) (starts_send first i2)
      (λ i3. seq started second (after_closing_rules s) (near_on_goes past most SendsRight send_kit started i3)
      (λ i4. leaves second (after_single_if_drained second) (single_if_drained_leaves second) i4))))

  pub calls_send : (s : NodeState) (session : ℕ) → RoomAt past most SendsRight send_kit s session → StarterInAct past s →
      Sends s (after_call s session)
  calls_send s session room i = call_row_goes past most SendsRight send_kit s session room i

  pub answers_send : (s : NodeState) (session : ℕ) → StarterInAct past s → Sends s (after_answer s session)
  answers_send s session i = answer_row_goes past most SendsRight send_kit s session i

  pub expires_send : (s : NodeState) (tx : TxId) → is_overdue s tx ≡ true → StarterInAct past s → Sends s (after_expire s tx)
  expires_send s tx due i = expire_goes past most SendsRight InHand send_kit answer_kit s tx due i

  -- Openings.

  opens_send : (s : NodeState) (top : TopVer) → StarterInAct past s → Sends s (after_opens s top)
  opens_send s top i =
      let opened = with_note (record s { opened = Some top }) (note.Opened top) in
      let started = after_start_all opened in
      seq s opened (after_opens s top) (leaves s opened (notes s opened (note.Opened top) refl refl) i)
      (λ i1. seq opened started (after_opens s top) (starts_send opened i1)
      (λ i2. leaves started (after_send_demands started)
      (sends_all started (after_send_demands started) (demand_outs started.me (installed_top started) 0 (rows_of started))
      (right_demands started.me started.me (installed_top started) 0 (rows_of started)) refl) i2))

  opens_for_all_send : (s : NodeState) (top : TopVer) → StarterInAct past s → Sends s (after_open_for_all s top)
  opens_for_all_send s top i =
      let over : NodeState = record s { exchange = None } in
      let told = with_outs over (outs_to (others_seen s) (msg.Opens top)) in
      seq s told (after_open_for_all s top)
      (leaves s told (sends_all s told (outs_to (others_seen s) (msg.Opens top))
      (right_to s.me (others_seen s) (msg.Opens top) (λ n. refl)) refl) i)
      (λ i1. opens_send told top i1)

  either : (s x y : NodeState) (b : Bool) → (StarterInAct past s → Sends s x) → (StarterInAct past s → Sends s y) →
      StarterInAct past s → Sends s (if b then x else y)
  either s x y true first second = first
  either s x y false first second = second

  stays : (s : NodeState) → StarterInAct past s → Sends s s
  stays s i = (i, sends_none s s refl refl)

  opens_if_all_send : (s : NodeState) (found : Option Exchange) → StarterInAct past s → Sends s (after_open_if_all s found)
  opens_if_all_send s None i = stays s i
  opens_if_all_send s (Some x) i = either s (after_open_for_all s x.top) s (all_installed s.members x.installed)
      (opens_for_all_send s x.top) (stays s) i

  counts_send : (s : NodeState) (x : Exchange) → StarterInAct past s → Sends s (after_count s x)
  counts_send s x i =
      let here : NodeState = record s { exchange = Some x } in
      seq s here (after_count s x) (leaves s here (aside s here refl) i) (λ i1. opens_if_all_send here (Some x) i1)

  computes_send : (s : NodeState) (m : PartMap) → StarterInAct past s → Sends s (after_compute s m)
  computes_send s m i =
      let fewer = without_singles s m.top in
      let there = after_install fewer m in
      let told = with_outs there (outs_to (others_seen s) (msg.Full m)) in
      seq s fewer (after_compute s m) (leaves s fewer (aside s fewer refl) i)
      (λ i1. seq fewer there (after_compute s m) (leaves fewer there (install_leaves fewer m) i1)
      (λ i2. seq there told (after_compute s m)
      (leaves there told (sends_all there told (outs_to (others_seen s) (msg.Full m))
      (right_to there.me (others_seen s) (msg.Full m) (λ n. refl)) refl) i2)
      (λ i3. counts_send told (record { top = m.top; installed = s.me ∷ [] }) i3)))

  computes_if_all_send : (s : NodeState) → StarterInAct past s → Sends s (after_compute_if_all s)
  computes_if_all_send s i = either s (after_compute s (next_map_seen s)) s (may_compute s)
      (computes_send s (next_map_seen s)) (stays s) i

  counts_installed_send : (s : NodeState) (from : NodeId) (top : TopVer) (found : Option Exchange) → StarterInAct past s →
      Sends s (after_count_installed s from top found)
  counts_installed_send s from top None i = stays s i
  counts_installed_send s from top (Some x) i =
      let more : Exchange = record x { installed = with_member node_cmp x.installed from } in
      either s (after_count s more) s (same_top x.top top) (counts_send s more) (stays s) i

  -- Verdicts.

  verdict_sends : (s : NodeState) (tx : TxId) (commit : Bool) (shares : List Share) (nodes : List NodeId) →
      SendsRight s (after_give_verdict s tx commit shares nodes)
  verdict_sends s tx commit shares nodes =
      let noted = with_note (record s { verdicts = put tx_cmp s.verdicts tx commit }) (note.Decide tx commit) in
      let awaiting = with_verdict_awaited noted tx (finish_nodes s shares nodes) (orphaned_shares s shares) in
      let outs = outs_to (finish_nodes s shares nodes) (msg.Finish tx commit) ++ finishes_for_lost s tx commit shares
      (lost_among s (primaries_of shares)) in
      sends_then s noted (after_give_verdict s tx commit shares nodes) (sends_none s noted refl refl)
      (sends_then noted awaiting (after_give_verdict s tx commit shares nodes)
      (leaves_send noted awaiting (on_round_leaves noted _ noted.round))
      (sends_more awaiting (after_give_verdict s tx commit shares nodes) outs refl refl
      (all_of_both (is_sent_right awaiting.me) (outs_to (finish_nodes s shares nodes) (msg.Finish tx commit))
      (finishes_for_lost s tx commit shares (lost_among s (primaries_of shares)))
      (right_to awaiting.me (finish_nodes s shares nodes) (msg.Finish tx commit) (λ n. refl))
      (right_for_lost awaiting.me s tx commit shares (lost_among s (primaries_of shares))))))

  one_of : (s x y : NodeState) (b : Bool) → SendsRight s x → SendsRight s y → SendsRight s (if b then x else y)
  one_of s x y true first second = first
  one_of s x y false first second = second

  judges_send : (s : NodeState) (members : List Member) (reports : List Report) (txs : List TxId) →
      SendsRight s (after_judge_each s members reports txs)
  judges_send s members reports [] = sends_none s s refl refl
  judges_send s members reports (tx ∷ txs) =
      let orphans = orphans_for tx reports in
      let judged = after_judge s tx members orphans (lockers tx reports) in
      sends_then s judged (after_judge_each s members reports (tx ∷ txs))
      (one_of s s (after_give_verdict s tx (verdict (at tx_cmp s.verdicts tx) orphans members) (shares_named orphans)
      (lockers tx reports)) (is_settled orphans) (sends_none s s refl refl)
      (verdict_sends s tx (verdict (at tx_cmp s.verdicts tx) orphans members) (shares_named orphans) (lockers tx reports)))
      (judges_send judged members reports txs)

  acts_on_round_send : (s : NodeState) (members : List Member) (reports : List Report) →
      SendsRight s (after_act_on_round s members reports)
  acts_on_round_send s members reports =
      sends_then s (with_round_acted s) (after_act_on_round s members reports)
      (leaves_send s (with_round_acted s) (on_round_leaves s _ s.round)) (judges_send (with_round_acted s) members reports
      (names_of reports))

  recovers_send : (s : NodeState) (found : Option Round) → SendsRight s (after_recover_if_all s found)
  recovers_send s None = sends_none s s refl refl
  recovers_send s (Some r) =
      let mine = reports_for s.reports r.place in
      one_of s (after_recover_with s r mine) s (is_recoverer s r && not r.acted)
      (one_of s (after_act_on_round s r.members mine) s (all_reported r.members mine) (acts_on_round_send s r.members mine)
      (sends_none s s refl refl)) (sends_none s s refl refl)

  orphans_send : (s : NodeState) (from : NodeId) (round : ℕ) (list : List Orphan) →
      SendsRight s (after_orphans s from round list)
  orphans_send s from round list =
      let here : NodeState = record s { reports = s.reports ++ record { round = round; from = from; list = list } ∷ [] } in
      sends_then s here (after_orphans s from round list) (sends_none s here refl refl) (recovers_send here here.round)

  -- Events.

  begins_round_send : (s : NodeState) (place : ℕ) → StarterInAct past s → Sends s (after_begin_round s place)
  begins_round_send s place i = seq s here (after_begin_round s place) (leaves s here (aside s here refl) i)
      (λ i1. by (oldest_seen here) i1)
    where
      here : NodeState
      here = with_new_round s place

      by : (to : Option NodeId) → StarterInAct past here →
          Sends here (with_out_to_oldest here (msg.Orphans place (orphans_of here)) to)
      by None i1 = stays here i1
      by (Some oldest) i1 = leaves here (with_out here oldest (msg.Orphans place (orphans_of here)))
          (sends here oldest (msg.Orphans place (orphans_of here)) refl) i1

  effects_send : (s : NodeState) (place : ℕ) (e : TopoEvent) → StarterInAct past s → Sends s (after_event_effects s place e)
  effects_send s place (topo.Left node) i =
      let near = after_left_at_starter s node in
      let primary = after_left_at_primary near node in
      let round = after_begin_round primary place in
      let last = after_event_effects s place (topo.Left node) in
      seq s near last (left_at_starter_goes past most SendsRight send_kit s node i)
      (λ i1. seq near primary last (leaves near primary (left_at_primary_leaves near node) i1)
      (λ i2. seq primary round last (begins_round_send primary place i2)
      (λ i3. left_at_searches_goes past most SendsRight send_kit round node i3)))
  effects_send s place (topo.Join m) i = stays s i
  effects_send s place topo.Minor i = stays s i
  effects_send s place (topo.Start cache) i = stays s i
  effects_send s place (topo.Stop cache) i = stays s i

  pub sees_send : (s : NodeState) (place : ℕ) (e : TopoEvent) → StarterInAct past s → Sends s (after_see s place e)
  sees_send s place e i =
      let known = after_learn s e in
      let seen = with_note known (note.See place) in
      seq s known (after_see s place e) (leaves s known (aside s known refl) i)
      (λ i1. seq known seen (after_see s place e) (leaves known seen (notes known seen (note.See place) refl refl) i1)
      (λ i2. effects_send seen place e i2))

  -- Messages.

  finishes_send : (s : NodeState) (from : NodeId) (tx : TxId) → StarterInAct past s → Sends s (after_finished s from tx)
  finishes_send s from tx i =
      let near = after_finished_at_starter s from tx in
      seq s near (after_finished s from tx) (finished_takes past most SendsRight InHand send_kit answer_kit s from tx i)
      (λ i1. leaves near (after_finished s from tx) (finished_at_recoverer_leaves near from tx) i1)

  backup_finishes_send : (s : NodeState) (from : NodeId) (tx : TxId) (primary : NodeId) → StarterInAct past s →
      Sends s (after_backup_finished s from tx primary)
  backup_finishes_send s from tx primary i =
      let own = after_backup_finished_at_primary s from tx primary in
      let near = after_backup_finished_at_starter own from tx primary in
      seq s own (after_backup_finished s from tx primary) (leaves s own (backup_finished_at_primary_leaves s from tx primary) i)
      (λ i1. seq own near (after_backup_finished s from tx primary)
      (backup_finished_goes past most SendsRight send_kit own from tx primary i1)
      (λ i2. leaves near (after_backup_finished s from tx primary) (backup_finished_at_recoverer_leaves near from tx primary)
      i2))

  pub messages_send : (s : NodeState) (from : NodeId) (m : Message) → is_right from s.me m ≡ true → StarterInAct past s →
      SendsRight s (after_message s from m)
  messages_send s from (msg.Lock tx top key) right i = leaves_send s _ (lock_leaves s from tx top key right)
  messages_send s from (msg.LockOk tx key found) right i =
      (lock_ok_takes past most SendsRight InHand send_kit answer_kit s from tx key found i).1
  messages_send s from (msg.Get tx key near) right i = leaves_send s _ (get_leaves s from tx key near right)
  messages_send s from (msg.GetOk tx key found) right i =
      (get_ok_takes past most SendsRight InHand send_kit answer_kit s from tx key found i).1
  messages_send s from (msg.Prepare tx top how shares wanted writes) right i =
      leaves_send s _ (prepare_leaves s from tx top how shares wanted writes right)
  messages_send s from (msg.Prepared tx) right i =
      (prepared_takes past most SendsRight InHand send_kit answer_kit s from tx i).1
  messages_send s from (msg.PrepareFail tx why) right i =
      (prepare_fail_takes past most SendsRight InHand send_kit answer_kit s from tx why i).1
  messages_send s from (msg.Finish tx commit) right i = leaves_send s _ (finish_leaves s from tx commit)
  messages_send s from (msg.Finished tx) right i = (finishes_send s from tx i).1
  messages_send s from (msg.Edges tx round asked) right i = leaves_send s _ (edges_leaves s from tx round asked)
  messages_send s from (msg.EdgesOk tx round act waits) right i =
      (edges_ok_takes past most SendsRight InHand send_kit answer_kit s from tx round act waits i).1
  messages_send s from (msg.BackupPrepare tx top shares primary writes) right i =
      leaves_send s _ (backup_prepare_leaves s from tx top shares primary writes)
  messages_send s from (msg.BackupPrepared tx) right i = leaves_send s _ (backup_prepared_leaves s from tx)
  messages_send s from (msg.BackupFinish tx primary commit) right i =
      leaves_send s _ (backup_finish_leaves s from tx primary commit)
  messages_send s from (msg.BackupFinished tx primary) right i = (backup_finishes_send s from tx primary i).1
  messages_send s from (msg.NearUpdate tx key new ver) right i =
      leaves_send s _ (sends_all s (after_near_update s from tx key new ver) (record { to = from; msg = msg.NearDone tx key }
      ∷ []) refl refl)
  messages_send s from (msg.NearDone tx key) right i = leaves_send s _ (near_done_leaves s from tx key)
  messages_send s from (msg.Single top o complete) right i =
      let here : NodeState = record s {
        singles = s.singles ++ record { from = from; top = top; map = o; complete = complete }
            ∷ [];
      } in
      (seq s here (after_compute_if_all here) (leaves s here (aside s here refl) i) (λ i1. computes_if_all_send here i1)).1
  messages_send s from (msg.Full m) right i = leaves_send s _ (full_leaves s from m)
  messages_send s from (msg.Installed top) right i = (counts_installed_send s from top s.exchange i).1
  messages_send s from (msg.Opens top) right i = (opens_send s top i).1
  messages_send s from (msg.Demand top part after) right i = leaves_send s _ (demand_leaves s from top part after)
  messages_send s from (msg.Supply top part entries last) right i = leaves_send s _ (supply_leaves s from top part entries last)
  messages_send s from (msg.Complete top) right i = leaves_send s _ (complete_leaves s from top)
  messages_send s from (msg.Orphans round list) right i = orphans_send s from round list
