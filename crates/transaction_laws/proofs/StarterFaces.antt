-- Each atom of the near side keeps what is known of a node beside its tables: what it noted, and the lists of lost starters.
use Rattle.std.proofs.Common.{◌≡◌, ◌≤◌, ◌<◌, ◌^◌, ◌++◌, inl, ℕ, List, [], ◌∷◌, Bool, true, false, Option, Some, None, refl, ap, sym, subst, ◌∙◌, arith}
use Rattle.std.specs.List.{list_all}
use Rattle.std.specs.Option.{option_to_list}
use Rattle.std.specs.Ordering.{nat_cmp}
use Rattle.std.specs.Prelude.{nat_lt}
use Rattle.std.proofs.lemmas.Cmp.{nat_cmp_total}
use Rattle.std.proofs.lemmas.Map.Lookups.{exact_unsigned}
use Rattle.act_rows.specs.Accesses.{after_keep_near, prepare_outs, read_of, shares_of, with_found_read, with_lock_asked, with_preparing, with_tx_state, with_value_asked, without_awaited, without_getting}
use Rattle.act_rows.specs.Commands.{after_open_tx, new_entry, next_tx}
use Rattle.act_rows.specs.Decisions.{after_decide, after_decide_of, after_fail, decided_entry, decision_outs, entry_after_left, outs_after_left, primaries_at, with_entry_left}
use Rattle.act_rows.specs.Steps.{is_open as is_version_open}
use Rattle.act_rows.specs.Steps.{entry_of, near_of, on_entry, on_session_state, outs_to, session_state_of, with_entry, with_near, with_note, with_out, with_outs, with_session_state}
use Rattle.frame_laws.proofs.Extending.{append_none, append_twice}
use Rattle.ignite_types.proofs.NameLaws.{same_top_true, tx_total}
use Rattle.ignite_types.specs.Names.{key_cmp, node_cmp, share_cmp, tx_cmp}
use Rattle.ignite_types.specs.declared.answer.Fault.{Fault}
use Rattle.ignite_types.specs.declared.journal.Rec.{Rec}
use Rattle.ignite_types.specs.declared.message.Message.{Message}
use Rattle.ignite_types.specs.declared.message.Out.{Out}
use Rattle.ignite_types.specs.declared.names.NodeId.{NodeId}
use Rattle.ignite_types.specs.declared.names.TopVer.{TopVer}
use Rattle.ignite_types.specs.declared.names.TxId.{TxId}
use Rattle.ignite_types.specs.declared.scenario.Command.{Command}
use Rattle.ignite_types.specs.declared.scenario.Mode.{Mode}
use Rattle.ignite_types.specs.declared.text.Key.{Key}
use Rattle.node_state.specs.Node.{NodeState}
use Rattle.node_state.specs.declared.near.TxEntry.{TxEntry}
use Rattle.node_state.specs.declared.near.TxState.{TxState}
use Rattle.node_state.specs.declared.session.SessionState.{SessionState}
use Rattle.ordered_set.specs.Members.{with_member, without_member}
use Rattle.ordered_table.proofs.Laws as laws
use Rattle.ordered_table.specs.Entries.{at, put, without}
use Rattle.part_model.specs.Copies.{Found}
use Rattle.part_model.specs.NearEntries.{near_front}
use Rattle.topology_laws.proofs.Lists.{each_both}
use Rattle.std.proofs.lemmas.Bool.Decides.{nat_tests}
use Rattle.scenes.specs.Rows.{MessageInHand}
use Rattle.ignite_types.specs.declared.scenario.Command.TheVariants as command
use Rattle.ignite_types.specs.declared.journal.Rec.TheVariants as note
use Rattle.ignite_types.specs.declared.message.Message.TheVariants as msg
use Rattle.node_state.specs.declared.near.TxState.TheVariants as state
use Rattle.transaction_laws.proofs.LeavesStarters.{all_of_both, aside, no_list_decided, no_list_left, no_list_prepares, no_list_to, notes, sends, sends_all}
use Rattle.transaction_laws.proofs.StarterFacts.{said_more}
use Rattle.transaction_laws.proofs.StarterAtoms.{no_more}
use Rattle.transaction_laws.proofs.StarterNotes.{all_aside, all_lossless, each_aside, listless_named, notes_more, own_parts, was_open_more}
use Rattle.transaction_laws.proofs.Tables.{put_elim}
use Rattle.transaction_laws.specs.LeavesStarters.{LeavesStarters, is_no_list, sends_no_list, starter_face}
use Rattle.transaction_laws.specs.StarterFacts.{EntryFits, HasShape, SessionFits, SessionFitsAt, StarterInAct, decided_as, decisions, tx_of, versions}
use Rattle.transaction_laws.specs.StarterInvariant.{ActPast, FaceFits, KeepsFace, own_past}
use Rattle.transaction_laws.specs.StarterKits.{AnswerKit, HasRoom, StarterKit}
use Rattle.transaction_laws.specs.StarterNotes.{IsOwnOrLost, MessageNamesLost, NotesFit, OwnRecordFits, tells_no_loss, was_open_here}
use Rattle.transaction_laws.specs.StarterStates.{is_open}

abbrev HasFew : ℕ → List (ℕ × SessionState) → Type 0
HasFew most session_states = (session : ℕ) (d : SessionState) → at nat_cmp session_states session ≡ Some d → d.started ≤ most

few_put : (most : ℕ) (session_states : List (ℕ × SessionState)) (session : ℕ) (d : SessionState) → d.started ≤ most →
    HasFew most session_states → HasFew most (put nat_cmp session_states session d)
few_put most session_states session d here few n x is =
    put_elim nat_cmp nat_cmp_total exact_unsigned (λ (k : ℕ) (o : Option SessionState). (y : SessionState) → o ≡ Some y →
    y.started ≤ most) session_states session d
    (λ y same. let one : d ≡ y = cc (same) in subst (λ (z : SessionState). z.started ≤ most) one here)
    (λ k ne y same. few k y same) n x is

module _ (past : ActPast) where
  -- nothing is noted; messages are sent that are no lists; sessions have as few transactions
  quiet : (a b : NodeState) (outs : List Out) → list_all sends_no_list outs ≡ true →
      (HasFew past.most a.session_states → HasFew past.most b.session_states)
      → starter_face b ≡ record (starter_face a) {
        txs = b.txs;
        session_states = b.session_states;
        outbox =
            a.outbox ++ outs;
      } → KeepsFace past a b
  quiet a b outs listless few is f = subst (FaceFits past) (sym is) (record {
    me_is = f.me_is;
    notes = record { few = few f.notes.few; opened_is = f.notes.opened_is; fit = f.notes.fit };
    lists = record {
      left_lost = f.lists.left_lost;
      reports_lost = f.lists.reports_lost;
      outbox_lost = each_both (λ (o : Out). MessageNamesLost past.recs o.msg) a.outbox outs f.lists.outbox_lost
          (listless_named past.recs outs listless);
    };
    own_or_lost = f.own_or_lost;
    lossless = f.lossless;
  })

  -- nothing is sent either
  still : (a b : NodeState) → (HasFew past.most a.session_states → HasFew past.most b.session_states)
      → starter_face b ≡ record (starter_face a) { txs = b.txs; session_states = b.session_states } → KeepsFace past a b
  still a b few is = quiet a b [] refl few (is ∙ λ i. record (starter_face a) {
    txs = b.txs;
    session_states =
        b.session_states;
    outbox = sym (append_none a.outbox) i;
  })

  -- an entry changes at most
  pub entry_still : (s : NodeState) (tx : TxId) (f : TxEntry → TxEntry) (o : Option TxEntry) →
      KeepsFace past s (on_entry s tx f o)
  entry_still s tx f None = λ face. face
  entry_still s tx f (Some e) = still s (with_entry s tx (f e)) (λ few. few) refl

  -- one more record, and messages that are no lists
  pub noted_face : (a b : NodeState) (r : Rec) (outs : List Out) →
      (FaceFits past (starter_face a) → OwnRecordFits past.me past.initial (own_past past ++ a.noted) r) →
      (FaceFits past (starter_face a) → IsOwnOrLost past.recs (Some past.me) r) → tells_no_loss r ≡ true
      → list_all sends_no_list outs ≡ true → starter_face b ≡ record (starter_face a) {
        txs = b.txs;
        noted =
            a.noted ++ r ∷ [];
        outbox = a.outbox ++ outs;
      } → KeepsFace past a b
  noted_face a b r outs fits own no_loss listless is f =
      let longer : (own_past past ++ a.noted) ++ r ∷ [] ≡ own_past past ++ (a.noted ++ r ∷ []) =
      append_twice (own_past past) a.noted (r ∷ []) in
      subst (FaceFits past) (sym is) (record {
        me_is = f.me_is;
        notes = subst (λ (rs : List Rec). NotesFit past.me past.initial past.most rs a.session_states a.opened) longer (record {
          few = f.notes.few;
          opened_is = λ top is. was_open_more past.initial (own_past past ++ a.noted) (r ∷ []) top (f.notes.opened_is top is);
          fit = own_parts past.me past.initial [] (own_past past ++ a.noted) (r ∷ []) f.notes.fit (fits f, tt);
        });
        lists = record {
          left_lost = f.lists.left_lost;
          reports_lost = f.lists.reports_lost;
          outbox_lost = each_both (λ (o : Out). MessageNamesLost past.recs o.msg) a.outbox outs f.lists.outbox_lost
              (listless_named past.recs outs listless);
        };
        own_or_lost = each_both (IsOwnOrLost past.recs (Some past.me)) a.noted (r ∷ []) f.own_or_lost (own f, tt);
        lossless = all_of_both tells_no_loss a.noted (r ∷ []) f.lossless (rw no_loss refl);
      })

  -- what leaves starters alone
  pub leaves_face : (a b : NodeState) → LeavesStarters a b → KeepsFace past a b
  leaves_face a b l f =
      let longer : (own_past past ++ a.noted) ++ l.more ≡ own_past past ++ (a.noted ++ l.more) =
      append_twice (own_past past) a.noted l.more in
      subst (FaceFits past) (sym l.face_is) (record {
        me_is = f.me_is;
        notes = subst (λ (rs : List Rec). NotesFit past.me past.initial past.most rs a.session_states a.opened) longer
            (notes_more past.me past.initial past.most (own_past past ++ a.noted) l.more a.session_states a.opened
            (all_aside l.more l.silent) f.notes);
        lists = record {
          left_lost = f.lists.left_lost;
          reports_lost = f.lists.reports_lost;
          outbox_lost = each_both (λ (o : Out). MessageNamesLost past.recs o.msg) a.outbox l.sent f.lists.outbox_lost
              (listless_named past.recs l.sent l.listless);
        };
        own_or_lost = each_both (IsOwnOrLost past.recs (Some past.me)) a.noted l.more f.own_or_lost
            (each_aside past.recs (Some past.me) l.more (all_aside l.more l.silent));
        lossless = all_of_both tells_no_loss a.noted l.more f.lossless (all_lossless l.more l.silent);
      })

  -- Starts and decisions.

  some_node : (me a b : NodeId) → a ≡ b → b ≡ me → Some me ≡ Some a
  some_node me a b first second = ap (λ (n : NodeId). Some n) (sym (first ∙ second))

  -- the names of a session from its current one on have no version yet
  latest : (s : NodeState) (tx : TxId) (e : TxEntry) → StarterInAct (own_past past) s → entry_of s tx ≡ Some e →
      e.state ≡ state.Idle → (u : TxId) → u.node ≡ s.me → u.session ≡ tx.session → tx.number ≤ u.number →
      versions u (own_past past ++ s.noted) ≡ []
  latest s tx e i there idle u node session number = by (session_state_of s tx.session) refl (nat_lt tx.number u.number) refl
    where
      was : EntryFits s.me (own_past past ++ s.noted) (session_state_of s tx.session) tx e
      was = no_more (own_past past) s i tx e there

      by : (o : Option SessionState) → session_state_of s tx.session ≡ o → (c : Bool) → nat_lt tx.number u.number ≡ c →
          versions u (own_past past ++ s.noted) ≡ []
      by None here c above = absurd (let at_home = was.at_home in let none : tx_of (session_state_of s tx.session) ≡ None =
          ap tx_of here in cc (at_home, none))
      by (Some d) here true above =
          let f : SessionFits s.me s.txs tx.session d = subst (SessionFitsAt s.me s.txs tx.session) here
          (i.sessions tx.session) in
          let named = ap (λ (t : TxId). t.number) (f.named tx (ap tx_of (sym here) ∙ was.at_home)) in
          (i.fresh u d node (ap (λ (n : ℕ). session_state_of s n) session ∙ here)
          (grind (arith, nat_tests, named, above))).unstarted
      by (Some d) here false equal =
          let same_number : u.number ≡ tx.number = grind (arith, nat_tests, number, equal) in
          let same : u ≡ tx = λ j. record { node = (node ∙ sym was.starter) j; session = session j; number = same_number j } in
          ap (λ (t : TxId). versions t (own_past past ++ s.noted)) same ∙ was.started
          ∙ ap option_to_list (subst (λ (st : TxState). HasShape st e) idle was.shape).0

  -- the version that was seen last is open
  seen_open : (s : NodeState) → is_version_open s s.opened ≡ true → FaceFits past (starter_face s) →
      was_open_here past.initial (own_past past ++ s.noted) s.seen ≡ true
  seen_open s free f = by s.opened refl free
    where
      by : (o : Option TopVer) → s.opened ≡ o → is_version_open s o ≡ true →
          was_open_here past.initial (own_past past ++ s.noted) s.seen ≡ true
      by None is shut = absurd (cc (shut))
      by (Some top) is same = subst (λ (v : TopVer). was_open_here past.initial (own_past past ++ s.noted) v ≡ true)
          (same_top_true top s.seen same) (f.notes.opened_is top is)

  undecided : (st : TxState) → is_open st ≡ true → decided_as st ≡ []
  undecided state.Idle free = refl
  undecided state.Active free = refl
  undecided state.Waiting free = refl
  undecided state.Searching free = refl
  undecided state.Preparing free = refl
  undecided state.Committing free = absurd (cc (free))
  undecided state.RollingBack free = absurd (cc (free))
  undecided state.Ended free = absurd (cc (free))

  starts_face : (s : NodeState) (tx : TxId) (e : TxEntry) → StarterInAct (own_past past) s → entry_of s tx ≡ Some e →
      e.state ≡ state.Idle → is_version_open s s.opened ≡ true
      → KeepsFace past s (with_note (with_entry s tx (record e { top = Some s.seen; state = state.Active }))
      (note.Start tx s.seen))
  starts_face s tx e i there idle free =
      noted_face s (with_note (with_entry s tx (record e { top = Some s.seen; state = state.Active })) (note.Start tx s.seen))
      (note.Start tx s.seen) []
      (λ f. record {
        is_latest = λ u node session number. latest s tx e i there idle u (node ∙ sym f.me_is) session number;
        is_open = seen_open s free f;
      })
      (λ f. some_node past.me tx.node s.me (no_more (own_past past) s i tx e there).starter f.me_is)
      refl refl (λ j. record (starter_face s) {
        txs =
            put tx_cmp s.txs tx (record e { top = Some s.seen; state = state.Active });
        noted =
            s.noted ++ note.Start tx s.seen ∷ [];
        outbox = sym (append_none s.outbox) j;
      })

  -- a transaction that is undecided so far is decided
  decides_face : (s : NodeState) (tx : TxId) (e : TxEntry) (commit : Bool) → entry_of s tx ≡ Some e → tx.node ≡ s.me →
      decisions tx (own_past past ++ s.noted) ≡ [] → KeepsFace past s (after_decide_of s tx commit (Some e))
  decides_face s tx e commit there own none =
      subst (λ (z : Option TxEntry).
      KeepsFace past s (with_outs (with_note (on_entry s tx (decided_entry s commit) z) (note.Decide tx commit))
      (decision_outs s tx commit e))) (sym there)
      (noted_face s (with_outs (with_note (with_entry s tx (decided_entry s commit e)) (note.Decide tx commit))
      (decision_outs s tx commit e)) (note.Decide tx commit) (decision_outs s tx commit e)
      (λ f mine. none) (λ f. inl (some_node past.me tx.node s.me own f.me_is)) refl (no_list_decided s tx commit e) refl)

  fails_face : (s : NodeState) (tx : TxId) (e : TxEntry) (f : Fault) → StarterInAct (own_past past) s →
      entry_of s tx ≡ Some e → is_open e.state ≡ true → KeepsFace past s (after_fail s tx f)
  fails_face s tx e f i there free =
      let was = no_more (own_past past) s i tx e there in
      let e1 : TxEntry = record e { fault = Some f } in
      let s1 : NodeState = with_note (with_entry s tx e1) (note.Fault tx f) in
      let there1 : entry_of s1 tx ≡ Some e1 = laws.at_put_same tx_cmp tx_total s.txs tx e1 in
      let none : decisions tx (own_past past ++ s.noted) ≡ [] = was.decided ∙ undecided e.state free in
      let none1 : decisions tx (own_past past ++ (s.noted ++ note.Fault tx f ∷ [])) ≡ [] =
      (said_more tx (own_past past) s.noted (note.Fault tx f)).0 ∙ append_none (decisions tx (own_past past ++ s.noted))
      ∙ none in
      let first : KeepsFace past s s1 =
      λ face. leaves_face (with_entry s tx e1) s1 (notes (with_entry s tx e1) s1 (note.Fault tx f) refl refl)
      (still s (with_entry s tx e1) (λ few. few) refl face) in
      subst (λ (z : Option TxEntry).
      KeepsFace past s (after_decide (with_note (on_entry s tx (λ (x : TxEntry). record x { fault = Some f }) z)
      (note.Fault tx f)) tx false)) (sym there)
      (subst (λ (z : Option TxEntry). KeepsFace past s (after_decide_of s1 tx false z)) (sym there1)
      (λ face. decides_face s1 tx e1 false there1 was.starter none1 (first face)))

  few_of : (s : NodeState) (session : ℕ) (d d2 : SessionState) → session_state_of s session ≡ Some d →
      d2.started ≡ d.started → HasFew past.most s.session_states → HasFew past.most (put nat_cmp s.session_states session d2)
  few_of s session d d2 here count few = few_put past.most s.session_states session d2 (rw count (few session d here)) few

  sends_face : (s : NodeState) (to : NodeId) (m : Message) → is_no_list m ≡ true → KeepsFace past s (with_out s to m)
  sends_face s to m listless = leaves_face s (with_out s to m) (sends s to m listless)

  outs_face : (s : NodeState) (outs : List Out) → list_all sends_no_list outs ≡ true → KeepsFace past s (with_outs s outs)
  outs_face s outs listless = leaves_face s (with_outs s outs) (sends_all s (with_outs s outs) outs listless refl)

  opens_face : (s : NodeState) (session : ℕ) (d : SessionState) (m : Mode) (deadline : Option ℕ) (block : Bool) →
      session_state_of s session ≡ Some d → HasRoom past.most d →
      KeepsFace past s (after_open_tx s (next_tx s session d.started) m deadline block)
  opens_face s session d m deadline block here room =
      let tx : TxId = next_tx s session d.started in
      let known : NodeState = with_entry s tx (new_entry m deadline) in
      let g : SessionState → SessionState = λ (x : SessionState). record x {
        tx = Some tx;
        block = block;
        skipping = false;
        started = tx.number;
      } in
      let below : d.started < past.most = room.0 in
      let bound : past.most ≤ 2 ^ 62 = room.1 in
      subst (λ (z : Option SessionState). KeepsFace past s (on_session_state known session g z)) (sym here)
      (still s (with_session_state known session (g d)) (λ few. few_put past.most s.session_states session (g d)
      (omega (arith, below, bound)) few) refl)

  -- the kit of the near side
  pub face_kit : StarterKit (own_past past) past.most (KeepsFace past)
  face_kit = record {
    nothing = λ s face. face;
    andthen = λ a b c first second face. second (first face);
    noted = λ s r i silent. leaves_face s (with_note s r) (notes s (with_note s r) r silent refl);
    near_cache = λ s key near. leaves_face s (with_near s key near) (aside s (with_near s key near) refl);
    session_state = λ s session d d2 i here same_tx count quietly. still s (with_session_state s session d2)
        (few_of s session d d2 here count) refl;
    opened = λ s session d m deadline block i here none room. opens_face s session d m deadline block here room;
    started = λ s tx e i there idle free. starts_face s tx e i there idle free;
    wrote = λ s tx top a key new i known.
        entry_still s tx (λ (e : TxEntry). record e { writes = put key_cmp e.writes key new }) (entry_of s tx);
    outcome = λ s tx top a x i. entry_still s tx (λ (e : TxEntry). record e { outcome = Some x }) (entry_of s tx);
    touched = λ s tx top a key i free. entry_still s tx (λ (e : TxEntry). record e { keys = with_member key_cmp e.keys key })
        (entry_of s tx);
    hit = λ s tx top a key n i free face.
        let s2 = with_near s key (near_front (near_of s key) n) in
        entry_still s2 tx (λ (e : TxEntry).
        record e { reads = put key_cmp e.reads key (record { found = Some n.value; ver = n.ver }) }) (entry_of s2 tx)
        (leaves_face s s2 (aside s s2 refl) face);
    asked_value = λ s tx top a key primary near i free first face.
        let s2 = with_value_asked s tx key near in
        sends_face s2 primary (msg.Get tx key near) refl
        (entry_still s tx (λ (e : TxEntry). record e {
          keys = with_member key_cmp e.keys key;
          getting =
              Some (record { key = key; near = near });
        }) (entry_of s tx) face);
    asked_lock = λ s tx top a key primary i locks fresh first on face.
        let s2 = with_lock_asked s tx key primary in
        sends_face s2 primary (msg.Lock tx top key) refl
        (entry_still s tx (λ (e : TxEntry). record e {
          keys = with_member key_cmp e.keys key;
          asked =
              with_member node_cmp e.asked primary;
          state = state.Waiting;
        }) (entry_of s tx) face);
    prepared = λ s tx top a key keys i has_keys face.
        let nodes = primaries_at s (key ∷ keys) in
        let shares = shares_of s.installed (key ∷ keys) in
        let s2 = with_preparing s tx nodes shares in
        outs_face s2 (prepare_outs s tx top a.entry shares nodes) (no_list_prepares s tx top a.entry shares nodes)
        (entry_still s tx (λ (e : TxEntry). record e {
          state = state.Preparing;
          asked = nodes;
          awaited = nodes;
          shares =
              shares;
        }) (entry_of s tx) face);
    decided = λ s tx e commit i there free may. let was = no_more (own_past past) s i tx e there in
        decides_face s tx e commit there was.starter (was.decided ∙ undecided e.state free);
    failed = λ s tx e f i there free. fails_face s tx e f i there free;
    backed = λ s from tx primary e i there.
        entry_still s tx (λ (x : TxEntry).
        record x { backups = without_member share_cmp x.backups (record { holder = from; primary = primary }) })
        (entry_of s tx);
    searched = λ s tx e search i there waits. entry_still s tx (λ (x : TxEntry). record x {
      state = state.Searching;
      search =
          Some search;
    }) (entry_of s tx);
    edges_asked = λ s tx round known nodes. outs_face s (outs_to nodes (msg.Edges tx round known))
        (no_list_to nodes (msg.Edges tx round known) refl);
    left = λ s tx e node i there over face. outs_face (with_entry_left s tx node) (outs_after_left s tx node e)
        (no_list_left s tx node e) (entry_still s tx (entry_after_left s node) (entry_of s tx) face);
    fault_kept = λ s tx e i there rolls awaited backups faulty. still s (with_entry s tx (record e { state = state.Ended }))
        (λ few. few) refl;
    closed = λ s tx e d d2 i there over awaited backups here none count.
        still s (with_session_state (record s { txs = without tx_cmp s.txs tx }) tx.session d2)
        (few_of s tx.session d d2 here count) refl;
  }

  found_face : (s : NodeState) (tx : TxId) (key : Key) (found : Found) (c : Command) →
      KeepsFace past s (with_found_read s tx key found c)
  found_face s tx key found (command.Get k) =
      entry_still s tx (λ (e : TxEntry). record e { reads = put key_cmp e.reads key (read_of found) }) (entry_of s tx)
  found_face s tx key found (command.Add k amount) =
      entry_still s tx (λ (e : TxEntry). record e { reads = put key_cmp e.reads key (read_of found) }) (entry_of s tx)
  found_face s tx key found c = λ face. face

  near_kept_face : (s : NodeState) (key : Key) (near : Bool) (found : Found) →
      KeepsFace past s (after_keep_near s key near found)
  near_kept_face s key true (Some (value, ver)) = leaves_face s (after_keep_near s key true (Some (value, ver)))
      (aside s (after_keep_near s key true (Some (value, ver))) refl)
  near_kept_face s key true None = λ face. face
  near_kept_face s key false found = λ face. face

  awaited_face : (s : NodeState) (tx : TxId) (from : NodeId) → KeepsFace past s (without_awaited s tx from)
  awaited_face s tx from = entry_still s tx (λ (e : TxEntry). record e { awaited = without_member node_cmp e.awaited from })
      (entry_of s tx)

  -- the message in hand is of no more use
  pub answer_face : AnswerKit (own_past past) (KeepsFace past) (λ (h : MessageInHand) (a b : NodeState). KeepsFace past a b)
  answer_face = record {
    after = λ h a b c first second face. second (first face);
    ignored = λ s h i why face. face;
    lock_ok = λ s from tx key found e d c i there waiting here pending on face.
        found_face (with_tx_state s tx state.Active) tx key found c
        (entry_still s tx (λ (x : TxEntry). record x { state = state.Active }) (entry_of s tx) face);
    get_ok = λ s from tx key found near e d c i there active gets here pending face.
        let s1 = without_getting s tx in
        let s2 = after_keep_near s1 key near found in
        found_face s2 tx key found c
        (near_kept_face s1 key near found (entry_still s tx (λ (x : TxEntry). record x { getting = None })
        (entry_of s tx) face));
    prepared_by = λ s from tx e i there preparing. awaited_face s tx from;
    finished_by = λ s from tx e i there over. awaited_face s tx from;
  }
