-- What starts, what a session's command does, and what goes on when no answer is awaited any more, are made of the atoms of the
-- near side.
use Rattle.std.proofs.Common.{◌≡◌, ◌≢◌, ◌⊎◌, inl, inr, List, [], ◌∷◌, ◌++◌, Bool, true, false, if◌then◌else◌, Option, Some, None, refl, ap, sym, subst, ◌∙◌, arith, ℕ, ◌≤◌, ◌<◌, ◌&&◌}
use Rattle.std.specs.Prelude.{◌^◌}
use Rattle.std.specs.Option.{is_none, is_some, option_to_list, option_and_then}
use Rattle.std.specs.Ordering.{nat_cmp}
use Rattle.act_rows.specs.Accesses.{access_key, after_run_command, is_that_key}
use Rattle.act_rows.specs.Decisions.{after_decide}
use Rattle.act_rows.specs.Starts.{takes_version}
use Rattle.act_rows.specs.Steps.{entry_of, on_entry, on_session_state, session_state_of, with_answer_ready, with_entry, with_note, with_session_state}
use Rattle.ignite_types.proofs.NameLaws.{tx_total}
use Rattle.std.proofs.lemmas.Cmp.{nat_cmp_total}
use Rattle.ignite_types.specs.Names.{tx_cmp}
use Rattle.ignite_types.specs.declared.answer.Answer.{Answer}
use Rattle.ignite_types.specs.declared.answer.Fault.{Fault}
use Rattle.ignite_types.specs.declared.journal.Rec.{Rec}
use Rattle.ignite_types.specs.declared.names.NodeId.{NodeId}
use Rattle.ignite_types.specs.declared.names.TopVer.{TopVer}
use Rattle.ignite_types.specs.declared.names.TxId.{TxId}
use Rattle.ignite_types.specs.declared.scenario.Command.{Command}
use Rattle.ignite_types.specs.declared.scenario.Mode.{Mode}
use Rattle.node_state.specs.declared.near.TxEntry.{TxEntry}
use Rattle.node_state.specs.declared.near.TxState.{TxState}
use Rattle.node_state.specs.Node.{NodeState}
use Rattle.node_state.specs.declared.session.SessionState.{SessionState}
use Rattle.ordered_table.proofs.Laws as laws
use Rattle.ignite_types.specs.declared.answer.Answer.TheVariants as answer
use Rattle.ignite_types.specs.declared.scenario.Command.TheVariants as command
use Rattle.ignite_types.specs.declared.journal.Rec.TheVariants as note
use Rattle.ignite_types.specs.declared.scenario.Mode.TheVariants as mode
use Rattle.node_state.specs.declared.near.TxState.TheVariants as state
use Rattle.transaction_laws.specs.StarterFacts.{IsActing, StarterInAct, HasShape, is_busy}
use Rattle.transaction_laws.specs.StarterKits.{StarterKit}
use Rattle.transaction_laws.proofs.StarterAtoms as atoms
use Rattle.transaction_laws.proofs.StarterAtoms.{Goes, Still, active_change, active_shape, active_is_open}
use Rattle.frame_laws.proofs.Extending.{append_none}
use Rattle.act_rows.specs.Closing.{after_advance_each_tx, after_advance_starter, after_advance_tx, after_advance_tx_in, after_phase}
use Rattle.act_rows.specs.Commands.{after_access_command, after_answer, after_answer_of, after_begin, after_call, after_call_of, after_command, after_command_in_transaction, after_command_of_entry, after_command_without_fault, after_end_command, after_hand_out, after_open_tx, after_run_if_started, after_skip_end, after_sleep, after_take_command, after_tell_if_ended, answer_of_sleep, answer_or_slept, answer_to_give, command_or_close, command_to_give, command_unless_pending, deadline_at, moment_after, new_entry, next_tx, session_state_after_answer}
use Rattle.act_rows.specs.Decisions.{after_close_tx, after_end_tx, after_fault_ended, after_fault_ended_for, after_tell, closing_answer, session_state_after_fault, txs_of, waiting_command, waiting_for_end, with_fault_kept, without_tx}
use Rattle.act_rows.specs.Starts.{after_start, after_start_all, after_start_command, after_start_each, after_start_in, after_start_of, after_start_session, after_start_tx, sessions_of}
use Rattle.act_rows.specs.Steps.{is_open as version_open}
use Rattle.ignite_types.specs.Names.{same_tx}
use Rattle.ignite_types.specs.declared.placement.Share.{Share}
use Rattle.transaction_laws.specs.StarterStates.{is_open, waits_for_lock}
use Rattle.std.specs.Prelude.{◌||◌}
use Rattle.transaction_laws.specs.StarterFacts.{SessionFitsAt, SessionFits, IsResting, decided_as, decisions, is_awaiting, is_resting, tx_of, versions}
use Rattle.transaction_laws.proofs.Tables.{tx_tells}
use Rattle.transaction_laws.proofs.StarterAtoms.{no_more}
use Rattle.transaction_laws.proofs.StarterFacts.{starter_closed, starter_session, starter_entry, starter_opened, said_more}
use Rattle.transaction_laws.proofs.StarterAccesses as walk
use Rattle.transaction_laws.proofs.SameOpen.{SameOpen, same_open, still_open}
use Rattle.frame_laws.proofs.Starts.{start_session_state_kept}
use Rattle.transaction_laws.specs.StarterKits.{HasRoom}

-- a transaction's version is fixed
start_near : (past : List Rec) (s : NodeState) (tx : TxId) (e e2 : TxEntry) (top : TopVer) → StarterInAct past s →
    entry_of s tx ≡ Some e → e.state ≡ state.Idle → e2.state ≡ state.Active → e2.top ≡ Some top → HasShape state.Active e2 →
    e2.getting ≡ None
    → StarterInAct past (with_note (with_entry s tx e2) (note.Start tx top))
start_near past s tx e e2 top i there idle active fixed shape no_get =
    let was = no_more past s i tx e there in
    let blank : HasShape state.Idle e = subst (λ st. HasShape st e) idle was.shape in
    starter_entry s.me (past ++ s.noted) (past ++ (s.noted ++ note.Start tx top ∷ [])) s.txs s.session_states tx e e2 there
    (record {
      others = λ u ne. other u ne (tx_tells tx u);
      decided = (said_more tx past s.noted (note.Start tx top)).0 ∙ append_none (decisions tx (past ++ s.noted)) ∙ was.decided
          ∙ ap decided_as idle ∙ ap decided_as (sym active);
      started = (said_more tx past s.noted (note.Start tx top)).1
          ∙ own (tx_tells tx tx) (was.started ∙ ap option_to_list blank.0) ∙ ap option_to_list (sym fixed);
      shape = subst (λ z. HasShape z e2) (sym active) shape;
      asked = λ awaiting. absurd (let none : is_awaiting e2 ≡ false = rw (active, no_get) refl in cc);
      rests = λ d here free before none. record { resting = rw active refl; no_get = no_get };
      idle = λ same. absurd (cc);
    }) i
  where
    other : (u : TxId) → (u ≡ tx → ⊥) → ((same_tx tx u ≡ true) × (tx ≡ u)) ⊎ ((same_tx tx u ≡ false) × (tx ≢ u)) →
        (decisions u (past ++ (s.noted ++ note.Start tx top ∷ [])) ≡ decisions u (past ++ s.noted))
        × (versions u (past ++ (s.noted ++ note.Start tx top ∷ [])) ≡ versions u (past ++ s.noted))
    other u ne (inl is) = absurd (ne (sym is.1))
    other u ne (inr apart) =
        let more = said_more u past s.noted (note.Start tx top) in
        (more.0 ∙ append_none (decisions u (past ++ s.noted)), more.1 ∙ rw apart.0 (append_none (versions u (past ++ s.noted))))

    own : ((same_tx tx tx ≡ true) × (tx ≡ tx)) ⊎ ((same_tx tx tx ≡ false) × (tx ≢ tx)) → versions tx (past ++ s.noted) ≡ [] →
        versions tx (past ++ s.noted) ++ (if same_tx tx tx then top ∷ [] else []) ≡ top ∷ []
    own (inl is) none = rw (is.0, none) refl
    own (inr apart) none = absurd (apart.1 refl)

session_state_fact : (past : List Rec) (s : NodeState) (session : ℕ) (d : SessionState) →
    session_state_of s session ≡ Some d → StarterInAct past s → SessionFits s.me s.txs session d
session_state_fact past s session d there i = subst (SessionFitsAt s.me s.txs session) there (i.sessions session)

is_busy_none : (d : SessionState) → d.pending ≡ None → is_busy d ≡ false
is_busy_none d none = subst (λ z. (is_some z && is_none d.ready && is_none d.wake) ≡ false) (sym none) refl

-- what awaits something has no fault, and does not rest
awaiting_faultless : (st : TxState) (e : TxEntry) → HasShape st e → (waits_for_lock st || is_some e.getting) ≡ true →
    e.fault ≡ None
awaiting_faultless state.Idle e shape awaiting = shape.1
awaiting_faultless state.Active e shape awaiting = shape.1
awaiting_faultless state.Waiting e shape awaiting = shape.1
awaiting_faultless state.Searching e shape awaiting = shape.1
awaiting_faultless state.Preparing e shape awaiting = shape.1
awaiting_faultless state.Committing e shape awaiting = shape.0
awaiting_faultless state.RollingBack e shape awaiting = absurd (let none : is_some e.getting ≡ false = ap is_some shape.0 in cc)
awaiting_faultless state.Ended e shape awaiting = absurd (let none : is_some e.getting ≡ false = ap is_some shape.1 in cc)

idle_awaits : (e : TxEntry) → IsResting e → is_awaiting e ≡ true → ⊥
idle_awaits e r awaiting = go e.state r.resting (subst (λ z. (waits_for_lock e.state || is_some z) ≡ true) r.no_get awaiting)
  where
    go : (st : TxState) → is_resting st ≡ true → (waits_for_lock st || false) ≡ true → ⊥
    go state.Idle r w = cc
    go state.Active r w = cc
    go state.Waiting r w = cc
    go state.Searching r w = cc
    go state.Preparing r w = cc
    go state.Committing r w = cc
    go state.RollingBack r w = cc
    go state.Ended r w = cc

-- the given command is pending, and nothing is answered yet
pub record Given (s : NodeState) (session : ℕ) (d : SessionState) (c : Command) : Type 0 where
  pub there : session_state_of s session ≡ Some d
  pub pending : d.pending ≡ Some c
  pub unready : d.ready ≡ None
  pub awake : d.wake ≡ None
  pub rests : (tx : TxId) (e : TxEntry) → d.tx ≡ Some tx → entry_of s tx ≡ Some e → e.fault ≡ None → IsResting e

given_busy : (s : NodeState) (session : ℕ) (d : SessionState) (c : Command) → Given s session d c → is_busy d ≡ true
given_busy s session d c g = rw (g.pending, g.unready, g.awake) refl

module _ (past : List Rec) (most : ℕ) (R : NodeState → NodeState → Type 0) (kit : StarterKit past most R) where
  abbrev G : NodeState → NodeState → Type 0
  G = Goes past most R kit

  seq : (a b c : NodeState) → G a b → (StarterInAct past b → G b c) → G a c
  seq = atoms.seq past most R kit

  -- Starts.

  starts_goes : (s : NodeState) (tx : TxId) (e : TxEntry) (d : SessionState) (block : Bool) (c : Command) →
      version_open s s.opened ≡ true → entry_of s tx ≡ Some e → e.state ≡ state.Idle →
      session_state_of s tx.session ≡ Some d → is_busy d ≡ true → d.pending ≡ Some c → StarterInAct past s →
      G s (after_start s tx block c)
  starts_goes s tx e d block c free there idle here busy given i =
      let blank : HasShape state.Idle e = subst (λ st. HasShape st e) idle (no_more past s i tx e there).shape in
      let f : TxEntry → TxEntry = λ (e : TxEntry). record e { top = Some s.seen; state = state.Active } in
      let s2 : NodeState = with_note (with_entry s tx (f e)) (note.Start tx s.seen) in
      let a : IsActing s2 tx s.seen = record {
        entry = f e;
        there = laws.at_put_same tx_cmp tx_total s.txs tx (f e);
        active =
            refl;
        version = refl;
        no_get = blank.2;
        session_state = d;
        session_state_there = here;
        busy = busy;
      } in
      subst (λ z. G s (after_run_command (with_note (on_entry s tx f z) (note.Start tx s.seen)) tx s.seen block c)) (sym there)
      (seq s s2 (after_run_command s2 tx s.seen block c) (
        start_near past s tx e (f e) s.seen i there idle refl refl (
          refl,
          blank.1,
          blank.3,
        ) blank.2,
        kit.started s tx e i there idle free,
      )
      (λ j. walk.does_goes past most R kit s2 tx s.seen block c a given j))

  start_session_state_goes : (s : NodeState) (session : ℕ) (d : Option SessionState) → version_open s s.opened ≡ true →
      session_state_of s session ≡ d → StarterInAct past s → G s (after_start_session s d)
  start_session_state_goes s session None free here i = atoms.idle_goes past most R kit s i
  start_session_state_goes s session (Some d) free here i = by_tx d.tx refl
    where
      f : SessionFits s.me s.txs session d
      f = session_state_fact past s session d here i

      by_state : (tx : TxId) (e : TxEntry) → d.tx ≡ Some tx → entry_of s tx ≡ Some e → (st : TxState) → e.state ≡ st →
          G s (after_start_in s tx d st)
      by_state tx e is there state.Idle idle = by_command d.pending refl
        where
          by_command : (c : Option Command) → d.pending ≡ c → G s (after_start_command s tx d.block c)
          by_command None given = atoms.idle_goes past most R kit s i
          by_command (Some c) given =
              walk.either_goes past most R kit s _ _ (takes_version c)
              (λ yes_start. starts_goes s tx e d d.block c free there idle
              (subst (λ n. session_state_of s n ≡ Some d) (sym (ap (λ (t : TxId). t.session) (f.named tx is))) here)
              (f.begins c given yes_start tx e is there idle) given i)
              (λ other. atoms.idle_goes past most R kit s i)
      by_state tx e is there state.Active idle = atoms.idle_goes past most R kit s i
      by_state tx e is there state.Waiting idle = atoms.idle_goes past most R kit s i
      by_state tx e is there state.Searching idle = atoms.idle_goes past most R kit s i
      by_state tx e is there state.Preparing idle = atoms.idle_goes past most R kit s i
      by_state tx e is there state.Committing idle = atoms.idle_goes past most R kit s i
      by_state tx e is there state.RollingBack idle = atoms.idle_goes past most R kit s i
      by_state tx e is there state.Ended idle = atoms.idle_goes past most R kit s i

      by_entry : (tx : TxId) (e : Option TxEntry) → d.tx ≡ Some tx → entry_of s tx ≡ e → G s (after_start_of s tx d e)
      by_entry tx None is there = atoms.idle_goes past most R kit s i
      by_entry tx (Some e) is there = by_state tx e is there e.state refl

      by_tx : (tx : Option TxId) → d.tx ≡ tx → G s (after_start_tx s d tx)
      by_tx None is = atoms.idle_goes past most R kit s i
      by_tx (Some tx) is = by_entry tx (entry_of s tx) is refl

  start_each_goes : (s : NodeState) (sessions : List ℕ) → version_open s s.opened ≡ true → StarterInAct past s →
      G s (after_start_each s sessions)
  start_each_goes s [] free i = atoms.idle_goes past most R kit s i
  start_each_goes s (session ∷ more) free i =
      let next = after_start_session s (session_state_of s session) in
      seq s next _ (start_session_state_goes s session (session_state_of s session) free refl i)
      (λ j. start_each_goes next more
      (still_open s next (start_session_state_kept SameOpen same_open s (session_state_of s session)) free) j)

  pub starts_all_goes : (s : NodeState) → StarterInAct past s → G s (after_start_all s)
  starts_all_goes s i = walk.either_goes past most R kit s _ _ (version_open s s.opened)
      (λ o. start_each_goes s (sessions_of s) o i) (λ shut. atoms.idle_goes past most R kit s i)

  -- A session's state.

  -- an answer becomes ready, or a sleep begins, while the given command is no start
  session_state_given : (s : NodeState) (session : ℕ) (d d2 : SessionState) (c : Command) → Given s session d c →
      d2.tx ≡ d.tx → d2.started ≡ d.started → d2.pending ≡ d.pending
      → ((tx : TxId) (e : TxEntry) → takes_version c ≡ true → d.tx ≡ Some tx → entry_of s tx ≡ Some e → e.state ≡ state.Idle →
      is_busy d2 ≡ true) → StarterInAct past s → G s (with_session_state s session d2)
  session_state_given s session d d2 c g same_tx same_count same_pending no_start i = (
    starter_session s.me (past ++ s.noted) s.txs s.session_states session d d2 g.there
        (record {
          same_tx = same_tx;
          same_count = same_count;
          calm = λ none. let given = g.pending in absurd (cc);
          rests = λ free tx e is stands. g.rests tx e is stands;
          awaits = λ tx e is stands awaiting key on. subst (λ z. is_that_key key (option_and_then access_key z) ≡ true)
              same_pending on;
          begins = λ c2 given after_start tx e is stands idle.
              let mine = g.pending in
              let same : c ≡ c2 = cc in
              no_start tx e (ap takes_version same ∙ after_start) is stands idle;
        }) i,
    kit.session_state s session d d2 i g.there same_tx same_count (inl same_pending),
  )

  answered_given : (s : NodeState) (session : ℕ) (d : SessionState) (c : Command) (x : Answer) → Given s session d c →
      (takes_version c ≡ false) ⊎ (d.tx ≡ None) → StarterInAct past s → G s (with_answer_ready s session x)
  answered_given s session d c x g why i =
      subst (λ z. G s (on_session_state s session (λ (d : SessionState). record d { ready = Some x }) z)) (sym g.there)
      (session_state_given s session d (record d { ready = Some x }) c g refl refl refl (λ tx e after_start is stands idle.
      absurd (never tx after_start is why)) i)
    where
      never : (tx : TxId) → takes_version c ≡ true → d.tx ≡ Some tx → (takes_version c ≡ false) ⊎ (d.tx ≡ None) → ⊥
      never tx after_start is (inl other) = cc (after_start, other)
      never tx after_start is (inr none) = cc (is, none)

  -- Ends.

  ended_goes : (s : NodeState) (tx : TxId) (e : TxEntry) (d d2 : SessionState) → entry_of s tx ≡ Some e →
      is_open e.state ≡ false → e.awaited ≡ [] → e.backups ≡ [] → session_state_of s tx.session ≡ Some d → d2.tx ≡ None →
      d2.started ≡ d.started
      → (d2.pending ≡ None → (d2.ready ≡ None) × (d2.wake ≡ None)) → StarterInAct past s →
      G s (with_session_state (without_tx s tx) tx.session d2)
  ended_goes s tx e d d2 there over awaited backups here none count calm i = (
    starter_closed s.me (past ++ s.noted) s.txs s.session_states tx e d d2 there here none count calm i,
    kit.closed s tx e d d2 i there over awaited backups here none count,
  )

  tells_goes : (s : NodeState) (tx : TxId) (e : TxEntry) (d : SessionState) (f : Fault) (c : Command) →
      entry_of s tx ≡ Some e → is_open e.state ≡ false → e.awaited ≡ [] → e.backups ≡ [] →
      session_state_of s tx.session ≡ Some d → d.pending ≡ Some c → StarterInAct past s → G s (after_tell s tx f c)
  tells_goes s tx e d f c there over awaited backups here given i =
      subst (λ z. G s (on_session_state (without_tx s tx) tx.session (session_state_after_fault f c) z)) (sym here)
      (ended_goes s tx e d (session_state_after_fault f c d) there over awaited backups here refl refl (λ none. absurd (cc)) i)

  closes_goes : (s : NodeState) (tx : TxId) (e : TxEntry) (d : SessionState) (x : Answer) → entry_of s tx ≡ Some e →
      is_open e.state ≡ false → e.awaited ≡ [] → e.backups ≡ [] → session_state_of s tx.session ≡ Some d → is_busy d ≡ true →
      StarterInAct past s → G s (after_close_tx s tx x)
  closes_goes s tx e d x there over awaited backups here busy i =
      subst (λ z. G s (on_session_state (without_tx s tx) tx.session (λ (d : SessionState). record d {
        tx = None;
        block =
            false;
        ready = Some x;
      }) z)) (sym here)
      (ended_goes s tx e d (record d { tx = None; block = false; ready = Some x }) there over awaited backups here refl refl
      (λ none. absurd (let free = is_busy_none d none in cc)) i)

  keeps_fault_goes : (s : NodeState) (tx : TxId) (e : TxEntry) (f : Fault) → entry_of s tx ≡ Some e →
      e.state ≡ state.RollingBack → e.awaited ≡ [] → e.backups ≡ [] → e.fault ≡ Some f → StarterInAct past s →
      G s (with_fault_kept s tx)
  keeps_fault_goes s tx e f there rolls awaited backups faulty i =
      let was = no_more past s i tx e there in
      let shape : HasShape state.RollingBack e = subst (λ st. HasShape st e) rolls was.shape in
      let e2 : TxEntry = record e { state = state.Ended } in
      subst (λ z. G s (on_entry s tx (λ (e : TxEntry). record e { state = state.Ended }) z)) (sym there) (
        starter_entry s.me (past ++ s.noted) (past ++ s.noted) s.txs s.session_states tx e e2 there
            (record {
              others = λ u ne. (refl, refl);
              decided = was.decided ∙ ap decided_as rolls;
              started = was.started;
              shape = (ap is_some faulty, shape.0, shape.1, awaited, backups);
              asked = λ awaiting. absurd (let none : is_awaiting e2 ≡ false = rw shape.0 refl in cc);
              rests = λ d here free before none. absurd (cc);
              idle = λ idle. absurd (cc);
            }) i,
        kit.fault_kept s tx e i there rolls awaited backups (ap is_some faulty),
      )

  -- the session that a transaction is of
  home_there : (s : NodeState) (tx : TxId) (e : TxEntry) → entry_of s tx ≡ Some e → StarterInAct past s →
      (d : Option SessionState) → session_state_of s tx.session ≡ d → (x : SessionState)
      × (session_state_of s tx.session ≡ Some x) × (x.tx ≡ Some tx)
  home_there s tx e there i None here = let was = no_more past s i tx e there in
      absurd (let at = was.at_home in let gone : tx_of (session_state_of s tx.session) ≡ None = ap tx_of here in cc)
  home_there s tx e there i (Some x) here = (x, here, ap tx_of (sym here) ∙ (no_more past s i tx e there).at_home)

  -- a transaction that was decided without a fault has its command at work
  decided_busy : (s : NodeState) (tx : TxId) (e : TxEntry) (d : SessionState) → entry_of s tx ≡ Some e →
      is_open e.state ≡ false → e.fault ≡ None → session_state_of s tx.session ≡ Some d → d.tx ≡ Some tx →
      StarterInAct past s → is_busy d ≡ true
  decided_busy s tx e d there over faultless here is i = by_test (is_busy d) refl
    where
      never : (st : TxState) → is_open st ≡ false → is_resting st ≡ true → ⊥
      never state.Idle o r = cc
      never state.Active o r = cc
      never state.Waiting o r = cc
      never state.Searching o r = cc
      never state.Preparing o r = cc
      never state.Committing o r = cc
      never state.RollingBack o r = cc
      never state.Ended o r = cc

      by_test : (b : Bool) → is_busy d ≡ b → b ≡ true
      by_test true free = refl
      by_test false free = absurd
          (never e.state over ((session_state_fact past s tx.session d here i).rests free tx e is there faultless).resting)

  waiting_pending : (d : SessionState) (c : Command) → waiting_command d ≡ Some c → d.pending ≡ Some c
  waiting_pending d c waits = by d.pending d.ready waits
    where
      by : (pending : Option Command) (ready : Option Answer) → waiting_for_end pending ready ≡ Some c → pending ≡ Some c
      by None ready w = absurd (cc)
      by (Some (command.Sleep n)) (Some r) w = absurd (cc)
      by (Some (command.Sleep n)) None w = absurd (cc)
      by (Some x) (Some r) w = absurd (cc)
      by (Some x) None w = w

  ends_goes : (s : NodeState) (tx : TxId) (e : TxEntry) → entry_of s tx ≡ Some e → is_open e.state ≡ false →
      (e.state ≡ state.Ended → ⊥) → e.awaited ≡ [] → e.backups ≡ [] → StarterInAct past s →
      G s (after_end_tx s tx e.state e.outcome e.fault)
  ends_goes s tx e there over not_ended awaited backups i = by_fault e.fault refl
    where
      home : (x : SessionState) × (session_state_of s tx.session ≡ Some x) × (x.tx ≡ Some tx)
      home = home_there s tx e there i (session_state_of s tx.session) refl

      rolls : (st : TxState) (f : Fault) → e.fault ≡ Some f → is_open st ≡ false → (st ≡ state.Ended → ⊥) → HasShape st e →
          st ≡ state.RollingBack
      rolls state.Committing f faulty o n shape = absurd (let none = shape.0 in cc)
      rolls state.RollingBack f faulty o n shape = refl
      rolls state.Ended f faulty o n shape = absurd (n refl)
      rolls state.Idle f faulty o n shape = absurd (cc)
      rolls state.Active f faulty o n shape = absurd (cc)
      rolls state.Waiting f faulty o n shape = absurd (cc)
      rolls state.Searching f faulty o n shape = absurd (cc)
      rolls state.Preparing f faulty o n shape = absurd (cc)

      by_command : (f : Fault) → e.fault ≡ Some f → (c : Option Command) → waiting_command home.0 ≡ c →
          G s (after_fault_ended_for s tx f c)
      by_command f faulty None waits =
          keeps_fault_goes s tx e f there (rolls e.state f faulty over not_ended (no_more past s i tx e there).shape) awaited
          backups faulty i
      by_command f faulty (Some c) waits = tells_goes s tx e home.0 f c there over awaited backups home.1
          (waiting_pending home.0 c waits) i

      by_fault : (f : Option Fault) → e.fault ≡ f → G s (after_end_tx s tx e.state e.outcome f)
      by_fault None faultless = closes_goes s tx e home.0 (closing_answer e.state e.outcome) there over awaited backups home.1
          (decided_busy s tx e home.0 there over faultless home.1 home.2 i) i
      by_fault (Some f) faulty = subst (λ z. G s (after_fault_ended s tx f z)) (sym home.1)
          (by_command f faulty (waiting_command home.0) refl)

  -- What goes on when no answer is awaited any more.

  phase_over_goes : (s : NodeState) (tx : TxId) (e : TxEntry) (st : TxState) → entry_of s tx ≡ Some e → e.state ≡ st →
      e.awaited ≡ [] → e.backups ≡ [] → StarterInAct past s → G s (after_phase s tx e st)
  phase_over_goes s tx e state.Preparing there is awaited backups i = atoms.decides_goes past most R kit s tx e true there
      (ap is_open is) (inr (is, awaited)) (inl (ap is_resting is)) i
  phase_over_goes s tx e state.Committing there is awaited backups i =
      ends_goes s tx e there (ap is_open is) (λ ended. absurd (cc)) awaited backups i
  phase_over_goes s tx e state.RollingBack there is awaited backups i =
      ends_goes s tx e there (ap is_open is) (λ ended. absurd (cc)) awaited backups i
  phase_over_goes s tx e state.Idle there is awaited backups i = atoms.idle_goes past most R kit s i
  phase_over_goes s tx e state.Active there is awaited backups i = atoms.idle_goes past most R kit s i
  phase_over_goes s tx e state.Waiting there is awaited backups i = atoms.idle_goes past most R kit s i
  phase_over_goes s tx e state.Searching there is awaited backups i = atoms.idle_goes past most R kit s i
  phase_over_goes s tx e state.Ended there is awaited backups i = atoms.idle_goes past most R kit s i

  near_on_lists_goes : (s : NodeState) (tx : TxId) (e : TxEntry) (awaited : List NodeId) (backups : List Share) →
      entry_of s tx ≡ Some e → e.awaited ≡ awaited → e.backups ≡ backups → StarterInAct past s →
      G s (after_advance_tx_in s tx e awaited backups)
  near_on_lists_goes s tx e [] [] there awaited backups i = phase_over_goes s tx e e.state there refl awaited backups i
  near_on_lists_goes s tx e [] (b ∷ bs) there awaited backups i = atoms.idle_goes past most R kit s i
  near_on_lists_goes s tx e (x ∷ xs) backups there awaited same i = atoms.idle_goes past most R kit s i

  near_on_entry_goes : (s : NodeState) (tx : TxId) (e : Option TxEntry) → entry_of s tx ≡ e → StarterInAct past s →
      G s (after_advance_tx s tx e)
  near_on_entry_goes s tx None there i = atoms.idle_goes past most R kit s i
  near_on_entry_goes s tx (Some e) there i = near_on_lists_goes s tx e e.awaited e.backups there refl refl i

  near_on_each_goes : (s : NodeState) (txs : List TxId) → StarterInAct past s → G s (after_advance_each_tx s txs)
  near_on_each_goes s [] i = atoms.idle_goes past most R kit s i
  near_on_each_goes s (tx ∷ txs) i = seq s (after_advance_tx s tx (entry_of s tx)) _
      (near_on_entry_goes s tx (entry_of s tx) refl i) (λ j. near_on_each_goes (after_advance_tx s tx (entry_of s tx)) txs j)

  pub near_on_goes : (s : NodeState) → StarterInAct past s → G s (after_advance_starter s)
  near_on_goes s i = near_on_each_goes s (txs_of s) i

  -- A session's command.

  told_goes : (s : NodeState) (tx : TxId) (e : TxEntry) (d : SessionState) (f : Fault) (c : Command) (st : TxState) →
      entry_of s tx ≡ Some e → e.state ≡ st → session_state_of s tx.session ≡ Some d → d.pending ≡ Some c →
      StarterInAct past s → G s (after_tell_if_ended s tx f c st)
  told_goes s tx e d f c state.Ended there is here given i =
      let shape : HasShape state.Ended e = subst (λ st. HasShape st e) is (no_more past s i tx e there).shape in
      tells_goes s tx e d f c there (ap is_open is) shape.3 shape.4 here given i
  told_goes s tx e d f c state.Idle there is here given i = atoms.idle_goes past most R kit s i
  told_goes s tx e d f c state.Active there is here given i = atoms.idle_goes past most R kit s i
  told_goes s tx e d f c state.Waiting there is here given i = atoms.idle_goes past most R kit s i
  told_goes s tx e d f c state.Searching there is here given i = atoms.idle_goes past most R kit s i
  told_goes s tx e d f c state.Preparing there is here given i = atoms.idle_goes past most R kit s i
  told_goes s tx e d f c state.Committing there is here given i = atoms.idle_goes past most R kit s i
  told_goes s tx e d f c state.RollingBack there is here given i = atoms.idle_goes past most R kit s i

  resting_open : (st : TxState) → is_resting st ≡ true → is_open st ≡ true
  resting_open state.Idle r = refl
  resting_open state.Active r = refl
  resting_open state.Waiting r = absurd (cc)
  resting_open state.Searching r = absurd (cc)
  resting_open state.Preparing r = absurd (cc)
  resting_open state.Committing r = absurd (cc)
  resting_open state.RollingBack r = absurd (cc)
  resting_open state.Ended r = absurd (cc)

  -- what rests and has a version is active
  resting_active : (st : TxState) (e : TxEntry) (top : TopVer) → is_resting st ≡ true → HasShape st e → e.top ≡ Some top →
      st ≡ state.Active
  resting_active state.Idle e top r shape fixed = absurd (let none = shape.0 in cc)
  resting_active state.Active e top r shape fixed = refl
  resting_active state.Waiting e top r shape fixed = absurd (cc)
  resting_active state.Searching e top r shape fixed = absurd (cc)
  resting_active state.Preparing e top r shape fixed = absurd (cc)
  resting_active state.Committing e top r shape fixed = absurd (cc)
  resting_active state.RollingBack e top r shape fixed = absurd (cc)
  resting_active state.Ended e top r shape fixed = absurd (cc)

  module _ (s : NodeState) (session : ℕ) (d : SessionState) (c : Command) (g : Given s session d c)
      (i : StarterInAct past s) where
    -- the session's transaction
    own_session : (tx : TxId) → d.tx ≡ Some tx → session_state_of s tx.session ≡ Some d
    own_session tx is = subst (λ n. session_state_of s n ≡ Some d)
        (sym (ap (λ (t : TxId). t.session) ((session_state_fact past s session d g.there i).named tx is))) g.there

    rolls_back : (tx : TxId) (e : TxEntry) → d.tx ≡ Some tx → entry_of s tx ≡ Some e → e.fault ≡ None →
        G s (after_decide s tx false)
    rolls_back tx e is there faultless =
        atoms.decides_goes past most R kit s tx e false there (resting_open e.state (g.rests tx e is there faultless).resting)
        tt
        (inr (λ x here. let own = own_session tx is in let same : d ≡ x = cc in ap is_busy (sym same)
        ∙ given_busy s session d c g)) i

    goes_if_started : (tx : TxId) (e : TxEntry) (block : Bool) (top : Option TopVer) → d.tx ≡ Some tx →
        entry_of s tx ≡ Some e → e.fault ≡ None → e.top ≡ top → G s (after_run_if_started s tx block c top)
    goes_if_started tx e block None is there faultless fixed = atoms.idle_goes past most R kit s i
    goes_if_started tx e block (Some top) is there faultless fixed =
        let rests = g.rests tx e is there faultless in
        let a : IsActing s tx top = record {
          entry = e;
          there = there;
          active = resting_active e.state e top rests.resting (no_more past s i tx e there).shape fixed;
          version = fixed;
          no_get = rests.no_get;
          session_state = d;
          session_state_there = own_session tx is;
          busy = given_busy s session d c g;
        } in
        walk.does_goes past most R kit s tx top block c a g.pending i

    sound_goes : (tx : TxId) (e : TxEntry) (block : Bool) (c2 : Command) → c2 ≡ c → d.tx ≡ Some tx → entry_of s tx ≡ Some e →
        e.fault ≡ None → G s (after_command_without_fault s tx block c2 e.top)
    sound_goes tx e block command.Rollback same is there faultless = rolls_back tx e is there faultless
    sound_goes tx e block command.Close same is there faultless = rolls_back tx e is there faultless
    sound_goes tx e block c2 same is there faultless = subst (λ z. G s (after_run_if_started s tx block z e.top)) (sym same)
        (goes_if_started tx e block e.top is there faultless refl)

    entry_goes : (tx : TxId) (e : TxEntry) (block : Bool) (f : Option Fault) → d.tx ≡ Some tx → entry_of s tx ≡ Some e →
        e.fault ≡ f → G s (after_command_of_entry s tx block c e f)
    entry_goes tx e block (Some f) is there faulty = told_goes s tx e d f c e.state there refl (own_session tx is) g.pending i
    entry_goes tx e block None is there faultless = sound_goes tx e block c refl is there faultless

    transaction_goes : (tx : TxId) (block : Bool) (e : Option TxEntry) → d.tx ≡ Some tx → entry_of s tx ≡ e →
        G s (after_command_in_transaction s tx block c e)
    transaction_goes tx block None is there = atoms.idle_goes past most R kit s i
    transaction_goes tx block (Some e) is there = entry_goes tx e block e.fault is there refl

  -- a new transaction is opened
  opens_goes : (s : NodeState) (session : ℕ) (d : SessionState) (c : Command) (m : Mode) (deadline : Option ℕ)
      (block : Bool) → Given s session d c → d.tx ≡ None → HasRoom most d → StarterInAct past s
      → let s2 = after_open_tx s (next_tx s session d.started) m deadline block in
      G s s2 × Given s2 session (record d {
        tx = Some (next_tx s session d.started);
        block = block;
        skipping = false;
        started = (next_tx s session d.started).number;
      }) c
  opens_goes s session d c m deadline block g none room i =
      let tx : TxId = next_tx s session d.started in
      let e : TxEntry = new_entry m deadline in
      let d2 : SessionState = record d { tx = Some tx; block = block; skipping = false; started = tx.number } in
      let known : NodeState = with_entry s tx e in
      let s2 : NodeState = with_session_state known session d2 in
      let busy : is_busy d2 ≡ true = given_busy s session d c g in
      let few : d.started < most = room.0 in
      let bound : most ≤ 2 ^ 62 = room.1 in
      let opened : StarterInAct past s2 =
      starter_opened s.me (past ++ s.noted) s.txs s.session_states tx e d d2 g.there none refl (omega (arith, few, bound))
      refl refl (refl, refl, refl, refl, refl) refl refl refl refl refl (λ given pending after_start. busy) i in
      let there : session_state_of s2 session ≡ Some d2 = laws.at_put_same nat_cmp nat_cmp_total s.session_states session d2 in
      let f : SessionState → SessionState = λ (x : SessionState). record x {
        tx = Some tx;
        block = block;
        skipping = false;
        started = tx.number;
      } in
      let kept : R s (after_open_tx s tx m deadline block) = kit.opened s session d m deadline block i g.there none room in (
        (subst (λ z. StarterInAct past (on_session_state known session f z)) (sym g.there) opened, kept),
        subst (λ z. Given (on_session_state known session f z) session d2 c) (sym g.there)
            (record {
              there = there;
              pending = g.pending;
              unready = g.unready;
              awake = g.awake;
              rests = λ u y is stands faultless.
                  let same : tx ≡ u = cc in
                  let here : entry_of s2 tx ≡ Some e = laws.at_put_same tx_cmp tx_total s.txs tx e in
                  let at_u : entry_of s2 u ≡ Some e = subst (λ z. entry_of s2 z ≡ Some e) same here in
                  let is_e : e ≡ y = cc in
                  subst IsResting is_e (record { resting = refl; no_get = refl });
            }),
      )

  begins_goes : (s : NodeState) (session : ℕ) (d : SessionState) (m : Mode) (timeout : ℕ) (tx : Option TxId) → d.tx ≡ tx →
      Given s session d (command.Begin m timeout) → HasRoom most d → StarterInAct past s →
      G s (after_begin s session d.started m timeout tx)
  begins_goes s session d m timeout (Some tx) is g room i =
      answered_given s session d (command.Begin m timeout) answer.TransactionOpen g (inl refl) i
  begins_goes s session d m timeout None is g room i =
      let opened = opens_goes s session d (command.Begin m timeout) m (deadline_at s.now timeout) true g is room i in
      seq s (after_open_tx s (next_tx s session d.started) m (deadline_at s.now timeout) true) _ opened.0
      (λ j. answered_given _ session _ (command.Begin m timeout) answer.Done opened.1 (inl refl) j)

  sleeps_goes : (s : NodeState) (session : ℕ) (d : SessionState) (n : ℕ) → Given s session d (command.Sleep n) →
      StarterInAct past s → G s (after_sleep s session n)
  sleeps_goes s session d n g i =
      subst (λ z. G s (on_session_state s session (λ (d : SessionState). record d { wake = Some (moment_after s.now n) }) z))
      (sym g.there)
      (session_state_given s session d (record d { wake = Some (moment_after s.now n) }) (command.Sleep n) g refl refl refl
      (λ tx e after_start. absurd (cc)) i)

  skips_goes : (s : NodeState) (session : ℕ) (d : SessionState) (c : Command) → d.tx ≡ None → Given s session d c →
      StarterInAct past s → G s (after_skip_end s session)
  skips_goes s session d c none g i =
      subst (λ z. G s (on_session_state s session (λ (d : SessionState). record d {
        skipping = false;
        ready =
            Some answer.Skipped;
      }) z)) (sym g.there)
      (session_state_given s session d (record d { skipping = false; ready = Some answer.Skipped }) c g refl refl refl
      (λ tx e after_start is. absurd (cc)) i)

  access_goes : (s : NodeState) (session : ℕ) (d : SessionState) (c : Command) (block : Bool) (tx : Option TxId)
      (skipping : Bool) → d.tx ≡ tx → Given s session d c → HasRoom most d → StarterInAct past s →
      G s (after_access_command s session d.started block c tx skipping)
  access_goes s session d c block (Some tx) skipping is g room i =
      transaction_goes s session d c g i tx block (entry_of s tx) is refl
  access_goes s session d c block None true is g room i = answered_given s session d c answer.Skipped g (inr is) i
  access_goes s session d c block None false is g room i = (opens_goes s session d c mode.Pessimistic None false g is room i).0

  end_goes : (s : NodeState) (session : ℕ) (d : SessionState) (c : Command) (block : Bool) (tx : Option TxId)
      (skipping : Bool) → d.tx ≡ tx → Given s session d c → StarterInAct past s →
      G s (after_end_command s session block c tx skipping)
  end_goes s session d c block (Some tx) skipping is g i = transaction_goes s session d c g i tx block (entry_of s tx) is refl
  end_goes s session d c block None true is g i = skips_goes s session d c is g i
  end_goes s session d c block None false is g i = answered_given s session d c answer.NoTransaction g (inr is) i

  command_goes : (s : NodeState) (session : ℕ) (d : SessionState) (c : Command) → Given s session d c → HasRoom most d →
      StarterInAct past s → G s (after_command s session d.started d.block d.skipping d.tx c)
  command_goes s session d (command.Begin m timeout) g room i = begins_goes s session d m timeout d.tx refl g room i
  command_goes s session d (command.Sleep n) g room i = sleeps_goes s session d n g i
  command_goes s session d command.Commit g room i = end_goes s session d command.Commit d.block d.tx d.skipping refl g i
  command_goes s session d command.Rollback g room i = end_goes s session d command.Rollback d.block d.tx d.skipping refl g i
  command_goes s session d command.Close g room i = end_goes s session d command.Close d.block d.tx d.skipping refl g i
  command_goes s session d c g room i = access_goes s session d c d.block d.tx d.skipping refl g room i

  -- a session that gives a command has none at work
  next_pending : (d : SessionState) (c : Command) → command_to_give d ≡ Some c → d.pending ≡ None
  next_pending d c is = by d.pending is
    where
      by : (pending : Option Command) → command_or_close (command_unless_pending pending d) pending d.block ≡ Some c →
          pending ≡ None
      by None is = refl
      by (Some x) is = absurd (cc)

  takes_goes : (s : NodeState) (session : ℕ) (d : SessionState) (c : Option Command) → session_state_of s session ≡ Some d →
      command_to_give d ≡ c → HasRoom most d → StarterInAct past s → G s (after_take_command s session d c)
  takes_goes s session d None here is room i = atoms.idle_goes past most R kit s i
  takes_goes s session d (Some c) here is room i =
      let none = next_pending d c is in
      let f = session_state_fact past s session d here i in
      let calm = f.calm none in
      let d2 : SessionState = record d { pending = Some c } in
      let free = is_busy_none d none in
      let s1 : NodeState = with_session_state s session d2 in
      let s2 : NodeState = with_note s1 (note.Call session c) in
      let pending : G s s1 = (
        starter_session s.me (past ++ s.noted) s.txs s.session_states session d d2 here
            (record {
              same_tx = refl;
              same_count = refl;
              calm = λ gone. absurd (cc);
              rests = λ not_busy. f.rests free;
              awaits = λ tx e is_tx stands awaiting key on.
                  absurd (idle_awaits e (f.rests free tx e is_tx stands
                  (awaiting_faultless e.state e (no_more past s i tx e stands).shape awaiting)) awaiting);
              begins = λ given gives after_start tx e is_tx stands idle. rw (calm.0, calm.1) refl;
            }) i,
        kit.session_state s session d d2 i here refl refl (inr free),
      ) in
      let g : Given s2 session d2 c = record {
        there = laws.at_put_same nat_cmp nat_cmp_total s.session_states session d2;
        pending = refl;
        unready = calm.0;
        awake = calm.1;
        rests = f.rests free;
      } in
      subst (λ z. G s (after_command
      (with_note (on_session_state s session (λ (d : SessionState). record d { pending = Some c }) z)
      (note.Call session c)) session d.started d.block d.skipping d.tx c)) (sym here)
      (seq s s1 _ pending (λ j. seq s1 s2 _ (atoms.noted_goes past most R kit s1 (note.Call session c) refl j)
      (λ k. command_goes s2 session d2 c g room k)))

  -- a session's numbers have room for one more transaction
  abbrev pub RoomAt : NodeState → ℕ → Type 0
  RoomAt s session = (d : SessionState) → session_state_of s session ≡ Some d → HasRoom most d

  takes_at_goes : (s : NodeState) (session : ℕ) (d : Option SessionState) → session_state_of s session ≡ d →
      RoomAt s session → StarterInAct past s → G s (after_call_of s session d)
  takes_at_goes s session None here room i = atoms.idle_goes past most R kit s i
  takes_at_goes s session (Some d) here room i = takes_goes s session d (command_to_give d) here refl (room d here) i

  pub call_row_goes : (s : NodeState) (session : ℕ) → RoomAt s session → StarterInAct past s → G s (after_call s session)
  call_row_goes s session room i = takes_at_goes s session (session_state_of s session) refl room i

  -- Answers.

  hands_goes : (s : NodeState) (session : ℕ) (d : SessionState) (x : Option Answer) → session_state_of s session ≡ Some d →
      answer_to_give s d ≡ x → StarterInAct past s → G s (after_hand_out s session x)
  hands_goes s session d None here is i = atoms.idle_goes past most R kit s i
  hands_goes s session d (Some x) here is i =
      let f = session_state_fact past s session d here i in
      let free : is_busy d ≡ false = not_at_work d.pending d.ready d.wake is in
      let d2 : SessionState = session_state_after_answer x d in
      let s1 : NodeState = with_session_state s session d2 in
      subst (λ z. G s (with_note (on_session_state s session (session_state_after_answer x) z) (note.Answer session x)))
      (sym here)
      (seq s s1 _ (
        starter_session s.me (past ++ s.noted) s.txs s.session_states session d d2 here
            (record {
              same_tx = refl;
              same_count = refl;
              calm = λ gone. (refl, refl);
              rests = λ not_busy. f.rests free;
              awaits = λ tx e is_tx stands awaiting key on. absurd (cc);
              begins = λ given gives. absurd (cc);
            }) i,
        kit.session_state s session d d2 i here refl refl (inr free),
      ) (λ j. atoms.noted_goes past most R kit s1 (note.Answer session x) refl j))
    where
      not_at_work : (pending : Option Command) (ready : Option Answer) (wake : Option ℕ) →
          answer_or_slept ready (answer_of_sleep s.now wake) ≡ Some x → (is_some pending && is_none ready && is_none wake)
          ≡ false
      not_at_work None ready wake is = refl
      not_at_work (Some c) (Some r) wake is = refl
      not_at_work (Some c) None (Some n) is = refl
      not_at_work (Some c) None None is = absurd (cc)

  hands_at_goes : (s : NodeState) (session : ℕ) (d : Option SessionState) → session_state_of s session ≡ d →
      StarterInAct past s → G s (after_answer_of s session d)
  hands_at_goes s session None here i = atoms.idle_goes past most R kit s i
  hands_at_goes s session (Some d) here i = hands_goes s session d (answer_to_give s d) here refl i

  pub answer_row_goes : (s : NodeState) (session : ℕ) → StarterInAct past s → G s (after_answer s session)
  answer_row_goes s session i = hands_at_goes s session (session_state_of s session) refl i
