-- The rows of a primary and of its backups keep what is true of locks, and what the records tell of the node's transactions.
use Rattle.ignite_types.proofs.NameLaws.{tx_total}
use Rattle.act_rows.specs.Steps.{with_near, with_note, with_out}
use Rattle.ignite_types.specs.Names.{tx_cmp}
use Rattle.ignite_types.specs.Names.{same_tx}
use Rattle.ignite_types.specs.declared.journal.Rec.TheVariants as note
use Rattle.ignite_types.specs.declared.journal.Rec.{Rec}
use Rattle.ignite_types.specs.declared.message.Message.TheVariants as msg
use Rattle.ignite_types.specs.declared.names.NodeId.{NodeId}
use Rattle.ignite_types.specs.declared.names.TopVer.{TopVer}
use Rattle.ignite_types.specs.declared.names.TxId.{TxId}
use Rattle.ignite_types.specs.declared.placement.Share.{Share}
use Rattle.ignite_types.specs.declared.scenario.Mode.TheVariants as mode
use Rattle.ignite_types.specs.declared.scenario.Mode.{Mode}
use Rattle.ignite_types.specs.declared.text.Key.{Key}
use Rattle.node_state.specs.declared.near.TxEntry.{TxEntry}
use Rattle.node_state.specs.Node.{NodeState}
use Rattle.ordered_set.specs.Members.{with_member}
use Rattle.ordered_table.specs.Entries.{at}
use Rattle.ordered_table.specs.Entries.{without}
use Rattle.std.proofs.Common.{◌≡◌, ◌≢◌, ◌⊎◌, inl, inr, List, [], ◌∷◌, ◌++◌, Bool, true, false, if◌then◌else◌, Option, Some, None, refl, ap, sym, subst, ◌∙◌, ℕ}
use Rattle.transaction_laws.proofs.Tables.{tx_tells}
use Rattle.transaction_laws.proofs.StarterFacts.{starter_noting}
use Rattle.transaction_laws.specs.StarterFacts.{StarterInAct, is_aside}
use Rattle.frame_laws.proofs.Owners.{free_here, still_free, unblocked}
use Rattle.act_rows.specs.Accesses.{after_near_update}
use Rattle.act_rows.specs.Backups.{after_backup_finish, after_backup_finish_in, after_backup_finish_of, after_backup_prepare, after_commit_backup, without_backup}
use Rattle.act_rows.specs.Decisions.{backup_finish_outs}
use Rattle.act_rows.specs.Locks.{after_edges, after_get, after_leave, after_own_each, after_pass_on, after_release, after_release_all, after_release_each, is_owner, owner_at, with_queued, with_reader_if}
use Rattle.act_rows.specs.Primary.{after_advance_share, after_advance_share_in, after_advance_shares, after_backup_finished_at_primary, after_backup_finished_in, after_backup_finished_of, after_backup_prepared, after_backup_prepared_in, after_backup_prepared_of, after_check, after_commit_share, after_draw, after_end_finish, after_finish, after_finish_at, after_finish_in, after_finish_of, after_finished_share, after_forget, after_near_done, after_prepare, after_share_prepared, after_undo_share, backup_prepare_outs, backups_for, drawn_writes, failed_check, first_changed, is_forgettable, last_drawn, near_outs, near_wait_cmp, near_waits, new_share, readers_but_me, wanted_keys, with_finish_begun}
use Rattle.act_rows.specs.Steps.{backup_of, on_share, outs_to, share_of, with_backup, with_outs, with_share}
use Rattle.act_rows.specs.Stores.{after_apply_each, found_at, with_stored}
use Rattle.part_model.specs.Queues.{edges_of, first_blocked, keys_queued_for, other_owner, queue_in}
use Rattle.part_model.specs.Tables.{keys_where, without_each}
use Rattle.ignite_types.specs.Names.{node_cmp, same_node, same_tx}
use Rattle.ignite_types.specs.declared.answer.Fail.{Fail}
use Rattle.ignite_types.specs.declared.message.Message.{Message}
use Rattle.ignite_types.specs.declared.message.Out.{Out}
use Rattle.ignite_types.specs.declared.message.Stored.{Stored}
use Rattle.ignite_types.specs.declared.message.Wanted.{Wanted}
use Rattle.ignite_types.specs.declared.placement.PartMap.{PartMap}
use Rattle.ignite_types.specs.declared.placement.ShareState.{ShareState}
use Rattle.ignite_types.specs.declared.placement.ShareState.TheVariants.{Preparing, Prepared, Committed, Undoing}
use Rattle.ignite_types.proofs.NameLaws.{exact_txs}
use Rattle.node_state.specs.declared.primary.BackupShare.{BackupShare}
use Rattle.node_state.specs.declared.primary.NearWait.{NearWait}
use Rattle.node_state.specs.declared.primary.OwnShare.{OwnShare}
use Rattle.ordered_set.specs.Members.{without_member}
use Rattle.ordered_table.proofs.Ascending as ascending
use Rattle.owner_laws.specs.LockFacts.{Each, Fact, IsNamed, PrepareFact, ShareFact, is_live, is_locking, once, owner, undecided, waits}
use Rattle.transaction_laws.specs.StarterStates.{waits_for_lock}
use Rattle.owner_laws.specs.LockViews.{Around, view}
use Rattle.owner_laws.proofs.LockKit.{lock_waits, plain_good, sents_good, to_each, both_each, Plain}
use Rattle.owner_laws.proofs.LockRows.{Good, enqueued_good, noting_good, released_good, released_entry}
use Rattle.owner_laws.proofs.LockSteps.{share_keeps}
use Rattle.transaction_laws.proofs.Tables.{put_elim, without_elim}
use Rattle.owner_laws.proofs.LockViews.{of_node_me, wrote_here}

module _ (past : List Rec) (m : PartMap) (around : Around) where
  -- what is known between two steps
  pub record Both (s : NodeState) : Type 0 where
    pub near : StarterInAct past s
    pub good : Good m around s

  noting_both : (s : NodeState) (r : Rec) → is_aside r ≡ true → Both s → Both (with_note s r)
  noting_both s r aside b = record { near = starter_noting past s r aside b.near; good = noting_good m around s r b.good }

  plain_both : (s : NodeState) (to : NodeId) (x : Message) → Fact m (view around s) s.me to x → once x ≡ None → Both s →
      Both (with_out s to x)
  plain_both s to x fact plain b = record { near = b.near; good = plain_good past m around s to x fact plain b.good }

  sents_both : (s : NodeState) (outs : List Out) → Each (Plain past m around s) outs → Both s → Both (with_outs s outs)
  sents_both s outs each b = record { near = b.near; good = sents_good past m around s outs each b.good }

  -- a transaction whose places are left is decided
  abbrev IsOver : NodeState → TxId → Type 0
  IsOver s tx = is_live (view around s).entry tx ≡ false

  passed_near : (s : NodeState) (key : Key) (b : Bool) (next : Option TxId) → StarterInAct past s →
      StarterInAct past (after_pass_on s key b next)
  passed_near s key true (Some u) n = starter_noting past s _ refl n
  passed_near s key true None n = n
  passed_near s key false next n = n

  released_both : (s : NodeState) (tx : TxId) (key : Key) → IsOver s tx → Both s → Both (after_release s tx key)
  released_both s tx key over b =
      let after = with_note (after_leave s tx key) (note.Drop tx key) in
      record {
        near = passed_near after key (is_owner tx (owner_at s key)) (owner_at after key)
            (starter_noting past s (note.Drop tx key) refl b.near);
        good = released_good m around s tx key over b.good;
      }

  released_all_both : (s : NodeState) (tx : TxId) (keys : List Key) → IsOver s tx → Both s →
      Both (after_release_each s tx keys) × ((view around (after_release_each s tx keys)).entry ≡ (view around s).entry)
  released_all_both s tx [] over b = (b, refl)
  released_all_both s tx (key ∷ keys) over b =
      let same = released_entry m around s tx key in
      let rest = released_all_both (after_release s tx key) tx keys (ap (λ f. undecided (f tx.node tx)) same ∙ over)
      (released_both s tx key over b) in
      (rest.0, rest.1 ∙ same)

  releases_both : (s : NodeState) (tx : TxId) → IsOver s tx → Both s → Both (after_release_all s tx)
  releases_both s tx over b = (released_all_both s tx (keys_queued_for s.queues tx) over b).0

  -- Own shares.

  own_share : (s : NodeState) (tx : TxId) → (view around s).share s.me tx ≡ share_of s tx
  own_share s tx = ap (λ f. f tx) (of_node_me s.me (share_of s) (share_of (around.others s.me)))

  abbrev FactOf : NodeState → TxId → Option OwnShare → Type 0
  FactOf s tx x = ShareFact ((view around s).entry tx.node tx) ((view around s).session_state tx.node tx.session) tx x

  share_there : (s : NodeState) (tx : TxId) → Good m around s → FactOf s tx (share_of s tx)
  share_there s tx i = subst (FactOf s tx) (own_share s tx) (i.locks.shares s.me tx)

  with_share_both : (s : NodeState) (tx : TxId) (h : OwnShare) → FactOf s tx (Some h) → Both s → Both (with_share s tx h)
  with_share_both s tx h fact b = record {
    near = b.near;
    good = let i = b.good in record {
      locks = share_keeps m (view around s) (view around (with_share s tx h)).share s.me tx (Some h)
          (wrote_here s.me (share_of s) (share_of (with_share s tx h)) (λ n. share_of (around.others n)) tx (Some h)
          (λ u. put_elim tx_cmp tx_total exact_txs (λ u x. ((u ≡ tx) × (x ≡ Some h)) ⊎ (x ≡ at tx_cmp s.shares u)) s.shares tx
          h (inl (refl, refl)) (λ u ne. inr refl) u))
          fact i.locks;
      up = i.up;
      installed = i.installed;
      seen = i.seen;
      shares_up = ascending.ascending_put tx_cmp tx_total s.shares tx h i.shares_up;
    };
  }

  without_share_both : (s : NodeState) (tx : TxId) → Both s → Both (record s { shares = without tx_cmp s.shares tx })
  without_share_both s tx b = record {
    near = b.near;
    good = let i = b.good in record {
      locks = share_keeps m (view around s) (view around (record s { shares = without tx_cmp s.shares tx })).share s.me tx None
          (wrote_here s.me (share_of s) (share_of (record s { shares = without tx_cmp s.shares tx }))
          (λ n. share_of (around.others n)) tx None
          (λ u. without_elim tx_cmp tx_total exact_txs (λ u x. ((u ≡ tx) × (x ≡ None)) ⊎ (x ≡ at tx_cmp s.shares u)) s.shares
          tx i.shares_up (inl (refl, refl)) (λ u ne. inr refl) u))
          tt i.locks;
      up = i.up;
      installed = i.installed;
      seen = i.seen;
      shares_up = ascending.ascending_without tx_cmp tx_total s.shares tx i.shares_up;
    };
  }

  -- a share changes; its askers are the same, or its transaction is decided
  on_share_both : (s : NodeState) (tx : TxId) (f : OwnShare → OwnShare) →
      ((h : OwnShare) → share_of s tx ≡ Some h → FactOf s tx (Some h) → FactOf s tx (Some (f h))) → Both s →
      Both (on_share s tx f (share_of s tx))
  on_share_both s tx f fits b = go (share_of s tx) refl
    where
      go : (x : Option OwnShare) → share_of s tx ≡ x → Both (on_share s tx f x)
      go None there = b
      go (Some h) there = with_share_both s tx (f h) (fits h there (subst (FactOf s tx) there (share_there s tx b.good))) b

  forgets : (s : NodeState) (txs : List TxId) → Both s → Both (record s { shares = without_each tx_cmp s.shares txs })
  forgets s [] b = record {
    near = b.near;
    good = record {
      locks = b.good.locks;
      up = b.good.up;
      installed = b.good.installed;
      seen = b.good.seen;
      shares_up = b.good.shares_up;
    };
  }
  forgets s (tx ∷ txs) b = let rest = forgets (record s { shares = without tx_cmp s.shares tx }) txs
      (without_share_both s tx b) in
      record {
        near = rest.near;
        good = record {
          locks = rest.good.locks;
          up = rest.good.up;
          installed = rest.good.installed;
          seen = rest.good.seen;
          shares_up = rest.good.shares_up;
        };
      }

  forgetting_both : (s : NodeState) (tx : TxId) → Both s → Both (after_forget s tx)
  forgetting_both s tx b =
      let old = keys_where (λ (e : TxId × OwnShare). is_forgettable tx e.0 e.1.state) s.shares in
      let rest = forgets s old b in
      record {
        near = rest.near;
        good = record {
          locks = rest.good.locks;
          up = rest.good.up;
          installed = rest.good.installed;
          seen = rest.good.seen;
          shares_up = rest.good.shares_up;
        };
      }

  -- Get, Edges

  reads_both : (s : NodeState) (from : NodeId) (near : Bool) (key : Key) → Both s → Both (with_reader_if s from near key)
  reads_both s from true key b =
      record {
        near = b.near;
        good = record {
          locks = b.good.locks;
          up = b.good.up;
          installed = b.good.installed;
          seen =
              b.good.seen;
          shares_up = b.good.shares_up;
        };
      }
  reads_both s from false key b = b

  pub get_both : (s : NodeState) (from : NodeId) (tx : TxId) (key : Key) (near : Bool) → Both s →
      Both (after_get s from tx key near)
  get_both s from tx key near b = plain_both (with_reader_if s from near key) from (msg.GetOk tx key (found_at s key)) tt refl
      (reads_both s from near key b)

  pub edges_both : (s : NodeState) (from : NodeId) (tx : TxId) (round : ℕ) (known : List TxId) → Both s →
      Both (after_edges s from tx round known)
  edges_both s from tx round known b = let found = edges_of s.queues known in
      plain_both (with_note s (note.Waits tx round found)) from (msg.EdgesOk tx round s.acts found) tt refl
      (noting_both s (note.Waits tx round found) refl b)

  -- Prepare

  backup_outs_plain : (s : NodeState) (tx : TxId) (top : TopVer) (shares : List Share) (writes : List Stored)
      (nodes : List NodeId) → Each (Plain past m around s) (backup_prepare_outs s tx top shares writes nodes)
  backup_outs_plain s tx top shares writes [] = λ o there. absurd there
  backup_outs_plain s tx top shares writes (node ∷ more) = go (backup_outs_plain s tx top shares writes more)
    where
      go : Each (Plain past m around s) (backup_prepare_outs s tx top shares writes more) →
          Each (Plain past m around s) (backup_prepare_outs s tx top shares writes (node ∷ more))
      go rest o (inl is) = subst (Plain past m around s) (sym is) (tt, refl)
      go rest o (inr there) = rest o there

  draws_both : (s : NodeState) (tx : TxId) (top : TopVer) (shares : List Share) (writes : List (Key × Option (List ℕ))) →
      IsNamed ((view around s).session_state tx.node tx.session) tx → Both s → Both (after_draw s tx top shares writes)
  draws_both s tx top shares writes named b =
      let s1 : NodeState = record s { order = last_drawn s.order writes } in
      let nodes = backups_for s shares in
      let with_stored = drawn_writes top s.me s.order writes in
      let b1 : Both s1 = record {
        near = b.near;
        good = record {
          locks = b.good.locks;
          up = b.good.up;
          installed =
              b.good.installed;
          seen = b.good.seen;
          shares_up = b.good.shares_up;
        };
      } in
      let h : OwnShare = new_share top shares with_stored nodes in
      let s2 : NodeState = with_share s1 tx h in
      sents_both s2 (backup_prepare_outs s1 tx top shares with_stored nodes)
      (backup_outs_plain s1 tx top shares with_stored nodes)
      (with_share_both s1 tx h (named, λ asked. absurd (asked refl)) b1)

  other_locks : (x : TxEntry) → x.mode ≡ mode.Optimistic → is_locking x.mode ≡ true → ⊥
  other_locks x free locks = let l : is_locking mode.Optimistic ≡ true = subst (λ z. is_locking z ≡ true) free locks in cc

  -- it is owned by nobody else
  owned_after : (tx : TxId) (q : List TxId) → other_owner tx (owner q) ≡ None → owner (q ++ tx ∷ []) ≡ Some tx
  owned_after tx [] free = refl
  owned_after tx (u ∷ q) free =
      elim (same_tx tx u) as (λ r. same_tx tx u ≡ r → (if r then None else Some u) ≡ None → Some u ≡ Some tx) [
        | true ↦ λ is free. ap Some (sym (exact tx u is))
        | false ↦ λ is free. absurd (cc)
      ] refl free
    where
      exact : (t u : TxId) → same_tx t u ≡ true → t ≡ u
      exact t u is = go (tx_tells t u)
        where
          go : ((same_tx t u ≡ true) × (t ≡ u)) ⊎ ((same_tx t u ≡ false) × (t ≢ u)) → t ≡ u
          go (inl e) = e.1
          go (inr e) = absurd (cc)

  owns_both : (s : NodeState) (tx : TxId) (top : TopVer) (ws : List Wanted) → PrepareFact m ((view around s).entry tx.node tx)
      ((view around s).session_state tx.node tx.session) s.me tx mode.Optimistic ws →
      first_blocked s.queues (wanted_keys ws) tx ≡ None → Both s
      → Both (after_own_each s tx top ws) × ((after_own_each s tx top ws).me ≡ s.me)
      × ((view around (after_own_each s tx top ws)).session_state ≡ (view around s).session_state)
  owns_both s tx top [] fact free b = (b, refl, refl)
  owns_both s tx top (w ∷ ws) fact free b =
      let v = view around s in
      let next : NodeState = with_note (with_queued s tx w.key) (note.Grant tx top w.key) in
      let here = free_here w.key (other_owner tx (owner_at s w.key)) (first_blocked s.queues (wanted_keys ws) tx) free in
      let queued : Both (with_queued s tx w.key) = record {
        near = b.near;
        good = enqueued_good m around s tx w.key fact.named (fact.here w (inl refl))
            (λ x is opened locks. absurd (other_locks x (fact.preparing x is opened).1 locks))
            (λ live. inl (owned_after tx (queue_in s.queues w.key) here.0))
            (λ a y live there of_y. no_lock (v.entry tx.node tx) refl live
            (lock_waits past m around v a s.me y tx w.key (b.good.locks.facts a s.me y there) of_y live))
            b.good;
      } in
      owns_both next tx top ws (record {
        named = fact.named;
        preparing = fact.preparing;
        here =
            λ z there. fact.here z (inr there);
      }) (still_free s.queues tx w.key (wanted_keys ws) here.0 here.1)
      (noting_both (with_queued s tx w.key) (note.Grant tx top w.key) refl queued)
    where
      no_lock : (e : Option TxEntry) → (view around s).entry tx.node tx ≡ e → undecided e ≡ true →
          waits ((view around s).entry tx.node tx) ≡ true → ⊥
      no_lock None is live waiting = cc
      no_lock (Some x) is live waiting =
          let preparing = (fact.preparing x is live).0 in
          let w : waits_for_lock x.state ≡ true = ap waits (sym is) ∙ waiting in
          let none : waits_for_lock x.state ≡ false = ap waits_for_lock preparing in
          cc

  pub prepare_both : (s : NodeState) (from : NodeId) (tx : TxId) (top : TopVer) (x : Mode) (shares : List Share)
      (wanted : List Wanted) (writes : List (Key × Option (List ℕ))) → PrepareFact m ((view around s).entry tx.node tx)
      ((view around s).session_state tx.node tx.session) s.me tx x wanted → Both s
      → Both (after_prepare s from tx top x shares wanted writes)
  prepare_both s from tx top mode.Pessimistic shares wanted writes fact b =
      draws_both (after_forget s tx) tx top shares writes fact.named (forgetting_both s tx b)
  prepare_both s from tx top mode.Optimistic shares wanted writes fact b = by_check (failed_check s1 tx wanted) refl
    where
      s1 : NodeState
      s1 = after_forget s tx

      b1 : Both s1
      b1 = forgetting_both s tx b

      by_check : (why : Option Fail) → failed_check s1 tx wanted ≡ why →
          Both (after_check s1 from tx top shares wanted writes why)
      by_check (Some why) is = plain_both s1 from (msg.PrepareFail tx why) tt refl b1
      by_check None is =
          let owned = owns_both s1 tx top wanted (record { named = fact.named; preparing = fact.preparing; here = fact.here })
          (unblocked (first_blocked s1.queues (wanted_keys wanted) tx) (first_changed s1 wanted) is) b1 in
          draws_both (after_own_each s1 tx top wanted) tx top shares writes (subst (λ f. IsNamed (f tx.node tx.session) tx)
          (sym owned.2) fact.named) owned.0

  pub backup_prepared_both : (s : NodeState) (from : NodeId) (tx : TxId) → Both s → Both (after_backup_prepared s from tx)
  backup_prepared_both s from tx b = go (share_of s tx)
    where
      by_state : (st : ShareState) → Both (after_backup_prepared_in s from tx st)
      by_state Preparing = on_share_both s tx
          (λ (h : OwnShare). record h { awaited = without_member node_cmp h.awaited from }) (λ h there fact. fact) b
      by_state Prepared = b
      by_state Committed = b
      by_state Undoing = b

      go : (x : Option OwnShare) → Both (after_backup_prepared_of s from tx x)
      go None = b
      go (Some h) = by_state h.state

  -- Finish

  stored_both : (s : NodeState) (w : Stored) → Both s → Both (with_stored s w)
  stored_both s w b = record {
    near = b.near;
    good = record {
      locks = b.good.locks;
      up = b.good.up;
      installed =
          b.good.installed;
      seen = b.good.seen;
      shares_up = b.good.shares_up;
    };
  }

  applied_both : (s : NodeState) (tx : TxId) (top : TopVer) (primary : NodeId) (ws : List Stored) → Both s →
      Both (after_apply_each s tx top primary ws)
      × ((view around (after_apply_each s tx top primary ws)).entry ≡ (view around s).entry)
      × ((view around (after_apply_each s tx top primary ws)).session_state ≡ (view around s).session_state)
  applied_both s tx top primary [] b = (b, refl, refl)
  applied_both s tx top primary (w ∷ ws) b =
      let done : NodeState = with_stored s w in
      let r = note.Apply tx top primary w.key w.value w.ver in
      applied_both (with_note done r) tx top primary ws (noting_both done r refl (stored_both s w b))

  finish_outs_plain : (s : NodeState) (tx : TxId) (primary : NodeId) (commit : Bool) (nodes : List NodeId) →
      Each (Plain past m around s) (backup_finish_outs tx primary commit nodes)
  finish_outs_plain s tx primary commit nodes = to_each past m around s nodes (msg.BackupFinish tx primary commit)
      (λ n. tt) refl

  near_outs_plain : (s s2 : NodeState) (tx : TxId) (ws : List Stored) → Each (Plain past m around s2) (near_outs s tx ws)
  near_outs_plain s s2 tx [] = λ o there. absurd there
  near_outs_plain s s2 tx (w ∷ ws) =
      both_each past m around s2 (outs_to (readers_but_me s w.key) (msg.NearUpdate tx w.key w.value w.ver)) (near_outs s tx ws)
      (to_each past m around s2 (readers_but_me s w.key) (msg.NearUpdate tx w.key w.value w.ver) (λ n. tt) refl)
      (near_outs_plain s s2 tx ws)

  -- a finish begins, of a decided transaction
  begins_both : (s : NodeState) (tx : TxId) (st : ShareState) (from : NodeId) (nodes : List NodeId) (near : List NearWait) →
      IsOver s tx → Both s → Both (with_finish_begun s tx st from nodes near)
  begins_both s tx st from nodes near over b =
      on_share_both s tx (λ (h : OwnShare). record h { state = st; awaited = nodes; near = near; askers = from ∷ [] })
      (λ h there fact. (fact.0, λ asked. over)) b

  commits_both : (s : NodeState) (from : NodeId) (tx : TxId) (h : OwnShare) (nodes : List NodeId) → IsOver s tx → Both s →
      Both (after_commit_share s from tx h nodes)
  commits_both s from tx h nodes over b =
      let done = after_apply_each s tx h.top s.me h.writes in
      let applied = applied_both s tx h.top s.me h.writes b in
      let s2 : NodeState = with_finish_begun done tx Committed from nodes (near_waits s h.writes) in
      sents_both s2 (backup_finish_outs tx s.me true nodes ++ near_outs s tx h.writes)
      (both_each past m around s2 (backup_finish_outs tx s.me true nodes) (near_outs s tx h.writes)
      (finish_outs_plain s2 tx s.me true nodes) (near_outs_plain s s2 tx h.writes))
      (begins_both done tx Committed from nodes (near_waits s h.writes) (ap (λ f. undecided (f tx.node tx)) applied.1
      ∙ over) applied.0)

  undoes_both : (s : NodeState) (from : NodeId) (tx : TxId) (nodes : List NodeId) → IsOver s tx → Both s →
      Both (after_undo_share s from tx nodes)
  undoes_both s from tx nodes over b =
      let s2 : NodeState = with_finish_begun s tx Undoing from nodes [] in
      sents_both s2 (backup_finish_outs tx s.me false nodes) (finish_outs_plain s2 tx s.me false nodes)
      (begins_both s tx Undoing from nodes [] over b)

  finishing_both : (s : NodeState) (from : NodeId) (tx : TxId) (commit : Bool) (h : OwnShare) (st : ShareState) →
      IsOver s tx → Both s → Both (after_finish_in s from tx commit h st)
  finishing_both s from tx true h Prepared over b = commits_both s from tx h (backups_for s h.shares) over b
  finishing_both s from tx false h Prepared over b = undoes_both s from tx (backups_for s h.shares) over b
  finishing_both s from tx false h Preparing over b = undoes_both s from tx (backups_for s h.shares) over b
  finishing_both s from tx true h Preparing over b = plain_both s from (msg.Finished tx) tt refl b
  finishing_both s from tx true h Committed over b = plain_both s from (msg.Finished tx) tt refl b
  finishing_both s from tx true h Undoing over b = plain_both s from (msg.Finished tx) tt refl b
  finishing_both s from tx false h Committed over b = plain_both s from (msg.Finished tx) tt refl b
  finishing_both s from tx false h Undoing over b = plain_both s from (msg.Finished tx) tt refl b

  pub finish_both : (s : NodeState) (from : NodeId) (tx : TxId) (commit : Bool) → IsOver s tx → Both s →
      Both (after_finish s from tx commit)
  finish_both s from tx commit over b = go (share_of s tx)
    where
      by_askers : (h : OwnShare) (askers : List NodeId) → Both (after_finish_at s from tx commit h askers)
      by_askers h [] = finishing_both s from tx commit h h.state over b
      by_askers h (x ∷ more) = on_share_both s tx (λ (h : OwnShare). record h { askers = with_member node_cmp h.askers from })
          (λ h there fact. (fact.0, λ asked. over)) b

      go : (x : Option OwnShare) → Both (after_finish_of s from tx commit x)
      go None = plain_both (after_release_all s tx) from (msg.Finished tx) tt refl (releases_both s tx over b)
      go (Some h) = by_askers h h.askers

  -- Answers of backups and readers

  pub own_backup_finished_both : (s : NodeState) (from : NodeId) (tx : TxId) (primary : NodeId) → Both s →
      Both (after_backup_finished_at_primary s from tx primary)
  own_backup_finished_both s from tx primary b = by_own (same_node primary s.me)
    where
      by_askers : (askers : List NodeId) → Both (after_backup_finished_in s from tx askers)
      by_askers [] = b
      by_askers (x ∷ more) = on_share_both s tx
          (λ (h : OwnShare). record h { awaited = without_member node_cmp h.awaited from }) (λ h there fact. fact) b

      go : (x : Option OwnShare) → Both (after_backup_finished_of s from tx x)
      go None = b
      go (Some h) = by_askers h.askers

      by_own : (own : Bool) → Both (if own then after_backup_finished_of s from tx (share_of s tx) else s)
      by_own true = go (share_of s tx)
      by_own false = b

  pub near_done_both : (s : NodeState) (from : NodeId) (tx : TxId) (key : Key) → Both s → Both (after_near_done s from tx key)
  near_done_both s from tx key b =
      on_share_both s tx (λ (h : OwnShare).
      record h { near = without_member near_wait_cmp h.near (record { key = key; node = from }) }) (λ h there fact. fact) b

  pub near_update_both : (s : NodeState) (from : NodeId) (tx : TxId) (key : Key) (new : Option (List ℕ)) (ver : _) → Both s →
      Both (after_near_update s from tx key new ver)
  near_update_both s from tx key new ver b = plain_both (with_near s key _) from (msg.NearDone tx key) tt refl
      (record {
        near = b.near;
        good = record {
          locks = b.good.locks;
          up = b.good.up;
          installed = b.good.installed;
          seen =
              b.good.seen;
          shares_up = b.good.shares_up;
        };
      })

  -- Backups

  backups_both : (s : NodeState) (bs : _) → Both s → Both (record s { backups = bs })
  backups_both s bs b = record {
    near = b.near;
    good = record {
      locks = b.good.locks;
      up = b.good.up;
      installed =
          b.good.installed;
      seen = b.good.seen;
      shares_up = b.good.shares_up;
    };
  }

  pub backup_prepare_both : (s : NodeState) (from : NodeId) (tx : TxId) (top : TopVer) (shares : List Share)
      (primary : NodeId) (writes : List Stored) → Both s → Both (after_backup_prepare s from tx top shares primary writes)
  backup_prepare_both s from tx top shares primary writes b =
      let kept = with_backup (after_forget s tx) tx primary (record {
        top = top;
        shares = shares;
        writes = writes;
        state =
            Prepared;
      }) in
      plain_both kept from (msg.BackupPrepared tx) tt refl
      (backups_both (after_forget s tx) kept.backups (forgetting_both s tx b))

  pub backup_finish_both : (s : NodeState) (from : NodeId) (tx : TxId) (primary : NodeId) (commit : Bool) → Both s →
      Both (after_backup_finish s from tx primary commit)
  backup_finish_both s from tx primary commit b =
      plain_both (after_backup_finish_of s tx primary commit (backup_of s tx primary)) from (msg.BackupFinished tx primary) tt
      refl (go (backup_of s tx primary))
    where
      dropped : Both (without_backup s tx primary)
      dropped = backups_both s (without_backup s tx primary).backups b

      done : (h : BackupShare) → Both (after_commit_backup s tx primary h)
      done h = let applied = applied_both s tx h.top primary h.writes b in
          backups_both (after_apply_each s tx h.top primary h.writes) (after_commit_backup s tx primary h).backups applied.0

      by_state : (commit : Bool) (h : BackupShare) (st : ShareState) → Both (after_backup_finish_in s tx primary commit h st)
      by_state true h Prepared = done h
      by_state true h Preparing = b
      by_state true h Committed = b
      by_state true h Undoing = b
      by_state false h st = dropped

      go : (x : Option BackupShare) → Both (after_backup_finish_of s tx primary commit x)
      go None = b
      go (Some h) = by_state commit h h.state

  -- What goes on when no answer is awaited any more.

  share_after_both : (s : NodeState) (tx : TxId) (st : ShareState) → Both s → Both (after_finished_share s tx st)
  share_after_both s tx Undoing b = without_share_both s tx b
  share_after_both s tx Preparing b = on_share_both s tx (λ (h : OwnShare). record h { askers = [] })
      (λ h there fact. (fact.0, λ asked. absurd (asked refl))) b
  share_after_both s tx Prepared b = on_share_both s tx (λ (h : OwnShare). record h { askers = [] })
      (λ h there fact. (fact.0, λ asked. absurd (asked refl))) b
  share_after_both s tx Committed b = on_share_both s tx (λ (h : OwnShare). record h { askers = [] })
      (λ h there fact. (fact.0, λ asked. absurd (asked refl))) b

  finish_over_both : (s : NodeState) (tx : TxId) (h : OwnShare) → IsOver s tx → Both s → Both (after_end_finish s tx h)
  finish_over_both s tx h over b =
      let after = after_finished_share (after_release_all s tx) tx h.state in
      sents_both after (outs_to h.askers (msg.Finished tx)) (to_each past m around after h.askers (msg.Finished tx)
      (λ n. tt) refl) (share_after_both (after_release_all s tx) tx h.state (releases_both s tx over b))

  is_prepared_both : (s : NodeState) (tx : TxId) → Both s → Both (after_share_prepared s tx)
  is_prepared_both s tx b = plain_both (on_share s tx (λ (h : OwnShare). record h { state = Prepared }) (share_of s tx))
      tx.node (msg.Prepared tx) tt refl (on_share_both s tx (λ (h : OwnShare). record h { state = Prepared })
      (λ h there fact. fact) b)

  goes_on_both : (s : NodeState) (tx : TxId) (h : OwnShare) (awaited : List NodeId) (near : List NearWait)
      (askers : List NodeId) (st : ShareState) → ((askers ≡ [] → ⊥) → IsOver s tx) → Both s →
      Both (after_advance_share_in s tx h awaited near askers st)
  goes_on_both s tx h [] [] (x ∷ more) st over b = finish_over_both s tx h (over (λ e. absurd (cc))) b
  goes_on_both s tx h [] [] [] Preparing over b = is_prepared_both s tx b
  goes_on_both s tx h [] [] [] Prepared over b = b
  goes_on_both s tx h [] [] [] Committed over b = b
  goes_on_both s tx h [] [] [] Undoing over b = b
  goes_on_both s tx h [] (w ∷ ws) [] Preparing over b = is_prepared_both s tx b
  goes_on_both s tx h [] (w ∷ ws) [] Prepared over b = b
  goes_on_both s tx h [] (w ∷ ws) [] Committed over b = b
  goes_on_both s tx h [] (w ∷ ws) [] Undoing over b = b
  goes_on_both s tx h [] (w ∷ ws) (x ∷ more) st over b = b
  goes_on_both s tx h (first ∷ rest) near askers st over b = b

  share_on_both : (s : NodeState) (tx : TxId) (x : Option OwnShare) → share_of s tx ≡ x → Both s →
      Both (after_advance_share s tx x)
  share_on_both s tx None there b = b
  share_on_both s tx (Some h) there b = goes_on_both s tx h h.awaited h.near h.askers h.state
      (λ asked. (subst (FactOf s tx) there (share_there s tx b.good)).1 asked) b

  pub shares_on_both : (s : NodeState) (txs : List TxId) → Both s → Both (after_advance_shares s txs)
  shares_on_both s [] b = b
  shares_on_both s (tx ∷ txs) b = shares_on_both (after_advance_share s tx (share_of s tx)) txs
      (share_on_both s tx (share_of s tx) refl b)
