-- The rows of a primary and of its backups keep what is true of votes.
use Rattle.std.proofs.Common.{◌≡◌, ◌⊎◌, inl, inr, List, [], ◌∷◌, ◌++◌, Bool, true, false, if◌then◌else◌, Option, Some, None, refl, ap, sym, subst, ◌∙◌, ℕ}
use Rattle.std.specs.Prelude.{filter, not}
use Rattle.act_rows.specs.Accesses.{after_near_update}
use Rattle.act_rows.specs.Backups.{after_backup_finish, after_backup_finish_in, after_backup_finish_of, after_backup_prepare, after_commit_backup}
use Rattle.act_rows.specs.Decisions.{backup_finish_outs}
use Rattle.act_rows.specs.Locks.{after_edges, after_get, after_leave, after_lock, after_lock_behind, after_own_each, after_pass_on, after_release, after_release_all, after_release_each, is_owner, owner_at, with_queued, with_reader_if}
use Rattle.act_rows.specs.Primary.{after_advance_share, after_advance_share_in, after_advance_shares, after_backup_finished_at_primary, after_backup_finished_in, after_backup_finished_of, after_backup_prepared, after_backup_prepared_in, after_backup_prepared_of, after_check, after_commit_share, after_draw, after_end_finish, after_finish, after_finish_at, after_finish_in, after_finish_of, after_finished_share, after_forget, after_near_done, after_prepare, after_share_prepared, after_undo_share, backup_prepare_outs, backups_for, drawn_writes, failed_check, is_forgettable, last_drawn, near_outs, near_wait_cmp, near_waits, new_share, readers_but_me, with_finish_begun}
use Rattle.act_rows.specs.Steps.{backup_cmp, backup_name, backup_of, holders_for, installed_top, is_live, live_holders, on_share, outs_to, share_of, with_backup, with_near, with_note, with_out, with_outs, with_share}
use Rattle.act_rows.specs.Stores.{after_apply_each, found_at, with_stored}
use Rattle.ignite_types.proofs.NameLaws.{exact_txs, same_node_itself, tx_total}
use Rattle.ignite_types.specs.Names.{node_cmp, same_node, tx_cmp}
use Rattle.ignite_types.specs.declared.answer.Fail.{Fail}
use Rattle.ignite_types.specs.declared.journal.Rec.TheVariants as note
use Rattle.ignite_types.specs.declared.journal.Rec.{Rec}
use Rattle.ignite_types.specs.declared.message.Message.TheVariants as msg
use Rattle.ignite_types.specs.declared.message.Message.{Message}
use Rattle.ignite_types.specs.declared.message.Out.{Out}
use Rattle.ignite_types.specs.declared.message.Stored.{Stored}
use Rattle.ignite_types.specs.declared.message.Wanted.{Wanted}
use Rattle.ignite_types.specs.declared.names.NodeId.{NodeId}
use Rattle.ignite_types.specs.declared.names.TopVer.{TopVer}
use Rattle.ignite_types.specs.declared.names.TxId.{TxId}
use Rattle.ignite_types.specs.declared.placement.PartMap.{PartMap}
use Rattle.ignite_types.specs.declared.placement.Share.{Share}
use Rattle.ignite_types.specs.declared.placement.ShareState.TheVariants.{Committed, Prepared, Preparing, Undoing}
use Rattle.ignite_types.specs.declared.placement.ShareState.{ShareState}
use Rattle.ignite_types.specs.declared.scenario.Mode.TheVariants as mode
use Rattle.ignite_types.specs.declared.scenario.Mode.{Mode}
use Rattle.ignite_types.specs.declared.text.Key.{Key}
use Rattle.journal_statements.specs.ShareLaws.{is_ready_state, is_share_committed}
use Rattle.node_state.specs.Node.{NodeState}
use Rattle.node_state.specs.declared.primary.BackupName.{BackupName}
use Rattle.node_state.specs.declared.primary.BackupShare.{BackupShare}
use Rattle.node_state.specs.declared.primary.NearWait.{NearWait}
use Rattle.node_state.specs.declared.primary.OwnShare.{OwnShare}
use Rattle.ordered_set.specs.Members.{has, with_member, without_member}
use Rattle.ordered_table.proofs.Ascending as ascending
use Rattle.ordered_table.proofs.Laws as laws
use Rattle.ordered_table.specs.Entries.{at, without}
use Rattle.ordered_table.specs.Places.{IsAscending}
use Rattle.owner_laws.specs.LockFacts.{Each, In}
use Rattle.part_model.specs.Queues.{edges_of, keys_queued_for}
use Rattle.part_model.specs.Tables.{keys_where, without_each}
use Rattle.transaction_laws.proofs.Tables.{without_elim}
use Rattle.transaction_laws.specs.StarterFacts.{is_aside}
use Rattle.vote_laws.proofs.Lists.{In-filter, In-map, In-without, backup_total, exact_backups, keys_tell}
use Rattle.vote_laws.proofs.VoteRows.{Good, Plain, V, asked_there, both_each, change_good, noted_decided, noting_good, own_backup, own_share, plain_good, same_fact, sents_good, share_there, to_each, with_backup_good, with_share_good, without_backup_good, without_share_good}
use Rattle.vote_laws.proofs.VoteSteps.{ShareStep, StaysReady, commit_tells, prepare_tells}
use Rattle.vote_laws.specs.VoteFacts.{ACommit, APrepare, Decided, Fact, FinishFact, InHand, IsBackupReady, IsDecided, PrepareComes, ShareFact, a_share, once}
use Rattle.vote_laws.specs.VoteViews.{VoteAround, VoteView, backups_at}

forgettable_committed : (tx u : TxId) (st : ShareState) → is_forgettable tx u st ≡ true → st ≡ Committed
forgettable_committed tx u Committed is = refl
forgettable_committed tx u Preparing is = absurd (cc (is))
forgettable_committed tx u Prepared is = absurd (cc (is))
forgettable_committed tx u Undoing is = absurd (cc (is))

none_without : (es : List (TxId × OwnShare)) (ks : List TxId) (k : TxId) → IsAscending tx_cmp es → at tx_cmp es k ≡ None →
    at tx_cmp (without_each tx_cmp es ks) k ≡ None
none_without es [] k up none = none
none_without es (u ∷ ks) k up none =
    none_without (without tx_cmp es u) ks k (ascending.ascending_without tx_cmp tx_total es u up)
    (without_elim tx_cmp tx_total exact_txs (λ q x. q ≡ k → x ≡ None) es u up (λ is. refl)
    (λ q ne is. subst (λ (z : TxId). at tx_cmp es z ≡ None) (sym is) none) k refl)

module _ (m : PartMap) (around : VoteAround) where
  abbrev G : NodeState → Type 0
  G = Good m around

  abbrev W : NodeState → VoteView
  W = V m around

  -- Locks.

  passed_good : (s : NodeState) (key : Key) (b : Bool) (next : Option TxId) → G s → G (after_pass_on s key b next)
  passed_good s key true (Some u) i = plain_good m around (with_note s (note.Grant u (installed_top s) key)) u.node
      (msg.LockOk u key (found_at s key)) tt refl (noting_good m around s (note.Grant u (installed_top s) key) refl i)
  passed_good s key true None i = i
  passed_good s key false next i = i

  passed_shares : (s : NodeState) (key : Key) (b : Bool) (next : Option TxId) → (after_pass_on s key b next).shares ≡ s.shares
  passed_shares s key true (Some u) = refl
  passed_shares s key true None = refl
  passed_shares s key false next = refl

  released_good : (s : NodeState) (tx : TxId) (keys : List Key) → G s → G (after_release_each s tx keys)
      × ((after_release_each s tx keys).shares ≡ s.shares)
  released_good s tx [] i = (i, refl)
  released_good s tx (key ∷ keys) i =
      let after = with_note (after_leave s tx key) (note.Drop tx key) in
      let first = passed_good after key (is_owner tx (owner_at s key)) (owner_at after key)
      (noting_good m around (after_leave s tx key) (note.Drop tx key) refl
      (record { votes = i.votes; stands = i.stands })) in
      let rest = released_good (after_release s tx key) tx keys first in
      (rest.0, rest.1 ∙ passed_shares after key (is_owner tx (owner_at s key)) (owner_at after key))

  pub lock_good : (s : NodeState) (from : NodeId) (tx : TxId) (top : TopVer) (key : Key) → G s →
      G (after_lock s from tx top key)
  lock_good s from tx top key i = go (owner_at s key)
    where
      queued : G (with_queued s tx key)
      queued = record { votes = i.votes; stands = i.stands }

      go : (o : Option TxId) → G (after_lock_behind s from tx top key o)
      go None = let q = with_queued s tx key in plain_good m around (with_note q (note.Grant tx top key)) from
          (msg.LockOk tx key (found_at q key)) tt refl (noting_good m around q (note.Grant tx top key) refl queued)
      go (Some o) = noting_good m around (with_queued s tx key) (note.Queue tx key o) refl queued

  reads_good : (s : NodeState) (from : NodeId) (near : Bool) (key : Key) → G s → G (with_reader_if s from near key)
  reads_good s from true key i = record { votes = i.votes; stands = i.stands }
  reads_good s from false key i = i

  pub get_good : (s : NodeState) (from : NodeId) (tx : TxId) (key : Key) (near : Bool) → G s → G (after_get s from tx key near)
  get_good s from tx key near i = plain_good m around (with_reader_if s from near key) from
      (msg.GetOk tx key (found_at s key)) tt refl (reads_good s from near key i)

  pub edges_good : (s : NodeState) (from : NodeId) (tx : TxId) (round : ℕ) (known : List TxId) → G s →
      G (after_edges s from tx round known)
  edges_good s from tx round known i = let found = edges_of s.queues known in
      plain_good m around (with_note s (note.Waits tx round found)) from (msg.EdgesOk tx round s.acts found) tt refl
      (noting_good m around s (note.Waits tx round found) refl i)

  pub near_update_good : (s : NodeState) (from : NodeId) (tx : TxId) (key : Key) (new : Option (List ℕ)) (ver : _) → G s →
      G (after_near_update s from tx key new ver)
  near_update_good s from tx key new ver i = plain_good m around (with_near s key _) from (msg.NearDone tx key) tt refl
      (record { votes = i.votes; stands = i.stands })

  -- Forgetting: only Committed shares are.

  forgets_own : (s : NodeState) (txs : List TxId) → ((u : TxId) → In u txs → (h : OwnShare) → share_of s u ≡ Some h →
      h.state ≡ Committed) → G s → G (record s { shares = without_each tx_cmp s.shares txs })
  forgets_own s [] committed i = record { votes = i.votes; stands = i.stands }
  forgets_own s (t ∷ ts) committed i =
      forgets_own (record s { shares = without tx_cmp s.shares t }) ts
      (without_elim tx_cmp tx_total exact_txs (λ q x. In q ts → (h : OwnShare) → x ≡ Some h → h.state ≡ Committed) s.shares t
      i.stands.shares_up (λ there h is. absurd (cc (is))) (λ q ne there. committed q (inr there)))
      (without_share_good m around s t (record {
        fact = tt;
        asked = λ a y stands of_y. inr refl;
        ready = inr stays;
        commits =
            λ a y stands of_y. stays;
      }) i)
    where
      stays : StaysReady ((W s).share s.me t) None
      stays r = let st = committed t (inl refl) r.kept (sym (own_share m around s t) ∙ r.there) in let p = r.prepared in
          absurd (cc (st, p))

  forgets_backups : (s : NodeState) (names : List BackupName) → ((u : BackupName) → In u names → (h : BackupShare) →
      backups_at s u ≡ Some h → h.state ≡ Committed) → G s → G (record s { backups = without_each backup_cmp s.backups names })
  forgets_backups s [] committed i = record { votes = i.votes; stands = i.stands }
  forgets_backups s (t ∷ ts) committed i =
      forgets_backups (record s { backups = without backup_cmp s.backups t }) ts
      (without_elim backup_cmp backup_total exact_backups (λ q x. In q ts → (h : BackupShare) → x ≡ Some h →
      h.state ≡ Committed) s.backups t i.stands.backups_up (λ there h is. absurd (cc (is)))
      (λ q ne there. committed q (inr there)))
      (without_backup_good m around s t (record { fact = tt; ready = inr stays }) i)
    where
      stays : IsBackupReady ((W s).backup s.me t) → IsBackupReady None
      stays r = let st = committed t (inl refl) r.kept (sym (own_backup m around s t) ∙ r.there) in let p = r.prepared in
          absurd (cc (st, p))

  forget_good : (s : NodeState) (tx : TxId) → G s → G (after_forget s tx)
  forget_good s tx i =
      let own_test = λ (e : TxId × OwnShare). is_forgettable tx e.0 e.1.state in
      let backup_test = λ (e : BackupName × BackupShare). is_forgettable tx e.0.tx e.1.state in
      let s1 : NodeState = record s { shares = without_each tx_cmp s.shares (keys_where own_test s.shares) } in
      let first = forgets_own s (keys_where own_test s.shares) (λ u there h is. forgettable_committed tx u h.state
      (keys_tell tx_cmp tx_total own_test s.shares i.stands.shares_up u there h is)) i in
      let second = forgets_backups s1 (keys_where backup_test s.backups)
      (λ u there h is. forgettable_committed tx u.tx h.state
      (keys_tell backup_cmp backup_total backup_test s.backups i.stands.backups_up u there h is)) first in
      record { votes = second.votes; stands = second.stands }

  -- Prepare.

  -- the share is to be created: it is not there yet, and no other Prepare is on its way
  record MayPrepare (s : NodeState) (tx : TxId) (shares : List Share) : Type 0 where
    fact : Decided (W s) tx false ⊎ PrepareComes ((W s).decided tx.node tx) ((W s).entry tx.node tx) (share_of s tx) s.me shares
    none : (a : NodeId) (y : Message) → In y ((W s).flight a s.me) → once y ≡ Some (APrepare tx) → ⊥

  may_noting : (s : NodeState) (r : Rec) (tx : TxId) (shares : List Share) → is_aside r ≡ true → MayPrepare s tx shares →
      MayPrepare (with_note s r) tx shares
  may_noting s r tx shares aside f = record {
    fact = subst (λ ds. (ds ≡ false ∷ []) ⊎ PrepareComes ds ((W s).entry tx.node tx) (share_of s tx) s.me shares)
        (sym (noted_decided m around s r aside tx.node tx)) f.fact;
    none = f.none;
  }

  live_all : (s : NodeState) (n : NodeId) → s.left ≡ [] → is_live s n ≡ true
  live_all s n none = subst (λ ns. not (has node_cmp ns n) ≡ true) (sym none) refl

  -- each holder of a share for this primary but itself is a backup
  is_backup : (s : NodeState) (shares : List Share) (holder : NodeId) → s.left ≡ [] → In (a_share holder s.me) shares →
      same_node holder s.me ≡ false → In holder (backups_for s shares)
  is_backup s shares holder none there other =
      In-filter (λ (n : NodeId). not (same_node n s.me)) holder (live_holders s shares s.me) (ap not other)
      (In-filter (is_live s) holder (holders_for shares s.me) (live_all s holder none)
      (In-map (λ (h : Share). h.holder) (a_share holder s.me) (filter (λ (h : Share). same_node h.primary s.me) shares)
      (In-filter (λ (h : Share). same_node h.primary s.me) (a_share holder s.me) shares (same_node_itself s.me) there)))

  backup_outs_plain : (s1 s : NodeState) (tx : TxId) (top : TopVer) (shares : List Share) (writes : List Stored)
      (nodes : List NodeId) → s1.me ≡ s.me → Each (Plain m around s) (backup_prepare_outs s1 tx top shares writes nodes)
  backup_outs_plain s1 s tx top shares writes [] me = λ o there. absurd there
  backup_outs_plain s1 s tx top shares writes (node ∷ more) me = go (backup_outs_plain s1 s tx top shares writes more me)
    where
      go : Each (Plain m around s) (backup_prepare_outs s1 tx top shares writes more) →
          Each (Plain m around s) (backup_prepare_outs s1 tx top shares writes (node ∷ more))
      go rest o (inl is) = subst (Plain m around s) (sym is) (me, refl)
      go rest o (inr there) = rest o there

  draws_good : (s : NodeState) (tx : TxId) (top : TopVer) (shares : List Share) (writes : List (Key × Option (List ℕ))) →
      MayPrepare s tx shares → G s → G (after_draw s tx top shares writes)
  draws_good s tx top shares writes may i =
      let s1 : NodeState = record s { order = last_drawn s.order writes } in
      let stored = drawn_writes top s.me s.order writes in
      let i1 : G s1 = record { votes = i.votes; stands = i.stands } in
      let s2 : NodeState = with_share s1 tx h in
      sents_good m around s2 (backup_prepare_outs s1 tx top shares stored nodes)
      (backup_outs_plain s1 s2 tx top shares stored nodes refl)
      (with_share_good m around s1 tx h (by may.fact) i1)
    where
      nodes : List NodeId
      nodes = backups_for s shares

      h : OwnShare
      h = new_share top shares (drawn_writes top s.me s.order writes) nodes

      by : Decided (W s) tx false ⊎ PrepareComes ((W s).decided tx.node tx) ((W s).entry tx.node tx) (share_of s tx) s.me shares
          → ShareStep (W s) s.me tx (Some h)
      by (inl undone) = record {
        fact = inl (undone, refl);
        asked = λ a y there of_y. inl undone;
        ready = inl (false, undone);
        commits = λ a y there of_y. absurd (let f = commit_tells (W s) a s.me y tx (i.votes.facts a s.me y there) of_y in
            let done = f.1 in cc (done, undone));
      }
      by (inr comes) = record {
        fact = inr (inr (record {
          undecided = comes.undecided;
          asking = comes.asking;
          same = sym comes.same;
          asked = comes.asked;
          idle = refl;
          either = inl refl;
          backups = λ holder there other. inl (refl, is_backup s shares holder i.stands.none_left there other);
        }));
        asked = λ a y there of_y. absurd (may.none a y there of_y);
        ready = inr stays;
        commits = λ a y there of_y. stays;
      }
        where
          stays : StaysReady ((W s).share s.me tx) (Some h)
          stays r = let some = sym (own_share m around s tx) ∙ r.there in let none = comes.none in absurd (cc (some, none))

  owns_good : (s : NodeState) (tx : TxId) (top : TopVer) (ws : List Wanted) (shares : List Share) → MayPrepare s tx shares →
      G s → G (after_own_each s tx top ws) × MayPrepare (after_own_each s tx top ws) tx shares
  owns_good s tx top [] shares may i = (i, may)
  owns_good s tx top (w ∷ ws) shares may i =
      let q = with_queued s tx w.key in
      owns_good (with_note q (note.Grant tx top w.key)) tx top ws shares
      (may_noting q (note.Grant tx top w.key) tx shares refl (record { fact = may.fact; none = may.none }))
      (noting_good m around q (note.Grant tx top w.key) refl (record { votes = i.votes; stands = i.stands }))

  pub prepare_good : (s : NodeState) (from : NodeId) (tx : TxId) (top : TopVer) (x : Mode) (shares : List Share)
      (wanted : List Wanted) (writes : List (Key × Option (List ℕ)))
      → InHand (W s) s.me (record { from = from; message = msg.Prepare tx top x shares wanted writes }) → G s →
      G (after_prepare s from tx top x shares wanted writes)
  prepare_good s from tx top x shares wanted writes hand i = by_mode x
    where
      s1 : NodeState
      s1 = after_forget s tx

      i1 : G s1
      i1 = forget_good s tx i

      stays : Decided (W s) tx false ⊎ PrepareComes ((W s).decided tx.node tx) ((W s).entry tx.node tx)
          ((W s).share s.me tx) s.me shares → Decided (W s) tx false ⊎ PrepareComes ((W s).decided tx.node tx)
          ((W s).entry tx.node tx) (share_of s1 tx) s.me shares
      stays (inl undone) = inl undone
      stays (inr comes) = inr (record {
        undecided = comes.undecided;
        asking = comes.asking;
        same = comes.same;
        asked = comes.asked;
        none = none_without s.shares (keys_where (λ (e : TxId × OwnShare). is_forgettable tx e.0 e.1.state) s.shares) tx
            i.stands.shares_up (sym (own_share m around s tx) ∙ comes.none);
      })

      may : MayPrepare s1 tx shares
      may = record {
        fact = stays hand.0.1;
        none = λ a y there of_y.
            let f = prepare_tells (W s) a s.me y tx (i.votes.facts a s.me y there) of_y in
            hand.1 y (APrepare tx) (subst (λ z. In y ((W s).flight z s.me)) (sym f.0 ∙ hand.0.0) there) refl of_y;
      }

      by_check : (why : Option Fail) → G (after_check s1 from tx top shares wanted writes why)
      by_check (Some why) = plain_good m around s1 from (msg.PrepareFail tx why) tt refl i1
      by_check None = let owned = owns_good s1 tx top wanted shares may i1 in
          draws_good (after_own_each s1 tx top wanted) tx top shares writes owned.1 owned.0

      by_mode : (how : Mode) → G (after_prepare s from tx top how shares wanted writes)
      by_mode mode.Pessimistic = draws_good s1 tx top shares writes may i1
      by_mode mode.Optimistic = by_check (failed_check s1 tx wanted)

  -- A backup confirms its share.

  pub backup_prepared_good : (s : NodeState) (from : NodeId) (tx : TxId) → Fact (W s) from s.me (msg.BackupPrepared tx) →
      G s → G (after_backup_prepared s from tx)
  backup_prepared_good s from tx f i = go (share_of s tx) refl
    where
      confirmed : (h : OwnShare) → share_of s tx ≡ Some h → h.state ≡ Preparing →
          G (with_share s tx (record h { awaited = without_member node_cmp h.awaited from }))
      confirmed h there preparing = change_good m around s tx h h2 there (fits (share_there m around s tx (Some h) there i))
          (λ prepared idle. absurd (cc (prepared, preparing))) i
        where
          h2 : OwnShare
          h2 = record h { awaited = without_member node_cmp h.awaited from }

          fits : ShareFact (W s) s.me tx (Some h) → ShareFact (W s) s.me tx (Some h2)
          fits (inl undone) = inl undone
          fits (inr (inl done)) = inr (inl done)
          fits (inr (inr votes)) =
              inr (inr (record {
                undecided = votes.undecided;
                asking = votes.asking;
                same = votes.same;
                asked = votes.asked;
                idle = votes.idle;
                either = votes.either;
                backups =
                    λ holder has other. one holder (votes.backups holder has other);
              }))
            where
              ready : IsDecided ((W s).decided tx.node tx) ⊎ IsBackupReady ((W s).backup from (backup_name tx s.me)) →
                  IsBackupReady ((W s).backup from (backup_name tx s.me))
              ready (inl made) = let is = made.1 in let none = votes.undecided in absurd (cc (is, none))
              ready (inr r) = r

              still : (holder : NodeId) → h.state ≡ Preparing → In holder h2.awaited ⊎ (holder ≡ from) →
                  ((h2.state ≡ Preparing) × In holder h2.awaited) ⊎ IsBackupReady ((W s).backup holder (backup_name tx s.me))
              still holder st (inl waits) = inl (st, waits)
              still holder st (inr is) =
                  inr (subst (λ z. IsBackupReady ((W s).backup z (backup_name tx s.me))) (sym is) (ready f))

              one : (holder : NodeId) → ((h.state ≡ Preparing) × In holder h.awaited)
                  ⊎ IsBackupReady ((W s).backup holder (backup_name tx s.me)) →
                  ((h2.state ≡ Preparing) × In holder h2.awaited) ⊎ IsBackupReady ((W s).backup holder (backup_name tx s.me))
              one holder (inl waits) = still holder waits.0 (In-without from holder h.awaited waits.1)
              one holder (inr r) = inr r

      by_state : (h : OwnShare) → share_of s tx ≡ Some h → (st : ShareState) → h.state ≡ st →
          G (after_backup_prepared_in s from tx st)
      by_state h there Preparing is =
          subst (λ z. G (on_share s tx (λ (h : OwnShare). record h { awaited = without_member node_cmp h.awaited from }) z))
          (sym there) (confirmed h there is)
      by_state h there Prepared is = i
      by_state h there Committed is = i
      by_state h there Undoing is = i

      go : (x : Option OwnShare) → share_of s tx ≡ x → G (after_backup_prepared_of s from tx x)
      go None there = i
      go (Some h) there = by_state h there h.state refl

  -- Finish.

  record MayFinish (s : NodeState) (tx : TxId) (h : OwnShare) (commit : Bool) : Type 0 where
    there : share_of s tx ≡ Some h
    decided : Decided (W s) tx commit
    none : (a : NodeId) (y : Message) → In y ((W s).flight a s.me) → once y ≡ Some (ACommit tx) → ⊥

  applied_good : (s : NodeState) (tx : TxId) (top : TopVer) (primary : NodeId) (ws : List Stored) → G s →
      G (after_apply_each s tx top primary ws)
  applied_good s tx top primary [] i = i
  applied_good s tx top primary (w ∷ ws) i =
      let stored = with_stored s w in
      let r = note.Apply tx top primary w.key w.value w.ver in
      applied_good (with_note stored r) tx top primary ws
      (noting_good m around stored r refl (record { votes = i.votes; stands = i.stands }))

  applied_may : (s : NodeState) (tx : TxId) (top : TopVer) (primary : NodeId) (ws : List Stored) (h : OwnShare)
      (commit : Bool) → MayFinish s tx h commit → MayFinish (after_apply_each s tx top primary ws) tx h commit
  applied_may s tx top primary [] h commit f = f
  applied_may s tx top primary (w ∷ ws) h commit f =
      let stored = with_stored s w in
      let r = note.Apply tx top primary w.key w.value w.ver in
      applied_may (with_note stored r) tx top primary ws h commit
      (record { there = f.there; decided = noted_decided m around stored r refl tx.node tx ∙ f.decided; none = f.none })

  -- the finish begins, and the other holders and the readers are told
  begins_good : (s : NodeState) (tx : TxId) (h : OwnShare) (commit : Bool) (st : ShareState) (from : NodeId)
      (nodes : List NodeId) (near : List NearWait) (outs : List Out)
      → ((h2 : OwnShare) → h2.state ≡ st → ShareFact (W s) s.me tx (Some h2)) →
      ((s2 : NodeState) → (W s2).decided tx.node tx ≡ (W s).decided tx.node tx → Each (Plain m around s2) outs)
      → MayFinish s tx h commit → G s → G (with_outs (with_finish_begun s tx st from nodes near) outs)
  begins_good s tx h commit st from nodes near outs fits plain may i =
      let f : OwnShare → OwnShare = λ (h : OwnShare). record h {
        state = st;
        awaited = nodes;
        near = near;
        askers =
            from ∷ [];
      } in
      let h2 : OwnShare = f h in
      subst (λ z. G (with_outs (on_share s tx f z) outs)) (sym may.there)
      (sents_good m around (with_share s tx h2) outs (plain (with_share s tx h2) refl)
      (with_share_good m around s tx h2 (record {
        fact = fits h2 refl;
        asked = λ a y there of_y. inl (asked_there m around s tx h may.there i a y there of_y);
        ready = inl (commit, may.decided);
        commits = λ a y there of_y. absurd (may.none a y there of_y);
      }) i))

  near_outs_plain : (s s2 : NodeState) (tx : TxId) (ws : List Stored) → Each (Plain m around s2) (near_outs s tx ws)
  near_outs_plain s s2 tx [] = λ o there. absurd there
  near_outs_plain s s2 tx (w ∷ ws) =
      both_each m around s2 (outs_to (readers_but_me s w.key) (msg.NearUpdate tx w.key w.value w.ver)) (near_outs s tx ws)
      (to_each m around s2 (readers_but_me s w.key) (msg.NearUpdate tx w.key w.value w.ver) (λ n. tt) refl)
      (near_outs_plain s s2 tx ws)

  commits_good : (s : NodeState) (from : NodeId) (tx : TxId) (h : OwnShare) (nodes : List NodeId) → MayFinish s tx h true →
      G s → G (after_commit_share s from tx h nodes)
  commits_good s from tx h nodes may i =
      let done = after_apply_each s tx h.top s.me h.writes in
      let may2 = applied_may s tx h.top s.me h.writes h true may in
      begins_good done tx h true Committed from nodes (near_waits s h.writes) (backup_finish_outs tx s.me true nodes
      ++ near_outs s tx h.writes)
      (λ h2 is. inr (inl (may2.decided, ap is_ready_state is)))
      (λ s2 same. both_each m around s2 (backup_finish_outs tx s.me true nodes) (near_outs s tx h.writes)
      (to_each m around s2 nodes (msg.BackupFinish tx s.me true) (λ n. same ∙ may2.decided) refl)
      (near_outs_plain s s2 tx h.writes))
      may2 (applied_good s tx h.top s.me h.writes i)

  undoes_good : (s : NodeState) (from : NodeId) (tx : TxId) (h : OwnShare) (nodes : List NodeId) → MayFinish s tx h false →
      G s → G (after_undo_share s from tx nodes)
  undoes_good s from tx h nodes may i =
      begins_good s tx h false Undoing from nodes [] (backup_finish_outs tx s.me false nodes)
      (λ h2 is. inl (may.decided, ap is_share_committed is))
      (λ s2 same. to_each m around s2 nodes (msg.BackupFinish tx s.me false) (λ n. same ∙ may.decided) refl)
      may i

  told_good : (s : NodeState) (from : NodeId) (tx : TxId) → G s → G (with_out s from (msg.Finished tx))
  told_good s from tx i = plain_good m around s from (msg.Finished tx) tt refl i

  finishing_good : (s : NodeState) (from : NodeId) (tx : TxId) (commit : Bool) (h : OwnShare) (st : ShareState) →
      MayFinish s tx h commit → G s → G (after_finish_in s from tx commit h st)
  finishing_good s from tx true h Prepared may i = commits_good s from tx h (backups_for s h.shares) may i
  finishing_good s from tx false h Prepared may i = undoes_good s from tx h (backups_for s h.shares) may i
  finishing_good s from tx false h Preparing may i = undoes_good s from tx h (backups_for s h.shares) may i
  finishing_good s from tx true h Preparing may i = told_good s from tx i
  finishing_good s from tx true h Committed may i = told_good s from tx i
  finishing_good s from tx true h Undoing may i = told_good s from tx i
  finishing_good s from tx false h Committed may i = told_good s from tx i
  finishing_good s from tx false h Undoing may i = told_good s from tx i

  -- a share whose finish is in work changes, but not in its state
  in_work_good : (s : NodeState) (tx : TxId) (h h2 : OwnShare) → share_of s tx ≡ Some h → h2.state ≡ h.state →
      (h.askers ≡ [] → ⊥) → G s → G (with_share s tx h2)
  in_work_good s tx h h2 there same busy i =
      change_good m around s tx h h2 there (fits (share_there m around s tx (Some h) there i))
      (λ prepared idle. absurd (busy idle)) i
    where
      fits : ShareFact (W s) s.me tx (Some h) → ShareFact (W s) s.me tx (Some h2)
      fits (inl undone) = inl (undone.0, subst (λ z. is_share_committed z ≡ false) (sym same) undone.1)
      fits (inr (inl done)) = inr (inl (done.0, subst (λ z. is_ready_state z ≡ true) (sym same) done.1))
      fits (inr (inr votes)) = absurd (busy votes.idle)

  finish_decided : (s : NodeState) (from : NodeId) (tx : TxId) (commit : Bool) → FinishFact (W s) from s.me tx commit →
      Decided (W s) tx commit
  finish_decided s from tx true f = f.1
  finish_decided s from tx false f = f

  pub finish_good : (s : NodeState) (from : NodeId) (tx : TxId) (commit : Bool) →
      InHand (W s) s.me (record { from = from; message = msg.Finish tx commit }) → G s → G (after_finish s from tx commit)
  finish_good s from tx commit hand i = go (share_of s tx) refl
    where
      once_only : (c : Bool) → InHand (W s) s.me (record { from = from; message = msg.Finish tx c }) →
          (a : NodeId) (y : Message) → In y ((W s).flight a s.me) → once y ≡ Some (ACommit tx) → ⊥
      once_only true h a y there of_y =
          let f = commit_tells (W s) a s.me y tx (i.votes.facts a s.me y there) of_y in
          h.1 y (ACommit tx) (subst (λ z. In y ((W s).flight z s.me)) (sym f.0 ∙ h.0.0) there) refl of_y
      once_only false h a y there of_y =
          let f = commit_tells (W s) a s.me y tx (i.votes.facts a s.me y there) of_y in
          let done = f.1 in
          let undone = h.0 in
          cc (done, undone)

      by_askers : (h : OwnShare) → share_of s tx ≡ Some h → (askers : List NodeId) → h.askers ≡ askers →
          G (after_finish_at s from tx commit h askers)
      by_askers h there [] is =
          finishing_good s from tx commit h h.state (record {
            there = there;
            decided = finish_decided s from tx commit hand.0;
            none = once_only commit hand;
          }) i
      by_askers h there (x ∷ more) is =
          let f : OwnShare → OwnShare = λ (h : OwnShare). record h { askers = with_member node_cmp h.askers from } in
          subst (λ z. G (on_share s tx f z)) (sym there)
          (in_work_good s tx h (f h) there refl (λ none. absurd (cc (is, none))) i)

      go : (x : Option OwnShare) → share_of s tx ≡ x → G (after_finish_of s from tx commit x)
      go None there = told_good (after_release_all s tx) from tx (released_good s tx (keys_queued_for s.queues tx) i).0
      go (Some h) there = by_askers h there h.askers refl

  -- Answers of backups and readers.

  pub own_backup_finished_good : (s : NodeState) (from : NodeId) (tx : TxId) (primary : NodeId) → G s →
      G (after_backup_finished_at_primary s from tx primary)
  own_backup_finished_good s from tx primary i = by_own (same_node primary s.me)
    where
      by_askers : (h : OwnShare) → share_of s tx ≡ Some h → (askers : List NodeId) → h.askers ≡ askers →
          G (after_backup_finished_in s from tx askers)
      by_askers h there [] is = i
      by_askers h there (x ∷ more) is =
          let f : OwnShare → OwnShare = λ (h : OwnShare). record h { awaited = without_member node_cmp h.awaited from } in
          subst (λ z. G (on_share s tx f z)) (sym there)
          (in_work_good s tx h (f h) there refl (λ none. absurd (cc (is, none))) i)

      go : (x : Option OwnShare) → share_of s tx ≡ x → G (after_backup_finished_of s from tx x)
      go None there = i
      go (Some h) there = by_askers h there h.askers refl

      by_own : (own : Bool) → G (if own then after_backup_finished_of s from tx (share_of s tx) else s)
      by_own true = go (share_of s tx) refl
      by_own false = i

  pub near_done_good : (s : NodeState) (from : NodeId) (tx : TxId) (key : Key) → G s → G (after_near_done s from tx key)
  near_done_good s from tx key i = go (share_of s tx) refl
    where
      f : OwnShare → OwnShare
      f h = record h { near = without_member near_wait_cmp h.near (record { key = key; node = from }) }

      go : (x : Option OwnShare) → share_of s tx ≡ x → G (on_share s tx f x)
      go None there = i
      go (Some h) there = change_good m around s tx h (f h) there (same_fact m around s s.me tx h (f h) refl refl refl refl
          (share_there m around s tx (Some h) there i)) (λ prepared idle. (prepared, idle, refl)) i

  -- Backups.

  pub backup_prepare_good : (s : NodeState) (from : NodeId) (tx : TxId) (top : TopVer) (shares : List Share)
      (primary : NodeId) (writes : List Stored) → primary ≡ from → G s →
      G (after_backup_prepare s from tx top shares primary writes)
  backup_prepare_good s from tx top shares primary writes is i =
      let s1 = after_forget s tx in
      let h : BackupShare = record { top = top; shares = shares; writes = writes; state = Prepared } in
      let s2 = with_backup s1 tx primary h in
      let i2 = with_backup_good m around s1 tx primary h (record {
        fact = λ committed. absurd (cc (committed));
        ready =
            inr (λ r. record { kept = h; there = refl; prepared = refl });
      }) (forget_good s tx i) in
      plain_good m around s2 from (msg.BackupPrepared tx)
      (inr (record {
        kept = h;
        there = subst (λ z. (W s2).backup s2.me (backup_name tx z) ≡ Some h) is
            (own_backup m around s2 (backup_name tx primary) ∙ laws.at_put_same backup_cmp backup_total s1.backups
            (backup_name tx primary) h);
        prepared = refl;
      })) refl i2

  pub backup_finish_good : (s : NodeState) (from : NodeId) (tx : TxId) (primary : NodeId) (commit : Bool) →
      Decided (W s) tx commit → G s → G (after_backup_finish s from tx primary commit)
  backup_finish_good s from tx primary commit decided i =
      plain_good m around (after_backup_finish_of s tx primary commit (backup_of s tx primary)) from
      (msg.BackupFinished tx primary) tt refl (go (backup_of s tx primary))
    where
      -- what is done here leaves the decision
      applied_decided : (s : NodeState) (top : TopVer) (ws : List Stored) → Decided (W s) tx true →
          Decided (W (after_apply_each s tx top primary ws)) tx true
      applied_decided s top [] d = d
      applied_decided s top (w ∷ ws) d =
          let stored = with_stored s w in
          let r = note.Apply tx top primary w.key w.value w.ver in
          applied_decided (with_note stored r) top ws (noted_decided m around stored r refl tx.node tx ∙ d)

      done : (h : BackupShare) → Decided (W s) tx true → G (after_commit_backup s tx primary h)
      done h d =
          let applied = after_apply_each s tx h.top primary h.writes in
          let now = applied_decided s h.top h.writes d in
          with_backup_good m around applied tx primary (record h { state = Committed })
          (record { fact = λ committed. now; ready = inl (true, now) }) (applied_good s tx h.top primary h.writes i)

      by_state : (c : Bool) → Decided (W s) tx c → (h : BackupShare) (st : ShareState) →
          G (after_backup_finish_in s tx primary c h st)
      by_state true d h Prepared = done h d
      by_state true d h Preparing = i
      by_state true d h Committed = i
      by_state true d h Undoing = i
      by_state false d h st = without_backup_good m around s (backup_name tx primary)
          (record { fact = tt; ready = inl (false, d) }) i

      go : (x : Option BackupShare) → G (after_backup_finish_of s tx primary commit x)
      go None = i
      go (Some h) = by_state commit decided h h.state

  -- What goes on when no answer is awaited any more.

  is_prepared_good : (s : NodeState) (tx : TxId) (h : OwnShare) → share_of s tx ≡ Some h → h.state ≡ Preparing →
      h.awaited ≡ [] → h.askers ≡ [] → G s → G (after_share_prepared s tx)
  is_prepared_good s tx h there preparing none idle i =
      subst (λ z. G (with_out (on_share s tx (λ (h : OwnShare). record h { state = Prepared }) z) tx.node (msg.Prepared tx)))
      (sym there)
      (plain_good m around s2 tx.node (msg.Prepared tx) (told old) refl
      (change_good m around s tx h h2 there (fits old) (λ prepared idle. absurd (cc (prepared, preparing))) i))
    where
      h2 : OwnShare
      h2 = record h { state = Prepared }

      s2 : NodeState
      s2 = with_share s tx h2

      old : ShareFact (W s) s.me tx (Some h)
      old = share_there m around s tx (Some h) there i

      -- none is awaited, so each has confirmed it
      one : (holder : NodeId) → ((h.state ≡ Preparing) × In holder h.awaited)
          ⊎ IsBackupReady ((W s).backup holder (backup_name tx s.me)) →
          IsBackupReady ((W s).backup holder (backup_name tx s.me))
      one holder (inl waits) = absurd (subst (In holder) none waits.1)
      one holder (inr r) = r

      fits : ShareFact (W s) s.me tx (Some h) → ShareFact (W s) s.me tx (Some h2)
      fits (inl undone) = inl (undone.0, refl)
      fits (inr (inl done)) = inr (inl (done.0, refl))
      fits (inr (inr votes)) =
          inr (inr (record {
            undecided = votes.undecided;
            asking = votes.asking;
            same = votes.same;
            asked = votes.asked;
            idle = votes.idle;
            either = inr refl;
            backups =
                λ holder has other. inr (one holder (votes.backups holder has other));
          }))

      told : ShareFact (W s) s.me tx (Some h) → Fact (W s2) s2.me tx.node (msg.Prepared tx)
      told (inl undone) = inl (false, undone.0)
      told (inr (inl done)) = inl (true, done.0)
      told (inr (inr votes)) = inr (record {
        asking = votes.asking;
        asked = votes.asked;
        ready = record {
          own = record {
            kept = h2;
            there = own_share m around s2 tx ∙ laws.at_put_same tx_cmp tx_total s.shares tx h2;
            prepared = refl;
            idle = idle;
          };
          same = votes.same;
          backups = λ holder has other.
              one holder (votes.backups holder (subst (In (a_share holder s.me)) (sym votes.same) has) other);
        };
      })

  -- the end of a finish
  ended_good : (s : NodeState) (tx : TxId) (h : OwnShare) → share_of s tx ≡ Some h → (h.askers ≡ [] → ⊥) → (st : ShareState) →
      G s → G (after_finished_share s tx st)
  ended_good s tx h there busy st i = by st
    where
      stays : StaysReady ((W s).share s.me tx) None
      stays r =
          let some = sym (own_share m around s tx) ∙ r.there in
          let same : r.kept ≡ h = cc (some, there) in
          absurd (busy (subst (λ (z : OwnShare). z.askers ≡ []) same r.idle))

      f : OwnShare → OwnShare
      f h = record h { askers = [] }

      done : G (on_share s tx f (share_of s tx))
      done = subst (λ z. G (on_share s tx f z)) (sym there) (in_work_good s tx h (f h) there refl busy i)

      by : (st : ShareState) → G (after_finished_share s tx st)
      by Undoing = without_share_good m around s tx (record {
        fact = tt;
        asked = λ a y stands of_y. inr refl;
        ready =
            inr stays;
        commits = λ a y stands of_y. stays;
      }) i
      by Preparing = done
      by Prepared = done
      by Committed = done

  finish_over_good : (s : NodeState) (tx : TxId) (h : OwnShare) → share_of s tx ≡ Some h → (h.askers ≡ [] → ⊥) → G s →
      G (after_end_finish s tx h)
  finish_over_good s tx h there busy i =
      let left = released_good s tx (keys_queued_for s.queues tx) i in
      let s1 = after_release_all s tx in
      let after = after_finished_share s1 tx h.state in
      sents_good m around after (outs_to h.askers (msg.Finished tx)) (to_each m around after h.askers (msg.Finished tx)
      (λ n. tt) refl)
      (ended_good s1 tx h (ap (λ es. at tx_cmp es tx) left.1 ∙ there) busy h.state left.0)

  goes_on_good : (s : NodeState) (tx : TxId) (h : OwnShare) → share_of s tx ≡ Some h → (awaited : List NodeId) →
      h.awaited ≡ awaited → (near : List NearWait) (askers : List NodeId) → h.askers ≡ askers → (st : ShareState) →
      h.state ≡ st → G s → G (after_advance_share_in s tx h awaited near askers st)
  goes_on_good s tx h there [] none [] (x ∷ more) asked st is i =
      finish_over_good s tx h there (λ idle. absurd (cc (asked, idle))) i
  goes_on_good s tx h there [] none [] [] asked Preparing is i = is_prepared_good s tx h there is none asked i
  goes_on_good s tx h there [] none [] [] asked Prepared is i = i
  goes_on_good s tx h there [] none [] [] asked Committed is i = i
  goes_on_good s tx h there [] none [] [] asked Undoing is i = i
  goes_on_good s tx h there [] none (w ∷ ws) [] asked Preparing is i = is_prepared_good s tx h there is none asked i
  goes_on_good s tx h there [] none (w ∷ ws) [] asked Prepared is i = i
  goes_on_good s tx h there [] none (w ∷ ws) [] asked Committed is i = i
  goes_on_good s tx h there [] none (w ∷ ws) [] asked Undoing is i = i
  goes_on_good s tx h there [] none (w ∷ ws) (x ∷ more) asked st is i = i
  goes_on_good s tx h there (first ∷ rest) none near askers asked st is i = i

  share_on_good : (s : NodeState) (tx : TxId) (x : Option OwnShare) → share_of s tx ≡ x → G s → G (after_advance_share s tx x)
  share_on_good s tx None there i = i
  share_on_good s tx (Some h) there i = goes_on_good s tx h there h.awaited refl h.near h.askers refl h.state refl i

  pub shares_on_good : (s : NodeState) (txs : List TxId) → G s → G (after_advance_shares s txs)
  shares_on_good s [] i = i
  shares_on_good s (tx ∷ txs) i = shares_on_good (after_advance_share s tx (share_of s tx)) txs
      (share_on_good s tx (share_of s tx) refl i)
