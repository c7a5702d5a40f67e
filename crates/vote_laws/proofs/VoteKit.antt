-- The atoms of the near side keep what is true of votes.
use Rattle.std.proofs.Common.{◌≡◌, ◌≢◌, ◌⊎◌, inl, inr, List, [], ◌∷◌, ◌++◌, Bool, true, false, if◌then◌else◌, Option, Some, None, refl, ap, sym, subst, ◌∙◌, ℕ}
use Rattle.std.specs.Prelude.{map}
use Rattle.act_rows.specs.Accesses.{after_backup_finished_at_starter, after_send_prepares, prepare_outs, shares_of, wanted_at, writes_at}
use Rattle.act_rows.specs.Commands.{after_open_tx, new_entry, next_tx}
use Rattle.act_rows.specs.Decisions.{after_decide, after_decide_of, after_fail, after_left_decided, backup_finish_outs, decided_entry, decided_state, decision_outs, entry_after_left, finishes_for_lost, is_committing, outs_after_left, primaries_at, primaries_from, with_primary, without_tx}
use Rattle.act_rows.specs.Steps.{entry_of, live_among, live_holders, lost_among, near_of, on_entry, on_session_state, outs_to, primary_at, session_state_of, with_entry, with_near, with_note, with_out, with_outs, with_session_state}
use Rattle.frame_laws.proofs.Extending.{append_none, append_twice}
use Rattle.ignite_types.proofs.NameLaws.{exact_txs, tx_total}
use Rattle.ignite_types.specs.Names.{key_cmp, node_cmp, same_node, same_tx, share_cmp, tx_cmp}
use Rattle.ignite_types.specs.declared.answer.Fault.{Fault}
use Rattle.ignite_types.specs.declared.journal.Rec.TheVariants as note
use Rattle.ignite_types.specs.declared.message.Message.TheVariants as msg
use Rattle.ignite_types.specs.declared.message.Message.{Message}
use Rattle.ignite_types.specs.declared.message.Out.{Out}
use Rattle.ignite_types.specs.declared.names.NodeId.{NodeId}
use Rattle.ignite_types.specs.declared.names.TopVer.{TopVer}
use Rattle.ignite_types.specs.declared.names.TxId.{TxId}
use Rattle.ignite_types.specs.declared.placement.PartMap.{PartMap}
use Rattle.ignite_types.specs.declared.placement.Share.{Share}
use Rattle.ignite_types.specs.declared.scenario.Mode.{Mode}
use Rattle.ignite_types.specs.declared.text.Key.{Key}
use Rattle.node_state.specs.Node.{NodeState}
use Rattle.node_state.specs.declared.near.TxEntry.{TxEntry}
use Rattle.node_state.specs.declared.near.TxState.TheVariants as state
use Rattle.node_state.specs.declared.near.TxState.{TxState}
use Rattle.node_state.specs.declared.primary.OwnShare.{OwnShare}
use Rattle.node_state.specs.declared.session.SessionState.{SessionState}
use Rattle.ordered_set.specs.Members.{has, with_member, without_member}
use Rattle.ordered_table.proofs.Laws as laws
use Rattle.ordered_table.specs.Entries.{at, put, without}
use Rattle.owner_laws.proofs.Lists.{Wrote}
use Rattle.owner_laws.proofs.LockViews.{sent_written, wrote_here}
use Rattle.owner_laws.specs.LockFacts.{Each, In}
use Rattle.part_model.specs.NearEntries.{near_front}
use Rattle.transaction_laws.proofs.StarterAccesses.{acts_moved}
use Rattle.transaction_laws.proofs.StarterAtoms.{no_more}
use Rattle.transaction_laws.proofs.StarterFacts.{said_more, silent_aside}
use Rattle.transaction_laws.proofs.Tables.{put_elim, tx_tells, without_elim}
use Rattle.transaction_laws.specs.StarterFacts.{IsActing, StarterInAct, decided_as, decisions, tx_of}
use Rattle.transaction_laws.specs.StarterKits.{MayDecide, StarterKit, is_finishing}
use Rattle.transaction_laws.specs.StarterStates.{is_open, waits_for_lock}
use Rattle.vote_laws.proofs.Lists.{Rises, distinct_filter, filter-In, rises_distinct, rises_with, with_some}
use Rattle.vote_laws.proofs.VoteRows.{Good, Plain, V, both_each, noting_good, noted_decided, own_decided, own_entry, plain_good, sent_good, sents_good, to_each}
use Rattle.vote_laws.proofs.VoteSteps.{DecideStep, EntryStep, commit_tells, decide_keeps, entry_keeps, fact_link, prepare_tells}
use Rattle.vote_laws.specs.VoteFacts.{ACommit, APrepare, Asking, Decided, Distinct, EntryFact, Fact, IsDecided, IsReady, PrepareComes, ShareFact, Tag, VotesHold, is_before_vote, once}
use Rattle.vote_laws.specs.VoteViews.{VoteAround, VoteView}

finishing_decided : (st : TxState) → is_finishing st ≡ true → decided_as st ≡ is_committing st ∷ []
finishing_decided state.Committing is = refl
finishing_decided state.RollingBack is = refl
finishing_decided state.Idle is = absurd (cc (is))
finishing_decided state.Active is = absurd (cc (is))
finishing_decided state.Waiting is = absurd (cc (is))
finishing_decided state.Searching is = absurd (cc (is))
finishing_decided state.Preparing is = absurd (cc (is))
finishing_decided state.Ended is = absurd (cc (is))

pub finishing_late : (st : TxState) → is_finishing st ≡ true → is_before_vote st ≡ false
finishing_late state.Committing is = refl
finishing_late state.RollingBack is = refl
finishing_late state.Idle is = absurd (cc (is))
finishing_late state.Active is = absurd (cc (is))
finishing_late state.Waiting is = absurd (cc (is))
finishing_late state.Searching is = absurd (cc (is))
finishing_late state.Preparing is = absurd (cc (is))
finishing_late state.Ended is = absurd (cc (is))

open_undecided : (st : TxState) → is_open st ≡ true → decided_as st ≡ []
open_undecided state.Committing is = absurd (cc (is))
open_undecided state.RollingBack is = absurd (cc (is))
open_undecided state.Ended is = absurd (cc (is))
open_undecided state.Idle is = refl
open_undecided state.Active is = refl
open_undecided state.Waiting is = refl
open_undecided state.Searching is = refl
open_undecided state.Preparing is = refl

waits_before : (st : TxState) → waits_for_lock st ≡ true → is_before_vote st ≡ true
waits_before state.Waiting is = refl
waits_before state.Searching is = refl
waits_before state.Idle is = absurd (cc (is))
waits_before state.Active is = absurd (cc (is))
waits_before state.Preparing is = absurd (cc (is))
waits_before state.Committing is = absurd (cc (is))
waits_before state.RollingBack is = absurd (cc (is))
waits_before state.Ended is = absurd (cc (is))

decided_late : (commit : Bool) → is_before_vote (decided_state commit) ≡ false
decided_late true = refl
decided_late false = refl

decided_asks : (commit : Bool) → decided_state commit ≡ state.Preparing → ⊥
decided_asks true is = cc (is)
decided_asks false is = cc (is)

-- the primaries of keys rise
primaries_rise : (s : NodeState) (nodes : List NodeId) (keys : List Key) → Rises nodes → Rises (primaries_from s nodes keys)
primaries_rise s nodes [] r = r
primaries_rise s nodes (key ∷ keys) r = primaries_rise s (with_primary nodes (primary_at s key)) keys (by (primary_at s key))
  where
    by : (o : Option NodeId) → Rises (with_primary nodes o)
    by None = r
    by (Some n) = rises_with nodes n r

abbrev prepare_to : NodeState → TxId → TopVer → TxEntry → List Share → NodeId → Message
prepare_to s tx top e shares n = msg.Prepare tx top e.mode shares (wanted_at s e n e.keys) (writes_at s n e.writes)

abbrev outs_of : (NodeId → Message) → List NodeId → List Out
outs_of f nodes = map (λ (n : NodeId). record { to = n; msg = f n }) nodes

prepare_map : (s : NodeState) (tx : TxId) (top : TopVer) (e : TxEntry) (shares : List Share) (nodes : List NodeId) →
    prepare_outs s tx top e shares nodes ≡ outs_of (prepare_to s tx top e shares) nodes
prepare_map s tx top e shares [] = refl
prepare_map s tx top e shares (n ∷ ns) = ap (λ outs. record { to = n; msg = prepare_to s tx top e shares n } ∷ outs)
    (prepare_map s tx top e shares ns)

module _ (m : PartMap) (around : VoteAround) where
  abbrev G : NodeState → Type 0
  G = Good m around

  abbrev W : NodeState → VoteView
  W = V m around

  abbrev pub Keeps : NodeState → NodeState → Type 0
  Keeps s s2 = Good m around s → Good m around s2

  abbrev Near : NodeState → Type 0
  Near s = StarterInAct around.mine s

  -- Messages that come once.

  once_sends : (s : NodeState) (f : NodeId → Message) (g : Tag) (nodes : List NodeId) → Distinct nodes →
      ((n : NodeId) → once (f n) ≡ Some g) → ((n : NodeId) → In n nodes → Fact (W s) s.me n (f n))
      → ((n : NodeId) (y : Message) → In n nodes → In y ((W s).flight s.me n) → once y ≡ Some g → ⊥) → G s →
      G (with_outs s (outs_of f nodes))
  once_sends s f g [] d tagged facts fresh i = subst (λ os. G (record s { outbox = os })) (sym (append_none s.outbox)) i
  once_sends s f g (n ∷ ns) d tagged facts fresh i =
      subst (λ os. G (record s { outbox = os })) (append_twice s.outbox (record { to = n; msg = f n } ∷ []) (outs_of f ns))
      (once_sends s1 f g ns d.1 tagged (λ x there. fact_link (W s) (W s1).flight s.me x (f x) (facts x (inr there)))
      (λ x y there stands of_y. still x y there of_y (written s.me x) stands)
      (sent_good m around s n (f n) (facts n (inl refl)) (λ y h stands of_x of_y. let is = tagged n in let same : h ≡ g =
      cc (is, of_x) in fresh n y (inl refl) stands (of_y ∙ ap Some same)) i))
    where
      s1 : NodeState
      s1 = with_out s n (f n)

      written : Wrote (W s).flight (W s1).flight s.me n ((W s).flight s.me n ++ f n ∷ [])
      written = sent_written (record { others = around.others; link = around.link }) s n (f n)

      still : (x : NodeId) (y : Message) → In x ns → once y ≡ Some g →
          ((s.me ≡ s.me) × (x ≡ n) × ((W s1).flight s.me x ≡ (W s).flight s.me n ++ f n ∷ []))
          ⊎ ((W s1).flight s.me x ≡ (W s).flight s.me x) → In y ((W s1).flight s.me x) → ⊥
      still x y there of_y (inl is) stands = d.0 (subst (λ z. In z ns) is.1 there)
      still x y there of_y (inr same) stands = fresh x y (inr there) (subst (In y) same stands) of_y

  -- An entry changes.

  starter : (s : NodeState) (tx : TxId) (e : TxEntry) → entry_of s tx ≡ Some e → Near s → tx.node ≡ s.me
  starter s tx e there n = (no_more around.mine s n tx e there).starter

  put_one : (s : NodeState) (tx : TxId) (e : TxEntry) (b : TxId) → ((b ≡ tx) × (at tx_cmp (put tx_cmp s.txs tx e) b ≡ Some e))
      ⊎ (at tx_cmp (put tx_cmp s.txs tx e) b ≡ at tx_cmp s.txs b)
  put_one s tx e b = put_elim tx_cmp tx_total exact_txs (λ b x. ((b ≡ tx) × (x ≡ Some e)) ⊎ (x ≡ at tx_cmp s.txs b)) s.txs tx
      e (inl (refl, refl)) (λ b ne. inr refl) b

  entry_written : (s : NodeState) (tx : TxId) (e : TxEntry) → tx.node ≡ s.me →
      Wrote (W s).entry (W (with_entry s tx e)).entry tx.node tx (Some e)
  entry_written s tx e own = subst (λ n. Wrote (W s).entry (W (with_entry s tx e)).entry n tx (Some e)) (sym own)
      (wrote_here s.me (entry_of s) (entry_of (with_entry s tx e)) (λ n. entry_of (around.others n)) tx (Some e)
      (put_one s tx e))

  pub entry_good : (s : NodeState) (tx : TxId) (e : TxEntry) → tx.node ≡ s.me → EntryStep (W s) tx (Some e) → G s →
      G (with_entry s tx e)
  entry_good s tx e own step i =
      record {
        votes = entry_keeps (W s) (W (with_entry s tx e)).entry tx (Some e) (entry_written s tx e own) step i.votes;
        stands = i.stands;
      }

  pub entry_fact : (s : NodeState) (tx : TxId) (e : TxEntry) → tx.node ≡ s.me → entry_of s tx ≡ Some e → G s →
      EntryFact (W s) tx e
  entry_fact s tx e own there i = i.votes.entries tx e (own_entry m around s tx own ∙ there)

  -- who asks for votes is this entry
  pub asking_is : (s : NodeState) (tx : TxId) (e : TxEntry) → tx.node ≡ s.me → entry_of s tx ≡ Some e →
      (a : Asking ((W s).entry tx.node tx)) → a.entry ≡ e
  asking_is s tx e own there a = let old = own_entry m around s tx own ∙ there in let is = a.there in cc (old, is)

  not_asking : (s : NodeState) (tx : TxId) (e : TxEntry) → tx.node ≡ s.me → entry_of s tx ≡ Some e →
      (e.state ≡ state.Preparing → ⊥) → Asking ((W s).entry tx.node tx) → ⊥
  not_asking s tx e own there calm a =
      calm (subst (λ (z : TxEntry). z.state ≡ state.Preparing) (asking_is s tx e own there a) a.preparing)

  -- neither asked for votes before nor does so now
  pub calm_good : (s : NodeState) (tx : TxId) (e e2 : TxEntry) → tx.node ≡ s.me → entry_of s tx ≡ Some e →
      (e.state ≡ state.Preparing → ⊥) → (e2.state ≡ state.Preparing → ⊥) → (is_before_vote e2.state ≡ true → e2.keys ≡ [] →
      e2.asked ≡ []) → G s → G (with_entry s tx e2)
  calm_good s tx e e2 own there calm calm2 asks i =
      entry_good s tx e2 own (record {
        asking = λ a. absurd (not_asking s tx e own there calm a);
        fact = λ x is. let same : e2 ≡ x = cc (is) in
            subst (EntryFact (W s) tx) same (record {
              asks = asks;
              distinct = λ p. absurd (calm2 p);
              counted =
                  λ p. absurd (calm2 p);
            });
      }) i

  -- what votes speak of is the same
  pub same_good : (s : NodeState) (tx : TxId) (e e2 : TxEntry) → tx.node ≡ s.me → entry_of s tx ≡ Some e →
      e2.state ≡ e.state → e2.keys ≡ e.keys → e2.asked ≡ e.asked → e2.awaited ≡ e.awaited → e2.shares ≡ e.shares → G s →
      G (with_entry s tx e2)
  same_good s tx e e2 own there st keys asked awaited shares i =
      entry_good s tx e2 own (record {
        asking = λ a.
            let same = asking_is s tx e own there a in (
              record {
                entry = e2;
                there = refl;
                preparing =
                    st ∙ subst (λ (z : TxEntry). z.state ≡ state.Preparing) same a.preparing;
              },
              shares ∙ sym (ap (λ (z : TxEntry). z.shares) same),
              asked ∙ sym (ap (λ (z : TxEntry). z.asked) same),
            );
        fact = λ x is. let same : e2 ≡ x = cc (is) in subst (EntryFact (W s) tx) same now;
      }) i
    where
      f : EntryFact (W s) tx e
      f = entry_fact s tx e own there i

      one : (x : NodeId) → IsDecided ((W s).decided tx.node tx) ⊎ In x e.awaited
          ⊎ IsReady ((W s).share x tx) (W s).backup tx x e.shares → IsDecided ((W s).decided tx.node tx) ⊎ In x e2.awaited
          ⊎ IsReady ((W s).share x tx) (W s).backup tx x e2.shares
      one x (inl made) = inl made
      one x (inr (inl waits)) = inr (inl (subst (In x) (sym awaited) waits))
      one x (inr (inr ready)) = inr (inr (subst (λ z. IsReady ((W s).share x tx) (W s).backup tx x z) (sym shares) ready))

      now : EntryFact (W s) tx e2
      now = record {
        asks = λ before none. asked ∙ f.asks (subst (λ z. is_before_vote z ≡ true) st before) (sym keys ∙ none);
        distinct = λ p. subst Distinct (sym asked) (f.distinct (sym st ∙ p));
        counted = λ p x there. one x (f.counted (sym st ∙ p) x (subst (In x) asked there));
      }

  active_calm : (st : TxState) → st ≡ state.Active → st ≡ state.Preparing → ⊥
  active_calm st active preparing = cc (active, preparing)

  -- what an active transaction does: it keeps its keys and those it has asked, or it has a key now
  pub active_good : (s : NodeState) (tx : TxId) (top : TopVer) (a : IsActing s tx top) (e2 : TxEntry) → Near s →
      e2.state ≡ a.entry.state → e2.keys ≡ a.entry.keys → e2.asked ≡ a.entry.asked → G s → G (with_entry s tx e2)
  active_good s tx top a e2 n st keys asked i =
      let own = starter s tx a.entry a.there n in
      let f = entry_fact s tx a.entry own a.there i in
      calm_good s tx a.entry e2 own a.there (active_calm a.entry.state a.active) (active_calm e2.state (st ∙ a.active))
      (λ before none. asked ∙ f.asks (ap is_before_vote a.active) (sym keys ∙ none)) i

  keyed_good : (s : NodeState) (tx : TxId) (top : TopVer) (a : IsActing s tx top) (e2 : TxEntry) (key : Key) → Near s →
      (e2.state ≡ state.Preparing → ⊥) → e2.keys ≡ with_member key_cmp a.entry.keys key → G s → G (with_entry s tx e2)
  keyed_good s tx top a e2 key n calm keys i =
      let own = starter s tx a.entry a.there n in
      calm_good s tx a.entry e2 own a.there (active_calm a.entry.state a.active) calm
      (λ before none. absurd (with_some key_cmp a.entry.keys key (sym keys ∙ none))) i

  -- A transaction is opened, started and closed.

  opened_good : (s : NodeState) (session : ℕ) (d : SessionState) (x : Mode) (deadline : Option ℕ) (block : Bool) → Near s →
      session_state_of s session ≡ Some d → d.tx ≡ None →
      Keeps s (after_open_tx s (next_tx s session d.started) x deadline block)
  opened_good s session d x deadline block n here none i =
      subst (λ z. G (on_session_state known session f z)) (sym here) (record { votes = first.votes; stands = first.stands })
    where
      tx : TxId
      tx = next_tx s session d.started

      e : TxEntry
      e = new_entry x deadline

      known : NodeState
      known = with_entry s tx e

      f : SessionState → SessionState
      f y = record y { tx = Some tx; block = block; skipping = false; started = tx.number }

      -- the session has no transaction
      unopened : (a : Asking ((W s).entry tx.node tx)) → ⊥
      unopened a =
          let there = sym (own_entry m around s tx refl) ∙ a.there in
          let was = no_more around.mine s n tx a.entry there in
          let at_home : tx_of (session_state_of s session) ≡ Some tx = was.at_home in
          let has : d.tx ≡ Some tx = ap tx_of (sym here) ∙ at_home in
          cc (has, none)

      first : G known
      first = entry_good s tx e refl (record {
        asking = λ a. absurd (unopened a);
        fact = λ y is. let same : e ≡ y = cc (is) in
            subst (EntryFact (W s) tx) same (record {
              asks = λ before keyless. refl;
              distinct = λ p. absurd (cc (p));
              counted = λ p. absurd (cc (p));
            });
      }) i

  started_noting : (s : NodeState) (tx : TxId) (top : TopVer) → Keeps s (with_note s (note.Start tx top))
  started_noting s tx top i =
      record {
        votes = subst (λ d. VotesHold (record (W s) { decided = d })) (λ k. λ n u. sym (same n u) k) i.votes;
        stands =
            i.stands;
      }
    where
      same : (n : NodeId) (u : TxId) → (W (with_note s (note.Start tx top))).decided n u ≡ (W s).decided n u
      same n u =
          elim (same_node n s.me) as (λ c.
          decisions u (if c then around.mine ++ (s.noted ++ note.Start tx top ∷ []) else around.recs n) ≡ decisions u
          (if c then around.mine ++ s.noted else around.recs n)) [
            | true ↦ (said_more u around.mine s.noted (note.Start tx top)).0
                ∙ append_none (decisions u (around.mine ++ s.noted))
            | false ↦ refl
          ]

  started_good : (s : NodeState) (tx : TxId) (e : TxEntry) → Near s → entry_of s tx ≡ Some e → e.state ≡ state.Idle →
      Keeps s (with_note (with_entry s tx (record e { top = Some s.seen; state = state.Active })) (note.Start tx s.seen))
  started_good s tx e n there idle i =
      let own = starter s tx e there n in
      let f = entry_fact s tx e own there i in
      let e2 : TxEntry = record e { top = Some s.seen; state = state.Active } in
      started_noting (with_entry s tx e2) tx s.seen
      (calm_good s tx e e2 own there (λ p. cc (p, idle)) (λ p. cc (p)) (λ before none. f.asks (ap is_before_vote idle) none) i)

  without_written : (s : NodeState) (tx : TxId) → tx.node ≡ s.me → Near s →
      Wrote (W s).entry (W (without_tx s tx)).entry tx.node tx None
  without_written s tx own n = subst (λ z. Wrote (W s).entry (W (without_tx s tx)).entry z tx None) (sym own)
      (wrote_here s.me (entry_of s) (entry_of (without_tx s tx)) (λ z. entry_of (around.others z)) tx None
      (λ b. without_elim tx_cmp tx_total exact_txs (λ b x. ((b ≡ tx) × (x ≡ None)) ⊎ (x ≡ at tx_cmp s.txs b)) s.txs tx n.up
      (inl (refl, refl)) (λ b ne. inr refl) b))

  closed_good : (s : NodeState) (tx : TxId) (e : TxEntry) (d2 : SessionState) → Near s → entry_of s tx ≡ Some e →
      is_open e.state ≡ false → Keeps s (with_session_state (record s { txs = without tx_cmp s.txs tx }) tx.session d2)
  closed_good s tx e d2 n there over i = record {
    votes = entry_keeps (W s) (W (without_tx s tx)).entry tx None (without_written s tx own n) (record {
      asking = λ a. absurd (not_asking s tx e own there (λ p. let opened = ap is_open p in cc (over, opened)) a);
      fact = λ x is. absurd (cc (is));
    }) i.votes;
    stands = i.stands;
  }
    where
      own : tx.node ≡ s.me
      own = starter s tx e there n

  -- Prepare.

  undecided : (s : NodeState) (tx : TxId) (e : TxEntry) → Near s → entry_of s tx ≡ Some e → is_open e.state ≡ true →
      (W s).decided tx.node tx ≡ []
  undecided s tx e n there opened =
      let was = no_more around.mine s n tx e there in
      own_decided m around s tx was.starter ∙ was.decided ∙ open_undecided e.state opened

  prepared_good : (s : NodeState) (tx : TxId) (top : TopVer) (a : IsActing s tx top) (key : Key) (keys : List Key) → Near s →
      Keeps s (after_send_prepares s tx top a.entry (primaries_at s (key ∷ keys)) (shares_of s.installed (key ∷ keys)))
  prepared_good s tx top a key keys n i =
      subst (λ z. G (with_outs (on_entry s tx f z) (prepare_outs s tx top a.entry shares nodes))) (sym a.there)
      (subst (λ outs. G (with_outs s2 outs)) (sym (prepare_map s tx top a.entry shares nodes))
      (once_sends s2 (prepare_to s tx top a.entry shares) (APrepare tx) nodes distinct (λ x. refl)
      (λ x there. (
        own,
        inr (record {
          undecided = none;
          asking = record { entry = e2; there = now; preparing = refl };
          same =
              refl;
          asked = there;
          none = no_share x;
        }),
      ))
      (λ x y there stands of_y. fresh s.me x y stands of_y)
      (entry_good s tx e2 own (record {
        asking = λ b. absurd (not_asking s tx a.entry own a.there (active_calm a.entry.state a.active) b);
        fact = λ y is. let same : e2 ≡ y = cc (is) in
            subst (EntryFact (W s) tx) same (record {
              asks = λ before. absurd (cc (before));
              distinct = λ p. distinct;
              counted = λ p x there. inr (inl there);
            });
      }) i)))
    where
      nodes : List NodeId
      nodes = primaries_at s (key ∷ keys)

      shares : List Share
      shares = shares_of s.installed (key ∷ keys)

      f : TxEntry → TxEntry
      f e = record e { state = state.Preparing; asked = nodes; awaited = nodes; shares = shares }

      e2 : TxEntry
      e2 = f a.entry

      s2 : NodeState
      s2 = with_entry s tx e2

      own : tx.node ≡ s.me
      own = starter s tx a.entry a.there n

      none : (W s).decided tx.node tx ≡ []
      none = undecided s tx a.entry n a.there (ap is_open a.active)

      now : (W s2).entry tx.node tx ≡ Some e2
      now = own_entry m around s2 tx own ∙ laws.at_put_same tx_cmp tx_total s.txs tx e2

      distinct : Distinct nodes
      distinct = rises_distinct nodes (primaries_rise s [] (key ∷ keys) tt)

      calm : Asking ((W s).entry tx.node tx) → ⊥
      calm = not_asking s tx a.entry own a.there (active_calm a.entry.state a.active)

      -- no primary has a share of it
      no_share : (x : NodeId) → (W s).share x tx ≡ None
      no_share x = go ((W s).share x tx) (i.votes.shares x tx)
        where
          go : (h : Option OwnShare) → ShareFact (W s) x tx h → h ≡ None
          go None fact = refl
          go (Some h) (inl undone) = absurd (let is = undone.0 in cc (is, none))
          go (Some h) (inr (inl done)) = absurd (let is = done.0 in cc (is, none))
          go (Some h) (inr (inr votes)) = absurd (calm votes.asking)

      fresh : (b x : NodeId) (y : Message) → In y ((W s).flight b x) → once y ≡ Some (APrepare tx) → ⊥
      fresh b x y stands of_y = go (prepare_tells (W s) b x y tx (i.votes.facts b x y stands) of_y).1
        where
          go : Decided (W s) tx false
              ⊎ ((others : List Share) × PrepareComes ((W s).decided tx.node tx) ((W s).entry tx.node tx)
              ((W s).share x tx) x others) → ⊥
          go (inl undone) = cc (undone, none)
          go (inr comes) = calm comes.1.asking

  -- Decisions.

  module _ (s : NodeState) (tx : TxId) (e : TxEntry) (commit : Bool) (own : tx.node ≡ s.me) (there : entry_of s tx ≡ Some e)
      (none : (W s).decided tx.node tx ≡ [])
      (voted : commit ≡ true → (x : NodeId) → In x e.asked → IsReady ((W s).share x tx) (W s).backup tx x e.shares)
      (distinct : commit ≡ true → Distinct e.asked) (i : Good m around s) where
    abbrev e2 : TxEntry
    e2 = decided_entry s commit e

    abbrev s3 : NodeState
    s3 = with_note (with_entry s tx e2) (note.Decide tx commit)

    same_itself : (u : TxId) → same_tx u u ≡ true
    same_itself u = go (tx_tells u u)
      where
        go : ((same_tx u u ≡ true) × (u ≡ u)) ⊎ ((same_tx u u ≡ false) × (u ≢ u)) → same_tx u u ≡ true
        go (inl is) = is.0
        go (inr is) = absurd (is.1 refl)

    made : (W s3).decided tx.node tx ≡ commit ∷ []
    made =
        own_decided m around s3 tx own ∙ (said_more tx around.mine s.noted (note.Decide tx commit)).0
        ∙ ap (λ ds. ds ++ (if same_tx tx tx then commit ∷ [] else [])) (sym (own_decided m around s tx own) ∙ none)
        ∙ ap (λ (c : Bool). if c then commit ∷ [] else []) (same_itself tx)

    other_said : (n : NodeId) (u : TxId) → u ≢ tx → (W s3).decided n u ≡ (W s).decided n u
    other_said n u ne =
        elim (same_node n s.me) as (λ c.
        decisions u (if c then around.mine ++ (s.noted ++ note.Decide tx commit ∷ []) else around.recs n) ≡ decisions u
        (if c then around.mine ++ s.noted else around.recs n)) [
          | true ↦ (said_more u around.mine s.noted (note.Decide tx commit)).0
              ∙ ap (λ (c : Bool). decisions u (around.mine ++ s.noted) ++ (if c then commit ∷ [] else []))
              (other (tx_tells tx u)) ∙ append_none (decisions u (around.mine ++ s.noted))
          | false ↦ refl
        ]
      where
        other : ((same_tx tx u ≡ true) × (tx ≡ u)) ⊎ ((same_tx tx u ≡ false) × (tx ≢ u)) → same_tx tx u ≡ false
        other (inl is) = absurd (ne (sym is.1))
        other (inr is) = is.0

    other_entry : (n : NodeId) (u : TxId) → u ≢ tx → (W s3).entry n u ≡ (W s).entry n u
    other_entry n u ne = go (entry_written s tx e2 own n u)
      where
        go : ((n ≡ tx.node) × (u ≡ tx) × ((W (with_entry s tx e2)).entry n u ≡ Some e2))
            ⊎ ((W (with_entry s tx e2)).entry n u ≡ (W s).entry n u) → (W s3).entry n u ≡ (W s).entry n u
        go (inl is) = absurd (ne is.1)
        go (inr is) = is

    step : DecideStep (W s) (record (W s) { entry = (W s3).entry; decided = (W s3).decided }) tx commit e e2
    step = record {
      was = own_entry m around s tx own ∙ there;
      undecided = none;
      made = made;
      now = own_entry m around s3 tx own ∙ laws.at_put_same tx_cmp tx_total s.txs tx e2;
      before = decided_late commit;
      asks_no_more = decided_asks commit;
      others = λ u ne. (other_said u.node u ne, other_entry u.node u ne);
      voted = λ is preparing x asked. voted is x asked;
    }

    decided_state_good : Good m around s3
    decided_state_good = record {
      votes = decide_keeps (W s) (W s3).entry (W s3).decided tx commit e e2 step i.votes;
      stands =
          i.stands;
    }

    lost_each : (b : NodeState) → Decided (W b) tx commit → (nodes : List NodeId) →
        Each (Plain m around b) (finishes_for_lost s tx commit e.shares nodes)
    lost_each b d [] = λ o there. absurd there
    lost_each b d (node ∷ more) = both_each m around b (backup_finish_outs tx node commit (live_holders s e.shares node))
        (finishes_for_lost s tx commit e.shares more)
        (to_each m around b (live_holders s e.shares node) (msg.BackupFinish tx node commit) (λ n. d) refl) (lost_each b d more)

    finishes_good : (c : Bool) → commit ≡ c →
        Good m around (with_outs s3 (outs_to (live_among s e.asked) (msg.Finish tx commit)))
    finishes_good true is =
        subst (λ (c : Bool). Good m around (with_outs s3 (outs_to (live_among s e.asked) (msg.Finish tx c)))) (sym is)
        (once_sends s3 (λ n. msg.Finish tx true) (ACommit tx) (live_among s e.asked) (distinct_filter _ e.asked (distinct is))
        (λ n. refl)
        (λ n there. (own, made ∙ ap (λ (c : Bool). c ∷ []) is, (voted is n (filter-In _ n e.asked there)).own))
        (λ n y there stands of_y. let f = commit_tells (W s) s.me n y tx (i.votes.facts s.me n y stands) of_y in let done =
        f.1 in cc (done, none)) decided_state_good)
    finishes_good false is =
        subst (λ (c : Bool). Good m around (with_outs s3 (outs_to (live_among s e.asked) (msg.Finish tx c)))) (sym is)
        (sents_good m around s3 (outs_to (live_among s e.asked) (msg.Finish tx false))
        (to_each m around s3 (live_among s e.asked) (msg.Finish tx false) (λ n. made ∙ ap (λ (c : Bool). c ∷ []) is) refl)
        decided_state_good)

    decision_good : Good m around (after_decide_of s tx commit (Some e))
    decision_good =
        let finishes = outs_to (live_among s e.asked) (msg.Finish tx commit) in
        let lost = finishes_for_lost s tx commit e.shares (lost_among s e.asked) in
        let told = with_outs s3 finishes in
        subst (λ z. Good m around (with_outs (with_note (on_entry s tx (decided_entry s commit) z) (note.Decide tx commit))
        (decision_outs s tx commit e))) (sym there)
        (subst (λ os. Good m around (record s3 { outbox = os })) (append_twice s.outbox finishes lost)
        (sents_good m around told lost (lost_each told made (lost_among s e.asked)) (finishes_good commit refl)))

  -- to commit all have voted, or nobody was asked
  decided_good : (s : NodeState) (tx : TxId) (e : TxEntry) (commit : Bool) → Near s → entry_of s tx ≡ Some e →
      is_open e.state ≡ true → MayDecide commit e → Keeps s (after_decide_of s tx commit (Some e))
  decided_good s tx e commit n there opened may i = decision_good s tx e commit own there none (by_votes commit may)
      (by_distinct commit may) i
    where
      own : tx.node ≡ s.me
      own = starter s tx e there n

      none : (W s).decided tx.node tx ≡ []
      none = undecided s tx e n there opened

      f : EntryFact (W s) tx e
      f = entry_fact s tx e own there i

      by_votes : (c : Bool) → MayDecide c e → c ≡ true → (x : NodeId) → In x e.asked →
          IsReady ((W s).share x tx) (W s).backup tx x e.shares
      by_votes false may is = absurd (cc (is))
      by_votes true (inl idle) is = λ x asked. absurd (subst (In x) (f.asks (ap is_before_vote idle.0) idle.1) asked)
      by_votes true (inr voting) is = λ x asked. go x (f.counted voting.0 x asked)
        where
          go : (x : NodeId) → IsDecided ((W s).decided tx.node tx) ⊎ In x e.awaited
              ⊎ IsReady ((W s).share x tx) (W s).backup tx x e.shares → IsReady ((W s).share x tx) (W s).backup tx x e.shares
          go x (inl over) = absurd (let is = over.1 in cc (is, none))
          go x (inr (inl waits)) = absurd (subst (In x) voting.1 waits)
          go x (inr (inr ready)) = ready

      by_distinct : (c : Bool) → MayDecide c e → c ≡ true → Distinct e.asked
      by_distinct false may is = absurd (cc (is))
      by_distinct true (inl idle) is = subst Distinct (sym (f.asks (ap is_before_vote idle.0) idle.1)) tt
      by_distinct true (inr voting) is = f.distinct voting.0

  failed_good : (s : NodeState) (tx : TxId) (e : TxEntry) (f : Fault) → Near s → entry_of s tx ≡ Some e →
      is_open e.state ≡ true → Keeps s (after_fail s tx f)
  failed_good s tx e f n there opened i =
      subst (λ z. G (after_decide (with_note (on_entry s tx g z) (note.Fault tx f)) tx false)) (sym there)
      (subst (λ z. G (after_decide_of s2 tx false z)) (sym now)
      (decision_good s2 tx e2 false own now (noted_decided m around (with_entry s tx e2) (note.Fault tx f) refl tx.node tx
      ∙ undecided s tx e n there opened)
      (λ is. absurd (cc (is))) (λ is. absurd (cc (is)))
      (noting_good m around (with_entry s tx e2) (note.Fault tx f) refl
      (same_good s tx e e2 own there refl refl refl refl refl i))))
    where
      g : TxEntry → TxEntry
      g e = record e { fault = Some f }

      e2 : TxEntry
      e2 = g e

      s2 : NodeState
      s2 = with_note (with_entry s tx e2) (note.Fault tx f)

      own : tx.node ≡ s.me
      own = starter s tx e there n

      now : entry_of s2 tx ≡ Some e2
      now = laws.at_put_same tx_cmp tx_total s.txs tx e2

  -- a decided transaction awaits a lost node no more
  left_good : (s : NodeState) (tx : TxId) (e : TxEntry) (node : NodeId) → Near s → entry_of s tx ≡ Some e →
      is_finishing e.state ≡ true → Keeps s (after_left_decided s tx node e)
  left_good s tx e node n there over i =
      subst (λ (z : Option TxEntry). G (with_outs (on_entry s tx (entry_after_left s node) z) (outs_after_left s tx node e)))
      (sym there)
      (sents_good m around s2 (outs_after_left s tx node e) (by (has node_cmp e.awaited node))
      (calm_good s tx e e2 own there calm calm (λ before. absurd (let late = finishing_late e.state over in
      cc (late, before))) i))
    where
      own : tx.node ≡ s.me
      own = starter s tx e there n

      e2 : TxEntry
      e2 = entry_after_left s node e

      s2 : NodeState
      s2 = with_entry s tx e2

      calm : e.state ≡ state.Preparing → ⊥
      calm p = let f = ap is_finishing p in cc (f, over)

      decided : Decided (W s) tx (is_committing e.state)
      decided = own_decided m around s tx own ∙ (no_more around.mine s n tx e there).decided ∙ finishing_decided e.state over

      by : (c : Bool) → Each (Plain m around s2) (if c then backup_finish_outs tx node (is_committing e.state)
          (live_holders s e.shares node) else [])
      by true = to_each m around s2 (live_holders s e.shares node) (msg.BackupFinish tx node (is_committing e.state))
          (λ x. decided) refl
      by false = λ x stands. absurd stands

  backed_good : (s : NodeState) (from : NodeId) (tx : TxId) (primary : NodeId) (e : TxEntry) → Near s →
      entry_of s tx ≡ Some e → Keeps s (after_backup_finished_at_starter s from tx primary)
  backed_good s from tx primary e n there i =
      let f : TxEntry → TxEntry =
      λ (x : TxEntry). record x {
        backups =
            without_member share_cmp x.backups (record { holder = from; primary = primary });
      } in
      subst (λ (z : Option TxEntry). G (on_entry s tx f z)) (sym there)
      (same_good s tx e (f e) (starter s tx e there n) there refl refl refl refl refl i)

  searched_good : (s : NodeState) (tx : TxId) (e : TxEntry) (search : _) → Near s → entry_of s tx ≡ Some e →
      waits_for_lock e.state ≡ true → Keeps s (Rattle.act_rows.specs.Searches.with_search s tx search)
  searched_good s tx e search n there waits i =
      let f : TxEntry → TxEntry = λ (x : TxEntry). record x { state = state.Searching; search = Some search } in
      let own = starter s tx e there n in
      let fact = entry_fact s tx e own there i in
      subst (λ (z : Option TxEntry). G (on_entry s tx f z)) (sym there)
      (calm_good s tx e (f e) own there (λ p. let w = ap waits_for_lock p in cc (w, waits)) (λ p. cc (p))
      (λ before none. fact.asks (waits_before e.state waits) none) i)

  pub vote_kit : (most : ℕ) → StarterKit around.mine most Keeps
  vote_kit most = record {
    nothing = λ s i. i;
    andthen = λ a b c first second i. second (first i);
    noted = λ s r n silent i. noting_good m around s r (silent_aside r silent) i;
    near_cache = λ s key near i. record { votes = i.votes; stands = i.stands };
    session_state = λ s session d d2 n here same count quiet i. record { votes = i.votes; stands = i.stands };
    opened = λ s session d x deadline block n here none room. opened_good s session d x deadline block n here none;
    started = λ s tx e n there idle free. started_good s tx e n there idle;
    wrote = λ s tx top a key new n known i.
        let f : TxEntry → TxEntry = λ (e : TxEntry). record e { writes = put key_cmp e.writes key new } in
        subst (λ z. G (on_entry s tx f z)) (sym a.there) (active_good s tx top a (f a.entry) n refl refl refl i);
    outcome = λ s tx top a x n i.
        let f : TxEntry → TxEntry = λ (e : TxEntry). record e { outcome = Some x } in
        subst (λ z. G (on_entry s tx f z)) (sym a.there) (active_good s tx top a (f a.entry) n refl refl refl i);
    touched = λ s tx top a key n free i.
        let f : TxEntry → TxEntry = λ (e : TxEntry). record e { keys = with_member key_cmp e.keys key } in
        subst (λ z. G (on_entry s tx f z)) (sym a.there)
        (keyed_good s tx top a (f a.entry) key n (active_calm a.entry.state a.active) refl i);
    hit = λ s tx top a key x n free i.
        let s1 : NodeState = with_near s key (near_front (near_of s key) x) in
        let b : IsActing s1 tx top = acts_moved s s1 tx top refl refl a in
        let f : TxEntry → TxEntry =
        λ (e : TxEntry). record e { reads = put key_cmp e.reads key (record { found = Some x.value; ver = x.ver }) } in
        let n1 : Near s1 = record { up = n.up; entries = n.entries; sessions = n.sessions; fresh = n.fresh } in
        subst (λ z. G (on_entry s1 tx f z)) (sym a.there) (active_good s1 tx top b (f a.entry) n1 refl refl refl
        (record { votes = i.votes; stands = i.stands }));
    asked_value = λ s tx top a key primary near n free first i.
        let f : TxEntry → TxEntry = λ (e : TxEntry). record e {
          keys = with_member key_cmp e.keys key;
          getting =
              Some (record { key = key; near = near });
        } in
        subst (λ z. G (with_out (on_entry s tx f z) primary (msg.Get tx key near))) (sym a.there)
        (plain_good m around (with_entry s tx (f a.entry)) primary (msg.Get tx key near) tt refl
        (keyed_good s tx top a (f a.entry) key n (active_calm a.entry.state a.active) refl i));
    asked_lock = λ s tx top a key primary n locking fresh first on i.
        let f : TxEntry → TxEntry = λ (e : TxEntry). record e {
          keys = with_member key_cmp e.keys key;
          asked =
              with_member node_cmp e.asked primary;
          state = state.Waiting;
        } in
        subst (λ z. G (with_out (on_entry s tx f z) primary (msg.Lock tx top key))) (sym a.there)
        (plain_good m around (with_entry s tx (f a.entry)) primary (msg.Lock tx top key) tt refl
        (keyed_good s tx top a (f a.entry) key n (λ p. cc (p)) refl i));
    prepared = λ s tx top a key keys n has_keys. prepared_good s tx top a key keys n;
    decided = decided_good;
    failed = failed_good;
    backed = backed_good;
    searched = searched_good;
    edges_asked = λ s tx round known nodes i. sents_good m around s (outs_to nodes (msg.Edges tx round known))
        (to_each m around s nodes (msg.Edges tx round known) (λ n. tt) refl) i;
    left = left_good;
    fault_kept = λ s tx e n there rolls awaited backups faulty i. calm_good s tx e (record e { state = state.Ended })
        (starter s tx e there n) there (λ p. cc (p, rolls)) (λ p. cc (p)) (λ before. absurd (cc (before))) i;
    closed = λ s tx e d d2 n there over awaited backups here none count. closed_good s tx e d2 n there over;
  }
