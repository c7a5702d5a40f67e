-- Answers that a starter takes keep what is true of votes.
use Rattle.std.proofs.Common.{◌≡◌, ◌⊎◌, inl, inr, List, Bool, true, false, Some, None, refl, ap, sym, subst, ◌∙◌}
use Rattle.std.specs.Option.{is_some}
use Rattle.act_rows.specs.Accesses.{after_keep_near, is_pending_access, with_found_read, with_tx_state, without_awaited, without_getting}
use Rattle.act_rows.specs.Steps.{entry_of, on_entry, session_state_of, with_entry}
use Rattle.ignite_types.proofs.NameLaws.{tx_total}
use Rattle.ignite_types.specs.Names.{node_cmp, tx_cmp}
use Rattle.ignite_types.specs.declared.message.Message.TheVariants as msg
use Rattle.ignite_types.specs.declared.names.NodeId.{NodeId}
use Rattle.ignite_types.specs.declared.names.TxId.{TxId}
use Rattle.ignite_types.specs.declared.placement.PartMap.{PartMap}
use Rattle.ignite_types.specs.declared.scenario.Command.TheVariants as command
use Rattle.ignite_types.specs.declared.scenario.Command.{Command}
use Rattle.ignite_types.specs.declared.text.Key.{Key}
use Rattle.node_state.specs.Node.{NodeState}
use Rattle.node_state.specs.declared.near.TxEntry.{TxEntry}
use Rattle.node_state.specs.declared.near.TxState.TheVariants as state
use Rattle.node_state.specs.declared.session.SessionState.{SessionState}
use Rattle.ordered_set.specs.Members.{without_member}
use Rattle.ordered_table.proofs.Laws as laws
use Rattle.ordered_table.specs.Entries.{at}
use Rattle.owner_laws.specs.LockFacts.{In}
use Rattle.part_model.specs.Copies.{Found}
use Rattle.scenes.specs.Rows.{MessageInHand}
use Rattle.transaction_laws.proofs.StarterAnswers.{found_entry, keeps_found_is, near_kept_same}
use Rattle.transaction_laws.proofs.StarterAtoms.{no_more}
use Rattle.transaction_laws.specs.StarterFacts.{StarterInAct}
use Rattle.transaction_laws.specs.StarterKits.{AnswerKit, is_finishing}
use Rattle.vote_laws.proofs.Lists.{In-without}
use Rattle.vote_laws.proofs.VoteKit.{Keeps, asking_is, calm_good, entry_fact, entry_good, finishing_late}
use Rattle.vote_laws.proofs.VoteRows.{Good, V}
use Rattle.vote_laws.specs.VoteFacts.{EntryFact, InHand, IsDecided, IsReady, PreparedComes, is_before_vote}
use Rattle.vote_laws.specs.VoteViews.{VoteAround, VoteView}

found_same : (e : TxEntry) (key : Key) (found : Found) (c : Command) → ((found_entry e key found c).keys ≡ e.keys)
    × ((found_entry e key found c).asked ≡ e.asked) × ((found_entry e key found c).state ≡ e.state)
found_same e key found (command.Get k) = (refl, refl, refl)
found_same e key found (command.Add k amount) = (refl, refl, refl)
found_same e key found c = (refl, refl, refl)

module _ (m : PartMap) (around : VoteAround) where
  abbrev G : NodeState → Type 0
  G = Good m around

  abbrev W : NodeState → VoteView
  W = V m around

  abbrev Near : NodeState → Type 0
  Near s = StarterInAct around.mine s

  abbrev pub Takes : MessageInHand → NodeState → NodeState → Type 0
  Takes h s s2 = Good m around s → InHand (V m around s) s.me h → Good m around s2

  starter : (s : NodeState) (tx : TxId) (e : TxEntry) → entry_of s tx ≡ Some e → Near s → tx.node ≡ s.me
  starter s tx e there n = (no_more around.mine s n tx e there).starter

  found_good : (s : NodeState) (tx : TxId) (e : TxEntry) (key : Key) (found : Found) (c : Command) → tx.node ≡ s.me →
      entry_of s tx ≡ Some e → e.state ≡ state.Active → G s → G (with_found_read s tx key found c)
  found_good s tx e key found c own there active i = go (keeps_found_is s tx e key found c there)
    where
      same : ((found_entry e key found c).keys ≡ e.keys) × ((found_entry e key found c).asked ≡ e.asked)
          × ((found_entry e key found c).state ≡ e.state)
      same = found_same e key found c

      go : (with_found_read s tx key found c ≡ with_entry s tx (found_entry e key found c))
          ⊎ ((with_found_read s tx key found c ≡ s) × (found_entry e key found c ≡ e)) → G (with_found_read s tx key found c)
      go (inl is) =
          let f = entry_fact m around s tx e own there i in
          let st = same.2 ∙ active in
          subst G (sym is) (calm_good m around s tx e (found_entry e key found c) own there (λ p. cc (p, active))
          (λ p. cc (p, st)) (λ before none. same.1 ∙ f.asks (ap is_before_vote active) (sym same.0 ∙ none)) i)
      go (inr is) = subst G (sym is.0) i

  lock_ok_good : (s : NodeState) (from : NodeId) (tx : TxId) (key : Key) (found : Found) (e : TxEntry) (d : SessionState)
      (c : Command) → Near s → entry_of s tx ≡ Some e → e.state ≡ state.Waiting → session_state_of s tx.session ≡ Some d →
      d.pending ≡ Some c → is_pending_access key (Some d) ≡ true
      → Takes (record { from = from; message = msg.LockOk tx key found }) s
      (with_found_read (with_tx_state s tx state.Active) tx key found c)
  lock_ok_good s from tx key found e d c n there waiting here pending on i hand =
      let own = starter s tx e there n in
      let e2 : TxEntry = record e { state = state.Active } in
      let f = entry_fact m around s tx e own there i in
      subst (λ z. G (with_found_read (on_entry s tx (λ (x : TxEntry). record x { state = state.Active }) z) tx key found c))
      (sym there)
      (found_good (with_entry s tx e2) tx e2 key found c own (laws.at_put_same tx_cmp tx_total s.txs tx e2) refl
      (calm_good m around s tx e e2 own there (λ p. cc (p, waiting)) (λ p. cc (p))
      (λ before none. f.asks (ap is_before_vote waiting) none) i))

  near_kept_good : (s : NodeState) (key : Key) (near : Bool) (found : Found) → G s → G (after_keep_near s key near found)
  near_kept_good s key true (Some (value, ver)) i = record { votes = i.votes; stands = i.stands }
  near_kept_good s key true None i = i
  near_kept_good s key false found i = i

  get_ok_good : (s : NodeState) (from : NodeId) (tx : TxId) (key : Key) (found : Found) (near : Bool) (e : TxEntry)
      (d : SessionState) (c : Command) → Near s → entry_of s tx ≡ Some e → e.state ≡ state.Active → is_some e.getting ≡ true →
      session_state_of s tx.session ≡ Some d → d.pending ≡ Some c
      → Takes (record { from = from; message = msg.GetOk tx key found }) s
      (with_found_read (after_keep_near (without_getting s tx) key near found) tx key found c)
  get_ok_good s from tx key found near e d c n there active gets here pending i hand =
      let f : TxEntry → TxEntry = λ (x : TxEntry). record x { getting = None } in
      let e2 : TxEntry = f e in
      let own = starter s tx e there n in
      let fact = entry_fact m around s tx e own there i in
      let s0 : NodeState = with_entry s tx e2 in
      let s1 : NodeState = after_keep_near s0 key near found in
      let same = near_kept_same s0 key near found in
      let there1 : entry_of s1 tx ≡ Some e2 = ap (λ es. at tx_cmp es tx) same.0
      ∙ laws.at_put_same tx_cmp tx_total s.txs tx e2 in
      subst (λ z. G (with_found_read (after_keep_near (on_entry s tx f z) key near found) tx key found c)) (sym there)
      (found_good s1 tx e2 key found c (own ∙ sym same.2) there1 active
      (near_kept_good s0 key near found (calm_good m around s tx e e2 own there (λ p. cc (p, active)) (λ p. cc (p, active))
      (λ before none. fact.asks (ap is_before_vote active) none) i)))

  abbrev Counts : NodeState → TxId → TxEntry → List NodeId → NodeId → Type 0
  Counts s tx e awaited x = IsDecided ((W s).decided tx.node tx) ⊎ In x awaited
      ⊎ IsReady ((W s).share x tx) (W s).backup tx x e.shares

  -- a vote is counted
  prepared_good : (s : NodeState) (from : NodeId) (tx : TxId) (e : TxEntry) → Near s → entry_of s tx ≡ Some e →
      e.state ≡ state.Preparing → Takes (record { from = from; message = msg.Prepared tx }) s (without_awaited s tx from)
  prepared_good s from tx e n there preparing i hand =
      subst (λ z. G (on_entry s tx (λ (x : TxEntry). record x { awaited = without_member node_cmp x.awaited from }) z))
      (sym there)
      (entry_good m around s tx e2 own (record {
        asking = λ a.
            let same = asking_is m around s tx e own there a in (
              record { entry = e2; there = refl; preparing = preparing },
              sym (ap (λ (z : TxEntry). z.shares) same),
              sym (ap (λ (z : TxEntry). z.asked) same),
            );
        fact = λ x is. let same : e2 ≡ x = cc (is) in
            subst (EntryFact (W s) tx) same (record {
              asks = f.asks;
              distinct = f.distinct;
              counted =
                  λ p x asked. counted x (f.counted p x asked);
            });
      }) i)
    where
      own : tx.node ≡ s.me
      own = starter s tx e there n

      e2 : TxEntry
      e2 = record e { awaited = without_member node_cmp e.awaited from }

      f : EntryFact (W s) tx e
      f = entry_fact m around s tx e own there i

      voted : IsDecided ((W s).decided tx.node tx) ⊎ PreparedComes ((W s).entry tx.node tx) ((W s).share from tx)
          (W s).backup from tx → Counts s tx e e2.awaited from
      voted (inl made) = inl made
      voted (inr comes) = inr (inr (subst (λ (z : TxEntry). IsReady ((W s).share from tx) (W s).backup tx from z.shares)
          (asking_is m around s tx e own there comes.asking) comes.ready))

      still : (x : NodeId) → In x e2.awaited ⊎ (x ≡ from) → Counts s tx e e2.awaited x
      still x (inl waits) = inr (inl waits)
      still x (inr is) = subst (Counts s tx e e2.awaited) (sym is) (voted hand.0)

      counted : (x : NodeId) → IsDecided ((W s).decided tx.node tx) ⊎ In x e.awaited
          ⊎ IsReady ((W s).share x tx) (W s).backup tx x e.shares → Counts s tx e e2.awaited x
      counted x (inl made) = inl made
      counted x (inr (inl waits)) = still x (In-without from x e.awaited waits)
      counted x (inr (inr ready)) = inr (inr ready)

  finished_good : (s : NodeState) (from : NodeId) (tx : TxId) (e : TxEntry) → Near s → entry_of s tx ≡ Some e →
      is_finishing e.state ≡ true → Takes (record { from = from; message = msg.Finished tx }) s (without_awaited s tx from)
  finished_good s from tx e n there finishing i hand =
      subst (λ z. G (on_entry s tx (λ (x : TxEntry). record x { awaited = without_member node_cmp x.awaited from }) z))
      (sym there)
      (calm_good m around s tx e (record e { awaited = without_member node_cmp e.awaited from }) (starter s tx e there n)
      there calm calm (λ before. absurd (let late = finishing_late e.state finishing in cc (late, before))) i)
    where
      calm : e.state ≡ state.Preparing → ⊥
      calm p = let f = ap is_finishing p in cc (f, finishing)

  pub vote_answers : AnswerKit around.mine (Keeps m around) Takes
  vote_answers = record {
    after = λ h a b c first second i hand. second (first i hand);
    ignored = λ s h n why i hand. i;
    lock_ok = lock_ok_good;
    get_ok = get_ok_good;
    prepared_by = prepared_good;
    finished_by = finished_good;
  }
