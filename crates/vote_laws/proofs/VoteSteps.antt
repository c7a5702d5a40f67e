-- What is true of votes stays true where a link, a share, an entry or a decision changes.
use Rattle.std.proofs.Common.{◌≡◌, ◌≢◌, ◌⊎◌, inl, inr, List, [], ◌∷◌, ◌++◌, Bool, true, false, Option, Some, None, refl, ap, sym, subst, ◌∙◌}
use Rattle.act_rows.specs.Steps.{backup_name}
use Rattle.ignite_types.specs.declared.message.Message.{Message}
use Rattle.ignite_types.specs.declared.message.Message.TheVariants as msg
use Rattle.ignite_types.specs.declared.names.NodeId.{NodeId}
use Rattle.ignite_types.specs.declared.names.TxId.{TxId}
use Rattle.ignite_types.specs.declared.placement.Share.{Share}
use Rattle.ignite_types.specs.declared.placement.ShareState.TheVariants.{Prepared, Preparing}
use Rattle.journal_statements.specs.ShareLaws.{is_ready_state, is_share_committed}
use Rattle.node_state.specs.declared.near.TxEntry.{TxEntry}
use Rattle.node_state.specs.declared.near.TxState.TheVariants as state
use Rattle.node_state.specs.declared.primary.BackupName.{BackupName}
use Rattle.node_state.specs.declared.primary.BackupShare.{BackupShare}
use Rattle.node_state.specs.declared.primary.OwnShare.{OwnShare}
use Rattle.owner_laws.proofs.Lists.{In-push, Wrote, each_push, wrote_elim}
use Rattle.owner_laws.specs.LockFacts.{Each, In}
use Rattle.transaction_laws.proofs.Tables.{tx_tells}
use Rattle.ignite_types.specs.Names.{same_tx}
use Rattle.vote_laws.specs.VoteFacts.{ACommit, APrepare, Apart, Asking, BackupFact, Backups, Decided, EntryFact, EntryFactOf, Fact, FinishFact, IsBackupReady, IsDecided, IsNew, IsOwnReady, IsReady, OwnShares, PrepareComes, PreparedComes, ShareFact, ShareFactOf, Tag, VotesHold, is_before_vote, once}
use Rattle.vote_laws.specs.VoteViews.{VoteView}

-- What a message tells that comes once.

abbrev pub Prepares : VoteView → NodeId → NodeId → TxId → Type 0
Prepares v a b t = (t.node ≡ a)
    × (Decided v t false ⊎ ((shares : List Share) × PrepareComes (v.decided t.node t) (v.entry t.node t)
    (v.share b t) b shares))

pub prepare_tells : (v : VoteView) (a b : NodeId) (y : Message) (t : TxId) → Fact v a b y → once y ≡ Some (APrepare t) →
    Prepares v a b t
prepare_tells v a b (msg.Prepare u top x shares wanted writes) t f e = let same : u ≡ t = cc (e) in
    subst (Prepares v a b) same (f.0, go f.1)
  where
    go : Decided v u false ⊎ PrepareComes (v.decided u.node u) (v.entry u.node u) (v.share b u) b shares → Decided v u false
        ⊎ ((shares : List Share) × PrepareComes (v.decided u.node u) (v.entry u.node u) (v.share b u) b shares)
    go (inl undone) = inl undone
    go (inr comes) = inr (shares, comes)
prepare_tells v a b (msg.Finish u true) t f e = absurd (cc (e))
prepare_tells v a b (msg.Finish u false) t f e = absurd (cc (e))
prepare_tells v a b y t f e = absurd (cc (e))

pub commit_tells : (v : VoteView) (a b : NodeId) (y : Message) (t : TxId) → Fact v a b y → once y ≡ Some (ACommit t) →
    FinishFact v a b t true
commit_tells v a b (msg.Finish u true) t f e = let same : u ≡ t = cc (e) in subst (λ (z : TxId). FinishFact v a b z true) same f
commit_tells v a b (msg.Finish u false) t f e = absurd (cc (e))
commit_tells v a b y t f e = absurd (cc (e))

-- decided, and not
pub both_decided : (decisions : List Bool) → IsDecided decisions → decisions ≡ [] → ⊥
both_decided decisions made none = let is = made.1 in cc (is, none)

-- A message is sent.

pub fact_link : (v : VoteView) (flight : NodeId → NodeId → List Message) (a b : NodeId) (x : Message) → Fact v a b x →
    Fact (record v { flight = flight }) a b x
fact_link v flight a b (msg.Prepare t top x shares wanted writes) f = f
fact_link v flight a b (msg.Prepared t) f = f
fact_link v flight a b (msg.BackupPrepare t top shares primary writes) f = f
fact_link v flight a b (msg.BackupPrepared t) f = f
fact_link v flight a b (msg.Finish t true) f = f
fact_link v flight a b (msg.Finish t false) f = f
fact_link v flight a b (msg.BackupFinish t primary commit) f = f
fact_link v flight a b x f = f

apart_push : (xs : List Message) (x : Message) → Apart xs → IsNew x xs → Apart (xs ++ x ∷ [])
apart_push [] x apart fresh = (λ y g i. absurd i, tt)
apart_push (z ∷ zs) x apart fresh = (
  λ y g i of_z of_y. go y g of_z of_y (In-push y x zs i),
  apart_push zs x apart.1 (λ y g i. fresh y g (inr i)),
)
  where
    go : (y : Message) (g : Tag) → once z ≡ Some g → once y ≡ Some g → In y zs ⊎ (y ≡ x) → ⊥
    go y g of_z of_y (inl i) = apart.0 y g i of_z of_y
    go y g of_z of_y (inr e) = fresh z g (inl refl) (ap once (sym e) ∙ of_y) of_z

pub push_keeps : (v : VoteView) (flight : NodeId → NodeId → List Message) (a b : NodeId) (x : Message) →
    Wrote v.flight flight a b (v.flight a b ++ x ∷ []) → Fact v a b x → IsNew x (v.flight a b)
    → VotesHold v → VotesHold (record v { flight = flight })
push_keeps v flight a b x w fact fresh i = record {
  facts = λ c d y s. fact_link v flight c d y (wrote_elim (λ c d ms. Each (Fact v c d) ms) v.flight flight a b
      (v.flight a b ++ x ∷ []) w (each_push (Fact v a b) (v.flight a b) x (i.facts a b) fact) i.facts c d y s);
  apart = wrote_elim (λ c d ms. Apart ms) v.flight flight a b (v.flight a b ++ x ∷ []) w
      (apart_push (v.flight a b) x (i.apart a b) fresh) i.apart;
  shares = i.shares;
  backups = i.backups;
  entries = i.entries;
}

-- An own share changes.

-- where it was a vote it stays one
abbrev pub StaysReady : Option OwnShare → Option OwnShare → Type 0
StaysReady old x = (h : IsOwnReady old) → (k : IsOwnReady x) × (k.kept.shares ≡ h.kept.shares)

pub record ShareStep (v : VoteView) (n : NodeId) (t : TxId) (x : Option OwnShare) : Type 0 where
  pub fact : ShareFact v n t x
  pub asked : (a : NodeId) (y : Message) → In y (v.flight a n) → once y ≡ Some (APrepare t) → Decided v t false ⊎ (x ≡ None)
  pub ready : IsDecided (v.decided t.node t) ⊎ StaysReady (v.share n t) x
  pub commits : (a : NodeId) (y : Message) → In y (v.flight a n) → once y ≡ Some (ACommit t) → StaysReady (v.share n t) x

stays_vote : (old x : Option OwnShare) (backup : Backups) (t : TxId) (n : NodeId) (shares : List Share) → StaysReady old x →
    IsReady old backup t n shares → IsReady x backup t n shares
stays_vote old x backup t n shares stays r = let k = stays r.own in record {
  own = k.0;
  same = k.1 ∙ r.same;
  backups =
      r.backups;
}

module _ (v : VoteView) (share : OwnShares) (n : NodeId) (t : TxId) (x : Option OwnShare) (w : Wrote v.share share n t x)
    (step : ShareStep v n t x) where
  abbrev Comes : NodeId → TxId → List Share → Option OwnShare → Type 0
  Comes c u shares z = PrepareComes (v.decided u.node u) (v.entry u.node u) z c shares

  share_prepare : (a b : NodeId) (u : TxId) (m : Message) (shares : List Share) → once m ≡ Some (APrepare u) →
      In m (v.flight a b) → Comes b u shares (v.share b u) → Decided v u false ⊎ Comes b u shares (share b u)
  share_prepare a b u m shares of_m there comes =
      wrote_elim (λ c u z. once m ≡ Some (APrepare u) → In m (v.flight a c) → Comes c u shares (v.share c u) →
      Decided v u false ⊎ Comes c u shares z) v.share share n t x w
      (λ of_m there comes. go comes (step.asked a m there of_m))
      (λ c u of_m there comes. inr comes) b u of_m there comes
    where
      go : Comes n t shares (v.share n t) → Decided v t false ⊎ (x ≡ None) → Decided v t false ⊎ Comes n t shares x
      go comes (inl undone) = inl undone
      go comes (inr none) = inr (record {
        undecided = comes.undecided;
        asking = comes.asking;
        same = comes.same;
        asked =
            comes.asked;
        none = none;
      })

  abbrev Voted : NodeId → TxId → Option OwnShare → Type 0
  Voted c u z = PreparedComes (v.entry u.node u) z v.backup c u

  share_prepared : (a : NodeId) (u : TxId) → IsDecided (v.decided u.node u) ⊎ Voted a u (v.share a u) →
      IsDecided (v.decided u.node u) ⊎ Voted a u (share a u)
  share_prepared =
      wrote_elim (λ c u z. IsDecided (v.decided u.node u) ⊎ Voted c u (v.share c u) → IsDecided (v.decided u.node u)
      ⊎ Voted c u z) v.share share n t x w
      (go step.ready)
      (λ c u f. f)
    where
      go : IsDecided (v.decided t.node t) ⊎ StaysReady (v.share n t) x → IsDecided (v.decided t.node t)
          ⊎ Voted n t (v.share n t) → IsDecided (v.decided t.node t) ⊎ Voted n t x
      go (inl made) f = inl made
      go (inr stays) (inl made) = inl made
      go (inr stays) (inr comes) =
          inr (record {
            asking = comes.asking;
            asked = comes.asked;
            ready =
                stays_vote (v.share n t) x v.backup t n comes.asking.entry.shares stays comes.ready;
          })

  share_commit : (a b : NodeId) (u : TxId) (m : Message) → once m ≡ Some (ACommit u) → In m (v.flight a b) →
      IsOwnReady (v.share b u) → IsOwnReady (share b u)
  share_commit a b u m of_m there ready =
      wrote_elim (λ c u z. once m ≡ Some (ACommit u) → In m (v.flight a c) → IsOwnReady (v.share c u) →
      IsOwnReady z) v.share share n t x w
      (λ of_m there ready. (step.commits a m there of_m ready).0)
      (λ c u of_m there ready. ready) b u of_m there ready

  fact_share : (a b : NodeId) (m : Message) → In m (v.flight a b) → Fact v a b m → Fact (record v { share = share }) a b m
  fact_share a b (msg.Prepare u top x shares wanted writes) there f = (f.0, go f.1)
    where
      go : Decided v u false ⊎ Comes b u shares (v.share b u) → Decided v u false ⊎ Comes b u shares (share b u)
      go (inl undone) = inl undone
      go (inr comes) = share_prepare a b u (msg.Prepare u top x shares wanted writes) shares refl there comes
  fact_share a b (msg.Prepared u) there f = share_prepared a u f
  fact_share a b (msg.BackupPrepare u top shares primary writes) there f = f
  fact_share a b (msg.BackupPrepared u) there f = f
  fact_share a b (msg.Finish u true) there f = (f.0, f.1, share_commit a b u (msg.Finish u true) refl there f.2)
  fact_share a b (msg.Finish u false) there f = f
  fact_share a b (msg.BackupFinish u primary commit) there f = f
  fact_share a b m there f = f

  counted_share : (e : TxEntry) (c : NodeId) (u : TxId) → IsDecided (v.decided u.node u) ⊎ In c e.awaited
      ⊎ IsReady (v.share c u) v.backup u c e.shares → IsDecided (v.decided u.node u) ⊎ In c e.awaited
      ⊎ IsReady (share c u) v.backup u c e.shares
  counted_share e =
      wrote_elim (λ c u z. IsDecided (v.decided u.node u) ⊎ In c e.awaited ⊎ IsReady (v.share c u) v.backup u c e.shares →
      IsDecided (v.decided u.node u) ⊎ In c e.awaited ⊎ IsReady z v.backup u c e.shares) v.share share n t x w
      (go step.ready)
      (λ c u f. f)
    where
      go : IsDecided (v.decided t.node t) ⊎ StaysReady (v.share n t) x → IsDecided (v.decided t.node t) ⊎ In n e.awaited
          ⊎ IsReady (v.share n t) v.backup t n e.shares → IsDecided (v.decided t.node t) ⊎ In n e.awaited
          ⊎ IsReady x v.backup t n e.shares
      go (inl made) f = inl made
      go (inr stays) (inl made) = inl made
      go (inr stays) (inr (inl awaited)) = inr (inl awaited)
      go (inr stays) (inr (inr ready)) = inr (inr (stays_vote (v.share n t) x v.backup t n e.shares stays ready))

  pub share_keeps : VotesHold v → VotesHold (record v { share = share })
  share_keeps i = record {
    facts = λ a b y s. fact_share a b y s (i.facts a b y s);
    apart = i.apart;
    shares = wrote_elim (λ c u z. ShareFact v c u z) v.share share n t x w step.fact i.shares;
    backups = i.backups;
    entries = λ u e there. let f = i.entries u e there in record {
      asks = f.asks;
      distinct = f.distinct;
      counted =
          λ p c has. counted_share e c u (f.counted p c has);
    };
  }

-- A share that is held for another primary changes.

pub record BackupStep (v : VoteView) (n : NodeId) (name : BackupName) (x : Option BackupShare) : Type 0 where
  pub fact : BackupFact v name.tx x
  pub ready : IsDecided (v.decided name.tx.node name.tx) ⊎ (IsBackupReady (v.backup n name) → IsBackupReady x)

module _ (v : VoteView) (backup : Backups) (n : NodeId) (name : BackupName) (x : Option BackupShare)
    (w : Wrote v.backup backup n name x) (step : BackupStep v n name x) where
  abbrev StayBackups : TxId → Type 0
  StayBackups u = (c p : NodeId) → IsBackupReady (v.backup c (backup_name u p)) → IsBackupReady (backup c (backup_name u p))

  -- of a transaction: it is decided, or none of its votes is lost
  stay : (u : TxId) → IsDecided (v.decided u.node u) ⊎ StayBackups u
  stay u = by (tx_tells u name.tx) step.ready
    where
      others : (u ≢ name.tx) → StayBackups u
      others ne c p ready =
          wrote_elim (λ c m z. m.tx ≢ name.tx → IsBackupReady (v.backup c m) → IsBackupReady z) v.backup backup n name x w
          (λ other ready. absurd (other refl)) (λ c m other ready. ready) c (backup_name u p) ne ready

      kept : (IsBackupReady (v.backup n name) → IsBackupReady x) → StayBackups u
      kept stays c p = wrote_elim (λ c m z. IsBackupReady (v.backup c m) → IsBackupReady z) v.backup backup n name x w stays
          (λ c m ready. ready) c (backup_name u p)

      by : ((same_tx u name.tx ≡ true) × (u ≡ name.tx)) ⊎ ((same_tx u name.tx ≡ false) × (u ≢ name.tx)) →
          IsDecided (v.decided name.tx.node name.tx) ⊎ (IsBackupReady (v.backup n name) → IsBackupReady x)
          → IsDecided (v.decided u.node u) ⊎ StayBackups u
      by (inr other) f = inr (others other.1)
      by (inl same) (inl made) = inl (subst (λ (z : TxId). IsDecided (v.decided z.node z)) (sym same.1) made)
      by (inl same) (inr stays) = inr (kept stays)

  backed_vote : (own : Option OwnShare) (u : TxId) (p : NodeId) (shares : List Share) → StayBackups u →
      IsReady own v.backup u p shares → IsReady own backup u p shares
  backed_vote own u p shares stays r =
      record { own = r.own; same = r.same; backups = λ c has other. stays c p (r.backups c has other) }

  fact_backup : (a b : NodeId) (m : Message) → Fact v a b m → Fact (record v { backup = backup }) a b m
  fact_backup a b (msg.Prepare u top x shares wanted writes) f = f
  fact_backup a b (msg.Prepared u) f = go f (stay u)
    where
      go : IsDecided (v.decided u.node u) ⊎ PreparedComes (v.entry u.node u) (v.share a u) v.backup a u →
          IsDecided (v.decided u.node u) ⊎ StayBackups u → IsDecided (v.decided u.node u)
          ⊎ PreparedComes (v.entry u.node u) (v.share a u) backup a u
      go (inl made) s = inl made
      go (inr comes) (inl made) = inl made
      go (inr comes) (inr stays) =
          inr (record {
            asking = comes.asking;
            asked = comes.asked;
            ready =
                backed_vote (v.share a u) u a comes.asking.entry.shares stays comes.ready;
          })
  fact_backup a b (msg.BackupPrepare u top shares primary writes) f = f
  fact_backup a b (msg.BackupPrepared u) f = go f (stay u)
    where
      go : IsDecided (v.decided u.node u) ⊎ IsBackupReady (v.backup a (backup_name u b)) → IsDecided (v.decided u.node u)
          ⊎ StayBackups u → IsDecided (v.decided u.node u) ⊎ IsBackupReady (backup a (backup_name u b))
      go (inl made) s = inl made
      go (inr ready) (inl made) = inl made
      go (inr ready) (inr stays) = inr (stays a b ready)
  fact_backup a b (msg.Finish u true) f = f
  fact_backup a b (msg.Finish u false) f = f
  fact_backup a b (msg.BackupFinish u primary commit) f = f
  fact_backup a b m f = f

  share_backed : (c : NodeId) (u : TxId) (h : Option OwnShare) → ShareFact v c u h →
      ShareFact (record v { backup = backup }) c u h
  share_backed c u None f = tt
  share_backed c u (Some h) (inl undone) = inl undone
  share_backed c u (Some h) (inr (inl done)) = inr (inl done)
  share_backed c u (Some h) (inr (inr votes)) = go (stay u)
    where
      one : StayBackups u → (holder : NodeId) → ((h.state ≡ Preparing) × In holder h.awaited)
          ⊎ IsBackupReady (v.backup holder (backup_name u c)) → ((h.state ≡ Preparing) × In holder h.awaited)
          ⊎ IsBackupReady (backup holder (backup_name u c))
      one stays holder (inl awaited) = inl awaited
      one stays holder (inr ready) = inr (stays holder c ready)

      go : IsDecided (v.decided u.node u) ⊎ StayBackups u → ShareFact (record v { backup = backup }) c u (Some h)
      go (inl made) = absurd (both_decided (v.decided u.node u) made votes.undecided)
      go (inr stays) = inr (inr (record {
        undecided = votes.undecided;
        asking = votes.asking;
        same = votes.same;
        asked =
            votes.asked;
        idle = votes.idle;
        either = votes.either;
        backups =
            λ holder has other. one stays holder (votes.backups holder has other);
      }))

  counted_backed : (e : TxEntry) (c : NodeId) (u : TxId) → IsDecided (v.decided u.node u) ⊎ In c e.awaited
      ⊎ IsReady (v.share c u) v.backup u c e.shares → IsDecided (v.decided u.node u) ⊎ In c e.awaited
      ⊎ IsReady (v.share c u) backup u c e.shares
  counted_backed e c u f = go f (stay u)
    where
      go : IsDecided (v.decided u.node u) ⊎ In c e.awaited ⊎ IsReady (v.share c u) v.backup u c e.shares →
          IsDecided (v.decided u.node u) ⊎ StayBackups u → IsDecided (v.decided u.node u) ⊎ In c e.awaited
          ⊎ IsReady (v.share c u) backup u c e.shares
      go (inl made) s = inl made
      go (inr (inl awaited)) s = inr (inl awaited)
      go (inr (inr ready)) (inl made) = inl made
      go (inr (inr ready)) (inr stays) = inr (inr (backed_vote (v.share c u) u c e.shares stays ready))

  pub backup_keeps : VotesHold v → VotesHold (record v { backup = backup })
  backup_keeps i = record {
    facts = λ a b y s. fact_backup a b y (i.facts a b y s);
    apart = i.apart;
    shares = λ c u. share_backed c u (v.share c u) (i.shares c u);
    backups = wrote_elim (λ c m z. BackupFact v m.tx z) v.backup backup n name x w step.fact i.backups;
    entries = λ u e there. let f = i.entries u e there in record {
      asks = f.asks;
      distinct = f.distinct;
      counted =
          λ p c has. counted_backed e c u (f.counted p c has);
    };
  }

-- An entry changes, and is not decided.

abbrev pub StaysAsking : Option TxEntry → Option TxEntry → Type 0
StaysAsking old x = (h : Asking old) → (k : Asking x) × (k.entry.shares ≡ h.entry.shares) × (k.entry.asked ≡ h.entry.asked)

pub record EntryStep (v : VoteView) (t : TxId) (x : Option TxEntry) : Type 0 where
  pub asking : StaysAsking (v.entry t.node t) x
  pub fact : (e : TxEntry) → x ≡ Some e → EntryFact v t e

module _ (v : VoteView) (entry : NodeId → TxId → Option TxEntry) (t : TxId) (x : Option TxEntry)
    (w : Wrote v.entry entry t.node t x) (step : EntryStep v t x) where
  asks_on : (u : TxId) → StaysAsking (v.entry u.node u) (entry u.node u)
  asks_on u = go (w u.node u)
    where
      go : ((u.node ≡ t.node) × (u ≡ t) × (entry u.node u ≡ x)) ⊎ (entry u.node u ≡ v.entry u.node u) →
          StaysAsking (v.entry u.node u) (entry u.node u)
      go (inl is) = subst (λ z. StaysAsking (v.entry u.node u) z) (sym is.2)
          (subst (λ (z : TxId). StaysAsking (v.entry z.node z) x) (sym is.1) step.asking)
      go (inr is) = subst (λ z. StaysAsking (v.entry u.node u) z) (sym is) (λ h. (h, refl, refl))

  fact_entry : (a b : NodeId) (m : Message) → Fact v a b m → Fact (record v { entry = entry }) a b m
  fact_entry a b (msg.Prepare u top x shares wanted writes) f = (f.0, go f.1)
    where
      go : Decided v u false ⊎ PrepareComes (v.decided u.node u) (v.entry u.node u) (v.share b u) b shares → Decided v u false
          ⊎ PrepareComes (v.decided u.node u) (entry u.node u) (v.share b u) b shares
      go (inl undone) = inl undone
      go (inr comes) = let k = asks_on u comes.asking in
          inr (record {
            undecided = comes.undecided;
            asking = k.0;
            same = k.1 ∙ comes.same;
            asked =
                subst (In b) (sym k.2) comes.asked;
            none = comes.none;
          })
  fact_entry a b (msg.Prepared u) f = go f
    where
      go : IsDecided (v.decided u.node u) ⊎ PreparedComes (v.entry u.node u) (v.share a u) v.backup a u →
          IsDecided (v.decided u.node u) ⊎ PreparedComes (entry u.node u) (v.share a u) v.backup a u
      go (inl made) = inl made
      go (inr comes) = let k = asks_on u comes.asking in
          inr (record {
            asking = k.0;
            asked = subst (In a) (sym k.2) comes.asked;
            ready =
                subst (λ z. IsReady (v.share a u) v.backup u a z) (sym k.1) comes.ready;
          })
  fact_entry a b (msg.BackupPrepare u top shares primary writes) f = f
  fact_entry a b (msg.BackupPrepared u) f = f
  fact_entry a b (msg.Finish u true) f = f
  fact_entry a b (msg.Finish u false) f = f
  fact_entry a b (msg.BackupFinish u primary commit) f = f
  fact_entry a b m f = f

  share_entry : (c : NodeId) (u : TxId) (h : Option OwnShare) → ShareFact v c u h → ShareFact (record v { entry = entry }) c u h
  share_entry c u None f = tt
  share_entry c u (Some h) (inl undone) = inl undone
  share_entry c u (Some h) (inr (inl done)) = inr (inl done)
  share_entry c u (Some h) (inr (inr votes)) =
      let k = asks_on u votes.asking in
      inr (inr (record {
        undecided = votes.undecided;
        asking = k.0;
        same = votes.same ∙ sym k.1;
        asked =
            subst (In c) (sym k.2) votes.asked;
        idle = votes.idle;
        either = votes.either;
        backups = votes.backups;
      }))

  pub entry_keeps : VotesHold v → VotesHold (record v { entry = entry })
  entry_keeps i = record {
    facts = λ a b y s. fact_entry a b y (i.facts a b y s);
    apart = i.apart;
    shares = λ c u. share_entry c u (v.share c u) (i.shares c u);
    backups = i.backups;
    entries = λ u e there.
        wrote_elim (λ c u z. c ≡ u.node → (e : TxEntry) → z ≡ Some e → EntryFact v u e) v.entry entry t.node t x w
        (λ same. step.fact) (λ c u same e there. i.entries u e (subst (λ z. v.entry z u ≡ Some e) same there))
        u.node u refl e there;
  }

-- A transaction is decided.

pub record DecideStep (v after : VoteView) (t : TxId) (commit : Bool) (e e2 : TxEntry) : Type 0 where
  pub was : v.entry t.node t ≡ Some e
  pub undecided : v.decided t.node t ≡ []
  pub made : after.decided t.node t ≡ commit ∷ []
  pub now : after.entry t.node t ≡ Some e2
  pub before : is_before_vote e2.state ≡ false
  pub asks_no_more : e2.state ≡ state.Preparing → ⊥
  pub others : (u : TxId) → u ≢ t → (after.decided u.node u ≡ v.decided u.node u) × (after.entry u.node u ≡ v.entry u.node u)
  -- to commit each primary that was asked has voted
  pub voted : commit ≡ true → e.state ≡ state.Preparing → (x : NodeId) → In x e.asked →
      IsReady (v.share x t) v.backup t x e.shares

module _ (v : VoteView) (entry : NodeId → TxId → Option TxEntry) (decided : NodeId → TxId → List Bool) (t : TxId)
    (commit : Bool) (e e2 : TxEntry) (step : DecideStep v (record v { entry = entry; decided = decided }) t commit e e2) where
  abbrev after : VoteView
  after = record v { entry = entry; decided = decided }

  -- another transaction, or this one
  of_tx : (P Q : TxId → Type 0) → ((u : TxId) → u ≢ t → P u → Q u) → (P t → Q t) → (u : TxId) → P u → Q u
  of_tx P Q others here u f = go (tx_tells u t)
    where
      go : ((same_tx u t ≡ true) × (u ≡ t)) ⊎ ((same_tx u t ≡ false) × (u ≢ t)) → Q u
      go (inl same) = subst Q (sym same.1) (here (subst P same.1 f))
      go (inr other) = others u other.1 f

  -- the same is said of another one
  said : (Q : List Bool → Option TxEntry → Type 0) (u : TxId) → u ≢ t → Q (v.decided u.node u) (v.entry u.node u) →
      Q (decided u.node u) (entry u.node u)
  said Q u ne f = let same = step.others u ne in
      subst (λ z. Q z (entry u.node u)) (sym same.0) (subst (λ z. Q (v.decided u.node u) z) (sym same.1) f)

  never_made : (b : Bool) → v.decided t.node t ≡ b ∷ [] → ⊥
  never_made b is = let none = step.undecided in cc (is, none)

  is_made : IsDecided (decided t.node t)
  is_made = (commit, step.made)

  -- by the decision of this one
  by_commit : (A : Type 0) → (decided t.node t ≡ false ∷ [] → A) → (decided t.node t ≡ true ∷ [] → commit ≡ true → A) → A
  by_commit A undone done = go commit refl
    where
      go : (c : Bool) → commit ≡ c → A
      go true is = done (step.made ∙ ap (λ (b : Bool). b ∷ []) is) is
      go false is = undone (step.made ∙ ap (λ (b : Bool). b ∷ []) is)

  -- who was asked for the vote of a transaction to commit has voted
  votes_of : (a : Asking (v.entry t.node t)) (x : NodeId) → In x a.entry.asked → commit ≡ true →
      IsReady (v.share x t) v.backup t x a.entry.shares
  votes_of a x asked is =
      let there = a.there in
      let was = step.was in
      let same : e ≡ a.entry = cc (there, was) in
      subst (λ (y : TxEntry). y.state ≡ state.Preparing → In x y.asked → IsReady (v.share x t) v.backup t x y.shares) same
      (λ preparing asked. step.voted is preparing x asked) a.preparing asked

  abbrev PrepareAt : NodeId → List Share → List Bool → Option TxEntry → TxId → Type 0
  PrepareAt b shares ds en u = (ds ≡ false ∷ []) ⊎ PrepareComes ds en (v.share b u) b shares

  prepare_here : (b : NodeId) (shares : List Share) → PrepareAt b shares (v.decided t.node t) (v.entry t.node t) t →
      PrepareAt b shares (decided t.node t) (entry t.node t) t
  prepare_here b shares (inl undone) = absurd (never_made false undone)
  prepare_here b shares (inr comes) = by_commit (PrepareAt b shares (decided t.node t) (entry t.node t) t)
      (λ undone. inl undone)
      (λ done is. let r = votes_of comes.asking b comes.asked is in let some = r.own.there in let none = comes.none in
      absurd (cc (some, none)))

  abbrev VotedAt : NodeId → List Bool → Option TxEntry → TxId → Type 0
  VotedAt a ds en u = IsDecided ds ⊎ PreparedComes en (v.share a u) v.backup a u

  abbrev BackedAt : NodeId → NodeId → List Bool → TxId → Type 0
  BackedAt a b ds u = IsDecided ds ⊎ IsBackupReady (v.backup a (backup_name u b))

  fact_decided : (a b : NodeId) (m : Message) → Fact v a b m → Fact after a b m
  fact_decided a b (msg.Prepare u top x shares wanted writes) f = (
    f.0,
    of_tx (λ z. PrepareAt b shares (v.decided z.node z) (v.entry z.node z) z)
        (λ z. PrepareAt b shares (decided z.node z) (entry z.node z) z)
        (λ z ne. said (λ ds en. PrepareAt b shares ds en z) z ne) (prepare_here b shares) u f.1,
  )
  fact_decided a b (msg.Prepared u) f =
      of_tx (λ z. VotedAt a (v.decided z.node z) (v.entry z.node z) z) (λ z. VotedAt a (decided z.node z) (entry z.node z) z)
      (λ z ne. said (λ ds en. VotedAt a ds en z) z ne) (λ g. inl is_made) u f
  fact_decided a b (msg.BackupPrepare u top shares primary writes) f = f
  fact_decided a b (msg.BackupPrepared u) f =
      of_tx (λ z. BackedAt a b (v.decided z.node z) z) (λ z. BackedAt a b (decided z.node z) z)
      (λ z ne. said (λ ds en. BackedAt a b ds z) z ne) (λ g. inl is_made) u f
  fact_decided a b (msg.Finish u true) f =
      of_tx (λ z. FinishFact v a b z true) (λ z. FinishFact after a b z true)
      (λ z ne g. (g.0, said (λ ds en. ds ≡ true ∷ []) z ne g.1, g.2)) (λ g. absurd (never_made true g.1)) u f
  fact_decided a b (msg.Finish u false) f =
      of_tx (λ z. Decided v z false) (λ z. Decided after z false) (λ z ne. said (λ ds en. ds ≡ false ∷ []) z ne)
      (λ g. absurd (never_made false g)) u f
  fact_decided a b (msg.BackupFinish u primary c) f =
      of_tx (λ z. Decided v z c) (λ z. Decided after z c) (λ z ne. said (λ ds en. ds ≡ c ∷ []) z ne)
      (λ g. absurd (never_made c g)) u f
  fact_decided a b m f = f

  uncommitted : (h : OwnShare) → (h.state ≡ Preparing) ⊎ (h.state ≡ Prepared) → is_share_committed h.state ≡ false
  uncommitted h (inl is) = ap is_share_committed is
  uncommitted h (inr is) = ap is_share_committed is

  own_here : (c : NodeId) (h : Option OwnShare) → v.share c t ≡ h → ShareFact v c t h → ShareFact after c t h
  own_here c None there f = tt
  own_here c (Some h) there (inl undone) = absurd (never_made false undone.0)
  own_here c (Some h) there (inr (inl done)) = absurd (never_made true done.0)
  own_here c (Some h) there (inr (inr votes)) =
      by_commit (ShareFact after c t (Some h)) (λ undone. inl (undone, uncommitted h votes.either))
      (λ done is.
      let r = votes_of votes.asking c votes.asked is in
      let some = r.own.there in
      let same : r.own.kept ≡ h = cc (some, there) in
      inr (inl (done, ap is_ready_state (subst (λ (y : OwnShare). y.state ≡ Prepared) same r.own.prepared))))

  backup_here : (h : Option BackupShare) → BackupFact v t h → BackupFact after t h
  backup_here None f = tt
  backup_here (Some h) f = λ committed. absurd (never_made true (f committed))

  backup_other : (u : TxId) → u ≢ t → (h : Option BackupShare) → BackupFact v u h → BackupFact after u h
  backup_other u ne None f = tt
  backup_other u ne (Some h) f = λ committed. said (λ ds en. ds ≡ true ∷ []) u ne (f committed)

  entry_now : (x : TxEntry) → entry t.node t ≡ Some x → EntryFact after t x
  entry_now x there =
      let now = step.now in
      let same : e2 ≡ x = cc (now, there) in
      subst (EntryFact after t) same (record {
        asks = λ before keyless. let none = step.before in absurd (cc (before, none));
        distinct = λ preparing. absurd (step.asks_no_more preparing);
        counted = λ preparing. absurd (step.asks_no_more preparing);
      })

  entry_other : VotesHold v → (u : TxId) → u ≢ t → (x : TxEntry) → entry u.node u ≡ Some x → EntryFact after u x
  entry_other i u ne x there =
      let same = step.others u ne in
      let f = i.entries u x (sym same.1 ∙ there) in
      subst (λ ds. EntryFactOf ds v.share v.backup u x) (sym same.0) f

  entry_any : VotesHold v → (u : TxId) (x : TxEntry) → entry u.node u ≡ Some x → EntryFact after u x
  entry_any i u = go (tx_tells u t)
    where
      go : ((same_tx u t ≡ true) × (u ≡ t)) ⊎ ((same_tx u t ≡ false) × (u ≢ t)) → (x : TxEntry) → entry u.node u ≡ Some x →
          EntryFact after u x
      go (inl same) = subst (λ (z : TxId). (x : TxEntry) → entry z.node z ≡ Some x → EntryFact after z x) (sym same.1) entry_now
      go (inr other) = entry_other i u other.1

  pub decide_keeps : VotesHold v → VotesHold after
  decide_keeps i = record {
    facts = λ a b y s. fact_decided a b y (i.facts a b y s);
    apart = i.apart;
    shares = λ c u. of_tx (λ z. ShareFact v c z (v.share c z)) (λ z. ShareFact after c z (v.share c z))
        (λ z ne. said (λ ds en. ShareFactOf ds en v.backup c z (v.share c z)) z ne) (own_here c (v.share c t) refl) u
        (i.shares c u);
    backups = λ c m. of_name c m (tx_tells m.tx t);
    entries = entry_any i;
  }
    where
      of_name : (c : NodeId) (m : BackupName) → ((same_tx m.tx t ≡ true) × (m.tx ≡ t))
          ⊎ ((same_tx m.tx t ≡ false) × (m.tx ≢ t)) → BackupFact after m.tx (v.backup c m)
      of_name c m (inl same) = subst (λ (z : TxId). BackupFact after z (v.backup c m)) (sym same.1)
          (backup_here (v.backup c m) (subst (λ (z : TxId). BackupFact v z (v.backup c m)) same.1 (i.backups c m)))
      of_name c m (inr other) = backup_other m.tx other.1 (v.backup c m) (i.backups c m)
