-- What a node in the midst of its act writes, and how it keeps what is true of votes.
use Rattle.std.proofs.Common.{◌≡◌, ◌⊎◌, inl, inr, List, [], ◌∷◌, ◌++◌, true, false, if◌then◌else◌, Option, Some, None, refl, ap, sym, subst, ◌∙◌}
use Rattle.act_rows.specs.Steps.{backup_cmp, backup_name, entry_of, outs_to, share_of, with_backup, with_note, with_out, with_outs, with_share}
use Rattle.frame_laws.proofs.Extending.{append_none, append_twice}
use Rattle.ignite_types.proofs.NameLaws.{exact_txs, tx_total}
use Rattle.ignite_types.specs.Names.{same_node, tx_cmp}
use Rattle.ignite_types.specs.declared.journal.Rec.{Rec}
use Rattle.ignite_types.specs.declared.message.Message.{Message}
use Rattle.ignite_types.specs.declared.message.Out.{Out}
use Rattle.ignite_types.specs.declared.names.NodeId.{NodeId}
use Rattle.ignite_types.specs.declared.names.TxId.{TxId}
use Rattle.ignite_types.specs.declared.placement.PartMap.{PartMap}
use Rattle.ignite_types.specs.declared.placement.Share.{Share}
use Rattle.ignite_types.specs.declared.placement.ShareState.TheVariants.{Prepared, Preparing}
use Rattle.journal_statements.specs.ShareLaws.{is_ready_state, is_share_committed}
use Rattle.node_state.specs.Node.{NodeState}
use Rattle.node_state.specs.declared.primary.BackupName.{BackupName}
use Rattle.node_state.specs.declared.primary.BackupShare.{BackupShare}
use Rattle.node_state.specs.declared.primary.OwnShare.{OwnShare}
use Rattle.ordered_table.proofs.Ascending as ascending
use Rattle.ordered_table.specs.Entries.{at, without}
use Rattle.owner_laws.proofs.LockViews.{of_node_me, sent_written, wrote_here}
use Rattle.owner_laws.specs.LockFacts.{Each, In}
use Rattle.transaction_laws.proofs.StarterFacts.{same_aside}
use Rattle.transaction_laws.proofs.Tables.{put_elim, without_elim}
use Rattle.transaction_laws.specs.StarterFacts.{decisions, is_aside}
use Rattle.vote_laws.proofs.Lists.{backup_total, exact_backups}
use Rattle.vote_laws.proofs.VoteSteps.{BackupStep, ShareStep, StaysReady, backup_keeps, fact_link, prepare_tells, push_keeps, share_keeps}
use Rattle.vote_laws.specs.VoteFacts.{a_share, APrepare, Decided, Fact, IsBackupReady, IsNew, PrepareComes, ShareFact, VotesHold, once}
use Rattle.vote_laws.specs.VoteInvariant.{VoterStands}
use Rattle.vote_laws.specs.VoteViews.{VoteAround, VoteView, backups_at, view_in_act}

-- what is true around a node, whose shares are in order
pub record VoteGood (m : PartMap) (around : VoteAround) (s : NodeState) : Type 0 where
  pub votes : VotesHold (view_in_act around s)
  pub stands : VoterStands m s

module _ (m : PartMap) (around : VoteAround) where
  abbrev pub V : NodeState → VoteView
  V s = view_in_act around s

  abbrev pub Good : NodeState → Type 0
  Good s = VoteGood m around s

  -- What the view shows of the acting node.

  pub own_entry : (s : NodeState) (tx : TxId) → tx.node ≡ s.me → (V s).entry tx.node tx ≡ entry_of s tx
  own_entry s tx own = subst (λ n. (V s).entry n tx ≡ entry_of s tx) (sym own)
      (ap (λ f. f tx) (of_node_me s.me (entry_of s) (entry_of (around.others s.me))))

  pub own_decided : (s : NodeState) (tx : TxId) → tx.node ≡ s.me →
      (V s).decided tx.node tx ≡ decisions tx (around.mine ++ s.noted)
  own_decided s tx own = subst (λ n. (V s).decided n tx ≡ decisions tx (around.mine ++ s.noted)) (sym own)
      (ap (decisions tx) (of_node_me s.me (around.mine ++ s.noted) (around.recs s.me)))

  pub own_share : (s : NodeState) (tx : TxId) → (V s).share s.me tx ≡ share_of s tx
  own_share s tx = ap (λ f. f tx) (of_node_me s.me (share_of s) (share_of (around.others s.me)))

  pub own_backup : (s : NodeState) (name : BackupName) → (V s).backup s.me name ≡ backups_at s name
  own_backup s name = ap (λ f. f name) (of_node_me s.me (backups_at s) (backups_at (around.others s.me)))

  -- Notes that decide nothing.

  pub noted_decided : (s : NodeState) (r : Rec) → is_aside r ≡ true → (n : NodeId) (tx : TxId) →
      (V (with_note s r)).decided n tx ≡ (V s).decided n tx
  noted_decided s r aside n tx =
      elim (same_node n s.me) as (λ c. decisions tx (if c then around.mine ++ (s.noted ++ r ∷ []) else around.recs n)
      ≡ decisions tx (if c then around.mine ++ s.noted else around.recs n)) [
        | true ↦ (same_aside around.mine s.noted r aside tx).0
        | false ↦ refl
      ]

  pub noting_good : (s : NodeState) (r : Rec) → is_aside r ≡ true → Good s → Good (with_note s r)
  noting_good s r aside i = record {
    votes = subst (λ d. VotesHold (record (V s) { decided = d })) (λ k. λ n tx. sym (noted_decided s r aside n tx) k) i.votes;
    stands = i.stands;
  }

  -- Messages.

  pub sent_good : (s : NodeState) (to : NodeId) (x : Message) → Fact (V s) s.me to x → IsNew x ((V s).flight s.me to) →
      Good s → Good (with_out s to x)
  sent_good s to x fact fresh i = record {
    votes = push_keeps (V s) (V (with_out s to x)).flight s.me to x
        (sent_written (record { others = around.others; link = around.link }) s to x) fact fresh i.votes;
    stands = i.stands;
  }

  -- those that come as often as they like
  abbrev pub Plain : NodeState → Out → Type 0
  Plain s o = Fact (V s) s.me o.to o.msg × (once o.msg ≡ None)

  pub plain_good : (s : NodeState) (to : NodeId) (x : Message) → Fact (V s) s.me to x → once x ≡ None → Good s →
      Good (with_out s to x)
  plain_good s to x fact plain i = sent_good s to x fact (λ y g there of_x of_y. cc (plain, of_x)) i

  pub sents_good : (s : NodeState) (outs : List Out) → Each (Plain s) outs → Good s → Good (with_outs s outs)
  sents_good s [] each i = subst (λ os. Good (record s { outbox = os })) (sym (append_none s.outbox)) i
  sents_good s (o ∷ outs) each i =
      let first = each o (inl refl) in
      subst (λ os. Good (record s { outbox = os })) (append_twice s.outbox (o ∷ []) outs)
      (sents_good (with_out s o.to o.msg) outs (λ x there. let more = each x (inr there) in
      (fact_link (V s) (V (with_out s o.to o.msg)).flight s.me x.to x.msg more.0, more.1))
      (plain_good s o.to o.msg first.0 first.1 i))

  pub to_each : (s : NodeState) (nodes : List NodeId) (x : Message) → ((n : NodeId) → Fact (V s) s.me n x) → once x ≡ None →
      Each (Plain s) (outs_to nodes x)
  to_each s [] x fact plain o there = absurd there
  to_each s (n ∷ nodes) x fact plain o (inl is) = subst (Plain s) (sym is) (fact n, plain)
  to_each s (n ∷ nodes) x fact plain o (inr there) = to_each s nodes x fact plain o there

  pub both_each : (s : NodeState) (xs ys : List Out) → Each (Plain s) xs → Each (Plain s) ys → Each (Plain s) (xs ++ ys)
  both_each s [] ys first second o there = second o there
  both_each s (x ∷ xs) ys first second o (inl is) = first o (inl is)
  both_each s (x ∷ xs) ys first second o (inr there) = both_each s xs ys (λ z h. first z (inr h)) second o there

  -- Own shares.

  pub with_share_good : (s : NodeState) (tx : TxId) (h : OwnShare) → ShareStep (V s) s.me tx (Some h) → Good s →
      Good (with_share s tx h)
  with_share_good s tx h step i = record {
    votes = share_keeps (V s) (V (with_share s tx h)).share s.me tx (Some h)
        (wrote_here s.me (share_of s) (share_of (with_share s tx h)) (λ n. share_of (around.others n)) tx (Some h)
        (λ u. put_elim tx_cmp tx_total exact_txs (λ u x. ((u ≡ tx) × (x ≡ Some h)) ⊎ (x ≡ at tx_cmp s.shares u)) s.shares tx h
        (inl (refl, refl)) (λ u ne. inr refl) u))
        step i.votes;
    stands = let t = i.stands in record {
      installed_is = t.installed_is;
      seen_is = t.seen_is;
      shares_up =
          ascending.ascending_put tx_cmp tx_total s.shares tx h t.shares_up;
      backups_up = t.backups_up;
      none_left = t.none_left;
    };
  }

  pub without_share_good : (s : NodeState) (tx : TxId) → ShareStep (V s) s.me tx None → Good s →
      Good (record s { shares = without tx_cmp s.shares tx })
  without_share_good s tx step i = record {
    votes = share_keeps (V s) (V (record s { shares = without tx_cmp s.shares tx })).share s.me tx None
        (wrote_here s.me (share_of s) (share_of (record s { shares = without tx_cmp s.shares tx }))
        (λ n. share_of (around.others n)) tx None
        (λ u. without_elim tx_cmp tx_total exact_txs (λ u x. ((u ≡ tx) × (x ≡ None)) ⊎ (x ≡ at tx_cmp s.shares u)) s.shares tx
        i.stands.shares_up (inl (refl, refl)) (λ u ne. inr refl) u))
        step i.votes;
    stands = let t = i.stands in record {
      installed_is = t.installed_is;
      seen_is = t.seen_is;
      shares_up =
          ascending.ascending_without tx_cmp tx_total s.shares tx t.shares_up;
      backups_up = t.backups_up;
      none_left =
          t.none_left;
    };
  }

  pub share_there : (s : NodeState) (tx : TxId) (h : Option OwnShare) → share_of s tx ≡ h → Good s → ShareFact (V s) s.me tx h
  share_there s tx h there i = subst (ShareFact (V s) s.me tx) (own_share s tx ∙ there) (i.votes.shares s.me tx)

  -- where the share is there, a Prepare of it is of a transaction that was rolled back
  pub asked_there : (s : NodeState) (tx : TxId) (h : OwnShare) → share_of s tx ≡ Some h → Good s →
      (a : NodeId) (y : Message) → In y ((V s).flight a s.me) → once y ≡ Some (APrepare tx) → Decided (V s) tx false
  asked_there s tx h there i a y stands of_y = go (prepare_tells (V s) a s.me y tx (i.votes.facts a s.me y stands) of_y).1
    where
      go : Decided (V s) tx false ⊎ ((shares : List Share) × PrepareComes ((V s).decided tx.node tx) ((V s).entry tx.node tx)
          ((V s).share s.me tx) s.me shares) → Decided (V s) tx false
      go (inl undone) = undone
      go (inr comes) = let none = sym (own_share s tx) ∙ comes.1.none in absurd (cc (none, there))

  -- a share changes which is no vote, or stays one
  pub change_good : (s : NodeState) (tx : TxId) (h h2 : OwnShare) → share_of s tx ≡ Some h → ShareFact (V s) s.me tx (Some h2)
      → (h.state ≡ Prepared → h.askers ≡ [] → (h2.state ≡ Prepared) × (h2.askers ≡ []) × (h2.shares ≡ h.shares)) → Good s →
      Good (with_share s tx h2)
  change_good s tx h h2 there fact keep i = with_share_good s tx h2 (record {
    fact = fact;
    asked = λ a y stands of_y. inl (asked_there s tx h there i a y stands of_y);
    ready = inr stays;
    commits = λ a y stands of_y. stays;
  }) i
    where
      stays : StaysReady ((V s).share s.me tx) (Some h2)
      stays r =
          let some = sym (own_share s tx) ∙ r.there in
          let same : r.kept ≡ h = cc (some, there) in
          let k = keep (subst (λ (z : OwnShare). z.state ≡ Prepared) same r.prepared)
          (subst (λ (z : OwnShare). z.askers ≡ []) same r.idle) in
          (record { kept = h2; there = refl; prepared = k.0; idle = k.1 }, k.2 ∙ sym (ap (λ (z : OwnShare). z.shares) same))

  -- what a share's fact speaks of is the same
  pub same_fact : (s : NodeState) (n : NodeId) (tx : TxId) (h h2 : OwnShare) → h2.shares ≡ h.shares → h2.state ≡ h.state →
      h2.awaited ≡ h.awaited → h2.askers ≡ h.askers → ShareFact (V s) n tx (Some h) → ShareFact (V s) n tx (Some h2)
  same_fact s n tx h h2 shares st awaited askers (inl undone) =
      inl (undone.0, subst (λ z. is_share_committed z ≡ false) (sym st) undone.1)
  same_fact s n tx h h2 shares st awaited askers (inr (inl done)) =
      inr (inl (done.0, subst (λ z. is_ready_state z ≡ true) (sym st) done.1))
  same_fact s n tx h h2 shares st awaited askers (inr (inr votes)) = inr (inr (record {
    undecided = votes.undecided;
    asking = votes.asking;
    same = shares ∙ votes.same;
    asked = votes.asked;
    idle = askers ∙ votes.idle;
    either = subst (λ z. (z ≡ Preparing) ⊎ (z ≡ Prepared)) (sym st) votes.either;
    backups = λ holder has other. one holder (votes.backups holder (subst (In (a_share holder n)) shares has) other);
  }))
    where
      one : (holder : NodeId) → ((h.state ≡ Preparing) × In holder h.awaited)
          ⊎ IsBackupReady ((V s).backup holder (backup_name tx n)) → ((h2.state ≡ Preparing) × In holder h2.awaited)
          ⊎ IsBackupReady ((V s).backup holder (backup_name tx n))
      one holder (inl waits) = inl (st ∙ waits.0, subst (In holder) (sym awaited) waits.1)
      one holder (inr ready) = inr ready

  -- Shares that are held for other primaries.

  pub with_backup_good : (s : NodeState) (tx : TxId) (primary : NodeId) (h : BackupShare) →
      BackupStep (V s) s.me (backup_name tx primary) (Some h) → Good s → Good (with_backup s tx primary h)
  with_backup_good s tx primary h step i = record {
    votes = backup_keeps (V s) (V (with_backup s tx primary h)).backup s.me (backup_name tx primary) (Some h)
        (wrote_here s.me (backups_at s) (backups_at (with_backup s tx primary h)) (λ n. backups_at (around.others n))
        (backup_name tx primary) (Some h)
        (λ u. put_elim backup_cmp backup_total exact_backups (λ u x. ((u ≡ backup_name tx primary) × (x ≡ Some h))
        ⊎ (x ≡ at backup_cmp s.backups u)) s.backups (backup_name tx primary) h (inl (refl, refl)) (λ u ne. inr refl) u))
        step i.votes;
    stands = let t = i.stands in record {
      installed_is = t.installed_is;
      seen_is = t.seen_is;
      shares_up = t.shares_up;
      backups_up = ascending.ascending_put backup_cmp backup_total s.backups (backup_name tx primary) h t.backups_up;
      none_left = t.none_left;
    };
  }

  pub without_backup_good : (s : NodeState) (name : BackupName) → BackupStep (V s) s.me name None → Good s →
      Good (record s { backups = without backup_cmp s.backups name })
  without_backup_good s name step i = record {
    votes = backup_keeps (V s) (V (record s { backups = without backup_cmp s.backups name })).backup s.me name None
        (wrote_here s.me (backups_at s) (backups_at (record s { backups = without backup_cmp s.backups name }))
        (λ n. backups_at (around.others n)) name None
        (λ u. without_elim backup_cmp backup_total exact_backups (λ u x. ((u ≡ name) × (x ≡ None))
        ⊎ (x ≡ at backup_cmp s.backups u)) s.backups name i.stands.backups_up (inl (refl, refl)) (λ u ne. inr refl) u))
        step i.votes;
    stands = let t = i.stands in record {
      installed_is = t.installed_is;
      seen_is = t.seen_is;
      shares_up = t.shares_up;
      backups_up = ascending.ascending_without backup_cmp backup_total s.backups name t.backups_up;
      none_left = t.none_left;
    };
  }
