-- The laws of votes and ends, of the scene in which a run ends.
use Rattle.std.proofs.Common.{◌≡◌, ◌⊎◌, inl, inr, ℕ, [], Bool, true, false, Some, length, ap, subst, ◌∙◌}
use Rattle.act_rows.specs.Steps.{entry_of}
use Rattle.ignite_types.specs.declared.journal.Journal.{Journal}
use Rattle.ignite_types.specs.declared.message.Message.TheVariants as msg
use Rattle.ignite_types.specs.declared.names.NodeId.{NodeId}
use Rattle.ignite_types.specs.declared.names.TxId.{TxId}
use Rattle.ignite_types.specs.declared.placement.ShareState.TheVariants.{Prepared, Preparing}
use Rattle.journal_statements.specs.Noted.{recs_of}
use Rattle.journal_statements.specs.ShareLaws.{is_ready_state, is_share_committed}
use Rattle.node_state.specs.declared.near.TxEntry.{TxEntry}
use Rattle.node_state.specs.declared.near.TxState.TheVariants as state
use Rattle.node_state.specs.declared.primary.OwnShare.{OwnShare}
use Rattle.owner_laws.proofs.OwnerLaws.{groups_still}
use Rattle.owner_laws.specs.LockFacts.{In}
use Rattle.owner_laws.specs.OwnerInvariant.{stands_still}
use Rattle.owner_laws.specs.OwnerLaws.{topology_stands}
use Rattle.scenes.proofs.EachRun.{directory_told, few}
use Rattle.scenes.specs.EachRun.{IsRunOf, is_short_run, last_scene}
use Rattle.scenes.specs.Scenes.{Scene}
use Rattle.transaction_laws.proofs.CountedRuns.{counted_holds}
use Rattle.transaction_laws.specs.StarterFacts.{EntryFits, EntryFitsAt, decided_as}
use Rattle.transaction_laws.specs.StarterInvariant.{StarterInvariant}
use Rattle.vote_laws.proofs.VoteEvents.{votes_lead, votes_open}
use Rattle.vote_laws.specs.VoteFacts.{BackupFact, Decided, IsDecided, IsReady, ShareFact, VotesHold}
use Rattle.vote_laws.specs.VoteInvariant.{VoteInvariant, VotesFit}
use Rattle.vote_laws.specs.VoteLaws.{EndsStand, VotesStand}
use Rattle.vote_laws.specs.VoteViews.{VoteView, vote_view}

module _ (k : ℕ) (sc : Scene) (starters : StarterInvariant k sc) (votes : VotesHold (vote_view sc)) where
  abbrev v : VoteView
  v = vote_view sc

  -- while a starter awaits answers to its Prepare it has decided nothing
  undecided : (tx : TxId) (e : TxEntry) → entry_of (sc.state tx.node) tx ≡ Some e → e.state ≡ state.Preparing →
      v.decided tx.node tx ≡ []
  undecided tx e there preparing =
      let fits : EntryFits tx.node (recs_of tx.node sc.recs) _ tx e =
      subst (EntryFitsAt tx.node (recs_of tx.node sc.recs) _ tx) there ((starters.nodes tx.node).starter.entries tx) in
      fits.decided ∙ ap decided_as preparing

  counts : (tx : TxId) (e : TxEntry) (primary : NodeId) → v.entry tx.node tx ≡ Some e → e.state ≡ state.Preparing →
      In primary e.asked → In primary e.awaited ⊎ IsReady (v.share primary tx) v.backup tx primary e.shares
  counts tx e primary there preparing asked = go ((votes.entries tx e there).counted preparing primary asked)
    where
      go : IsDecided (v.decided tx.node tx) ⊎ In primary e.awaited
          ⊎ IsReady (v.share primary tx) v.backup tx primary e.shares → In primary e.awaited
          ⊎ IsReady (v.share primary tx) v.backup tx primary e.shares
      go (inl made) = absurd (let is = made.1 in let none = undecided tx e there preparing in cc (is, none))
      go (inr rest) = rest

  pub are_true : VotesStand sc
  are_true = record {
    counted = counts;
    prepared_comes = λ from to tx there. votes.facts from to (msg.Prepared tx) there;
  }

  finish_tells : (from to : NodeId) (tx : TxId) (commit : Bool) → In (msg.Finish tx commit) (v.flight from to) →
      Decided v tx commit
  finish_tells from to tx true there = (votes.facts from to (msg.Finish tx true) there).1
  finish_tells from to tx false there = votes.facts from to (msg.Finish tx false) there

  committed_share : (node : NodeId) (tx : TxId) (h : OwnShare) → ShareFact v node tx (Some h) →
      is_share_committed h.state ≡ true → Decided v tx true
  committed_share node tx h (inl undone) is = absurd (let not_so = undone.1 in cc (is, not_so))
  committed_share node tx h (inr (inl done)) is = done.0
  committed_share node tx h (inr (inr open_vote)) is = absurd (by open_vote.either)
    where
      by : (h.state ≡ Preparing) ⊎ (h.state ≡ Prepared) → ⊥
      by (inl st) = let no_commit = ap is_share_committed st in cc (is, no_commit)
      by (inr st) = let no_commit = ap is_share_committed st in cc (is, no_commit)

  ready_share : (node : NodeId) (tx : TxId) (h : OwnShare) → ShareFact v node tx (Some h) → Decided v tx true →
      is_ready_state h.state ≡ true
  ready_share node tx h (inl undone) is = absurd (let rolled = undone.0 in cc (is, rolled))
  ready_share node tx h (inr (inl done)) is = done.1
  ready_share node tx h (inr (inr open_vote)) is = absurd (let none = open_vote.undecided in cc (is, none))

  pub are_decided : EndsStand sc
  are_decided = record {
    finish_comes = finish_tells;
    commit_comes = λ from to tx there. (votes.facts from to (msg.Finish tx true) there).2;
    backup_finish_comes = λ from to tx primary commit there. votes.facts from to (msg.BackupFinish tx primary commit) there;
    own_committed = λ node tx h there. committed_share node tx h (subst (ShareFact v node tx) there (votes.shares node tx));
    own_ready = λ node tx h there. ready_share node tx h (subst (ShareFact v node tx) there (votes.shares node tx));
    backup_committed = λ node name h there. subst (BackupFact v name.tx) there (votes.backups node name);
  }

-- Of every run.

module _ (events : ℕ) (short : is_short_run events ≡ true) (j : Journal) (run : IsRunOf events j)
    (stands : topology_stands j.scenario ≡ true) where
  holds : VoteInvariant (length j.groups) (last_scene j)
  holds = counted_holds VoteInvariant votes_lead (λ s is. votes_open s) j run.is_good (few events short j run) run.is_legal

  fits : VotesFit (last_scene j)
  fits = holds.votes (ap stands_still (directory_told events short j run) ∙ groups_still j.scenario.plan stands j.groups)

  pub votes_stand : VotesStand (last_scene j)
  votes_stand = are_true (length j.groups) (last_scene j) holds.owners.starters fits.votes

  pub ends_stand : EndsStand (last_scene j)
  ends_stand = are_decided (length j.groups) (last_scene j) holds.owners.starters fits.votes
