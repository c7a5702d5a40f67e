-- More records tell no less of commit decisions; and the small steps of rows keep what stands behind them.
use Rattle.std.proofs.Common.{◌≡◌, ◌++◌, ◌||◌, List, [], ◌∷◌, Option, Some, None, Bool, true, false, refl, ap, sym, subst, ◌∙◌}
use Rattle.std.specs.List.{list_all}
use Rattle.std.specs.Option.{is_none}
use Rattle.commit_laws.specs.CommitFacts.{FaceFits, KeepsCommits, OutboxFits, is_backed, is_backed_out, is_committed_one}
use Rattle.commit_laws.specs.CommitLaws.{is_committed_record}
use Rattle.commit_laws.specs.CommitSteps.{CommitFace, CommitKit, committed_by, ends_only, is_end_of, is_no_apply, is_tame_out}
use Rattle.frame_laws.proofs.Extending.{append_twice}
use Rattle.ignite_types.proofs.NameLaws.{same_tx_itself, same_tx_true}
use Rattle.ignite_types.specs.Names.{same_tx}
use Rattle.ignite_types.specs.declared.journal.Rec.{Rec}
use Rattle.ignite_types.specs.declared.message.Message.{Message}
use Rattle.ignite_types.specs.declared.message.Out.{Out}
use Rattle.ignite_types.specs.declared.names.NodeId.{NodeId}
use Rattle.ignite_types.specs.declared.names.TxId.{TxId}
use Rattle.journal_statements.specs.Noted.{Noted, each_from, is_commit_in, is_committed_before, noted_by}
use Rattle.link_laws.proofs.Journals.{each_both, first_rest}
use Rattle.node_state.specs.Node.{NodeState}
use Rattle.transaction_laws.proofs.LeavesStarters.{all_of_both}
use Rattle.ignite_types.specs.declared.journal.Rec.TheVariants as note

-- Decisions stay.

pub committed_more : (recs more : List Noted) (tx : TxId) → is_committed_before recs tx ≡ true →
    is_committed_before (recs ++ more) tx ≡ true
committed_more [] more tx none = absurd (cc (none))
committed_more (n ∷ ns) more tx is =
    elim (is_commit_in tx n.rec) as (λ c. (c || is_committed_before ns tx) ≡ true → (c || is_committed_before (ns ++ more) tx)
    ≡ true) [
      | true ↦ λ here. refl
      | false ↦ λ later. committed_more ns more tx later
    ] is

pub committed_last : (recs more : List Noted) (tx : TxId) → is_committed_before more tx ≡ true →
    is_committed_before (recs ++ more) tx ≡ true
committed_last [] more tx is = is
committed_last (n ∷ ns) more tx is =
    elim (is_commit_in tx n.rec) as (λ c. (c || is_committed_before (ns ++ more) tx) ≡ true) [
      | true ↦ refl
      | false ↦ committed_last ns more tx is
    ]

one_more : (recs more : List Noted) (o : Option TxId) → is_committed_one recs o ≡ true →
    is_committed_one (recs ++ more) o ≡ true
one_more recs more None is = refl
one_more recs more (Some tx) is = committed_more recs more tx is

pub message_more : (recs more : List Noted) (m : Message) → is_backed recs m ≡ true → is_backed (recs ++ more) m ≡ true
message_more recs more m is = one_more recs more (committed_by m) is

pub messages_more : (recs more : List Noted) (ms : List Message) → list_all (is_backed recs) ms ≡ true →
    list_all (is_backed (recs ++ more)) ms ≡ true
messages_more recs more [] all = refl
messages_more recs more (m ∷ ms) all =
    let both = first_rest (is_backed recs m) (list_all (is_backed recs) ms) all in
    rw (message_more recs more m both.0) (messages_more recs more ms both.1)

pub outs_more : (recs more : List Noted) (os : List Out) → list_all (is_backed_out recs) os ≡ true →
    list_all (is_backed_out (recs ++ more)) os ≡ true
outs_more recs more [] all = refl
outs_more recs more (o ∷ os) all =
    let both = first_rest (is_backed_out recs o) (list_all (is_backed_out recs) os) all in
    rw (message_more recs more o.msg both.0) (outs_more recs more os both.1)

-- What is sent.

tame_one : (recs : List Noted) (o : Option TxId) → is_none o ≡ true → is_committed_one recs o ≡ true
tame_one recs None tame = refl
tame_one recs (Some tx) tame = absurd (cc (tame))

tame_backed : (recs : List Noted) (os : List Out) → list_all is_tame_out os ≡ true → list_all (is_backed_out recs) os ≡ true
tame_backed recs [] all = refl
tame_backed recs (o ∷ os) all =
    let both = first_rest (is_tame_out o) (list_all is_tame_out os) all in
    rw (tame_one recs (committed_by o.msg) both.0) (tame_backed recs os both.1)

end_one : (recs : List Noted) (tx : TxId) (commit : Bool) (o : Option TxId) →
    (commit ≡ true → is_committed_before recs tx ≡ true) → ends_only tx commit o ≡ true → is_committed_one recs o ≡ true
end_one recs tx commit None known ends = refl
end_one recs tx commit (Some u) known ends =
    let both = first_rest (same_tx u tx) commit ends in
    subst (λ (x : TxId). is_committed_before recs x ≡ true) (sym (same_tx_true u tx both.0)) (known both.1)

end_backed : (recs : List Noted) (tx : TxId) (commit : Bool) (os : List Out) →
    (commit ≡ true → is_committed_before recs tx ≡ true) → list_all (is_end_of tx commit) os ≡ true →
    list_all (is_backed_out recs) os ≡ true
end_backed recs tx commit [] known all = refl
end_backed recs tx commit (o ∷ os) known all =
    let both = first_rest (is_end_of tx commit o) (list_all (is_end_of tx commit) os) all in
    rw (end_one recs tx commit (committed_by o.msg) known both.0) (end_backed recs tx commit os known both.1)

-- An outbox and the records.

pub fits_more : (recs more : List Noted) (outbox : List Out) → each_from is_committed_record recs more ≡ true →
    OutboxFits recs outbox → OutboxFits (recs ++ more) outbox
fits_more recs more outbox fit f = record {
  outs = outs_more recs more outbox f.outs;
  applied = each_both is_committed_record [] recs more f.applied fit;
}

fits_sent : (recs : List Noted) (outbox sent : List Out) → list_all (is_backed_out recs) sent ≡ true →
    OutboxFits recs outbox → OutboxFits recs (outbox ++ sent)
fits_sent recs outbox sent backed f = record {
  outs = all_of_both (is_backed_out recs) outbox sent f.outs backed;
  applied =
      f.applied;
}

noted_more : (who : Option NodeId) (xs ys : List Rec) → noted_by who (xs ++ ys) ≡ noted_by who xs ++ noted_by who ys
noted_more who [] ys = refl
noted_more who (x ∷ xs) ys = ap (λ (rest : List Noted). record { node = who; rec = x } ∷ rest) (noted_more who xs ys)

-- what a node has noted so far, and more
grown : (past : List Noted) (who : Option NodeId) (xs ys : List Rec) → (past ++ noted_by who xs) ++ noted_by who ys ≡ past
    ++ noted_by who (xs ++ ys)
grown past who xs ys = append_twice past (noted_by who xs) (noted_by who ys) ∙ ap (λ (rest : List Noted). past ++ rest)
    (sym (noted_more who xs ys))

silent_one : (recs : List Noted) (who : Option NodeId) (r : Rec) → is_no_apply r ≡ true →
    each_from is_committed_record recs (noted_by who (r ∷ [])) ≡ true
silent_one recs who (note.Apply tx top primary key new ver) none = absurd (cc (none))
silent_one recs who _ none = refl

-- The small steps.

module _ (past : List Noted) (n : NodeId) where
  abbrev pub Known : TxId → Type 0
  Known tx = is_committed_before past tx ≡ true

  abbrev recs_in : List Rec → List Noted
  recs_in rs = past ++ noted_by (Some n) rs

  noting_keeps : (noted : List Rec) (outbox : List Out) (r : Rec) →
      each_from is_committed_record (recs_in noted) (noted_by (Some n) (r ∷ [])) ≡ true → OutboxFits (recs_in noted) outbox →
      OutboxFits (recs_in (noted ++ r ∷ [])) outbox
  noting_keeps noted outbox r fit f = subst (λ (rs : List Noted). OutboxFits rs outbox) (grown past (Some n) noted (r ∷ []))
      (fits_more (recs_in noted) (noted_by (Some n) (r ∷ [])) outbox fit f)

  decided_in : (noted : List Rec) (tx : TxId) (commit : Bool) → commit ≡ true →
      is_committed_before (recs_in (noted ++ note.Decide tx commit ∷ [])) tx ≡ true
  decided_in noted tx commit is =
      subst (λ (rs : List Noted). is_committed_before rs tx ≡ true) (grown past (Some n) noted (note.Decide tx commit ∷ []))
      (committed_last (recs_in noted) (noted_by (Some n) (note.Decide tx commit ∷ [])) tx (rw (same_tx_itself tx, is) refl))

  decided_keeps : (a b : NodeState) (tx : TxId) (commit : Bool) (outs : List Out) → b.noted ≡ a.noted ++ note.Decide tx commit
      ∷ [] → b.outbox ≡ a.outbox ++ outs → list_all (is_end_of tx commit) outs ≡ true → KeepsCommits past n a b
  decided_keeps a b tx commit outs noted sent ends f =
      let noting : List Rec = a.noted ++ note.Decide tx commit ∷ [] in
      let first : OutboxFits (recs_in noting) a.outbox = noting_keeps a.noted a.outbox (note.Decide tx commit) refl f in
      let last : OutboxFits (recs_in noting) (a.outbox ++ outs) =
      fits_sent (recs_in noting) a.outbox outs (end_backed (recs_in noting) tx commit outs (decided_in a.noted tx commit)
      ends) first in
      subst (λ (os : List Out). OutboxFits (recs_in b.noted) os) (sym sent)
      (subst (λ (rs : List Rec). OutboxFits (recs_in rs) (a.outbox ++ outs)) (sym noted) last)

  pub commit_kit : CommitKit Known (KeepsCommits past n)
  commit_kit = record {
    nothing = λ s f. f;
    andthen = λ a b c first second f. second (first f);
    aside = λ a b same f. subst (λ (x : CommitFace). FaceFits past n x) (sym same) f;
    noting = λ s r none f. noting_keeps s.noted s.outbox r (silent_one (recs_in s.noted) (Some n) r none) f;
    sent_all = λ s outs tame f. fits_sent (recs_in s.noted) s.outbox outs (tame_backed (recs_in s.noted) outs tame) f;
    applied = λ s tx top primary w known f. noting_keeps s.noted s.outbox (note.Apply tx top primary w.key w.value w.ver)
        (rw (committed_more past (noted_by (Some n) s.noted) tx known) refl) f;
    finished = λ s tx outs known ends f. fits_sent (recs_in s.noted) s.outbox outs
        (end_backed (recs_in s.noted) tx true outs (λ is. committed_more past (noted_by (Some n) s.noted) tx known) ends) f;
    decided = λ a b tx commit outs noted sent ends f. decided_keeps a b tx commit outs noted sent ends f;
  }
