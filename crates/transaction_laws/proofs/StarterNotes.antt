-- What more records leave of a node's notes and lists.
use Rattle.std.proofs.Common.{◌≡◌, ◌++◌, ◌&&◌, ◌||◌, inl, inr, ℕ, List, [], ◌∷◌, Bool, true, false, if◌then◌else◌, Option, Some, refl, ap, sym, subst, ◌∙◌}
use Rattle.std.specs.List.{list_all, list_any}
use Rattle.std.specs.Prelude.{slice_get, suc, zero}
use Rattle.std.proofs.lemmas.List.Folds.{list_any-append}
use Rattle.frame_laws.proofs.Extending.{append_none, append_twice}
use Rattle.ignite_types.proofs.NameLaws.{same_node_itself, same_top_itself}
use Rattle.ignite_types.specs.Names.{same_node, same_top}
use Rattle.ignite_types.specs.declared.journal.Rec.{Rec}
use Rattle.ignite_types.specs.declared.message.Message.{Message}
use Rattle.ignite_types.specs.declared.message.Orphan.{Orphan}
use Rattle.ignite_types.specs.declared.message.Out.{Out}
use Rattle.ignite_types.specs.declared.names.NodeId.{NodeId}
use Rattle.ignite_types.specs.declared.names.TopVer.{TopVer}
use Rattle.journal_statements.specs.Noted.{Noted, is_lost, is_lost_in, noted_by, recs_of}
use Rattle.journal_statements.specs.Versions.{is_opened_in}
use Rattle.link_laws.proofs.Journals.{first_rest}
use Rattle.map_laws.proofs.MapFrames.{recs_parts}
use Rattle.node_state.specs.declared.session.SessionState.{SessionState}
use Rattle.node_state.specs.declared.topology.Report.{Report}
use Rattle.part_model.specs.Orders.{is_node}
use Rattle.scenes.proofs.Sounds.{turned}
use Rattle.topology_laws.proofs.Lists.{each_change}
use Rattle.topology_laws.proofs.Records.{lost_more, or_first, or_second}
use Rattle.topology_laws.specs.TopologyFacts.{HoldsOfEach}
use Rattle.part_model.specs.Directory.{first_top}
use Rattle.ignite_types.specs.declared.journal.Rec.TheVariants as note
use Rattle.ignite_types.specs.declared.message.Message.TheVariants as msg
use Rattle.transaction_laws.specs.LeavesStarters.{is_no_list, sends_no_list}
use Rattle.transaction_laws.proofs.StarterFacts.{silent_aside}
use Rattle.transaction_laws.specs.StarterFacts.{is_aside, is_silent}
use Rattle.transaction_laws.specs.StarterNotes.{AreOwnOrLost, IsOwnOrLost, ListsFit, MessageNamesLost, NamesLost, NotesFit, OwnRecordFits, OwnRecordsFit, tells_no_loss, was_open_here}

-- Records that say nothing of starters, and tell of no loss.

pub all_aside : (rs : List Rec) → list_all is_silent rs ≡ true → list_all is_aside rs ≡ true
all_aside [] silent = refl
all_aside (r ∷ rs) silent = let both = first_rest (is_silent r) (list_all is_silent rs) silent in
    rw (silent_aside r both.0) (all_aside rs both.1)

pub all_lossless : (rs : List Rec) → list_all is_silent rs ≡ true → list_all tells_no_loss rs ≡ true
all_lossless [] silent = refl
all_lossless (r ∷ rs) silent = let both = first_rest (is_silent r) (list_all is_silent rs) silent in
    rw (one r both.0) (all_lossless rs both.1)
  where
    one : (r : Rec) → is_silent r ≡ true → tells_no_loss r ≡ true
    one (note.Lost node) s = absurd (cc (s))
    one r s = refl

pub lossless_by : (who : Option NodeId) (rs : List Rec) → list_all tells_no_loss rs ≡ true → (n : NodeId) →
    is_lost (noted_by who rs) n ≡ false
lossless_by who [] none n = refl
lossless_by who (r ∷ rs) none n = let both = first_rest (tells_no_loss r) (list_all tells_no_loss rs) none in
    rw (one r both.0) (lossless_by who rs both.1 n)
  where
    one : (r : Rec) → tells_no_loss r ≡ true → is_lost_in n r ≡ false
    one (note.Lost node) s = absurd (cc (s))
    one r s = refl

-- A version that was open here was so for ever.

pub was_open_more : (initial : Bool) (own more : List Rec) (top : TopVer) → was_open_here initial own top ≡ true →
    was_open_here initial (own ++ more) top ≡ true
was_open_more initial own more top is =
    (elim (same_top top first_top && initial) as (λ b. (b || list_any (is_opened_in top) own) ≡ true →
    (b || list_any (is_opened_in top) (own ++ more)) ≡ true) [
      | true ↦ λ first. refl
      | false ↦ λ later. list_any-append (is_opened_in top) own more ∙ or_first (list_any (is_opened_in top) own)
          (list_any (is_opened_in top) more) later
    ]) is

pub opened_now : (initial : Bool) (own : List Rec) (top : TopVer) → was_open_here initial (own ++ note.Opened top ∷ []) top
    ≡ true
opened_now initial own top =
    or_second (same_top top first_top && initial) (list_any (is_opened_in top) (own ++ note.Opened top ∷ []))
    (list_any-append (is_opened_in top) own (note.Opened top ∷ []) ∙ or_second (list_any (is_opened_in top) own)
    (list_any (is_opened_in top) (note.Opened top ∷ [])) (rw (same_top_itself top) refl))

-- Records of a node.

pub own_parts : (me : NodeId) (initial : Bool) (own xs ys : List Rec) → OwnRecordsFit me initial own xs →
    OwnRecordsFit me initial (own ++ xs) ys → OwnRecordsFit me initial own (xs ++ ys)
own_parts me initial own [] ys first second = subst (λ (rs : List Rec). OwnRecordsFit me initial rs ys) (append_none own) second
own_parts me initial own (x ∷ xs) ys first second = (
  first.0,
  own_parts me initial (own ++ x ∷ []) xs ys first.1 (subst (λ (rs : List Rec). OwnRecordsFit me initial rs ys)
      (sym (append_twice own (x ∷ []) xs)) second),
)

aside_fits : (me : NodeId) (initial : Bool) (own : List Rec) (r : Rec) → is_aside r ≡ true → OwnRecordFits me initial own r
aside_fits me initial own (note.Start tx top) silent = absurd (cc (silent))
aside_fits me initial own (note.Decide tx commit) silent = absurd (cc (silent))
aside_fits me initial own _ silent = tt

pub own_silent : (me : NodeId) (initial : Bool) (own rs : List Rec) → list_all is_aside rs ≡ true →
    OwnRecordsFit me initial own rs
own_silent me initial own [] silent = tt
own_silent me initial own (r ∷ rs) silent =
    let both = first_rest (is_aside r) (list_all is_aside rs) silent in
    (aside_fits me initial own r both.0, own_silent me initial (own ++ r ∷ []) rs both.1)

pub notes_more : (me : NodeId) (initial : Bool) (most : ℕ) (own more : List Rec) (session_states : List (ℕ × SessionState))
    (opened : Option TopVer) → list_all is_aside more ≡ true
    → NotesFit me initial most own session_states opened → NotesFit me initial most (own ++ more) session_states opened
notes_more me initial most own more session_states opened silent n = record {
  few = n.few;
  opened_is = λ top is. was_open_more initial own more top (n.opened_is top is);
  fit = own_parts me initial [] own more n.fit (own_silent me initial own more silent);
}

-- Records that are their node's own, or of lost starters.

aside_own : (recs : List Noted) (who : Option NodeId) (r : Rec) → is_aside r ≡ true → IsOwnOrLost recs who r
aside_own recs who (note.Start tx top) silent = absurd (cc (silent))
aside_own recs who (note.Decide tx commit) silent = absurd (cc (silent))
aside_own recs who _ silent = tt

pub each_aside : (recs : List Noted) (who : Option NodeId) (rs : List Rec) → list_all is_aside rs ≡ true →
    HoldsOfEach (IsOwnOrLost recs who) rs
each_aside recs who [] silent = tt
each_aside recs who (r ∷ rs) silent =
    let both = first_rest (is_aside r) (list_all is_aside rs) silent in
    (aside_own recs who r both.0, each_aside recs who rs both.1)

pub own_later : (recs more : List Noted) (who : Option NodeId) (r : Rec) → IsOwnOrLost recs who r →
    IsOwnOrLost (recs ++ more) who r
own_later recs more who (note.Start tx top) own = own
own_later recs more who (note.Decide tx commit) (inl own) = inl own
own_later recs more who (note.Decide tx commit) (inr lost) = inr (lost_more recs more tx.node lost)
own_later recs more who _ own = tt

pub own_or_lost_parts : (before xs ys : List Noted) → AreOwnOrLost before xs → AreOwnOrLost (before ++ xs) ys →
    AreOwnOrLost before (xs ++ ys)
own_or_lost_parts before [] ys first second = subst (λ (rs : List Noted). AreOwnOrLost rs ys) (append_none before) second
own_or_lost_parts before (x ∷ xs) ys first second = (
  first.0,
  own_or_lost_parts (before ++ x ∷ []) xs ys first.1 (subst (λ (rs : List Noted). AreOwnOrLost rs ys)
      (sym (append_twice before (x ∷ []) xs)) second),
)

-- what a node notes in its act
pub own_or_lost_by : (recs more : List Noted) (who : Option NodeId) (rs : List Rec) → HoldsOfEach (IsOwnOrLost recs who) rs →
    AreOwnOrLost (recs ++ more) (noted_by who rs)
own_or_lost_by recs more who [] all = tt
own_or_lost_by recs more who (r ∷ rs) all =
    let one : Noted = record { node = who; rec = r } in (
      own_later recs more who r all.0,
      subst (λ (xs : List Noted). AreOwnOrLost xs (noted_by who rs)) (sym (append_twice recs more (one ∷ [])))
          (own_or_lost_by recs (more ++ one ∷ []) who rs all.1),
    )

-- Lists.

names_later : (recs more : List Noted) (list : List Orphan) → NamesLost recs list → NamesLost (recs ++ more) list
names_later recs more list all = each_change (λ (o : Orphan). is_lost recs o.tx.node ≡ true)
    (λ (o : Orphan). is_lost (recs ++ more) o.tx.node ≡ true) list (λ o lost. lost_more recs more o.tx.node lost) all

pub message_later : (recs more : List Noted) (m : Message) → MessageNamesLost recs m → MessageNamesLost (recs ++ more) m
message_later recs more (msg.Orphans round list) named = names_later recs more list named
message_later recs more _ named = tt

pub lists_later : (recs more : List Noted) (left : List NodeId) (reports : List Report) (outbox : List Out) →
    ListsFit recs left reports outbox → ListsFit (recs ++ more) left reports outbox
lists_later recs more left reports outbox l = record {
  left_lost = each_change (λ (n : NodeId). is_lost recs n ≡ true) (λ (n : NodeId). is_lost (recs ++ more) n ≡ true) left
      (λ n lost. lost_more recs more n lost) l.left_lost;
  reports_lost = each_change (λ (r : Report). NamesLost recs r.list) (λ (r : Report). NamesLost (recs ++ more) r.list) reports
      (λ r named. names_later recs more r.list named) l.reports_lost;
  outbox_lost = each_change (λ (o : Out). MessageNamesLost recs o.msg) (λ (o : Out). MessageNamesLost (recs ++ more) o.msg)
      outbox (λ o named. message_later recs more o.msg named) l.outbox_lost;
}

no_list_named : (recs : List Noted) (m : Message) → is_no_list m ≡ true → MessageNamesLost recs m
no_list_named recs (msg.Orphans round list) listless = absurd (cc (listless))
no_list_named recs _ listless = tt

pub listless_named : (recs : List Noted) (outs : List Out) → list_all sends_no_list outs ≡ true →
    HoldsOfEach (λ (o : Out). MessageNamesLost recs o.msg) outs
listless_named recs [] listless = tt
listless_named recs (o ∷ os) listless =
    let both = first_rest (is_no_list o.msg) (list_all sends_no_list os) listless in
    (no_list_named recs o.msg both.0, listless_named recs os both.1)

-- Whose records these are.

pub own_recs : (n : NodeId) (recs : List Noted) (rs : List Rec) → recs_of n (recs ++ noted_by (Some n) rs) ≡ recs_of n recs
    ++ rs
own_recs n recs rs = recs_parts n recs (noted_by (Some n) rs) ∙ ap (λ (xs : List Rec). recs_of n recs ++ xs) (all_own rs)
  where
    all_own : (rs : List Rec) → recs_of n (noted_by (Some n) rs) ≡ rs
    all_own [] = refl
    all_own (r ∷ rs) = rw (same_node_itself n) (ap (λ (xs : List Rec). r ∷ xs) (all_own rs))

pub other_recs : (k n : NodeId) (recs : List Noted) (rs : List Rec) → same_node n k ≡ false →
    recs_of k (recs ++ noted_by (Some n) rs) ≡ recs_of k recs
other_recs k n recs rs other = recs_parts k recs (noted_by (Some n) rs) ∙ ap (λ (xs : List Rec). recs_of k recs ++ xs)
    (none_own rs) ∙ append_none (recs_of k recs)
  where
    none_own : (rs : List Rec) → recs_of k (noted_by (Some n) rs) ≡ []
    none_own [] = refl
    none_own (r ∷ rs) = rw (turned k n ∙ other) (none_own rs)

-- records that say nothing of starters, by whomever
pub silent_of : (n : NodeId) (more : List Noted) → list_all (λ (x : Noted). is_aside x.rec) more ≡ true →
    list_all is_aside (recs_of n more) ≡ true
silent_of n [] silent = refl
silent_of n (x ∷ xs) silent =
    let both = first_rest (is_aside x.rec) (list_all (λ (y : Noted). is_aside y.rec) xs) silent in
    by (is_node n x.node) (silent_of n xs both.1) both.0
  where
    by : (c : Bool) → list_all is_aside (recs_of n xs) ≡ true → is_aside x.rec ≡ true →
        list_all is_aside ((if c then x.rec ∷ [] else []) ++ recs_of n xs) ≡ true
    by true rest here = rw here rest
    by false rest here = rest

pub silent_own : (before more : List Noted) → list_all (λ (x : Noted). is_aside x.rec) more ≡ true → AreOwnOrLost before more
silent_own before [] silent = tt
silent_own before (x ∷ xs) silent =
    let both = first_rest (is_aside x.rec) (list_all (λ (y : Noted). is_aside y.rec) xs) silent in
    (aside_own before x.node x.rec both.0, silent_own (before ++ x ∷ []) xs both.1)

-- one of a list
pub each_at : {A : Type 0} (P : A → Type 0) (xs : List A) (k : ℕ) (x : A) → slice_get xs k ≡ Some x → HoldsOfEach P xs → P x
each_at P [] k x is all = absurd (cc (is))
each_at P (y ∷ ys) zero x is all = let same : y ≡ x = cc (is) in subst P same all.0
each_at P (y ∷ ys) (suc k) x is all = each_at P ys k x is all.1
