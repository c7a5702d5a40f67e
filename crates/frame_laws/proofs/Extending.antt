-- The small steps of rows, each of which extends the node.
use Rattle.std.proofs.Common.{◌≡◌, ◌++◌, ◌&&◌, List, [], ◌∷◌, Bool, true, false, refl, ap, sym, ◌∙◌, Option, Some, None}
use Rattle.std.specs.List.{list_all}
use Rattle.frame_laws.specs.Extending.{OnlyAppends, is_own}
use Rattle.ignite_types.specs.declared.journal.Rec.{Rec}
use Rattle.ignite_types.specs.declared.message.Out.{Out}
use Rattle.ignite_types.specs.declared.names.NodeId.{NodeId}
use Rattle.node_state.specs.Node.{NodeState}
use Rattle.frame_laws.specs.Kits.{ClosedUnderAllSteps, ClosedUnderSteps, PlainFrame}
use Rattle.act_rows.specs.Exchange.{after_install, after_learn, without_single, without_singles}
use Rattle.act_rows.specs.Locks.{after_grant, after_leave, after_lock_behind, after_pass_on, after_release, is_owner, owner_at, with_queued}
use Rattle.act_rows.specs.Steps.{installed_top, with_note, with_outs}
use Rattle.ignite_types.specs.declared.names.TopVer.{TopVer}
use Rattle.ignite_types.specs.declared.names.TxId.{TxId}
use Rattle.ignite_types.specs.declared.text.Key.{Key}
use Rattle.ignite_types.specs.declared.journal.Rec.TheVariants as note

pub append_none : {A : Type 0} (xs : List A) → xs ++ [] ≡ xs
append_none [] = refl
append_none (x ∷ xs) = ap (λ ys. x ∷ ys) (append_none xs)

pub append_twice : {A : Type 0} (xs ys zs : List A) → (xs ++ ys) ++ zs ≡ xs ++ (ys ++ zs)
append_twice [] ys zs = refl
append_twice (x ∷ xs) ys zs = ap (λ rest. x ∷ rest) (append_twice xs ys zs)

both_own : (xs ys : List Rec) → list_all is_own xs ≡ true → list_all is_own ys ≡ true → list_all is_own (xs ++ ys) ≡ true
both_own [] ys first second = second
both_own (x ∷ xs) ys first second =
    elim (is_own x) as (λ b. (b && list_all is_own xs) ≡ true → (b && list_all is_own (xs ++ ys)) ≡ true) [
      | true ↦ λ rest. both_own xs ys rest second
      | false ↦ λ none. absurd (cc)
    ] first

-- a change that touches neither the records, nor the outbox, nor the node's number, count and clock
pub aside : (before after : NodeState) → after.me ≡ before.me → after.acts ≡ before.acts → after.now ≡ before.now →
    after.noted ≡ before.noted → after.outbox ≡ before.outbox → OnlyAppends before after
aside before after me acts now noted outbox = record {
  same_me = me;
  same_acts = acts;
  same_now = now;
  more_noted = [];
  noted_is = noted ∙ sym (append_none before.noted);
  own = refl;
  more_sent = [];
  outbox_is = outbox ∙ sym (append_none before.outbox);
}

pub nothing : (s : NodeState) → OnlyAppends s s
nothing s = aside s s refl refl refl refl refl

-- one change after another
pub andthen : (a b c : NodeState) → OnlyAppends a b → OnlyAppends b c → OnlyAppends a c
andthen a b c first second = record {
  same_me = second.same_me ∙ first.same_me;
  same_acts = second.same_acts ∙ first.same_acts;
  same_now = second.same_now ∙ first.same_now;
  more_noted = first.more_noted ++ second.more_noted;
  noted_is = second.noted_is ∙ ap (λ rs. rs ++ second.more_noted) first.noted_is
      ∙ append_twice a.noted first.more_noted second.more_noted;
  own = both_own first.more_noted second.more_noted first.own second.own;
  more_sent = first.more_sent ++ second.more_sent;
  outbox_is = second.outbox_is ∙ ap (λ os. os ++ second.more_sent) first.outbox_is
      ∙ append_twice a.outbox first.more_sent second.more_sent;
}

-- the same with one more record
noted_extends : (before after : NodeState) (r : Rec) → is_own r ≡ true → after.me ≡ before.me → after.acts ≡ before.acts →
    after.now ≡ before.now → after.noted ≡ before.noted ++ r ∷ [] → after.outbox ≡ before.outbox → OnlyAppends before after
noted_extends before after r own me acts now noted outbox = record {
  same_me = me;
  same_acts = acts;
  same_now = now;
  more_noted = r ∷ [];
  noted_is = noted;
  own = rw own refl;
  more_sent = [];
  outbox_is = outbox ∙ sym (append_none before.outbox);
}

noting_extends : (s : NodeState) (r : Rec) → is_own r ≡ true → OnlyAppends s (with_note s r)
noting_extends s r own = noted_extends s (with_note s r) r own refl refl refl refl refl

sent_all_extends : (s : NodeState) (outs : List Out) → OnlyAppends s (with_outs s outs)
sent_all_extends s outs = record {
  same_me = refl;
  same_acts = refl;
  same_now = refl;
  more_noted = [];
  noted_is = sym (append_none s.noted);
  own = refl;
  more_sent = outs;
  outbox_is = refl;
}

enqueued_extends : (s : NodeState) (tx : TxId) (key : Key) → OnlyAppends s (with_queued s tx key)
enqueued_extends s tx key = aside s (with_queued s tx key) refl refl refl refl refl

grants_extends : (s : NodeState) (to : NodeId) (tx : TxId) (top : TopVer) (key : Key) →
    OnlyAppends s (after_grant s to tx top key)
grants_extends s to tx top key = andthen s (with_note s (note.Grant tx top key)) (after_grant s to tx top key)
    (noting_extends s (note.Grant tx top key) refl) (sent_all_extends (with_note s (note.Grant tx top key)) _)

placed_extends : (s : NodeState) (from : NodeId) (tx : TxId) (top : TopVer) (key : Key) (owner : Option TxId) →
    OnlyAppends s (after_lock_behind s from tx top key owner)
placed_extends s from tx top key None = andthen s (with_queued s tx key) (after_grant (with_queued s tx key) from tx top key)
    (enqueued_extends s tx key) (grants_extends (with_queued s tx key) from tx top key)
placed_extends s from tx top key (Some owner) =
    andthen s (with_queued s tx key) (with_note (with_queued s tx key) (note.Queue tx key owner)) (enqueued_extends s tx key)
    (noting_extends (with_queued s tx key) (note.Queue tx key owner) refl)

passed_on_extends : (s : NodeState) (key : Key) (was_owner : Bool) (owner : Option TxId) →
    OnlyAppends s (after_pass_on s key was_owner owner)
passed_on_extends s key true (Some next) = grants_extends s next.node next (installed_top s) key
passed_on_extends s key true None = nothing s
passed_on_extends s key false owner = nothing s

released_extends : (s : NodeState) (tx : TxId) (key : Key) → OnlyAppends s (after_release s tx key)
released_extends s tx key =
    let left = after_leave s tx key in
    let after = with_note left (note.Drop tx key) in
    andthen s after (after_release s tx key)
    (andthen s left after (aside s left refl refl refl refl refl) (noting_extends left (note.Drop tx key) refl))
    (passed_on_extends after key (is_owner tx (owner_at s key)) (owner_at after key))

-- every row extends the node
pub extending_plain : ClosedUnderSteps OnlyAppends
extending_plain = record {
  nothing = nothing;
  andthen = andthen;
  aside = λ before after same. aside before after (ap (λ (c : PlainFrame). c.me) same) (ap (λ (c : PlainFrame). c.acts) same)
      (ap (λ (c : PlainFrame). c.now) same) (ap (λ (c : PlainFrame). c.noted) same) (ap (λ (c : PlainFrame). c.outbox) same);
  noting = λ s r own lockless other. noting_extends s r own;
  sent_all = λ s outs plain. sent_all_extends s outs;
  placed = λ s from tx top key. placed_extends s from tx top key (owner_at s key);
  released = released_extends;
  owned = λ s tx top key free. andthen s (with_queued s tx key) (with_note (with_queued s tx key) (note.Grant tx top key))
      (enqueued_extends s tx key) (noting_extends (with_queued s tx key) (note.Grant tx top key) refl);
}

-- those of the exchange too
pub extending : ClosedUnderAllSteps OnlyAppends
extending = record {
  plain = extending_plain;
  learns = λ s event. aside s (after_learn s event) refl refl refl refl refl;
  keeps_single = λ s single. aside s (record s { singles = s.singles ++ single ∷ [] }) refl refl refl refl refl;
  drops_singles = λ s top. aside s (without_singles s top) refl refl refl refl refl;
  drops_lost = λ s who. aside s (without_single s who) refl refl refl refl refl;
  installs = λ s m. noted_extends s (after_install s m) (note.Install m) refl refl refl refl refl refl;
  exchanges = λ s x. aside s (record s { exchange = x }) refl refl refl refl refl;
  opens = λ s top. noted_extends s (with_note (record s { opened = Some top }) (note.Opened top)) (note.Opened top) refl refl
      refl refl refl refl;
  marks_single = λ s. aside s (record s { single_sent = Some s.seen }) refl refl refl refl refl;
  sends = sent_all_extends;
}
