-- Plain rows leave alone which version was seen last, and which is open.
use Rattle.std.proofs.Common.{◌≡◌, Bool, true, false, Option, Some, None, refl, ap, sym, subst, ◌∙◌}
use Rattle.act_rows.specs.Locks.{after_leave, after_lock_behind, after_pass_on, is_owner, owner_at}
use Rattle.act_rows.specs.Steps.{is_open, with_note}
use Rattle.frame_laws.specs.Kits.{ClosedUnderSteps, PlainFrame}
use Rattle.ignite_types.specs.Names.{same_top}
use Rattle.ignite_types.specs.declared.names.NodeId.{NodeId}
use Rattle.ignite_types.specs.declared.names.TopVer.{TopVer}
use Rattle.ignite_types.specs.declared.names.TxId.{TxId}
use Rattle.ignite_types.specs.declared.text.Key.{Key}
use Rattle.node_state.specs.Node.{NodeState}
use Rattle.ignite_types.specs.declared.journal.Rec.TheVariants as note

abbrev pub SameOpen : NodeState → NodeState → Type 0
SameOpen a b = (b.seen ≡ a.seen) × (b.opened ≡ a.opened)

placed : (s : NodeState) (from : NodeId) (tx : TxId) (top : TopVer) (key : Key) (owner : Option TxId) →
    SameOpen s (after_lock_behind s from tx top key owner)
placed s from tx top key None = (refl, refl)
placed s from tx top key (Some owner) = (refl, refl)

passed : (s : NodeState) (key : Key) (was_owner : Bool) (owner : Option TxId) → SameOpen s (after_pass_on s key was_owner owner)
passed s key true (Some next) = (refl, refl)
passed s key true None = (refl, refl)
passed s key false owner = (refl, refl)

pub same_open : ClosedUnderSteps SameOpen
same_open = record {
  nothing = λ s. (refl, refl);
  andthen = λ a b c first second. (second.0 ∙ first.0, second.1 ∙ first.1);
  aside = λ before after same. (ap (λ (f : PlainFrame). f.seen) same, ap (λ (f : PlainFrame). f.opened) same);
  noting = λ s r own lockless other. (refl, refl);
  sent_all = λ s outs plain. (refl, refl);
  placed = λ s from tx top key. placed s from tx top key (owner_at s key);
  released = λ s tx key. let after = with_note (after_leave s tx key) (note.Drop tx key) in
      passed after key (is_owner tx (owner_at s key)) (owner_at after key);
  owned = λ s tx top key free. (refl, refl);
}

pub still_open : (a b : NodeState) → SameOpen a b → is_open a a.opened ≡ true → is_open b b.opened ≡ true
still_open a b same free =
    ap (is_open b) same.1 ∙ by a.opened free
  where
    by : (o : Option TopVer) → is_open a o ≡ true → is_open b o ≡ true
    by None shut = absurd (cc (shut))
    by (Some top) is = subst (λ (v : TopVer). same_top top v ≡ true) (sym same.0) is
