-- Members of lists, first ones of queues, and functions written at two indices.
use Rattle.std.proofs.Common.{◌≡◌, ◌≢◌, ◌⊎◌, inl, inr, List, [], ◌∷◌, ◌++◌, true, false, if◌then◌else◌, not, Some, refl, ap, sym, subst, ◌∙◌}
use Rattle.part_model.specs.Queues.{queue_without}
use Rattle.ignite_types.specs.Names.{same_tx}
use Rattle.transaction_laws.proofs.Tables.{tx_tells}
use Rattle.ignite_types.specs.declared.message.Message.{Message}
use Rattle.ignite_types.specs.declared.names.TxId.{TxId}
use Rattle.owner_laws.specs.LockFacts.{Apart, Each, Entries, In, IsNew, Tag, is_live, once, owner, tagged}

pub In-push : {A : Type 0} (x y : A) (xs : List A) → In x (xs ++ y ∷ []) → In x xs ⊎ (x ≡ y)
In-push x y [] (inl e) = inr e
In-push x y [] (inr h) = absurd h
In-push x y (z ∷ zs) (inl e) = inl (inl e)
In-push x y (z ∷ zs) (inr h) = go (In-push x y zs h)
  where
    go : In x zs ⊎ (x ≡ y) → In x (z ∷ zs) ⊎ (x ≡ y)
    go (inl i) = inl (inr i)
    go (inr e) = inr e

pub each_push : {A : Type 0} (P : A → Type 0) (xs : List A) (y : A) → Each P xs → P y → Each P (xs ++ y ∷ [])
each_push P xs y each here x i = go (In-push x y xs i)
  where
    go : In x xs ⊎ (x ≡ y) → P x
    go (inl i) = each x i
    go (inr e) = subst P (sym e) here

pub owner_in_queue : (q : List TxId) (t : TxId) → owner q ≡ Some t → In t q
owner_in_queue [] t e = absurd (cc)
owner_in_queue (x ∷ q) t e = inl (cc)

pub owner_push : (q : List TxId) (u t : TxId) → owner q ≡ Some t → owner (q ++ u ∷ []) ≡ Some t
owner_push [] u t e = absurd (cc)
owner_push (x ∷ q) u t e = e

pub in_left : (t u : TxId) (q : List TxId) → In u (queue_without t q) → In u q × (u ≢ t)
in_left t u [] i = absurd i
in_left t u (x ∷ q) i = go (tx_tells x t) (in_left t u q) i
  where
    go : ((same_tx x t ≡ true) × (x ≡ t)) ⊎ ((same_tx x t ≡ false) × (x ≢ t)) →
        (In u (queue_without t q) → In u q × (u ≢ t)) →
        In u (if not (same_tx x t) then x ∷ queue_without t q else queue_without t q) → In u (x ∷ q) × (u ≢ t)
    go (inl e) more i = let rest = more (rw e.0 at i) in (inr rest.0, rest.1)
    go (inr e) more i = here (rw e.0 at i)
      where
        here : (u ≡ x) ⊎ In u (queue_without t q) → In u (x ∷ q) × (u ≢ t)
        here (inl h) = (inl h, λ z. e.1 (sym h ∙ z))
        here (inr h) = let rest = more h in (inr rest.0, rest.1)

pub owner_left : (t u : TxId) (q : List TxId) → owner q ≡ Some u → u ≢ t → owner (queue_without t q) ≡ Some u
owner_left t u [] e ne = absurd (cc)
owner_left t u (x ∷ q) e ne = go (tx_tells x t)
  where
    go : ((same_tx x t ≡ true) × (x ≡ t)) ⊎ ((same_tx x t ≡ false) × (x ≢ t)) →
        owner (if not (same_tx x t) then x ∷ queue_without t q else queue_without t q) ≡ Some u
    go (inl h) = absurd (ne (cc))
    go (inr h) = rw h.0 e

-- Functions of two indices, written at one place.

abbrev pub Wrote : {I J A : Type 0} → (I → J → A) → (I → J → A) → I → J → A → Type 0
Wrote f g i j x = (a : _) (b : _) → ((a ≡ i) × (b ≡ j) × (g a b ≡ x)) ⊎ (g a b ≡ f a b)

pub wrote_elim : {I J A : Type 0} (P : I → J → A → Type 0) (f g : I → J → A) (i : I) (j : J) (x : A) → Wrote f g i j x →
    P i j x → ((a : I) (b : J) → P a b (f a b)) → (a : I) (b : J) → P a b (g a b)
wrote_elim P f g i j x w here rest a b = go (w a b)
  where
    go : ((a ≡ i) × (b ≡ j) × (g a b ≡ x)) ⊎ (g a b ≡ f a b) → P a b (g a b)
    go (inl e) = subst (λ z. P a b z) (sym e.2) (subst (λ z. P a z x) (sym e.1) (subst (λ z. P z j x) (sym e.0) here))
    go (inr e) = subst (λ z. P a b z) (sym e) (rest a b)

-- messages that come once

pub apart_push : (entry : Entries) (xs : List Message) (x : Message) → Apart entry xs → IsNew entry x xs →
    Apart entry (xs ++ x ∷ [])
apart_push entry [] x apart fresh = (λ y g live i. absurd i, tt)
apart_push entry (z ∷ zs) x apart fresh = (
  λ y g live i of_z of_y. go y g live of_z of_y (In-push y x zs i),
  apart_push entry zs x apart.1 (λ y g live i. fresh y g live (inr i)),
)
  where
    go : (y : Message) (g : Tag) → is_live entry (tagged g) ≡ true → once z ≡ Some g → once y ≡ Some g → In y zs ⊎ (y ≡ x) → ⊥
    go y g live of_z of_y (inl i) = apart.0 y g live i of_z of_y
    go y g live of_z of_y (inr e) = fresh z g live (inl refl) (ap once (sym e) ∙ of_y) of_z

-- fewer are undecided
pub apart_fewer : (before after : Entries) (xs : List Message) →
    ((t : TxId) → is_live after t ≡ true → is_live before t ≡ true) → Apart before xs → Apart after xs
apart_fewer before after [] fewer apart = tt
apart_fewer before after (x ∷ xs) fewer apart = (
  λ y g live. apart.0 y g (fewer (tagged g) live),
  apart_fewer before after xs fewer apart.1,
)
