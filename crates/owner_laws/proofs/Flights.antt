-- Messages that are taken, moved or lost.
use Rattle.std.proofs.Common.{◌≡◌, ◌⊎◌, inl, inr, List, [], ◌∷◌, ◌++◌, refl, sym, subst}
use Rattle.ignite_types.specs.declared.message.Message.{Message}
use Rattle.ignite_types.specs.declared.names.NodeId.{NodeId}
use Rattle.ignite_types.specs.declared.placement.PartMap.{PartMap}
use Rattle.owner_laws.proofs.LockSteps.{fact_link}
use Rattle.owner_laws.specs.LockFacts.{Apart, Each, Entries, Fact, In, IsNew, Locks}
use Rattle.owner_laws.specs.LockViews.{View}

-- the first message of a link is taken
pub record Popped (before after : NodeId → NodeId → List Message) (from to : NodeId) (x : Message) : Type 0 where
  pub taken : before from to ≡ x ∷ after from to
  pub others : (a b : NodeId) → ((a ≡ from) × (b ≡ to)) ⊎ (before a b ≡ after a b)

pub pop_keeps : (m : PartMap) (v : View) (flight : NodeId → NodeId → List Message) (from to : NodeId) (x : Message) →
    Popped v.flight flight from to x → Locks m v → Locks m (record v { flight = flight }) × Fact m v from to x
    × IsNew v.entry x (flight from to)
pop_keeps m v flight from to x pop i =
    let first : Each (Fact m v from to) (x ∷ flight from to) = subst (Each (Fact m v from to)) pop.taken (i.facts from to) in
    let apart : Apart v.entry (x ∷ flight from to) = subst (Apart v.entry) pop.taken (i.apart from to) in (
      record {
        facts = λ a b y s. fact_link m v flight a b y (each a b (pop.others a b) y s);
        apart = λ a b. once_each a b (pop.others a b);
        places = i.places;
        shares = i.shares;
        keys = i.keys;
      },
      first x (inl refl),
      apart.0,
    )
  where
    each : (a b : NodeId) → ((a ≡ from) × (b ≡ to)) ⊎ (v.flight a b ≡ flight a b) → Each (Fact m v a b) (flight a b)
    each a b (inl is) = subst (λ z. Each (Fact m v z b) (flight z b)) (sym is.0)
        (subst (λ z. Each (Fact m v from z) (flight from z)) (sym is.1) (λ y s. subst (Each (Fact m v from to)) pop.taken
        (i.facts from to) y (inr s)))
    each a b (inr same) = subst (Each (Fact m v a b)) same (i.facts a b)

    once_each : (a b : NodeId) → ((a ≡ from) × (b ≡ to)) ⊎ (v.flight a b ≡ flight a b) → Apart v.entry (flight a b)
    once_each a b (inl is) = subst (λ z. Apart v.entry (flight z b)) (sym is.0)
        (subst (λ z. Apart v.entry (flight from z)) (sym is.1) (subst (Apart v.entry) pop.taken (i.apart from to)).1)
    once_each a b (inr same) = subst (Apart v.entry) same (i.apart a b)

-- no message that was not there, and none twice
pub record Fewer (before after : NodeId → NodeId → List Message) : Type 0 where
  pub there : (a b : NodeId) (x : Message) → In x (after a b) → In x (before a b)
  pub apart : (entry : Entries) (a b : NodeId) → Apart entry (before a b) → Apart entry (after a b)

pub fewer_keeps : (m : PartMap) (v : View) (flight : NodeId → NodeId → List Message) → Fewer v.flight flight → Locks m v →
    Locks m (record v { flight = flight })
fewer_keeps m v flight f i = record {
  facts = λ a b y s. fact_link m v flight a b y (i.facts a b y (f.there a b y s));
  apart = λ a b. f.apart v.entry a b (i.apart a b);
  places = i.places;
  shares = i.shares;
  keys = i.keys;
}

pub in_before : (xs ys : List Message) (x y : Message) → In y (xs ++ ys) → In y (xs ++ x ∷ ys)
in_before [] ys x y s = inr s
in_before (z ∷ xs) ys x y (inl e) = inl e
in_before (z ∷ xs) ys x y (inr s) = inr (in_before xs ys x y s)

pub apart_without : (entry : Entries) (xs ys : List Message) (x : Message) → Apart entry (xs ++ x ∷ ys) → Apart entry (xs ++ ys)
apart_without entry [] ys x apart = apart.1
apart_without entry (z ∷ xs) ys x apart = (
  λ y g live s. apart.0 y g live (in_before xs ys x y s),
  apart_without entry xs ys x apart.1,
)
