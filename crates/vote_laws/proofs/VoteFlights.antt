-- Messages that are taken or lost.
use Rattle.std.proofs.Common.{◌≡◌, ◌⊎◌, inl, inr, List, [], ◌∷◌, ◌++◌, refl, sym, subst}
use Rattle.ignite_types.specs.declared.message.Message.{Message}
use Rattle.ignite_types.specs.declared.names.NodeId.{NodeId}
use Rattle.owner_laws.proofs.Flights.{Popped, in_before}
use Rattle.owner_laws.specs.LockFacts.{Each, In}
use Rattle.vote_laws.proofs.VoteSteps.{fact_link}
use Rattle.vote_laws.specs.VoteFacts.{Apart, Fact, IsNew, VotesHold}
use Rattle.vote_laws.specs.VoteViews.{VoteView}

pub pop_keeps : (v : VoteView) (flight : NodeId → NodeId → List Message) (from to : NodeId) (x : Message) →
    Popped v.flight flight from to x → VotesHold v → VotesHold (record v { flight = flight }) × Fact v from to x
    × IsNew x (flight from to)
pop_keeps v flight from to x pop i =
    let first : Each (Fact v from to) (x ∷ flight from to) = subst (Each (Fact v from to)) pop.taken (i.facts from to) in
    let apart : Apart (x ∷ flight from to) = subst Apart pop.taken (i.apart from to) in (
      record {
        facts = λ a b y s. fact_link v flight a b y (each a b (pop.others a b) y s);
        apart = λ a b. once_each a b (pop.others a b);
        shares = i.shares;
        backups = i.backups;
        entries = i.entries;
      },
      first x (inl refl),
      apart.0,
    )
  where
    each : (a b : NodeId) → ((a ≡ from) × (b ≡ to)) ⊎ (v.flight a b ≡ flight a b) → Each (Fact v a b) (flight a b)
    each a b (inl is) = subst (λ z. Each (Fact v z b) (flight z b)) (sym is.0)
        (subst (λ z. Each (Fact v from z) (flight from z)) (sym is.1) (λ y s. subst (Each (Fact v from to)) pop.taken
        (i.facts from to) y (inr s)))
    each a b (inr same) = subst (Each (Fact v a b)) same (i.facts a b)

    once_each : (a b : NodeId) → ((a ≡ from) × (b ≡ to)) ⊎ (v.flight a b ≡ flight a b) → Apart (flight a b)
    once_each a b (inl is) =
        subst (λ z. Apart (flight z b)) (sym is.0)
        (subst (λ z. Apart (flight from z)) (sym is.1) (subst Apart pop.taken (i.apart from to)).1)
    once_each a b (inr same) = subst Apart same (i.apart a b)

-- on each link the same, or one fewer
abbrev pub IsRest : List Message → List Message → Message → Type 0
IsRest before now x = (now ≡ before) ⊎ ((earlier : List Message) × (later : List Message) × (before ≡ earlier ++ x ∷ later)
    × (now ≡ earlier ++ later))

apart_without : (xs ys : List Message) (x : Message) → Apart (xs ++ x ∷ ys) → Apart (xs ++ ys)
apart_without [] ys x apart = apart.1
apart_without (z ∷ xs) ys x apart = (λ y g s. apart.0 y g (in_before xs ys x y s), apart_without xs ys x apart.1)

pub fewer_keeps : (v : VoteView) (flight : NodeId → NodeId → List Message) (x : Message) →
    ((a b : NodeId) → IsRest (v.flight a b) (flight a b) x) → VotesHold v → VotesHold (record v { flight = flight })
fewer_keeps v flight x rest i = record {
  facts = λ a b y s. fact_link v flight a b y (i.facts a b y (there a b y (rest a b) s));
  apart = λ a b. apart a b (rest a b);
  shares = i.shares;
  backups = i.backups;
  entries = i.entries;
}
  where
    there : (a b : NodeId) (y : Message) → IsRest (v.flight a b) (flight a b) x → In y (flight a b) → In y (v.flight a b)
    there a b y (inl same) s = subst (In y) same s
    there a b y (inr lost) s = subst (In y) (sym lost.2) (in_before lost.0 lost.1 x y (subst (In y) lost.3 s))

    apart : (a b : NodeId) → IsRest (v.flight a b) (flight a b) x → Apart (flight a b)
    apart a b (inl same) = subst Apart (sym same) (i.apart a b)
    apart a b (inr lost) = subst Apart (sym lost.3) (apart_without lost.0 lost.1 x (subst Apart lost.2 (i.apart a b)))
