-- Tables of lists of which no empty one is kept.
use Rattle.std.proofs.Common.{List, None, Option, Some, [], ap, inl, inr, refl, unwrap_or, ◌≡◌, ◌≢◌, ◌∙◌, ◌∷◌, ◌++◌}
use Rattle.std.specs.Cmp.{IsTotalOrder}
use Rattle.std.specs.Ordering.{match_ordering}
use Rattle.std.specs.declared.cmp.Ordering.{Ordering}
use Rattle.std.specs.declared.cmp.Ordering.TheVariants.{Less, Equal, Greater}
use Rattle.hash_table.proofs.Ordered.{put_below_all}
use Rattle.ordered_table.proofs.Ascending.{ascending_put, ascending_without, below_all-equal}
use Rattle.ordered_table.proofs.Laws as laws
use Rattle.ordered_table.specs.Entries.{at, put, without}
use Rattle.ordered_table.specs.Places.{IsAscending}
use Rattle.entry_candidates.proofs.Orders.{same_or_apart}
use Rattle.entry_candidates.specs.Placing.{IsTidy}

-- an empty list is not kept
abbrev pub with_list : {K X : Type 0} → (K → K → Ordering) → List (K × List X) → K → List X → List (K × List X)
with_list cmp es k [] = without cmp es k
with_list cmp es k (x ∷ xs) = put cmp es k (x ∷ xs)

-- a key without a value is not taken out
pub without_absent : {K V : Type 0} (cmp : K → K → Ordering) (es : List (K × V)) (k : K) → at cmp es k ≡ None →
    without cmp es k ≡ es
without_absent cmp [] k none = refl
without_absent cmp (e ∷ es) k none =
    elim (cmp k e.0) as (λ r. match_ordering r None (Some e.1) (at cmp es k) ≡ None →
    match_ordering r (e ∷ es) es (e ∷ without cmp es k) ≡ e ∷ es) [
      | Less ↦ λ h. refl
      | Equal ↦ λ h. absurd (cc)
      | Greater ↦ λ h. ap (λ r. e ∷ r) (without_absent cmp es k h)
    ] none

same_pair : {K V : Type 0} (k : K) (v : V) (e : K × V) → k ≡ e.0 → Some e.1 ≡ Some v → (k, v) ≡ e
same_pair k v e key is = let value : v ≡ e.1 = cc in let pair : (k, v) ≡ (e.0, e.1) = cc in pair

module _ {K V : Type 0} (cmp : K → K → Ordering) (exact : (x y : K) → cmp x y ≡ Equal → x ≡ y) where
  -- what a key has, put at it once more
  pub put_same : (es : List (K × V)) (k : K) (v : V) → at cmp es k ≡ Some v → put cmp es k v ≡ es
  put_same [] k v is = absurd (cc)
  put_same (e ∷ es) k v is =
      elim (cmp k e.0) as (λ r. cmp k e.0 ≡ r → match_ordering r None (Some e.1) (at cmp es k) ≡ Some v →
      match_ordering r ((k, v) ∷ e ∷ es) ((k, v) ∷ es) (e ∷ put cmp es k v) ≡ e ∷ es) [
        | Less ↦ λ g h. absurd (cc)
        | Equal ↦ λ g h. ap (λ (x : K × V). x ∷ es) (same_pair k v e (exact k e.0 g) h)
        | Greater ↦ λ g h. ap (λ r. e ∷ r) (put_same es k v h)
      ] refl is

  module _ (o : IsTotalOrder cmp) where
    -- a value that was put aside and comes back
    pub put_back : (es : List (K × V)) (k : K) (v w : V) → at cmp es k ≡ Some v → put cmp (put cmp es k w) k v ≡ es
    put_back es k v w is = laws.put_put cmp o es k w v ∙ put_same es k v is

    -- a key that was taken out and is put in again
    put_without : (es : List (K × V)) (k : K) (v : V) → IsAscending cmp es → put cmp (without cmp es k) k v ≡ put cmp es k v
    put_without [] k v up = refl
    put_without (e ∷ es) k v up =
        elim (cmp k e.0) as (λ r. cmp k e.0 ≡ r → put cmp (match_ordering r (e ∷ es) es (e ∷ without cmp es k)) k v
        ≡ match_ordering r ((k, v) ∷ e ∷ es) ((k, v) ∷ es) (e ∷ put cmp es k v)) [
          | Less ↦ λ g. rw g
          | Equal ↦ λ g. put_below_all cmp es k v (below_all-equal cmp o k e.0 es g up.0)
          | Greater ↦ λ g. rw g (ap (λ r. e ∷ r) (put_without es k v up.1))
        ] refl

module _ {K X : Type 0} (cmp : K → K → Ordering) (exact : (x y : K) → cmp x y ≡ Equal → x ≡ y) (o : IsTotalOrder cmp) where
  -- a list is put back in place of an empty one
  pub list_back : (es : List (K × List X)) (k : K) (xs ys : List X) →
      with_list cmp (put cmp es k xs) k ys ≡ with_list cmp es k ys
  list_back es k xs [] = laws.without_put cmp o es k xs
  list_back es k xs (y ∷ ys) = laws.put_put cmp o es k xs (y ∷ ys)

  -- the last of two lists that are put at a key stays
  pub list_again : (es : List (K × List X)) (k : K) (xs ys : List X) → IsAscending cmp es →
      with_list cmp (with_list cmp es k xs) k ys ≡ with_list cmp es k ys
  list_again es k [] [] up = without_absent cmp (without cmp es k) k (laws.at_without cmp o es k up)
  list_again es k [] (y ∷ ys) up = put_without cmp exact o es k (y ∷ ys) up
  list_again es k (x ∷ xs) ys up = list_back es k (x ∷ xs) ys

  same_of : (es : List (K × List X)) (k : K) (found : Option (List X)) → at cmp es k ≡ found → found ≢ Some [] →
      with_list cmp es k (unwrap_or found []) ≡ es
  same_of es k None is filled = without_absent cmp es k is
  same_of es k (Some []) is filled = absurd (filled refl)
  same_of es k (Some (x ∷ xs)) is filled = put_same cmp exact es k (x ∷ xs) is

  -- what a key has, put at it once more
  pub list_same : (es : List (K × List X)) (k : K) → at cmp es k ≢ Some [] → with_list cmp es k (unwrap_or (at cmp es k) [])
      ≡ es
  list_same es k filled = same_of es k (at cmp es k) refl filled

  -- a key has the list that was put there
  pub list_there : (es : List (K × List X)) (k : K) (xs : List X) → IsAscending cmp es →
      unwrap_or (at cmp (with_list cmp es k xs) k) [] ≡ xs
  list_there es k [] up = rw (laws.at_without cmp o es k up)
  list_there es k (x ∷ xs) up = rw (laws.at_put_same cmp o es k (x ∷ xs))

  -- and any other key has what it had
  pub at_other : (es : List (K × List X)) (k q : K) (xs : List X) → IsAscending cmp es → cmp q k ≢ Equal →
      at cmp (with_list cmp es k xs) q ≡ at cmp es q
  at_other es k q [] up other = laws.at_without_other cmp o es k q up other
  at_other es k q (x ∷ xs) up other = laws.at_put_other cmp o es k q (x ∷ xs) other

  never_empty : (es : List (K × List X)) (k : K) (xs : List X) → IsAscending cmp es → at cmp (with_list cmp es k xs) k ≢ Some []
  never_empty es k [] up = λ h. let none = laws.at_without cmp o es k up in absurd (cc)
  never_empty es k (x ∷ xs) up = λ h. let some = laws.at_put_same cmp o es k (x ∷ xs) in absurd (cc)

  list_ascends : (es : List (K × List X)) (k : K) (xs : List X) → IsAscending cmp es → IsAscending cmp (with_list cmp es k xs)
  list_ascends es k [] up = ascending_without cmp o es k up
  list_ascends es k (x ∷ xs) up = ascending_put cmp o es k (x ∷ xs) up

  pub tidy_list : (es : List (K × List X)) (k : K) (xs : List X) → IsTidy cmp es → IsTidy cmp (with_list cmp es k xs)
  tidy_list es k xs tidy = record {
    ascending = list_ascends es k xs tidy.ascending;
    filled = λ q.
        elim (same_or_apart cmp exact q k) [
          | inl same ↦ rw same (never_empty es k xs tidy.ascending)
          | inr apart ↦ rw (at_other es k q xs tidy.ascending apart) (tidy.filled q)
        ];
  }

  -- a list with an item more is not empty
  pub put_list : (es : List (K × List X)) (k : K) (xs : List X) (x : X) → with_list cmp es k (xs ++ x ∷ []) ≡ put cmp es k
      (xs ++ x ∷ [])
  put_list es k [] x = refl
  put_list es k (y ∷ ys) x = refl
