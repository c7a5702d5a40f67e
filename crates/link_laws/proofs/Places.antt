-- Places of lists: what stands where after a change, and where the first fitting one stands.
use Rattle.std.proofs.Common.{◌≡◌, ◌≢◌, ◌<◌, ◌⊎◌, inl, inr, List, [], ◌∷◌, Option, Some, None, Bool, true, false, map, ℕ, zero, suc, refl, ap, sym, subst, unwrap_or, get_or, cond, length, ◌∙◌, arith}
use Rattle.std.specs.Prelude.{nat_lt, position, slice_get, slice_set}
use Rattle.std.specs.List.{position_or_len}
use Rattle.std.specs.Option.{option_map}
use Rattle.std.proofs.lemmas.Bool.Decides.{nat_tests}
use Rattle.std.proofs.lemmas.Map.Lookups.{exact_unsigned}
use Rattle.std.specs.Cmp.{IsTotalOrder, on_total}
use Rattle.std.proofs.lemmas.Cmp.{nat_cmp_total}
use Rattle.std.specs.declared.cmp.Ordering.TheVariants.{Equal}
use Rattle.std.proofs.lemmas.Option.{get_or_from_slice_get, slice_get-get_or, slice_get-map, slice_get_within}
use Rattle.std.proofs.lemmas.List.Sums.{fails_before_first}
use Rattle.std.proofs.lemmas.List.Quantifiers.{position-Some}
use Rattle.ignite_types.specs.Names.{node_cmp, same_node}
use Rattle.ignite_types.specs.declared.names.NodeId.{NodeId}

pub same_node_turned : (a b : NodeId) → same_node a b ≡ true → same_node b a ≡ true
same_node_turned a b same = grind (arith, nat_tests)

pub node_apart : (a b : NodeId) → same_node a b ≡ false → node_cmp b a ≢ Equal
node_apart a b other tied =
    let is : b.0 ≡ a.0 = exact_unsigned b.0 a.0 tied in
    absurd (grind (arith, nat_tests))

pub some_is : {X : Type 0} (x y : X) → Some x ≡ Some y → x ≡ y
some_is x y is = ap (λ o. unwrap_or o x) is

abbrev pub SetAt : {X : Type 0} → List X → ℕ → X → ℕ → X → Type 0
SetAt xs k v j x = ((j ≡ k) × (v ≡ x)) ⊎ ((j ≢ k) × (slice_get xs j ≡ Some x))

set_behind : {X : Type 0} (y : X) (ys : List X) (k : ℕ) (v : X) (j : ℕ) (x : X) → SetAt ys k v j x →
    SetAt (y ∷ ys) (suc k) v (suc j) x
set_behind y ys k v j x (inl here) = inl (ap suc here.0, here.1)
set_behind y ys k v j x (inr there) = inr ((λ e. there.0 (omega (arith, e))), there.1)

-- what stands at a place of a list in which one place was set
pub after_set : {X : Type 0} (xs : List X) (k : ℕ) (v : X) (j : ℕ) (x : X) → slice_get (slice_set xs k v) j ≡ Some x →
    SetAt xs k v j x
after_set [] k v j x is = absurd (cc)
after_set (y ∷ ys) zero v zero x is = inl (refl, some_is v x is)
after_set (y ∷ ys) zero v (suc j) x is = inr ((λ e. absurd (omega (arith, e))), is)
after_set (y ∷ ys) (suc k) v zero x is = inr ((λ e. absurd (omega (arith, e))), is)
after_set (y ∷ ys) (suc k) v (suc j) x is = set_behind y ys k v j x (after_set ys k v j x is)

set_cases : {X : Type 0} (xs : List X) (k : ℕ) (v : X) (j : ℕ) (x : X) (P : ℕ → X → Type 0) → P k v →
    ((i : ℕ) (y : X) → i ≢ k → slice_get xs i ≡ Some y → P i y) → SetAt xs k v j x → P j x
set_cases xs k v j x P here there (inl at) = subst (λ i. P i x) (sym at.0) (subst (λ y. P k y) at.1 here)
set_cases xs k v j x P here there (inr at) = there j x at.0 at.1

-- a statement of each place of a list in which one place was set
pub set_elim : {X : Type 0} (xs : List X) (k : ℕ) (v : X) (P : ℕ → X → Type 0) → P k v →
    ((i : ℕ) (y : X) → i ≢ k → slice_get xs i ≡ Some y → P i y) → (j : ℕ) (x : X) → slice_get (slice_set xs k v) j ≡ Some x →
    P j x
set_elim xs k v P here there j x is = set_cases xs k v j x P here there (after_set xs k v j x is)

map_cases : {X Y : Type 0} (f : X → Y) (o : Option X) (y : Y) → option_map f o ≡ Some y → (x : X) × (o ≡ Some x) × (f x ≡ y)
map_cases f None y is = absurd (cc)
map_cases f (Some x) y is = (x, refl, some_is (f x) y is)

-- what stands at a place of a changed list
pub after_map : {X Y : Type 0} (f : X → Y) (xs : List X) (k : ℕ) (y : Y) → slice_get (map f xs) k ≡ Some y → (x : X)
    × (slice_get xs k ≡ Some x) × (f x ≡ y)
after_map f xs k y is = map_cases f (slice_get xs k) y (sym (slice_get-map f xs k) ∙ is)

-- the first that passes is one that passes
pub first_passes : {X : Type 0} (test : X → Bool) (xs : List X) (k : ℕ) (x : X) → position test xs ≡ Some k →
    slice_get xs k ≡ Some x → test x ≡ true
first_passes test xs k x first is =
    let found = position-Some test xs k x first in
    ap test (sym (get_or_from_slice_get xs k x x is)) ∙ found.1

pub record FirstAt {X : Type 0} (test : X → Bool) (xs : List X) : Type 0 where
  pub place : ℕ
  pub element : X
  pub first_is : position test xs ≡ Some place
  pub stands : slice_get xs place ≡ Some element
  pub passes : test element ≡ true

first_within : {X : Type 0} (test : X → Bool) (xs : List X) (k : ℕ) (x : X) → slice_get xs k ≡ Some x → test x ≡ true →
    position_or_len test xs < length xs
first_within test xs k x is passes =
    elim (nat_lt k (position_or_len test xs)) as (λ b. nat_lt k (position_or_len test xs) ≡ b →
    position_or_len test xs < length xs) [
      | true ↦ λ t.
          let fails = fails_before_first test xs k x (grind (arith, nat_tests, t)) in
          let passes_too : test (get_or xs k x) ≡ true = ap test (get_or_from_slice_get xs k x x is) ∙ passes in
          absurd (cc (fails, passes_too))
      | false ↦ λ f. let within = slice_get_within xs k x is in grind (arith, nat_tests, within, f)
    ] refl

position_is : {X : Type 0} (test : X → Bool) (xs : List X) → position_or_len test xs < length xs →
    position test xs ≡ Some (position_or_len test xs)
position_is test xs within =
    elim (nat_lt (position_or_len test xs) (length xs)) as (λ b. nat_lt (position_or_len test xs) (length xs) ≡ b →
    cond b (Some (position_or_len test xs)) None ≡ Some (position_or_len test xs)) [
      | true ↦ λ t. refl
      | false ↦ λ f. absurd (grind (arith, nat_tests, within, f))
    ] refl

none_passes : {X : Type 0} (test : X → Bool) (xs : List X) (k : ℕ) (x : X) → slice_get xs k ≡ Some x → test x ≡ true →
    position test xs ≢ None
none_passes test xs k x is passes none =
    let within = first_within test xs k x is passes in
    let shown = position_is test xs within in
    absurd (cc (none, shown))

-- where one passes, there is a first one
pub first_at : {X : Type 0} (test : X → Bool) (xs : List X) (k : ℕ) (x : X) → slice_get xs k ≡ Some x → test x ≡ true →
    FirstAt test xs
first_at test xs k x is passes =
    elim (position test xs) as (λ r. position test xs ≡ r → FirstAt test xs) [
      | None ↦ λ none. absurd (none_passes test xs k x is passes none)
      | Some j ↦ λ first.
          let found = position-Some test xs j x first in
          record {
            place = j;
            element = get_or xs j x;
            first_is = first;
            stands = slice_get-get_or xs j x found.0;
            passes =
                found.1;
          }
    ] refl
