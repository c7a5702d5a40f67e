-- What stays true of a list when one more element comes to its end.
use Rattle.std.proofs.Common.{◌≡◌, ℕ, ◌+◌, Bool, true, false, List, [], ◌∷◌, ◌++◌, length, refl, ◌∙◌, arith}
use Rattle.std.specs.Prelude.{◌&&◌, ◌||◌, not, ◌==◌, nat_le}
use Rattle.std.specs.List.{list_all, list_any}
use Rattle.std.proofs.lemmas.Bool.{and_parts, and_from, not-true, eq-eqb}
use Rattle.std.proofs.lemmas.List.Folds.{list_all-append, list_any-append}
use Rattle.ignite_types.specs.Good.{are_distinct, count_up, has_cache_line, has_data_line, in_order, is_started, no_moment_falls}
use Rattle.ignite_types.specs.declared.scenario.Cache.{Cache}
use Rattle.ignite_types.specs.declared.scenario.PlanStep.{PlanStep}
use Rattle.scen_text.specs.Known.{rises}

pub pushed_all : {A : Type 0} (p : A → Bool) (xs : List A) (x : A) → list_all p xs ≡ true → p x ≡ true →
    list_all p (xs ++ x ∷ []) ≡ true
pushed_all p xs x h t = list_all-append p xs (x ∷ []) ∙ and_from (list_all p xs) (p x && true) h (and_from (p x) true t refl)

pub none_of : (a b : Bool) → (a || b) ≡ false → (a ≡ false) × (b ≡ false)
none_of false b h = (refl, h)
none_of true b h = cc

-- the new element is not the same as one before it
pub pushed_distinct : {A : Type 0} (same : A → A → Bool) (xs : List A) (x : A) → are_distinct same xs ≡ true →
    list_any (λ y. same y x) xs ≡ false
    → are_distinct same (xs ++ x ∷ []) ≡ true
pushed_distinct same [] x h n = refl
pushed_distinct same (y ∷ ys) x h n =
    let parts = and_parts (not (list_any (same y) ys)) (are_distinct same ys) h in
    let apart = none_of (same y x) (list_any (λ z. same z x) ys) n in
    let none : list_any (same y) ys ≡ false = not-true _ parts.0 in
    and_from (not (list_any (same y) (ys ++ x ∷ []))) (are_distinct same (ys ++ x ∷ []))
    (rw (list_any-append (same y) ys (x ∷ []), none, apart.0) refl)
    (pushed_distinct same ys x parts.1 apart.1)

-- the new moment is below none before it
pub pushed_moment : (plan : List PlanStep) (x : PlanStep) → no_moment_falls plan ≡ true → rises plan x.moment ≡ true →
    no_moment_falls (plan ++ x ∷ []) ≡ true
pushed_moment [] x h r = refl
pushed_moment (y ∷ []) x h r = r
pushed_moment (y ∷ z ∷ more) x h r =
    let parts = and_parts (nat_le y.moment z.moment) (no_moment_falls (z ∷ more)) h in
    and_from (nat_le y.moment z.moment) (no_moment_falls (z ∷ more ++ x ∷ [])) parts.0
    (pushed_moment (z ∷ more) x parts.1 (and_parts (nat_le y.moment x.moment) (rises (z ∷ more) x.moment) r).1)

pub pushed_count : (n : ℕ) (xs : List ℕ) (x : ℕ) → count_up n xs ≡ true → x ≡ n + length xs → count_up n (xs ++ x ∷ []) ≡ true
pushed_count n [] x h e = and_from (x == n) true (eq-eqb x n (omega (arith, e))) refl
pushed_count n (y ∷ ys) x h e =
    let parts = and_parts (y == n) (count_up (n + 1) ys) h in
    and_from (y == n) (count_up (n + 1) (ys ++ x ∷ [])) parts.0 (pushed_count (n + 1) ys x parts.1 (omega (arith, e)))

-- a cache may stand before one, in the order of the lines
abbrev pub may_precede : Cache → Cache → Bool
may_precede y x = has_cache_line y || (has_data_line y && not (has_cache_line x)) || (is_started y && is_started x)

abbrev pub shape : Bool → Bool → Bool → Bool → Bool → Bool → Bool
shape first is_data x_line x_started any all =
    (first && not is_data) || ((first && is_data) && not (any || (x_line || false)))
    || ((not first && not is_data) && (all && (x_started && true)))

may_stand : (first is_data x_line x_started any all : Bool)
    → ((first && not is_data) || ((first && is_data) && not any) || ((not first && not is_data) && all)) ≡ true
    → ((first && not is_data) || ((first && is_data) && not x_line) || ((not first && not is_data) && x_started)) ≡ true
    → shape first is_data x_line x_started any all ≡ true
may_stand true false x s any all h m = refl
may_stand true true false s false all h m = refl
may_stand true true true s any all h m = cc
may_stand true true x s true all h m = cc
may_stand false false x true any true h m = refl
may_stand false false x false any all h m = cc
may_stand false false x s any false h m = cc
may_stand false true x s any all h m = cc

pub pushed_order : (xs : List Cache) (x : Cache) → in_order xs ≡ true → list_all (λ y. may_precede y x) xs ≡ true →
    (has_cache_line x || has_data_line x || is_started x) ≡ true → in_order (xs ++ x ∷ []) ≡ true
pushed_order [] x h p k = alone x.first x.«data» k
  where
    alone : (f d : Bool) → ((f && not d) || (f && d) || (not f && not d)) ≡ true →
        (((f && not d) || ((f && d) && true) || ((not f && not d) && true)) && true) ≡ true
    alone true true k = refl
    alone true false k = refl
    alone false true k = k
    alone false false k = refl
pushed_order (y ∷ ys) x h p k =
    let parts = and_parts (has_cache_line y || (has_data_line y && not (list_any has_cache_line ys))
    || (is_started y && list_all is_started ys)) (in_order ys) h in
    let pre = and_parts (may_precede y x) (list_all (λ z. may_precede z x) ys) p in
    and_from (has_cache_line y || (has_data_line y && not (list_any has_cache_line (ys ++ x ∷ [])))
    || (is_started y && list_all is_started (ys ++ x ∷ []))) (in_order (ys ++ x ∷ []))
    (rw (list_any-append has_cache_line ys (x ∷ []), list_all-append is_started ys (x ∷ []))
    (may_stand y.first y.«data» (has_cache_line x) (is_started x) (list_any has_cache_line ys) (list_all is_started ys)
    parts.0 pre.0))
    (pushed_order ys x parts.1 pre.1 k)
