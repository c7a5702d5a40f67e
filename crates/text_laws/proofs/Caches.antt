-- What distinct names say of the caches, and of any list.
use Rattle.std.proofs.Common.{◌≡◌, ℕ, ◌<◌, Bool, true, false, zero, suc, List, [], ◌∷◌, ◌++◌, length, refl, sym, ◌∙◌, subst, arith}
use Rattle.std.specs.Prelude.{◌&&◌, ◌||◌, not, nat_lt, bytes_eq, slice_get, Some}
use Rattle.std.specs.Cmp.Lexicographic.{bytes_decides, nat_list_eq_equiv}
use Rattle.std.specs.List.{list_all, list_any, position_or_len}
use Rattle.std.proofs.lemmas.Bool.{and_parts, and_left, and_right, or_parts, or_from, not-true, not_from_false, and_from, lt-ltb}
use Rattle.std.proofs.lemmas.List.Folds.{list_any-append}
use Rattle.ignite_types.specs.Good.{are_distinct, same_cache_name}
use Rattle.ignite_types.specs.declared.scenario.Cache.{Cache}
use Rattle.scen_text.specs.Known.{cache_place}

-- any list

pub at_any : {A : Type 0} (p : A → Bool) (xs : List A) (n : ℕ) (c : A) → list_any p xs ≡ false → slice_get xs n ≡ Some c →
    p c ≡ false
at_any p [] n c h e = absurd (cc)
at_any p (x ∷ xs) zero c h e = let same : x ≡ c = cc in subst (λ y. p y ≡ false) same (or_parts (p x) (list_any p xs) h).0
at_any p (x ∷ xs) (suc n) c h e = at_any p xs n c (or_parts (p x) (list_any p xs) h).1 e

pub at_all : {A : Type 0} (p : A → Bool) (xs : List A) (n : ℕ) (c : A) → list_all p xs ≡ true → slice_get xs n ≡ Some c →
    p c ≡ true
at_all p [] n c h e = absurd (cc)
at_all p (x ∷ xs) zero c h e = let same : x ≡ c = cc in subst (λ y. p y ≡ true) same (and_parts (p x) (list_all p xs) h).0
at_all p (x ∷ xs) (suc n) c h e = at_all p xs n c (and_parts (p x) (list_all p xs) h).1 e

pub get_front : {A : Type 0} (xs ys : List A) (n : ℕ) (c : A) → slice_get xs n ≡ Some c → slice_get (xs ++ ys) n ≡ Some c
get_front [] ys n c e = absurd (cc)
get_front (x ∷ xs) ys zero c e = e
get_front (x ∷ xs) ys (suc n) c e = get_front xs ys n c e

pub get_at : {A : Type 0} (xs ys : List A) (c : A) → slice_get (xs ++ c ∷ ys) (length xs) ≡ Some c
get_at [] ys c = refl
get_at (x ∷ xs) ys c = get_at xs ys c

-- an element that is none of the second list is one of the first
pub front_of : {A : Type 0} (xs ys : List A) (n : ℕ) (c : A) → slice_get (xs ++ ys) n ≡ Some c →
    ((k : ℕ) → slice_get ys k ≡ Some c → ⊥) → slice_get xs n ≡ Some c
front_of [] ys n c e f = absurd (f n e)
front_of (x ∷ xs) ys zero c e f = e
front_of (x ∷ xs) ys (suc n) c e f = front_of xs ys n c e f

pub get_within : {A : Type 0} (xs : List A) (n : ℕ) (c : A) → slice_get xs n ≡ Some c → n < length xs
get_within [] n c e = absurd (cc)
get_within (x ∷ xs) zero c e = omega arith
get_within (x ∷ xs) (suc n) c e = let l = get_within xs n c e in omega arith

-- an element of a distinct list is none before it
pub new_one : {A : Type 0} (same : A → A → Bool) (xs : List A) (x : A) (ys : List A) →
    are_distinct same (xs ++ x ∷ ys) ≡ true → list_any (λ y. same y x) xs ≡ false
new_one same [] x ys h = refl
new_one same (y ∷ xs) x ys h =
    let parts = and_parts (not (list_any (same y) (xs ++ x ∷ ys))) (are_distinct same (xs ++ x ∷ ys)) h in
    let none : (list_any (same y) xs || (same y x || list_any (same y) ys)) ≡ false =
    sym (list_any-append (same y) xs (x ∷ ys)) ∙ not-true _ parts.0 in
    let behind = (or_parts (list_any (same y) xs) (same y x || list_any (same y) ys) none).1 in
    or_from (same y x) _ (or_parts (same y x) (list_any (same y) ys) behind).0 (new_one same xs x ys parts.1)

pub distinct_front : {A : Type 0} (same : A → A → Bool) (xs ys : List A) → are_distinct same (xs ++ ys) ≡ true →
    are_distinct same xs ≡ true
distinct_front same [] ys h = refl
distinct_front same (x ∷ xs) ys h =
    let parts = and_parts (not (list_any (same x) (xs ++ ys))) (are_distinct same (xs ++ ys)) h in
    let none : (list_any (same x) xs || list_any (same x) ys) ≡ false = sym (list_any-append (same x) xs ys)
    ∙ not-true _ parts.0 in
    and_from (not (list_any (same x) xs)) (are_distinct same xs)
    (not_from_false _ (or_parts (list_any (same x) xs) (list_any (same x) ys) none).0) (distinct_front same xs ys parts.1)

-- caches

other_name : (xs : List Cache) (x c : Cache) (n : ℕ) → not (list_any (same_cache_name x) xs) ≡ true →
    slice_get xs n ≡ Some c → bytes_eq x.name c.name ≡ false
other_name xs x c n h e = at_any (same_cache_name x) xs n c (not-true _ h) e

place_at : (caches : List Cache) (n : ℕ) (c : Cache) → are_distinct same_cache_name caches ≡ true →
    slice_get caches n ≡ Some c → position_or_len (λ x. bytes_eq x.name c.name) caches ≡ n
place_at [] n c h e = absurd (cc)
place_at (x ∷ xs) zero c h e =
    let same : x ≡ c = cc in
    let here : bytes_eq x.name c.name ≡ true = subst (λ y. bytes_eq x.name y.name ≡ true) same
    ((bytes_decides x.name x.name).1 refl) in
    rw here refl
place_at (x ∷ xs) (suc n) c h e =
    let parts = and_parts (not (list_any (same_cache_name x) xs)) (are_distinct same_cache_name xs) h in
    rw (other_name xs x c n parts.0 e) (rw (place_at xs n c parts.1 e) (omega arith))

-- a cache is found by its name
pub place_is : (caches : List Cache) (n : ℕ) (c : Cache) → are_distinct same_cache_name caches ≡ true →
    slice_get caches n ≡ Some c → cache_place caches c.name ≡ Some n
place_is caches n c h e =
    let within : nat_lt n (length caches) ≡ true = lt-ltb n (length caches) (get_within caches n c e) in
    rw (place_at caches n c h e) (rw within refl)

none_named : (q : Cache → Bool) (xs : List Cache) (c : Cache) → list_any (same_cache_name c) xs ≡ false →
    list_any (λ x. q x && bytes_eq x.name c.name) xs ≡ false
none_named q [] c h = refl
none_named q (x ∷ xs) c h =
    let parts = or_parts (same_cache_name c x) (list_any (same_cache_name c) xs) h in
    or_from (q x && bytes_eq x.name c.name) _ (and_right (q x) (bytes_eq x.name c.name) (nat_list_eq_equiv.symm x.name c.name
    ∙ parts.0)) (none_named q xs c parts.1)

-- no cache that passes the test has the name of one that does not
pub none_other : (q : Cache → Bool) (caches : List Cache) (n : ℕ) (c : Cache) → are_distinct same_cache_name caches ≡ true →
    slice_get caches n ≡ Some c → q c ≡ false
    → list_any (λ x. q x && bytes_eq x.name c.name) caches ≡ false
none_other q [] n c h e k = refl
none_other q (x ∷ xs) zero c h e k =
    let same : x ≡ c = cc in
    let parts = and_parts (not (list_any (same_cache_name x) xs)) (are_distinct same_cache_name xs) h in
    let apart : list_any (same_cache_name c) xs ≡ false = subst (λ y. list_any (same_cache_name y) xs ≡ false) same
    (not-true _ parts.0) in
    or_from (q x && bytes_eq x.name c.name) _ (and_left (q x) _ (subst (λ y. q y ≡ false) (sym same) k))
    (none_named q xs c apart)
none_other q (x ∷ xs) (suc n) c h e k =
    let parts = and_parts (not (list_any (same_cache_name x) xs)) (are_distinct same_cache_name xs) h in
    or_from (q x && bytes_eq x.name c.name) _ (and_right (q x) _ (other_name xs x c n parts.0 e))
    (none_other q xs n c parts.1 e k)
