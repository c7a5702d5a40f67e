-- Slots that are taken out one after another.
use Rattle.std.proofs.Common.{◌≡◌, ℕ, zero, suc, ◌+◌, ◌<◌, ◌≤◌, Bool, true, false, List, [], ◌∷◌, ◌++◌, map, length, take, drop, get_or, set, sym, refl, ap, ◌∙◌, ⊎_elim, arith, get_or-set_other, get_or-set_same}
use Rattle.std.proofs.lemmas.Bool.{cases_eq}
use Rattle.std.proofs.lemmas.List.{map-append}
use mathlib.Core.Option.{some, some-injective, some-ne-none}
use lib.ListN.{get_elem?}

pub take_snoc : {A : Type 0} (l : List A) (i : ℕ) (a : A) → get_elem? l i ≡ some a → take (i + 1) l ≡ take i l ++ a ∷ []
take_snoc [] i a e = absurd (some-ne-none a (sym e))
take_snoc (x ∷ xs) zero a e = ap (λ z. z ∷ []) (some-injective x a e)
take_snoc (x ∷ xs) (suc i) a e = ap (λ n. take n (x ∷ xs)) (let q : suc i + 1 ≡ suc (i + 1) = omega arith in q)
    ∙ ap (λ l. x ∷ l) (take_snoc xs i a e)

pub drop_elem : {A : Type 0} (n : ℕ) (l : List A) (j : ℕ) → get_elem? (drop n l) j ≡ get_elem? l (n + j)
drop_elem zero l j = ap (get_elem? l) (let q : j ≡ 0 + j = omega arith in q)
drop_elem (suc n) [] j = refl
drop_elem (suc n) (x ∷ xs) j = drop_elem n xs j ∙ ap (get_elem? (x ∷ xs)) (let q : suc (n + j) ≡ suc n + j = omega arith in q)

pub taken_more : {A B : Type 0} (f : A → B) (xs ys : List A) (x : A) (row : List B) (i : ℕ) → map f xs ≡ take i row →
    get_elem? row i ≡ some (f x) → ys ≡ xs ++ x ∷ [] → map f ys ≡ take (i + 1) row
taken_more f xs ys x row i h e is = ap (map f) is
    ∙ (map-append f xs (x ∷ []) ∙ (ap (λ l. l ++ f x ∷ []) h ∙ sym (take_snoc row i (f x) e)))

pub left_below : (fs gs : List Bool) (i i' n : ℕ) → n ≡ length fs → i < n → i' ≡ i + 1 → gs ≡ set fs i false →
    ((k : ℕ) → k < i → get_or fs k false ≡ false) → (k : ℕ) → k < i' → get_or gs k false ≡ false
left_below fs gs i i' n count lt next is h k below = ap (λ l. get_or l k false) is ∙ ⊎_elim
    (λ e. ap (λ z. get_or (set fs i false) z false) e ∙ get_or-set_same fs i false false (omega (arith, count, lt)))
    (λ ne. get_or-set_other fs i k false false (λ e. ne (omega (arith, e))) ∙ h k (omega (arith, below, ne, next)))
    (cases_eq k i)

pub left_above : (fs gs : List Bool) (i i' n n' : ℕ) → i' ≡ i + 1 → n' ≡ n → gs ≡ set fs i false →
    ((k : ℕ) → i ≤ k → k + 1 < n → get_or fs k false ≡ true) → (k : ℕ) → i' ≤ k → k + 1 < n' → get_or gs k false ≡ true
left_above fs gs i i' n n' next same is h k up below = ap (λ l. get_or l k false) is
    ∙ (get_or-set_other fs i k false false (λ e. omega (arith, e, up, next))
    ∙ h k (omega (arith, up, next)) (omega (arith, below, same)))

pub left_last : (fs gs : List Bool) (i n n' : ℕ) → n ≡ length fs → i < n → n' ≡ n → gs ≡ set fs i false →
    ((k : ℕ) → k + 1 ≡ n → get_or fs k false ≡ false) → (k : ℕ) → k + 1 ≡ n' → get_or gs k false ≡ false
left_last fs gs i n n' count lt same is h k last = ap (λ l. get_or l k false) is ∙ ⊎_elim
    (λ e. ap (λ z. get_or (set fs i false) z false) e ∙ get_or-set_same fs i false false (omega (arith, count, lt)))
    (λ ne. get_or-set_other fs i k false false (λ e. ne (omega (arith, e))) ∙ h k (omega (arith, last, same)))
    (cases_eq k i)

-- a row that begins with f's values gives them
pub values_of : {A B : Type 0} (c : A → B) (f : ℕ → A) (xs : List A) (row : List B) (k n : ℕ) →
    ((a b : A) → c a ≡ c b → a ≡ b) → map c xs ≡ take n row → n ≤ length row
    → ((j : ℕ) → j < n → get_elem? row j ≡ some (c (f (k + j)))) → xs ≡ map f (Rattle.part_table.specs.Rule.numbers_from k n)
values_of c f [] row k zero one h le at = refl
values_of c f (x ∷ xs) row k zero one h le at = absurd (cc h)
values_of c f xs [] k (suc n) one h le at = absurd (omega (arith, le))
values_of c f [] (b ∷ row) k (suc n) one h le at = absurd (cc h)
values_of c f (x ∷ xs) (b ∷ row) k (suc n) one h le at =
    let first : x ≡ f k = one x (f k) (let e : c x ≡ b = cc h in let g : b ≡ c (f (k + 0)) =
    some-injective b (c (f (k + 0))) (at 0 (omega arith)) in
    e ∙ (g ∙ ap (λ z. c (f z)) (let q : k + 0 ≡ k = omega arith in q))) in
    let others = values_of c f xs row (k + 1) n one (cc h) (omega (arith, le)) (λ j lt. at (suc j) (omega (arith, lt))
    ∙ ap (λ z. some (c (f z))) (let q : k + suc j ≡ k + 1 + j = omega arith in q)) in
    λ i. first i ∷ others i

-- a row that begins with these values gives them
pub same_of : {A B : Type 0} (c : A → B) (xs ys : List A) (row : List B) (n : ℕ) → ((a b : A) → c a ≡ c b → a ≡ b) →
    map c xs ≡ take n row → n ≤ length row → length ys ≡ n
    → ((j : ℕ) (y : A) → get_elem? ys j ≡ some y → get_elem? row j ≡ some (c y)) → xs ≡ ys
same_of c [] [] row n one h le count at = refl
same_of c (x ∷ xs) [] row zero one h le count at = absurd (cc h)
same_of c (x ∷ xs) [] row (suc n) one h le count at = absurd (omega (arith, count))
same_of c xs (y ∷ ys) row zero one h le count at = absurd (omega (arith, count))
same_of c xs (y ∷ ys) [] (suc n) one h le count at = absurd (omega (arith, le))
same_of c [] (y ∷ ys) (b ∷ row) (suc n) one h le count at = absurd (cc h)
same_of c (x ∷ xs) (y ∷ ys) (b ∷ row) (suc n) one h le count at =
    let first : x ≡ y = one x y (let e : c x ≡ b = cc h in e ∙ some-injective b (c y) (at 0 y refl)) in
    let others = same_of c xs ys row n one (cc h) (omega (arith, le)) (omega (arith, count)) (λ j z e. at (suc j) z e) in
    λ i. first i ∷ others i
