-- The first seat is cut into one for each pass.
use Rattle.std.proofs.Common.{◌≡◌, ℕ, zero, suc, ◌+◌, ◌-◌, ◌<◌, ◌≤◌, ◌||◌, true, false, List, [], ◌∷◌, ◌++◌, map, length, replicate, sym, refl, ap, ◌∙◌, subst, ⊎_elim, arith, length-append, ne_eqb, Some, None, slice_index, Vec, Global}
use Rattle.std.proofs.lemmas.Bool.{cases_eq}
use Rattle.std.proofs.lemmas.List.{get_or-replicate, length-replicate, map-append}
use Rattle.std.proofs.lemmas.List.Elements.{All-append, All-cons, All-nil}
use Rattle.std.specs.List.{All}
use mathlib.Core.Option.{some}
use lib.ListN.{get_elem?}
use Rattle.atomic_table.specs.Table.{Me, Splits, opening}
use Rattle.atomic_table.proofs.Lists.{at_map, at_longer, at_last, at_index}
use Rattle.part_table.specs.declared.rule.Slot.{Slot}
use Rattle.part_table.specs.declared.rule.Slot.TheVariants.{Part, Lists, Empty}
use Rattle.part_table.specs.declared.rule.View.{View}
use Rattle.part_table.specs.History.{Rules}
use Rattle.part_table.specs.Rule.{HasRoom, Kept, dealt, first_number_of, first_view, head_view, is_in, numbers_from, rest_of, tail_view}
use Rattle.part_table.specs.Turns.{IsResting}
use Rattle.part_table.proofs.Splitting.{splits}
use Rattle.part_table.proofs.Opening.{count_length, opens}
use Rattle.part_table.proofs.Joining.{yes_no}

pub counted_above : (q k n : ℕ) → is_in q (numbers_from k n) ≡ true → k ≤ q
counted_above q k zero h = absurd (cc h)
counted_above q k (suc n) h = ⊎_elim
    (λ (e : k ≡ q). omega (arith, e))
    (λ ne. let t : k + 1 ≤ q =
    counted_above q (k + 1) n (sym (ap (λ b. b || is_in q (numbers_from (k + 1) n)) (ne_eqb k q ne)) ∙ h) in
    omega (arith, t))
    (cases_eq k q)

pub one_more : (i n : ℕ) → i < n → numbers_from i (n - i) ≡ i ∷ numbers_from (i + 1) (n - (i + 1))
one_more i n lt = ap (numbers_from i) (let e : n - i ≡ suc (n - (i + 1)) = omega (arith, lt) in e)

pub counts_end : (k n : ℕ) → numbers_from k (n + 1) ≡ numbers_from k n ++ (k + n) ∷ []
counts_end k zero = ap (λ z. z ∷ []) (let e : k ≡ k + 0 = omega arith in e)
counts_end k (suc n) = ap (numbers_from k) (let e : suc n + 1 ≡ suc (n + 1) = omega arith in e)
    ∙ ap (λ l. k ∷ l) (counts_end (k + 1) n ∙ ap (λ z. numbers_from (k + 1) n ++ z ∷ []) (let e : k + 1 + n ≡ k + suc n =
    omega arith in e))

pub counts_at : (k n j : ℕ) → j < n → get_elem? (numbers_from k n) j ≡ some (k + j)
counts_at k zero j lt = absurd (omega (arith, lt))
counts_at k (suc n) zero lt = ap some (let e : k ≡ k + 0 = omega arith in e)
counts_at k (suc n) (suc j) lt = counts_at (k + 1) n j (omega (arith, lt)) ∙ ap some (let e : k + 1 + j ≡ k + suc j =
    omega arith in e)

pub past_first : {A : Type 0} (xs ys : List A) (n j : ℕ) → length xs ≡ n → get_elem? (xs ++ ys) (n + j) ≡ get_elem? ys j
past_first [] ys n j e = ap (get_elem? ys) (let q : n + j ≡ j = omega (arith, e) in q)
past_first (x ∷ xs) ys zero j e = absurd (omega (arith, e))
past_first (x ∷ xs) ys (suc n) j e = ap (get_elem? (x ∷ (xs ++ ys))) (let q : suc n + j ≡ suc (n + j) = omega arith in q)
    ∙ past_first xs ys n j (omega (arith, e))

pub at_replicate : {A : Type 0} (n j : ℕ) (a : A) → j < n → get_elem? (replicate n a) j ≡ some a
at_replicate n j a lt = at_index (replicate n a) j a (let l = length-replicate n a in omega (arith, l, lt))
    (sym (get_or-replicate n j a a lt))

pub length_map : {A B : Type 0} (f : A → B) (xs : List A) → length (map f xs) ≡ length xs
length_map f [] = refl
length_map f (x ∷ xs) = ap suc (length_map f xs)

module _ {M S E : Type 0} where
  pub tail_dealt : (m : M) (parts limit n i : ℕ) (v : View M S E) → v ≡ dealt m parts limit n i → i < n →
      tail_view v ≡ dealt m parts limit n (i + 1)
  tail_dealt m parts limit n i v e lt = ap (λ (w : View M S E). tail_view w) e ∙
      (let a = ap rest_of (one_more i n lt) in let b : n - i - 1 ≡ n - (i + 1) = omega (arith, lt) in
      λ j. record {
        machine = Some m;
        parts = parts;
        limit = limit;
        numbers = a j;
        room = b j;
        seen = [];
        told = [];
        held =
            [];
        place = None;
        said = None;
        ready = false;
      })

  pub head_rests : (m : M) (parts limit n i : ℕ) (v : View M S E) → v ≡ dealt m parts limit n i → i < n →
      IsResting {S = S} {E = E} i (head_view v, [])
  head_rests m parts limit n i v e lt = (
    ap (λ (w : View M S E). first_number_of w.numbers) e ∙ ap first_number_of (one_more i n lt),
    ap (λ (w : View M S E). w.told) e,
    ap (λ (w : View M S E). w.place) e,
    ap (λ (w : View M S E). w.ready) e,
    refl,
    ap (λ (w : View M S E). w.held) e,
    refl,
  )

  pub last_rests : (m : M) (parts limit n i : ℕ) (me : Me (Slot S E) (View M S E)) → me ≡ (dealt m parts limit n i, []) →
      i + 1 ≡ n → IsResting i me
  last_rests m parts limit n i me e last = subst (λ (z : Me (Slot S E) (View M S E)). IsResting i z) (sym e) (
    one_more i n (omega (arith, last)) ∙ ap (λ z. i ∷ numbers_from (i + 1) z) (let q : n - (i + 1) ≡ 0 =
        omega (arith, last) in q),
    refl,
    refl,
    refl,
    refl,
    refl,
    refl,
  )

  pub first_dealt : (m : M) (parts limit n : ℕ) → ◌≡◌ {A = View M S E} (first_view m parts limit n) (dealt m parts limit n 0)
  first_dealt m parts limit n = let a : n ≡ n - 0 = omega arith in λ j. record {
    machine = Some m;
    parts = parts;
    limit =
        limit;
    numbers = numbers_from 0 (a j);
    room = a j;
    seen = [];
    told = [];
    held = [];
    place = None;
    said = None;
    ready =
        false;
  }

  pub deals : (r : Rules S E) (limit passes : ℕ) (m : M) (id parts lim n i : ℕ) (v : View M S E) → v ≡ dealt m parts lim n i →
      i + 1 < n → Splits (Kept r limit passes m) id v (tail_view v) (head_view v)
  deals r limit passes m id parts lim n i v e lt =
      let ks : List ℕ = numbers_from (i + 1) (n - (i + 1)) in
      let numbers : v.numbers ≡ i ∷ ks = ap (λ (w : View M S E). w.numbers) e ∙ one_more i n (omega (arith, lt)) in
      let many : length ks ≡ n - (i + 1) = count_length (i + 1) (n - (i + 1)) in
      let room : v.room ≡ n - i = ap (λ (w : View M S E). w.room) e in
      subst (λ (z : List ℕ × List ℕ). Splits (Kept r limit passes m) id v (record v { numbers = z.0; room = v.room - 1 })
      (record v { numbers = z.1; room = 1 }))
      (λ j. (sym (ap rest_of numbers) j, sym (ap first_number_of numbers) j))
      (splits r limit passes m id i ks v numbers (λ none_left. let l = ap (λ (l : List ℕ). length l) none_left in
      omega (arith, l, many, lt))
      (⊎_elim (λ (h : is_in i ks ≡ true). absurd (let o = counted_above i (i + 1) (n - (i + 1)) h in omega (arith, o)))
      (λ (h : is_in i ks ≡ false). h) (yes_no (is_in i ks)))
      (omega (arith, room, lt)) (ap (λ (w : View M S E). w.held) e) (ap (λ (w : View M S E). w.place) e)
      (ap (λ (w : View M S E). w.told) e))

  pub made : (r : Rules S E) (limit passes : ℕ) (m : M) (ws : List ℕ) (values : List S) (slots : List (Slot S E))
      (xs : Vec S Global) (es : Vec E Global) → ws ≡ replicate (r.parts + 1) 0
      → slots ≡ (map (λ x. Part x) values ++ replicate limit Empty) ++ Lists xs es ∷ [] →
      values ≡ map r.opening (numbers_from 0 r.parts) → HasRoom r.parts limit xs es
      → Kept r limit passes m (opening ws slots (first_view m r.parts limit passes))
  made r limit passes m ws values slots xs es words lie are room =
      let count : length values ≡ r.parts = ap (λ (l : List S). length l) are ∙ (length_map r.opening (numbers_from 0 r.parts)
      ∙ count_length 0 r.parts) in
      let wide : length ws ≡ r.parts + 1 = ap (λ (l : List ℕ). length l) words ∙ length-replicate (r.parts + 1) 0 in
      let part : S → Slot S E = λ x. Part x in
      let parted : length (map part values) ≡ r.parts = length_map part values ∙ count in
      let row : List (Slot S E) = map part values ++ replicate limit Empty in
      let long : length row ≡ r.parts + limit = (let b = length-append (map part values) (replicate limit Empty) in
      let em : Slot S E = Empty in let c = length-replicate limit em in omega (arith, b, c, parted)) in
      let lists : Slot S E = Lists xs es in
      opens r limit passes m ws slots wide
      (λ i lt. ap (λ (l : List ℕ). slice_index l i) words ∙ get_or-replicate (r.parts + 1) i 0 0 (omega (arith, wide, lt)))
      (let a = ap (λ (l : List (Slot S E)). length l) lie in let b = length-append row (lists ∷ []) in
      omega (arith, a, b, long))
      (λ p lt. ap (λ (l : List (Slot S E)). get_elem? l p) lie ∙ at_longer row (lists ∷ []) p (Part (r.opening p))
      (at_longer (map part values) (replicate limit Empty) p (Part (r.opening p))
      (at_map part values p (r.opening p) (ap (λ (l : List S). get_elem? l p) are
      ∙ (at_map r.opening (numbers_from 0 r.parts) p (0 + p) (counts_at 0 r.parts p lt)
      ∙ ap (λ z. some (r.opening z)) (let e : 0 + p ≡ p = omega arith in e))))))
      (λ j lt. ap (λ (l : List (Slot S E)). get_elem? l (r.parts + j)) lie ∙ at_longer row (lists ∷ []) (r.parts + j) Empty
      (past_first (map part values) (replicate limit Empty) r.parts j parted ∙ at_replicate limit j Empty lt))
      xs
      es
      (ap (λ (l : List (Slot S E)). get_elem? l (r.parts + limit)) lie ∙ at_last row lists (r.parts + limit) long)
      room

pub numbers_more : {A : Type 0} (f : A → ℕ) (xs ys : List A) (x : A) (n : ℕ) → map f xs ≡ numbers_from 0 n → f x ≡ n →
    ys ≡ xs ++ x ∷ [] → map f ys ≡ numbers_from 0 (n + 1)
numbers_more f xs ys x n h e is = ap (map f) is
    ∙ (map-append f xs (x ∷ [])
    ∙ ((λ i. h i ++ e i ∷ []) ∙ (ap (λ z. numbers_from 0 n ++ z ∷ []) (let q : n ≡ 0 + n = omega arith in q)
    ∙ sym (counts_end 0 n))))

pub all_more : {A : Type 0} (P : A → Type 0) (xs ys : List A) (x : A) → All P xs → P x → ys ≡ xs ++ x ∷ [] → All P ys
all_more P xs ys x h p is = subst (All P) (sym is) (All-append P xs (x ∷ []) h (All-cons P x [] p (All-nil P)))

pub all_tail : {A : Type 0} (P : A → Type 0) (xs ys : List A) (x : A) → All P xs → xs ≡ x ∷ ys → All P ys
all_tail P xs ys x h is = let h' : All P (x ∷ ys) = subst (All P) is h in
    λ k d lt. h' (suc k) d (let q : suc k < length (x ∷ ys) = omega (arith, lt) in q)

pub all_head : {A : Type 0} (P : A → Type 0) (xs ys : List A) (x : A) → All P xs → xs ≡ x ∷ ys → P x
all_head P xs ys x h is = let h' : All P (x ∷ ys) = subst (All P) is h in h' 0 x (let q : 0 < length (x ∷ ys) = omega arith in
    q)

pub all_of_last : {A : Type 0} (P : A → Type 0) (xs ys : List A) (x : A) → All P xs → xs ≡ ys ++ x ∷ [] → All P ys × P x
all_of_last P xs [] x h is = (All-nil P, all_head P xs [] x h is)
all_of_last P [] (y ∷ ys) x h is = absurd (cc is)
all_of_last P (z ∷ zs) (y ∷ ys) x h is = let first : z ≡ y = cc is in let t =
    all_of_last P zs ys x (all_tail P (z ∷ zs) zs z h refl) (cc is) in
    (All-cons P y ys (subst P first (all_head P (z ∷ zs) zs z h refl)) t.0, t.1)
