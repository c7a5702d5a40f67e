-- What is read from a table that is closed.
use Rattle.std.proofs.Common.{◌≡◌, ℕ, zero, suc, ◌+◌, ◌-◌, ◌<◌, min, List, [], ◌∷◌, map, length, take, drop, sym, refl, ap, ◌∙◌, arith, None, slice_index, subst, Vec, Global}
use mathlib.Core.Option.{some, some-injective, some-ne-none}
use lib.ListN.{get_elem?}
use Rattle.atomic_table.specs.Table.{Final, Seen}
use Rattle.part_table.specs.declared.rule.Entry.{Entry}
use Rattle.part_table.specs.declared.rule.Slot.{Slot}
use Rattle.part_table.specs.declared.rule.Slot.TheVariants.{Part, Place, Lists}
use Rattle.part_table.specs.declared.rule.View.{View}
use Rattle.part_table.specs.History.{Rules, replay}
use Rattle.part_table.specs.Rule.{HasRoom, Kept, Recalls, numbers_from}
use Rattle.part_table.specs.Turns.{IsLater}
use Rattle.part_table.proofs.Closing.{all_home, all_written}
use Rattle.part_table.proofs.Joining.{recalled}
use Rattle.part_table.proofs.Emptying.{values_of, same_of, drop_elem}

pub at_there : {A : Type 0} (l : List A) (i : ℕ) → i < length l → (a : A) × (get_elem? l i ≡ some a)
at_there [] i h = absurd (omega (arith, h))
at_there (x ∷ xs) zero h = (x, refl)
at_there (x ∷ xs) (suc i) h = at_there xs i (omega (arith, h))

pub first_of : (l : List ℕ) (a : ℕ) → get_elem? l 0 ≡ some a → slice_index l 0 ≡ a
first_of [] a e = absurd (some-ne-none a (sym e))
first_of (x ∷ xs) a e = some-injective x a e

pub of_map : {A B : Type 0} (f : A → B) (l : List A) (i : ℕ) (b : B) → get_elem? (map f l) i ≡ some b → (a : A)
    × (get_elem? l i ≡ some a) × (f a ≡ b)
of_map f [] i b e = absurd (some-ne-none b (sym e))
of_map f (x ∷ xs) zero b e = (x, refl, some-injective (f x) b e)
of_map f (x ∷ xs) (suc i) b e = of_map f xs i b e

pub map_count : {A B : Type 0} (f : A → B) (l : List A) → length (map f l) ≡ length l
map_count f [] = refl
map_count f (x ∷ xs) = ap suc (map_count f xs)

pub drop_count : {A : Type 0} (n : ℕ) (l : List A) → length (drop n l) ≡ length l - n
drop_count zero l = omega arith
drop_count (suc n) [] = omega arith
drop_count (suc n) (x ∷ xs) = let h = drop_count n xs in omega (arith, h)

pub below_length : {A : Type 0} (l : List A) (i : ℕ) (a : A) → get_elem? l i ≡ some a → i < length l
below_length [] i a e = absurd (some-ne-none a (sym e))
below_length (x ∷ xs) zero a e = omega arith
below_length (x ∷ xs) (suc i) a e = let h = below_length xs i a e in omega (arith, h)

module _ {M S E : Type 0} (r : Rules S E) (limit passes : ℕ) (m : M) (words : List ℕ) (row : List (Slot S E)) (id : ℕ)
    (v : View M S E)
    (fin : Final (Seen (Kept r limit passes m) id v) words row) (all : length v.numbers ≡ passes) (held : v.held ≡ [])
    (place : v.place ≡ None) (found : ℕ) (read : get_elem? words 0 ≡ some found) where
  abbrev pub kept : Kept r limit passes m fin.0
  kept = fin.1.0

  abbrev pub the_log : List (Entry S E)
  the_log = fin.1.0.log

  pub entries : length the_log ≡ min found limit
  entries = kept.counted ∙ ap (λ n. min n limit) (ap (λ l. slice_index l 0) fin.2 ∙ first_of words found read)

  pub deep : length row ≡ r.parts + limit + 1
  deep = sym fin.3 ∙ kept.deep

  pub parts_there : (p : ℕ) → p < r.parts → get_elem? row p ≡ some (Part (replay r the_log p))
  parts_there p lt = fin.4 p (Part (replay r the_log p)) (all_home r limit passes m fin.0 kept id v fin.1.1 all held place p lt)

  pub lists_there : (xs : Vec S Global) × (es : Vec E Global) × (get_elem? row (r.parts + limit) ≡ some (Lists xs es))
      × HasRoom r.parts limit xs es
  lists_there = let h = kept.reserved in (h.0, h.1, fin.4 (r.parts + limit) (Lists h.0 h.1) h.2, h.3)

  lists_same : (xs xs' : Vec S Global) (es es' : Vec E Global) → ◌≡◌ {A = Slot S E} (Lists xs es) (Lists xs' es') →
      HasRoom r.parts limit xs es → HasRoom r.parts limit xs' es'
  lists_same xs xs' es es' e h = let a : xs ≡ xs' = cc e in let b : es ≡ es' = cc e in
      subst (λ (z : Vec S Global × Vec E Global). HasRoom r.parts limit z.0 z.1) (λ i. (a i, b i)) h

  pub room_of : (xs : Vec S Global) (es : Vec E Global) → get_elem? row (r.parts + limit) ≡ some (Lists xs es) →
      HasRoom r.parts limit xs es
  room_of xs es at = let h = lists_there in
      lists_same h.0 xs h.1 es (some-injective (Lists h.0 h.1) (Lists xs es) (sym h.2 ∙ at)) h.3

  pub event_there : (j : ℕ) (e : Entry S E) → get_elem? the_log j ≡ some e → get_elem? row (r.parts + j) ≡ some (Place e.event)
  event_there j e at = let below : j < length the_log = below_length the_log j e at in let n = entries in
      fin.4 (r.parts + j) (Place e.event) (all_written r limit passes m fin.0 kept id v fin.1.1 all held place j e
      (omega (arith, below, n)) at below)

  pub some_event : (j : ℕ) → j < min found limit → (e : E) × (get_elem? row (r.parts + j) ≡ some (Place e))
  some_event j lt = let t = at_there the_log j (let n = entries in omega (arith, n, lt)) in (t.0.event, event_there j t.0 t.1)

  part_one : (a b : S) → ◌≡◌ {A = Slot S E} (Part a) (Part b) → a ≡ b
  part_one a b e = cc e

  place_one : (a b : E) → ◌≡◌ {A = Slot S E} (Place a) (Place b) → a ≡ b
  place_one a b e = cc e

  pub states_are : (xs : List S) → map (λ x. Part x) xs ≡ take r.parts row →
      xs ≡ map (replay r the_log) (numbers_from 0 r.parts)
  states_are xs h = values_of (λ x. Part x) (replay r the_log) xs row 0 r.parts part_one h (let d = deep in omega (arith, d))
      (λ j lt. parts_there j lt ∙ ap (λ z. some (Part (replay r the_log z))) (let q : j ≡ 0 + j = omega arith in q))

  pub events_are : (es : List E) (n : ℕ) → n ≡ min found limit → map (λ x. Place x) es ≡ take n (drop r.parts row) →
      es ≡ map (λ (x : Entry S E). x.event) the_log
  events_are es n is h = same_of (λ x. Place x) es (map (λ (x : Entry S E). x.event) the_log) (drop r.parts row) n place_one h
      (let d = deep in let c = drop_count r.parts row in omega (arith, d, c, is)) (let c =
      map_count (λ (x : Entry S E). x.event) the_log in let e = entries in omega (arith, c, e, is))
      (λ j y at. let t = of_map (λ (x : Entry S E). x.event) the_log j y at in drop_elem r.parts row j
      ∙ (event_there j t.0 t.1 ∙ ap (λ z. some (Place z)) t.2))

  pub known_of : (k : ℕ) (xs : List (Entry S E)) → Recalls v k xs → IsLater k xs the_log
  known_of k xs h = let o = recalled r limit passes m the_log fin.0.words kept.owner kept.writer kept.session_state id v
      (kept.views id v fin.1.1) h.0 k xs h.1 in (o.1, o.2)
