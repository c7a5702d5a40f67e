-- The first values of a copy after a key, as its entries and as they are supplied.
use Rattle.std.proofs.Common.{◌≡◌, ℕ, zero, suc, ◌+◌, ◌-◌, ◌^◌, ◌<◌, ◌≤◌, Bool, true, false, List, [], ◌∷◌, ◌&&◌, cond, filter, length, map, min, take, is_some, Option, nat_le, refl, ap, sym, ◌∙◌, arith}
use Rattle.std.proofs.lemmas.Bool.Decides.{nat_tests}
use Rattle.std.proofs.lemmas.List.{length-take}
use Rattle.part_model.specs.Copies.{Copy, batch_of, entries_of, is_after, is_last_batch, stored_entry, values_after}
use Rattle.part_model.specs.declared.copies.Entry.{Entry}
use Rattle.ignite_types.specs.declared.text.Key.{Key}

-- the values after a key, as entries
abbrev pub is_value_after : Option Key → Key × Entry → Bool
is_value_after after e = is_some e.1.value && is_after after e.0

values_are : (copy : Copy) (after : Option Key) → map stored_entry (filter (is_value_after after) copy)
    ≡ values_after copy after
values_are [] after = refl
values_are (e ∷ es) after =
    elim (is_value_after after e) as (λ b.
    map stored_entry (cond b (e ∷ filter (is_value_after after) es) (filter (is_value_after after) es))
    ≡ cond b (stored_entry e ∷ values_after es after) (values_after es after)) [
      | true ↦ ap (λ r. stored_entry e ∷ r) (values_are es after)
      | false ↦ values_are es after
    ]

module _ {A : Type 0} where
  length_filter : (test : A → Bool) (xs : List A) → length (filter test xs) ≤ length xs
  length_filter test [] = omega arith
  length_filter test (x ∷ xs) =
      let rest = length_filter test xs in
      elim (test x) as (λ b. length (cond b (x ∷ filter test xs) (filter test xs)) ≤ suc (length xs)) [
        | true ↦ omega arith
        | false ↦ omega arith
      ]

  take_less : (m n : ℕ) (xs : List A) → m ≤ n → take m (take n xs) ≡ take m xs
  take_less zero n xs le = refl
  take_less (suc m) zero xs le = absurd (omega arith)
  take_less (suc m) (suc n) [] le = refl
  take_less (suc m) (suc n) (x ∷ xs) le = ap (λ r. x ∷ r) (take_less m n xs (omega arith))

  take_whole : (m : ℕ) (xs : List A) → length xs ≤ m → take m xs ≡ xs
  take_whole zero [] fits = refl
  take_whole zero (x ∷ xs) fits = absurd (omega arith)
  take_whole (suc m) [] fits = refl
  take_whole (suc m) (x ∷ xs) fits = ap (λ r. x ∷ r) (take_whole m xs (omega arith))

  -- no more of them are shown than there are
  take_present : (m : ℕ) (xs : List A) → take (min (length xs) m) xs ≡ take m xs
  take_present zero xs = let none : min (length xs) 0 ≡ 0 = omega arith in rw none
  take_present (suc m) [] = let none : min 0 (suc m) ≡ 0 = omega arith in rw none
  take_present (suc m) (x ∷ xs) =
      let more : min (suc (length xs)) (suc m) ≡ suc (min (length xs) m) = omega arith in
      rw more (ap (λ r. x ∷ r) (take_present m xs))

  -- one more than the batch, or all of them, suffice for the batch
  take_batch : (xs : List A) (most count room : ℕ) → length xs ≤ count → count < 2 ^ 64 →
      room ≡ min (min most count + 1) (2 ^ 64 - 1) → take most (take room xs) ≡ take most xs
  take_batch xs most count room few fits is_room =
      by (nat_le room most) refl
    where
      by : (b : Bool) → nat_le room most ≡ b → take most (take room xs) ≡ take most xs
      by true h = ap (take most) (take_whole room xs (grind (arith, nat_tests)))
      by false h = take_less most room xs (grind (arith, nat_tests))

  -- and to tell whether it is the last
  last_batch : (xs : List A) (most count room : ℕ) → length xs ≤ count → count < 2 ^ 64 →
      room ≡ min (min most count + 1) (2 ^ 64 - 1) → nat_le (length (take room xs)) most ≡ nat_le (length xs) most
  last_batch xs most count room few fits is_room = rw (length-take room xs) (grind (arith, nat_tests))

map_take : {A B : Type 0} (f : A → B) (m : ℕ) (xs : List A) → map f (take m xs) ≡ take m (map f xs)
map_take f zero xs = refl
map_take f (suc m) [] = refl
map_take f (suc m) (x ∷ xs) = ap (λ r. f x ∷ r) (map_take f m xs)

length_map : {A B : Type 0} (f : A → B) (xs : List A) → length (map f xs) ≡ length xs
length_map f [] = refl
length_map f (x ∷ xs) = ap suc (length_map f xs)

module _ (copy first : Copy) (after : Option Key) (most count room : ℕ) (is_count : count ≡ length copy)
    (fits : count < 2 ^ 64) (is_room : room ≡ min (min most count + 1) (2 ^ 64 - 1))
    (is_first : first ≡ take room (filter (is_value_after after) copy)) where
  few : length (filter (is_value_after after) copy) ≤ count
  few = omega (arith, length_filter (is_value_after after) copy)

  pub batch_is : entries_of (take (min (length first) most) first) ≡ batch_of copy after most
  batch_is =
      ap (map stored_entry) (take_present most first ∙ ap (take most) is_first
      ∙ take_batch (filter (is_value_after after) copy) most count room few fits is_room)
      ∙ map_take stored_entry most (filter (is_value_after after) copy) ∙ ap (take most) (values_are copy after)

  pub last_is : nat_le (length first) most ≡ is_last_batch copy after most
  last_is =
      ap (λ xs. nat_le (length xs) most) is_first ∙ last_batch (filter (is_value_after after) copy) most count room few fits
      is_room
      ∙ ap (λ n. nat_le n most) (sym (length_map stored_entry (filter (is_value_after after) copy))
      ∙ ap length (values_are copy after))
