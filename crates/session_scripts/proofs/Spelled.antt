-- The number that digits spell.
use Rattle.std.proofs.Common.{◌≡◌, ℕ, ◌+◌, ◌*◌, ◌-◌, ◌^◌, ◌<◌, ◌≤◌, true, zero, suc, List, [], ◌∷◌, length, take, get_or, refl, arith, lit<}
use Rattle.std.specs.Prelude.{nat_le}
use Rattle.std.specs.List.{list_all}
use Rattle.std.specs.Char.{digit_value}
use Rattle.std.specs.Str.Parse.{digits_value, AllDigits}
use Rattle.std.proofs.lemmas.Bool.{and_parts, leb-true, lt-ltb, le-ltb}
use Rattle.std.proofs.lemmas.Int.Digits.{digits_value-lt, digits_value_more}
use Rattle.std.proofs.lemmas.List.{length-take-le}
use Rattle.std.proofs.Math.Nat.{pow-le-pow_right}
use Rattle.ignite_types.specs.Texts.{is_digit}

digit_is : (b : ℕ) → is_digit b ≡ true → (48 ≤ b) × (b < 58) × (digit_value b ≡ b - 48)
digit_is b h =
    let parts = and_parts (nat_le 48 b) (nat_le b 57) h in
    let low : 48 ≤ b = leb-true 48 b parts.0 in
    let high : b < 58 = omega (arith, leb-true b 57 parts.1) in
    (low, high, rw (le-ltb b 48 low, lt-ltb b 58 high) refl)

digit_at : (bs : List ℕ) (i : ℕ) → list_all is_digit bs ≡ true → i < length bs → is_digit (get_or bs i 0) ≡ true
digit_at [] i h l = absurd (omega arith)
digit_at (b ∷ bs) zero h l = (and_parts (is_digit b) (list_all is_digit bs) h).0
digit_at (b ∷ bs) (suc i) h l = digit_at bs i (and_parts (is_digit b) (list_all is_digit bs) h).1 (omega arith)

digits_in_front : (bs : List ℕ) (i : ℕ) → list_all is_digit bs ≡ true → AllDigits 10 (take i bs)
digits_in_front bs zero h = tt
digits_in_front [] (suc i) h = tt
digits_in_front (b ∷ bs) (suc i) h =
    let parts = and_parts (is_digit b) (list_all is_digit bs) h in
    let d = digit_is b parts.0 in
    (omega (arith, d.0, d.1, d.2), digits_in_front bs i parts.1)

-- less than 19 digits spell less than a million of millions of millions
pub value_small : (bs : List ℕ) (i : ℕ) → length bs ≤ 19 → list_all is_digit bs ≡ true → i < length bs →
    digits_value 10 (take i bs) < 1000000000000000000
value_small bs i few h l =
    let below : digits_value 10 (take i bs) < 10 ^ length (take i bs) =
    digits_value-lt 10 (take i bs) (digits_in_front bs i h) in
    let long : length (take i bs) ≤ 18 = omega (arith, length-take-le i bs (omega arith)) in
    let most : 10 ^ length (take i bs) ≤ 10 ^ 18 = pow-le-pow_right (lit< tt) long in
    omega (arith, below, most)

-- one more digit
pub value_more : (bs : List ℕ) (i : ℕ) → list_all is_digit bs ≡ true → i < length bs →
    digits_value 10 (take (i + 1) bs) ≡ digits_value 10 (take i bs) * 10 + (get_or bs i 0 - 48)
value_more bs i h l =
    let d = digit_is (get_or bs i 0) (digit_at bs i h l) in
    rw (digits_value_more 10 bs i l, d.2) refl

pub digit_small : (bs : List ℕ) (i : ℕ) → list_all is_digit bs ≡ true → i < length bs → (48 ≤ get_or bs i 0)
    × (get_or bs i 0 < 58)
digit_small bs i h l =
    let d = digit_is (get_or bs i 0) (digit_at bs i h l) in (d.0, d.1)
