-- A number that is printed is read as that number.
use Rattle.std.proofs.Common.{◌≡◌, ℕ, ◌-◌, ◌^◌, ◌<◌, ◌≤◌, true, false, zero, suc, List, [], ◌∷◌, length, get_or, refl, ap, arith, pos, negsuc, lit<}
use Rattle.std.specs.Prelude.{ℤ, nat_le, ◌==◌, decimal, Ok}
use Rattle.std.specs.Fmt.{digits, signed_decimal}
use Rattle.std.specs.List.{list_all}
use Rattle.std.specs.Str.Parse.{digits_value, AllDigits}
use Rattle.std.proofs.lemmas.Bool.{and_from, leb-true, le-leb, ne_eqb}
use Rattle.std.proofs.lemmas.Bool.Decides.{nat_tests}
use Rattle.std.proofs.lemmas.Fmt.{decimal_is_IsNumeral, length-decimal-le, first_decimal}
use Rattle.std.proofs.lemmas.Str.Parse.{digit_from_value}
use Rattle.ignite_types.specs.Texts.{is_digit}
use Rattle.scen_text.specs.Words.{integer, natural_of_word, negated, number_of_word}
use Rattle.text_laws.specs.RoundTrip.{is_long}
use Rattle.text_laws.proofs.Split.{is_word, is_word_byte, weaker}

-- digits that spell a number below 2 ^ 64
pub record Spells (n : ℕ) (w : List ℕ) : Type 0 where
  pub some : 0 < length w
  pub all : list_all is_digit w ≡ true
  pub value : digits_value 10 w ≡ n

digits_all : (w : List ℕ) → AllDigits 10 w → list_all is_digit w ≡ true
digits_all [] h = refl
digits_all (c ∷ cs) h =
    let r = digit_from_value c h.0 in
    and_from (is_digit c) (list_all is_digit cs) (and_from (nat_le 48 c) (nat_le c 57) (le-leb 48 c (omega (arith, r)))
    (le-leb c 57 (omega (arith, r)))) (digits_all cs h.1)

pub spells-decimal : (n : ℕ) → n < 2 ^ 64 → Spells n (decimal n)
spells-decimal n h =
    let d = decimal_is_IsNumeral n h in
    record { some = d.0.0; all = digits_all (decimal n) d.0.1; value = d.1 }

digit_word : (b : ℕ) → is_digit b ≡ true → is_word_byte b ≡ true
digit_word b h = grind (arith, nat_tests)

pub digits_word : (n : ℕ) (w : List ℕ) → Spells n w → is_word w ≡ true
digits_word n [] h = absurd (omega (arith, h.some))
digits_word n (b ∷ w) h = weaker is_digit is_word_byte digit_word (b ∷ w) h.all

pub decimal-word : (n : ℕ) → n < 10000000 → is_word (decimal n) ≡ true
decimal-word n h = digits_word n (decimal n) (spells-decimal n (omega arith))

pub number-decimal : (n : ℕ) → n < 10000000 → number_of_word (decimal n) ≡ Ok n
number-decimal n h =
    let s = spells-decimal n (omega arith) in
    let short : nat_le (length (decimal n)) 7 ≡ true = le-leb _ 7 (length-decimal-le 7 n (lit< tt) h (omega arith)) in
    let some : (length (decimal n) == 0) ≡ false = ne_eqb _ 0 (λ e. omega (arith, s.some)) in
    let all = s.all in
    let value = s.value in
    rw (some, short, all, value) refl

-- digits with no 0 in front
naturals : (most n : ℕ) (w : List ℕ) → Spells n w → 48 < get_or w 0 0 → length w ≤ 19 → n ≤ most → natural_of_word most w ≡ Ok n
naturals most n [] s f l m = absurd (omega (arith, f))
naturals most n (b ∷ w) s f l m =
    let other : (b == 48) ≡ false = ne_eqb b 48 (λ e. omega (arith, f)) in
    let short : nat_le (length (b ∷ w)) 19 ≡ true = le-leb _ 19 l in
    let within : nat_le n most ≡ true = le-leb n most m in
    let all = s.all in
    let value = s.value in
    rw (other, short, all) (rw value (rw within refl))

natural-decimal : (most n : ℕ) → 0 < n → n ≤ most → most < 10000000000000000000 → natural_of_word most (decimal n) ≡ Ok n
natural-decimal most n p m l =
    naturals most n (decimal n) (spells-decimal n (omega arith)) (first_decimal n p (omega arith))
    (length-decimal-le 19 n (lit< tt) (omega arith) (omega arith)) m

-- a number from 1 on is read as a natural number
positive : (w : List ℕ) (n : ℕ) → 48 < get_or w 0 0 → list_all is_digit w ≡ true →
    natural_of_word 9223372036854775807 w ≡ Ok n → integer w ≡ Ok (pos n)
positive [] n f d e = absurd (omega (arith, f))
positive (b ∷ w) n f d e =
    let other : (b == 48) ≡ false = ne_eqb b 48 (λ e. omega (arith, f)) in
    let minus : (b == 45) ≡ false = ne_eqb b 45 (λ e. omega (arith, f)) in
    rw e (rw (other, minus) refl)

zero-read : integer (signed_decimal (pos 0)) ≡ Ok (pos 0)
unfolding digits
zero-read = refl

below : (n : ℕ) → negated (suc n) ≡ negsuc n
below n =
    let some : (suc n == 0) ≡ false = ne_eqb (suc n) 0 (λ e. omega arith) in
    let one : suc n - 1 ≡ n = omega arith in
    rw some (rw one refl)

negative : (w : List ℕ) (n : ℕ) → natural_of_word 9223372036854775808 w ≡ Ok (suc n) → integer (45 ∷ w) ≡ Ok (negsuc n)
negative w n e = rw e (ap Ok (below n))

pub integer-decimal : (i : ℤ) → is_long i ≡ true → integer (signed_decimal i) ≡ Ok i
integer-decimal (pos zero) h = zero-read
integer-decimal (pos (suc n)) h =
    let most : suc n ≤ 9223372036854775807 = leb-true (suc n) 9223372036854775807 h in
    positive (decimal (suc n)) (suc n) (first_decimal (suc n) (omega arith) (omega arith))
    (spells-decimal (suc n) (omega arith)).all
    (natural-decimal 9223372036854775807 (suc n) (omega arith) most (lit< tt))
integer-decimal (negsuc n) h =
    let most : n ≤ 9223372036854775807 = leb-true n 9223372036854775807 h in
    negative (decimal (suc n)) n (natural-decimal 9223372036854775808 (suc n) (omega arith) (omega arith) (lit< tt))

pub integer-word : (i : ℤ) → is_long i ≡ true → is_word (signed_decimal i) ≡ true
integer-word (pos n) h =
    let most : n ≤ 9223372036854775807 = leb-true n 9223372036854775807 h in
    digits_word n (decimal n) (spells-decimal n (omega arith))
integer-word (negsuc n) h =
    let most : n ≤ 9223372036854775807 = leb-true n 9223372036854775807 h in
    weaker is_digit is_word_byte digit_word (decimal (suc n)) (spells-decimal (suc n) (omega arith)).all
