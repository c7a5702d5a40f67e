-- A scenario that the words ask to make up has a size that may be made up.
use Rattle.std.proofs.Common.{◌≡◌, ◌≤◌, ◌&&◌, ℕ, Bool, true, false, List, [], Option, Some, None, if◌then◌else◌, nat_le, refl, ap, subst, ◌∙◌, arith}
use Rattle.std.specs.Option.{option_map}
use Rattle.std.specs.Str.Parse.{digits_value}
use Rattle.std.proofs.lemmas.Bool.{leb-true, and_parts}
use Rattle.command_words.specs.Line.{asked_by, is_number_text, line, made, number_in_range, number_or}
use Rattle.command_words.specs.Line as words
use Rattle.command_words.specs.Options as name
use Rattle.command_words.specs.Options.{Given, Text, is_given, options, value_given, ◌>>=◌}
use Rattle.command_words.specs.declared.Make.{Make}
use Rattle.command_words.specs.declared.SimWords.{SimWords}
use Rattle.sim_top.specs.Asked.{HasRange, made_or, options_asked, options_from, read_form}
use Rattle.sim_top.specs.declared.options.Options.{Options}

-- what a choice between something and nothing tells that came to something
if_some : {A : Type 0} (b : Bool) (x y : A) → (if b then Some x else None) ≡ Some y → (b ≡ true) × (x ≡ y)
if_some true x y h = (refl, cc)
if_some false x y h = absurd (cc)

bind_some : {A B : Type 0} (o : Option A) (f : A → Option B) (y : B) → (o >>= f) ≡ Some y → (x : A) × (o ≡ Some x)
    × (f x ≡ Some y)
bind_some None f y h = absurd (cc)
bind_some (Some x) f y h = (x, refl, h)

map_some : {A B : Type 0} (f : A → B) (o : Option A) (y : B) → option_map f o ≡ Some y → (x : A) × (o ≡ Some x) × (f x ≡ y)
map_some f None y h = absurd (cc)
map_some f (Some x) y h = let same : f x ≡ y = cc in (x, refl, same)

at_most : (least most : ℕ) (text : Text) (n : ℕ) → number_in_range least most text ≡ Some n → n ≤ most
at_most least most text n h =
    let chosen = if_some (is_number_text text && (nat_le least (digits_value 10 text) && nat_le (digits_value 10 text) most))
    (digits_value 10 text) n h in
    let parts = and_parts _ _ chosen.0 in
    let ends = and_parts _ _ parts.1 in
    subst (λ k. k ≤ most) chosen.1 (leb-true _ _ ends.1)

at_most_or : (default least most : ℕ) (text : Option Text) (n : ℕ) → default ≤ most →
    number_or default least most text ≡ Some n → n ≤ most
at_most_or default least most None n fits h = let same : default ≡ n = cc in subst (λ k. k ≤ most) same fits
at_most_or default least most (Some text) n fits h = at_most least most text n h

abbrev InRange : Make → Type 0
InRange make = (make.sessions ≤ 64) × (make.txs ≤ 100)

made_range : (sessions txs : Option Text) (make : Make) → made sessions txs ≡ Some (Some make) → InRange make
made_range None None make h = absurd (cc)
made_range None (Some txs) make h = absurd (cc)
made_range (Some sessions) txs make h =
    let count = bind_some (number_in_range 1 64 sessions) _ _ h in
    let each = bind_some (number_or 20 1 100 txs) _ _ count.2 in
    let same : record { sessions = count.0; txs = each.0 } ≡ make = (let e = each.2 in cc) in
    subst InRange same (at_most 1 64 sessions count.0 count.1, at_most_or 20 1 100 txs each.0 (omega arith) each.1)

asked_range : (seed steps make txs : Option Text) (trace json : Bool) (w : SimWords) (m : Make) →
    words.words_asked seed steps make txs trace json ≡ Some w → w.make ≡ Some m → InRange m
asked_range seed steps make txs trace json w m h is =
    let first = bind_some (number_or 0 0 18446744073709551615 seed) _ w h in
    let most = bind_some (number_or 1000000 1 4000000 steps) _ w first.2 in
    let making = bind_some (made make txs) _ w most.2 in
    let chosen = if_some _ _ w making.2 in
    let same : making.0 ≡ Some m = ap (λ (x : SimWords). x.make) chosen.1 ∙ is in
    made_range make txs m (making.1 ∙ ap Some same)

given_range : (given : Given) (w : SimWords) (m : Make) → asked_by given ≡ Some w → w.make ≡ Some m → InRange m
given_range given w m h is =
    asked_range (value_given name.seed given) (value_given name.steps given) (value_given name.make given)
    (value_given name.txs given) (is_given name.trace given) (is_given name.json given) w m h is

line_range : (texts : List Text) (w : SimWords) (m : Make) → line texts ≡ Some w → w.make ≡ Some m → InRange m
line_range texts w m h is = let given = bind_some (options [] None texts) asked_by w h in given_range given.0 w m given.2 is

read_range : (json trace : Bool) → HasRange (read_form json trace)
read_range true trace = tt
read_range false true = tt
read_range false false = tt

form_range : (json trace : Bool) (make : Option Make) → ((m : Make) → make ≡ Some m → InRange m) →
    HasRange (made_or (read_form json trace) make)
form_range json trace None ranges = read_range json trace
form_range json trace (Some m) ranges = ranges m refl

-- what the words ask for has such a size
pub asked_has_range : (texts : List Text) (o : Options) → options_asked texts ≡ Some o → HasRange o.form
asked_has_range texts o h =
    let found = map_some options_from (line texts) o h in
    let w = found.0 in
    subst (λ (x : Options). HasRange x.form) found.2
    (form_range w.json w.trace w.make (λ m is. line_range texts w m found.1 is))
