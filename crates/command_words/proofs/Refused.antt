-- Lines with an option whose value is no number.
use Rattle.std.proofs.Common.{◌≡◌, ◌++◌, ℕ, Bool, true, false, cond, List, [], ◌∷◌, Option, Some, None, refl, find, bytes_eq, option_map}
use Rattle.command_words.specs.Line.{asked_by, is_number_text, made, number_in_range, number_or}
use Rattle.command_words.specs.Options.{Given, Name, State, Text, given_with, is_end, is_given, json, make, met, option_in, options, seed, spelled, steps, takes_value, trace, turn, txs, value_given, ◌>>=◌}

abbrev none : (A : Type 0) → Option A
none A = None

none_then : {A B : Type 0} (x : Option A) → (x >>= λ _. none B) ≡ none B
none_then None = refl
none_then (Some x) = refl

none_twice : {A B C : Type 0} (x : Option A) (y : Option B) → (x >>= λ _. y >>= λ _. none C) ≡ none C
none_twice None y = refl
none_twice (Some x) y = none_then y

no_number : (least most : ℕ) (text : Text) → is_number_text text ≡ false → number_in_range least most text ≡ None
no_number least most text h = rw h

made_of_none : (n : Option Text) (t : Text) → is_number_text t ≡ false → made (Some t) n ≡ None
made_of_none n t h = rw (no_number 1 64 t h)

made_with_none : (n : Option Text) (t : Text) → is_number_text t ≡ false → made n (Some t) ≡ None
made_with_none None t h = refl
made_with_none (Some s) t h = rw (no_number 1 100 t h) (none_then (number_in_range 1 64 s))

-- the values of such a line ask for nothing
pub refused_value : (n : Name) (given : Given) (t : Text) → takes_value n ≡ true → value_given n given ≡ Some t →
    is_number_text t ≡ false → asked_by given ≡ None
refused_value seed given t takes is bad = rw (is, no_number 0 18446744073709551615 t bad)
refused_value steps given t takes is bad =
    rw (is, no_number 1 4000000 t bad) (none_then (number_or 0 0 18446744073709551615 (value_given seed given)))
refused_value make given t takes is bad =
    rw (is, made_of_none (value_given txs given) t bad)
    (none_twice (number_or 0 0 18446744073709551615 (value_given seed given))
    (number_or 1000000 1 4000000 (value_given steps given)))
refused_value txs given t takes is bad =
    rw (is, made_with_none (value_given make given) t bad)
    (none_twice (number_or 0 0 18446744073709551615 (value_given seed given))
    (number_or 1000000 1 4000000 (value_given steps given)))
refused_value trace given t takes is bad = cc
refused_value json given t takes is bad = cc

value_stays : (n : Name) (given more : Given) (t : Text) → value_given n given ≡ Some t → value_given n (given ++ more) ≡ Some t
value_stays n [] more t h = cc
value_stays n (e ∷ given) more t h = go (bytes_eq (spelled e.0) (spelled n)) (value_stays n given more t) h
  where
    go : (b : Bool) → (value_given n given ≡ Some t → value_given n (given ++ more) ≡ Some t)
        → option_map (λ (x : Name × Text). x.1) (cond b (Some e) (find (λ x. bytes_eq (spelled x.0) (spelled n)) given))
        ≡ Some t
        → option_map (λ (x : Name × Text). x.1)
        (cond b (Some e) (find (λ x. bytes_eq (spelled x.0) (spelled n)) (given ++ more))) ≡ Some t
    go true rec h = h
    go false rec h = rec h

abbrev Keeps : Name → Text → Option State → Type 0
Keeps n t None = Unit {0}
Keeps n t (Some next) = value_given n next.0 ≡ Some t

added_keeps : (n m : Name) (given : Given) (t value : Text) → value_given n given ≡ Some t →
    Keeps n t (given_with m value given)
added_keeps n m given t value h = go (is_given m given)
  where
    go : (b : Bool) → Keeps n t (cond b None (Some (given ++ (m, value) ∷ [], None)))
    go true = tt
    go false = value_stays n given ((m, value) ∷ []) t h

met_keeps : (n m : Name) (given : Given) (t : Text) (value : Option Text) → value_given n given ≡ Some t →
    Keeps n t (met given m value)
met_keeps n m given t (Some value) h = go (takes_value m)
  where
    go : (b : Bool) → Keeps n t (cond b (given_with m value given) None)
    go true = added_keeps n m given t value h
    go false = tt
met_keeps n m given t None h = go (takes_value m)
  where
    go : (b : Bool) → Keeps n t (cond b (Some (given, Some m)) (given_with m [] given))
    go true = h
    go false = added_keeps n m given t [] h

turn_keeps : (n : Name) (given : Given) (t : Text) (waiting : Option Name) (word : Text) → value_given n given ≡ Some t →
    Keeps n t (turn given waiting word)
turn_keeps n given t (Some m) word h = added_keeps n m given t word h
turn_keeps n given t None word h = go (option_in word)
  where
    go : (o : Option (Name × Option Text)) → Keeps n t (o >>= λ found. met given found.0 found.1)
    go None = tt
    go (Some found) = met_keeps n found.0 given t found.1 h

-- and so does each line that goes on from them
pub refused_line : (words : List Text) (n : Name) (given : Given) (waiting : Option Name) (t : Text) → takes_value n ≡ true →
    value_given n given ≡ Some t → is_number_text t ≡ false
    → (options given waiting words >>= asked_by) ≡ None
refused_line [] n given None t takes is bad = refused_value n given t takes is bad
refused_line [] n given (Some m) t takes is bad = refl
refused_line (word ∷ rest) n given waiting t takes is bad =
    last (is_end waiting word rest) (λ next keeps. refused_line rest n next.0 next.1 t takes keeps bad)
  where
    go : (o : Option State) → Keeps n t o → ((next : State) → value_given n next.0 ≡ Some t →
        (options next.0 next.1 rest >>= asked_by) ≡ None)
        → ((o >>= λ next. options next.0 next.1 rest) >>= asked_by) ≡ None
    go None keeps rec = refl
    go (Some next) keeps rec = rec next keeps

    last : (b : Bool) → ((next : State) → value_given n next.0 ≡ Some t → (options next.0 next.1 rest >>= asked_by) ≡ None)
        → (cond b (Some given) (turn given waiting word >>= λ next. options next.0 next.1 rest) >>= asked_by) ≡ None
    last true rec = refused_value n given t takes is bad
    last false rec = go (turn given waiting word) (turn_keeps n given t waiting word is) rec
