-- The parser's walk over all the words.
use Rattle.std.proofs.Common.{◌≡◌, ◌∙◌, ◌++◌, ◌&&◌, ℕ, suc, arith, Bool, true, false, cond, List, [], ◌∷◌, length, Option, Some, None, is_some, refl, sym, ap, ap₂, subst, inl, inr, find, bytes_eq, option_map, ◌==◌}
use Rattle.std.specs.Option.{option_map_or}
use Rattle.std.proofs.lemmas.Bool.Decides.{nat_tests}
use Rattle.std.proofs.lemmas.Slice.Eq.{bytes_eq-Decides}
use Rattle.clap.specs.Lexer.{long_of}
use Rattle.clap.specs.Walk.{Held, Row, Rule, Waiting, Walk, after_flag, arg_by_long, finished, first_of, idle, long_met, option, settled, settled_rows, used, used_by_id, walked, after_step}
use Rattle.clap.specs.Kinds.{Kinds, or_else}
use Rattle.clap.specs.Faults.{check_fault, defaults_fault, long_fault, settle_fault, step_fault, turn_fault, use_fault, walk_fault}
use Rattle.clap.specs.declared.error.kind.ErrorKind.TheVariants.{ArgumentConflict}
use Rattle.command_words.specs.declared.SimWords.{SimWords}
use Rattle.command_words.specs.Line.{asked_by, is_number_text, line}
use Rattle.command_words.specs.Options.{Given, Name, State, Text, given_with, is_given, met, named, option_in, options, spelled, takes_value, value_given, ◌>>=◌}
use Rattle.command_words.specs.Parse.{asked_of}
use Rattle.command_words.proofs.Refused.{refused_line}
use Rattle.command_words.proofs.Rules.{rule, rule_by, raw, rows, use_is, used_is}
use Rattle.command_words.proofs.Spelling.{seen, option_is, long_no_number, dashes_no_number, dashes_named}
use Rattle.command_words.proofs.Turns.{Knows, ours, hold, at, closed, fails, answered, verdict, turned, stopped_at, dashes, fault_by, walked_by, idle_fault, idle_walked, option_fault, option_walked, closed_fails, stray_fails, long_word_fails, no_long, plain_walked}

abbrev none : Option SimWords
none = None

end_fails : (a b : Kinds) (x : Option SimWords) → fails a ≡ true → answered (or_else a b) x ≡ None
end_fails [] b x h = cc
end_fails (k ∷ ks) b x h = refl

-- the words have ended, where the option that waits has no value or stands there again
ended_fails : (c : List Rule) (w : Walk) → fails (settle_fault c false w.held) ≡ true → verdict c w [] ≡ None
unfolding walk_fault
ended_fails c w bad = end_fails (settle_fault c false w.held) _ _ bad

finish : (a b d : Kinds) (x y : Option SimWords) → a ≡ [] → b ≡ [] → d ≡ [] → x ≡ y → answered (or_else a (or_else b d)) x ≡ y
finish a b d x y p q r e = rw (p, q, r) e

-- and where it settles
ended_passes : (c : List Rule) (k : Knows c) (w : Walk) (given : Given) → settle_fault c false w.held ≡ [] →
    (settled c w.held).rows ≡ rows given → verdict c w [] ≡ asked_by given
unfolding walk_fault
ended_passes c k w given passes same =
    finish (settle_fault c false w.held) (defaults_fault (settled c w.held).rows c)
    (check_fault (ours c) (finished c w.held) false) (asked_of (λ id. first_of id (finished c w.held))) (asked_by given)
    passes (k.defaults (settled c w.held).rows) (k.checks (finished c w.held)) (k.reads given w.held same)

-- after `--`
closed_verdict : (c : List Rule) (k : Knows c) (h : Held) (waiting : Waiting) (word : Text) (rest : List Text) →
    verdict c (closed h waiting) (word ∷ rest) ≡ None
closed_verdict c k h waiting word rest = stopped_at c (closed h waiting) word rest (closed_fails c k h waiting word)

idle_ends : (c : List Rule) (h : Held) (word : Text) (rest : List Text) → bytes_eq word dashes ≡ true →
    verdict c (at h idle) (word ∷ rest) ≡ verdict c (closed h idle) rest
idle_ends c h word rest e = turned c (at h idle) (closed h idle) word rest
    (idle_fault c h word ∙ ap (λ b. fault_by c idle h word b (long_of word)) e)
    (idle_walked c h word ∙ ap (λ b. walked_by c idle h word b (long_of word)) e)

option_ends : (c : List Rule) (h : Held) (id word : Text) (rest : List Text) → bytes_eq word dashes ≡ true →
    verdict c (at h (option id)) (word ∷ rest) ≡ verdict c (closed h (option id)) rest
option_ends c h id word rest e = turned c (at h (option id)) (closed h (option id)) word rest
    (option_fault c h id word ∙ ap (λ b. fault_by c (option id) h word b (long_of word)) e)
    (option_walked c h id word ∙ ap (λ b. walked_by c (option id) h word b (long_of word)) e)

-- a word that names no option, where none waits
stray : (c : List Rule) (k : Knows c) (xs : List Row) (p : Option (Text × List Text)) (word : Text) →
    fails (fault_by c idle (hold xs p) word false None) ≡ true
stray c k xs p word = elim (no_long c k xs p idle word) [
  | inl bad ↦ bad.0
  | inr is ↦ subst (λ (a : Kinds). fails a ≡ true) (sym is.0) (stray_fails c k (hold xs p))
]

idle_stops : (c : List Rule) (h : Held) (word : Text) (rest : List Text) (ends : Bool) (long : Option (Text × Option Text)) →
    bytes_eq word dashes ≡ ends → long_of word ≡ long
    → fails (fault_by c idle h word ends long) ≡ true → verdict c (at h idle) (word ∷ rest) ≡ None
idle_stops c h word rest ends long e f bad = stopped_at c (at h idle) word rest
    (subst (λ (a : Kinds). fails a ≡ true) (sym (idle_fault c h word ∙ ap₂ (fault_by c idle h word) e f)) bad)

option_stops : (c : List Rule) (h : Held) (id word : Text) (rest : List Text) (ends : Bool)
    (long : Option (Text × Option Text)) → bytes_eq word dashes ≡ ends → long_of word ≡ long
    → fails (fault_by c (option id) h word ends long) ≡ true → verdict c (at h (option id)) (word ∷ rest) ≡ None
option_stops c h id word rest ends long e f bad = stopped_at c (at h (option id)) word rest
    (subst (λ (a : Kinds). fails a ≡ true) (sym (option_fault c h id word ∙ ap₂ (fault_by c (option id) h word) e f)) bad)

-- where an option that does not settle is held, no words help
unsettled : (c : List Rule) (k : Knows c) (xs : List Row) (p : Option (Text × List Text)) (words : List Text) →
    fails (settle_fault c false (hold xs p)) ≡ true → verdict c (at (hold xs p) idle) words ≡ None
unsettled c k xs p [] bad = ended_fails c (at (hold xs p) idle) bad
unsettled c k xs p (word ∷ rest) bad = go (bytes_eq word dashes) refl (long_of word) refl
  where
    ended : (rest : List Text) → verdict c (closed (hold xs p) idle) rest ≡ None
    ended [] = ended_fails c (closed (hold xs p) idle) bad
    ended (x ∷ more) = closed_verdict c k (hold xs p) idle x more

    go : (ends : Bool) → bytes_eq word dashes ≡ ends → (long : Option (Text × Option Text)) → long_of word ≡ long →
        verdict c (at (hold xs p) idle) (word ∷ rest) ≡ None
    go true e long f = idle_ends c (hold xs p) word rest e ∙ ended rest
    go false e (Some q) f = idle_stops c (hold xs p) word rest false (Some q) e f
        (long_word_fails c idle (hold xs p) word q bad)
    go false e None f = idle_stops c (hold xs p) word rest false None e f (stray c k xs p word)

-- ---- what the walk comes to is what the line asks for

-- where no option waits, and the one that is held settles
abbrev Goes : List Rule → List Text → Type 0
Goes c words = (xs : List Row) (p : Option (Text × List Text)) (given : Given) → settle_fault c false (hold xs p) ≡ [] →
    settled_rows c p xs ≡ rows given
    → verdict c (at (hold xs p) idle) words ≡ (options given None words >>= asked_by)

-- where an option waits
abbrev Waits : List Rule → List Text → Type 0
Waits c words = (n : Name) (given : Given) → takes_value n ≡ true
    → verdict c (at (hold (rows given) (Some (spelled n, []))) (option (spelled n))) words ≡ (options given (Some n) words
    >>= asked_by)

waiting_fails : (c : List Rule) (k : Knows c) (n : Name) (xs : List Row) → takes_value n ≡ true →
    fails (settle_fault c false (hold xs (Some (spelled n, [])))) ≡ true
waiting_fails c k n xs takes = rw (k.id n, takes) refl

same_name : (n : Name) → bytes_eq (spelled n) (spelled n) ≡ true
same_name n = (bytes_eq-Decides (spelled n) (spelled n)).1 refl

value_last : (n : Name) (given : Given) (t : Text) → is_given n given ≡ false → value_given n (given ++ (n, t) ∷ []) ≡ Some t
value_last n [] t h = rw (same_name n)
value_last n (e ∷ given) t h = go (bytes_eq (spelled e.0) (spelled n)) h (value_last n given t)
  where
    go : (b : Bool) → is_some
        (option_map (λ (x : Name × Text). x.1) (cond b (Some e) (find (λ x. bytes_eq (spelled x.0) (spelled n)) given))) ≡ false
        → (is_given n given ≡ false → value_given n (given ++ (n, t) ∷ []) ≡ Some t)
        → option_map (λ (x : Name × Text). x.1)
        (cond b (Some e) (find (λ x. bytes_eq (spelled x.0) (spelled n)) (given ++ (n, t) ∷ []))) ≡ Some t
    go true h rec = cc
    go false h rec = rec h

-- the line goes on after an option with its value
abbrev on : Name → Text → Given → List Text → Option SimWords
on n t given rest = (given_with n t given >>= λ next. options next.0 next.1 rest) >>= asked_by

refused_on : (n : Name) (t : Text) (given : Given) (rest : List Text) → takes_value n ≡ true → is_number_text t ≡ false →
    on n t given rest ≡ None
refused_on n t given rest takes bad = go (is_given n given) refl
  where
    go : (b : Bool) → is_given n given ≡ b →
        (cond b None (Some (given ++ (n, t) ∷ [], None)) >>= λ (next : State). options next.0 next.1 rest) >>= asked_by ≡ None
    go true e = refl
    go false e = refused_line rest n (given ++ (n, t) ∷ []) None t takes (value_last n given t e) bad

on_again : (n : Name) (t : Text) (given : Given) (rest : List Text) → is_given n given ≡ true → on n t given rest ≡ None
on_again n t given rest e =
    ap (λ (b : Bool). (cond b None (Some (given ++ (n, t) ∷ [], None)) >>= λ (next : State). options next.0 next.1 rest)
    >>= asked_by) e

on_first : (n : Name) (t : Text) (given : Given) (rest : List Text) → is_given n given ≡ false →
    on n t given rest ≡ (options (given ++ (n, t) ∷ []) None rest >>= asked_by)
on_first n t given rest e =
    ap (λ (b : Bool). (cond b None (Some (given ++ (n, t) ∷ [], None)) >>= λ (next : State). options next.0 next.1 rest)
    >>= asked_by) e

-- ---- where an option waits

raw_is : (n : Name) (t : Text) → takes_value n ≡ true → t ∷ [] ≡ raw (takes_value n) t
raw_is n t takes = sym (ap (λ (b : Bool). raw b t) takes)

held_fault : (c : List Rule) (k : Knows c) (n : Name) (t : Text) (given : Given) → takes_value n ≡ true
    → settle_fault c false (hold (rows given) (Some (spelled n, t ∷ []))) ≡ cond (is_given n given) (ArgumentConflict ∷ []) []
held_fault c k n t given takes =
    ap (λ (o : Option Rule). option_map_or (λ (a : Rule). use_fault false a (t ∷ []) (rows given)) o []) (k.id n)
    ∙ (ap (λ (vs : List Text). use_fault false (rule n) vs (rows given)) (raw_is n t takes) ∙ use_is n t given)

held_rows : (c : List Rule) (k : Knows c) (n : Name) (t : Text) (given : Given) → takes_value n ≡ true →
    is_given n given ≡ false
    → settled_rows c (Some (spelled n, t ∷ [])) (rows given) ≡ rows (given ++ (n, t) ∷ [])
held_rows c k n t given takes e =
    ap (λ (o : Option Rule). used_by_id o (t ∷ []) (rows given)) (k.id n)
    ∙ (ap (λ (vs : List Text). used (rule n) vs (rows given)) (raw_is n t takes) ∙ used_is n t given e)

held_on : (c : List Rule) (k : Knows c) (rest : List Text) → Goes c rest → (n : Name) (t : Text) (given : Given) →
    takes_value n ≡ true
    → verdict c (at (hold (rows given) (Some (spelled n, t ∷ []))) idle) rest ≡ on n t given rest
held_on c k rest ih n t given takes = go (is_given n given) refl
  where
    go : (b : Bool) → is_given n given ≡ b → verdict c (at (hold (rows given) (Some (spelled n, t ∷ []))) idle) rest
        ≡ on n t given rest
    go true e = unsettled c k (rows given) (Some (spelled n, t ∷ [])) rest
        (ap fails (held_fault c k n t given takes ∙ ap (λ (b : Bool). cond b (ArgumentConflict ∷ []) []) e))
        ∙ sym (on_again n t given rest e)
    go false e = ih (rows given) (Some (spelled n, t ∷ [])) (given ++ (n, t) ∷ []) (held_fault c k n t given takes
        ∙ ap (λ (b : Bool). cond b (ArgumentConflict ∷ []) []) e) (held_rows c k n t given takes e)
        ∙ sym (on_first n t given rest e)

plain_moves : (c : List Rule) (k : Knows c) (n : Name) (xs : List Row) (word : Text) → takes_value n ≡ true
    → plain_walked c (option (spelled n)) (hold xs (Some (spelled n, []))) word ≡ at (hold xs (Some (spelled n, word ∷ [])))
    idle
plain_moves c k n xs word takes = rw (k.id n, takes, same_name n)

waits_step : (c : List Rule) (k : Knows c) (word : Text) (rest : List Text) → Goes c rest → Waits c (word ∷ rest)
waits_step c k word rest ih n given takes = go (bytes_eq word dashes) refl (long_of word) refl
  where
    bad : fails (settle_fault c false (hold (rows given) (Some (spelled n, [])))) ≡ true
    bad = waiting_fails c k n (rows given) takes

    ended : (rest : List Text) → verdict c (closed (hold (rows given) (Some (spelled n, []))) (option (spelled n))) rest ≡ None
    ended [] = ended_fails c (closed (hold (rows given) (Some (spelled n, []))) (option (spelled n))) bad
    ended (x ∷ more) = closed_verdict c k (hold (rows given) (Some (spelled n, []))) (option (spelled n)) x more

    go : (ends : Bool) → bytes_eq word dashes ≡ ends → (long : Option (Text × Option Text)) → long_of word ≡ long
        → verdict c (at (hold (rows given) (Some (spelled n, []))) (option (spelled n))) (word ∷ rest) ≡ on n word given rest
    go true e long f = option_ends c (hold (rows given) (Some (spelled n, []))) (spelled n) word rest e
        ∙ (ended rest ∙ sym (refused_on n word given rest takes (dashes_no_number word e)))
    go false e (Some q) f =
        option_stops c (hold (rows given) (Some (spelled n, []))) (spelled n) word rest false (Some q) e f
        (long_word_fails c (option (spelled n)) (hold (rows given) (Some (spelled n, []))) word q bad)
        ∙ sym (refused_on n word given rest takes (long_no_number word q f))
    go false e None f = elim (no_long c k (rows given) (Some (spelled n, [])) (option (spelled n)) word) [
      | inl refusal ↦ option_stops c (hold (rows given) (Some (spelled n, []))) (spelled n) word rest false None e f refusal.0
          ∙ sym (refused_on n word given rest takes refusal.1)
      | inr is ↦
          turned c (at (hold (rows given) (Some (spelled n, []))) (option (spelled n)))
          (at (hold (rows given) (Some (spelled n, word ∷ []))) idle) word rest
          (option_fault c (hold (rows given) (Some (spelled n, []))) (spelled n) word
          ∙ (ap₂ (fault_by c (option (spelled n)) (hold (rows given) (Some (spelled n, []))) word) e f ∙ is.0))
          (option_walked c (hold (rows given) (Some (spelled n, []))) (spelled n) word
          ∙ (ap₂ (walked_by c (option (spelled n)) (hold (rows given) (Some (spelled n, []))) word) e f
          ∙ (is.1 ∙ plain_moves c k n (rows given) word takes)))
          ∙ held_on c k rest ih n word given takes
    ]

-- ---- where none waits

abbrev long_fault_by : List Rule → Held → Text → Option Text → Option Rule → Kinds
long_fault_by c h word v arg =
    or_else (long_fault c false arg v h)
    (step_fault (ours c) 1 (after_flag c idle word (long_met c arg v h).0 (long_met c arg v h).1).0
    (after_flag c idle word (long_met c arg v h).0 (long_met c arg v h).1).1)

abbrev long_walked_by : List Rule → Held → Text → Option Text → Option Rule → Walk
long_walked_by c h word v arg =
    after_step c word (at h idle) (after_flag c idle word (long_met c arg v h).0 (long_met c arg v h).1).0
    (after_flag c idle word (long_met c arg v h).0 (long_met c arg v h).1).1

long_turn : (c : List Rule) (h : Held) (word : Text) (q : Text × Option Text) (arg : Option Rule) →
    bytes_eq word dashes ≡ false → long_of word ≡ Some q → arg_by_long c q.0 ≡ arg
    → (turn_fault (ours c) [] (at h idle) word ≡ long_fault_by c h word q.1 arg)
    × (walked c [] (at h idle) word ≡ long_walked_by c h word q.1 arg)
long_turn c h word q arg e f found = (
  idle_fault c h word ∙ (ap₂ (fault_by c idle h word) e f ∙ ap (long_fault_by c h word q.1) found),
  idle_walked c h word ∙ (ap₂ (walked_by c idle h word) e f ∙ ap (long_walked_by c h word q.1) found),
)

abbrev by_use : List Rule → List Row → Option (Text × List Text) → Text → Bool → Text → Kinds
by_use c xs p id takes t =
    or_else (or_else (settle_fault c false (hold xs p)) (use_fault false (rule_by id takes) (raw takes t)
    (settled_rows c p xs))) []

used_on : (c : List Rule) (k : Knows c) (word : Text) (rest : List Text) → Goes c rest →
    (xs : List Row) (p : Option (Text × List Text)) (given : Given)
    → settle_fault c false (hold xs p) ≡ [] → settled_rows c p xs ≡ rows given → (n : Name) (t : Text)
    → turn_fault (ours c) [] (at (hold xs p) idle) word ≡ by_use c xs p (spelled n) (takes_value n) t
    → walked c [] (at (hold xs p) idle) word ≡ at (hold (used (rule n) (raw (takes_value n) t) (settled_rows c p xs)) None) idle
    → verdict c (at (hold xs p) idle) (word ∷ rest) ≡ on n t given rest
used_on c k word rest ih xs p given passes same n t faults moves = go (is_given n given) refl
  where
    faults_are : turn_fault (ours c) [] (at (hold xs p) idle) word ≡ or_else
        (cond (is_given n given) (ArgumentConflict ∷ []) []) []
    faults_are = faults ∙ (ap₂ (λ (a : Kinds) (ys : List Row).
        or_else (or_else a (use_fault false (rule n) (raw (takes_value n) t) ys)) []) passes same
        ∙ ap (λ (a : Kinds). or_else a []) (use_is n t given))

    go : (b : Bool) → is_given n given ≡ b → verdict c (at (hold xs p) idle) (word ∷ rest) ≡ on n t given rest
    go true e = stopped_at c (at (hold xs p) idle) word rest
        (ap fails (faults_are ∙ ap (λ (b : Bool). or_else (cond b (ArgumentConflict ∷ []) []) []) e))
        ∙ sym (on_again n t given rest e)
    go false e = turned c (at (hold xs p) idle) (at (hold (used (rule n) (raw (takes_value n) t) (settled_rows c p xs)) None)
        idle) word rest
        (faults_are ∙ ap (λ (b : Bool). or_else (cond b (ArgumentConflict ∷ []) []) []) e) moves
        ∙ (ih (used (rule n) (raw (takes_value n) t) (settled_rows c p xs)) None (given ++ (n, t) ∷ []) refl
        (ap (used (rule n) (raw (takes_value n) t)) same ∙ used_is n t given e) ∙ sym (on_first n t given rest e))

-- the line goes on after a word that names an option
abbrev met_on : Given → List Text → Name → Option Text → Option SimWords
met_on given rest n v = (met given n v >>= λ next. options next.0 next.1 rest) >>= asked_by

met_value : (n : Name) (t : Text) (given : Given) (rest : List Text) → takes_value n ≡ true →
    met_on given rest n (Some t) ≡ on n t given rest
met_value n t given rest takes =
    ap (λ (b : Bool). (cond b (given_with n t given) None >>= λ (next : State). options next.0 next.1 rest) >>= asked_by) takes

met_waiting : (n : Name) (given : Given) (rest : List Text) → takes_value n ≡ true →
    met_on given rest n None ≡ (options given (Some n) rest >>= asked_by)
met_waiting n given rest takes =
    ap (λ (b : Bool). (cond b (Some (given, Some n)) (given_with n [] given) >>= λ (next : State). options next.0 next.1 rest)
    >>= asked_by) takes

met_flag : (n : Name) (given : Given) (rest : List Text) → takes_value n ≡ false → met_on given rest n None ≡ on n [] given rest
met_flag n given rest takes =
    ap (λ (b : Bool). (cond b (Some (given, Some n)) (given_with n [] given) >>= λ (next : State). options next.0 next.1 rest)
    >>= asked_by) takes

met_unneeded : (n : Name) (t : Text) (given : Given) (rest : List Text) → takes_value n ≡ false →
    met_on given rest n (Some t) ≡ None
met_unneeded n t given rest takes =
    ap (λ (b : Bool). (cond b (given_with n t given) None >>= λ (next : State). options next.0 next.1 rest) >>= asked_by) takes

module _ (c : List Rule) (k : Knows c) (word : Text) (rest : List Text) (goes : Goes c rest) (waits : Waits c rest)
    (xs : List Row) (p : Option (Text × List Text)) (given : Given) (passes : settle_fault c false (hold xs p) ≡ [])
    (same : settled_rows c p xs ≡ rows given) where
  named_on : (name : Text) (v : Option Text) (n : Name) (b : Bool) → takes_value n ≡ b → bytes_eq word dashes ≡ false →
      long_of word ≡ Some (name, v)
      → arg_by_long c name ≡ Some (rule_by (spelled n) b) → verdict c (at (hold xs p) idle) (word ∷ rest)
      ≡ met_on given rest n v
  named_on name None n true takes e f found =
      let turn = long_turn c (hold xs p) word (name, None) (Some (rule_by (spelled n) true)) e f found in
      turned c (at (hold xs p) idle) (at (hold (rows given) (Some (spelled n, []))) (option (spelled n))) word rest
      (turn.0 ∙ ap (λ (a : Kinds). or_else a []) passes)
      (turn.1 ∙ ap (λ (ys : List Row). at (hold ys (Some (spelled n, []))) (option (spelled n))) same)
      ∙ (waits n given takes ∙ sym (met_waiting n given rest takes))
  named_on name (Some t) n true takes e f found =
      let turn = long_turn c (hold xs p) word (name, Some t) (Some (rule_by (spelled n) true)) e f found in
      used_on c k word rest goes xs p given passes same n t
      (turn.0 ∙ ap (λ (b : Bool). by_use c xs p (spelled n) b t) (sym takes))
      (turn.1 ∙ ap (λ (b : Bool). at (hold (used (rule_by (spelled n) b) (raw b t) (settled_rows c p xs)) None) idle)
      (sym takes))
      ∙ sym (met_value n t given rest takes)
  named_on name None n false takes e f found =
      let turn = long_turn c (hold xs p) word (name, None) (Some (rule_by (spelled n) false)) e f found in
      used_on c k word rest goes xs p given passes same n []
      (turn.0 ∙ ap (λ (b : Bool). by_use c xs p (spelled n) b []) (sym takes))
      (turn.1 ∙ ap (λ (b : Bool). at (hold (used (rule_by (spelled n) b) (raw b []) (settled_rows c p xs)) None) idle)
      (sym takes))
      ∙ sym (met_flag n given rest takes)
  named_on name (Some t) n false takes e f found =
      let turn = long_turn c (hold xs p) word (name, Some t) (Some (rule_by (spelled n) false)) e f found in
      stopped_at c (at (hold xs p) idle) word rest (ap fails turn.0) ∙ sym (met_unneeded n t given rest takes)

  abbrev ours_by : Bool → Option (Name × Option Text) → Option SimWords
  ours_by ends found = cond (ends && length rest == 0) (Some given) ((found >>= λ x. met given x.0 x.1)
      >>= λ next. options next.0 next.1 rest) >>= asked_by

  long_on : (name : Text) (v : Option Text) (o : Option Name) → named name ≡ o → bytes_eq word dashes ≡ false →
      long_of word ≡ Some (name, v)
      → verdict c (at (hold xs p) idle) (word ∷ rest) ≡ ours_by false (option_map (λ n. (n, v)) o)
  long_on name v None none_named e f =
      stopped_at c (at (hold xs p) idle) word rest
      (ap fails (long_turn c (hold xs p) word (name, v) None e f (k.long name ∙ ap (option_map rule) none_named)).0)
  long_on name v (Some n) is_named e f = named_on name v n (takes_value n) refl e f (k.long name
      ∙ ap (option_map rule) is_named)

  goes_by : (ends : Bool) → bytes_eq word dashes ≡ ends → (long : Option (Text × Option Text)) → long_of word ≡ long
      → (verdict c (closed (hold xs p) idle) rest ≡ ours_by true None) → verdict c (at (hold xs p) idle) (word ∷ rest)
      ≡ ours_by (bytes_eq word dashes) (option_in word)
  goes_by true e long f ended = idle_ends c (hold xs p) word rest e ∙ (ended ∙ sym (ap₂ ours_by e (dashes_named word e)))
  goes_by false e None f ended = idle_stops c (hold xs p) word rest false None e f (stray c k xs p word)
      ∙ sym (ap₂ ours_by e (option_is word ∙ ap seen f))
  goes_by false e (Some q) f ended = long_on q.0 q.1 (named q.0) refl e f ∙ sym (ap₂ ours_by e (option_is word ∙ ap seen f))

never_none : (n : ℕ) → (suc n == 0) ≡ false
never_none n = grind (arith, nat_tests)

goes_step : (c : List Rule) (k : Knows c) (word : Text) (rest : List Text) → Goes c rest → Waits c rest → Goes c (word ∷ rest)
goes_step c k word rest goes waits xs p given passes same =
    goes_by c k word rest goes waits xs p given passes same (bytes_eq word dashes) refl (long_of word) refl (ended rest)
  where
    ended : (rest : List Text) → verdict c (closed (hold xs p) idle) rest ≡ (cond (length rest == 0) (Some given) None
        >>= asked_by)
    ended [] = ended_passes c k (closed (hold xs p) idle) given passes same
    ended (x ∷ more) = closed_verdict c k (hold xs p) idle x more
        ∙ sym (ap (λ (b : Bool). cond b (Some given) None >>= asked_by) (never_none (length more)))

each_line : (c : List Rule) (k : Knows c) (words : List Text) → Goes c words × Waits c words
each_line c k [] = (
  λ xs p given passes same. ended_passes c k (at (hold xs p) idle) given passes same,
  λ n given takes. ended_fails c (at (hold (rows given) (Some (spelled n, []))) (option (spelled n)))
      (waiting_fails c k n (rows given) takes),
)
each_line c k (word ∷ rest) = let before = each_line c k rest in
    (goes_step c k word rest before.0 before.1, waits_step c k word rest before.0)

-- the whole walk
pub walked_line : (c : List Rule) (k : Knows c) (words : List Text) → verdict c (at (hold [] None) idle) words ≡ line words
walked_line c k words = (each_line c k words).0 [] None [] refl refl
