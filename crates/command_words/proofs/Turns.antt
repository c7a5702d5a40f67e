-- One word of the parser's walk over a command with these options.
use Rattle.std.proofs.Common.{◌≡◌, ◌∙◌, ℕ, Bool, true, false, cond, List, [], ◌∷◌, Option, Some, None, is_some, refl, sym, ap, ap₂, subst, inl, inr, ◌⊎◌, fold, bytes_eq, codes, option_map}
use Rattle.std.specs.Prelude.{slice_get}
use Rattle.std.specs.Str.{chars}
use Rattle.std.specs.Option.{option_map_or}
use Rattle.clap.specs.Lexer.{long_of, short_of}
use Rattle.clap.specs.Walk.{Held, Outcome, Row, Rule, Step, Waiting, Walk, after_flag, after_step, arg_by_id, arg_by_index, arg_by_long, arg_by_short, bundle, bundle_met, finished, first_of, idle, long_or_other, option, plain, plain_word, settled, short_or_plain, takes_values, trailing, value, walked}
use Rattle.clap.specs.Simple.{Shape}
use Rattle.clap.specs.Kinds.{Kinds, or_else}
use Rattle.clap.specs.Faults.{bundle_fault, check_fault, defaults_fault, flag_word_fault, flags_fault, long_fault, option_fault as option_fault_of, react_fault, settle_fault, step_fault, turn_fault, use_fault, walk_fault}
use Rattle.clap.specs.declared.error.kind.ErrorKind.TheVariants as kind
use Rattle.command_words.specs.declared.SimWords.{SimWords}
use Rattle.command_words.specs.Line.{asked_by, is_number_text}
use Rattle.command_words.specs.Options.{Given, Name, Text, named, spelled}
use Rattle.command_words.specs.Parse.{asked_of}
use Rattle.command_words.proofs.Spelling.{short_no_number}
use Rattle.command_words.proofs.Rules.{rule, rows}

-- the command that the parser built, with these rules
abbrev pub ours : List Rule → Shape
ours c = record {
  name = codes "txsim";
  aliases = [];
  rules = c;
  is_plain = true;
  is_leaf = true;
  no_binary_name = true;
  disable_help_flag = true;
  disable_help_subcommand = true;
  disable_version_flag = true;
  propagate_version = false;
  has_version = false;
  has_long_version = false;
  args_override_self = false;
  arg_required_else_help = false;
  subcommand_required = false;
  subcommand_negates_reqs = false;
  is_built = true;
}

-- what the rules give
pub record Knows (c : List Rule) : Type 0 where
  pub long : (name : Text) → arg_by_long c name ≡ option_map rule (named name)
  pub id : (n : Name) → arg_by_id c (spelled n) ≡ Some (rule n)
  pub short : (x : ℕ) → arg_by_short c x ≡ None
  pub index : arg_by_index c 1 ≡ None
  pub defaults : (xs : List Row) → defaults_fault xs c ≡ []
  pub checks : (xs : List Row) → check_fault (ours c) xs false ≡ []
  pub reads : (given : Given) (h : Held) → (settled c h).rows ≡ rows given → asked_of (λ id. first_of id (finished c h))
      ≡ asked_by given

abbrev pub hold : List Row → Option (Text × List Text) → Held
hold xs p = record { rows = xs; pending = p; skip = 0 }

abbrev pub at : Held → Waiting → Walk
at h waiting = record { held = h; waiting = waiting; position = 1; is_trailing = false; stopped = None }

abbrev pub closed : Held → Waiting → Walk
closed h waiting = record { held = h; waiting = waiting; position = 1; is_trailing = true; stopped = None }

abbrev pub fails : Kinds → Bool
fails [] = false
fails (k ∷ ks) = true

abbrev pub answered : Kinds → Option SimWords → Option SimWords
answered [] found = found
answered (k ∷ ks) found = None

abbrev pub end_fault : List Rule → Held → Kinds
end_fault c h = or_else (settle_fault c false h)
    (or_else (defaults_fault (settled c h).rows c) (check_fault (ours c) (finished c h) false))

abbrev pub walk_on : List Rule → Walk → List Text → Walk
walk_on c w words = fold (walked c []) w words

-- what a parse comes to that stands here, before these words
abbrev pub verdict : List Rule → Walk → List Text → Option SimWords
verdict c w words = answered (or_else (walk_fault (ours c) [] w words) (end_fault c (walk_on c w words).held))
    (asked_of (λ id. first_of id (finished c (walk_on c w words).held)))

pub turned : (c : List Rule) (w next : Walk) (word : Text) (rest : List Text) → turn_fault (ours c) [] w word ≡ [] →
    walked c [] w word ≡ next → verdict c w (word ∷ rest) ≡ verdict c next rest
unfolding walk_fault
turned c w next word rest passes moves =
    ap (λ (t : Kinds). answered (or_else (or_else t (walk_fault (ours c) [] (walked c [] w word) rest))
    (end_fault c (walk_on c (walked c [] w word) rest).held))
    (asked_of (λ id. first_of id (finished c (walk_on c (walked c [] w word) rest).held)))) passes
    ∙ ap (λ (m : Walk). verdict c m rest) moves

failed : (t a b : Kinds) (x : Option SimWords) → fails t ≡ true → answered (or_else (or_else t a) b) x ≡ None
failed [] a b x h = cc
failed (k ∷ ks) a b x h = refl

pub stopped_at : (c : List Rule) (w : Walk) (word : Text) (rest : List Text) → fails (turn_fault (ours c) [] w word) ≡ true →
    verdict c w (word ∷ rest) ≡ None
unfolding walk_fault
stopped_at c w word rest h = failed (turn_fault (ours c) [] w word) _ _ _ h

-- ---- a word, by how it looks

abbrev pub dashes : Text
dashes = 45 ∷ 45 ∷ []

abbrev pub met_by : List Rule → Waiting → Held → Text → Bool → Option (Text × Option Text) → Held × Step
met_by c waiting h word ends long = cond ends (h, trailing 1) (long_or_other c waiting word long h)

abbrev pub fault_by : List Rule → Waiting → Held → Text → Bool → Option (Text × Option Text) → Kinds
fault_by c waiting h word ends long =
    or_else (cond ends [] (flag_word_fault c false long word h)) (step_fault (ours c) 1 (met_by c waiting h word ends long).0
    (met_by c waiting h word ends long).1)

pub idle_fault : (c : List Rule) (h : Held) (word : Text) → turn_fault (ours c) [] (at h idle) word ≡ fault_by c idle h word
    (bytes_eq word dashes) (long_of word)
idle_fault c h word = refl

pub option_fault : (c : List Rule) (h : Held) (id word : Text) → turn_fault (ours c) [] (at h (option id)) word ≡ fault_by c
    (option id) h word (bytes_eq word dashes) (long_of word)
option_fault c h id word = refl

abbrev pub walked_by : List Rule → Waiting → Held → Text → Bool → Option (Text × Option Text) → Walk
walked_by c waiting h word ends long = after_step c word (at h waiting) (met_by c waiting h word ends long).0
    (met_by c waiting h word ends long).1

pub idle_walked : (c : List Rule) (h : Held) (word : Text) → walked c [] (at h idle) word ≡ walked_by c idle h word
    (bytes_eq word dashes) (long_of word)
unfolding walked
idle_walked c h word = refl

pub option_walked : (c : List Rule) (h : Held) (id word : Text) → walked c [] (at h (option id)) word ≡ walked_by c
    (option id) h word (bytes_eq word dashes) (long_of word)
unfolding walked
option_walked c h id word = refl

-- behind `--` each word is refused
pub closed_fails : (c : List Rule) (k : Knows c) (h : Held) (waiting : Waiting) (word : Text) →
    fails (turn_fault (ours c) [] (closed h waiting) word) ≡ true
closed_fails c k h waiting word = rw k.index

-- and a word that is no option, where none waits for it
pub stray_fails : (c : List Rule) (k : Knows c) (h : Held) → fails (step_fault (ours c) 1 h value) ≡ true
stray_fails c k h = rw k.index

-- ---- what every word does where the option that waits has no value, or has one again

pub past_fails : (a b : Kinds) → fails a ≡ true → fails (or_else a b) ≡ true
past_fails [] b h = cc
past_fails (k ∷ ks) b h = refl

long_fails : (c : List Rule) (arg : Option Rule) (v : Option Text) (h : Held) → fails (settle_fault c false h) ≡ true →
    fails (long_fault c false arg v h) ≡ true
long_fails c None v h bad = refl
long_fails c (Some a) v h bad = go (takes_values a) v
  where
    go : (b : Bool) (v : Option Text) →
        fails (cond b (option_fault_of c false a v h)
        (cond (is_some v) (kind.TooManyValues ∷ []) (react_fault c false a [] h))) ≡ true
    go true None = bad
    go true (Some t) = past_fails (settle_fault c false h) (use_fault false a (t ∷ []) (settled c h).rows) bad
    go false None = past_fails (settle_fault c false h) (use_fault false a [] (settled c h).rows) bad
    go false (Some t) = refl

pub long_word_fails : (c : List Rule) (waiting : Waiting) (h : Held) (word : Text) (p : Text × Option Text) →
    fails (settle_fault c false h) ≡ true → fails (fault_by c waiting h word false (Some p)) ≡ true
long_word_fails c waiting h word p bad = past_fails (long_fault c false (arg_by_long c p.0) p.1 h) _
    (long_fails c (arg_by_long c p.0) p.1 h bad)

-- a bundle of short options is refused, or is no bundle
bundle_is : (c : List Rule) (k : Knows c) (xs : List Row) (p : Option (Text × List Text)) (flags : Text)
    → (fails (bundle_fault c false flags (hold xs p)) ≡ true) ⊎ ((bundle_fault c false flags (hold xs p) ≡ [])
    × (bundle c flags (hold xs p) ≡ (hold xs p, plain)))
unfolding flags_fault bundle_met
bundle_is c k xs p [] = inr (refl, refl)
bundle_is c k xs p (f ∷ flags) = go (slice_get (chars (f ∷ flags)) 0) refl
  where
    go : (o : Option ℕ) → slice_get (chars (f ∷ flags)) 0 ≡ o
        → (fails (bundle_fault c false (f ∷ flags) (hold xs p)) ≡ true) ⊎ ((bundle_fault c false (f ∷ flags) (hold xs p) ≡ [])
        × (bundle c (f ∷ flags) (hold xs p) ≡ (hold xs p, plain)))
    go None e = inr (rw e, rw e)
    go (Some x) e = inl (rw (e, k.short x))

abbrev short_fault : List Rule → Waiting → Held → Text → Option Text → Kinds
short_fault c waiting h word short =
    or_else (option_map_or (λ flags. bundle_fault c false flags h) short [])
    (step_fault (ours c) 1 (short_or_plain c waiting word short h).0 (short_or_plain c waiting word short h).1)

abbrev short_walked : List Rule → Waiting → Held → Text → Option Text → Walk
short_walked c waiting h word short = after_step c word (at h waiting) (short_or_plain c waiting word short h).0
    (short_or_plain c waiting word short h).1

abbrev pub plain_fault : List Rule → Waiting → Held → Text → Kinds
plain_fault c waiting h word = step_fault (ours c) 1 (plain_word c waiting word h).0 (plain_word c waiting word h).1

abbrev pub plain_walked : List Rule → Waiting → Held → Text → Walk
plain_walked c waiting h word = after_step c word (at h waiting) (plain_word c waiting word h).0 (plain_word c waiting word h).1

-- a word that is no long option is refused, and then it is no number, or is a plain word
pub no_long : (c : List Rule) (k : Knows c) (xs : List Row) (p : Option (Text × List Text)) (waiting : Waiting) (word : Text)
    → ((fails (fault_by c waiting (hold xs p) word false None) ≡ true) × (is_number_text word ≡ false))
    ⊎ ((fault_by c waiting (hold xs p) word false None ≡ plain_fault c waiting (hold xs p) word)
    × (walked_by c waiting (hold xs p) word false None ≡ plain_walked c waiting (hold xs p) word))
no_long c k xs p waiting word = go (short_of word) refl
  where
    go : (o : Option Text) → short_of word ≡ o
        → ((fails (fault_by c waiting (hold xs p) word false None) ≡ true) × (is_number_text word ≡ false))
        ⊎ ((fault_by c waiting (hold xs p) word false None ≡ plain_fault c waiting (hold xs p) word)
        × (walked_by c waiting (hold xs p) word false None ≡ plain_walked c waiting (hold xs p) word))
    go None e = inr (ap (short_fault c waiting (hold xs p) word) e, ap (short_walked c waiting (hold xs p) word) e)
    go (Some flags) e = elim (bundle_is c k xs p flags) [
      | inl bad ↦ inl (
        subst (λ (o : Option Text). fails (short_fault c waiting (hold xs p) word o) ≡ true) (sym e)
            (past_fails (bundle_fault c false flags (hold xs p)) _ bad),
        short_no_number word flags e,
      )
      | inr is ↦ inr (
        ap (short_fault c waiting (hold xs p) word) e
            ∙ ap₂ (λ (a : Kinds) (b : Held × Outcome).
            or_else a (step_fault (ours c) 1 (after_flag c waiting word b.0 b.1).0 (after_flag c waiting word b.0 b.1).1))
            is.0 is.1,
        ap (short_walked c waiting (hold xs p) word) e
            ∙ ap (λ (b : Held × Outcome). after_step c word (at (hold xs p) waiting) (after_flag c waiting word b.0 b.1).0
            (after_flag c waiting word b.0 b.1).1) is.1,
      )
    ]
