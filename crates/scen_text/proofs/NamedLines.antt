-- Which node a line names does not depend on the format by which it is read.
use Rattle.std.proofs.Common.{◌≡◌, ℕ, Bool, true, false, List, [], ◌∷◌, refl, sym, ◌∙◌}
use Rattle.std.specs.Prelude.{◌&&◌, ◌==◌, not, codes, bytes_eq, Option, Some, None, Result, Ok, Err, if◌then◌else◌}
use Rattle.std.specs.Str.{is_utf8}
use Rattle.std.proofs.lemmas.Bool.{cond_both}
use Rattle.ignite_types.specs.declared.scenario.Mode.{Mode}
use Rattle.scen_text.specs.declared.cause.Cause.{Cause}
use Rattle.scen_text.specs.declared.cause.Cause.TheVariants.{NotUtf8}
use Rattle.scen_text.specs.declared.keyword.Keyword.{Keyword}
use Rattle.scen_text.specs.declared.keyword.Keyword.TheVariants as keyword
use Rattle.scen_text.specs.declared.keyword.StepKeyword.{StepKeyword}
use Rattle.scen_text.specs.declared.keyword.StepKeyword.TheVariants as step
use Rattle.scen_text.specs.declared.line.Line.{Line}
use Rattle.scen_text.specs.declared.line.Line.TheVariants as line
use Rattle.scen_text.specs.declared.line.Verb.{Verb}
use Rattle.scen_text.specs.Causes.{◌>>=◌}
use Rattle.scen_text.specs.Forms.{cache_words, key_words, object_words}
use Rattle.scen_text.specs.Keywords.{shared_keyword, command_keyword, first_keyword, second_keyword, or_else, step_keyword}
use Rattle.scen_text.specs.Meaning.{bare_line, begin_line, cache_line, is_remark, key_integer_line, key_line, key_value_line, known_line, line_meant, meaning, meant, object_integer_line, object_line, object_value_line, setting_line}
use Rattle.scen_text.specs.Plans.{start_step, stop_step, step_or_syntax, plan_line}
use Rattle.scen_text.specs.Reading.{named_by}
use Rattle.scen_text.specs.Words.{integer, name, number_of_word, only_word, two_words, value_of_word, words}
use Rattle.scen_text.proofs.Holds.{Holds, any_then}

-- the line names no node
abbrev Silent : Line → Type 0
Silent l = named_by (Ok l) ≡ []

silent_by : (r : Result Line Cause) → Holds Silent r → named_by r ≡ []
silent_by (Ok l) h = h
silent_by (Err e) h = refl

-- the keyword begins no line that names a node
abbrev is_silent : Keyword → Bool
is_silent keyword.Server = false
is_silent keyword.Client = false
is_silent keyword.Plan = false
is_silent _ = true

silent-bare : (l : Line) (rest : List (List ℕ)) → Silent l → Holds Silent (bare_line l rest)
silent-bare l [] h = h
silent-bare l (w ∷ rest) h = tt

silent-begin : (rest : List (List ℕ)) → Holds Silent (begin_line rest)
silent-begin [] = refl
silent-begin (w ∷ rest) = search (any_then {A = Mode} {B = Line}, any_then {A = ℕ} {B = Line}) depth 10

silent-cache : (d : Bool) (rest : List (List ℕ)) → Holds Silent (cache_line d rest)
silent-cache d rest = any_then Silent (cache_words rest) _ (λ w. refl)

silent-key : (f : ℕ) (v : Verb) (rest : List (List ℕ)) → Holds Silent (key_line f v rest)
silent-key f v rest = any_then Silent (only_word rest) _ (λ w. any_then Silent (key_words f w) _ (λ k. refl))

silent-put : (f : ℕ) (rest : List (List ℕ)) → Holds Silent (key_value_line f rest)
silent-put f rest = any_then Silent (two_words rest) _
    (λ w. any_then Silent (key_words f w.0) _ (λ k. any_then Silent (value_of_word w.1) _ (λ v. refl)))

silent-add : (f : ℕ) (rest : List (List ℕ)) → Holds Silent (key_integer_line f rest)
silent-add f rest = any_then Silent (two_words rest) _
    (λ w. any_then Silent (key_words f w.0) _ (λ k. any_then Silent (integer w.1) _ (λ v. refl)))

silent-object : (v : Verb) (rest : List (List ℕ)) → Holds Silent (object_line v rest)
silent-object v rest = any_then Silent (only_word rest) _ (λ w. any_then Silent (object_words w) _ (λ k. refl))

silent-offer : (rest : List (List ℕ)) → Holds Silent (object_value_line rest)
silent-offer rest = any_then Silent (two_words rest) _
    (λ w. any_then Silent (object_words w.0) _ (λ k. any_then Silent (value_of_word w.1) _ (λ v. refl)))

silent-incr : (rest : List (List ℕ)) → Holds Silent (object_integer_line rest)
silent-incr rest = any_then Silent (two_words rest) _
    (λ w. any_then Silent (object_words w.0) _ (λ k. any_then Silent (integer w.1) _ (λ v. refl)))

silent-setting : (s : _) (rest : List (List ℕ)) → Holds Silent (setting_line s rest)
silent-setting s rest = any_then Silent (only_word rest) _ (λ w. any_then Silent (number_of_word w) _ (λ n. refl))

-- the same command of both formats
same_meant : (f g : ℕ) (k : Keyword) (rest : List (List ℕ)) → named_by (plan_line f rest) ≡ named_by (plan_line g rest) →
    named_by (meant f k rest) ≡ named_by (meant g k rest)
same_meant f g keyword.Plan rest p = p
same_meant f g keyword.Get rest p = silent_by _ (silent-key f _ rest) ∙ sym (silent_by _ (silent-key g _ rest))
same_meant f g keyword.Put rest p = silent_by _ (silent-put f rest) ∙ sym (silent_by _ (silent-put g rest))
same_meant f g keyword.Remove rest p = silent_by _ (silent-key f _ rest) ∙ sym (silent_by _ (silent-key g _ rest))
same_meant f g keyword.Add rest p = silent_by _ (silent-add f rest) ∙ sym (silent_by _ (silent-add g rest))
same_meant f g _ rest p = refl

-- the words of one format alone name no node
abbrev Quiet : ℕ → List (List ℕ) → Option Keyword → Type 0
Quiet f rest o = named_by (known_line f o rest) ≡ []

quiet-first : (f : ℕ) (word : List ℕ) (rest : List (List ℕ)) → Quiet f rest (first_keyword word)
quiet-first f word rest =
    cond_both (bytes_eq word (codes "parts")) _ _ (Quiet f rest) (λ e. silent_by _ (silent-setting _ rest))
    (λ e. cond_both (bytes_eq word (codes "backups")) _ _ (Quiet f rest) (λ e. silent_by _ (silent-setting _ rest))
    (λ e. cond_both (bytes_eq word (codes "near")) _ _ (Quiet f rest) (λ e. silent_by _ (silent-setting _ rest)) (λ e. refl)))

quiet-second : (f : ℕ) (word : List ℕ) (rest : List (List ℕ)) → Quiet f rest (second_keyword word)
quiet-second f word rest =
    cond_both (bytes_eq word (codes "cache")) _ _ (Quiet f rest) (λ e. silent_by _ (silent-cache false rest))
    (λ e. cond_both (bytes_eq word (codes "data")) _ _ (Quiet f rest) (λ e. silent_by _ (silent-cache true rest))
    (λ e. cond_both (bytes_eq word (codes "incr")) _ _ (Quiet f rest) (λ e. silent_by _ (silent-incr rest))
    (λ e. cond_both (bytes_eq word (codes "next")) _ _ (Quiet f rest) (λ e. silent_by _ (silent-object _ rest))
    (λ e. cond_both (bytes_eq word (codes "offer")) _ _ (Quiet f rest) (λ e. silent_by _ (silent-offer rest))
    (λ e. cond_both (bytes_eq word (codes "poll")) _ _ (Quiet f rest) (λ e. silent_by _ (silent-object _ rest)) (λ e. refl))))))

quiet-own : (f : ℕ) (word : List ℕ) (rest : List (List ℕ)) →
    Quiet f rest (if f == 2 then second_keyword word else first_keyword word)
quiet-own f word rest = cond_both (f == 2) (second_keyword word) (first_keyword word) (Quiet f rest)
    (λ e. quiet-second f word rest) (λ e. quiet-first f word rest)

same_known : (f g : ℕ) (shared own more : Option Keyword) (rest : List (List ℕ)) →
    named_by (plan_line f rest) ≡ named_by (plan_line g rest)
    → named_by (known_line f own rest) ≡ named_by (known_line g more rest) → named_by (known_line f (or_else shared own) rest)
    ≡ named_by (known_line g (or_else shared more) rest)
same_known f g (Some k) own more rest p h = same_meant f g k rest p
same_known f g None own more rest p h = h

-- plan lines

same_then : {A : Type 0} (r : Result A Cause) (x y : A → Result Line Cause) → ((a : A) → named_by (x a) ≡ named_by (y a)) →
    named_by (r >>= x) ≡ named_by (r >>= y)
same_then (Ok a) x y h = h a
same_then (Err e) x y h = refl

quiet-step : (moment : ℕ) (rest : List (List ℕ)) (p q : Bool) →
    named_by (step_or_syntax moment (if p then Some step.Start else (if q then Some step.Stop else None)) rest) ≡ []
quiet-step moment rest true q = silent_by (start_step moment rest) (any_then Silent (cache_words rest) _ (λ w. refl))
quiet-step moment rest false true =
    silent_by (stop_step moment rest) (any_then Silent (only_word rest) _ (λ w. any_then Silent (name w) _ (λ n. refl)))
quiet-step moment rest false false = refl

same_step : (moment : ℕ) (rest : List (List ℕ)) (a b c d : Bool) (x y : Option StepKeyword) →
    named_by (step_or_syntax moment x rest) ≡ named_by (step_or_syntax moment y rest)
    → named_by (step_or_syntax moment
    (if a then Some step.Join else
    (if b then Some step.Lose else (if c then Some step.Hold else (if d then Some step.Release else x)))) rest)
    ≡ named_by (step_or_syntax moment
    (if a then Some step.Join else
    (if b then Some step.Lose else (if c then Some step.Hold else (if d then Some step.Release else y)))) rest)
same_step moment rest true b c d x y h = refl
same_step moment rest false true c d x y h = refl
same_step moment rest false false true d x y h = refl
same_step moment rest false false false true x y h = refl
same_step moment rest false false false false x y h = h

same_plan : (f g : ℕ) (rest : List (List ℕ)) → named_by (plan_line f rest) ≡ named_by (plan_line g rest)
same_plan f g [] = refl
same_plan f g (first ∷ []) = refl
same_plan f g (first ∷ second ∷ rest) =
    same_then (number_of_word first) (λ moment. step_or_syntax moment (step_keyword f second) rest)
    (λ moment. step_or_syntax moment (step_keyword g second) rest)
    (λ moment. same_step moment rest (bytes_eq second (codes "join")) (bytes_eq second (codes "lose"))
    (bytes_eq second (codes "hold")) (bytes_eq second (codes "release")) _ _
    (quiet-step moment rest ((f == 2) && bytes_eq second (codes "start")) ((f == 2) && bytes_eq second (codes "stop"))
    ∙ sym (quiet-step moment rest ((g == 2) && bytes_eq second (codes "start")) ((g == 2) && bytes_eq second (codes "stop")))))

-- lines

same_meaning : (f g : ℕ) (ws : List (List ℕ)) → named_by (meaning f ws) ≡ named_by (meaning g ws)
same_meaning f g [] = refl
same_meaning f g (w ∷ rest) =
    same_known f g (shared_keyword w) _ _ rest (same_plan f g rest)
    (same_known f g (command_keyword w) _ _ rest (same_plan f g rest) (quiet-own f w rest ∙ sym (quiet-own g w rest)))

pick : (a b : Bool) (x y : Result Line Cause) → named_by x ≡ named_by y
    → named_by (if a then Err NotUtf8 else (if b then Ok line.Blank else x)) ≡ named_by
    (if a then Err NotUtf8 else (if b then Ok line.Blank else y))
pick true b x y h = refl
pick false true x y h = refl
pick false false x y h = h

pub same_names : (f g : ℕ) (bytes : List ℕ) → named_by (line_meant f bytes) ≡ named_by (line_meant g bytes)
same_names f g bytes = pick (not (is_utf8 bytes)) (is_remark bytes) _ _ (same_meaning f g (words bytes))
