-- Lines of words that are taken one after the other.
use Rattle.std.proofs.Common.{◌≡◌, ℕ, ◌+◌, ◌≤◌, Bool, true, false, List, [], ◌∷◌, ◌++◌, length, refl, sym, subst}
use Rattle.std.specs.Prelude.{◌&&◌, nat_lt, map, Result, Ok, Err, if◌then◌else◌}
use Rattle.std.specs.List.{list_all}
use Rattle.std.proofs.lemmas.Bool.{and_parts, cond-true, le-ltb}
use Rattle.ignite_types.specs.declared.scenario.Scenario.{Scenario}
use Rattle.scen_text.specs.declared.cause.Cause.{Cause}
use Rattle.scen_text.specs.declared.cause.Cause.TheVariants.{Syntax}
use Rattle.scen_text.specs.declared.draft.Draft.{Draft}
use Rattle.scen_text.specs.declared.line.Line.{Line}
use Rattle.scen_text.specs.Causes.{◌>>=◌}
use Rattle.scen_text.specs.Drafts.{draft_after_line, empty, finished}
use Rattle.scen_text.specs.Meaning.{meaning}
use Rattle.scen_text.specs.Reading.{named_in, at_line, and_then, read_lines, scenario_of}
use Rattle.text_laws.proofs.Means.{Meant}
use Rattle.text_laws.proofs.Split.{spaced, text_of, is_line, line_of-spaced, lines-text_of}

-- what words make of a draft, if they are a line that is no remark
abbrev pub taken : Draft → List (List ℕ) → Result Draft Cause
taken d ws = if is_line ws then (meaning d.format ws >>= λ meant. draft_after_line d meant) else Err Syntax

-- and many of them
abbrev pub all_taken : Draft → List (List (List ℕ)) → Result Draft Cause
all_taken d [] = Ok d
all_taken d (ws ∷ more) = taken d ws >>= λ next. all_taken next more

-- one line, and then the others
pub taken_first : (d e last : Draft) (ws : List (List ℕ)) (more : List (List (List ℕ))) → taken d ws ≡ Ok e →
    all_taken e more ≡ Ok last → all_taken d (ws ∷ more) ≡ Ok last
taken_first d e last ws more h k = rw h k

-- some lines, and then others
pub taken_both : (xs ys : List (List (List ℕ))) (d e last : Draft) → all_taken d xs ≡ Ok e → all_taken e ys ≡ Ok last →
    all_taken d (xs ++ ys) ≡ Ok last
taken_both [] ys d e last h k = let same : d ≡ e = cc in subst (λ x. all_taken x ys ≡ Ok last) (sym same) k
taken_both (ws ∷ xs) ys d e last h k = by (taken d ws) h (λ x g. taken_both xs ys x e last g k)
  where
    by : (r : Result Draft Cause) → (r >>= λ next. all_taken next xs) ≡ Ok e →
        ((x : Draft) → all_taken x xs ≡ Ok e → all_taken x (xs ++ ys) ≡ Ok last) → (r >>= λ next. all_taken next (xs ++ ys))
        ≡ Ok last
    by (Ok x) h f = f x h
    by (Err cause) h f = cc

-- what a line means is what it makes of a draft
pub taken_meant : (d : Draft) (ws : List (List ℕ)) (l : Line) → Meant d.format ws l → taken d ws ≡ draft_after_line d l
taken_meant d ws l m = let is = m.line in let means = m.means in rw is (rw means refl)

-- only lines are taken
lines_taken : (ls : List (List (List ℕ))) (d e : Draft) → all_taken d ls ≡ Ok e → list_all is_line ls ≡ true
lines_taken [] d e h = refl
lines_taken (ws ∷ ls) d e h = by (is_line ws) (meaning d.format ws >>= λ meant. draft_after_line d meant) h
    (λ x k. lines_taken ls x e k)
  where
    by : (b : Bool) (r : Result Draft Cause) → ((if b then r else Err Syntax) >>= λ next. all_taken next ls) ≡ Ok e →
        ((x : Draft) → all_taken x ls ≡ Ok e → list_all is_line ls ≡ true)
        → (b && list_all is_line ls) ≡ true
    by true (Ok x) h go = go x h
    by true (Err cause) h go = cc
    by false r h go = cc

-- lines of words are read as they are taken
read_words : (n : ℕ) (d e : Draft) (ls : List (List (List ℕ))) (s : Scenario) → list_all is_line ls ≡ true →
    all_taken d ls ≡ Ok e → finished e ≡ Ok s
    → read_lines n d (map spaced ls) ≡ Ok s
read_words n d e [] s h t f = let same : d ≡ e = cc in rw same (rw f refl)
read_words n d e (ws ∷ ls) s h t f =
    let parts = and_parts (is_line ws) (list_all is_line ls) h in
    let step = cond-true (is_line ws) (meaning d.format ws >>= λ meant. draft_after_line d meant) (Err Syntax) parts.0 in
    let t : ((meaning d.format ws >>= λ meant. draft_after_line d meant) >>= λ next. all_taken next ls) ≡ Ok e =
    subst (λ r. (r >>= λ next. all_taken next ls) ≡ Ok e) step t in
    rw (line_of-spaced d.format ws parts.0) (by (meaning d.format ws >>= λ meant. draft_after_line d meant) t
    (λ x k. read_words (n + 1) x e ls s parts.1 k f))
  where
    by : (r : Result Draft Cause) → (r >>= λ next. all_taken next ls) ≡ Ok e →
        ((x : Draft) → all_taken x ls ≡ Ok e → read_lines (n + 1) x (map spaced ls) ≡ Ok s)
        → and_then (at_line n r) (λ next. read_lines (n + 1) next (map spaced ls)) ≡ Ok s
    by (Ok x) h go = go x h
    by (Err cause) h go = cc

-- a text of lines of words, no longer than a text may be, is read as the scenario that they make
pub read_whole : (ls : List (List (List ℕ))) (e : Draft) (s : Scenario) → length (text_of ls) ≤ 1048576
    → all_taken (empty (named_in (map spaced ls))) ls ≡ Ok e → finished e ≡ Ok s → scenario_of (text_of ls) ≡ Ok s
read_whole ls e s few t f =
    let h = lines_taken ls (empty (named_in (map spaced ls))) e t in
    let short : nat_lt 1048576 (length (text_of ls)) ≡ false = le-ltb _ _ few in
    rw short (rw (lines-text_of ls h) (read_words 1 (empty (named_in (map spaced ls))) e ls s h t f))
