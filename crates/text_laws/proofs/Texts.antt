-- The canonical text is the text of these lines.
use Rattle.std.proofs.Common.{◌≡◌, ℕ, Bool, true, false, List, [], ◌∷◌, ◌++◌, refl, sym, ap, ◌∙◌, append_assoc, append-nil}
use Rattle.std.specs.Prelude.{◌==◌, not, codes, decimal, map, flat_map, slice_get, Option, Some, None, if◌then◌else◌}
use Rattle.std.proofs.lemmas.List.Concat.{flat_map-append}
use Rattle.ignite_types.specs.declared.scenario.Cache.{Cache}
use Rattle.ignite_types.specs.declared.scenario.Command.{Command}
use Rattle.ignite_types.specs.declared.scenario.Command.TheVariants as command
use Rattle.ignite_types.specs.declared.scenario.Item.{Item}
use Rattle.ignite_types.specs.declared.scenario.Item.TheVariants as item
use Rattle.ignite_types.specs.declared.scenario.PlanStep.{PlanStep}
use Rattle.ignite_types.specs.declared.scenario.Scenario.{Scenario}
use Rattle.ignite_types.specs.declared.scenario.Session.{Session}
use Rattle.ignite_types.specs.declared.scenario.Step.{Step}
use Rattle.ignite_types.specs.declared.scenario.Step.TheVariants as step
use Rattle.scen_print.specs.Printing.{shape_text, setting_text, first_text, cache_line_text, head_text, member_text, started_text, stopped_text, step_text, planned_text, item_line_text, session_text, scenario_text}
use Rattle.text_laws.proofs.Lines.{shape_words, cache_lines, first_lines, head_lines, member_words, started_words, stopped_words, step_words, planned_words, command_words, item_words, session_lines, all_lines}
use Rattle.text_laws.proofs.Split.{spaced, text_of}

text_of-append : (xs ys : List (List (List ℕ))) → text_of (xs ++ ys) ≡ text_of xs ++ text_of ys
text_of-append xs ys = flat_map-append (λ ws. spaced ws ++ 10 ∷ []) xs ys

-- a line for each element
each_line : {A : Type 0} (f : A → List ℕ) (g : A → List (List ℕ)) → ((x : A) → f x ≡ spaced (g x) ++ 10 ∷ []) →
    (xs : List A) → flat_map f xs ≡ text_of (map g xs)
each_line f g same [] = refl
each_line f g same (x ∷ xs) = rw (same x, each_line f g same xs) refl

-- lines for each element
some_lines : {A : Type 0} (f : A → List ℕ) (g : A → List (List (List ℕ))) → ((x : A) → f x ≡ text_of (g x)) → (xs : List A) →
    flat_map f xs ≡ text_of (flat_map g xs)
some_lines f g same [] = refl
some_lines f g same (x ∷ xs) = rw (same x, some_lines f g same xs) (sym (text_of-append (g x) (flat_map g xs)))

shape_is : (c : Cache) → shape_text c ≡ spaced (shape_words c)
shape_is c = simp append_assoc

cache_is : (c : Cache) → cache_line_text c ≡ text_of (cache_lines c)
cache_is c = by c.first c.«data»
  where
    by : (first is_data : Bool) →
        (if not first then [] else ((if is_data then codes "data " else codes "cache ") ++ shape_text c ++ 10 ∷ []))
        ≡ text_of (if not first then [] else (((if is_data then codes "data" else codes "cache") ∷ shape_words c) ∷ []))
    by false is_data = refl
    by true true = rw (append-nil (spaced (codes "data" ∷ shape_words c) ++ 10 ∷ [])) (rw (shape_is c) refl)
    by true false = rw (append-nil (spaced (codes "cache" ∷ shape_words c) ++ 10 ∷ [])) (rw (shape_is c) refl)

first_is : (caches : List Cache) → first_text caches ≡ text_of (first_lines caches)
first_is [] = refl
first_is (c ∷ more) =
    let parts = setting_text (codes "parts ") c.parts in
    let backups = setting_text (codes "backups ") c.backups in
    let near = setting_text (codes "near ") c.near in
    append_assoc parts backups near ∙ ap (λ xs. parts ++ (backups ++ xs)) (sym (append-nil near))

head_is : (s : Scenario) → head_text s ≡ text_of (head_lines s)
head_is s = by (s.format == 2)
  where
    by : (second : Bool) → (if second then codes "scenario 2\n" ++ flat_map cache_line_text s.caches else codes "scenario 1\n"
        ++ first_text s.caches)
        ≡ text_of (if second then ((codes "scenario" ∷ codes "2" ∷ []) ∷ flat_map cache_lines s.caches) else
        ((codes "scenario" ∷ codes "1" ∷ []) ∷ first_lines s.caches))
    by true = ap (λ more. codes "scenario 2\n" ++ more) (some_lines cache_line_text cache_lines cache_is s.caches)
    by false = ap (λ more. codes "scenario 1\n" ++ more) (first_is s.caches)

planned_is : (s : Scenario) (p : PlanStep) → planned_text s p ≡ spaced (planned_words s p) ++ 10 ∷ []
planned_is s p = by p.step
  where
    started : (o : Option Cache) → (codes "plan " ++ decimal p.moment ++ (32 ∷ started_text o) ++ 10 ∷ [])
        ≡ spaced (codes "plan" ∷ decimal p.moment ∷ started_words o) ++ 10 ∷ []
    started None = refl
    started (Some c) = rw (shape_is c) refl

    stopped : (o : Option Cache) → (codes "plan " ++ decimal p.moment ++ (32 ∷ stopped_text o) ++ 10 ∷ [])
        ≡ spaced (codes "plan" ∷ decimal p.moment ∷ stopped_words o) ++ 10 ∷ []
    stopped None = refl
    stopped (Some c) = refl

    by : (x : Step) → (codes "plan " ++ decimal p.moment ++ (32 ∷ step_text s x) ++ 10 ∷ [])
        ≡ spaced (codes "plan" ∷ decimal p.moment ∷ step_words s x) ++ 10 ∷ []
    by (step.Join m) = refl
    by (step.Lose n) = refl
    by (step.Hold a b) = refl
    by (step.Release a b) = refl
    by (step.Start c) = started (slice_get s.caches c)
    by (step.Stop c) = stopped (slice_get s.caches c)

item_is : (s : Scenario) (x : Item) → item_line_text s x ≡ spaced (item_words s x) ++ 10 ∷ []
item_is s (item.Plain c) = by c
  where
    by : (c : Command) → item_line_text s (item.Plain c) ≡ spaced (command_words s c) ++ 10 ∷ []
    by (command.Begin mode timeout) = refl
    by (command.Get key) = refl
    by (command.Put key value) = refl
    by (command.Remove key) = refl
    by (command.Add key number) = refl
    by command.Commit = refl
    by command.Rollback = refl
    by (command.Sleep moments) = refl
    by command.Close = refl
item_is s (item.Incr key number) = refl
item_is s (item.Next key) = refl
item_is s (item.Offer key value) = refl
item_is s (item.Poll key) = refl

session_is : (s : Scenario) (x : Session) → session_text s x ≡ text_of (session_lines s x)
session_is s x =
    let commands = each_line (item_line_text s) (item_words s) (item_is s) x.commands in
    let joined = text_of-append (map (item_words s) x.commands) ((codes "end" ∷ []) ∷ []) in
    let first = codes "session " ++ x.name ++ (32 ∷ decimal x.node.0) ++ 10 ∷ [] in
    append_assoc first (flat_map (item_line_text s) x.commands) (codes "end\n")
    ∙ ap (λ more. first ++ more) (ap (λ more. more ++ codes "end\n") commands ∙ sym joined)

pub text_is : (s : Scenario) → scenario_text s ≡ text_of (all_lines s)
text_is s =
    let nodes = each_line member_text member_words (λ m. refl) s.nodes in
    let plan = each_line (planned_text s) (planned_words s) (planned_is s) s.plan in
    let sessions = some_lines (session_text s) (session_lines s) (session_is s) s.sessions in
    let last = text_of-append (map (planned_words s) s.plan) (flat_map (session_lines s) s.sessions) in
    let more = text_of-append (map member_words s.nodes)
    (map (planned_words s) s.plan ++ flat_map (session_lines s) s.sessions) in
    let all = text_of-append (head_lines s)
    (map member_words s.nodes ++ (map (planned_words s) s.plan ++ flat_map (session_lines s) s.sessions)) in
    rw (head_is s, nodes, plan, sessions, all, more, last) (simp append_assoc)
