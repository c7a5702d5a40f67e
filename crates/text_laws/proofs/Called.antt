-- The lines of a text name each node that has a line or joins.
use Rattle.std.proofs.Common.{◌≡◌, ℕ, Bool, true, false, List, [], ◌∷◌, ◌++◌, refl, ap, ◌∙◌}
use Rattle.std.specs.Prelude.{◌||◌, ◌==◌, map, Ok}
use Rattle.std.specs.List.{list_all}
use Rattle.std.proofs.lemmas.Bool.{and_parts, or_right}
use Rattle.std.proofs.lemmas.List.{map-append}
use Rattle.std.proofs.lemmas.List.Concat.{flat_map-append}
use Rattle.std.proofs.lemmas.List.Folds.{list_any-append}
use Rattle.ignite_types.specs.Good.{has_member, is_within}
use Rattle.ignite_types.specs.declared.names.NodeId.{NodeId}
use Rattle.ignite_types.specs.declared.scenario.Member.{Member}
use Rattle.ignite_types.specs.declared.scenario.PlanStep.{PlanStep}
use Rattle.ignite_types.specs.declared.scenario.Scenario.{Scenario}
use Rattle.ignite_types.specs.declared.scenario.Step.{Step}
use Rattle.ignite_types.specs.declared.scenario.Step.TheVariants as step
use Rattle.scen_text.specs.declared.line.Line.{Line}
use Rattle.scen_text.specs.Known.{is_named}
use Rattle.scen_text.specs.Meaning.{line_meant}
use Rattle.scen_text.specs.Reading.{named_by, named_in}
use Rattle.text_laws.proofs.Lines.{member_words, planned_words}
use Rattle.text_laws.proofs.Means.{Meant, member_meant, join_meant}
use Rattle.text_laws.proofs.Plans.{joins_of}
use Rattle.text_laws.proofs.Split.{spaced, line_of-spaced}

-- some of these lines name the node
abbrev pub names : List (List (List ℕ)) → NodeId → Bool
names ls n = is_named (named_in (map spaced ls)) n

either : (xs ys : List NodeId) (n : NodeId) → is_named (xs ++ ys) n ≡ (is_named xs n || is_named ys n)
either xs ys n = list_any-append (λ known. known.0 == n.0) xs ys

pub names-append : (xs ys : List (List (List ℕ))) (n : NodeId) → names (xs ++ ys) n ≡ (names xs n || names ys n)
names-append xs ys n =
    ap (λ ls. is_named (named_in ls) n) (map-append spaced xs ys)
    ∙ (ap (λ all. is_named all n) (flat_map-append (λ bytes. named_by (line_meant 1 bytes)) (map spaced xs) (map spaced ys))
    ∙ either (named_in (map spaced xs)) (named_in (map spaced ys)) n)

named_meant : (ws : List (List ℕ)) (l : Line) → Meant 1 ws l → named_by (line_meant 1 (spaced ws)) ≡ named_by (Ok l)
named_meant ws l m = ap named_by (line_of-spaced 1 ws m.line ∙ m.means)

-- the first line names the node, or the others do
first_names : (ws : List (List ℕ)) (ls : List (List (List ℕ))) (m n : NodeId) → named_by (line_meant 1 (spaced ws)) ≡ m ∷ [] →
    ((m.0 == n.0) || names ls n) ≡ true → names (ws ∷ ls) n ≡ true
first_names ws ls m n is h = ap (λ first. is_named (first ++ named_in (map spaced ls)) n) is ∙ h

later_names : (ws : List (List ℕ)) (ls : List (List (List ℕ))) (n : NodeId) → names ls n ≡ true → names (ws ∷ ls) n ≡ true
later_names ws ls n h = either (named_by (line_meant 1 (spaced ws))) (named_in (map spaced ls)) n
    ∙ or_right (is_named (named_by (line_meant 1 (spaced ws))) n) (names ls n) h

one_or_more : (a b c : Bool) → (a || b) ≡ true → (b ≡ true → c ≡ true) → (a || c) ≡ true
one_or_more true b c h f = refl
one_or_more false b c h f = f h

pub nodes_named : (ms : List Member) (n : NodeId) → list_all (λ member. is_within 1 99 member.node.0) ms ≡ true →
    has_member ms n ≡ true → names (map member_words ms) n ≡ true
nodes_named [] n w h = h
nodes_named (m ∷ ms) n w h =
    let parts = and_parts (is_within 1 99 m.node.0) (list_all (λ member. is_within 1 99 member.node.0) ms) w in
    first_names (member_words m) (map member_words ms) m.node n
    (named_meant (member_words m) _ (member_meant 1 m.node.0 m.server parts.0))
    (one_or_more (m.node.0 == n.0) (has_member ms n) (names (map member_words ms) n) h (nodes_named ms n parts.1))

pub joins_named : (s : Scenario) (plan : List PlanStep) (n : NodeId) →
    list_all (λ planned. is_within 1 1000000 planned.moment) plan ≡ true
    → list_all (λ member. is_within 1 99 member.node.0) (joins_of plan) ≡ true → has_member (joins_of plan) n ≡ true →
    names (map (planned_words s) plan) n ≡ true
joins_named s [] n v w h = h
joins_named s (p ∷ plan) n v w h =
    let parts = and_parts (is_within 1 1000000 p.moment) (list_all (λ planned. is_within 1 1000000 planned.moment) plan) v in
    by p.moment p.step (λ k i. joins_named s plan n parts.1 k i) parts.0 w h
  where
    by : (m : ℕ) (x : Step) → (list_all (λ member. is_within 1 99 member.node.0) (joins_of plan) ≡ true →
        has_member (joins_of plan) n ≡ true → names (map (planned_words s) plan) n ≡ true)
        → is_within 1 1000000 m ≡ true → list_all (λ member. is_within 1 99 member.node.0)
        (joins_of (record { moment = m; step = x } ∷ plan)) ≡ true
        → has_member (joins_of (record { moment = m; step = x } ∷ plan)) n ≡ true →
        names (map (planned_words s) (record { moment = m; step = x } ∷ plan)) n ≡ true
    by m (step.Join member) go v w h =
        let within = and_parts (is_within 1 99 member.node.0) (list_all (λ x. is_within 1 99 x.node.0) (joins_of plan)) w in
        first_names (planned_words s (record { moment = m; step = step.Join member })) (map (planned_words s) plan)
        member.node n
        (named_meant (planned_words s (record { moment = m; step = step.Join member })) _
        (join_meant 1 m member.node.0 member.server v within.0))
        (one_or_more (member.node.0 == n.0) (has_member (joins_of plan) n) (names (map (planned_words s) plan) n) h
        (go within.1))
    by m (step.Lose a) go v w h = later_names (planned_words s (record { moment = m; step = step.Lose a }))
        (map (planned_words s) plan) n (go w h)
    by m (step.Hold a b) go v w h = later_names (planned_words s (record { moment = m; step = step.Hold a b }))
        (map (planned_words s) plan) n (go w h)
    by m (step.Release a b) go v w h = later_names (planned_words s (record { moment = m; step = step.Release a b }))
        (map (planned_words s) plan) n (go w h)
    by m (step.Start c) go v w h = later_names (planned_words s (record { moment = m; step = step.Start c }))
        (map (planned_words s) plan) n (go w h)
    by m (step.Stop c) go v w h = later_names (planned_words s (record { moment = m; step = step.Stop c }))
        (map (planned_words s) plan) n (go w h)
