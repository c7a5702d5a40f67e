-- The lines of the plan give its steps, and the caches that they start.
use Rattle.std.proofs.Common.{◌≡◌, ℕ, ◌+◌, ◌<◌, ◌≤◌, Bool, true, false, List, [], ◌∷◌, ◌++◌, length, refl, sym, ap, ◌∙◌, subst, arith, length-append, append_assoc, append-nil, inl, inr}
use Rattle.std.specs.Prelude.{◌&&◌, ◌||◌, ◌⊎◌, not, nat_le, nat_lt, ◌==◌, bytes_eq, codes, decimal, filter_map, map, sum_by, slice_get, option_to_list, Option, Some, None, Ok}
use Rattle.std.specs.List.{list_all, list_any}
use Rattle.std.proofs.lemmas.Bool.{and_parts, and_from, leb-true, lt-ltb, le-leb, not-true, or_cases, eqb-true, eqb-false}
use Rattle.std.proofs.lemmas.List.Folds.{list_all-append, list_any-append}
use Rattle.std.proofs.lemmas.List.Sums.{sum_by-cons}
use Rattle.ignite_types.specs.Good.{are_distinct, count_up, good_cache, good_step, good_steps, has_cache_line, has_member, is_started, is_within, joining, members, no_moment_falls, same_cache_name, same_member_node, starting, starts_cache, stops}
use Rattle.ignite_types.specs.declared.names.NodeId.{NodeId}
use Rattle.ignite_types.specs.declared.scenario.Cache.{Cache}
use Rattle.ignite_types.specs.declared.scenario.Member.{Member}
use Rattle.ignite_types.specs.declared.scenario.PlanStep.{PlanStep}
use Rattle.ignite_types.specs.declared.scenario.Scenario.{Scenario}
use Rattle.ignite_types.specs.declared.scenario.Step.{Step}
use Rattle.ignite_types.specs.declared.scenario.Step.TheVariants as step
use Rattle.scen_text.specs.declared.draft.Draft.{Draft}
use Rattle.scen_text.specs.declared.line.Line.TheVariants as line
use Rattle.scen_text.specs.declared.place.Place.TheVariants as place
use Rattle.scen_text.specs.Drafts.{draft_with_step, with_start, with_stop}
use Rattle.scen_text.specs.Known.{has_cache, is_named, is_stopped, names_data, rises}
use Rattle.scen_text.specs.Places.{may_follow}
use Rattle.text_laws.proofs.Lines.{shape_words, planned_words}
use Rattle.text_laws.proofs.Caches.{at_all, get_front, get_at, get_within, front_of, new_one, distinct_front, place_is, none_other}
use Rattle.text_laws.proofs.Heads.{stands_later}
use Rattle.text_laws.proofs.Means.{Meant, cache_fits, words_of, in_second, join_meant, lose_meant, hold_meant, release_meant, start_meant, stop_meant}
use Rattle.text_laws.proofs.Split.{weaker}
use Rattle.text_laws.proofs.Taken.{taken, all_taken, taken_first, taken_meant}

abbrev pub joins_of : List PlanStep → List Member
joins_of plan = filter_map (λ draft_with_step. joining draft_with_step.step) plan

abbrev pub starts_of : List PlanStep → List ℕ
starts_of plan = filter_map (λ draft_with_step. starting draft_with_step.step) plan

abbrev pub steps_of : List PlanStep → List Step
steps_of plan = map (λ draft_with_step. draft_with_step.step) plan

-- the first of the steps to come is at no moment before those of the steps that came
abbrev pub goes_on : List PlanStep → List PlanStep → Bool
goes_on came [] = true
goes_on came (next ∷ more) = rises came next.moment

-- what is known of a scenario and of the nodes that its text names
pub record Known (s : Scenario) (called : List NodeId) : Type 0 where
  pub each : list_all good_cache s.caches ≡ true
  pub distinct : are_distinct same_cache_name s.caches ≡ true
  pub few : length s.caches ≤ 8
  pub within : list_all (λ member. is_within 1 99 member.node.0) (members s) ≡ true
  pub named : (n : NodeId) → has_member (members s) n ≡ true → is_named called n ≡ true

-- what is known behind some steps, with the caches that are started later
pub record PlanFits (s : Scenario) (d : Draft) (late : List Cache) (plan : List PlanStep) : Type 0 where
  pub format : (d.format ≡ 2) ⊎ ((length s.caches ≡ 1) × (1 ≤ length d.caches))
  pub caches : s.caches ≡ d.caches ++ late
  pub started : list_all is_started late ≡ true
  pub stands : may_follow d.place place.Plan ≡ true
  pub sum : d.partitions + sum_by (λ cache. cache.parts) late ≤ 1024
  pub numbers : count_up (length d.caches) (starts_of plan) ≡ true
  pub counted : length late ≡ length (starts_of plan)
  pub moments : list_all (λ draft_with_step. is_within 1 1000000 draft_with_step.moment) plan ≡ true
  pub rising : no_moment_falls plan ≡ true
  pub first : goes_on d.plan plan ≡ true
  pub room : length d.plan + length plan ≤ 64
  pub distinct : are_distinct same_member_node (d.members ++ joins_of plan) ≡ true
  pub few : length (d.members ++ joins_of plan) ≤ 16
  pub joined : list_all (λ member. is_within 1 99 member.node.0) (joins_of plan) ≡ true
  pub steps : good_steps s.caches (members s) (steps_of d.plan) plan ≡ true
  pub begun : (n : ℕ) → list_any (starts_cache n) (steps_of d.plan) ≡ true →
      list_any is_started (option_to_list (slice_get d.caches n)) ≡ true

pub record PlanTaken (s : Scenario) (d : Draft) (steps : List PlanStep) : Type 0 where
  pub next : Draft
  pub took : all_taken d (map (planned_words s) steps) ≡ Ok next
  pub format : next.format ≡ d.format
  pub named : next.named ≡ d.named
  pub stands : may_follow next.place place.Sessions ≡ true
  pub caches : next.caches ≡ s.caches
  pub nodes : next.nodes ≡ d.nodes
  pub plan : next.plan ≡ d.plan ++ steps
  pub objects : next.objects ≡ d.objects
  pub sessions : next.sessions ≡ d.sessions

-- moments

raised : (came : List PlanStep) (p next : PlanStep) → rises came p.moment ≡ true → nat_le p.moment next.moment ≡ true →
    rises (came ++ p ∷ []) next.moment ≡ true
raised came p next r h =
    let low = leb-true p.moment next.moment h in
    list_all-append (λ draft_with_step. nat_le draft_with_step.moment next.moment) came (p ∷ [])
    ∙ and_from (rises came next.moment) (nat_le p.moment next.moment && true)
    (weaker (λ draft_with_step. nat_le draft_with_step.moment p.moment)
    (λ draft_with_step. nat_le draft_with_step.moment next.moment)
    (λ q k. le-leb q.moment next.moment (let l = leb-true q.moment p.moment k in omega arith)) came r)
    (and_from (nat_le p.moment next.moment) true h refl)

goes_next : (came : List PlanStep) (p : PlanStep) (plan : List PlanStep) → no_moment_falls (p ∷ plan) ≡ true →
    rises came p.moment ≡ true → (no_moment_falls plan ≡ true) × (goes_on (came ++ p ∷ []) plan ≡ true)
goes_next came p [] h r = (refl, refl)
goes_next came p (next ∷ plan) h r =
    let parts = and_parts (nat_le p.moment next.moment) (no_moment_falls (next ∷ plan)) h in
    (parts.1, raised came p next r parts.0)

-- what is known of the steps that are left behind one more

record Onward (s : Scenario) (came plan : List PlanStep) : Type 0 where
  moments : list_all (λ draft_with_step. is_within 1 1000000 draft_with_step.moment) plan ≡ true
  rising : no_moment_falls plan ≡ true
  first : goes_on came plan ≡ true
  room : length came + length plan ≤ 64
  steps : good_steps s.caches (members s) (steps_of came) plan ≡ true

steps_push : (came : List PlanStep) (p : PlanStep) → steps_of (came ++ p ∷ []) ≡ steps_of came ++ p.step ∷ []
steps_push [] p = refl
steps_push (q ∷ came) p = ap (λ more. q.step ∷ more) (steps_push came p)

onward : (s : Scenario) (d : Draft) (late : List Cache) (p : PlanStep) (plan : List PlanStep) → PlanFits s d late (p ∷ plan) →
    Onward s (d.plan ++ p ∷ []) plan
onward s d late p plan f =
    let next = goes_next d.plan p plan f.rising f.first in
    let behind = (and_parts (good_step s.caches (members s) (steps_of d.plan) p.step)
    (good_steps s.caches (members s) (steps_of d.plan ++ p.step ∷ []) plan) f.steps).1 in
    record {
      moments = (and_parts (is_within 1 1000000 p.moment)
          (list_all (λ draft_with_step. is_within 1 1000000 draft_with_step.moment) plan) f.moments).1;
      rising = next.0;
      first = next.1;
      room = omega (arith, f.room, length-append d.plan (p ∷ []));
      steps = rw (steps_push d.plan p) behind;
    }

-- what is known of the step itself
record Now (s : Scenario) (d : Draft) (p : PlanStep) : Type 0 where
  stands : may_follow d.place place.Plan ≡ true
  moment : is_within 1 1000000 p.moment ≡ true
  rises : rises d.plan p.moment ≡ true
  room : nat_lt (length d.plan) 64 ≡ true
  good : good_step s.caches (members s) (steps_of d.plan) p.step ≡ true

now : (s : Scenario) (d : Draft) (late : List Cache) (p : PlanStep) (plan : List PlanStep) → PlanFits s d late (p ∷ plan) →
    Now s d p
now s d late p plan f = record {
  stands = f.stands;
  moment = (and_parts (is_within 1 1000000 p.moment) (list_all (λ draft_with_step. is_within 1 1000000 draft_with_step.moment)
      plan) f.moments).0;
  rises = f.first;
  room = lt-ltb (length d.plan) 64 (omega (arith, f.room));
  good = (and_parts (good_step s.caches (members s) (steps_of d.plan) p.step)
      (good_steps s.caches (members s) (steps_of d.plan ++ p.step ∷ []) plan) f.steps).0;
}

next_taken : (s : Scenario) (d e : Draft) (p : PlanStep) (plan : List PlanStep) → taken d (planned_words s p) ≡ Ok e →
    e.format ≡ d.format → e.named ≡ d.named → e.nodes ≡ d.nodes
    → e.plan ≡ d.plan ++ p ∷ [] → e.objects ≡ d.objects → e.sessions ≡ d.sessions → PlanTaken s e plan →
    PlanTaken s d (p ∷ plan)
next_taken s d e p plan one format called nodes came objects sessions more = record {
  next = more.next;
  took = taken_first d e more.next (planned_words s p) (map (planned_words s) plan) one more.took;
  format = more.format ∙ format;
  named = more.named ∙ called;
  stands = more.stands;
  caches = more.caches;
  nodes = more.nodes ∙ nodes;
  plan = more.plan ∙ (ap (λ xs. xs ++ plan) came ∙ append_assoc d.plan (p ∷ []) plan);
  objects = more.objects ∙ objects;
  sessions = more.sessions ∙ sessions;
}

-- a step that starts no cache and lets no node join

record IsPlain (x : Step) : Type 0 where
  no_start : starting x ≡ None
  no_join : joining x ≡ None
  none : (n : ℕ) → starts_cache n x ≡ false

begun_plain : (s : Scenario) (d : Draft) (m : ℕ) (x : Step) → ((n : ℕ) → starts_cache n x ≡ false) → (n : ℕ)
    → ((k : ℕ) → list_any (starts_cache k) (steps_of d.plan) ≡ true →
    list_any is_started (option_to_list (slice_get d.caches k)) ≡ true)
    → list_any (starts_cache n) (steps_of (d.plan ++ record { moment = m; step = x } ∷ [])) ≡ true →
    list_any is_started (option_to_list (slice_get d.caches n)) ≡ true
begun_plain s d m x none n f h =
    let all : (list_any (starts_cache n) (steps_of d.plan) || (starts_cache n x || false)) ≡ true =
    sym (list_any-append (starts_cache n) (steps_of d.plan) (x ∷ []))
    ∙ (ap (list_any (starts_cache n)) (sym (steps_push d.plan (record { moment = m; step = x }))) ∙ h) in
    f n (left (list_any (starts_cache n) (steps_of d.plan)) (starts_cache n x) (none n) all)
  where
    left : (a b : Bool) → b ≡ false → (a || (b || false)) ≡ true → a ≡ true
    left true b e h = refl
    left false false e h = cc
    left false true e h = cc

plain_fits : (s : Scenario) (d : Draft) (late : List Cache) (m : ℕ) (x : Step) (plan : List PlanStep) → IsPlain x →
    PlanFits s d late (record { moment = m; step = x } ∷ plan) → PlanFits s (draft_with_step d m x) late plan
plain_fits s d late m x plan i f =
    let on = onward s d late (record { moment = m; step = x }) plan f in
    let no_start = i.no_start in
    let no_join = i.no_join in
    record {
      format = f.format;
      caches = f.caches;
      started = f.started;
      stands = refl;
      sum = f.sum;
      numbers = rw no_start at f.numbers;
      counted = rw no_start at f.counted;
      moments = on.moments;
      rising = on.rising;
      first = on.first;
      room = on.room;
      distinct = rw no_join at f.distinct;
      few = rw no_join at f.few;
      joined = rw no_join at f.joined;
      steps = on.steps;
      begun = λ n h. begun_plain s d m x i.none n f.begun h;
    }

-- nodes

pub within_of : (ms : List Member) (n : NodeId) → has_member ms n ≡ true →
    list_all (λ member. is_within 1 99 member.node.0) ms ≡ true → is_within 1 99 n.0 ≡ true
within_of [] n h w = absurd (cc)
within_of (m ∷ ms) n h w =
    let parts = and_parts (is_within 1 99 m.node.0) (list_all (λ member. is_within 1 99 member.node.0) ms) w in
    by (λ e. within_of ms n e parts.1) (or_cases (m.node.0 == n.0) (has_member ms n) h) parts.0
  where
    by : (has_member ms n ≡ true → is_within 1 99 n.0 ≡ true) → ((m.node.0 == n.0) ≡ true) ⊎ (has_member ms n ≡ true) →
        is_within 1 99 m.node.0 ≡ true → is_within 1 99 n.0 ≡ true
    by go (inl e) p = subst (λ k. is_within 1 99 k ≡ true) (eqb-true m.node.0 n.0 e) p
    by go (inr e) p = go e

lose_taken : (s : Scenario) (d : Draft) (m : ℕ) (n : NodeId) → Known s d.named →
    Now s d (record { moment = m; step = step.Lose n })
    → taken d (planned_words s (record { moment = m; step = step.Lose n })) ≡ Ok (draft_with_step d m (step.Lose n))
lose_taken s d m n k w =
    let within = within_of (members s) n w.good k.within in
    let called = k.named n w.good in
    taken_meant d _ _ (lose_meant d.format m n.0 w.moment within) ∙ rw (
      w.stands,
      w.moment,
      within,
      w.rises,
      w.room,
      called,
    ) refl

hold_taken : (s : Scenario) (d : Draft) (m : ℕ) (a b : NodeId) → Known s d.named →
    Now s d (record { moment = m; step = step.Hold a b })
    → taken d (planned_words s (record { moment = m; step = step.Hold a b })) ≡ Ok (draft_with_step d m (step.Hold a b))
hold_taken s d m a b k w =
    let both = and_parts (has_member (members s) a) (has_member (members s) b) w.good in
    let first = within_of (members s) a both.0 k.within in
    let second = within_of (members s) b both.1 k.within in
    let fit : (is_within 1 99 a.0 && is_within 1 99 b.0) ≡ true = and_from _ _ first second in
    let called : (is_named d.named a && is_named d.named b) ≡ true = and_from _ _ (k.named a both.0) (k.named b both.1) in
    taken_meant d _ _ (hold_meant d.format m a.0 b.0 w.moment first second) ∙ rw (
      w.stands,
      w.moment,
      fit,
      w.rises,
      w.room,
      called,
    ) refl

release_taken : (s : Scenario) (d : Draft) (m : ℕ) (a b : NodeId) → Known s d.named →
    Now s d (record { moment = m; step = step.Release a b })
    → taken d (planned_words s (record { moment = m; step = step.Release a b })) ≡ Ok (draft_with_step d m (step.Release a b))
release_taken s d m a b k w =
    let both = and_parts (has_member (members s) a) (has_member (members s) b) w.good in
    let first = within_of (members s) a both.0 k.within in
    let second = within_of (members s) b both.1 k.within in
    let fit : (is_within 1 99 a.0 && is_within 1 99 b.0) ≡ true = and_from _ _ first second in
    let called : (is_named d.named a && is_named d.named b) ≡ true = and_from _ _ (k.named a both.0) (k.named b both.1) in
    taken_meant d _ _ (release_meant d.format m a.0 b.0 w.moment first second) ∙ rw (
      w.stands,
      w.moment,
      fit,
      w.rises,
      w.room,
      called,
    ) refl

-- a node joins

join_taken : (s : Scenario) (d : Draft) (late : List Cache) (m : ℕ) (member : Member) (plan : List PlanStep) →
    PlanFits s d late (record { moment = m; step = step.Join member } ∷ plan)
    → taken d (planned_words s (record { moment = m; step = step.Join member }))
    ≡ Ok (draft_with_step (record d { members = d.members ++ member ∷ [] }) m (step.Join member))
join_taken s d late m member plan f =
    let w = now s d late (record { moment = m; step = step.Join member }) plan f in
    let within = (and_parts (is_within 1 99 member.node.0) (list_all (λ x. is_within 1 99 x.node.0) (joins_of plan))
    f.joined).0 in
    let new = new_one same_member_node d.members member (joins_of plan) f.distinct in
    let few : nat_lt (length d.members) 16 ≡ true =
    lt-ltb _ 16 (omega (arith, f.few, length-append d.members (member ∷ joins_of plan))) in
    taken_meant d _ _ (join_meant d.format m member.node.0 member.server w.moment within)
    ∙ rw (w.stands, w.moment, within, w.rises, few, w.room, new) refl

join_fits : (s : Scenario) (d : Draft) (late : List Cache) (m : ℕ) (member : Member) (plan : List PlanStep) →
    PlanFits s d late (record { moment = m; step = step.Join member } ∷ plan)
    → PlanFits s (draft_with_step (record d { members = d.members ++ member ∷ [] }) m (step.Join member)) late plan
join_fits s d late m member plan f =
    let on = onward s d late (record { moment = m; step = step.Join member }) plan f in
    record {
      format = f.format;
      caches = f.caches;
      started = f.started;
      stands = refl;
      sum = f.sum;
      numbers = f.numbers;
      counted = f.counted;
      moments = on.moments;
      rising = on.rising;
      first = on.first;
      room = on.room;
      distinct = rw (append_assoc d.members (member ∷ []) (joins_of plan)) f.distinct;
      few = rw (append_assoc d.members (member ∷ []) (joins_of plan)) f.few;
      joined = (and_parts (is_within 1 99 member.node.0) (list_all (λ x. is_within 1 99 x.node.0) (joins_of plan)) f.joined).1;
      steps = on.steps;
      begun = λ n h. begun_plain s d m (step.Join member) (λ k. refl) n f.begun h;
    }

-- a cache starts

none_less : (q : Cache → Bool) (xs : List Cache) (name : List ℕ) → has_cache xs name ≡ false →
    list_any (λ x. q x && bytes_eq x.name name) xs ≡ false
none_less q [] name h = refl
none_less q (x ∷ xs) name h = by (bytes_eq x.name name) (q x) h (λ k. none_less q xs name k)
  where
    by : (a b : Bool) → (a || has_cache xs name) ≡ false →
        (has_cache xs name ≡ false → list_any (λ y. q y && bytes_eq y.name name) xs ≡ false)
        → ((b && a) || list_any (λ y. q y && bytes_eq y.name name) xs) ≡ false
    by true b h f = cc
    by false true h f = f h
    by false false h f = f h

-- what is known where a cache starts
record Starting (s : Scenario) (d : Draft) (late : List Cache) (n : ℕ) : Type 0 where
  cache : Cache
  later : List Cache
  is : late ≡ cache ∷ later
  number : n ≡ length d.caches
  there : slice_get s.caches n ≡ Some cache
  second : d.format ≡ 2

starting_now : (s : Scenario) (d : Draft) (late : List Cache) (m n : ℕ) (plan : List PlanStep) →
    PlanFits s d late (record { moment = m; step = step.Start n } ∷ plan) → Starting s d late n
starting_now s d [] m n plan f = absurd (let c = f.counted in omega arith)
starting_now s d (c ∷ later) m n plan f =
    let parts = and_parts (n == length d.caches) (count_up (length d.caches + 1) (starts_of plan)) f.numbers in
    let number : n ≡ length d.caches = eqb-true n (length d.caches) parts.0 in
    let caches = f.caches in
    record {
      cache = c;
      later = later;
      is = refl;
      number = number;
      there = rw (caches, number) (get_at d.caches later c);
      second = by f.format;
    }
  where
    by : (d.format ≡ 2) ⊎ ((length s.caches ≡ 1) × (1 ≤ length d.caches)) → d.format ≡ 2
    by (inl e) = e
    by (inr e) = absurd (omega (arith, e.0, e.1, ap length f.caches, length-append d.caches (c ∷ later)))

start_step : (d : Draft) (m : ℕ) (c : Cache) → may_follow d.place place.Plan ≡ true → is_within 1 1000000 m ≡ true →
    rises d.plan m ≡ true → nat_lt (length d.plan) 64 ≡ true
    → good_cache c ≡ true → is_started c ≡ true → has_cache d.caches c.name ≡ false → length d.caches < 8 →
    d.partitions + c.parts ≤ 1024
    → with_start d m (words_of c)
    ≡ Ok (draft_with_step (record d { caches = d.caches ++ c ∷ []; partitions = d.partitions + c.parts }) m
    (step.Start (length d.caches)))
start_step d m c st moment ri room g started new few sum =
    let h = cache_fits c g in
    let kinds = and_parts (not c.first) (not c.«data») started in
    let fits : (is_within 1 1024 c.parts && nat_le c.backups 3 && nat_le c.near 10000) ≡ true =
    rw (h.parts, h.backups, h.near) refl in
    let fit_in : (nat_lt (length d.caches) 8 && nat_le (d.partitions + c.parts) 1024) ≡ true =
    rw (lt-ltb _ 8 few, le-leb _ 1024 sum) refl in
    let plain : names_data d.caches c.name ≡ false = none_less (λ x. x.«data») d.caches c.name new in
    rw (st, plain) (rw (moment, fits) (rw (ri, room) (rw fit_in (rw new
    (ap (λ x. Ok (draft_with_step (record d { caches = d.caches ++ x ∷ []; partitions = d.partitions + c.parts }) m
    (step.Start (length d.caches)))) (same c false false (not-true _ kinds.0) (not-true _ kinds.1)))))))
  where
    same : (x : Cache) (f k : Bool) → x.first ≡ f → x.«data» ≡ k → record x { first = f; «data» = k } ≡ x
    same x f k p q = λ i. record x { first = sym p i; «data» = sym q i }

abbrev with_started : Draft → ℕ → Cache → Draft
with_started d m c = draft_with_step (record d { caches = d.caches ++ c ∷ []; partitions = d.partitions + c.parts }) m
    (step.Start (length d.caches))

start_taken : (s : Scenario) (d : Draft) (c : Cache) (later : List Cache) (m : ℕ) (plan : List PlanStep) → Known s d.named
    → PlanFits s d (c ∷ later) (record { moment = m; step = step.Start (length d.caches) } ∷ plan) → d.format ≡ 2 →
    slice_get s.caches (length d.caches) ≡ Some c
    → taken d (planned_words s (record { moment = m; step = step.Start (length d.caches) })) ≡ Ok (with_started d m c)
start_taken s d c later m plan k f two there =
    let w = now s d (c ∷ later) (record { moment = m; step = step.Start (length d.caches) }) plan f in
    let caches = f.caches in
    let g = at_all good_cache s.caches (length d.caches) c k.each there in
    let started = (and_parts (is_started c) (list_all is_started later) f.started).0 in
    let distinct : are_distinct same_cache_name (d.caches ++ c ∷ later) ≡ true = rw caches at k.distinct in
    let few : length d.caches < 8 = omega (arith, k.few, ap length caches, length-append d.caches (c ∷ later)) in
    let means : Meant d.format (codes "plan" ∷ decimal m ∷ codes "start" ∷ shape_words c) (line.Start m (words_of c)) =
    in_second d.format _ _ two (start_meant m c w.moment g) in
    rw there (taken_meant d _ _ means ∙ start_step d m c w.stands w.moment w.rises w.room g started
    (new_one same_cache_name d.caches c later distinct) few
    (omega (arith, f.sum, sum_by-cons (λ (cache : Cache). cache.parts) c later)))

start_fits : (s : Scenario) (d : Draft) (c : Cache) (later : List Cache) (m : ℕ) (plan : List PlanStep)
    → PlanFits s d (c ∷ later) (record { moment = m; step = step.Start (length d.caches) } ∷ plan) →
    PlanFits s (with_started d m c) later plan
start_fits s d c later m plan f =
    let on = onward s d (c ∷ later) (record { moment = m; step = step.Start (length d.caches) }) plan f in
    let longer : length (d.caches ++ c ∷ []) ≡ length d.caches + 1 = length-append d.caches (c ∷ []) in
    record {
      format = by f.format;
      caches = f.caches ∙ sym (append_assoc d.caches (c ∷ []) later);
      started = (and_parts (is_started c) (list_all is_started later) f.started).1;
      stands = refl;
      sum = omega (arith, f.sum, sum_by-cons (λ (cache : Cache). cache.parts) c later);
      numbers = rw longer (and_parts (length d.caches == length d.caches) (count_up (length d.caches + 1) (starts_of plan))
          f.numbers).1;
      counted = omega (arith, f.counted);
      moments = on.moments;
      rising = on.rising;
      first = on.first;
      room = on.room;
      distinct = f.distinct;
      few = f.few;
      joined = f.joined;
      steps = on.steps;
      begun = λ n h. begun n (sym (list_any-append (starts_cache n) (steps_of d.plan) (step.Start (length d.caches) ∷ []))
          ∙ (ap (list_any (starts_cache n))
          (sym (steps_push d.plan (record { moment = m; step = step.Start (length d.caches) }))) ∙ h));
    }
  where
    by : (d.format ≡ 2) ⊎ ((length s.caches ≡ 1) × (1 ≤ length d.caches)) → (d.format ≡ 2)
        ⊎ ((length s.caches ≡ 1) × (1 ≤ length (d.caches ++ c ∷ [])))
    by (inl e) = inl e
    by (inr e) = inr (e.0, omega (arith, e.1, length-append d.caches (c ∷ [])))

    -- the cache of a step that came was there before
    kept : (n : ℕ) (o : Option Cache) → slice_get d.caches n ≡ o → list_any is_started (option_to_list o) ≡ true
        → list_any is_started (option_to_list (slice_get (d.caches ++ c ∷ []) n)) ≡ true
    kept n None e h = cc
    kept n (Some x) e h = rw (get_front d.caches (c ∷ []) n x e) h

    begun : (n : ℕ) → (list_any (starts_cache n) (steps_of d.plan) || ((length d.caches == n) || false)) ≡ true
        → list_any is_started (option_to_list (slice_get (d.caches ++ c ∷ []) n)) ≡ true
    begun n h = split (or_cases (list_any (starts_cache n) (steps_of d.plan)) ((length d.caches == n) || false) h)
      where
        split : (list_any (starts_cache n) (steps_of d.plan) ≡ true) ⊎ (((length d.caches == n) || false) ≡ true)
            → list_any is_started (option_to_list (slice_get (d.caches ++ c ∷ []) n)) ≡ true
        split (inl e) = kept n (slice_get d.caches n) refl (f.begun n e)
        split (inr e) =
            let number : length d.caches ≡ n = eqb-true (length d.caches) n (alone (length d.caches == n) e) in
            let there = get_at d.caches [] c in
            let started = (and_parts (is_started c) (list_all is_started later) f.started).0 in
            rw (← number) (rw there (rw started refl))
          where
            alone : (b : Bool) → (b || false) ≡ true → b ≡ true
            alone true e = refl
            alone false e = cc

-- a cache stops

-- what is known of the cache that stops
record Stopping (s : Scenario) (d : Draft) (n : ℕ) : Type 0 where
  cache : Cache
  there : slice_get d.caches n ≡ Some cache
  all : slice_get s.caches n ≡ Some cache
  plain : cache.«data» ≡ false

stopping : (s : Scenario) (d : Draft) (late : List Cache) (plan : List PlanStep) (n : ℕ) → PlanFits s d late plan
    → (list_any has_cache_line (option_to_list (slice_get s.caches n)) || list_any (starts_cache n) (steps_of d.plan))
    ≡ true → Stopping s d n
stopping s d late plan n f h = by (or_cases _ _ h)
  where
    lined : (o : Option Cache) → slice_get s.caches n ≡ o → list_any has_cache_line (option_to_list o) ≡ true → Stopping s d n
    lined None e k = absurd (cc)
    lined (Some c) e k =
        let kinds = and_parts c.first (not c.«data») (alone (has_cache_line c) k) in
        let caches = f.caches in
        record {
          cache = c;
          there = front_of d.caches late n c (rw caches at e) (λ i t.
              let started = at_all is_started late i c f.started t in
              let first : c.first ≡ false = not-true _ (and_parts (not c.first) (not c.«data») started).0 in
              let line : c.first ≡ true = kinds.0 in cc);
          all = e;
          plain = not-true _ kinds.1;
        }
      where
        alone : (b : Bool) → (b || false) ≡ true → b ≡ true
        alone true e = refl
        alone false e = cc

    before : (o : Option Cache) → slice_get d.caches n ≡ o → list_any is_started (option_to_list o) ≡ true → Stopping s d n
    before None e k = absurd (cc)
    before (Some c) e k =
        let kinds = and_parts (not c.first) (not c.«data») (alone (is_started c) k) in
        let caches = f.caches in
        record { cache = c; there = e; all = rw caches (get_front d.caches late n c e); plain = not-true _ kinds.1 }
      where
        alone : (b : Bool) → (b || false) ≡ true → b ≡ true
        alone true e = refl
        alone false e = cc

    by : (list_any has_cache_line (option_to_list (slice_get s.caches n)) ≡ true)
        ⊎ (list_any (starts_cache n) (steps_of d.plan) ≡ true) → Stopping s d n
    by (inl e) = lined (slice_get s.caches n) refl e
    by (inr e) = before (slice_get d.caches n) refl (f.begun n e)

any_steps : (plan : List PlanStep) (n : ℕ) → is_stopped plan n ≡ list_any (stops n) (steps_of plan)
any_steps [] n = refl
any_steps (p ∷ plan) n = ap (λ b. stops n p.step || b) (any_steps plan n)

stop_step : (d : Draft) (m n : ℕ) (c : Cache) → may_follow d.place place.Plan ≡ true → is_within 1 1000000 m ≡ true →
    rises d.plan m ≡ true → nat_lt (length d.plan) 64 ≡ true
    → are_distinct same_cache_name d.caches ≡ true → slice_get d.caches n ≡ Some c → c.«data» ≡ false → (n == 0) ≡ false →
    is_stopped d.plan n ≡ false
    → with_stop d m (Some c.name) ≡ Ok (draft_with_step d m (step.Stop n))
stop_step d m n c st moment ri room distinct there plain other new =
    let at = place_is d.caches n c distinct there in
    let no_data : names_data d.caches c.name ≡ false = none_other (λ x. x.«data») d.caches n c distinct there plain in
    rw (st, no_data) (rw at (rw other (rw (moment, ri, room) (rw new refl))))

stop_taken : (s : Scenario) (d : Draft) (late : List Cache) (m n : ℕ) (plan : List PlanStep) → Known s d.named →
    PlanFits s d late (record { moment = m; step = step.Stop n } ∷ plan)
    → taken d (planned_words s (record { moment = m; step = step.Stop n })) ≡ Ok (draft_with_step d m (step.Stop n))
stop_taken s d late m n plan k f =
    let w = now s d late (record { moment = m; step = step.Stop n }) plan f in
    let outer = and_parts (not (n == 0) && (list_any has_cache_line (option_to_list (slice_get s.caches n))
    || list_any (starts_cache n) (steps_of d.plan))) (not (list_any (stops n) (steps_of d.plan))) w.good in
    let inner = and_parts (not (n == 0)) (list_any has_cache_line (option_to_list (slice_get s.caches n))
    || list_any (starts_cache n) (steps_of d.plan)) outer.0 in
    let c = stopping s d late (record { moment = m; step = step.Stop n } ∷ plan) n f inner.1 in
    let other : (n == 0) ≡ false = not-true _ inner.0 in
    let caches = f.caches in
    let distinct = distinct_front same_cache_name d.caches late (rw caches at k.distinct) in
    let all = c.all in
    let two : d.format ≡ 2 = second f.format c.cache c.all other in
    let fit = cache_fits c.cache (at_all good_cache s.caches n c.cache k.each c.all) in
    let means : Meant d.format (codes "plan" ∷ decimal m ∷ codes "stop" ∷ c.cache.name ∷ [])
    (line.Stop m (Some c.cache.name)) = in_second d.format _ _ two (stop_meant m c.cache.name w.moment fit.name) in
    rw all (taken_meant d _ _ means ∙ stop_step d m n c.cache w.stands w.moment w.rises w.room distinct c.there c.plain other
    (any_steps d.plan n ∙ not-true _ outer.1))
  where
    second : (d.format ≡ 2) ⊎ ((length s.caches ≡ 1) × (1 ≤ length d.caches)) → (c : Cache) → slice_get s.caches n ≡ Some c →
        (n == 0) ≡ false → d.format ≡ 2
    second (inl e) c there other = e
    second (inr e) c there other = absurd (let within = get_within s.caches n c there in
        eqb-false n 0 other (omega (arith, e.0)))

-- the whole plan

-- the lines of these steps are taken by each draft that they fit
abbrev TakesPlan : Scenario → List PlanStep → Type 0
TakesPlan s plan = (d : Draft) (late : List Cache) → Known s d.named → PlanFits s d late plan → PlanTaken s d plan

pub plan_taken : (s : Scenario) (plan : List PlanStep) → TakesPlan s plan
plan_taken s [] d late k f = record {
  next = d;
  took = refl;
  format = refl;
  named = refl;
  stands = stands_later d.place place.Plan place.Sessions refl f.stands;
  caches = sym (f.caches ∙ none_left late f.counted);
  nodes = refl;
  plan = sym (append-nil d.plan);
  objects = refl;
  sessions = refl;
}
  where
    none_left : (xs : List Cache) → length xs ≡ 0 → d.caches ++ xs ≡ d.caches
    none_left [] e = append-nil d.caches
    none_left (x ∷ xs) e = absurd (omega arith)
plan_taken s (p ∷ plan) d late k f = by (plan_taken s plan) p.moment p.step f
  where
    by : TakesPlan s plan → (m : ℕ) (x : Step) → PlanFits s d late (record { moment = m; step = x } ∷ plan) →
        PlanTaken s d (record { moment = m; step = x } ∷ plan)
    by go m (step.Join member) f =
        next_taken s d _ _ plan (join_taken s d late m member plan f) refl refl refl refl refl refl
        (go _ late k (join_fits s d late m member plan f))
    by go m (step.Lose n) f =
        next_taken s d _ _ plan (lose_taken s d m n k (now s d late _ plan f)) refl refl refl refl refl refl
        (go (draft_with_step d m (step.Lose n)) late k
        (plain_fits s d late m (step.Lose n) plan (record { no_start = refl; no_join = refl; none = λ n. refl }) f))
    by go m (step.Hold a b) f =
        next_taken s d _ _ plan (hold_taken s d m a b k (now s d late _ plan f)) refl refl refl refl refl refl
        (go (draft_with_step d m (step.Hold a b)) late k
        (plain_fits s d late m (step.Hold a b) plan (record { no_start = refl; no_join = refl; none = λ n. refl }) f))
    by go m (step.Release a b) f =
        next_taken s d _ _ plan (release_taken s d m a b k (now s d late _ plan f)) refl refl refl refl refl refl
        (go (draft_with_step d m (step.Release a b)) late k
        (plain_fits s d late m (step.Release a b) plan (record { no_start = refl; no_join = refl; none = λ n. refl }) f))
    by go m (step.Start n) f = started go m n (starting_now s d late m n plan f) f
      where
        started : TakesPlan s plan → (m n : ℕ) → Starting s d late n →
            PlanFits s d late (record { moment = m; step = step.Start n } ∷ plan) →
            PlanTaken s d (record { moment = m; step = step.Start n } ∷ plan)
        started go m n h f =
            subst (λ x. PlanTaken s d (record { moment = m; step = step.Start x } ∷ plan)) (sym h.number)
            (let g : PlanFits s d (h.cache ∷ h.later) (record { moment = m; step = step.Start (length d.caches) } ∷ plan) =
            subst (λ x. PlanFits s d (h.cache ∷ h.later) (record { moment = m; step = step.Start x } ∷ plan)) h.number
            (subst (λ xs. PlanFits s d xs (record { moment = m; step = step.Start n } ∷ plan)) h.is f) in
            next_taken s d (with_started d m h.cache) _ plan
            (start_taken s d h.cache h.later m plan k g h.second
            (subst (λ x. slice_get s.caches x ≡ Some h.cache) h.number h.there)) refl refl refl refl refl refl
            (go (with_started d m h.cache) h.later k (start_fits s d h.cache h.later m plan g)))
    by go m (step.Stop n) f =
        next_taken s d _ _ plan (stop_taken s d late m n plan k f) refl refl refl refl refl refl
        (go (draft_with_step d m (step.Stop n)) late k
        (plain_fits s d late m (step.Stop n) plan (record { no_start = refl; no_join = refl; none = λ n. refl }) f))
