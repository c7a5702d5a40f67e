-- The canonical text of a good scenario is read as that scenario.
--
-- The steps, from the bottom:
-- Split: a text of lines of words falls into these lines, and each line into its words.
-- Numbers, Names: each number, name, object, key and value that is printed is read as itself.
-- Texts: the canonical text is the text of certain lines of words (Lines).
-- Means: each of these lines means what it was printed from.
-- Taken: the lines are taken one after the other, by their meanings.
-- Caches: what distinct names say of the caches.
-- Heads, Plans, Scripts, Sessions: what the lines of each part make of what was read before them.
-- Called: the lines name each node of the scenario, so that a step or a session may name it.
use Rattle.std.proofs.Common.{◌≡◌, ◌+◌, ◌≤◌, Bool, true, false, List, [], ◌∷◌, ◌++◌, length, refl, sym, ap, ◌∙◌, subst, arith, length-append, inl, inr}
use Rattle.std.specs.Prelude.{◌&&◌, ◌||◌, ◌⊎◌, not, nat_le, ◌==◌, cond, filter, filter_map, flat_map, map, sum_by, Ok}
use Rattle.std.specs.List.{list_all, list_any}
use Rattle.std.proofs.lemmas.Bool.{and_parts, and_from, leb-true, eqb-true, cond-true, cond-false, and_left, not_from_true, or_cases, or_left, or_right}
use Rattle.std.proofs.lemmas.List.Folds.{list_all-append, list_any-append}
use Rattle.ignite_types.specs.Good.{ObjectKind, are_distinct, count_up, good, good_cache, good_caches, good_format, good_kinds, good_nodes, good_plan, good_session, good_sessions, good_starts, good_steps, has_cache_line, has_member, in_order, is_default, is_started, is_within, members, no_moment_falls, object_of, same_cache_name, same_member_node, same_session_name, starts_cache}
use Rattle.ignite_types.specs.declared.names.NodeId.{NodeId}
use Rattle.ignite_types.specs.declared.text.Key.{Key}
use Rattle.ignite_types.specs.declared.scenario.Cache.{Cache}
use Rattle.ignite_types.specs.declared.scenario.PlanStep.{PlanStep}
use Rattle.ignite_types.specs.declared.scenario.Scenario.{Scenario}
use Rattle.scen_text.specs.declared.draft.Draft.{Draft}
use Rattle.scen_text.specs.declared.place.Place.{Place}
use Rattle.scen_text.specs.declared.place.Place.TheVariants as place
use Rattle.scen_text.specs.Drafts.{empty, finished}
use Rattle.scen_text.specs.Known.{has_line, has_server, is_named}
use Rattle.scen_text.specs.Places as places
use Rattle.scen_text.specs.Places.{may_follow}
use Rattle.scen_text.specs.Reading.{named_in, scenario_of}
use Rattle.text_laws.proofs.Lines.{head_lines, member_words, planned_words, session_lines, all_lines}
use Rattle.text_laws.specs.RoundTrip.{ReadsBack}
use Rattle.text_laws.proofs.Caches.{distinct_front}
use Rattle.text_laws.proofs.Called.{names, names-append, nodes_named, joins_named}
use Rattle.text_laws.proofs.Heads.{OfCacheLine, OfDataLine, line_kind, started_none, HeadTaken, first_head, second_head, nodes_taken}
use Rattle.text_laws.proofs.Plans.{joins_of, starts_of, steps_of, goes_on, Known, PlanFits, plan_taken}
use Rattle.text_laws.proofs.Scripts.{agrees_with, formats, Whole}
use Rattle.text_laws.proofs.Sessions.{commands_of, sessions_taken}
use Rattle.text_laws.proofs.Split.{spaced}
use Rattle.text_laws.proofs.Taken.{taken_both, read_whole}
use Rattle.text_laws.proofs.Texts.{text_is}

-- what a good scenario is, part by part

record GoodParts (s : Scenario) : Type 0 where
  format : good_format s.format s.caches ≡ true
  each : list_all good_cache s.caches ≡ true
  order : in_order s.caches ≡ true
  line : list_any has_cache_line s.caches ≡ true
  distinct : are_distinct same_cache_name s.caches ≡ true
  few : length s.caches ≤ 8
  sum : sum_by (λ cache. cache.parts) s.caches ≤ 1024
  within : list_all (λ member. is_within 1 99 member.node.0) (members s) ≡ true
  apart : are_distinct same_member_node (members s) ≡ true
  few_nodes : length (members s) ≤ 16
  server : list_any (λ member. member.server) s.nodes ≡ true
  few_steps : length s.plan ≤ 64
  moments : list_all (λ planned. is_within 1 1000000 planned.moment) s.plan ≡ true
  rising : no_moment_falls s.plan ≡ true
  steps : good_steps s.caches (members s) [] s.plan ≡ true
  numbers : count_up (length (filter (λ cache. cache.first) s.caches)) (starts_of s.plan) ≡ true
  counted : length (filter is_started s.caches) ≡ length (starts_of s.plan)
  few_sessions : length s.sessions ≤ 64
  sessions : list_all (good_session s.caches (members s)) s.sessions ≡ true
  called : are_distinct same_session_name s.sessions ≡ true
  kinds : good_kinds (filter_map object_of (commands_of s.sessions)) ≡ true

good_parts : (s : Scenario) → good s ≡ true → GoodParts s
good_parts s h =
    let a = and_parts (good_format s.format s.caches && good_caches s.caches && good_nodes s && good_plan s)
    (good_sessions s) h in
    let b = and_parts (good_format s.format s.caches && good_caches s.caches && good_nodes s) (good_plan s) a.0 in
    let c = and_parts (good_format s.format s.caches && good_caches s.caches) (good_nodes s) b.0 in
    let d = and_parts (good_format s.format s.caches) (good_caches s.caches) c.0 in
    let caches = s.caches in
    let c1 = and_parts (list_all good_cache caches && in_order caches && list_any has_cache_line caches
    && are_distinct same_cache_name caches && nat_le (length caches) 8)
    (nat_le (sum_by (λ cache. cache.parts) caches) 1024) d.1 in
    let c2 = and_parts (list_all good_cache caches && in_order caches && list_any has_cache_line caches
    && are_distinct same_cache_name caches) (nat_le (length caches) 8) c1.0 in
    let c3 = and_parts (list_all good_cache caches && in_order caches && list_any has_cache_line caches)
    (are_distinct same_cache_name caches) c2.0 in
    let c4 = and_parts (list_all good_cache caches && in_order caches) (list_any has_cache_line caches) c3.0 in
    let c5 = and_parts (list_all good_cache caches) (in_order caches) c4.0 in
    let all = members s in
    let n1 = and_parts (list_all (λ member. is_within 1 99 member.node.0) all && are_distinct same_member_node all
    && nat_le (length all) 16) (list_any (λ member. member.server) s.nodes) c.1 in
    let n2 = and_parts (list_all (λ member. is_within 1 99 member.node.0) all && are_distinct same_member_node all)
    (nat_le (length all) 16) n1.0 in
    let n3 = and_parts (list_all (λ member. is_within 1 99 member.node.0) all) (are_distinct same_member_node all) n2.0 in
    let plan = s.plan in
    let p1 = and_parts (nat_le (length plan) 64 && list_all (λ planned. is_within 1 1000000 planned.moment) plan
    && no_moment_falls plan && good_steps caches all [] plan) (good_starts caches (starts_of plan)) b.1 in
    let p2 = and_parts (nat_le (length plan) 64 && list_all (λ planned. is_within 1 1000000 planned.moment) plan
    && no_moment_falls plan) (good_steps caches all [] plan) p1.0 in
    let p3 = and_parts (nat_le (length plan) 64 && list_all (λ planned. is_within 1 1000000 planned.moment) plan)
    (no_moment_falls plan) p2.0 in
    let p4 = and_parts (nat_le (length plan) 64) (list_all (λ planned. is_within 1 1000000 planned.moment) plan) p3.0 in
    let p5 = and_parts (count_up (length (filter (λ cache. cache.first) caches)) (starts_of plan))
    (length (filter is_started caches) == length (starts_of plan)) p1.1 in
    let xs = s.sessions in
    let s1 = and_parts (nat_le (length xs) 64 && list_all (good_session caches all) xs && are_distinct same_session_name xs)
    (good_kinds (filter_map object_of (commands_of xs))) a.1 in
    let s2 = and_parts (nat_le (length xs) 64 && list_all (good_session caches all) xs) (are_distinct same_session_name xs)
    s1.0 in
    let s3 = and_parts (nat_le (length xs) 64) (list_all (good_session caches all) xs) s2.0 in
    record {
      format = d.0;
      each = c5.0;
      order = c5.1;
      line = c4.1;
      distinct = c3.1;
      few = leb-true (length caches) 8 c2.1;
      sum = leb-true (sum_by (λ cache. cache.parts) caches) 1024 c1.1;
      within = n3.0;
      apart = n3.1;
      few_nodes = leb-true (length all) 16 n2.1;
      server = n1.1;
      few_steps = leb-true (length plan) 64 p4.0;
      moments = p4.1;
      rising = p3.1;
      steps = p2.1;
      numbers = p5.0;
      counted = eqb-true (length (filter is_started caches)) (length (starts_of plan)) p5.1;
      few_sessions = leb-true (length xs) 64 s3.0;
      sessions = s3.1;
      called = s2.1;
      kinds = s1.1;
    }

-- the caches that run from the start come before those that are started
in_two : (cs : List Cache) → in_order cs ≡ true → cs ≡ filter (λ cache. cache.first) cs ++ filter is_started cs
in_two [] h = refl
in_two (c ∷ cs) h =
    let parts = and_parts _ (in_order cs) h in
    by (line_kind c cs parts.0) (in_two cs parts.1)
  where
    line : c.first ≡ true → cs ≡ filter (λ cache. cache.first) cs ++ filter is_started cs →
        c ∷ cs ≡ filter (λ cache. cache.first) (c ∷ cs) ++ filter is_started (c ∷ cs)
    line first more =
        let kept = cond-true c.first (c ∷ filter (λ cache. cache.first) cs) (filter (λ cache. cache.first) cs) first in
        let left = cond-false (is_started c) (c ∷ filter is_started cs) (filter is_started cs)
        (and_left (not c.first) (not c.«data») (not_from_true c.first first)) in
        ap (λ xs. c ∷ xs) more ∙ sym (λ i. kept i ++ left i)

    by : OfCacheLine c ⊎ (OfDataLine c cs ⊎ (list_all is_started (c ∷ cs) ≡ true)) →
        cs ≡ filter (λ cache. cache.first) cs ++ filter is_started cs
        → c ∷ cs ≡ filter (λ cache. cache.first) (c ∷ cs) ++ filter is_started (c ∷ cs)
    by (inl h) more = line h.first more
    by (inr (inl h)) more = line h.first more
    by (inr (inr h)) more = let none = started_none (c ∷ cs) h in sym (λ i. none.1 i ++ none.2 i)

all_started : (cs : List Cache) → list_all is_started (filter is_started cs) ≡ true
all_started [] = refl
all_started (c ∷ cs) = by (is_started c) refl (all_started cs)
  where
    by : (b : Bool) → is_started c ≡ b → list_all is_started (filter is_started cs) ≡ true →
        list_all is_started (cond b (c ∷ filter is_started cs) (filter is_started cs)) ≡ true
    by true e h = and_from (is_started c) (list_all is_started (filter is_started cs)) e h
    by false e h = h

-- the head

head : (s : Scenario) (called : List NodeId) → GoodParts s → HeadTaken (head_lines s) s.format s.caches called
head s called g = by (formats s.format s.caches g.format)
  where
    by : ((s.format ≡ 1) × (is_default s.caches ≡ true)) ⊎ (s.format ≡ 2) → HeadTaken (head_lines s) s.format s.caches called
    by (inl h) = let one = h.0 in rw one (first_head s.caches called h.1 g.each)
    by (inr two) = rw two (second_head s.caches called g.order g.each g.distinct g.few g.sum)

-- the nodes that are named

named : (s : Scenario) → GoodParts s → (n : NodeId) → has_member (members s) n ≡ true →
    is_named (named_in (map spaced (all_lines s))) n ≡ true
named s g n h =
    let nodes = map member_words s.nodes in
    let plan = map (planned_words s) s.plan in
    let sessions = flat_map (session_lines s) s.sessions in
    let within = and_parts (list_all (λ member. is_within 1 99 member.node.0) s.nodes)
    (list_all (λ member. is_within 1 99 member.node.0) (joins_of s.plan))
    (sym (list_all-append (λ member. is_within 1 99 member.node.0) s.nodes (joins_of s.plan)) ∙ g.within) in
    let split = sym (list_any-append (λ member. member.node.0 == n.0) s.nodes (joins_of s.plan)) ∙ h in
    names-append (head_lines s) (nodes ++ (plan ++ sessions)) n
    ∙ or_right (names (head_lines s) n) (names (nodes ++ (plan ++ sessions)) n)
    (names-append nodes (plan ++ sessions) n ∙ by (or_cases (has_member s.nodes n) (has_member (joins_of s.plan) n) split)
    within.0 within.1)
  where
    by : (has_member s.nodes n ≡ true) ⊎ (has_member (joins_of s.plan) n ≡ true) →
        list_all (λ member. is_within 1 99 member.node.0) s.nodes ≡ true
        → list_all (λ member. is_within 1 99 member.node.0) (joins_of s.plan) ≡ true
        → (names (map member_words s.nodes) n || names (map (planned_words s) s.plan ++ flat_map (session_lines s) s.sessions)
        n) ≡ true
    by (inl e) v w = or_left (names (map member_words s.nodes) n) _ (nodes_named s.nodes n v e)
    by (inr e) v w = or_right (names (map member_words s.nodes) n) _
        (names-append (map (planned_words s) s.plan) (flat_map (session_lines s) s.sessions) n
        ∙ or_left (names (map (planned_words s) s.plan) n) _ (joins_named s s.plan n g.moments w e))

-- the plan

-- what is known where the first step is read
record Before (s : Scenario) (d : Draft) : Type 0 where
  format : d.format ≡ s.format
  stands : may_follow d.place place.Plan ≡ true
  caches : d.caches ≡ filter (λ cache. cache.first) s.caches
  sum : d.partitions + sum_by (λ cache. cache.parts) (filter is_started s.caches) ≤ 1024
  members : d.members ≡ s.nodes
  plan : d.plan ≡ []

goes_first : (came plan : List PlanStep) → came ≡ [] → goes_on came plan ≡ true
goes_first came [] e = refl
goes_first came (p ∷ plan) e = rw e refl

some_line : (cs : List Cache) → list_any has_cache_line cs ≡ true → 1 ≤ length (filter (λ cache. cache.first) cs)
some_line [] h = absurd (cc)
some_line (c ∷ cs) h = by c.first c.«data» refl (some_line cs) h
  where
    by : (f d : Bool) → c.first ≡ f → (list_any has_cache_line cs ≡ true → 1 ≤ length (filter (λ cache. cache.first) cs)) →
        ((f && not d) || list_any has_cache_line cs) ≡ true
        → 1 ≤ length (filter (λ cache. cache.first) (c ∷ cs))
    by true d e go h = subst (λ xs. 1 ≤ length xs)
        (sym (cond-true c.first (c ∷ filter (λ cache. cache.first) cs) (filter (λ cache. cache.first) cs) e)) (omega arith)
    by false d e go h = subst (λ xs. 1 ≤ length xs)
        (sym (cond-false c.first (c ∷ filter (λ cache. cache.first) cs) (filter (λ cache. cache.first) cs) e)) (go h)

one_cache : (cs : List Cache) → is_default cs ≡ true → length cs ≡ 1
one_cache [] h = absurd (cc)
one_cache (c ∷ []) h = refl
one_cache (c ∷ d ∷ more) h = absurd (cc)

plan_fits : (s : Scenario) (d : Draft) → GoodParts s → Before s d → PlanFits s d (filter is_started s.caches) s.plan
plan_fits s d g b =
    let within = and_parts (list_all (λ member. is_within 1 99 member.node.0) s.nodes)
    (list_all (λ member. is_within 1 99 member.node.0) (joins_of s.plan))
    (sym (list_all-append (λ member. is_within 1 99 member.node.0) s.nodes (joins_of s.plan)) ∙ g.within) in
    record {
      format = by (formats s.format s.caches g.format);
      caches = in_two s.caches g.order ∙ ap (λ cs. cs ++ filter is_started s.caches) (sym b.caches);
      started = all_started s.caches;
      stands = b.stands;
      sum = b.sum;
      numbers = subst (λ cs. count_up (length cs) (starts_of s.plan) ≡ true) (sym b.caches) g.numbers;
      counted = g.counted;
      moments = g.moments;
      rising = g.rising;
      first = goes_first d.plan s.plan b.plan;
      room = subst (λ came. length came + length s.plan ≤ 64) (sym b.plan) (omega (arith, g.few_steps));
      distinct = subst (λ ms. are_distinct same_member_node (ms ++ joins_of s.plan) ≡ true) (sym b.members) g.apart;
      few = subst (λ ms. length (ms ++ joins_of s.plan) ≤ 16) (sym b.members) g.few_nodes;
      joined = within.1;
      steps = subst (λ came. good_steps s.caches (members s) (steps_of came) s.plan ≡ true) (sym b.plan) g.steps;
      begun = λ n h. absurd (let none : list_any (starts_cache n) (steps_of []) ≡ true =
          subst (λ came. list_any (starts_cache n) (steps_of came) ≡ true) b.plan h in cc);
    }
  where
    by : ((s.format ≡ 1) × (is_default s.caches ≡ true)) ⊎ (s.format ≡ 2) → (d.format ≡ 2)
        ⊎ ((length s.caches ≡ 1) × (1 ≤ length d.caches))
    by (inl h) = inr (one_cache s.caches h.1, subst (λ cs. 1 ≤ length cs) (sym b.caches) (some_line s.caches g.line))
    by (inr two) = inl (b.format ∙ two)

-- the end

whole_place : (p : Place) → may_follow p place.Sessions ≡ true → places.is_outside_session p ≡ true
whole_place place.Start h = cc
whole_place place.Script h = cc
whole_place place.Block h = cc
whole_place _ h = refl

none_known : (xs : List (Key × ObjectKind)) → list_all (agrees_with []) xs ≡ true
none_known [] = refl
none_known (x ∷ xs) = none_known xs

-- what is read is the scenario
last : (s : Scenario) (e : Draft) → GoodParts s → e.format ≡ s.format → may_follow e.place place.Sessions ≡ true →
    e.caches ≡ s.caches → e.nodes ≡ s.nodes → e.plan ≡ s.plan → e.sessions ≡ s.sessions → finished e ≡ Ok s
last s e g format st caches nodes plan sessions =
    let there = whole_place e.place st in
    let server : has_server e.nodes ≡ true = subst (λ ms. has_server ms ≡ true) (sym nodes) g.server in
    let line : has_line e.caches ≡ true = subst (λ cs. has_line cs ≡ true) (sym caches) g.line in
    rw (there, server, line)
    (λ i. Ok (record { format = format i; caches = caches i; nodes = nodes i; plan = plan i; sessions = sessions i }))

pub reads_back : ReadsBack
reads_back s h longs few =
    let g = good_parts s h in
    let called = named_in (map spaced (all_lines s)) in
    let known : Known s called = record {
      each = g.each;
      distinct = g.distinct;
      few = g.few;
      within = g.within;
      named =
          named s g;
    } in
    let whole : Whole s = record { format = g.format; each = g.each; distinct = g.distinct } in
    let heads = head s called g in
    let none = heads.members in
    let all_members : heads.next.members ++ s.nodes ≡ s.nodes = ap (λ ms. ms ++ s.nodes) none in
    let fits = and_parts (list_all (λ member. is_within 1 99 member.node.0) s.nodes)
    (list_all (λ member. is_within 1 99 member.node.0) (joins_of s.plan))
    (sym (list_all-append (λ member. is_within 1 99 member.node.0) s.nodes (joins_of s.plan)) ∙ g.within) in
    let nodes = nodes_taken s.nodes heads.next heads.stands fits.0
    (subst (λ ms. are_distinct same_member_node ms ≡ true) (sym all_members)
    (distinct_front same_member_node s.nodes (joins_of s.plan) g.apart))
    (subst (λ ms. length ms ≤ 16) (sym all_members) (omega (arith, g.few_nodes, length-append s.nodes (joins_of s.plan)))) in
    let known_nodes : Known s nodes.next.named = subst (λ xs. Known s xs) (sym (nodes.named ∙ heads.named)) known in
    let plan = plan_taken s s.plan nodes.next (filter is_started s.caches) known_nodes (plan_fits s nodes.next g (record {
      format = nodes.format ∙ heads.format;
      stands = nodes.stands;
      caches = nodes.caches ∙ heads.caches;
      sum = subst (λ n. n + sum_by (λ (cache : Cache). cache.parts) (filter is_started s.caches) ≤ 1024)
          (sym nodes.partitions) heads.sum;
      members = nodes.members ∙ all_members;
      plan = nodes.plan ∙ heads.plan;
    })) in
    let known_plan : Known s plan.next.named = subst (λ xs. Known s xs) (sym plan.named) known_nodes in
    let no_sessions : plan.next.sessions ≡ [] = plan.sessions ∙ (nodes.sessions ∙ heads.sessions) in
    let no_objects : plan.next.objects ≡ [] = plan.objects ∙ (nodes.objects ∙ heads.objects) in
    let sessions = sessions_taken s s.sessions plan.next whole known_plan (record {
      format = plan.format ∙ (nodes.format ∙ heads.format);
      caches = plan.caches;
      stands = plan.stands;
      room = subst (λ xs. length xs + length s.sessions ≤ 64) (sym no_sessions) (omega (arith, g.few_sessions));
      distinct = subst (λ xs. are_distinct same_session_name (xs ++ s.sessions) ≡ true) (sym no_sessions) g.called;
      good = g.sessions;
      long = longs;
      agree = subst (λ xs. list_all (agrees_with xs) (filter_map object_of (commands_of s.sessions)) ≡ true) (sym no_objects)
          (none_known (filter_map object_of (commands_of s.sessions)));
      kinds = g.kinds;
    }) in
    let after_nodes = taken_both (map (planned_words s) s.plan) (flat_map (session_lines s) s.sessions) nodes.next plan.next
    sessions.next plan.took sessions.took in
    let after_head = taken_both (map member_words s.nodes)
    (map (planned_words s) s.plan ++ flat_map (session_lines s) s.sessions) heads.next nodes.next sessions.next nodes.took
    after_nodes in
    let took = taken_both (head_lines s)
    (map member_words s.nodes ++ (map (planned_words s) s.plan ++ flat_map (session_lines s) s.sessions))
    (empty called) heads.next sessions.next heads.took after_head in
    let done = last s sessions.next g (sessions.format ∙ (plan.format ∙ (nodes.format ∙ heads.format))) sessions.stands
    (sessions.caches ∙ plan.caches)
    (sessions.nodes ∙ (plan.nodes ∙ (nodes.nodes ∙ ap (λ ms. ms ++ s.nodes) heads.nodes)))
    (sessions.plan ∙ (plan.plan ∙ ap (λ came. came ++ s.plan) (nodes.plan ∙ heads.plan)))
    (sessions.sessions ∙ ap (λ xs. xs ++ s.sessions) no_sessions) in
    ap scenario_of (text_is s) ∙ read_whole (all_lines s) sessions.next s (subst (λ bs. length bs ≤ 1048576) (text_is s) few)
    took done
