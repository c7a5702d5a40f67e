-- Each line keeps what is known of a draft.
use Rattle.std.proofs.Common.{◌≡◌, ℕ, ◌<◌, ◌≤◌, Bool, true, false, List, [], ◌∷◌, ◌++◌, length, refl, ap, sym, ◌∙◌, subst, arith, length-append, append-nil, append_assoc, inl, inr, lit≤}
use Rattle.std.specs.Prelude.{◌&&◌, ◌||◌, not, ◌==◌, nat_le, nat_lt, filter_map, flat_map, bytes_eq, Option, Some, None, Ok, if◌then◌else◌, ◌⊎◌}
use Rattle.std.specs.Option.{unwrap_or}
use Rattle.std.specs.List.{list_all}
use Rattle.std.proofs.lemmas.Bool.{cond_both, and_parts, and_from, not-true, ltb-true, leb-true, le-leb}
use Rattle.std.proofs.lemmas.List.Elements.{filter_map-append}
use Rattle.std.proofs.lemmas.Grind.{flat_map-append}
use Rattle.ignite_types.specs.Texts.{is_key_byte}
use Rattle.ignite_types.specs.Good.{good_cache, good_item, good_key, good_object, has_cache_line, has_member, is_name, is_plain, is_text, is_within, joining, object_of, same_member_node, same_session_name, starting}
use Rattle.ignite_types.specs.declared.names.NodeId.{NodeId}
use Rattle.ignite_types.specs.declared.text.Key.{Key}
use Rattle.ignite_types.specs.declared.scenario.Cache.{Cache}
use Rattle.ignite_types.specs.declared.scenario.Command.{Command}
use Rattle.ignite_types.specs.declared.scenario.Item.{Item}
use Rattle.ignite_types.specs.declared.scenario.Item.TheVariants as item
use Rattle.ignite_types.specs.declared.scenario.Member.{Member}
use Rattle.ignite_types.specs.declared.scenario.PlanStep.{PlanStep}
use Rattle.ignite_types.specs.declared.scenario.Session.{Session}
use Rattle.ignite_types.specs.declared.scenario.Step.{Step}
use Rattle.ignite_types.specs.declared.scenario.Step.TheVariants as step
use Rattle.scen_text.specs.declared.cause.Cause.TheVariants.{Syntax, Limit}
use Rattle.scen_text.specs.declared.cause.What.TheVariants as what
use Rattle.scen_text.specs.declared.draft.Draft.{Draft}
use Rattle.scen_text.specs.declared.limits.Kind.{Kind}
use Rattle.scen_text.specs.declared.line.CacheWords.{CacheWords}
use Rattle.scen_text.specs.declared.line.KeyWords.{KeyWords}
use Rattle.scen_text.specs.declared.line.Line.{Line}
use Rattle.scen_text.specs.declared.line.Line.TheVariants as line
use Rattle.scen_text.specs.declared.line.Setting.{Setting}
use Rattle.scen_text.specs.declared.line.Setting.TheVariants as setting
use Rattle.scen_text.specs.declared.line.Verb.{Verb}
use Rattle.scen_text.specs.declared.line.Verb.TheVariants as verb
use Rattle.scen_text.specs.declared.place.Place.{Place}
use Rattle.scen_text.specs.declared.place.Place.TheVariants as place
use Rattle.scen_text.specs.Drafts.{draft_after_line, draft_with_member, has_room, line_taken, no_session, nodes_named, total_with, verb_stands, with_bare, with_cache, with_end, with_head, with_item, with_join, with_keyed, with_links, with_object, with_session, with_setting, with_start, with_stop}
use Rattle.scen_text.specs.Known.{cache_place, has_cache, has_object, has_session, is_named, is_other, is_stopped, key_in_cache, known_cache, member_what, names_data_here, names_first, names_plain_here, place_named, place_of_key, rises}
use Rattle.scen_text.specs.Limits.{setting_fits, setting_what, default_cache, cache_of, nodes_fit, bare_fits, bare_what, kind_of, keyed}
use Rattle.scen_text.specs.Meaning.{line_meant}
use Rattle.scen_text.specs.Places.{in_script, is_outside, is_start_place, may_follow, place_after, place_of_setting, rank, stands_once}
use Rattle.scen_text.proofs.GoodCaches.{cache_of-good, stands_below, once_below, start_rank, no_plan, no_sessions, caches-setting, caches-head, Room, room, caches-pushed}
use Rattle.scen_text.proofs.GoodKept.{CachesOf, Placed, NodesOf, PlanOf, SessionsOf, ScriptOf, ObjectsOf, Kept, is_kind, stop_fits, steps_of, good_script, is_block, objects_in}
use Rattle.scen_text.proofs.GoodLines.{If, GoodName, GoodText, GoodObject, GoodValue, GoodVerb, GoodLine, is_bare, is_link, line_of-good}
use Rattle.scen_text.proofs.GoodLists.{pushed_all, pushed_distinct, may_precede}
use Rattle.scen_text.proofs.GoodPlans.{plan-pushed, plan-started, stop-can, none_at, cache_at}
use Rattle.scen_text.proofs.GoodScripts.{script_after, script_rank, script_started, open_now, script-pushed, bare-good, GoodFor, value_of, plain_kind, Made, made, objects-plain, objects-known, objects-new}
use Rattle.scen_text.proofs.Holds.{Holds, then_holds, ok_then, rule_then, fit_then}

-- places

-- at a later place nothing is known to be missing
late : (p : Place) (caches : List Cache) (plan : List PlanStep) (sessions : List Session) → 9 ≤ rank p →
    Placed p caches plan sessions
late p caches plan sessions h = record {
  lines = λ e. absurd (omega (arith, leb-true (rank p) 5 e));
  firsts = λ e. absurd (omega (arith, leb-true (rank p) 7 e));
  no_plan = λ e. absurd (omega (arith, leb-true (rank p) 7 e));
  no_session = λ e. absurd (omega (arith, leb-true (rank p) 8 e));
}

below : (n most : ℕ) → n ≤ most → nat_le n most ≡ true
below n most h = le-leb n most h

-- outside of a session, where the session that is read is none
outside : (p : Place) (named : List NodeId) (caches : List Cache) (sessions : List Session) (s : Session) →
    in_script p ≡ false → s.commands ≡ [] → ScriptOf p named caches sessions s
outside p named caches sessions s e none = record {
  good = λ t. absurd (cc (e, t));
  new = λ t. absurd (cc (e, t));
  few = λ t. absurd (cc (e, t));
  opened = λ t. absurd (cc (e, t));
  none = λ f. none;
}

rank_outside : (p : Place) → rank p ≤ 9 → in_script p ≡ false
rank_outside place.Script h = absurd (omega arith)
rank_outside place.Block h = absurd (omega arith)
rank_outside _ h = refl

-- the script of a draft at a line that is none of a session
no_commands : (d : Draft) → Kept d → rank d.place ≤ 9 → d.session.commands ≡ []
no_commands d h r = h.script.none (rank_outside d.place r)

-- the heads of texts

heads : (format : ℕ) (cache : Cache) (p : Cache → Bool) → p cache ≡ true → list_all p (if format == 1 then cache ∷ [] else [])
    ≡ true
heads format cache p h = cond_both (format == 1) (cache ∷ []) [] (λ cs. list_all p cs ≡ true)
    (λ e. and_from (p cache) true h refl) (λ e. refl)

unplanned : (named : List NodeId) (caches : List Cache) (plan : List PlanStep) → plan ≡ [] →
    list_all (λ c. c.first) caches ≡ true → PlanOf named caches plan
unplanned named caches plan e h = let P : List PlanStep → Type 0 = PlanOf named caches in
    subst P (sym e) (no_plan named caches h)

unsaid : (named : List NodeId) (caches : List Cache) (sessions : List Session) → sessions ≡ [] →
    SessionsOf named caches sessions
unsaid named caches sessions e = let P : List Session → Type 0 = SessionsOf named caches in
    subst P (sym e) (no_sessions named caches)

head-kept : (d : Draft) (format : ℕ) → Kept d → (format ≡ 1) ⊎ (format ≡ 2) → Holds Kept (with_head d format)
head-kept d format h g = rule_then Kept (is_start_place d.place) Syntax _ (λ s.
    let zero = start_rank d.place s in
    let plan : d.plan ≡ [] = h.placed.no_plan (below _ _ (omega arith)) in
    let sessions : d.sessions ≡ [] = h.placed.no_session (below _ _ (omega arith)) in
    let firsts = heads format (default_cache d.settings) (λ c. c.first) refl in
    record {
      unread = λ e. absurd (cc);
      caches = caches-head d format (h.unread s) g;
      placed = record {
        lines = λ e. heads format (default_cache d.settings) has_cache_line refl;
        firsts = λ e. firsts;
        no_plan = λ e. plan;
        no_session = λ e. sessions;
      };
      nodes = h.nodes;
      plan = unplanned d.named _ d.plan plan firsts;
      sessions = unsaid d.named _ d.sessions sessions;
      script = outside place.Head d.named _ d.sessions d.session refl (no_commands d h (omega arith));
      objects = h.objects;
    })

setting_place : (s : Setting) → (rank (place_of_setting s) ≤ 4) × (in_script (place_of_setting s) ≡ false)
    × (is_start_place (place_of_setting s) ≡ false)
setting_place setting.Parts = (lit≤ tt, refl, refl)
setting_place setting.Backups = (lit≤ tt, refl, refl)
setting_place setting.Near = (lit≤ tt, refl, refl)

setting-kept : (d : Draft) (s : Setting) (n : ℕ) → Kept d → (d.format == 2) ≡ false → Holds Kept (with_setting d s n)
setting-kept d s n h g = rule_then Kept (stands_once d.place (place_of_setting s)) Syntax _
    (λ st. rule_then Kept (setting_fits s n) (Limit (setting_what s)) _ (λ fits.
    let at = setting_place s in
    let low : rank d.place < rank (place_of_setting s) = once_below d.place (place_of_setting s) st in
    let most = at.0 in
    let plan : d.plan ≡ [] = h.placed.no_plan (below _ _ (omega arith)) in
    let sessions : d.sessions ≡ [] = h.placed.no_session (below _ _ (omega arith)) in
    record {
      unread = λ e. absurd (let f = at.2 in cc);
      caches = caches-setting d s n h.caches g fits;
      placed = record { lines = λ e. refl; firsts = λ e. refl; no_plan = λ e. plan; no_session = λ e. sessions };
      nodes = h.nodes;
      plan = unplanned d.named _ d.plan plan refl;
      sessions = unsaid d.named _ d.sessions sessions;
      script = outside (place_of_setting s) d.named _ d.sessions d.session at.1 (no_commands d h (omega arith));
      objects = h.objects;
    }))

-- caches

precede_line : (c : Cache) (xs : List Cache) → list_all has_cache_line xs ≡ true → list_all (λ y. may_precede y c) xs ≡ true
precede_line c [] h = refl
precede_line c (x ∷ xs) h =
    let parts = and_parts (has_cache_line x) (list_all has_cache_line xs) h in
    and_from (may_precede x c) (list_all (λ y. may_precede y c) xs) (rw parts.0 refl) (precede_line c xs parts.1)

precede_data : (c : Cache) (xs : List Cache) → c.«data» ≡ true → c.first ≡ true → list_all (λ y. y.first) xs ≡ true →
    list_all (λ y. may_precede y c) xs ≡ true
precede_data c [] d f h = refl
precede_data c (x ∷ xs) d f h =
    let parts = and_parts x.first (list_all (λ y. y.first) xs) h in
    and_from (may_precede x c) (list_all (λ y. may_precede y c) xs) (rw (parts.0, d, f) (either x.«data»))
    (precede_data c xs d f parts.1)
  where
    either : (b : Bool) → ((((true && not b) || ((true && b) && true)) || ((false && not b) && false)) ≡ true)
    either true = refl
    either false = refl

precede_started : (c : Cache) (xs : List Cache) → c.«data» ≡ false → c.first ≡ false → list_all is_kind xs ≡ true →
    list_all (λ y. may_precede y c) xs ≡ true
precede_started c [] d f h = refl
precede_started c (x ∷ xs) d f h =
    let parts = and_parts (is_kind x) (list_all is_kind xs) h in
    and_from (may_precede x c) (list_all (λ y. may_precede y c) xs) (rw (d, f) (either x.first x.«data» parts.0))
    (precede_started c xs d f parts.1)
  where
    either : (a b : Bool) → (a || not b) ≡ true → ((((a && not b) || ((a && b) && true)) || ((not a && not b) && true)) ≡ true)
    either true true e = refl
    either true false e = refl
    either false true e = cc
    either false false e = refl

line_kept : (d : Draft) (words : CacheWords) → Kept d → (d.format == 2) ≡ true → GoodName words.name →
    Holds Kept (with_cache d false words)
line_kept d words h f g = rule_then Kept (may_follow d.place place.Caches) Syntax _ (λ st.
    then_holds Kept (λ c. (good_cache c ≡ true) × (c.first ≡ true) × (c.«data» ≡ false))
    (cache_of what.Cache true false words) _ (cache_of-good what.Cache true false words g) (λ c k.
    then_holds Kept (Room d c.parts) (total_with d c.parts) _ (room d c.parts)
    (λ total r. rule_then Kept (not (has_cache d.caches c.name)) _ _ (λ new.
    let low : rank d.place ≤ 5 = stands_below d.place place.Caches st in
    let plan : d.plan ≡ [] = h.placed.no_plan (below _ _ (omega arith)) in
    let sessions : d.sessions ≡ [] = h.placed.no_session (below _ _ (omega arith)) in
    let lines = h.placed.lines (below _ _ low) in
    let firsts = pushed_all (λ c. c.first) d.caches c (h.placed.firsts (below _ _ (omega arith))) k.1 in
    record {
      unread = λ e. absurd (cc);
      caches = caches-pushed d c total h.caches f k.0 (rw k.1 refl) (precede_line c d.caches lines) r new;
      placed = record {
        lines = λ e. pushed_all has_cache_line d.caches c lines (rw (k.1, k.2) refl);
        firsts = λ e. firsts;
        no_plan = λ e. plan;
        no_session = λ e. sessions;
      };
      nodes = h.nodes;
      plan = unplanned d.named _ d.plan plan firsts;
      sessions = unsaid d.named _ d.sessions sessions;
      script = outside place.Caches d.named _ d.sessions d.session refl (no_commands d h (omega arith));
      objects = h.objects;
    }))))

data_kept : (d : Draft) (words : CacheWords) → Kept d → (d.format == 2) ≡ true → GoodName words.name →
    Holds Kept (with_cache d true words)
data_kept d words h f g = rule_then Kept (may_follow d.place place.Data) Syntax _ (λ st.
    then_holds Kept (λ c. (good_cache c ≡ true) × (c.first ≡ true) × (c.«data» ≡ true)) (cache_of what.Data true true words) _
    (cache_of-good what.Data true true words g) (λ c k.
    then_holds Kept (Room d c.parts) (total_with d c.parts) _ (room d c.parts)
    (λ total r. rule_then Kept (not (has_cache d.caches c.name)) _ _ (λ new.
    let low : rank d.place ≤ 6 = stands_below d.place place.Data st in
    let plan : d.plan ≡ [] = h.placed.no_plan (below _ _ (omega arith)) in
    let sessions : d.sessions ≡ [] = h.placed.no_session (below _ _ (omega arith)) in
    let before = h.placed.firsts (below _ _ (omega arith)) in
    let firsts = pushed_all (λ c. c.first) d.caches c before k.1 in
    record {
      unread = λ e. absurd (cc);
      caches = caches-pushed d c total h.caches f k.0 (rw k.1 refl) (precede_data c d.caches k.2 k.1 before) r new;
      placed = record { lines = λ e. absurd (cc); firsts = λ e. firsts; no_plan = λ e. plan; no_session = λ e. sessions };
      nodes = h.nodes;
      plan = unplanned d.named _ d.plan plan firsts;
      sessions = unsaid d.named _ d.sessions sessions;
      script = outside place.Data d.named _ d.sessions d.session refl (no_commands d h (omega arith));
      objects = h.objects;
    }))))

cache-kept : (d : Draft) (is_data : Bool) (words : CacheWords) → Kept d → (d.format == 2) ≡ true → GoodName words.name →
    Holds Kept (with_cache d is_data words)
cache-kept d false words h f g = line_kept d words h f g
cache-kept d true words h f g = data_kept d words h f g

-- nodes

member-kept : (d : Draft) (m : Member) → Kept d → Holds Kept (draft_with_member d m)
member-kept d m h = rule_then Kept (may_follow d.place place.Nodes) Syntax _ (λ st. rule_then Kept (is_within 1 99 m.node.0)
    (Limit (member_what m.server)) _ (λ within.
    rule_then Kept (nat_lt (length d.members) 16) (Limit what.Nodes) _
    (λ few. rule_then Kept (not (has_member d.members m.node)) _ _ (λ new.
    let low : rank d.place ≤ 7 = stands_below d.place place.Nodes st in
    let room : length d.members < 16 = ltb-true _ _ few in
    let plan : d.plan ≡ [] = h.placed.no_plan (below _ _ low) in
    let sessions : d.sessions ≡ [] = h.placed.no_session (below _ _ (omega arith)) in
    record {
      unread = λ e. absurd (cc);
      caches = h.caches;
      placed = record {
        lines = λ e. absurd (cc);
        firsts = λ e. h.placed.firsts (below _ _ low);
        no_plan = λ e. plan;
        no_session = λ e. sessions;
      };
      nodes = record {
        whole = in_lines d.nodes d.members d.plan m h.nodes.whole plan;
        within = pushed_all (λ member. is_within 1 99 member.node.0) d.members m h.nodes.within within;
        distinct = pushed_distinct same_member_node d.members m h.nodes.distinct (not-true _ new);
        few = omega (arith, length-append d.members (m ∷ []));
      };
      plan = h.plan;
      sessions = h.sessions;
      script = outside place.Nodes d.named _ d.sessions d.session refl (no_commands d h (omega arith));
      objects = h.objects;
    }))))
  where
    in_lines : (nodes members : List Member) (plan : List PlanStep) (m : Member) →
        members ≡ nodes ++ filter_map (λ p. joining p.step) plan → plan ≡ []
        → members ++ m ∷ [] ≡ (nodes ++ m ∷ []) ++ filter_map (λ p. joining p.step) plan
    in_lines nodes members plan m e none =
        let e2 : members ≡ nodes ++ filter_map (λ (p : PlanStep). joining p.step) [] = rw none at e in
        let e3 : members ≡ nodes = e2 ∙ append-nil nodes in
        rw (none, e3) (sym (append-nil (nodes ++ m ∷ [])))

-- the plan

members-same : (nodes members : List Member) (plan : List PlanStep) (moment : ℕ) (s : Step) → joining s ≡ None →
    NodesOf nodes members plan → NodesOf nodes members (plan ++ record { moment = moment; step = s } ∷ [])
members-same nodes members plan moment s none h =
    let x : PlanStep = record { moment = moment; step = s } in
    let same : filter_map (λ (p : PlanStep). joining p.step) (plan ++ x ∷ []) ≡ filter_map (λ (p : PlanStep). joining p.step)
    plan =
    filter_map-append (λ (p : PlanStep). joining p.step) plan (x ∷ [])
    ∙ (rw none (append-nil (filter_map (λ (p : PlanStep). joining p.step) plan))) in
    record { whole = rw same h.whole; within = h.within; distinct = h.distinct; few = h.few }

members-joined : (nodes members : List Member) (plan : List PlanStep) (moment : ℕ) (m : Member) → NodesOf nodes members plan →
    is_within 1 99 m.node.0 ≡ true → length members < 16
    → has_member members m.node ≡ false →
    NodesOf nodes (members ++ m ∷ []) (plan ++ record { moment = moment; step = step.Join m } ∷ [])
members-joined nodes members plan moment m h within room new =
    let x : PlanStep = record { moment = moment; step = step.Join m } in
    let more : filter_map (λ (p : PlanStep). joining p.step) (plan ++ x ∷ []) ≡ filter_map (λ (p : PlanStep). joining p.step)
    plan ++ m ∷ [] =
    filter_map-append (λ (p : PlanStep). joining p.step) plan (x ∷ []) in
    record {
      whole = rw more (ap (λ (ms : List Member). ms ++ m ∷ []) h.whole
          ∙ append_assoc nodes (filter_map (λ (p : PlanStep). joining p.step) plan) (m ∷ []));
      within = pushed_all (λ member. is_within 1 99 member.node.0) members m h.within within;
      distinct = pushed_distinct same_member_node members m h.distinct new;
      few = omega (arith, length-append members (m ∷ []));
    }

-- behind a step, in the plan
in_plan : (d : Draft) (caches : List Cache) (plan : List PlanStep) → Kept d → rank d.place ≤ 8 →
    Placed place.Plan caches plan d.sessions
in_plan d caches plan h low = record {
  lines = λ e. absurd (cc);
  firsts = λ e. absurd (cc);
  no_plan = λ e. absurd (cc);
  no_session = λ e. h.placed.no_session (below _ _ low);
}

join-kept : (d : Draft) (moment : ℕ) (m : Member) → Kept d → Holds Kept (with_join d moment m)
join-kept d moment m h = rule_then Kept (may_follow d.place place.Plan) Syntax _
    (λ st. rule_then Kept (is_within 1 1000000 moment) (Limit what.Moment) _ (λ at.
    rule_then Kept (is_within 1 99 m.node.0) (Limit what.Plan) _ (λ within. rule_then Kept (rises d.plan moment)
    (Limit what.Moment) _ (λ up.
    rule_then Kept (nat_lt (length d.members) 16) (Limit what.Nodes) _ (λ few. rule_then Kept (nat_lt (length d.plan) 64)
    (Limit what.Steps) _ (λ steps.
    rule_then Kept (not (has_member d.members m.node)) _ _ (λ new.
    let low : rank d.place ≤ 8 = stands_below d.place place.Plan st in
    record {
      unread = λ e. absurd (cc);
      caches = h.caches;
      placed = in_plan d _ _ h low;
      nodes = members-joined d.nodes d.members d.plan moment m h.nodes within (ltb-true _ _ few) (not-true _ new);
      plan = plan-pushed d.named d.caches d.plan moment (step.Join m) h.plan (ltb-true _ _ steps) at up refl refl refl;
      sessions = h.sessions;
      script = outside place.Plan d.named _ d.sessions d.session refl (no_commands d h (omega arith));
      objects = h.objects;
    })))))))

link_none : (s : Step) → is_link s ≡ true → (joining s ≡ None) × (starting s ≡ None)
link_none (step.Lose n) h = (refl, refl)
link_none (step.Hold m n) h = (refl, refl)
link_none (step.Release m n) h = (refl, refl)
link_none (step.Join m) h = cc
link_none (step.Start n) h = cc
link_none (step.Stop n) h = cc

link_fits : (caches : List Cache) (before : List Step) (s : Step) → is_link s ≡ true → stop_fits caches before s ≡ true
link_fits caches before (step.Lose n) h = refl
link_fits caches before (step.Hold m n) h = refl
link_fits caches before (step.Release m n) h = refl
link_fits caches before (step.Join m) h = cc
link_fits caches before (step.Start n) h = cc
link_fits caches before (step.Stop n) h = cc

links-kept : (d : Draft) (moment : ℕ) (s : Step) → Kept d → is_link s ≡ true → Holds Kept (with_links d moment s)
links-kept d moment s h g = rule_then Kept (may_follow d.place place.Plan) Syntax _
    (λ st. rule_then Kept (is_within 1 1000000 moment) (Limit what.Moment) _ (λ at.
    rule_then Kept (nodes_fit s) (Limit what.Plan) _ (λ within. rule_then Kept (rises d.plan moment) (Limit what.Moment) _
    (λ up.
    rule_then Kept (nat_lt (length d.plan) 64) (Limit what.Steps) _ (λ steps. rule_then Kept (nodes_named d.named s) _ _
    (λ there.
    let low : rank d.place ≤ 8 = stands_below d.place place.Plan st in
    let none = link_none s g in
    record {
      unread = λ e. absurd (cc);
      caches = h.caches;
      placed = in_plan d _ _ h low;
      nodes = members-same d.nodes d.members d.plan moment s none.0 h.nodes;
      plan = plan-pushed d.named d.caches d.plan moment s h.plan (ltb-true _ _ steps) at up there
          (link_fits d.caches (steps_of d.plan) s g) none.1;
      sessions = h.sessions;
      script = outside place.Plan d.named _ d.sessions d.session refl (no_commands d h (omega arith));
      objects = h.objects;
    }))))))

kinds_of : (d : Draft) → CachesOf d.format d.settings d.caches d.partitions → (d.format == 2) ≡ true →
    list_all is_kind d.caches ≡ true
kinds_of d (inl h) f = absurd (let e : (1 == 2) ≡ true = rw h.is at f in cc)
kinds_of d (inr (inl h)) f = absurd (let e : (1 == 2) ≡ true = rw h.is at f in cc)
kinds_of d (inr (inr h)) f = h.kinds

start-kept : (d : Draft) (moment : ℕ) (words : CacheWords) → Kept d → (d.format == 2) ≡ true → GoodName words.name →
    Holds Kept (with_start d moment words)
start-kept d moment words h f g = rule_then Kept (may_follow d.place place.Plan && not (names_data_here d.caches words.name))
    Syntax _ (λ stands_so. rule_then Kept (is_within 1 1000000 moment) (Limit what.Moment) _ (λ at.
    then_holds Kept (λ c. (good_cache c ≡ true) × (c.first ≡ false) × (c.«data» ≡ false))
    (cache_of what.Plan false false words) _ (cache_of-good what.Plan false false words g) (λ c k.
    rule_then Kept (rises d.plan moment) (Limit what.Moment) _ (λ up. rule_then Kept (nat_lt (length d.plan) 64)
    (Limit what.Steps) _ (λ steps.
    then_holds Kept (Room d c.parts) (total_with d c.parts) _ (room d c.parts)
    (λ total r. rule_then Kept (not (has_cache d.caches c.name)) _ _ (λ new.
    let low : rank d.place ≤ 8 =
    stands_below d.place place.Plan (and_parts (may_follow d.place place.Plan) (not (names_data_here d.caches words.name))
    stands_so).0 in
    let sessions : d.sessions ≡ [] = h.placed.no_session (below _ _ low) in
    record {
      unread = λ e. absurd (cc);
      caches = caches-pushed d c total h.caches f k.0 (rw (k.1, k.2) refl)
          (precede_started c d.caches k.2 k.1 (kinds_of d h.caches f)) r new;
      placed = in_plan d _ _ h low;
      nodes = members-same d.nodes d.members d.plan moment (step.Start (length d.caches)) refl h.nodes;
      plan = plan-started d.named d.caches c d.plan moment h.plan (ltb-true _ _ steps) at up k.1 k.2;
      sessions = unsaid d.named _ d.sessions sessions;
      script = outside place.Plan d.named _ d.sessions d.session refl (no_commands d h (omega arith));
      objects = h.objects;
    })))))))

known_is : (o : Option ℕ) (n : ℕ) → known_cache o ≡ Ok n → o ≡ Some n
known_is (Some m) n e = cc
known_is None n e = cc

stop-kept : (d : Draft) (moment : ℕ) (name : Option (List ℕ)) → Kept d → Holds Kept (with_stop d moment name)
stop-kept d moment name h = rule_then Kept (may_follow d.place place.Plan && not (names_data_here d.caches name)
    && not (names_first d.caches name)) Syntax _ (λ stands_so.
    rule_then Kept (is_within 1 1000000 moment) (Limit what.Moment) _ (λ at. fit_then Kept name what.Name _ (λ called is.
    rule_then Kept (rises d.plan moment) (Limit what.Moment) _ (λ up. rule_then Kept (nat_lt (length d.plan) 64)
    (Limit what.Steps) _ (λ steps.
    ok_then Kept (known_cache (place_named d.caches (Some called))) _
    (λ n found. rule_then Kept (not (is_stopped d.plan n)) _ _ (λ new.
    let outer = and_parts (may_follow d.place place.Plan && not (names_data_here d.caches name))
    (not (names_first d.caches name)) stands_so in
    let inner = and_parts (may_follow d.place place.Plan) (not (names_data_here d.caches name)) outer.0 in
    let low : rank d.place ≤ 8 = stands_below d.place place.Plan inner.0 in
    let plain : names_data_here d.caches (Some called) ≡ false = rw is at (not-true _ inner.1) in
    let later : names_first d.caches (Some called) ≡ false = rw is at (not-true _ outer.1) in
    record {
      unread = λ e. absurd (cc);
      caches = h.caches;
      placed = in_plan d _ _ h low;
      nodes = members-same d.nodes d.members d.plan moment (step.Stop n) refl h.nodes;
      plan = plan-pushed d.named d.caches d.plan moment (step.Stop n) h.plan (ltb-true _ _ steps) at up refl
          (stop-can d.named d.caches d.plan called n h.plan plain later (known_is _ n found) (not-true _ new)) refl;
      sessions = h.sessions;
      script = outside place.Plan d.named _ d.sessions d.session refl (no_commands d h (omega arith));
      objects = h.objects;
    })))))))

-- sessions

session-kept : (d : Draft) (name : Option (List ℕ)) (n : NodeId) → Kept d → GoodName name → Holds Kept (with_session d name n)
session-kept d name n h g = rule_then Kept (may_follow d.place place.Sessions) Syntax _
    (λ st. fit_then Kept name what.Name _ (λ called is.
    rule_then Kept (is_within 1 99 n.0) (Limit what.Session) _ (λ within. rule_then Kept (nat_lt (length d.sessions) 64)
    (Limit what.Sessions) _ (λ few.
    rule_then Kept (is_named d.named n) _ _ (λ there. rule_then Kept (not (has_session d.sessions called)) _ _ (λ new.
    let low : rank d.place ≤ 9 = stands_below d.place place.Sessions st in
    let named : is_name called ≡ true = rw is at g in
    let none = no_commands d h low in
    let now : Session = record { name = called; node = n; commands = [] } in
    let same : objects_in d.sessions now ≡ objects_in d.sessions d.session = emptied d.sessions d.session now none in
    record {
      unread = λ e. absurd (cc);
      caches = h.caches;
      placed = late place.Script _ _ _ (lit≤ tt);
      nodes = h.nodes;
      plan = h.plan;
      sessions = h.sessions;
      script = record {
        good = λ e. rw (named, there) refl;
        new = λ e. not-true _ new;
        few = λ e. omega (arith, ltb-true (length d.sessions) 64 few);
        opened = λ e. refl;
        none = λ e. refl;
      };
      objects = record { agree = rw same h.objects.agree; kept = rw same h.objects.kept };
    }))))))
  where
    emptied : (sessions : List Session) (s now : Session) → s.commands ≡ [] →
        objects_in sessions (record now { commands = [] }) ≡ objects_in sessions s
    emptied sessions s now e = rw e refl

-- a command in a session
item-kept : (d : Draft) (x : Item) (objects : List (Key × Kind)) → Kept d → in_script d.place ≡ true → has_room d ≡ true →
    good_item d.caches x ≡ true
    → (is_plain x || not (is_block d.place)) ≡ true →
    ObjectsOf objects d.sessions (record d.session { commands = d.session.commands ++ x ∷ [] })
    → Kept (with_item (record d { objects = objects }) x)
item-kept d x objects h inside room g p o =
    let after = script_after d.place x inside in
    let high = script_rank (place_after d.place x) after in
    let opened = h.script.opened inside in
    record {
      unread = λ e. absurd (let f = script_started (place_after d.place x) after in cc);
      caches = h.caches;
      placed = late (place_after d.place x) _ _ _ (omega arith);
      nodes = h.nodes;
      plan = h.plan;
      sessions = h.sessions;
      script = record {
        good = λ e. script-pushed d.named d.caches d.session x (h.script.good inside) (ltb-true _ _ room) g (rw opened p);
        new = λ e. h.script.new inside;
        few = λ e. h.script.few inside;
        opened = λ e. open_now d.place d.session.commands x opened;
        none = λ e. absurd (cc (e, after));
      };
      objects = o;
    }

bare-kept : (d : Draft) (c : Command) → Kept d → is_bare c ≡ true → Holds Kept (with_bare d c)
bare-kept d c h b = rule_then Kept (in_script d.place) Syntax _
    (λ inside. rule_then Kept (bare_fits c) (Limit (bare_what c)) _ (λ fits. rule_then Kept (has_room d) _ _ (λ room.
    item-kept d (item.Plain c) d.objects h inside room (bare-good d.caches c b fits) refl
    (objects-plain d.objects d.sessions d.session (item.Plain c) h.objects refl))))

end-kept : (d : Draft) → Kept d → Holds Kept (with_end d)
end-kept d h = rule_then Kept (in_script d.place) Syntax _ (λ inside.
    let same : objects_in (d.sessions ++ d.session ∷ []) no_session ≡ objects_in d.sessions d.session =
    ended d.sessions d.session in
    record {
      unread = λ e. absurd (cc);
      caches = h.caches;
      placed = late place.Sessions _ _ _ (lit≤ tt);
      nodes = h.nodes;
      plan = h.plan;
      sessions = record {
        few = omega (arith, length-append d.sessions (d.session ∷ []), h.script.few inside);
        each = pushed_all (good_script d.named d.caches) d.sessions d.session h.sessions.each (h.script.good inside);
        distinct = pushed_distinct same_session_name d.sessions d.session h.sessions.distinct (h.script.new inside);
      };
      script = outside place.Sessions d.named d.caches _ no_session refl refl;
      objects = record { agree = rw same h.objects.agree; kept = rw same h.objects.kept };
    })
  where
    ended : (sessions : List Session) (s : Session) → objects_in (sessions ++ s ∷ []) no_session ≡ objects_in sessions s
    ended sessions s =
        let commands : List Item = flat_map (λ (whole : Session). whole.commands) sessions in
        let all : flat_map (λ (whole : Session). whole.commands) (sessions ++ s ∷ []) ++ [] ≡ commands ++ s.commands =
        append-nil (flat_map (λ (whole : Session). whole.commands) (sessions ++ s ∷ []))
        ∙ flat_map-append (λ (whole : Session). whole.commands) sessions (s ∷ [])
        ∙ ap (λ (more : List Item). commands ++ more) (append-nil s.commands) in
        ap (filter_map object_of) all

-- a key of a plain cache
plain-key : (caches : List Cache) (name : List ℕ) (n : ℕ) (text : Key) → cache_place caches name ≡ Some n →
    names_data_here caches (Some name) ≡ false
    → is_text is_key_byte 32 text.text ≡ true → good_key caches (key_in_cache n text) ≡ true
plain-key caches name n text e plain t =
    let at = cache_at caches name n e in
    let ones = none_at (λ c. c.«data» && bytes_eq c.name name) caches n at.cache plain at.there in
    let there = at.there in
    let no_data : at.cache.«data» ≡ false = left_of at.cache.«data» (bytes_eq at.cache.name name) at.passes ones in
    rw (t, there, no_data) refl
  where
    left_of : (a b : Bool) → b ≡ true → (a && b) ≡ false → a ≡ false
    left_of false b t h = refl
    left_of true true t h = cc
    left_of true false t h = cc

-- an object of a data cache
data-key : (caches : List Cache) (name : List ℕ) (n : ℕ) (text : Key) → cache_place caches name ≡ Some n →
    names_plain_here caches (Some name) ≡ false
    → is_name text.text ≡ true → good_object caches (key_in_cache n text) ≡ true
data-key caches name n text e plain t =
    let at = cache_at caches name n e in
    let ones = none_at (λ c. not c.«data» && bytes_eq c.name name) caches n at.cache plain at.there in
    let there = at.there in
    let of_data : at.cache.«data» ≡ true = left_of at.cache.«data» (bytes_eq at.cache.name name) at.passes ones in
    rw (t, there, of_data) refl
  where
    left_of : (a b : Bool) → b ≡ true → (not a && b) ≡ false → a ≡ true
    left_of true b t h = refl
    left_of false true t h = cc
    left_of false false t h = cc

verb_value : (v : Verb) (k : KeyWords) → GoodVerb v k → GoodValue (value_of v)
verb_value verb.Get k h = tt
verb_value (verb.Put o) k h = h.1
verb_value verb.Remove k h = tt
verb_value (verb.Add n) k h = tt
verb_value (verb.Incr n) k h = tt
verb_value verb.Next k h = tt
verb_value (verb.Offer o) k h = h.1
verb_value verb.Poll k h = tt

-- what is known of the key of a command by its words
abbrev KeyFor : Option Kind → Option Key → Type 0
KeyFor None o = GoodText o
KeyFor (Some kd) o = GoodObject o

verb_key : (v : Verb) (k : KeyWords) → GoodVerb v k → KeyFor (kind_of v) k.key
verb_key verb.Get k h = h
verb_key (verb.Put o) k h = h.0
verb_key verb.Remove k h = h
verb_key (verb.Add n) k h = h
verb_key (verb.Incr n) k h = h
verb_key verb.Next k h = h
verb_key (verb.Offer o) k h = h.0
verb_key verb.Poll k h = h

outside_script : (p : Place) → is_outside p ≡ true → (in_script p ≡ true) × (is_block p ≡ false)
outside_script place.Script h = (refl, refl)
outside_script _ h = cc

-- a command with a key, of a cache that is there
record Stands (d : Draft) (kd : Option Kind) (n : ℕ) (text : Key) : Type 0 where
  inside : in_script d.place ≡ true
  good : GoodFor d.caches (key_in_cache n text) kd
  free : (plain_kind kd || not (is_block d.place)) ≡ true
  agreed : If (λ k. is_other d.objects (key_in_cache n text) k ≡ false) kd

stands-plain : (d : Draft) (name : List ℕ) (n : ℕ) (text : Key) → cache_place d.caches name ≡ Some n
    → (in_script d.place && not (names_data_here d.caches (Some name))) ≡ true → is_text is_key_byte 32 text.text ≡ true →
    Stands d None n text
stands-plain d name n text e s t =
    let parts = and_parts (in_script d.place) (not (names_data_here d.caches (Some name))) s in
    record { inside = parts.0; good = plain-key d.caches name n text e (not-true _ parts.1) t; free = refl; agreed = tt }

stands-data : (d : Draft) (name : List ℕ) (n : ℕ) (text : Key) (kd : Kind) → cache_place d.caches name ≡ Some n
    → (is_outside d.place && not (names_plain_here d.caches (Some name)) && not (is_other d.objects (key_in_cache n text) kd))
    ≡ true → is_name text.text ≡ true → Stands d (Some kd) n text
stands-data d name n text kd e s t =
    let outer = and_parts (is_outside d.place && not (names_plain_here d.caches (Some name)))
    (not (is_other d.objects (key_in_cache n text) kd)) s in
    let inner = and_parts (is_outside d.place) (not (names_plain_here d.caches (Some name))) outer.0 in
    let out = outside_script d.place inner.0 in
    let closed = out.1 in
    record {
      inside = out.0;
      good = data-key d.caches name n text e (not-true _ inner.1) t;
      free = rw closed refl;
      agreed =
          not-true _ outer.1;
    }

stands_of : (d : Draft) (kd : Option Kind) (key : KeyWords) (name : List ℕ) (n : ℕ) (text : Key) → key.cache ≡ Some name →
    key.key ≡ Some text → cache_place d.caches name ≡ Some n
    → verb_stands d kd (place_of_key d.caches key) key ≡ true → KeyFor kd key.key → Stands d kd n text
stands_of d None key name n text cache is e s t =
    stands-plain d name n text e (rw cache at s) (let g : GoodText (Some text) = rw is at t in g)
stands_of d (Some kd) key name n text cache is e s t =
    stands-data d name n text kd e (rw (cache, is, e) at s) (let g : GoodObject (Some text) = rw is at t in g)

pushed_key : (d : Draft) (kd : Option Kind) (n : ℕ) (text : Key) (x : Item) → Kept d → Stands d kd n text →
    Made d.caches (key_in_cache n text) kd x → has_room d ≡ true
    → Kept (with_item (with_object d (key_in_cache n text) kd) x)
pushed_key d None n text x h s m room =
    item-kept d x d.objects h s.inside room m.good (rw m.plain refl)
    (objects-plain d.objects d.sessions d.session x h.objects m.object)
pushed_key d (Some kd) n text x h s m room =
    let free : (is_plain x || not (is_block d.place)) ≡ true = rw m.plain s.free in
    cond_both (has_object d.objects (key_in_cache n text)) d
    (record d { objects = d.objects ++ (key_in_cache n text, kd) ∷ [] }) (λ e. Kept (with_item e x))
    (λ there. item-kept d x d.objects h s.inside room m.good free
    (objects-known d.objects d.sessions d.session x (key_in_cache n text) kd h.objects m.object s.agreed there))
    (λ new. item-kept d x (d.objects ++ (key_in_cache n text, kd) ∷ []) h s.inside room m.good free
    (objects-new d.objects d.sessions d.session x (key_in_cache n text) kd h.objects m.object s.agreed))

keyed-kept : (d : Draft) (v : Verb) (key : KeyWords) → Kept d → GoodVerb v key → Holds Kept (with_keyed d v key)
keyed-kept d v key h g = rule_then Kept (verb_stands d (kind_of v) (place_of_key d.caches key) key) Syntax _ (λ st.
    fit_then Kept key.cache what.Name _ (λ name cache. fit_then Kept key.key what.Key _ (λ text is.
    ok_then Kept (keyed v (key_in_cache (unwrap_or (place_of_key d.caches key) 0) text)) _
    (λ x e. rule_then Kept (has_room d) _ _ (λ room.
    ok_then Kept (known_cache (place_of_key d.caches key)) _ (λ n found.
    let there : place_of_key d.caches key ≡ Some n = known_is _ n found in
    let place : cache_place d.caches name ≡ Some n = rw cache at there in
    let made_so : keyed v (key_in_cache n text) ≡ Ok x = rw there at e in
    let stands_so = stands_of d (kind_of v) key name n text cache is place st (verb_key v key g) in
    rw there (pushed_key d (kind_of v) n text x h stands_so
    (made d.caches v (key_in_cache n text) x (verb_value v key g) stands_so.good made_so) room)))))))

-- every line

stepped-kept : (d : Draft) (l : Line) → Kept d → GoodLine d.format l → Holds Kept (draft_after_line d l)
stepped-kept d line.Blank h g = h
stepped-kept d (line.Head format) h g = head-kept d format h g
stepped-kept d (line.Setting s n) h g = setting-kept d s n h g
stepped-kept d (line.Cache is_data words) h g = cache-kept d is_data words h g.0 g.1
stepped-kept d (line.Member m) h g = member-kept d m h
stepped-kept d (line.Join moment m) h g = join-kept d moment m h
stepped-kept d (line.Links moment s) h g = links-kept d moment s h g
stepped-kept d (line.Start moment words) h g = start-kept d moment words h g.0 g.1
stepped-kept d (line.Stop moment name) h g = stop-kept d moment name h
stepped-kept d (line.Session name n) h g = session-kept d name n h g
stepped-kept d (line.Bare c) h g = bare-kept d c h g
stepped-kept d (line.Keyed v key) h g = keyed-kept d v key h g
stepped-kept d line.End h g = end-kept d h

pub line-kept : (d : Draft) (bytes : List ℕ) → Kept d → Holds Kept (line_taken d bytes)
line-kept d bytes h = then_holds Kept (GoodLine d.format) (line_meant d.format bytes) _ (line_of-good d.format bytes)
    (λ l g. stepped-kept d l h g)
