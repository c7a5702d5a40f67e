-- What is read is a good scenario.
use Rattle.std.proofs.Common.{◌≡◌, ℕ, ◌+◌, Bool, true, false, List, [], ◌∷◌, ◌++◌, length, refl, sym, subst, arith, append-nil, inl, inr, lit≤, zero-add}
use Rattle.std.specs.Prelude.{◌&&◌, ◌||◌, ◌==◌, nat_le, filter_map, flat_map, sum_by, Option, Some, None, Result, Ok, Err, IfOk, IsTrue}
use Rattle.std.specs.Option.{unwrap_or}
use Rattle.std.specs.List.{list_all}
use Rattle.std.proofs.lemmas.Bool.{cond_both, and_parts, and_from, or_left, or_right, eq-eqb, le-leb}
use Rattle.std.proofs.lemmas.List.Folds.{list_any-append}
use Rattle.ignite_types.specs.Good.{good, good_blocks, good_caches, good_format, good_item, good_kinds, good_nodes, good_plan, good_session, good_sessions, good_starts, good_step, good_steps, has_member, is_name, members, object_of}
use Rattle.ignite_types.specs.declared.names.NodeId.{NodeId}
use Rattle.ignite_types.specs.declared.text.Key.{Key}
use Rattle.ignite_types.specs.declared.scenario.Cache.{Cache}
use Rattle.ignite_types.specs.declared.scenario.Member.{Member}
use Rattle.ignite_types.specs.declared.scenario.PlanStep.{PlanStep}
use Rattle.ignite_types.specs.declared.scenario.Scenario.{Scenario}
use Rattle.ignite_types.specs.declared.scenario.Session.{Session}
use Rattle.ignite_types.specs.declared.scenario.Step.{Step}
use Rattle.ignite_types.specs.declared.scenario.Step.TheVariants as step
use Rattle.scen_text.specs.declared.cause.Cause.{Cause}
use Rattle.scen_text.specs.declared.cause.Cause.TheVariants.{Missing, Syntax}
use Rattle.scen_text.specs.declared.cause.What.TheVariants as what
use Rattle.scen_text.specs.declared.draft.Draft.{Draft}
use Rattle.scen_text.specs.declared.cause.ReadFault.{ReadFault}
use Rattle.scen_text.specs.declared.cause.ReadFault.TheVariants as read
use Rattle.scen_text.specs.declared.limits.Kind.{Kind}
use Rattle.scen_text.specs.declared.line.KeyWords.{KeyWords}
use Rattle.scen_text.specs.declared.line.Verb.{Verb}
use Rattle.scen_text.specs.declared.line.Line.{Line}
use Rattle.scen_text.specs.declared.line.Line.TheVariants as line
use Rattle.scen_text.specs.declared.place.Place.{Place}
use Rattle.scen_text.specs.declared.place.Place.TheVariants as place
use Rattle.scen_text.specs.Causes.{◌>>=◌, Refusal, Reads, fit}
use Rattle.scen_text.specs.Drafts.{draft_after_line, empty, finished, has_room, is_whole_draft, line_taken, nodes_named, verb_stands, with_keyed, with_object}
use Rattle.scen_text.specs.Known.{has_line, has_object, has_server, is_named, key_in_cache, known_cache, place_of_key}
use Rattle.scen_text.specs.Limits.{default_settings, kind_of, keyed}
use Rattle.scen_text.specs.Meaning.{line_meant}
use Rattle.scen_text.specs.Places as places
use Rattle.scen_text.specs.Places.{in_script}
use Rattle.scen_text.specs.Reading.{named_by, named_in, at_line, and_then, read_lines, read_text}
use Rattle.scen_text.proofs.GoodCaches.{no_plan, no_sessions}
use Rattle.scen_text.proofs.GoodDrafts.{line-kept}
use Rattle.scen_text.proofs.GoodKept.{NoCaches, CachesOf, Kept, good_script, stop_fits, stops_fit, objects_in}
use Rattle.scen_text.proofs.Holds.{Holds, any_then, rule_then}
use Rattle.scen_text.proofs.NamedLines.{same_names}

-- the whole draft

caches-good : (d : Draft) → CachesOf d.format d.settings d.caches d.partitions → has_line d.caches ≡ true →
    (good_format d.format d.caches && good_caches d.caches) ≡ true
caches-good d (inl h) l = absurd (let none = h.none in let e : false ≡ true = rw none at l in cc)
caches-good d (inr (inl h)) l =
    let one = h.one in
    let first = h.is in
    let parts = h.fit.parts in
    let backups = h.fit.backups in
    let near = h.fit.near in
    let few : nat_le d.settings.parts 1024 ≡ true =
    (and_parts (nat_le 1 d.settings.parts) (nat_le d.settings.parts 1024) parts).1 in
    rw (one, first, parts, backups, near) (rw (zero-add d.settings.parts, few) refl)
caches-good d (inr (inr h)) l =
    let two = h.is in
    let each = h.each in
    let order = h.order in
    let distinct = h.distinct in
    let few : nat_le (length d.caches) 8 ≡ true = le-leb _ _ h.few in
    let sum : nat_le (sum_by (λ cache. cache.parts) d.caches) 1024 ≡ true = le-leb _ _ (omega (arith, h.sum, h.most)) in
    rw (two, each, order, l, distinct, few, sum) refl

steps-good : (named : List NodeId) (caches : List Cache) (all : List Member) (before : List Step) (plan : List PlanStep)
    → ((n : NodeId) → is_named named n ≡ true → has_member all n ≡ true) → stops_fit caches before plan ≡ true →
    list_all (λ p. nodes_named named p.step) plan ≡ true → good_steps caches all before plan ≡ true
steps-good named caches all before [] f s n = refl
steps-good named caches all before (p ∷ plan) f s n =
    let now = and_parts (stop_fits caches before p.step) (stops_fit caches (before ++ p.step ∷ []) plan) s in
    let nodes = and_parts (nodes_named named p.step) (list_all (λ q. nodes_named named q.step) plan) n in
    and_from (good_step caches all before p.step) (good_steps caches all (before ++ p.step ∷ []) plan)
    (one p.step now.0 nodes.0)
    (steps-good named caches all (before ++ p.step ∷ []) plan f now.1 nodes.1)
  where
    one : (x : Step) → stop_fits caches before x ≡ true → nodes_named named x ≡ true → good_step caches all before x ≡ true
    one (step.Join m) s n = refl
    one (step.Lose m) s n = f m n
    one (step.Hold a b) s n = let both = and_parts (is_named named a) (is_named named b) n in
        and_from (has_member all a) (has_member all b) (f a both.0) (f b both.1)
    one (step.Release a b) s n = let both = and_parts (is_named named a) (is_named named b) n in
        and_from (has_member all a) (has_member all b) (f a both.0) (f b both.1)
    one (step.Start c) s n = refl
    one (step.Stop c) s n = s

session-good : (named : List NodeId) (caches : List Cache) (all : List Member) (s : Session) →
    ((n : NodeId) → is_named named n ≡ true → has_member all n ≡ true)
    → good_script named caches s ≡ true → good_session caches all s ≡ true
session-good named caches all s f h =
    let a = and_parts (is_name s.name && is_named named s.node && nat_le (length s.commands) 1000
    && list_all (good_item caches) s.commands) (good_blocks false s.commands) h in
    let b = and_parts (is_name s.name && is_named named s.node && nat_le (length s.commands) 1000)
    (list_all (good_item caches) s.commands) a.0 in
    let c = and_parts (is_name s.name && is_named named s.node) (nat_le (length s.commands) 1000) b.0 in
    let e = and_parts (is_name s.name) (is_named named s.node) c.0 in
    let there = f s.node e.1 in
    rw (e.0, there, c.1, b.1, a.1) refl

all-good : (named : List NodeId) (caches : List Cache) (all : List Member) (sessions : List Session) →
    ((n : NodeId) → is_named named n ≡ true → has_member all n ≡ true)
    → list_all (good_script named caches) sessions ≡ true → list_all (good_session caches all) sessions ≡ true
all-good named caches all [] f h = refl
all-good named caches all (s ∷ sessions) f h =
    let parts = and_parts (good_script named caches s) (list_all (good_script named caches) sessions) h in
    and_from (good_session caches all s) (list_all (good_session caches all) sessions)
    (session-good named caches all s f parts.0) (all-good named caches all sessions f parts.1)

whole_place : (p : Place) → places.is_outside_session p ≡ true → in_script p ≡ false
whole_place place.Script h = cc
whole_place place.Block h = cc
whole_place _ h = refl

abbrev scenario : Draft → Scenario
scenario d = record { format = d.format; caches = d.caches; nodes = d.nodes; plan = d.plan; sessions = d.sessions }

last_objects : (sessions : List Session) (s : Session) → s.commands ≡ [] → good_kinds (objects_in sessions s) ≡ true
    → good_kinds (filter_map object_of (flat_map (λ session. session.commands) sessions)) ≡ true
last_objects sessions s none h =
    let all : flat_map (λ (session : Session). session.commands) sessions ++ [] ≡ flat_map (λ (session : Session).
    session.commands) sessions =
    append-nil (flat_map (λ (session : Session). session.commands) sessions) in
    rw all at (rw none at h)

whole-good : (d : Draft) → Kept d → is_whole_draft d ≡ true →
    ((n : NodeId) → is_named d.named n ≡ true → has_member d.members n ≡ true) → good (scenario d) ≡ true
whole-good d h w f =
    let outer = and_parts (places.is_outside_session d.place && has_server d.nodes) (has_line d.caches) w in
    let inner = and_parts (places.is_outside_session d.place) (has_server d.nodes) outer.0 in
    let caches = caches-good d h.caches outer.1 in
    let whole : members (scenario d) ≡ d.members = sym h.nodes.whole in
    let fits : (n : NodeId) → is_named d.named n ≡ true → has_member (members (scenario d)) n ≡ true =
    λ n e. rw whole (f n e) in
    let few_nodes : nat_le (length d.members) 16 ≡ true = le-leb _ _ h.nodes.few in
    let nodes : good_nodes (scenario d) ≡ true = rw whole (rw (h.nodes.within, h.nodes.distinct, few_nodes, inner.1) refl) in
    let few_steps : nat_le (length d.plan) 64 ≡ true = le-leb _ _ h.plan.few in
    let steps = steps-good d.named d.caches (members (scenario d)) [] d.plan fits h.plan.stops h.plan.nodes in
    let plan : good_plan (scenario d) ≡ true =
    and_from _ (good_starts d.caches _)
    (and_from _ (good_steps d.caches (members (scenario d)) [] d.plan) (rw (few_steps, h.plan.moments, h.plan.rising) refl)
    steps)
    (and_from _ _ h.plan.numbers (eq-eqb _ _ h.plan.counted)) in
    let few_sessions : nat_le (length d.sessions) 64 ≡ true = le-leb _ _ h.sessions.few in
    let none = h.script.none (whole_place d.place inner.0) in
    let sessions = all-good d.named d.caches (members (scenario d)) d.sessions fits h.sessions.each in
    let kinds = last_objects d.sessions d.session none h.objects.agree in
    let said : good_sessions (scenario d) ≡ true =
    and_from _ _ (and_from _ _ (and_from _ (list_all (good_session d.caches (members (scenario d))) d.sessions) few_sessions
    sessions) h.sessions.distinct) kinds in
    and_from _ (good_sessions (scenario d))
    (and_from _ (good_plan (scenario d)) (and_from _ (good_nodes (scenario d)) caches nodes) plan) said

-- the nodes that a text names

-- a line adds the node that it names, and drops none
pub record Adds (d : Draft) (added : List NodeId) (e : Draft) : Type 0 where
  pub same : e.named ≡ d.named
  pub old : (n : NodeId) → has_member d.members n ≡ true → has_member e.members n ≡ true
  pub new : (n : NodeId) → is_named added n ≡ true → has_member e.members n ≡ true

unchanged : (d e : Draft) → e.named ≡ d.named → e.members ≡ d.members → Adds d [] e
unchanged d e named members = record { same = named; old = λ n h. rw members h; new = λ n h. cc }

pushed : (d e : Draft) (m : Member) → e.named ≡ d.named → e.members ≡ d.members ++ m ∷ [] → Adds d (m.node ∷ []) e
pushed d e m named members = record {
  same = named;
  old = λ n h. rw (members, list_any-append (λ member. member.node.0 == n.0) d.members (m ∷ []))
      (or_left (has_member d.members n) _ h);
  new = λ n h. rw (members, list_any-append (λ member. member.node.0 == n.0) d.members (m ∷ []))
      (or_right (has_member d.members n) _ h);
}

object_adds : (d : Draft) (key : Key) (kind : Option Kind) → ((with_object d key kind).named ≡ d.named)
    × ((with_object d key kind).members ≡ d.members)
object_adds d key None = (refl, refl)
object_adds d key (Some kind) =
    cond_both (has_object d.objects key) d (record d { objects = d.objects ++ (key, kind) ∷ [] }) (λ e. (e.named ≡ d.named)
    × (e.members ≡ d.members)) (λ e. (refl, refl)) (λ e. (refl, refl))

keyed_adds : (d : Draft) (v : Verb) (key : KeyWords) → Holds (Adds d []) (with_keyed d v key)
keyed_adds d v key = rule_then (Adds d []) (verb_stands d (kind_of v) (place_of_key d.caches key) key) Syntax _ (λ st.
    any_then (Adds d []) (fit key.cache what.Name) _ (λ name. any_then (Adds d []) (fit key.key what.Key) _ (λ text.
    any_then (Adds d []) (keyed v (key_in_cache (unwrap_or (place_of_key d.caches key) 0) text)) _
    (λ x. rule_then (Adds d []) (has_room d) _ _ (λ room.
    any_then (Adds d []) (known_cache (place_of_key d.caches key)) _ (λ n.
    let same = object_adds d (key_in_cache (unwrap_or (place_of_key d.caches key) 0) text) (kind_of v) in
    unchanged d _ same.0 same.1))))))

step_adds : (d : Draft) (l : Line) → Holds (Adds d (named_by (Ok l))) (draft_after_line d l)
step_adds d line.Blank = unchanged d d refl refl
step_adds d (line.Head format) = search (rule_then, unchanged) depth 10
step_adds d (line.Setting s n) = search (rule_then, unchanged) depth 10
step_adds d (line.Cache is_data words) = search (
  rule_then,
  any_then {A = Cache} {B = Draft},
  any_then {A = ℕ} {B = Draft},
  unchanged,
) depth 14
step_adds d (line.Member m) = search (rule_then, pushed) depth 14
step_adds d (line.Join moment m) = search (rule_then, pushed) depth 18
step_adds d (line.Links moment s) = search (rule_then, unchanged) depth 16
step_adds d (line.Start moment words) = search (
  rule_then,
  any_then {A = Cache} {B = Draft},
  any_then {A = ℕ} {B = Draft},
  unchanged,
) depth 18
step_adds d (line.Stop moment name) = search (
  rule_then,
  any_then {A = List ℕ} {B = Draft},
  any_then {A = ℕ} {B = Draft},
  unchanged,
) depth 18
step_adds d (line.Session name n) = search (rule_then, any_then {A = List ℕ} {B = Draft}, unchanged) depth 16
step_adds d (line.Bare c) = search (rule_then, unchanged) depth 12
step_adds d (line.Keyed v key) = keyed_adds d v key
step_adds d line.End = search (rule_then, unchanged) depth 8

taken_adds : (d : Draft) (r : Result Line Cause) → Holds (Adds d (named_by r)) (r >>= λ l. draft_after_line d l)
taken_adds d (Ok l) = step_adds d l
taken_adds d (Err e) = tt

line_adds : (d : Draft) (bytes : List ℕ) → Holds (Adds d (named_by (line_meant 1 bytes))) (line_taken d bytes)
line_adds d bytes = rw (same_names 1 d.format bytes) (taken_adds d (line_meant d.format bytes))

-- the whole text

-- each node that some line names was added, or is named by a line that is left
abbrev pub Met : Draft → List (List ℕ) → Type 0
Met d text = (n : NodeId) → is_named d.named n ≡ true → (has_member d.members n || is_named (named_in text) n) ≡ true

or_elim : {C : Type 0} (a b : Bool) → (a || b) ≡ true → (a ≡ true → C) → (b ≡ true → C) → C
or_elim true b h f g = f refl
or_elim false b h f g = g h

named-append : (xs ys : List NodeId) (n : NodeId) → is_named (xs ++ ys) n ≡ (is_named xs n || is_named ys n)
named-append xs ys n = list_any-append (λ known_cache. known_cache.0 == n.0) xs ys

met_next : (d e : Draft) (bytes : List ℕ) (rest : List (List ℕ)) → Adds d (named_by (line_meant 1 bytes)) e →
    Met d (bytes ∷ rest) → Met e rest
met_next d e bytes rest a m n h =
    let before : is_named d.named n ≡ true = (let same = a.same in rw same at h) in
    or_elim (has_member d.members n) (is_named (named_by (line_meant 1 bytes) ++ named_in rest) n) (m n before)
    (λ old. or_left (has_member e.members n) _ (a.old n old))
    (λ named. or_elim (is_named (named_by (line_meant 1 bytes)) n) (is_named (named_in rest) n)
    (rw (named-append (named_by (line_meant 1 bytes)) (named_in rest) n) at named)
    (λ here. or_left (has_member e.members n) _ (a.new n here))
    (λ later. or_right (has_member e.members n) (is_named (named_in rest) n) later))

abbrev Good : Scenario → Type 0
Good s = good s ≡ true

finished-good : (n : ℕ) (d : Draft) → Kept d → Met d [] → Holds Good (at_line n (finished d))
finished-good n d h m = pass (finished d)
    (rule_then Good (is_whole_draft d) Missing _ (λ w. whole-good d h w (λ node e. no_more (m node e))))
  where
    pass : (r : Result Scenario Cause) → Holds Good r → Holds Good (at_line n r)
    pass (Ok s) g = g
    pass (Err cause) g = tt

    no_more : {b : Bool} → (b || false) ≡ true → b ≡ true
    no_more {b} e = or_elim b false e (λ x. x) (λ x. cc)

lines-good : (n : ℕ) (d : Draft) (text : List (List ℕ)) → Kept d → Met d text → Holds Good (read_lines n d text)
lines-good n d [] h m = finished-good n d h m
lines-good n d (bytes ∷ rest) h m = next (line_taken d bytes) (line-kept d bytes h) (line_adds d bytes)
    (λ e k f. lines-good (n + 1) e rest k f)
  where
    next : (r : Result Draft Cause) → Holds Kept r → Holds (Adds d (named_by (line_meant 1 bytes))) r
        → ((e : Draft) → Kept e → Met e rest → Holds Good (read_lines (n + 1) e rest)) →
        Holds Good (and_then (at_line n r) (λ e. read_lines (n + 1) e rest))
    next (Ok e) k a go = go e k (met_next d e bytes rest a m)
    next (Err cause) k a go = tt

first-kept : (named : List NodeId) → Kept (empty named)
first-kept named = record {
  unread = λ e. none;
  caches = inl none;
  placed = record { lines = λ e. refl; firsts = λ e. refl; no_plan = λ e. refl; no_session = λ e. refl };
  nodes = record { whole = refl; within = refl; distinct = refl; few = lit≤ tt };
  plan = no_plan named [] refl;
  sessions = no_sessions named [];
  script = record {
    good = λ e. absurd (cc);
    new = λ e. absurd (cc);
    few = λ e. absurd (cc);
    opened = λ e. absurd (cc);
    none =
        λ e. refl;
  };
  objects = record { agree = refl; kept = refl };
}
  where
    none : NoCaches 1 default_settings [] 0
    none = record { is = refl; fit = record { parts = refl; backups = refl; near = refl }; none = refl; zero = refl }

pub text-good : (text : List (List ℕ)) (s : Scenario) → read_text text ≡ Ok s → good s ≡ true
text-good text s e =
    let P : Result Scenario Refusal → Type 0 = Holds Good in
    subst P e (lines-good 1 (empty (named_in text)) text (first-kept (named_in text)) (λ n h. h))

pub reads-good : (text : List (List ℕ)) (r : Result Scenario ReadFault) → Reads r (read_text text) →
    IfOk r (λ s. IsTrue (good s))
reads-good text (Ok s) h = text-good text s h
reads-good text (Err (read.Refused line cause)) h = tt
reads-good text (Err read.NoMemory) h = tt
