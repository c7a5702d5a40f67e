-- What a good scenario's plan says of the topology events of a run: who joins is declared, with one flag a number, and cache
-- 0 is
-- never stopped.
use Rattle.std.proofs.Common.{◌≡◌, ◌++◌, ◌&&◌, ◌||◌, ℕ, List, [], ◌∷◌, Option, Some, None, Bool, true, false, not, nat_eq, refl, ap, sym, subst, ◌∙◌, zero, suc, arith, IsTrue}
use Rattle.std.specs.List.{flat_map, list_all, list_any}
use Rattle.std.specs.Prelude.{filter_map, slice_get, take}
use Rattle.std.proofs.lemmas.Bool.Decides.{nat_tests}
use Rattle.std.proofs.lemmas.List.Folds.{list_any-append}
use Rattle.ignite_types.proofs.NameLaws.{same_node_itself}
use Rattle.ignite_types.specs.Good.{are_distinct, can_stop, good, good_caches, good_format, good_nodes, good_plan, good_sessions, good_starts, good_step, good_steps, is_within, joining, members, no_moment_falls, same_member_node, starting}
use Rattle.ignite_types.specs.Names.{same_node}
use Rattle.ignite_types.specs.declared.limits.TheConstants.{MOMENTS, STEPS}
use Rattle.ignite_types.specs.declared.journal.Event.{Event}
use Rattle.ignite_types.specs.declared.journal.Group.{Group}
use Rattle.ignite_types.specs.declared.journal.Rec.{Rec}
use Rattle.ignite_types.specs.declared.journal.TopoEvent.{TopoEvent}
use Rattle.ignite_types.specs.declared.names.NodeId.{NodeId}
use Rattle.ignite_types.specs.declared.scenario.Member.{Member}
use Rattle.ignite_types.specs.declared.scenario.PlanStep.{PlanStep}
use Rattle.ignite_types.specs.declared.scenario.Scenario.{Scenario}
use Rattle.ignite_types.specs.declared.scenario.Step.{Step}
use Rattle.journal_statements.specs.Topologies.{Topology, event_of_planned, event_of_step, events_in_rec, events_of, last_topology, topology_after, topology_events}
use Rattle.link_laws.proofs.Joiners.{map_none, map_some}
use Rattle.link_laws.proofs.Joiners.{not_true}
use Rattle.link_laws.proofs.Journals.{first_rest}
use Rattle.link_laws.proofs.Runs.{nodes_apart}
use Rattle.part_model.specs.NextMap.{is_member}
use Rattle.scenes.proofs.DirectoryEvents.{planned_member}
use Rattle.std.specs.Prelude.{nat_le, length}
use Rattle.topology_laws.proofs.Lists.{each_both, each_filter}
use Rattle.topology_laws.proofs.Records.{or_first, or_second}
use Rattle.topology_laws.specs.TopologyFacts.{HoldsOfEach}
use Rattle.tx_model.specs.Opening.{declared_nodes, joiner_of}
use Rattle.ignite_types.specs.declared.journal.Event.TheVariants as event
use Rattle.ignite_types.specs.declared.journal.NoLoss.{NoLoss}
use Rattle.ignite_types.specs.declared.journal.Rec.TheVariants as note
use Rattle.ignite_types.specs.declared.journal.TopoEvent.TheVariants as topo
use Rattle.ignite_types.specs.declared.scenario.Step.TheVariants as step

-- a node is declared as a server
abbrev pub is_server_of : List Member → NodeId → Bool
is_server_of all x = list_any (λ (m : Member). m.server && same_node x m.node) all

abbrev pub IsDeclared : Scenario → Member → Type 0
IsDeclared s m = (m.server ≡ is_server_of (members s) m.node) × (is_member (declared_nodes s) m.node ≡ true)

abbrev pub EventFits : Scenario → TopoEvent → Type 0
EventFits s (topo.Join m) = IsDeclared s m
EventFits s (topo.Stop cache) = nat_eq 0 cache ≡ false
EventFits s _ = Unit {0}

-- Lists.

pub each_get : {A : Type 0} (P : A → Type 0) (xs : List A) (k : ℕ) (x : A) → slice_get xs k ≡ Some x → HoldsOfEach P xs → P x
each_get P [] k x is all = absurd (cc (is))
each_get P (y ∷ ys) zero x is all = let same : y ≡ x = cc (is) in subst P same all.0
each_get P (y ∷ ys) (suc k) x is all = each_get P ys k x is all.1

each_left : {A : Type 0} (P : A → Type 0) (xs ys : List A) → HoldsOfEach P (xs ++ ys) → HoldsOfEach P xs
each_left P [] ys all = tt
each_left P (x ∷ xs) ys all = (all.0, each_left P xs ys all.1)

each_right : {A : Type 0} (P : A → Type 0) (xs ys : List A) → HoldsOfEach P (xs ++ ys) → HoldsOfEach P ys
each_right P [] ys all = all
each_right P (x ∷ xs) ys all = each_right P xs ys all.1

pub each_flat : {A B : Type 0} (P : B → Type 0) (f : A → List B) (xs : List A) → ((x : A) → HoldsOfEach P (f x)) →
    HoldsOfEach P (flat_map f xs)
each_flat P f [] all = tt
each_flat P f (x ∷ xs) all = each_both P (f x) (flat_map f xs) (all x) (each_flat P f xs all)

pub each_taken : {A : Type 0} (P : A → Type 0) (k : ℕ) (xs : List A) → HoldsOfEach P xs → HoldsOfEach P (take k xs)
each_taken P zero xs all = tt
each_taken P (suc k) [] all = tt
each_taken P (suc k) (x ∷ xs) all = (all.0, each_taken P k xs all.1)

none_any : {A : Type 0} (p : A → Bool) (xs : List A) → list_any p xs ≡ false → HoldsOfEach (λ x. p x ≡ false) xs
none_any p [] none = tt
none_any p (x ∷ xs) none = by (λ e. none_any p xs e) (p x) refl none
  where
    by : (list_any p xs ≡ false → HoldsOfEach (λ y. p y ≡ false) xs) → (c : Bool) → p x ≡ c → (c || list_any p xs) ≡ false →
        (p x ≡ false) × HoldsOfEach (λ y. p y ≡ false) xs
    by later true is e = absurd (cc (e))
    by later false is e = (is, later e)

-- One flag a number.

abbrev FlagIn : List Member → Member → Type 0
FlagIn all m = m.server ≡ is_server_of all m.node

or_false : (b : Bool) → (b || false) ≡ b
or_false true = refl
or_false false = refl

no_server : (xs : List Member) (x : NodeId) → HoldsOfEach (λ (m : Member). same_node x m.node ≡ false) xs →
    is_server_of xs x ≡ false
no_server [] x apart = refl
no_server (m ∷ ms) x apart = by (no_server ms x apart.1) m.server
  where
    by : is_server_of ms x ≡ false → (c : Bool) → ((c && same_node x m.node) || is_server_of ms x) ≡ false
    by rest true = rw apart.0 rest
    by rest false = rest

still_flag : (x : Member) (all xs : List Member) → HoldsOfEach (λ (m : Member). same_node x.node m.node ≡ false) xs →
    HoldsOfEach (FlagIn all) xs → HoldsOfEach (FlagIn (x ∷ all)) xs
still_flag x all [] apart flags = tt
still_flag x all (m ∷ ms) apart flags = (flags.0 ∙ sym (by x.server), still_flag x all ms apart.1 flags.1)
  where
    turned : same_node m.node x.node ≡ false
    turned = let other = apart.0 in grind (arith, nat_tests, other)

    by : (c : Bool) → ((c && same_node m.node x.node) || is_server_of all m.node) ≡ is_server_of all m.node
    by true = rw turned refl
    by false = refl

flags_fit : (xs : List Member) → are_distinct same_member_node xs ≡ true → HoldsOfEach (FlagIn xs) xs
flags_fit [] apart = tt
flags_fit (x ∷ xs) apart =
    let both = first_rest (not (list_any (same_member_node x) xs)) (are_distinct same_member_node xs) apart in
    let others : HoldsOfEach (λ (m : Member). same_node x.node m.node ≡ false) xs =
    none_any (same_member_node x) xs (not_true (list_any (same_member_node x) xs) both.0) in
    (own x.server others, still_flag x xs xs others (flags_fit xs both.1))
  where
    own : (c : Bool) → HoldsOfEach (λ (m : Member). same_node x.node m.node ≡ false) xs →
        c ≡ ((c && same_node x.node x.node) || is_server_of xs x.node)
    own true others = rw (same_node_itself x.node) refl
    own false others = sym (no_server xs x.node others)

-- The plan.

module _ (s : Scenario) (is_good : IsTrue (good s)) where
  four : ((good_format s.format s.caches && good_caches s.caches && good_nodes s) ≡ true) × (good_plan s ≡ true)
  four = first_rest (good_format s.format s.caches && good_caches s.caches && good_nodes s) (good_plan s)
      (first_rest (good_format s.format s.caches && good_caches s.caches && good_nodes s && good_plan s)
      (good_sessions s) is_good).0

  pub caches_good : good_caches s.caches ≡ true
  caches_good = (first_rest (good_format s.format s.caches) (good_caches s.caches)
      (first_rest (good_format s.format s.caches && good_caches s.caches) (good_nodes s) four.0).0).1

  pub some_good : good_nodes s ≡ true
  some_good = (first_rest (good_format s.format s.caches && good_caches s.caches) (good_nodes s) four.0).1

  flags : HoldsOfEach (FlagIn (members s)) (members s)
  flags = flags_fit (members s) (nodes_apart s some_good)

  abbrev joiners : List Member
  joiners = filter_map (λ (x : PlanStep). joining x.step) s.plan

  steps_good : good_steps s.caches (members s) [] s.plan ≡ true
  steps_good =
      let last = first_rest (nat_le (length s.plan) STEPS && list_all (λ (x : PlanStep). is_within 1 MOMENTS x.moment) s.plan
      && no_moment_falls s.plan && good_steps s.caches (members s) [] s.plan)
      (good_starts s.caches (filter_map (λ (x : PlanStep). starting x.step) s.plan)) four.1 in
      (first_rest (nat_le (length s.plan) STEPS && list_all (λ (x : PlanStep). is_within 1 MOMENTS x.moment) s.plan
      && no_moment_falls s.plan) (good_steps s.caches (members s) [] s.plan) last.0).1

  -- those who join have the flags of their numbers
  joins_fit : (plan : List PlanStep) → HoldsOfEach (FlagIn (members s)) (filter_map (λ (x : PlanStep). joining x.step) plan) →
      (k : ℕ) (x : PlanStep) (m : Member) → slice_get plan k ≡ Some x → x.step ≡ step.Join m → FlagIn (members s) m
  joins_fit [] all k x m there is = absurd (cc (there))
  joins_fit (y ∷ ys) all zero x m there is =
      let same : y ≡ x = cc (there) in
      let joins_it : joining y.step ≡ Some m = ap (λ (z : PlanStep). joining z.step) same ∙ ap joining is in
      (subst (HoldsOfEach (FlagIn (members s))) (map_some (λ (z : PlanStep). joining z.step) y ys m joins_it) all).0
  joins_fit (y ∷ ys) all (suc k) x m there is = by (λ rest. joins_fit ys rest k x m there is) (joining y.step) refl
    where
      by : (HoldsOfEach (FlagIn (members s)) (filter_map (λ (z : PlanStep). joining z.step) ys) → FlagIn (members s) m) →
          (o : Option Member) → joining y.step ≡ o → FlagIn (members s) m
      by later None none = later
          (subst (HoldsOfEach (FlagIn (members s))) (map_none (λ (z : PlanStep). joining z.step) y ys none) all)
      by later (Some z) some =
          later (subst (HoldsOfEach (FlagIn (members s))) (map_some (λ (q : PlanStep). joining q.step) y ys z some) all).1

  -- cache 0 is never stopped
  stops_fit : (before : List Step) (plan : List PlanStep) → good_steps s.caches (members s) before plan ≡ true →
      (k : ℕ) (x : PlanStep) (cache : ℕ) → slice_get plan k ≡ Some x → x.step ≡ step.Stop cache → nat_eq 0 cache ≡ false
  stops_fit before [] all k x cache there is = absurd (cc (there))
  stops_fit before (y ∷ ys) all zero x cache there is =
      let both = first_rest (good_step s.caches (members s) before y.step)
      (good_steps s.caches (members s) (before ++ y.step ∷ []) ys) all in
      let same : y ≡ x = cc (there) in
      let can : can_stop s.caches before cache ≡ true = subst (λ (st : Step). good_step s.caches (members s) before st ≡ true)
      (ap (λ (z : PlanStep). z.step) same ∙ is) both.0 in
      not_zero cache can
    where
      not_zero : (c : ℕ) → can_stop s.caches before c ≡ true → nat_eq 0 c ≡ false
      not_zero zero can = absurd (cc (can))
      not_zero (suc c) can = grind (arith, nat_tests)
  stops_fit before (y ∷ ys) all (suc k) x cache there is =
      let both = first_rest (good_step s.caches (members s) before y.step)
      (good_steps s.caches (members s) (before ++ y.step ∷ []) ys) all in
      stops_fit (before ++ y.step ∷ []) ys both.1 k x cache there is

  step_fits : (k : ℕ) (x : PlanStep) → slice_get s.plan k ≡ Some x → HoldsOfEach (EventFits s) (event_of_step x.step)
  step_fits k x there = by x.step refl
    where
      by : (st : Step) → x.step ≡ st → HoldsOfEach (EventFits s) (event_of_step st)
      by (step.Join m) is =
          let declared : is_member (declared_nodes s) m.node ≡ true =
          list_any-append (λ (z : Member). same_node m.node z.node) s.nodes (flat_map joiner_of s.plan)
          ∙ or_second (is_member s.nodes m.node) (is_member (flat_map joiner_of s.plan) m.node)
          (planned_member s.plan k x m there is) in
          ((joins_fit s.plan (each_right (FlagIn (members s)) s.nodes joiners flags) k x m there is, declared), tt)
      by (step.Lose id) is = (tt, tt)
      by (step.Hold a b) is = tt
      by (step.Release a b) is = tt
      by (step.Start cache) is = (tt, tt)
      by (step.Stop cache) is = (stops_fit [] s.plan steps_good k x cache there is, tt)

  pub rec_fits : (r : Rec) → HoldsOfEach (EventFits s) (events_in_rec s.plan r)
  rec_fits (note.Planned place refused) = by refused
    where
      planned : (o : Option PlanStep) → slice_get s.plan place ≡ o → HoldsOfEach (EventFits s) (event_of_planned o)
      planned None none = tt
      planned (Some x) there = step_fits place x there

      by : (o : Option NoLoss) → HoldsOfEach (EventFits s) (events_in_rec s.plan (note.Planned place o))
      by None = planned (slice_get s.plan place) refl
      by (Some why) = tt
  rec_fits _ = tt

  event_fits : (recs : List Rec) (e : Event) → HoldsOfEach (EventFits s) (events_of s.plan recs e)
  event_fits recs (event.Minor id) = (tt, tt)
  event_fits recs _ = each_flat (EventFits s) (events_in_rec s.plan) recs rec_fits

  pub events_fit : (gs : List Group) → HoldsOfEach (EventFits s) (topology_events s gs)
  events_fit gs = each_flat (EventFits s) (λ (g : Group). events_of s.plan g.recs g.event) gs (λ g. event_fits g.recs g.event)

  -- Members.

  pub first_declared : HoldsOfEach (IsDeclared s) s.nodes
  first_declared = by s.nodes (λ x is. is) (each_left (FlagIn (members s)) s.nodes joiners flags)
    where
      by : (ms : List Member) → ((x : NodeId) → is_member ms x ≡ true → is_member s.nodes x ≡ true) →
          HoldsOfEach (FlagIn (members s)) ms → HoldsOfEach (IsDeclared s) ms
      by [] within all = tt
      by (m ∷ ms) within all =
          let here : is_member s.nodes m.node ≡ true =
          within m.node (or_first (same_node m.node m.node) (is_member ms m.node) (same_node_itself m.node)) in (
            (
              all.0,
              list_any-append (λ (z : Member). same_node m.node z.node) s.nodes (flat_map joiner_of s.plan)
                  ∙ or_first (is_member s.nodes m.node) (is_member (flat_map joiner_of s.plan) m.node) here,
            ),
            by ms (λ x is. within x (or_second (same_node x m.node) (is_member ms x) is)) all.1,
          )

  pub later_declared : (t : Topology) (es : List TopoEvent) → HoldsOfEach (IsDeclared s) t.members →
      HoldsOfEach (EventFits s) es → HoldsOfEach (IsDeclared s) (last_topology t es).members
  later_declared t [] now fits = now
  later_declared t (e ∷ es) now fits = later_declared (topology_after t e) es (by e fits.0) fits.1
    where
      by : (x : TopoEvent) → EventFits s x → HoldsOfEach (IsDeclared s) (topology_after t x).members
      by (topo.Join m) fit = each_both (IsDeclared s) t.members (m ∷ []) now (fit, tt)
      by (topo.Left id) fit = each_filter (IsDeclared s) (λ (m : Member). not (same_node m.node id)) t.members now
      by topo.Minor fit = now
      by (topo.Start cache) fit = now
      by (topo.Stop cache) fit = now

  pub all_declared : (t : Topology) (es : List TopoEvent) (k : ℕ) → t.members ≡ s.nodes → HoldsOfEach (EventFits s) es →
      HoldsOfEach (IsDeclared s) (last_topology t (take k es)).members
  all_declared t es k first fits =
      later_declared t (take k es) (subst (HoldsOfEach (IsDeclared s)) (sym first) first_declared)
      (each_taken (EventFits s) k es fits)
