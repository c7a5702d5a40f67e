-- Steps of the plan are refused exactly where they have to be, in every run.
use Rattle.std.proofs.Common.{◌≡◌, ◌<◌, ◌+◌, ◌^◌, ◌++◌, ◌&&◌, List, [], ◌∷◌, Option, Some, None, Bool, true, false, length, ℕ, suc, refl, ap, sym, subst, ◌∙◌, arith, IsTrue}
use Rattle.std.specs.List.{flat_map, list_all}
use Rattle.std.specs.Prelude.{slice_get}
use Rattle.std.proofs.lemmas.Bool.Decides.{nat_tests}
use Rattle.std.proofs.lemmas.Grind.{flat_map-append}
use Rattle.act_rows.specs.Acts.{join_act}
use Rattle.act_rows.specs.Exchange.{after_learn_all}
use Rattle.act_rows.specs.NewNodes.{opening_map_of}
use Rattle.frame_laws.proofs.Acts as acts
use Rattle.frame_laws.proofs.Extending.{append_none}
use Rattle.ignite_types.proofs.NameLaws.{same_node_true}
use Rattle.ignite_types.specs.Good.{good, good_caches, good_format, good_nodes, good_plan, good_sessions}
use Rattle.ignite_types.specs.declared.journal.Event.{Event}
use Rattle.ignite_types.specs.declared.journal.Group.{Group}
use Rattle.ignite_types.specs.declared.journal.Journal.{Journal}
use Rattle.ignite_types.specs.declared.journal.NoLoss.{NoLoss}
use Rattle.ignite_types.specs.declared.journal.Rec.{Rec}
use Rattle.ignite_types.specs.declared.journal.TopoEvent.{TopoEvent}
use Rattle.ignite_types.specs.declared.names.NodeId.{NodeId}
use Rattle.ignite_types.specs.declared.scenario.Member.{Member}
use Rattle.ignite_types.specs.declared.scenario.PlanStep.{PlanStep}
use Rattle.ignite_types.specs.declared.scenario.Scenario.{Scenario}
use Rattle.ignite_types.specs.declared.scenario.Step.{Step}
use Rattle.journal_statements.specs.Noted.{Noted, actor, each_from, joiner_in, noted_by, noted_for, noted_in, noted_in_plan}
use Rattle.journal_statements.specs.Refusals.{best_map, loss_refusal, members_behind, planned_fits, refusal_fits, refusal_of, refusals_fit, same_refusal}
use Rattle.journal_statements.specs.SameMessages.{same_maybe}
use Rattle.journal_statements.specs.Topologies.{Topology, event_of_planned, event_of_step, events_in_rec, first_topology, last_topology, topology_after}
use Rattle.link_laws.proofs.Journals.{each_both, first_rest}
use Rattle.node_state.specs.Node.{NodeState}
use Rattle.part_model.specs.Directory.{members_after, next_step, refusal_of_loss}
use Rattle.part_model.specs.NextMap.{is_member}
use Rattle.refusal_laws.proofs.BestMaps.{best_noted}
use Rattle.refusal_laws.proofs.OtherEvents.{act_steps, event_leaves}
use Rattle.refusal_laws.specs.RefusalFacts.{MembersAreTold, is_step_event, says_no_step}
use Rattle.scenes.proofs.DirectoryEvents.{JoinersStand, opening_stand, still_stand}
use Rattle.scenes.proofs.EachRun.{few}
use Rattle.scenes.proofs.Parts.{part_there}
use Rattle.scenes.proofs.Runs.{Holds, group_holds, groups_hold, plan_of_good}
use Rattle.scenes.proofs.Sounds.{sound_of}
use Rattle.scenes.specs.EachRun.{IsRunOf, is_short_run}
use Rattle.link_laws.proofs.Runs.{nodes_apart}
use Rattle.survivor_laws.proofs.OwnersLeft.{opening_survivors}
use Rattle.survivor_laws.proofs.SurvivorComputes.{any_found}
use Rattle.survivor_laws.proofs.SurvivorEvents.{survivors_kept}
use Rattle.survivor_laws.proofs.ToldEvents.{EventFits, IsDeclared, each_flat, first_declared, later_declared, rec_fits}
use Rattle.survivor_laws.specs.SurvivorInvariant.{MapsAndSurvivors}
use Rattle.topology_laws.specs.TopologyFacts.{HoldsOfEach}
use Rattle.tx_model.specs.Opening.{declared_nodes, opening, opening_part, session_nodes_from}
use Rattle.tx_model.specs.Runs.{AreSteps}
use Rattle.tx_model.specs.World.{Outcome, Part, World, best_map_without, join_outcome, loss_outcome, outcome, part_on, place_of, plan_outcome, step_outcome}
use Rattle.ignite_types.specs.Names.{same_node}
use Rattle.ignite_types.specs.declared.journal.Event.TheVariants as event
use Rattle.ignite_types.specs.declared.journal.NoLoss.TheVariants as refusal
use Rattle.ignite_types.specs.declared.journal.Rec.TheVariants as note
use Rattle.ignite_types.specs.declared.journal.TopoEvent.TheVariants as topo
use Rattle.ignite_types.specs.declared.scenario.Step.TheVariants as step

-- Members over events.

abbrev members_over : List Member → List TopoEvent → List Member
members_over ms [] = ms
members_over ms (e ∷ es) = members_over (members_after ms e) es

over_is : (t : Topology) (es : List TopoEvent) → (last_topology t es).members ≡ members_over t.members es
over_is t [] = refl
over_is t (e ∷ es) = over_is (topology_after t e) es

over_parts : (ms : List Member) (es fs : List TopoEvent) →
    members_over ms (es ++ fs) ≡ members_over (members_over ms es) fs
over_parts ms [] fs = refl
over_parts ms (e ∷ es) fs = over_parts (members_after ms e) es fs

abbrev told : Scenario → List Noted → List TopoEvent
told s ns = flat_map (λ (n : Noted). events_in_rec s.plan n.rec) ns

members_more : (s : Scenario) (recs more : List Noted) →
    members_behind s (recs ++ more) ≡ members_over (members_behind s recs) (told s more)
members_more s recs more =
    over_is (first_topology s) (told s (recs ++ more))
    ∙ ap (members_over s.nodes) (flat_map-append (λ (n : Noted). events_in_rec s.plan n.rec) recs more)
    ∙ over_parts s.nodes (told s recs) (told s more)
    ∙ ap (λ (ms : List Member). members_over ms (told s more)) (sym (over_is (first_topology s) (told s recs)))

-- Records of no step.

abbrev test : Scenario → List Noted → Noted → Bool
test s before n = refusal_fits s before n.rec

one_passes : (s : Scenario) (before : List Noted) (r : Rec) → says_no_step r ≡ true → refusal_fits s before r ≡ true
one_passes s before (note.Planned place refused) quiet = absurd (cc (quiet))
one_passes s before _ quiet = refl

one_tells : (s : Scenario) (r : Rec) → says_no_step r ≡ true → events_in_rec s.plan r ≡ []
one_tells s (note.Planned place refused) quiet = absurd (cc (quiet))
one_tells s _ quiet = refl

quiet_pass : (s : Scenario) (before : List Noted) (who : Option NodeId) (rs : List Rec) → list_all says_no_step rs ≡ true →
    each_from (test s) before (noted_by who rs) ≡ true
quiet_pass s before who [] quiet = refl
quiet_pass s before who (r ∷ rs) quiet =
    let both = first_rest (says_no_step r) (list_all says_no_step rs) quiet in
    rw (one_passes s before r both.0) (quiet_pass s (before ++ record { node = who; rec = r } ∷ []) who rs both.1)

quiet_tell : (s : Scenario) (who : Option NodeId) (rs : List Rec) → list_all says_no_step rs ≡ true →
    told s (noted_by who rs) ≡ []
quiet_tell s who [] quiet = refl
quiet_tell s who (r ∷ rs) quiet =
    let both = first_rest (says_no_step r) (list_all says_no_step rs) quiet in
    ap (λ (es : List TopoEvent). es ++ told s (noted_by who rs)) (one_tells s r both.0) ∙ quiet_tell s who rs both.1

same_itself : (why : Option NoLoss) → same_maybe same_refusal why why ≡ true
same_itself None = refl
same_itself (Some refusal.NotIn) = refl
same_itself (Some (refusal.LeavesPartition n)) = grind (arith, nat_tests)

-- Each event.

module _ (s : Scenario) (is_good : IsTrue (good s)) (recs : List Noted) (w : World) (room : suc (length w.directory.events)
    < 2 ^ 63)
    (h : Holds MapsAndSurvivors s recs w) (stand : JoinersStand s w) (now : MembersAreTold s recs w) where
  abbrev Passes : Option NodeId → Event → Outcome → Type 0
  Passes who e o = (each_from (test s) recs (noted_for s who e o.recs) ≡ true)
      × (members_behind s (recs ++ noted_for s who e o.recs) ≡ o.world.directory.members)

  other_passes : (who : Option NodeId) (e : Event) → is_step_event e ≡ false → Passes who e (outcome w e)
  other_passes who e other =
      let left = event_leaves w e other in
      subst (λ (ns : List Noted). (each_from (test s) recs ns ≡ true)
      × (members_behind s (recs ++ ns) ≡ (outcome w e).world.directory.members)) (sym (plainly e other (outcome w e).recs)) (
        quiet_pass s recs who (outcome w e).recs left.0,
        members_more s recs (noted_by who (outcome w e).recs)
            ∙ ap (members_over (members_behind s recs)) (quiet_tell s who (outcome w e).recs left.0) ∙ now ∙ sym left.1,
      )
    where
      plainly : (x : Event) → is_step_event x ≡ false → (rs : List Rec) → noted_for s who x rs ≡ noted_by who rs
      plainly event.Plan is rs = absurd (cc (is))
      plainly _ is rs = refl

  -- The plan.

  abbrev AfterStep : Outcome → Type 0
  AfterStep o = (each_from (test s) recs (noted_in_plan s o.recs) ≡ true)
      × (members_behind s (recs ++ noted_in_plan s o.recs) ≡ o.world.directory.members)

  declared : (x : NodeId) → is_member w.directory.members x ≡ true → is_member (declared_nodes s) x ≡ true
  declared x member =
      let all : HoldsOfEach (IsDeclared s) (members_behind s recs) =
      later_declared s is_good (first_topology s) (told s recs) (first_declared s is_good)
      (each_flat (EventFits s) (λ (n : Noted). events_in_rec s.plan n.rec) recs (λ n. rec_fits s is_good n.rec)) in
      let found = any_found (IsDeclared s) (λ (m : Member). same_node x m.node) (members_behind s recs)
      (ap (λ (ms : List Member). is_member ms x) now ∙ member) all in
      ap (is_member (declared_nodes s)) (same_node_true x found.0.node found.2) ∙ found.1.1

  module _ (x : PlanStep) (at_hand : slice_get w.directory.plan w.directory.done ≡ Some x) where
    planned_there : slice_get s.plan w.directory.done ≡ Some x
    planned_there = ap (λ (steps : List PlanStep). slice_get steps w.directory.done) (sym h.carries.plan_is) ∙ at_hand

    -- the record of the step, and what stands behind it
    step_passes : (why : Option NoLoss) (rest : List Rec) (ms : List Member) →
        same_maybe same_refusal why (refusal_of s recs x.step) ≡ true → list_all says_no_step rest ≡ true →
        members_over w.directory.members (events_in_rec s.plan (note.Planned w.directory.done why)) ≡ ms →
        (each_from (test s) recs (noted_in_plan s (note.Planned w.directory.done why ∷ rest)) ≡ true)
        × (members_behind s (recs ++ noted_in_plan s (note.Planned w.directory.done why ∷ rest)) ≡ ms)
    step_passes why rest ms due quiet after =
        let first : Noted = record { node = None; rec = note.Planned w.directory.done why } in
        let who = joiner_in (slice_get s.plan w.directory.done) in
        let es = events_in_rec s.plan (note.Planned w.directory.done why) in
        let fits : planned_fits s recs why (slice_get s.plan w.directory.done) ≡ true =
        ap (planned_fits s recs why) planned_there ∙ due in (
          rw fits (quiet_pass s (recs ++ first ∷ []) who rest quiet),
          members_more s recs (first ∷ noted_by who rest)
              ∙ ap (λ (fs : List TopoEvent). members_over (members_behind s recs) (es ++ fs)) (quiet_tell s who rest quiet)
              ∙ ap (members_over (members_behind s recs)) (append_none es)
              ∙ ap (λ (xs : List Member). members_over xs es) now ∙ after,
        )

    -- what the record of a step that is done tells
    done_tells : (st : Step) → x.step ≡ st → events_in_rec s.plan (note.Planned w.directory.done None) ≡ event_of_step st
    done_tells st is = ap event_of_planned planned_there ∙ ap event_of_step is

    never : (st : Step) → x.step ≡ st → refusal_of s recs st ≡ None →
        same_maybe same_refusal None (refusal_of s recs x.step) ≡ true
    never st is none = ap (λ (y : Step). same_maybe same_refusal None (refusal_of s recs y)) is
        ∙ ap (same_maybe same_refusal None) none

    join_passes : (m : Member) → x.step ≡ step.Join m → (r : Option ℕ) (q : Option Part) → place_of w m.node ≡ r →
        part_on w r ≡ q → AfterStep (join_outcome w m w.directory r q)
    join_passes m is None q place here =
        let has = stand w.directory.done x m planned_there is in absurd (cc (has, place))
    join_passes m is (Some k) None place here =
        let p = part_there w m.node k (opening_part s (opening_map_of s) m.node) place in
        let there = p.1 in absurd (cc (there, here))
    join_passes m is (Some k) (Some p) place here =
        let act = join_act p.node w.directory.events w.directory.clock (topo.Join m) in
        let start : NodeState = after_learn_all p.node w.directory.events w.directory.clock in
        step_passes None act.recs (members_after w.directory.members (topo.Join m)) (never (step.Join m) is refl)
        (act_steps act.recs [] (note.See start.read ∷ []) (acts.sees start (topo.Join m)).1 refl refl)
        (ap (members_over w.directory.members) (done_tells (step.Join m) is))

    loss_due : (id : NodeId) → x.step ≡ step.Lose id →
        refusal_of s recs x.step ≡ refusal_of_loss w.directory id (best_map_without w id)
    loss_due id is = ap (refusal_of s recs) is
        ∙ ap (λ (ms : List Member). loss_refusal ms id (best_map s recs id)) now
        ∙ ap (loss_refusal w.directory.members id)
        (sym (best_noted s recs w h.carries (sound_of s recs w h.carries room h.base) h.inv declared id))

    loss_passes : (id : NodeId) → x.step ≡ step.Lose id → (o : Option NoLoss) →
        refusal_of_loss w.directory id (best_map_without w id) ≡ o → AfterStep (loss_outcome w id w.directory o)
    loss_passes id is (Some why) because =
        step_passes (Some why) [] w.directory.members
        (ap (same_maybe same_refusal (Some why)) (loss_due id is ∙ because) ∙ same_itself (Some why)) refl refl
    loss_passes id is None because =
        step_passes None (note.Lost id ∷ []) (members_after w.directory.members (topo.Left id))
        (ap (same_maybe same_refusal None) (loss_due id is ∙ because)) refl
        (ap (members_over w.directory.members) (done_tells (step.Lose id) is))

    still : (st : Step) → x.step ≡ st → refusal_of s recs st ≡ None →
        members_over w.directory.members (event_of_step st) ≡ w.directory.members →
        (each_from (test s) recs (noted_in_plan s (note.Planned w.directory.done None ∷ [])) ≡ true)
        × (members_behind s (recs ++ noted_in_plan s (note.Planned w.directory.done None ∷ [])) ≡ w.directory.members)
    still st is none same = step_passes None [] w.directory.members (never st is none) refl
        (ap (members_over w.directory.members) (done_tells st is) ∙ same)

    does : (st : Step) → x.step ≡ st → AfterStep (step_outcome w w.directory st)
    does (step.Join m) is = join_passes m is (place_of w m.node) (part_on w (place_of w m.node)) refl refl
    does (step.Lose id) is = loss_passes id is (refusal_of_loss w.directory id (best_map_without w id)) refl
    does (step.Hold a b) is = still (step.Hold a b) is refl refl
    does (step.Release a b) is = still (step.Release a b) is refl refl
    does (step.Start cache) is = still (step.Start cache) is refl refl
    does (step.Stop cache) is = still (step.Stop cache) is refl refl

  plan_passes : (o : Option PlanStep) → slice_get w.directory.plan w.directory.done ≡ o → AfterStep (plan_outcome w o)
  plan_passes None none = (refl, ap (members_behind s) (append_none recs) ∙ now)
  plan_passes (Some x) at_hand = does x at_hand x.step refl

  event_passes : (who : Option NodeId) (e : Event) → Passes who e (outcome w e)
  event_passes who event.Plan = plan_passes (next_step w.directory) refl
  event_passes who (event.Answer session) = other_passes who (event.Answer session) refl
  event_passes who (event.Act id from) = other_passes who (event.Act id from) refl
  event_passes who (event.Send id) = other_passes who (event.Send id) refl
  event_passes who (event.See id) = other_passes who (event.See id) refl
  event_passes who (event.Expire tx) = other_passes who (event.Expire tx) refl
  event_passes who (event.Minor id) = other_passes who (event.Minor id) refl
  event_passes who (event.Call session) = other_passes who (event.Call session) refl
  event_passes who event.Tick = other_passes who event.Tick refl
  event_passes who (event.Memory id) = other_passes who (event.Memory id) refl

-- Each group.

refusals_hold : (s : Scenario) → IsTrue (good s) → (recs : List Noted) (w : World) (gs : List Group) →
    length w.directory.events + length gs < 2 ^ 63 → Holds MapsAndSurvivors s recs w → JoinersStand s w →
    MembersAreTold s recs w → AreSteps w gs →
    each_from (test s) recs (flat_map (noted_in s (session_nodes_from 1 [] s.sessions)) gs) ≡ true
refusals_hold s is_good recs w [] room h stand now steps = refl
refusals_hold s is_good recs w (g ∷ gs) room h stand now steps =
    let session_nodes = session_nodes_from 1 [] s.sessions in
    let space : suc (length w.directory.events) < 2 ^ 63 = omega (arith, room) in
    let passes = subst (λ (rs : List Rec). (each_from (test s) recs (noted_for s (actor session_nodes g.event) g.event rs)
    ≡ true)
    × (members_behind s (recs ++ noted_for s (actor session_nodes g.event) g.event rs)
    ≡ (outcome w g.event).world.directory.members)) (sym steps.0.same_records)
    (event_passes s is_good recs w space h stand now (actor session_nodes g.event) g.event) in
    let more = group_holds MapsAndSurvivors survivors_kept s recs w g (plan_of_good s is_good) space h steps.0 in
    let count = more.1 in
    each_both (test s) recs (noted_in s session_nodes g) (flat_map (noted_in s session_nodes) gs) passes.0
    (refusals_hold s is_good (recs ++ noted_in s session_nodes g) (outcome w g.event).world gs (omega (arith, room, count))
    more.0
    (still_stand s w g.event stand) passes.1 steps.1)

-- Of every run.

nodes_of_good : (s : Scenario) → IsTrue (good s) → good_nodes s ≡ true
nodes_of_good s is_good =
    let all = first_rest (good_format s.format s.caches && good_caches s.caches && good_nodes s && good_plan s)
    (good_sessions s)
    is_good in
    let four = first_rest (good_format s.format s.caches && good_caches s.caches && good_nodes s) (good_plan s) all.0 in
    (first_rest (good_format s.format s.caches && good_caches s.caches) (good_nodes s) four.0).1

pub refusals_fit_holds : (events : ℕ) → is_short_run events ≡ true → (j : Journal) → IsRunOf events j → refusals_fit j ≡ true
refusals_fit_holds events short j run =
    let s = j.scenario in
    let size = few events short j run in
    let start = (groups_hold MapsAndSurvivors survivors_kept s [] run.is_good (omega arith)
    (opening_survivors s run.is_good) tt).0 in
    refusals_hold s run.is_good [] (opening s) j.groups (omega (arith, size)) start
    (opening_stand s (nodes_apart s (nodes_of_good s run.is_good))) refl run.is_legal.steps
