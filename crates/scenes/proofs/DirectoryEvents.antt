-- The topology events of the directory are those that the journal tells.
use Rattle.std.proofs.Common.{◌≡◌, ◌≤◌, ◌<◌, ◌+◌, ◌^◌, arith, ◌++◌, ◌&&◌, ◌||◌, List, [], ◌∷◌, Option, Some, None, Bool, true, false, if◌then◌else◌, is_some, not, length, ℕ, zero, suc, refl, ap, sym, subst, ◌∙◌}
use Rattle.std.specs.List.{flat_map, list_all}
use Rattle.std.specs.Option.{option_and_then, option_map}
use Rattle.std.specs.Ordering.{nat_cmp}
use Rattle.std.specs.Prelude.{IsTrue, slice_get}
use Rattle.std.proofs.lemmas.Grind.{flat_map-append}
use Rattle.std.proofs.lemmas.List.Folds.{list_any-append}
use Rattle.std.proofs.lemmas.Option.{slice_get-map}
use Rattle.act_rows.specs.NewNodes.{opening_map_of}
use Rattle.frame_laws.proofs.Acts as acts
use Rattle.frame_laws.proofs.Extending.{append_none, append_twice}
use Rattle.frame_laws.specs.Acting.{Notes}
use Rattle.frame_laws.specs.Extending.{is_own}
use Rattle.act_rows.specs.Acts.{act_of_send, answer_act, call_act, expire_act, join_act, may_answer, message_act, oldest_out, see_act, with_act_begun}
use Rattle.act_rows.specs.Exchange.{after_learn_all}
use Rattle.part_model.specs.Directory.{event_at, next_step, node_set, refusal_of_loss, with_answer_given}
use Rattle.part_model.specs.Links.{Inbox, oldest_in}
use Rattle.part_model.specs.NextMap.{is_member}
use Rattle.ignite_types.proofs.NameLaws.{same_node_itself}
use Rattle.ignite_types.specs.Good.{are_distinct, good_caches, good_format, good_nodes, good_plan, good_sessions, members}
use Rattle.ignite_types.specs.Good.{good as good_scenario}
use Rattle.ignite_types.specs.Good as good
use Rattle.ignite_types.specs.Names.{same_node}
use Rattle.ignite_types.specs.declared.journal.Event.{Event}
use Rattle.ignite_types.specs.declared.journal.Group.{Group}
use Rattle.ignite_types.specs.declared.journal.NoLoss.{NoLoss}
use Rattle.ignite_types.specs.declared.journal.Rec.{Rec}
use Rattle.ignite_types.specs.declared.journal.TopoEvent.{TopoEvent}
use Rattle.ignite_types.specs.declared.message.Message.{Message}
use Rattle.ignite_types.specs.declared.message.Out.{Out}
use Rattle.ignite_types.specs.declared.names.NodeId.{NodeId}
use Rattle.ignite_types.specs.declared.scenario.Member.{Member}
use Rattle.ignite_types.specs.declared.scenario.PlanStep.{PlanStep}
use Rattle.ignite_types.specs.declared.scenario.Scenario.{Scenario}
use Rattle.ignite_types.specs.declared.scenario.Step.{Step}
use Rattle.journal_statements.specs.Noted.{Noted, noted_in}
use Rattle.journal_statements.specs.Topologies.{event_of_planned, events_in_rec, events_of, topology_events}
use Rattle.link_laws.proofs.Frames.{at_live, place_is}
use Rattle.link_laws.proofs.Journals.{first_rest}
use Rattle.link_laws.proofs.Openings.{opening_carries}
use Rattle.link_laws.proofs.Runs.{nodes_apart, plan_short}
use Rattle.node_state.specs.Node.{NodeState}
use Rattle.ordered_table.specs.Entries.{at}
use Rattle.scenes.proofs.Events.{at_alive}
use Rattle.scenes.proofs.Lanes.{event_same}
use Rattle.scenes.proofs.Openings.{opening_base, set_both}
use Rattle.scenes.proofs.Parts.{part_there}
use Rattle.scenes.proofs.Runs.{Holds, group_holds, groups_hold}
use Rattle.scenes.proofs.Sounds.{Base, base_kept}
use Rattle.tx_model.specs.Opening.{declared_nodes, ids_of, joiner_of, joins_in, opening, opening_part, session_nodes_from}
use Rattle.tx_model.specs.Runs.{AreSteps, world_after}
use Rattle.tx_model.specs.World.{Outcome, Part, World, act_outcome, act_outcome_from, answer_outcome, best_map_without, call_outcome, can_be, can_switch, expire_outcome, inbox_on, is_quiet, is_tick, join_outcome, least_moment, live_place, loss_outcome, memory_outcome, minor_outcome, outcome, outcome_of_act, part_on, place_of, plan_outcome, see_outcome, see_outcome_of, send_outcome, state_of_part, step_outcome, tick_outcome, unchanged, with_delivery, with_inbox_push}
use Rattle.ignite_types.specs.declared.journal.Event.TheVariants as event
use Rattle.ignite_types.specs.declared.journal.Rec.TheVariants as note
use Rattle.ignite_types.specs.declared.journal.TopoEvent.TheVariants as topo
use Rattle.ignite_types.specs.declared.scenario.Step.TheVariants as step

own_none : (plan : List PlanStep) (rs : List Rec) → list_all is_own rs ≡ true → flat_map (events_in_rec plan) rs ≡ []
own_none plan [] own = refl
own_none plan (r ∷ rs) own =
    let both = first_rest (is_own r) (list_all is_own rs) own in
    ap (λ es. es ++ flat_map (events_in_rec plan) rs) (one r both.0) ∙ own_none plan rs both.1
  where
    one : (x : Rec) → is_own x ≡ true → events_in_rec plan x ≡ []
    one (note.Planned place refused) is = absurd (cc (is))
    one _ is = refl

-- an act tells of no topology event
notes_none : (plan : List PlanStep) (recs before world_after : List Rec) → Notes recs before world_after →
    flat_map (events_in_rec plan) before ≡ [] → flat_map (events_in_rec plan) world_after ≡ [] →
    flat_map (events_in_rec plan) recs ≡ []
notes_none plan recs before world_after n first last =
    let f = events_in_rec plan in
    ap (flat_map f) n.recs_are ∙ flat_map-append f before (n.first ++ (world_after ++ n.last))
    ∙ ap (λ es. es ++ flat_map f (n.first ++ (world_after ++ n.last))) first
    ∙ flat_map-append f n.first (world_after ++ n.last)
    ∙ ap (λ es. es ++ flat_map f (world_after ++ n.last)) (own_none plan n.first n.first_own)
    ∙ flat_map-append f world_after n.last ∙ ap (λ es. es ++ flat_map f n.last) last ∙ own_none plan n.last n.last_own

-- who joins by the plan is declared
abbrev pub JoinersStand : Scenario → World → Type 0
JoinersStand s w = (k : ℕ) (x : PlanStep) (m : Member) → slice_get s.plan k ≡ Some x → x.step ≡ step.Join m →
    is_some (place_of w m.node) ≡ true

module _ (s : Scenario) (w : World) (plan_is : w.directory.plan ≡ s.plan) where
  -- the outcome has the events before, and those that its records tell
  abbrev HasAdded : List TopoEvent → Outcome → Type 0
  HasAdded told o = o.world.directory.events ≡ w.directory.events ++ told

  abbrev told : List Rec → List TopoEvent
  told recs = flat_map (events_in_rec s.plan) recs

  abbrev Silent : Outcome → Type 0
  Silent o = HasAdded (told o.recs) o

  silent : (es : List TopoEvent) → es ≡ w.directory.events → (recs : List Rec) → told recs ≡ [] →
      es ≡ w.directory.events ++ told recs
  silent es same recs none = same ∙ sym (append_none w.directory.events) ∙ ap (λ xs. w.directory.events ++ xs) (sym none)

  nothing_told : Silent (unchanged w)
  nothing_told = silent w.directory.events refl [] refl

  answer_told : (session : ℕ) (h : Option NodeId) → (let place = option_and_then (live_place w) h in
      Silent (answer_outcome w session place (part_on w place)))
  answer_told session None = nothing_told
  answer_told session (Some id) = at_live w id (λ r q. Silent (answer_outcome w session r q)) nothing_told (λ k. nothing_told)
      (λ k p place is same alive. by k p (may_answer p.node session))
    where
      by : (k : ℕ) (p : Part) → (c : Bool) →
          Silent (if c then outcome_of_act (record w { directory = with_answer_given w.directory }) k p
          (answer_act p.node session) else unchanged w)
      by k p true = silent w.directory.events refl (answer_act p.node session).recs
          (notes_none s.plan (answer_act p.node session).recs [] [] (acts.answers p.node session).1 refl refl)
      by k p false = nothing_told

  call_told : (session : ℕ) (h : Option NodeId) → (let place = option_and_then (live_place w) h in
      Silent (call_outcome w session place (part_on w place)))
  call_told session None = nothing_told
  call_told session (Some id) = at_live w id (λ r q. Silent (call_outcome w session r q)) nothing_told (λ k. nothing_told)
      (λ k p place is same alive. silent w.directory.events refl (call_act p.node session).recs
      (notes_none s.plan (call_act p.node session).recs [] [] (acts.calls p.node session).1 refl refl))

  take_told : (id from : NodeId) → Silent (outcome w (event.Act id from))
  take_told id from = at_live w id (λ r q. Silent (act_outcome w from r q (inbox_on w r))) nothing_told (λ k. nothing_told)
      (λ k p place is same alive. by k p (slice_get w.inboxes k))
    where
      taking : (k : ℕ) (p : Part) (b : Inbox) (o : Option Message) → Silent (act_outcome_from w k p b from o)
      taking k p b None = nothing_told
      taking k p b (Some m) = silent w.directory.events refl (message_act p.node from m).recs
          (notes_none s.plan (message_act p.node from m).recs (note.Deliver from m ∷ []) [] (acts.takes p.node from m).1 refl
          refl)

      by : (k : ℕ) (p : Part) (o : Option Inbox) → Silent (act_outcome w from (Some k) (Some p) o)
      by k p None = nothing_told
      by k p (Some b) = taking k p b (oldest_in b from)

  send_told : (id : NodeId) → Silent (outcome w (event.Send id))
  send_told id = at_live w id (λ r q. Silent (send_outcome w r q)) nothing_told (λ k. nothing_told)
      (λ k p place is same alive. by k p (oldest_out p.node))
    where
      to : (k : ℕ) (p : Part) (out : Out) (r : Option ℕ) (o : Option Inbox) →
          Silent (outcome_of_act (with_inbox_push w p.node.me out.msg r o) k p (act_of_send (with_act_begun p.node) (Some out)))
      to k p out None o = silent w.directory.events refl (note.Sent out.to out.msg ∷ []) refl
      to k p out (Some j) None = silent w.directory.events refl (note.Sent out.to out.msg ∷ []) refl
      to k p out (Some j) (Some b) = silent w.directory.events refl (note.Sent out.to out.msg ∷ []) refl

      by : (k : ℕ) (p : Part) (o : Option Out) →
          Silent (outcome_of_act (with_delivery w p.node.me o) k p (act_of_send (with_act_begun p.node) o))
      by k p None = silent w.directory.events refl [] refl
      by k p (Some out) = to k p out (place_of w out.to) (inbox_on w (place_of w out.to))

  see_told : (id : NodeId) → Silent (outcome w (event.See id))
  see_told id = at_live w id (λ r q. Silent (see_outcome w r q)) nothing_told (λ k. nothing_told) (λ k p place is same alive.
      by k p (event_at w.directory p.node.read))
    where
      by : (k : ℕ) (p : Part) (o : Option TopoEvent) → Silent (see_outcome_of w k p o)
      by k p None = nothing_told
      by k p (Some e) = silent w.directory.events refl (see_act p.node e).recs
          (notes_none s.plan (see_act p.node e).recs [] (note.See p.node.read ∷ []) (acts.sees p.node e).1 refl refl)

  expire_told : (tx : _) → Silent (outcome w (event.Expire tx))
  expire_told tx = at_live w tx.node (λ r q. Silent (expire_outcome w tx r q)) nothing_told (λ k. nothing_told)
      (λ k p place is same alive. silent w.directory.events refl (expire_act p.node tx).recs
      (notes_none s.plan (expire_act p.node tx).recs [] [] (acts.expires p.node tx).1 refl refl))

  switch_told : (id : NodeId) → can_be w (event.Minor id) ≡ true → HasAdded (topo.Minor ∷ []) (outcome w (event.Minor id))
  switch_told id can =
      at_alive w id (λ r q. can_switch w.directory (state_of_part q) ≡ true →
      HasAdded (topo.Minor ∷ []) (minor_outcome w r q)) (λ e. absurd (cc (e))) (λ k p is same alive e. refl) can

  memory_told : (id : NodeId) → Silent (outcome w (event.Memory id))
  memory_told id = at_live w id (λ r q. Silent (memory_outcome w r q)) broken (λ k. broken) (λ k p place is same alive.
      silent w.directory.events refl (note.Memory ∷ []) refl)
    where
      broken : Silent (record { world = record w { broken = true }; recs = note.Memory ∷ [] })
      broken = silent w.directory.events refl (note.Memory ∷ []) refl

  tick_told : (o : Option ℕ) → Silent (tick_outcome w o)
  tick_told None = nothing_told
  tick_told (Some to) = silent w.directory.events refl (note.Tick to ∷ []) refl

  -- Steps of the plan.

  module _ (x : PlanStep) (at_hand : slice_get w.directory.plan w.directory.done ≡ Some x) where
    -- what its record tells
    step_told : (st : Step) → x.step ≡ st → (recs : List Rec) → told recs ≡ [] →
        told (note.Planned w.directory.done None ∷ recs) ≡ event_of_planned (Some (record x { step = st }))
    step_told st is recs none =
        ap (λ (es : List TopoEvent). event_of_planned (slice_get s.plan w.directory.done) ++ es) none
        ∙ append_none (event_of_planned (slice_get s.plan w.directory.done))
        ∙ ap (λ (steps : List PlanStep). event_of_planned (slice_get steps w.directory.done)) (sym plan_is)
        ∙ ap event_of_planned at_hand
        ∙ ap (λ (y : Step). event_of_planned (Some (record x { step = y }))) is

    join_told : (m : Member) → x.step ≡ step.Join m → is_some (place_of w m.node) ≡ true → (r : Option ℕ) (q : Option Part) →
        place_of w m.node ≡ r → part_on w r ≡ q → Silent (join_outcome w m w.directory r q)
    join_told m is has None q place here = absurd (cc (has, place))
    join_told m is has (Some k) None place here = let p =
        part_there w m.node k (opening_part s (opening_map_of s) m.node) place in let there = p.1 in absurd (cc (there, here))
    join_told m is has (Some k) (Some p) place here =
        let act = join_act p.node w.directory.events w.directory.clock (topo.Join m) in
        let start : NodeState = after_learn_all p.node w.directory.events w.directory.clock in
        ap (λ es. w.directory.events ++ es)
        (sym (step_told (step.Join m) is act.recs (notes_none s.plan act.recs [] (note.See start.read ∷ [])
        (acts.sees start (topo.Join m)).1 refl refl)))

    loss_told : (id : NodeId) → x.step ≡ step.Lose id → (o : Option NoLoss) → Silent (loss_outcome w id w.directory o)
    loss_told id is (Some refused) = silent w.directory.events refl (note.Planned w.directory.done (Some refused) ∷ []) refl
    loss_told id is None = ap (λ es. w.directory.events ++ es) (sym (step_told (step.Lose id) is (note.Lost id ∷ []) refl))

    does_told : ((m : Member) → x.step ≡ step.Join m → is_some (place_of w m.node) ≡ true) → (st : Step) → x.step ≡ st →
        Silent (step_outcome w w.directory st)
    does_told has (step.Join m) is = join_told m is (has m is) (place_of w m.node) (part_on w (place_of w m.node)) refl refl
    does_told has (step.Lose id) is = loss_told id is (refusal_of_loss w.directory id (best_map_without w id))
    does_told has (step.Hold a b) is = silent w.directory.events refl (note.Planned w.directory.done None ∷ [])
        (step_told (step.Hold a b) is [] refl)
    does_told has (step.Release a b) is = silent w.directory.events refl (note.Planned w.directory.done None ∷ [])
        (step_told (step.Release a b) is [] refl)
    does_told has (step.Start cache) is = ap (λ es. w.directory.events ++ es) (sym (step_told (step.Start cache) is [] refl))
    does_told has (step.Stop cache) is = ap (λ es. w.directory.events ++ es) (sym (step_told (step.Stop cache) is [] refl))

  plan_told : JoinersStand s w → (o : Option PlanStep) → slice_get w.directory.plan w.directory.done ≡ o →
      Silent (plan_outcome w o)
  plan_told stand None none = nothing_told
  plan_told stand (Some x) some =
      does_told x some (λ m is. stand w.directory.done x m (ap (λ (steps : List PlanStep). slice_get steps w.directory.done)
      (sym plan_is) ∙ some) is) x.step refl

  pub event_told : JoinersStand s w → (e : Event) → can_be w e ≡ true →
      (outcome w e).world.directory.events ≡ w.directory.events ++ events_of s.plan (outcome w e).recs e
  event_told stand (event.Answer session) can = answer_told session (at nat_cmp w.session_nodes session)
  event_told stand (event.Act id from) can = take_told id from
  event_told stand (event.Send id) can = send_told id
  event_told stand (event.See id) can = see_told id
  event_told stand (event.Expire tx) can = expire_told tx
  event_told stand (event.Minor id) can = switch_told id can
  event_told stand (event.Call session) can = call_told session (at nat_cmp w.session_nodes session)
  event_told stand event.Plan can = plan_told stand (next_step w.directory) refl
  event_told stand event.Tick can = tick_told (least_moment w)
  event_told stand (event.Memory id) can = memory_told id

-- Each joiner has a place from the opening on.

pub planned_member : (plan : List PlanStep) (k : ℕ) (x : PlanStep) (m : Member) → slice_get plan k ≡ Some x →
    x.step ≡ step.Join m → is_member (flat_map joiner_of plan) m.node ≡ true
planned_member [] k x m there is = absurd (cc (there))
planned_member (y ∷ ys) zero x m there is =
    let same : y ≡ x = cc (there) in
    let joins_here : is_member (joins_in x.step) m.node ≡ true = subst (λ (st : Step). is_member (joins_in st) m.node ≡ true)
    (sym is) (rw (same_node_itself m.node) refl) in
    let first : is_member (joiner_of y) m.node ≡ true = subst (λ (z : PlanStep). is_member (joiner_of z) m.node ≡ true)
    (sym same) joins_here in
    list_any-append (λ (z : Member). same_node m.node z.node) (joiner_of y) (flat_map joiner_of ys)
    ∙ ap (λ (c : Bool). c || is_member (flat_map joiner_of ys) m.node) first
planned_member (y ∷ ys) (suc k) x m there is =
    list_any-append (λ (z : Member). same_node m.node z.node) (joiner_of y) (flat_map joiner_of ys)
    ∙ (rw (planned_member ys k x m there is) (or_true (is_member (joiner_of y) m.node)))
  where
    or_true : (c : Bool) → (c || true) ≡ true
    or_true true = refl
    or_true false = refl

pub opening_stand : (s : Scenario) → are_distinct good.same_member_node (members s) ≡ true → JoinersStand s (opening s)
opening_stand s apart k x m there is =
    let declared : is_member (declared_nodes s) m.node ≡ true =
    list_any-append (λ (z : Member). same_node m.node z.node) s.nodes (flat_map joiner_of s.plan)
    ∙ (rw (planned_member s.plan k x m there is) (or_true (is_member s.nodes m.node))) in
    let at = set_both [] (declared_nodes s) [] m.node declared in
    let ids : slice_get (ids_of s) at.0 ≡ Some m.node =
    ap (λ ms. slice_get (node_set [] ms) at.0) (sym (append_none (declared_nodes s))) ∙ at.1 in
    let stands : slice_get (opening s).parts at.0 ≡ Some (opening_part s (opening_map_of s) m.node) =
    slice_get-map (opening_part s (opening_map_of s)) (ids_of s) at.0
    ∙ ap (option_map (opening_part s (opening_map_of s))) ids in
    ap is_some (place_is (opening s) at.0 (opening_part s (opening_map_of s) m.node) m.node (opening_carries s apart).apart
    stands (same_node_itself m.node))
  where
    or_true : (c : Bool) → (c || true) ≡ true
    or_true true = refl
    or_true false = refl

pub still_stand : (s : Scenario) (w : World) (e : Event) → JoinersStand s w → JoinersStand s (outcome w e).world
still_stand s w e stand k x m there is = ap is_some ((event_same w e).places m.node) ∙ stand k x m there is

-- Over groups that are steps of the machine.
pub run_told : (s : Scenario) (recs : List Noted) (w : World) (gs : List Group) → length s.plan ≤ 64 →
    length w.directory.events + length gs < 2 ^ 63 → Holds Base s recs w → JoinersStand s w → AreSteps w gs
    → (world_after w gs).directory.events ≡ w.directory.events ++ topology_events s gs
run_told s recs w [] short room h stand steps = sym (append_none w.directory.events)
run_told s recs w (g ∷ gs) short room h stand steps =
    let one = group_holds Base base_kept s recs w g short (omega (arith, room)) h steps.0 in
    let more = one.1 in
    let w2 : World = (outcome w g.event).world in
    let can = first_rest (not w.broken && can_be w g.event) (not (is_tick g.event) || is_quiet w) steps.0.possible_event in
    let told_now = event_told s w h.carries.plan_is stand g.event (first_rest (not w.broken) (can_be w g.event) can.0).1 in
    let first : w2.directory.events ≡ w.directory.events ++ events_of s.plan g.recs g.event = told_now
    ∙ ap (λ (rs : List Rec). w.directory.events ++ events_of s.plan rs g.event) (sym steps.0.same_records) in
    let rest = run_told s (recs ++ noted_in s (session_nodes_from 1 [] s.sessions) g) w2 gs short (omega (arith, room, more))
    one.0 (still_stand s w g.event stand) steps.1 in
    rest ∙ ap (λ (es : List TopoEvent). es ++ topology_events s gs) first
    ∙ append_twice w.directory.events (events_of s.plan g.recs g.event) (topology_events s gs)

pub events_told : (s : Scenario) (gs : List Group) → IsTrue (good_scenario s) → length gs < 2 ^ 62 → AreSteps (opening s) gs →
    (world_after (opening s) gs).directory.events ≡ topology_events s gs
events_told s gs is_good few steps =
    let all = first_rest (good_format s.format s.caches && good_caches s.caches && good_nodes s && good_plan s)
    (good_sessions s) is_good in
    let four = first_rest (good_format s.format s.caches && good_caches s.caches && good_nodes s) (good_plan s) all.0 in
    let nodes = (first_rest (good_format s.format s.caches && good_caches s.caches) (good_nodes s) four.0).1 in
    let start = groups_hold Base base_kept s [] is_good (omega (arith, few)) (opening_base s) tt in
    run_told s [] (opening s) gs (plan_short s four.1) (omega (arith, few)) start.0 (opening_stand s (nodes_apart s nodes))
    steps
