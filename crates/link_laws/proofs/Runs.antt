-- In every legal run the links keep order.
use Rattle.std.proofs.Common.{◌≡◌, ◌≢◌, ◌≤◌, ◌++◌, ◌&&◌, ◌||◌, List, [], ◌∷◌, Option, Some, None, Bool, true, false, if◌then◌else◌, is_some, not, length, ℕ, refl, ap, sym, subst, ◌∙◌, arith}
use Rattle.std.specs.List.{flat_map, list_all, list_any}
use Rattle.std.specs.Option.{option_and_then}
use Rattle.std.specs.Ordering.{nat_cmp}
use Rattle.std.specs.Prelude.{IsTrue, nat_le, slice_get}
use Rattle.std.proofs.lemmas.Bool.Decides.{nat_tests}
use Rattle.part_model.specs.Directory.{at_moment}
use Rattle.ignite_types.specs.Good.{are_distinct, good, good_caches, good_format, good_nodes, good_plan, good_sessions, is_within, members}
use Rattle.ignite_types.specs.Good as scenarios
use Rattle.ignite_types.specs.declared.journal.Event.{Event}
use Rattle.ignite_types.specs.declared.journal.Group.{Group}
use Rattle.ignite_types.specs.declared.journal.Journal.{Journal}
use Rattle.ignite_types.specs.declared.journal.Rec.{Rec}
use Rattle.ignite_types.specs.declared.names.NodeId.{NodeId}
use Rattle.ignite_types.specs.declared.scenario.PlanStep.{PlanStep}
use Rattle.ignite_types.specs.declared.scenario.Scenario.{Scenario}
use Rattle.journal_statements.specs.LinkRecords.{links}
use Rattle.journal_statements.specs.Noted.{Noted, actor, each_from, noted_by, noted_for, noted_in, noted_in_plan}
use Rattle.link_laws.specs.Carrying.{LinkInvariant, LinkStepInvariant, fits, is_gone}
use Rattle.link_laws.proofs.Frames.{at_live, directory_keeps, live_is, parts_keep, same_keeps}
use Rattle.link_laws.proofs.Journals.{calm_same, each_both, first_rest}
use Rattle.link_laws.proofs.LinkEvents.{act_keeps, send_keeps}
use Rattle.link_laws.proofs.NodeEvents.{KeepsAt, answer_keeps, call_keeps, expire_keeps, memory_keeps, see_keeps, stays, switch_keeps}
use Rattle.link_laws.proofs.Openings.{opening_carries}
use Rattle.link_laws.proofs.Places.{after_map, some_is}
use Rattle.link_laws.proofs.PlanEvents.{step_keeps}
use Rattle.ordered_table.specs.Entries.{at}
use Rattle.tx_model.specs.Opening.{opening, session_nodes_from}
use Rattle.tx_model.specs.Runs.{AreSteps, IsLegal, IsStep}
use Rattle.tx_model.specs.World.{Part, World, act_outcome, answer_outcome, call_outcome, can_be, can_take, if_alive, inbox_on, is_alive, is_quiet, is_tick, least_moment, live_place, memory_outcome, outcome, part_at_moment, part_on, parts_at_moment, plan_outcome, tick_outcome}
use Rattle.ignite_types.specs.declared.journal.Event.TheVariants as event
use Rattle.ignite_types.specs.declared.journal.Rec.TheVariants as note

-- at the place of a node that is alive stands a part
someone : (parts : List Part) (place : Option ℕ) (k : ℕ) → if_alive place (option_and_then (slice_get parts) place) ≡ Some k →
    slice_get parts k ≢ None
someone parts None k alive none = absurd (cc)
someone parts (Some j) k alive none =
    (elim (slice_get parts j) as (λ r. slice_get parts j ≡ r → if_alive (Some j) r ≡ Some k → ⊥) [
      | None ↦ λ g has. absurd (cc)
      | Some q ↦ λ g has.
          (elim (is_alive q.life) as (λ b. (if b then Some j else None) ≡ Some k → ⊥) [
            | true ↦ λ e. let there = subst (λ (n : ℕ). slice_get parts n ≡ Some q) (some_is j k e) g in
                absurd (cc (there, none))
            | false ↦ λ e. absurd (cc)
          ]) has
    ]) refl alive

moment_stood : (to : ℕ) (p : Part) → (p.node.me ≡ (part_at_moment to p).node.me)
    × (is_gone p.life ≡ is_gone (part_at_moment to p).life)
moment_stood to p =
    elim (is_alive p.life) as (λ b. let q : Part = if b then record {
      node = record p.node { now = to };
      life =
          p.life;
    } else p in (p.node.me ≡ q.node.me) × (is_gone p.life ≡ is_gone q.life)) [
      | true ↦ (refl, refl)
      | false ↦ (refl, refl)
    ]

module _ (s : Scenario) (recs : List Noted) (w : World) (c : LinkInvariant s recs w) where
  take_event : (id from : NodeId) → can_take from (inbox_on w (live_place w id)) ≡ true →
      KeepsAt s recs (Some id) (outcome w (event.Act id from))
  take_event id from can =
      at_live w id (λ r q. can_take from (inbox_on w r) ≡ true →
      KeepsAt s recs (Some id) (act_outcome w from r q (inbox_on w r)))
      (λ e. stays s recs w c (Some id)) (λ k e. stays s recs w c (Some id))
      (λ k p place is same alive.
      elim (slice_get w.inboxes k) as (λ i. slice_get w.inboxes k ≡ i → can_take from i ≡ true →
      KeepsAt s recs (Some id) (act_outcome w from (Some k) (Some p) i)) [
        | None ↦ λ g e. stays s recs w c (Some id)
        | Some b ↦ λ g e. act_keeps s recs w c id from k p b is g same alive e
      ] refl)
      can

  memory_event : (id : NodeId) → is_some (live_place w id) ≡ true → KeepsAt s recs (Some id) (outcome w (event.Memory id))
  memory_event id can =
      (elim (live_place w id) as (λ r. live_place w id ≡ r → is_some r ≡ true →
      KeepsAt s recs (Some id) (memory_outcome w r (part_on w r))) [
        | None ↦ λ g e. absurd (cc)
        | Some k ↦ λ g e.
            elim (slice_get w.parts k) as (λ q. slice_get w.parts k ≡ q →
            KeepsAt s recs (Some id) (memory_outcome w (Some k) q)) [
              | None ↦ λ none. absurd (someone w.parts _ k g none)
              | Some p ↦ λ is. let both = live_is w id k p g is in memory_keeps s recs w c id k p is both.0 both.1
            ] refl
      ]) refl can

  tick_event : KeepsAt s recs None (outcome w event.Tick)
  tick_event =
      elim (least_moment w) as (λ o. KeepsAt s recs None (tick_outcome w o)) [
        | None ↦ stays s recs w c None
        | Some to ↦ record {
          passes = refl;
          carried =
              same_keeps s recs (recs ++ noted_by None (note.Tick to ∷ [])) (tick_outcome w (Some to)).world
              (calm_same s.plan recs None (note.Tick to ∷ []) refl)
              (parts_keep s recs (record w { directory = at_moment w.directory to }) (parts_at_moment to w.parts)
              (λ k p at.
              let a = after_map (part_at_moment to) w.parts k p at in
              let same = moment_stood to a.0 in
              record {
                part = a.0;
                stands = a.1;
                same_me = same.0 ∙ ap (λ (y : Part). y.node.me) a.2;
                same_life =
                    same.1 ∙ ap (λ (y : Part). is_gone y.life) a.2;
              })
              (directory_keeps s recs w (at_moment w.directory to) refl refl refl c));
        }
      ]

  plan_event : length s.plan ≤ 64 → LinkStepInvariant s recs (noted_in_plan s (outcome w event.Plan).recs)
      (outcome w event.Plan).world
  plan_event short =
      elim (slice_get w.directory.plan w.directory.done) as (λ o. slice_get w.directory.plan w.directory.done ≡ o →
      LinkStepInvariant s recs (noted_in_plan s (plan_outcome w o).recs) (plan_outcome w o).world) [
        | None ↦ λ none. stays s recs w c None
        | Some x ↦ λ some.
            step_keeps s recs w c x (subst (λ (steps : List PlanStep). slice_get steps w.directory.done ≡ Some x) c.plan_is
            some) short x.step refl
      ] refl

  answer_event : (session : ℕ) → KeepsAt s recs (at nat_cmp w.session_nodes session) (outcome w (event.Answer session))
  answer_event session =
      elim (at nat_cmp w.session_nodes session) as (λ h. KeepsAt s recs h (let place = option_and_then (live_place w) h in
      answer_outcome w session place (part_on w place))) [
        | None ↦ stays s recs w c None
        | Some id ↦ answer_keeps s recs w c session id
      ]

  call_event : (session : ℕ) → KeepsAt s recs (at nat_cmp w.session_nodes session) (outcome w (event.Call session))
  call_event session =
      elim (at nat_cmp w.session_nodes session) as (λ h. KeepsAt s recs h (let place = option_and_then (live_place w) h in
      call_outcome w session place (part_on w place))) [
        | None ↦ stays s recs w c None
        | Some id ↦ call_keeps s recs w c session id
      ]

  pub event_keeps : length s.plan ≤ 64 → (e : Event) → can_be w e ≡ true →
      LinkStepInvariant s recs (noted_for s (actor w.session_nodes e) e (outcome w e).recs) (outcome w e).world
  event_keeps short (event.Answer session) can = answer_event session
  event_keeps short (event.Act id from) can = take_event id from can
  event_keeps short (event.Send id) can = send_keeps s recs w c id
  event_keeps short (event.See id) can = see_keeps s recs w c id
  event_keeps short (event.Expire tx) can = expire_keeps s recs w c tx tx.node
  event_keeps short (event.Minor id) can = switch_keeps s recs w c id
  event_keeps short (event.Call session) can = call_event session
  event_keeps short event.Plan can = plan_event short
  event_keeps short event.Tick can = tick_event
  event_keeps short (event.Memory id) can = memory_event id can

-- a group of the run
group_keeps : (s : Scenario) (recs : List Noted) (w : World) (g : Group) → length s.plan ≤ 64 → LinkInvariant s recs w →
    IsStep w g → LinkStepInvariant s recs (noted_in s (session_nodes_from 1 [] s.sessions) g) (outcome w g.event).world
group_keeps s recs w g short c step =
    let can = first_rest (not w.broken && can_be w g.event) (not (is_tick g.event) || is_quiet w) step.possible_event in
    subst (λ (rs : List Rec). LinkStepInvariant s recs
    (noted_for s (actor (session_nodes_from 1 [] s.sessions) g.event) g.event rs) (outcome w g.event).world)
    (sym step.same_records)
    (subst (λ (session_nodes : List (ℕ × NodeId)). LinkStepInvariant s recs (noted_for s (actor session_nodes g.event) g.event
    (outcome w g.event).recs) (outcome w g.event).world) c.session_nodes_are
    (event_keeps s recs w c short g.event (first_rest (not w.broken) (can_be w g.event) can.0).1))

run_keeps : (s : Scenario) (recs : List Noted) (w : World) (gs : List Group) → length s.plan ≤ 64 → LinkInvariant s recs w →
    AreSteps w gs → each_from (fits s.plan) recs (flat_map (noted_in s (session_nodes_from 1 [] s.sessions)) gs) ≡ true
run_keeps s recs w [] short c steps = refl
run_keeps s recs w (g ∷ gs) short c steps =
    let session_nodes = session_nodes_from 1 [] s.sessions in
    let keeps = group_keeps s recs w g short c steps.0 in
    each_both (fits s.plan) recs (noted_in s session_nodes g) (flat_map (noted_in s session_nodes) gs) keeps.passes
    (run_keeps s (recs ++ noted_in s session_nodes g) (outcome w g.event).world gs short keeps.carried steps.1)

-- In every legal run of a scenario in which no node number stands twice, and whose plan is no longer than a scenario's text
-- allows.
pub links_keep : (j : Journal) → are_distinct scenarios.same_member_node (members j.scenario) ≡ true →
    length j.scenario.plan ≤ 64 → IsLegal j → links j ≡ true
links_keep j apart short legal = run_keeps j.scenario [] (opening j.scenario) j.groups short
    (opening_carries j.scenario apart) legal.steps

-- a good scenario is one of these
pub nodes_apart : (s : Scenario) → good_nodes s ≡ true → are_distinct scenarios.same_member_node (members s) ≡ true
nodes_apart s nodes =
    let three = first_rest (list_all (λ member. is_within 1 99 member.node.0) (members s)
    && are_distinct scenarios.same_member_node (members s) && nat_le (length (members s)) 16)
    (list_any (λ member. member.server) s.nodes) nodes in
    let two = first_rest (list_all (λ member. is_within 1 99 member.node.0) (members s)
    && are_distinct scenarios.same_member_node (members s)) (nat_le (length (members s)) 16) three.0 in
    (first_rest (list_all (λ member. is_within 1 99 member.node.0) (members s))
    (are_distinct scenarios.same_member_node (members s)) two.0).1

first_of_five : (a b c d e : Bool) → (a && b && c && d && e) ≡ true → a ≡ true
first_of_five true b c d e all = refl
first_of_five false b c d e all = absurd (cc)

pub plan_short : (s : Scenario) → good_plan s ≡ true → length s.plan ≤ 64
plan_short s plan =
    let short : nat_le (length s.plan) 64 ≡ true = first_of_five (nat_le (length s.plan) 64) _ _ _ _ plan in
    grind (arith, nat_tests, short)

pub links_hold : (j : Journal) → IsTrue (good j.scenario) → IsLegal j → links j ≡ true
links_hold j is_good legal =
    let s = j.scenario in
    let all = first_rest (good_format s.format s.caches && good_caches s.caches && good_nodes s && good_plan s)
    (good_sessions s) is_good in
    let four = first_rest (good_format s.format s.caches && good_caches s.caches && good_nodes s) (good_plan s) all.0 in
    let nodes = (first_rest (good_format s.format s.caches && good_caches s.caches) (good_nodes s) four.0).1 in
    links_keep j (nodes_apart s nodes) (plan_short s four.1) legal
