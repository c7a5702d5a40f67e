-- The theorem over runs: what holds at the opening and is kept by each event holds of the world after any possible events.
use Rattle.std.proofs.Common.{◌≡◌, refl, ◌≤◌, ◌<◌, ◌+◌, ◌^◌, ◌++◌, ◌&&◌, ◌||◌, List, [], ◌∷◌, true, not, length, ℕ, suc, sym, subst, arith}
use Rattle.std.specs.List.{flat_map}
use Rattle.std.specs.Prelude.{IsTrue}
use Rattle.std.proofs.lemmas.Grind.{flat_map-append}
use Rattle.std.proofs.lemmas.List.{length-append}
use Rattle.frame_laws.proofs.Extending.{append_none, append_twice}
use Rattle.ignite_types.specs.Good.{good, good_caches, good_format, good_nodes, good_plan, good_sessions}
use Rattle.ignite_types.specs.declared.journal.Group.{Group}
use Rattle.ignite_types.specs.declared.journal.Journal.{Journal}
use Rattle.ignite_types.specs.declared.journal.Rec.{Rec}
use Rattle.ignite_types.specs.declared.journal.TopoEvent.{TopoEvent}
use Rattle.ignite_types.specs.declared.scenario.Scenario.{Scenario}
use Rattle.journal_statements.specs.Noted.{Homes, Noted, actor, noted, noted_for, noted_in}
use Rattle.link_laws.specs.Carrying.{LinkInvariant}
use Rattle.link_laws.proofs.Journals.{first_rest}
use Rattle.link_laws.proofs.Openings.{opening_carries}
use Rattle.link_laws.proofs.Runs.{event_keeps, nodes_apart, plan_short}
use Rattle.scenes.specs.Events.{EachEventLeads, EachEventKeeps, IsSound}
use Rattle.scenes.specs.Scenes.{Scene, opening_scene, scene_of}
use Rattle.scenes.proofs.Events.{event_goes}
use Rattle.scenes.proofs.Lanes.{Full, event_same, full_same}
use Rattle.scenes.proofs.Openings.{opening_base, opening_full, opening_is}
use Rattle.scenes.proofs.Sounds.{Base, base_kept, sound_of}
use Rattle.tx_model.specs.Opening.{opening, session_nodes_from}
use Rattle.tx_model.specs.Runs.{AreSteps, IsLegal, IsStep, world_after}
use Rattle.tx_model.specs.World.{World, can_be, is_quiet, is_tick, outcome}

-- an event brings one topology event at most
abbrev AtMost : ℕ → Scene → Type 0
AtMost n sc = length sc.directory.events ≤ n

one_more : (n : ℕ) → EachEventLeads (AtMost n) (AtMost (suc n))
one_more n = record {
  answers = λ sc m s session sound r may b. omega (arith, b);
  calls = λ sc m s session sound r may b. omega (arith, b);
  takes = λ sc m s from x sound r is b. omega (arith, b);
  expires = λ sc m s tx sound r own is b. omega (arith, b);
  sees = λ sc m s e sound r is b. omega (arith, b);
  switches = λ sc m s sound r may same b. longer sc.directory.events _ b;
  moves = λ sc m s out sound r is b. omega (arith, b);
  drops = λ sc m s out sound r is away b. omega (arith, b);
  joins = λ sc m s sound absent new is b. longer sc.directory.events _ b;
  loses = λ sc m sound lives b. longer sc.directory.events _ b;
  plans = λ sc refused sound b. omega (arith, b);
  starts = λ sc e sound is b. longer sc.directory.events _ b;
  ticks = λ sc to sound b. omega (arith, b);
  breaks = λ sc m sound b. omega (arith, b);
}
  where
    longer : (es : List TopoEvent) (e : TopoEvent) → length es ≤ n → length (es ++ e ∷ []) ≤ suc n
    longer es e b = let sum = length-append es (e ∷ []) in omega (arith, sum, b)

pub record Holds (Inv : Scene → Type 0) (s : Scenario) (recs : List Noted) (w : World) : Type 0 where
  pub carries : LinkInvariant s recs w
  pub base : Base (scene_of s recs w)
  pub full : Full w
  pub inv : Inv (scene_of s recs w)

-- the rules of a good scenario that its nodes and its plan keep
rules_of_good : (s : Scenario) → IsTrue (good s) → (good_nodes s ≡ true) × (good_plan s ≡ true)
rules_of_good s is_good =
    let all = first_rest (good_format s.format s.caches && good_caches s.caches && good_nodes s && good_plan s)
    (good_sessions s)
    is_good in
    let four = first_rest (good_format s.format s.caches && good_caches s.caches && good_nodes s) (good_plan s) all.0 in
    ((first_rest (good_format s.format s.caches && good_caches s.caches) (good_nodes s) four.0).1, four.1)

pub plan_of_good : (s : Scenario) → IsTrue (good s) → length s.plan ≤ 64
plan_of_good s is_good = plan_short s (rules_of_good s is_good).1

module _ (Inv : Scene → Type 0) (kept : EachEventKeeps Inv) where
  pub group_holds : (s : Scenario) (recs : List Noted) (w : World) (g : Group) → length s.plan ≤ 64 →
      suc (length w.directory.events) < 2 ^ 63 → Holds Inv s recs w → IsStep w g
      → Holds Inv s (recs ++ noted_in s (session_nodes_from 1 [] s.sessions) g) (outcome w g.event).world
      × (length (outcome w g.event).world.directory.events ≤ suc (length w.directory.events))
  group_holds s recs w g short room h step =
      let can = first_rest (not w.broken && can_be w g.event) (not (is_tick g.event) || is_quiet w) step.possible_event in
      let possible = (first_rest (not w.broken) (can_be w g.event) can.0).1 in
      let w2 = (outcome w g.event).world in
      let sound = sound_of s recs w h.carries room h.base in
      subst (λ (rs : List Rec).
      Holds Inv s (recs ++ noted_for s (actor (session_nodes_from 1 [] s.sessions) g.event) g.event rs) w2
      × (length w2.directory.events ≤ suc (length w.directory.events))) (sym step.same_records)
      (subst (λ (session_nodes : Homes).
      Holds Inv s (recs ++ noted_for s (actor session_nodes g.event) g.event (outcome w g.event).recs) w2
      × (length w2.directory.events ≤ suc (length w.directory.events))) h.carries.session_nodes_are (
        record {
          carries = (event_keeps s recs w h.carries short g.event possible).carried;
          base = event_goes Base Base base_kept s recs w h.carries sound h.full h.base g.event possible;
          full = full_same w w2 (event_same w g.event) h.full;
          inv = event_goes Inv Inv kept s recs w h.carries sound h.full h.inv g.event possible;
        },
        event_goes (AtMost (length w.directory.events)) (AtMost (suc (length w.directory.events)))
            (one_more (length w.directory.events)) s recs w h.carries sound h.full (itself (length w.directory.events))
            g.event possible,
      ))
    where
      itself : (n : ℕ) → n ≤ n
      itself n = omega arith

  pub run_holds : (s : Scenario) (recs : List Noted) (w : World) (gs : List Group) → length s.plan ≤ 64 →
      length w.directory.events + length gs < 2 ^ 63 → Holds Inv s recs w → AreSteps w gs
      → Holds Inv s (recs ++ flat_map (noted_in s (session_nodes_from 1 [] s.sessions)) gs) (world_after w gs)
      × (length (world_after w gs).directory.events ≤ length w.directory.events + length gs)
  run_holds s recs w [] short room h steps = (
    subst (λ (rs : List Noted). Holds Inv s rs w) (sym (append_none recs)) h,
    more (length w.directory.events),
  )
    where
      more : (n : ℕ) → n ≤ n + 0
      more n = omega arith
  run_holds s recs w (g ∷ gs) short room h steps =
      let one = group_holds s recs w g short (omega (arith, room)) h steps.0 in
      let session_nodes = session_nodes_from 1 [] s.sessions in
      let more = one.1 in
      let rest = run_holds s (recs ++ noted_in s session_nodes g) (outcome w g.event).world gs short
      (omega (arith, room, more)) one.0 steps.1 in
      let count = rest.1 in (
        subst (λ (rs : List Noted). Holds Inv s rs (world_after w (g ∷ gs))) (append_twice recs (noted_in s session_nodes g)
            (flat_map (noted_in s session_nodes) gs)) rest.0,
        omega (arith, count, more),
      )

  -- of the world after groups that are steps of the machine from the opening on, whose versions are few enough
  pub groups_hold : (s : Scenario) (gs : List Group) → IsTrue (good s) → length gs < 2 ^ 62 → Inv (opening_scene s) →
      AreSteps (opening s) gs
      → Holds Inv s (noted s gs) (world_after (opening s) gs)
      × (length (world_after (opening s) gs).directory.events ≤ length gs)
  groups_hold s gs is_good few first steps =
      let apart = nodes_apart s (rules_of_good s is_good).0 in
      let run = run_holds s [] (opening s) gs (plan_of_good s is_good) (omega (arith, few)) (record {
        carries = opening_carries s apart;
        base = subst Base (sym (opening_is s apart)) (opening_base s);
        full = opening_full s apart;
        inv = subst Inv (sym (opening_is s apart)) first;
      }) steps in
      let count : length (world_after (opening s) gs).directory.events ≤ 0 + length gs = run.1 in
      (run.0, omega (arith, count))

  pub inv_holds : (s : Scenario) (gs : List Group) → IsTrue (good s) → length gs < 2 ^ 62 → Inv (opening_scene s) →
      AreSteps (opening s) gs
      → IsSound (scene_of s (noted s gs) (world_after (opening s) gs))
      × Inv (scene_of s (noted s gs) (world_after (opening s) gs))
  inv_holds s gs is_good few first steps =
      let run = groups_hold s gs is_good few first steps in
      let h = run.0 in
      let count = run.1 in
      (sound_of s (noted s gs) (world_after (opening s) gs) h.carries (omega (arith, count, few)) h.base, h.inv)

  -- of the world in which a legal run ends
  pub legal_holds : ((s : Scenario) → IsTrue (good s) → Inv (opening_scene s)) → (j : Journal) → IsTrue (good j.scenario) →
      length j.groups < 2 ^ 62 → IsLegal j
      → Inv (scene_of j.scenario (noted j.scenario j.groups) (world_after (opening j.scenario) j.groups))
  legal_holds first j is_good few legal = (inv_holds j.scenario j.groups is_good few (first j.scenario is_good) legal.steps).1

-- The parts of a run.

pub after_parts : (w : World) (gs more : List Group) → world_after w (gs ++ more) ≡ world_after (world_after w gs) more
after_parts w [] more = refl
after_parts w (g ∷ gs) more = after_parts (outcome w g.event).world gs more

pub steps_parts : (w : World) (gs more : List Group) → AreSteps w (gs ++ more) → AreSteps w gs
    × AreSteps (world_after w gs) more
steps_parts w [] more steps = (tt, steps)
steps_parts w (g ∷ gs) more steps = let rest = steps_parts (outcome w g.event).world gs more steps.1 in
    ((steps.0, rest.0), rest.1)

pub noted_parts : (s : Scenario) (gs more : List Group) → noted s (gs ++ more) ≡ noted s gs ++ noted s more
noted_parts s gs more = flat_map-append (noted_in s (session_nodes_from 1 [] s.sessions)) gs more
