-- The theorem over runs for a statement that speaks of the number of events so far.
use Rattle.std.proofs.Common.{◌≡◌, ◌≤◌, ◌<◌, ◌^◌, ◌+◌, ◌++◌, ℕ, List, [], ◌∷◌, not, sym, subst, arith, length, IsTrue}
use Rattle.std.specs.List.{flat_map}
use Rattle.std.specs.Prelude.{suc, ◌&&◌, ◌||◌}
use Rattle.frame_laws.proofs.Extending.{append_none, append_twice}
use Rattle.ignite_types.specs.Good.{good, good_caches, good_format, good_nodes, good_plan, good_sessions}
use Rattle.ignite_types.specs.declared.journal.Group.{Group}
use Rattle.ignite_types.specs.declared.journal.Journal.{Journal}
use Rattle.ignite_types.specs.declared.journal.Rec.{Rec}
use Rattle.ignite_types.specs.declared.scenario.Scenario.{Scenario}
use Rattle.journal_statements.specs.Noted.{Homes, Noted, actor, noted_for, noted_in}
use Rattle.link_laws.proofs.Journals.{first_rest}
use Rattle.link_laws.proofs.Openings.{opening_carries}
use Rattle.link_laws.proofs.Runs.{nodes_apart, plan_short}
use Rattle.scenes.specs.EachRun.{last_scene}
use Rattle.scenes.specs.Events.{EachEventLeads}
use Rattle.scenes.specs.Scenes.{Scene, opening_scene, scene_of}
use Rattle.scenes.proofs.Events.{event_goes}
use Rattle.scenes.proofs.Openings.{opening_base, opening_full, opening_is}
use Rattle.scenes.proofs.Runs.{Holds, group_holds}
use Rattle.scenes.proofs.Sounds.{Base, base_kept, sound_of}
use Rattle.tx_model.specs.Opening.{opening, session_nodes_from}
use Rattle.tx_model.specs.Runs.{AreSteps, IsLegal, IsStep, world_after}
use Rattle.tx_model.specs.World.{World, can_be, is_quiet, is_tick, outcome}

module _ (Inv : ℕ → Scene → Type 0) (leads : (k : ℕ) → k < 2 ^ 62 → EachEventLeads (Inv k) (Inv (suc k))) where
  abbrev session_nodes : Scenario → Homes
  session_nodes s = session_nodes_from 1 [] s.sessions

  group_counts : (k : ℕ) → k < 2 ^ 62 → (s : Scenario) (recs : List Noted) (w : World) (g : Group) →
      suc (length w.directory.events) < 2 ^ 63 → Holds Base s recs w → Inv k (scene_of s recs w) → IsStep w g
      → Inv (suc k) (scene_of s (recs ++ noted_in s (session_nodes s) g) (outcome w g.event).world)
  group_counts k few s recs w g room h i step =
      let can = first_rest (not w.broken && can_be w g.event) (not (is_tick g.event) || is_quiet w) step.possible_event in
      let possible = (first_rest (not w.broken) (can_be w g.event) can.0).1 in
      let w2 = (outcome w g.event).world in
      subst (λ (rs : List Rec).
      Inv (suc k) (scene_of s (recs ++ noted_for s (actor (session_nodes s) g.event) g.event rs) w2))
      (sym step.same_records)
      (subst (λ (nodes : Homes).
      Inv (suc k) (scene_of s (recs ++ noted_for s (actor nodes g.event) g.event (outcome w g.event).recs) w2))
      h.carries.session_nodes_are
      (event_goes (Inv k) (Inv (suc k)) (leads k few) s recs w h.carries (sound_of s recs w h.carries room h.base) h.full i
      g.event possible))

  run_counts : (k : ℕ) (s : Scenario) (recs : List Noted) (w : World) (gs : List Group) → length s.plan ≤ 64 →
      length w.directory.events + length gs < 2 ^ 63 → k + length gs < 2 ^ 62 → Holds Base s recs w →
      Inv k (scene_of s recs w) → AreSteps w gs
      → Inv (k + length gs) (scene_of s (recs ++ flat_map (noted_in s (session_nodes s)) gs) (world_after w gs))
  run_counts k s recs w [] short room few h i steps =
      subst (λ (n : ℕ). Inv n (scene_of s (recs ++ []) w)) (sym (none_more k))
      (subst (λ (rs : List Noted). Inv k (scene_of s rs w)) (sym (append_none recs)) i)
    where
      none_more : (n : ℕ) → n + 0 ≡ n
      none_more n = omega arith
  run_counts k s recs w (g ∷ gs) short room few h i steps =
      let next = group_holds Base base_kept s recs w g short (omega (arith, room)) h steps.0 in
      let more = next.1 in
      let one = group_counts k (omega (arith, few)) s recs w g (omega (arith, room)) h i steps.0 in
      let rest = run_counts (suc k) s (recs ++ noted_in s (session_nodes s) g) (outcome w g.event).world gs short
      (omega (arith, room, more)) (omega (arith, few)) next.0 one steps.1 in
      subst (λ (n : ℕ). Inv n (scene_of s (recs ++ flat_map (noted_in s (session_nodes s)) (g ∷ gs))
      (world_after w (g ∷ gs)))) (one_more k (length gs))
      (subst (λ (rs : List Noted). Inv (suc k + length gs) (scene_of s rs (world_after w (g ∷ gs))))
      (append_twice recs (noted_in s (session_nodes s) g) (flat_map (noted_in s (session_nodes s)) gs)) rest)
    where
      one_more : (n m : ℕ) → suc n + m ≡ n + suc m
      one_more n m = omega arith

  -- of the scene in which a legal run ends
  pub counted_holds : ((s : Scenario) → IsTrue (good s) → Inv 0 (opening_scene s)) → (j : Journal) →
      IsTrue (good j.scenario) → length j.groups < 2 ^ 62 → IsLegal j → Inv (length j.groups) (last_scene j)
  counted_holds first j is_good few legal =
      let s = j.scenario in
      let all = first_rest (good_format s.format s.caches && good_caches s.caches && good_nodes s && good_plan s)
      (good_sessions s) is_good in
      let four = first_rest (good_format s.format s.caches && good_caches s.caches && good_nodes s) (good_plan s) all.0 in
      let nodes = (first_rest (good_format s.format s.caches && good_caches s.caches) (good_nodes s) four.0).1 in
      let apart = nodes_apart s nodes in
      let counted = run_counts 0 s [] (opening s) j.groups (plan_short s four.1) (omega (arith, few)) (omega (arith, few))
      (record {
        carries = opening_carries s apart;
        base = subst Base (sym (opening_is s apart)) (opening_base s);
        full = opening_full s apart;
        inv = subst Base (sym (opening_is s apart)) (opening_base s);
      }) (subst (Inv 0) (sym (opening_is s apart)) (first s is_good)) legal.steps in
      subst (λ (n : ℕ). Inv n (last_scene j)) (from_none (length j.groups)) counted
    where
      from_none : (n : ℕ) → 0 + n ≡ n
      from_none n = omega arith
