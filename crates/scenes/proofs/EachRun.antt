-- What the theorem says of every legal run that is short enough.
use Rattle.std.proofs.Common.{◌≡◌, ◌<◌, ◌^◌, ◌++◌, List, Bool, true, length, ℕ, subst, sym, arith}
use Rattle.std.specs.Prelude.{drop, take}
use Rattle.std.proofs.lemmas.Bool.Decides.{nat_tests}
use Rattle.std.proofs.lemmas.List.{take-append-drop}
use Rattle.ignite_types.specs.declared.journal.Group.{Group}
use Rattle.ignite_types.specs.declared.journal.Journal.{Journal}
use Rattle.ignite_types.specs.declared.names.NodeId.{NodeId}
use Rattle.journal_statements.specs.Noted.{noted}
use Rattle.journal_statements.specs.Topologies.{topology_events}
use Rattle.scenes.specs.EachRun.{IsKeptTest, IsKeptViewTest, IsRunOf, StaysLost, is_short_run, last_scene, scene_at}
use Rattle.scenes.specs.Events.{IsSound}
use Rattle.scenes.specs.Scenes.{Scene, scene_of}
use Rattle.scenes.specs.Views.{FlightView, flight_view}
use Rattle.scenes.proofs.DirectoryEvents.{events_told}
use Rattle.scenes.proofs.LostNodes.{frozen_after}
use Rattle.scenes.proofs.Openings.{opening_base}
use Rattle.scenes.proofs.Runs.{inv_holds, legal_holds}
use Rattle.scenes.proofs.Sounds.{Base, base_kept}
use Rattle.scenes.proofs.ViewEvents.{views_kept}
use Rattle.tx_model.specs.Opening.{opening}
use Rattle.tx_model.specs.Runs.{AreSteps, world_after}
use Rattle.node_state.specs.declared.life.Life.TheVariants as life

module _ (events : ℕ) (short : is_short_run events ≡ true) (j : Journal) (run : IsRunOf events j) where
  pub few : length j.groups < 2 ^ 62
  few = let count = run.has_events in grind (arith, nat_tests, short, count)

  pub test_holds : (test : Scene → Bool) → IsKeptTest test → test (last_scene j) ≡ true
  test_holds test kept = legal_holds (λ (sc : Scene). test sc ≡ true) kept.by_events kept.at_opening j run.is_good few
      run.is_legal

  pub view_test_holds : (test : FlightView → Bool) → IsKeptViewTest test → test (flight_view (last_scene j)) ≡ true
  view_test_holds test kept =
      legal_holds (λ (sc : Scene). test (flight_view sc) ≡ true)
      (views_kept (λ (v : FlightView). test v ≡ true) kept.by_events) kept.at_opening j run.is_good few run.is_legal

  pub sound_holds : IsSound (last_scene j)
  sound_holds = (inv_holds Base base_kept j.scenario j.groups run.is_good few (opening_base j.scenario) run.is_legal.steps).0

  pub lost_stay : (k : ℕ) (n : NodeId) → (scene_at j k).life n ≡ life.Gone → StaysLost n (scene_at j k) (last_scene j)
  lost_stay k n lost =
      let s = j.scenario in
      let gs : List Group = take k j.groups in
      let more : List Group = drop k j.groups in
      let whole : gs ++ more ≡ j.groups = take-append-drop k j.groups in
      let frozen = frozen_after s gs more run.is_good (subst (λ (xs : List Group). length xs < 2 ^ 62) (sym whole) few)
      (subst (λ (xs : List Group). AreSteps (opening s) xs) (sym whole) run.is_legal.steps) n lost in
      let at_end = subst (λ (xs : List Group). StaysLost n (scene_at j k)
      (scene_of s (noted s xs) (world_after (opening s) xs))) whole
      (record { lost = frozen.lost; same_state = frozen.same }) in
      at_end

  pub directory_told : (last_scene j).directory.events ≡ topology_events j.scenario j.groups
  directory_told = events_told j.scenario j.groups run.is_good few run.is_legal.steps
