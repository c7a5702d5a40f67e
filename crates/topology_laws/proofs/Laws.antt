-- The laws of topology hold in every run.
use Rattle.std.proofs.Common.{◌≡◌, ◌≤◌, ◌<◌, ◌^◌, ◌++◌, List, [], ◌∷◌, Option, Some, None, Bool, true, false, length, ℕ, zero, suc, refl, ap, sym, subst, ◌∙◌, arith}
use Rattle.std.specs.List.{list_all}
use Rattle.std.specs.Prelude.{IsTrue, take}
use Rattle.ignite_types.proofs.NameLaws.{same_top_itself, same_top_true}
use Rattle.ignite_types.specs.Good.{good}
use Rattle.ignite_types.specs.Names.{same_top}
use Rattle.ignite_types.specs.declared.journal.Journal.{Journal}
use Rattle.ignite_types.specs.declared.journal.Rec.{Rec}
use Rattle.ignite_types.specs.declared.journal.TopoEvent.{TopoEvent}
use Rattle.ignite_types.specs.declared.names.TopVer.{TopVer}
use Rattle.ignite_types.specs.declared.placement.PartMap.{PartMap}
use Rattle.journal_statements.specs.Noted.{Noted, each_from, map_of_version, maps_installed, noted}
use Rattle.journal_statements.specs.Topologies.{Topology, first_topology, last_topology, topologies, topologies_from, topology_after, topology_of}
use Rattle.link_laws.proofs.SameMessages.{same_map_itself}
use Rattle.topology_laws.specs.TopologyFacts.{RecordsFitFrom, RecordFits, is_lost_or_has_installed}
use Rattle.topology_laws.specs.TopologyInvariant.{TopologyInvariant}
use Rattle.topology_laws.specs.TopologyLaws.{OpensOnce, all_have_map, installs_one_map, is_opened_after_all, is_same_or_first, one_map, opens_after_all}
use Rattle.scenes.specs.Scenes as scenes
use Rattle.scenes.proofs.EachRun.{directory_told, few}
use Rattle.scenes.proofs.Runs as runs
use Rattle.scenes.specs.EachRun.{IsRunOf, is_short_run}
use Rattle.topology_laws.specs.TopologyScenes.{TopologyScene, topology_at, topology_scene}
use Rattle.topology_laws.proofs.KeptAll.{Topologies, opening_kept, topologies_kept}
use Rattle.topology_laws.proofs.Tops.{one_place}
use Rattle.tx_model.specs.Opening.{opening}
use Rattle.tx_model.specs.Runs.{IsLegal, world_after}
use Rattle.ignite_types.specs.declared.journal.Rec.TheVariants as note

abbrev end_of : Journal → TopologyScene
end_of j = topology_scene (scenes.scene_of j.scenario (noted j.scenario j.groups) (world_after (opening j.scenario) j.groups))

pub legal_holds : (j : Journal) → IsTrue (good j.scenario) → length j.groups < 2 ^ 62 → IsLegal j → TopologyInvariant (end_of j)
legal_holds j is_good few legal = runs.legal_holds Topologies topologies_kept (λ s is. opening_kept s) j is_good few legal

-- From what fits to the tests.

map_passes : (m : PartMap) (o : Option PartMap) → ((there : PartMap) → o ≡ Some there → m ≡ there) → is_same_or_first m o ≡ true
map_passes m None fits = refl
map_passes m (Some there) fits = subst (λ (x : PartMap). is_same_or_first m (Some x) ≡ true) (fits there refl)
    (same_map_itself m)

one_map_passes : (sc : TopologyScene) (before : List Noted) (r : Rec) → RecordFits sc before r →
    installs_one_map sc.scenario before r ≡ true
one_map_passes sc before (note.Install m) fits = map_passes m (map_of_version (maps_installed sc.scenario before) m.top) fits
one_map_passes sc before _ fits = refl

-- the first topology of a version
pub record FoundAt (t : Topology) (es : List TopoEvent) (top : TopVer) : Type 0 where
  pub place : ℕ
  pub within : place ≤ length es
  pub is_top : (last_topology t (take place es)).top ≡ top
  pub found : topology_of (topologies_from t es) top ≡ Some (last_topology t (take place es))

pub find_first : (t : Topology) (es : List TopoEvent) (k : ℕ) (top : TopVer) → k ≤ length es →
    (last_topology t (take k es)).top ≡ top → FoundAt t es top
find_first t [] zero top within is = record {
  place = 0;
  within = within;
  is_top = is;
  found =
      rw is (rw (same_top_itself top) refl);
}
find_first t [] (suc k) top within is = absurd (omega (arith, within))
find_first t (e ∷ es) zero top within is = record {
  place = 0;
  within = within;
  is_top = is;
  found =
      rw is (rw (same_top_itself top) refl);
}
find_first t (e ∷ es) (suc k) top within is =
    let rest = find_first (topology_after t e) es k top (omega (arith, within)) is in
    elim (same_top t.top top) as (λ b. same_top t.top top ≡ b → FoundAt t (e ∷ es) top) [
      | true ↦ λ same. record { place = 0; within = omega arith; is_top = same_top_true t.top top same; found = rw same refl }
      | false ↦ λ other. record {
        place = suc rest.place;
        within = (let below = rest.within in omega (arith, below));
        is_top =
            rest.is_top;
        found = rw other rest.found;
      }
    ] refl

opened_passes : (sc : TopologyScene) (before : List Noted) (r : Rec) → length sc.events < 2 ^ 63 → RecordFits sc before r →
    is_opened_after_all (topologies_from (first_topology sc.scenario) sc.events) before r ≡ true
opened_passes sc before (note.Opened top) short fits =
    let found = find_first (first_topology sc.scenario) sc.events fits.place top fits.within fits.is_top in
    let same : found.place ≡ fits.place = one_place sc.scenario sc.events found.place fits.place short found.within
    fits.within (found.is_top ∙ sym fits.is_top) in
    ap (all_have_map before top) found.found
    ∙ ap (λ (k : ℕ). list_all (is_lost_or_has_installed before top) (topology_at sc k).members) same ∙ fits.all
opened_passes sc before _ short fits = refl

each_passes : (sc : TopologyScene) (test : List Noted → Noted → Bool) →
    ((before : List Noted) (n : Noted) → RecordFits sc before n.rec → test before n ≡ true) → (before ns : List Noted) →
    RecordsFitFrom sc before ns → each_from test before ns ≡ true
each_passes sc test one before [] fit = refl
each_passes sc test one before (n ∷ ns) fit = rw (one before n fit.0) (each_passes sc test one (before ++ n ∷ []) ns fit.1)

module _ (events : ℕ) (short : is_short_run events ≡ true) (j : Journal) (run : IsRunOf events j) where
  abbrev sc : TopologyScene
  sc = end_of j

  holds : TopologyInvariant sc
  holds = legal_holds j run.is_good (few events short j run) run.is_legal

  pub one_map_holds : one_map j ≡ true
  one_map_holds = each_passes sc (λ (before : List Noted) (n : Noted). installs_one_map j.scenario before n.rec)
      (λ before n fits. one_map_passes sc before n.rec fits) [] (noted j.scenario j.groups) holds.fit

  -- the versions of the directory are those of the journal
  pub versions_are : topologies_from (first_topology j.scenario) sc.events ≡ topologies j
  versions_are = ap (topologies_from (first_topology j.scenario)) (directory_told events short j run)

  pub opens_after_all_holds : opens_after_all j ≡ true
  opens_after_all_holds =
      subst (λ (ts : List Topology). each_from (λ (before : List Noted) (n : Noted). is_opened_after_all ts before n.rec) []
      (noted j.scenario j.groups) ≡ true) versions_are
      (each_passes sc (λ (before : List Noted) (n : Noted).
      is_opened_after_all (topologies_from (first_topology j.scenario) sc.events) before n.rec)
      (λ before n fits. opened_passes sc before n.rec holds.few fits) [] (noted j.scenario j.groups) holds.fit)

  pub opens_once_holds : OpensOnce j
  opens_once_holds node top = let once = holds.once node node top in omega (arith, once)
