-- The laws of maps hold in every run.
use Rattle.std.proofs.Common.{◌≡◌, ◌≤◌, ◌<◌, ◌^◌, ◌⊎◌, inl, inr, ◌++◌, ◌&&◌, ◌||◌, List, [], ◌∷◌, Option, Some, None, Bool, true, false, if◌then◌else◌, not, length, ℕ, refl, ap, sym, subst, ◌∙◌, arith}
use Rattle.std.specs.List.{flat_map, list_all, list_any}
use Rattle.std.proofs.lemmas.Bool.Decides.{nat_tests}
use Rattle.act_rows.specs.Exchange.{all_sent}
use Rattle.part_model.specs.Directory.{first_top, oldest_member}
use Rattle.part_model.specs.NextMap.{is_higher, is_member, newest_map_from, next_map}
use Rattle.part_model.specs.Orders.{is_lower_top, is_node}
use Rattle.ignite_types.proofs.NameLaws.{same_node_itself}
use Rattle.ignite_types.specs.Names.{same_node}
use Rattle.ignite_types.specs.declared.journal.Journal.{Journal}
use Rattle.ignite_types.specs.declared.journal.Rec.{Rec}
use Rattle.ignite_types.specs.declared.journal.TopoEvent.{TopoEvent}
use Rattle.ignite_types.specs.declared.names.NodeId.{NodeId}
use Rattle.ignite_types.specs.declared.names.TopVer.{TopVer}
use Rattle.ignite_types.specs.declared.placement.PartMap.{PartMap}
use Rattle.ignite_types.specs.declared.scenario.Member.{Member}
use Rattle.ignite_types.specs.declared.scenario.Scenario.{Scenario}
use Rattle.journal_statements.specs.Maps.{is_map_from, singles_at}
use Rattle.journal_statements.specs.Noted.{Noted, each_from, is_lost, map_in, map_of_version, maps_installed, noted, recs_of}
use Rattle.journal_statements.specs.SameMessages.{same_map}
use Rattle.journal_statements.specs.Topologies.{Topology, first_topology, topologies, topologies_from, topology_of}
use Rattle.link_laws.proofs.SameMessages.{same_map_itself}
use Rattle.map_laws.proofs.MapKept.{maps_kept, opening_holds}
use Rattle.map_laws.specs.MapFacts.{HasNoneAbove, IsAboveEarlier, IsComputedMap, IsKnownMap, NotedMapFits, NotedMapsFit, maps_by, topology_after_events}
use Rattle.map_laws.specs.MapInvariant.{TopologyAndMaps}
use Rattle.map_laws.specs.MapLaws.{has_highest_base_by, has_highest_base_of, highest_bases, installs_above, installs_next_map, installs_on_highest, is_above_earlier, is_first_up_to, is_highest_base, is_known_or_next, is_known_or_on_highest, is_lower_at, is_next_of, is_record_up_to, is_up_to_base, next_maps, rising_maps}
use Rattle.scenes.proofs.EachRun.{few}
use Rattle.scenes.proofs.Runs.{legal_holds}
use Rattle.scenes.specs.EachRun.{IsRunOf, is_short_run, last_scene}
use Rattle.topology_laws.proofs.Laws.{find_first, versions_are}
use Rattle.topology_laws.proofs.Records.{or_second}
use Rattle.topology_laws.proofs.Tops.{below_lower, one_place}
use Rattle.topology_laws.specs.TopologyFacts.{HasAtLeast, HoldsOfEach, IsBelow, IsUpTo, RecordFits, RecordsFitFrom}
use Rattle.topology_laws.specs.TopologyScenes.{TopologyScene, topology_scene}
use Rattle.ignite_types.specs.declared.journal.Rec.TheVariants as note

-- the first topology of the version at this place is the one there
at_place : (s : Scenario) (es : List TopoEvent) (k : ℕ) (top : TopVer) → length es < 2 ^ 63 → k ≤ length es →
    (topology_after_events s es k).top ≡ top
    → topology_of (topologies_from (first_topology s) es) top ≡ Some (topology_after_events s es k)
at_place s es k top short within is =
    let found = find_first (first_topology s) es k top within is in
    let same : found.place ≡ k = one_place s es found.place k short found.within within (found.is_top ∙ sym is) in
    found.found ∙ ap (λ (i : ℕ). Some (topology_after_events s es i)) same

-- Each record passes a test, where what fits passes it.
each_passes : (sc : TopologyScene) (s : Scenario) (es : List TopoEvent) (test : List Noted → Noted → Bool) →
    ((before : List Noted) (n : Noted) → RecordFits sc before n.rec → NotedMapFits s es before n.node n.rec →
    test before n ≡ true)
    → (before ns : List Noted) → RecordsFitFrom sc before ns → NotedMapsFit s es before ns → each_from test before ns ≡ true
each_passes sc s es test one before [] first fit = refl
each_passes sc s es test one before (n ∷ ns) first fit =
    rw (one before n first.0 fit.0) (each_passes sc s es test one (before ++ n ∷ []) ns first.1 fit.1)

-- Next maps.

module _ (s : Scenario) (before : List Noted) (m : PartMap) where
  next_at : (by : NodeId) (t : Topology) → t.top ≡ m.top → oldest_member t.members ≡ Some by →
      all_sent t.members (singles_at before by m.top) ≡ true
      → m ≡ next_map m.top t.members s.caches t.running (singles_at before by m.top) → is_next_of s before m (Some t) ≡ true
  next_at by t top oldest sent next =
      ap (is_map_from s before t m) oldest
      ∙ subst (λ (v : TopVer). (all_sent t.members (singles_at before by v)
      && same_map m (next_map v t.members s.caches t.running (singles_at before by v))) ≡ true) (sym top)
      (rw sent (subst (λ (x : PartMap). same_map m x ≡ true) next (same_map_itself m)))

  next_passes : (es : List TopoEvent) → length es < 2 ^ 63 → IsComputedMap s es before m →
      is_next_of s before m (topology_of (topologies_from (first_topology s) es) m.top) ≡ true
  next_passes es short c =
      ap (is_next_of s before m) (at_place s es c.place m.top short c.within c.is_top)
      ∙ next_at c.by (topology_after_events s es c.place) c.is_top c.is_oldest c.sent c.is_next

  known_or_next : (es : List TopoEvent) → length es < 2 ^ 63 →
      ((there : PartMap) → map_of_version (maps_installed s before) m.top ≡ Some there → m ≡ there) → IsKnownMap s before m
      ⊎ IsComputedMap s es before m
      → (o : Option PartMap) → map_of_version (maps_installed s before) m.top ≡ o →
      is_known_or_next s (topologies_from (first_topology s) es) before m o ≡ true
  known_or_next es short one (inl known) None none = let is = known.is_map in absurd (cc (is, none))
  known_or_next es short one (inr next) None none = next_passes es short next
  known_or_next es short one fits (Some there) is = subst (λ (x : PartMap). same_map m x ≡ true) (one there is)
      (same_map_itself m)

-- Highest bases.

both_pass : (a b : Bool) → a ≡ true → b ≡ true → (a && b) ≡ true
both_pass a b first second = rw first second

either_passes : (a b : Bool) → (a ≡ false → b ≡ true) → (a || b) ≡ true
either_passes true b goes = refl
either_passes false b goes = goes refl

up_not_higher : (a b : TopVer) → IsUpTo a b → not (is_higher a b) ≡ true
up_not_higher a b (inl less) = grind (arith, nat_tests, less)
up_not_higher a b (inr up) = grind (arith, nat_tests, up.0, up.1)

up_passes : (base : Option PartMap) (x : PartMap) → HasAtLeast x.top base → is_up_to_base base x ≡ true
up_passes None x has = absurd has
up_passes (Some b) x has = up_not_higher x.top b.top has

each_drop : {A : Type 0} (P : A → Type 0) (xs ys : List A) → HoldsOfEach P (xs ++ ys) → HoldsOfEach P ys
each_drop P [] ys all = all
each_drop P (x ∷ xs) ys all = each_drop P xs ys all.1

-- what holds of each map that a node installed, where its records begin with this one
head_of : (P : PartMap → Type 0) (k : NodeId) (x : PartMap) (ns : List Noted) →
    HoldsOfEach P (maps_by k (record { node = Some k; rec = note.Install x } ∷ ns)) → P x
head_of P k x ns all = (subst
    (λ (c : Bool). HoldsOfEach P (flat_map map_in ((if c then note.Install x ∷ [] else []) ++ recs_of k ns)))
    (same_node_itself k) all).0

rest_of : (P : PartMap → Type 0) (k : NodeId) (n : Noted) (ns : List Noted) → HoldsOfEach P (maps_by k (n ∷ ns)) →
    HoldsOfEach P (maps_by k ns)
rest_of P k n ns all = by (is_node k n.node) all
  where
    by : (c : Bool) → HoldsOfEach P (flat_map map_in ((if c then n.rec ∷ [] else []) ++ recs_of k ns)) →
        HoldsOfEach P (maps_by k ns)
    by true some = each_drop P (map_in n.rec) (maps_by k ns) some
    by false none = none

records_up : (before : List Noted) (base : Option PartMap) (ns : List Noted) →
    ((k : NodeId) → is_lost before k ≡ false → HoldsOfEach (λ (x : PartMap). HasAtLeast x.top base) (maps_by k ns))
    → list_all (λ (n : Noted). is_record_up_to before base n.node n.rec) ns ≡ true
records_up before base [] all = refl
records_up before base (n ∷ ns) all =
    both_pass (is_record_up_to before base n.node n.rec) (list_all (λ (x : Noted). is_record_up_to before base x.node x.rec) ns)
    (one n.node n.rec (λ k lives. all k lives))
    (records_up before base ns (λ k lives. rest_of (λ (x : PartMap). HasAtLeast x.top base) k n ns (all k lives)))
  where
    one : (who : Option NodeId) (r : Rec) →
        ((k : NodeId) → is_lost before k ≡ false → HoldsOfEach (λ (x : PartMap). HasAtLeast x.top base)
        (maps_by k (record { node = who; rec = r } ∷ ns))) → is_record_up_to before base who r ≡ true
    one (Some k) (note.Install x) here = either_passes (is_lost before k) (is_up_to_base base x)
        (λ lives. up_passes base x (head_of (λ (y : PartMap). HasAtLeast y.top base) k x ns (here k lives)))
    one who _ here = refl

members_up : (s : Scenario) (before : List Noted) (base : Option PartMap) →
    ((k : NodeId) → is_lost before k ≡ false → HasNoneAbove s before base k) → (ms : List Member)
    → ((m : Member) → list_any (λ (x : Member). same_node m.node x.node) ms ≡ true → is_member s.nodes m.node ≡ true) →
    list_all (is_first_up_to before base) ms ≡ true
members_up s before base none [] inside = refl
members_up s before base none (m ∷ ms) inside =
    both_pass (is_first_up_to before base m) (list_all (is_first_up_to before base) ms)
    (by base (is_lost before m.node) refl
    (λ lives. (none m.node lives).of_first (inside m (rw (same_node_itself m.node) refl))))
    (members_up s before base none ms
    (λ x there. inside x (or_second (same_node x.node m.node) (list_any (λ (y : Member). same_node x.node y.node) ms)
    there)))
  where
    by : (o : Option PartMap) (c : Bool) → is_lost before m.node ≡ c → (c ≡ false → HasAtLeast first_top o) →
        is_first_up_to before o m ≡ true
    by None true lost has = lost
    by None false lost has = absurd (has refl)
    by (Some b) true lost has = rw lost refl
    by (Some b) false lost has = rw lost (up_not_higher first_top b.top (has refl))

base_passes : (s : Scenario) (before : List Noted) (base : Option PartMap) →
    ((k : NodeId) → is_lost before k ≡ false → HasNoneAbove s before base k) → is_highest_base s before base ≡ true
base_passes s before base none =
    both_pass (list_all (λ (n : Noted). is_record_up_to before base n.node n.rec) before)
    (list_all (is_first_up_to before base) s.nodes)
    (records_up before base before (λ k lives. (none k lives).of_each))
    (members_up s before base none s.nodes (λ m there. there))

highest_passes : (s : Scenario) (es : List TopoEvent) (before : List Noted) (m : PartMap) → length es < 2 ^ 63 →
    IsComputedMap s es before m → has_highest_base_of s before m (topology_of (topologies_from (first_topology s) es) m.top)
    ≡ true
highest_passes s es before m short c =
    ap (has_highest_base_of s before m) (at_place s es c.place m.top short c.within c.is_top)
    ∙ ap (has_highest_base_by s before m) c.is_oldest
    ∙ base_passes s before (newest_map_from None (singles_at before c.by m.top)) c.has_highest

known_or_highest : (s : Scenario) (es : List TopoEvent) (before : List Noted) (m : PartMap) → length es < 2 ^ 63 →
    IsKnownMap s before m ⊎ IsComputedMap s es before m
    → (o : Option PartMap) → map_of_version (maps_installed s before) m.top ≡ o →
    is_known_or_on_highest s (topologies_from (first_topology s) es) before m o ≡ true
known_or_highest s es before m short (inl known) None none = let is = known.is_map in absurd (cc (is, none))
known_or_highest s es before m short (inr next) None none = highest_passes s es before m short next
known_or_highest s es before m short fits (Some there) is = refl

-- Maps rise.

records_lower : (node : NodeId) (m : PartMap) (ns : List Noted) → HoldsOfEach (λ (x : PartMap). IsBelow x.top m.top)
    (maps_by node ns) → list_all (λ (n : Noted). is_lower_at node m n.node n.rec) ns ≡ true
records_lower node m [] all = refl
records_lower node m (n ∷ ns) all =
    both_pass (is_lower_at node m n.node n.rec) (list_all (λ (x : Noted). is_lower_at node m x.node x.rec) ns)
    (one n.rec all) (records_lower node m ns (rest_of (λ (x : PartMap). IsBelow x.top m.top) node n ns all))
  where
    one : (r : Rec) → HoldsOfEach (λ (x : PartMap). IsBelow x.top m.top)
        (maps_by node (record { node = n.node; rec = r } ∷ ns)) → is_lower_at node m n.node r ≡ true
    one (note.Install x) here = by (is_node node n.node) here
      where
        by : (c : Bool) → HoldsOfEach (λ (y : PartMap). IsBelow y.top m.top)
            (flat_map map_in ((if c then note.Install x ∷ [] else []) ++ recs_of node ns)) →
            (not c || is_lower_top x.top m.top) ≡ true
        by true some = below_lower x.top m.top some.0
        by false none = refl
    one _ here = refl

above_passes : (s : Scenario) (before : List Noted) (m : PartMap) (who : Option NodeId) →
    ((node : NodeId) → who ≡ Some node → IsAboveEarlier s before m node) → is_above_earlier s before m who ≡ true
above_passes s before m None rises = refl
above_passes s before m (Some node) rises =
    let r = rises node refl in
    both_pass (list_all (λ (n : Noted). is_lower_at node m n.node n.rec) before) (not (is_member s.nodes node)
    || is_lower_top first_top m.top)
    (records_lower node m before r.of_each) (by (is_member s.nodes node) r.of_first)
  where
    by : (c : Bool) → (c ≡ true → IsBelow first_top m.top) → (not c || is_lower_top first_top m.top) ≡ true
    by true first = below_lower first_top m.top (first refl)
    by false first = refl

-- Of every run.

module _ (events : ℕ) (short : is_short_run events ≡ true) (j : Journal) (run : IsRunOf events j) where
  holds : TopologyAndMaps (last_scene j)
  holds = legal_holds TopologyAndMaps maps_kept (λ s is. opening_holds s) j run.is_good (few events short j run) run.is_legal

  abbrev es : List TopoEvent
  es = (last_scene j).directory.events

  of_each : (test : List Noted → Noted → Bool) →
      ((before : List Noted) (n : Noted) → RecordFits (topology_scene (last_scene j)) before n.rec →
      NotedMapFits j.scenario es before n.node n.rec → test before n ≡ true)
      → each_from test [] (noted j.scenario j.groups) ≡ true
  of_each test one = each_passes (topology_scene (last_scene j)) j.scenario es test one [] (noted j.scenario j.groups)
      holds.topology.fit holds.maps.maps

  abbrev versions : List Topology
  versions = topologies_from (first_topology j.scenario) es

  next_one : (before : List Noted) (who : Option NodeId) (r : Rec) → RecordFits (topology_scene (last_scene j)) before r →
      NotedMapFits j.scenario es before who r → installs_next_map j.scenario versions before r ≡ true
  next_one before who (note.Install m) first fits =
      known_or_next j.scenario before m es holds.topology.few first fits.known_or_next
      (map_of_version (maps_installed j.scenario before) m.top) refl
  next_one before who _ first fits = refl

  -- of the journal's own versions
  told : (test : List Topology → List Noted → Noted → Bool) → each_from (test versions) [] (noted j.scenario j.groups)
      ≡ true → each_from (test (topologies j)) [] (noted j.scenario j.groups) ≡ true
  told test passes = subst (λ (ts : List Topology). each_from (test ts) [] (noted j.scenario j.groups) ≡ true)
      (versions_are events short j run) passes

  pub next_maps_hold : next_maps j ≡ true
  next_maps_hold = told (λ ts before n. installs_next_map j.scenario ts before n.rec)
      (of_each (λ (before : List Noted) (n : Noted). installs_next_map j.scenario versions before n.rec)
      (λ before n first fits. next_one before n.node n.rec first fits))

  highest_one : (before : List Noted) (who : Option NodeId) (r : Rec) → NotedMapFits j.scenario es before who r →
      installs_on_highest j.scenario versions before r ≡ true
  highest_one before who (note.Install m) fits = known_or_highest j.scenario es before m holds.topology.few fits.known_or_next
      (map_of_version (maps_installed j.scenario before) m.top) refl
  highest_one before who _ fits = refl

  pub highest_bases_hold : highest_bases j ≡ true
  highest_bases_hold = told (λ ts before n. installs_on_highest j.scenario ts before n.rec)
      (of_each (λ (before : List Noted) (n : Noted). installs_on_highest j.scenario versions before n.rec)
      (λ before n first fits. highest_one before n.node n.rec fits))

  rising_one : (before : List Noted) (who : Option NodeId) (r : Rec) → NotedMapFits j.scenario es before who r →
      installs_above j.scenario before who r ≡ true
  rising_one before who (note.Install m) fits = above_passes j.scenario before m who fits.rises
  rising_one before who _ fits = refl

  pub rising_maps_hold : rising_maps j ≡ true
  rising_maps_hold = of_each (λ (before : List Noted) (n : Noted). installs_above j.scenario before n.node n.rec)
      (λ before n first fits. rising_one before n.node n.rec fits)
