-- The laws of placement, of each journal.
use Rattle.std.proofs.Common.{◌≡◌, ◌<◌, ◌≤◌, ◌^◌, ◌++◌, ◌&&◌, ◌||◌, ◌⊎◌, inl, inr, ℕ, List, [], ◌∷◌, Bool, true, false, Option, Some, refl, ap, sym, subst, ◌∙◌, length, IsTrue}
use Rattle.std.specs.List.{flat_map, list_all, list_any}
use Rattle.std.specs.Prelude.{nat_le}
use Rattle.std.proofs.lemmas.List.Concat.{flat_map-append}
use Rattle.act_rows.specs.NewNodes.{opening_map_of}
use Rattle.frame_laws.proofs.Extending.{append_none, append_twice}
use Rattle.ignite_types.proofs.NameLaws.{same_top_itself}
use Rattle.ignite_types.specs.Good.{good, good_caches, good_format, good_nodes, good_plan, good_sessions, are_distinct, is_within, members, same_member_node}
use Rattle.ignite_types.specs.Affinity.{opening_rows}
use Rattle.ignite_types.specs.Names.{same_top}
use Rattle.ignite_types.specs.declared.limits.TheConstants.{NODES, NODE_NUMBERS}
use Rattle.ignite_types.specs.declared.journal.Journal.{Journal}
use Rattle.ignite_types.specs.declared.journal.Rec.{Rec}
use Rattle.ignite_types.specs.declared.journal.TopoEvent.{TopoEvent}
use Rattle.ignite_types.specs.declared.message.Single.{Single}
use Rattle.ignite_types.specs.declared.names.NodeId.{NodeId}
use Rattle.ignite_types.specs.declared.names.TopVer.{TopVer}
use Rattle.ignite_types.specs.declared.placement.PartMap.{PartMap}
use Rattle.ignite_types.specs.declared.scenario.Member.{Member}
use Rattle.ignite_types.specs.declared.scenario.Scenario.{Scenario}
use Rattle.journal_statements.specs.Maps.{opening_map_fits, owned_where_run, singles_at}
use Rattle.journal_statements.specs.Noted.{Noted, each_from, map_in, maps_installed, noted}
use Rattle.journal_statements.specs.Topologies.{Topology, first_topology, topologies, topologies_from, topology_of}
use Rattle.link_laws.proofs.Journals.{first_rest}
use Rattle.map_laws.proofs.MapKept.{maps_kept, opening_holds}
use Rattle.map_laws.specs.MapFacts.{IsComputedMap, IsKnownMap, NotedMapFits, NotedMapsFit, next_map_at, topology_after_events}
use Rattle.map_laws.specs.MapInvariant.{TopologyAndMaps}
use Rattle.part_model.specs.Directory.{first_top, running_from}
use Rattle.part_model.specs.NextMap.{base_map, is_member, servers}
use Rattle.placement_laws.proofs.MemberRows.{next_pass, opening_pass, servers_pass}
use Rattle.placement_laws.proofs.Rows.{both_pass, next_placed, opening_owned, opening_placed}
use Rattle.placement_laws.specs.PlacementLaws.{bare_where_stopped, held_by_members, holds_only, installs_fitting, is_bare_in, is_held_by_members, owned_only_where_run}
use Rattle.scenes.proofs.EachRun.{few}
use Rattle.scenes.proofs.Runs.{legal_holds}
use Rattle.scenes.specs.EachRun.{IsRunOf, is_short_run, last_scene}
use Rattle.topology_laws.proofs.Laws.{find_first, versions_are}
use Rattle.topology_laws.proofs.Lists.{each_both, found_there}
use Rattle.topology_laws.proofs.Tops.{one_place}
use Rattle.topology_laws.specs.TopologyFacts.{HoldsOfEach}
use Rattle.ignite_types.specs.declared.journal.Rec.TheVariants as note

-- The opening map.

pub some_server : (ms : List Member) → list_any (λ (m : Member). m.server) ms ≡ true → (n : NodeId) × (more : List NodeId)
    × (servers ms ≡ n ∷ more)
some_server [] none = absurd (cc (none))
some_server (m ∷ ms) some = by m.server refl some (some_server ms)
  where
    by : (c : Bool) → m.server ≡ c → (c || list_any (λ (x : Member). x.server) ms) ≡ true →
        (list_any (λ (x : Member). x.server) ms ≡ true → (n : NodeId) × (more : List NodeId) × (servers ms ≡ n ∷ more)) →
        (n : NodeId) × (more : List NodeId) × (servers (m ∷ ms) ≡ n ∷ more)
    by true is some rest = (m.node, servers ms, rw is refl)
    by false is some rest = let later = rest some in (later.0, later.1, rw is later.2)

pub opening_map_holds : (s : Scenario) → IsTrue (good s) → opening_map_fits s ≡ true
opening_map_holds s is_good =
    let all = first_rest (good_format s.format s.caches && good_caches s.caches && good_nodes s && good_plan s)
    (good_sessions s) is_good in
    let four = first_rest (good_format s.format s.caches && good_caches s.caches && good_nodes s) (good_plan s) all.0 in
    let nodes = (first_rest (good_format s.format s.caches && good_caches s.caches) (good_nodes s) four.0).1 in
    let some = some_server s.nodes (served s nodes) in
    subst (λ (ns : List NodeId). owned_where_run (running_from 0 s.caches) 0 s.caches
    (opening_rows ns (running_from 0 s.caches) 0 s.caches) ≡ true) (sym some.2)
    (opening_owned some.0 some.1 (running_from 0 s.caches) 0 s.caches)
  where
    served : (s : Scenario) → good_nodes s ≡ true → list_any (λ (m : Member). m.server) s.nodes ≡ true
    served s nodes = (first_rest (list_all (λ (m : Member). is_within 1 NODE_NUMBERS m.node.0) (members s)
        && are_distinct same_member_node (members s) && nat_le (length (members s)) NODES)
        (list_any (λ (m : Member). m.server) s.nodes) nodes).1

-- Later maps.

-- the first topology of the version at this place is the one there
pub at_place : (s : Scenario) (es : List TopoEvent) (k : ℕ) (top : TopVer) → length es < 2 ^ 63 → k ≤ length es →
    (topology_after_events s es k).top ≡ top
    → topology_of (topologies_from (first_topology s) es) top ≡ Some (topology_after_events s es k)
at_place s es k top short within is =
    let found = find_first (first_topology s) es k top within is in
    let same : found.place ≡ k = one_place s es found.place k short found.within within (found.is_top ∙ sym is) in
    found.found ∙ ap (λ (i : ℕ). Some (topology_after_events s es i)) same

longer : (s : Scenario) (before : List Noted) (n : Noted) → maps_installed s (before ++ n ∷ []) ≡ maps_installed s before
    ++ map_in n.rec
longer s before n = ap (λ (ms : List PartMap). opening_map_of s ∷ ms) (flat_map-append (λ (x : Noted). map_in x.rec) before
    (n ∷ []) ∙ ap (λ (ms : List PartMap). flat_map (λ (x : Noted). map_in x.rec) before ++ ms) (append_none (map_in n.rec)))

-- A test that the opening map passes, and each next map with its topology, is passed by each map that is installed.
module _
    (s : Scenario)
    (es : List TopoEvent)
    (short : length es < 2 ^ 63)
    (fits : PartMap → Option Topology → Bool)
    (opens : fits (opening_map_of s) (Some (first_topology s)) ≡ true)
    (goes_on : (t : Topology) (m : PartMap) (singles : List Single) → m ≡ next_map_at s t m.top singles →
    fits m (Some t) ≡ true)
  where
    abbrev versions : List Topology
    versions = topologies_from (first_topology s) es

    abbrev Fits : PartMap → Type 0
    Fits m = fits m (topology_of versions m.top) ≡ true

    opening_fits_first : Fits (opening_map_of s)
    opening_fits_first = by es
      where
        by : (xs : List TopoEvent) → fits (opening_map_of s) (topology_of (topologies_from (first_topology s) xs) first_top)
            ≡ true
        by [] = rw (same_top_itself first_top) opens
        by (x ∷ xs) = rw (same_top_itself first_top) opens

    computed_fits : (before : List Noted) (m : PartMap) → IsComputedMap s es before m → Fits m
    computed_fits before m c =
        ap (fits m) (at_place s es c.place m.top short c.within c.is_top)
        ∙ goes_on (topology_after_events s es c.place) m (singles_at before c.by m.top) c.is_next

    installed_fits : (before : List Noted) (who : Option NodeId) (r : Rec) → HoldsOfEach Fits (maps_installed s before) →
        NotedMapFits s es before who r → (installs_fitting fits versions r ≡ true) × HoldsOfEach Fits (map_in r)
    installed_fits before who (note.Install m) all there = let one = by there.known_or_next in (one, (one, tt))
      where
        by : IsKnownMap s before m ⊎ IsComputedMap s es before m → Fits m
        by (inl known) = (found_there Fits (λ (x : PartMap). same_top x.top m.top) (maps_installed s before) m known.is_map
            all).0
        by (inr next) = computed_fits before m next
    installed_fits before who _ all there = (refl, tt)

    each_fits : (before ns : List Noted) → HoldsOfEach Fits (maps_installed s before) → NotedMapsFit s es before ns →
        each_from (λ (xs : List Noted) (n : Noted). installs_fitting fits versions n.rec) before ns ≡ true
    each_fits before [] all there = refl
    each_fits before (n ∷ ns) all there =
        let one = installed_fits before n.node n.rec all there.0 in
        both_pass (installs_fitting fits versions n.rec)
        (each_from (λ (xs : List Noted) (x : Noted). installs_fitting fits versions x.rec) (before ++ n ∷ []) ns) one.0
        (each_fits (before ++ n ∷ []) ns (subst (HoldsOfEach Fits) (sym (longer s before n))
        (each_both Fits (maps_installed s before) (map_in n.rec) all one.1)) there.1)

    -- and each map that there is passes it
    maps_fit : (before ns : List Noted) → HoldsOfEach Fits (maps_installed s before) → NotedMapsFit s es before ns →
        HoldsOfEach Fits (maps_installed s (before ++ ns))
    maps_fit before [] all there = subst (λ (rs : List Noted). HoldsOfEach Fits (maps_installed s rs))
        (sym (append_none before)) all
    maps_fit before (n ∷ ns) all there =
        let one = installed_fits before n.node n.rec all there.0 in
        subst (λ (rs : List Noted). HoldsOfEach Fits (maps_installed s rs)) (append_twice before (n ∷ []) ns)
        (maps_fit (before ++ n ∷ []) ns (subst (HoldsOfEach Fits) (sym (longer s before n))
        (each_both Fits (maps_installed s before) (map_in n.rec) all one.1)) there.1)

next_bare_in : (s : Scenario) (t : Topology) (m : PartMap) (singles : List Single) → m ≡ next_map_at s t m.top singles →
    is_bare_in s m (Some t) ≡ true
next_bare_in s t m singles is =
    let base = base_map singles in
    ap (λ (x : PartMap). bare_where_stopped t.running 0 s.caches x.rows) is
    ∙ next_placed t.members singles base.top (servers t.members) t.running 0 s.caches 0 base.rows

next_held : (s : Scenario) (t : Topology) (m : PartMap) (singles : List Single) → m ≡ next_map_at s t m.top singles →
    is_held_by_members m (Some t) ≡ true
next_held s t m singles is =
    let base = base_map singles in
    ap (λ (x : PartMap). list_all (holds_only (is_member t.members)) x.rows) is
    ∙ next_pass t.members singles base.top 0 (opening_rows (servers t.members) t.running 0 s.caches) base.rows
    (opening_pass (is_member t.members) (servers t.members) t.running 0 s.caches (servers_pass t.members))

-- the owners and movers of each map that there is are members of its version
pub maps_held : (s : Scenario) (es : List TopoEvent) → length es < 2 ^ 63 → (recs : List Noted) → NotedMapsFit s es [] recs
    → HoldsOfEach (λ (m : PartMap). is_held_by_members m (topology_of (topologies_from (first_topology s) es) m.top) ≡ true)
    (maps_installed s recs)
maps_held s es short recs fit =
    let opens = opening_pass (is_member s.nodes) (servers s.nodes) (running_from 0 s.caches) 0 s.caches
    (servers_pass s.nodes) in
    maps_fit s es short is_held_by_members opens (next_held s) [] recs (
      opening_fits_first s es short is_held_by_members opens
          (next_held s),
      tt,
    ) fit

-- Of every run.

module _ (events : ℕ) (short : is_short_run events ≡ true) (j : Journal) (run : IsRunOf events j) where
  holds : TopologyAndMaps (last_scene j)
  holds = legal_holds TopologyAndMaps maps_kept (λ s is. opening_holds s) j run.is_good (few events short j run) run.is_legal

  each_install : (fits : PartMap → Option Topology → Bool) →
      fits (opening_map_of j.scenario) (Some (first_topology j.scenario)) ≡ true
      → ((t : Topology) (m : PartMap) (singles : List Single) → m ≡ next_map_at j.scenario t m.top singles →
      fits m (Some t) ≡ true)
      → each_from (λ (xs : List Noted) (n : Noted). installs_fitting fits (topologies j) n.rec) [] (noted j.scenario j.groups)
      ≡ true
  each_install fits opens goes_on =
      let es = (last_scene j).directory.events in
      subst (λ (ts : List Topology). each_from (λ (xs : List Noted) (n : Noted). installs_fitting fits ts n.rec) []
      (noted j.scenario j.groups) ≡ true) (versions_are events short j run)
      (each_fits j.scenario es holds.topology.few fits opens goes_on [] (noted j.scenario j.groups)
      (opening_fits_first j.scenario es holds.topology.few fits opens goes_on, tt) holds.maps.maps)

  pub bare_holds : owned_only_where_run j ≡ true
  bare_holds = each_install (is_bare_in j.scenario)
      (opening_placed (servers j.scenario.nodes) (running_from 0 j.scenario.caches) 0 j.scenario.caches)
      (next_bare_in j.scenario)

  pub members_hold : held_by_members j ≡ true
  members_hold = each_install is_held_by_members (opening_pass (is_member j.scenario.nodes) (servers j.scenario.nodes)
      (running_from 0 j.scenario.caches) 0 j.scenario.caches (servers_pass j.scenario.nodes)) (next_held j.scenario)
