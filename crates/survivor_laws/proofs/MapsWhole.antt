-- Each map has an owner exactly where its version runs the cache: the headline's statement of maps, of every run.
use Rattle.std.proofs.Common.{◌≡◌, ◌<◌, ◌^◌, ◌⊎◌, inl, inr, ◌++◌, ◌&&◌, ◌||◌, ◌==◌, List, [], ◌∷◌, Option, Some, None, Bool, true, false, not, nat_eq, length, ℕ, zero, suc, refl, ap, sym, subst, ◌∙◌, arith, IsTrue}
use Rattle.std.specs.List.{flat_map, list_all, list_any}
use Rattle.std.specs.Ordering.{match_ordering, nat_cmp}
use Rattle.std.specs.Prelude.{cond, drop, nat_le, nat_lt, sum_by, take, unwrap_or}
use Rattle.std.specs.declared.cmp.Ordering.TheVariants.{Less, Equal, Greater}
use Rattle.std.proofs.lemmas.Bool.Decides.{nat_tests}
use Rattle.std.proofs.lemmas.List.Concat.{flat_map-append}
use Rattle.frame_laws.proofs.Extending.{append_none}
use Rattle.act_rows.specs.NewNodes.{opening_map_of}
use Rattle.ignite_types.proofs.NameLaws.{same_node_true, same_top_itself}
use Rattle.ignite_types.specs.Affinity.{opening_rows}
use Rattle.ignite_types.specs.Good.{are_distinct, good, good_cache, good_caches, has_cache_line, has_data_line, in_order, is_name, is_started, is_within, members, same_cache_name}
use Rattle.ignite_types.specs.Names.{same_node, same_top}
use Rattle.ignite_types.specs.declared.limits.TheConstants.{BACKUPS, CACHES, NEAR_ENTRIES, PARTITIONS}
use Rattle.ignite_types.specs.declared.journal.Journal.{Journal}
use Rattle.ignite_types.specs.declared.journal.Rec.{Rec}
use Rattle.ignite_types.specs.declared.journal.TopoEvent.{TopoEvent}
use Rattle.ignite_types.specs.declared.message.Single.{Single}
use Rattle.ignite_types.specs.declared.names.NodeId.{NodeId}
use Rattle.ignite_types.specs.declared.placement.PartMap.{PartMap}
use Rattle.ignite_types.specs.declared.placement.Row.{Row}
use Rattle.ignite_types.specs.declared.scenario.Cache.{Cache}
use Rattle.ignite_types.specs.declared.scenario.Member.{Member}
use Rattle.ignite_types.specs.declared.scenario.Scenario.{Scenario}
use Rattle.journal_statements.specs.Maps.{has_owner, install_fits, is_map_from, is_new_map, map_fits, maps, opening_map_fits, owned_as, owned_where_run, singles_at}
use Rattle.journal_statements.specs.Noted.{Noted, each_from, map_in, map_of_version, maps_installed, noted}
use Rattle.journal_statements.specs.Topologies.{Topology, first_topology, last_topology, topologies, topologies_from, topology_after, topology_of}
use Rattle.link_laws.proofs.Journals.{first_rest}
use Rattle.map_laws.proofs.MapLaws.{next_maps_hold}
use Rattle.map_laws.specs.MapFacts.{IsKnownMap, topology_after_events}
use Rattle.map_laws.specs.MapLaws.{installs_next_map, is_known_or_next, is_next_of}
use Rattle.ordered_set.specs.Members.{with_member, without_member}
use Rattle.part_model.specs.Directory.{first_top, oldest_member, running_from}
use Rattle.part_model.specs.NextMap.{base_map, is_member, next_rows, no_map, servers}
use Rattle.placement_laws.proofs.MemberRows.{opening_pass}
use Rattle.placement_laws.proofs.PlacementLaws.{at_place, opening_map_holds, some_server}
use Rattle.placement_laws.proofs.Rows.{both_pass}
use Rattle.placement_laws.specs.PlacementLaws.{holds_only, installs_fitting}
use Rattle.scenes.specs.EachRun.{IsRunOf, is_short_run, last_scene}
use Rattle.survivor_laws.proofs.NextOwned.{next_owned, next_served}
use Rattle.survivor_laws.proofs.OwnersLeft.{holds, told_fit, version_members}
use Rattle.survivor_laws.proofs.SurvivorComputes.{found_place}
use Rattle.survivor_laws.proofs.ToldEvents.{EventFits, IsDeclared, caches_good, each_taken, is_server_of}
use Rattle.survivor_laws.specs.SurvivorFacts.{IsOnOwnedBase, NotedSurvivorsFit, SurvivorsFit, keeps_one}
use Rattle.topology_laws.proofs.Laws.{versions_are}
use Rattle.topology_laws.proofs.Lists.{each_both, found_there}
use Rattle.topology_laws.proofs.Records.{or_first, or_second}
use Rattle.topology_laws.specs.TopologyFacts.{HoldsOfEach}
use Rattle.ignite_types.specs.declared.journal.Rec.TheVariants as note
use Rattle.ignite_types.specs.declared.journal.TopoEvent.TheVariants as topo

-- Cache 0 runs always.

with_keeps : (xs : List ℕ) (k : ℕ) → list_any (nat_eq 0) xs ≡ true → list_any (nat_eq 0) (with_member nat_cmp xs k) ≡ true
with_keeps [] k some = absurd (cc (some))
with_keeps (x ∷ xs) k some =
    elim (nat_cmp k x) as (λ r. list_any (nat_eq 0) (match_ordering r (k ∷ x ∷ xs) (x ∷ xs) (x ∷ with_member nat_cmp xs k))
    ≡ true) [
      | Less ↦ or_second (nat_eq 0 k) (list_any (nat_eq 0) (x ∷ xs)) some
      | Equal ↦ some
      | Greater ↦ later (λ rest. with_keeps xs k rest) (nat_eq 0 x) some
    ]
  where
    later : (list_any (nat_eq 0) xs ≡ true → list_any (nat_eq 0) (with_member nat_cmp xs k) ≡ true) → (c : Bool) →
        (c || list_any (nat_eq 0) xs) ≡ true → (c || list_any (nat_eq 0) (with_member nat_cmp xs k)) ≡ true
    later goes true here = refl
    later goes false rest = goes rest

equal_is : (k x : ℕ) → nat_cmp k x ≡ Equal → k ≡ x
equal_is k x is =
    (elim (nat_lt k x) as (λ r. cond r Less (cond (k == x) Equal Greater) ≡ Equal → k ≡ x) [
      | true ↦ λ e. absurd (cc (e))
      | false ↦ λ e.
          (elim (k == x) as (λ r. (k == x) ≡ r → cond r Equal Greater ≡ Equal → k ≡ x) [
            | true ↦ λ t e2. grind (arith, nat_tests, t)
            | false ↦ λ f e2. absurd (cc (e2))
          ]) refl e
    ]) is

without_keeps : (xs : List ℕ) (k : ℕ) → nat_eq 0 k ≡ false → list_any (nat_eq 0) xs ≡ true →
    list_any (nat_eq 0) (without_member nat_cmp xs k) ≡ true
without_keeps [] k other some = absurd (cc (some))
without_keeps (x ∷ xs) k other some =
    elim (nat_cmp k x) as (λ r. nat_cmp k x ≡ r →
    list_any (nat_eq 0) (match_ordering r (x ∷ xs) xs (x ∷ without_member nat_cmp xs k)) ≡ true) [
      | Less ↦ λ g. some
      | Equal ↦ λ g. gone (nat_eq 0 x) (ap (nat_eq 0) (sym (equal_is k x g)) ∙ other) some
      | Greater ↦ λ g. later (λ rest. without_keeps xs k other rest) (nat_eq 0 x) some
    ] refl
  where
    gone : (c : Bool) → c ≡ false → (c || list_any (nat_eq 0) xs) ≡ true → list_any (nat_eq 0) xs ≡ true
    gone true is here = absurd (cc (is))
    gone false is rest = rest

    later : (list_any (nat_eq 0) xs ≡ true → list_any (nat_eq 0) (without_member nat_cmp xs k) ≡ true) → (c : Bool) →
        (c || list_any (nat_eq 0) xs) ≡ true → (c || list_any (nat_eq 0) (without_member nat_cmp xs k)) ≡ true
    later goes true here = refl
    later goes false rest = goes rest

zero_runs : (s : Scenario) (t : Topology) (es : List TopoEvent) → list_any (nat_eq 0) t.running ≡ true →
    HoldsOfEach (EventFits s) es → list_any (nat_eq 0) (last_topology t es).running ≡ true
zero_runs s t [] runs fits = runs
zero_runs s t (e ∷ es) runs fits = zero_runs s (topology_after t e) es (by e fits.0) fits.1
  where
    by : (x : TopoEvent) → EventFits s x → list_any (nat_eq 0) (topology_after t x).running ≡ true
    by (topo.Join m) fit = runs
    by (topo.Left id) fit = runs
    by topo.Minor fit = runs
    by (topo.Start cache) fit = with_keeps t.running cache runs
    by (topo.Stop cache) fit = without_keeps t.running cache fit runs

-- The first cache of a good scenario.

pub record FirstCache (caches : List Cache) : Type 0 where
  pub cache : Cache
  pub more : List Cache
  pub are : caches ≡ cache ∷ more
  pub runs : cache.first ≡ true
  pub parts : ℕ
  pub has_parts : cache.parts ≡ suc parts

in_front : (c : Cache) (cs : List Cache) → in_order (c ∷ cs) ≡ true → list_any has_cache_line (c ∷ cs) ≡ true → c.first ≡ true
in_front c cs ordered some = by c.first refl
  where
    -- a started cache has no cache line
    no_line : (xs : List Cache) → list_all is_started xs ≡ true → list_any has_cache_line xs ≡ false
    no_line [] all = refl
    no_line (x ∷ xs) all =
        let both = first_rest (is_started x) (list_all is_started xs) all in
        let apart = first_rest (not x.first) (not x.«data») both.0 in
        rw (line x.first x.«data» apart.0) (no_line xs both.1)
      where
        line : (a b : Bool) → not a ≡ true → (a && not b) ≡ false
        line true b off = absurd (cc (off))
        line false b off = refl

    by : (a : Bool) → c.first ≡ a → a ≡ true
    by true is = refl
    by false is = absurd (stuck is)
      where
        stuck : c.first ≡ false → ⊥
        stuck off =
            let one = first_rest (has_cache_line c || (has_data_line c && not (list_any has_cache_line cs))
            || (is_started c && list_all is_started cs)) (in_order cs) ordered in
            let alone : (is_started c && list_all is_started cs) ≡ true =
            subst (λ (b : Bool). ((b && not c.«data») || ((b && c.«data») && not (list_any has_cache_line cs))
            || (is_started c && list_all is_started cs)) ≡ true) off one.0 in
            let started = first_rest (is_started c) (list_all is_started cs) alone in
            let none = no_line cs started.1 in
            let later : list_any has_cache_line cs ≡ true =
            subst (λ (b : Bool). ((b && not c.«data») || list_any has_cache_line cs) ≡ true) off some in
            absurd (cc (none, later))

first_cache : (caches : List Cache) → good_caches caches ≡ true → FirstCache caches
first_cache caches is =
    let a = first_rest (list_all good_cache caches && in_order caches && list_any has_cache_line caches
    && are_distinct same_cache_name caches && nat_le (length caches) CACHES)
    (nat_le (sum_by (λ cache. cache.parts) caches) PARTITIONS) is in
    let b = first_rest (list_all good_cache caches && in_order caches && list_any has_cache_line caches
    && are_distinct same_cache_name caches) (nat_le (length caches) CACHES) a.0 in
    let c = first_rest (list_all good_cache caches && in_order caches && list_any has_cache_line caches)
    (are_distinct same_cache_name caches) b.0 in
    let d = first_rest (list_all good_cache caches && in_order caches) (list_any has_cache_line caches) c.0 in
    let e = first_rest (list_all good_cache caches) (in_order caches) d.0 in
    by caches e.0 e.1 d.1
  where
    some_parts : (n : ℕ) → is_within 1 PARTITIONS n ≡ true → (k : ℕ) × (n ≡ suc k)
    some_parts zero within = absurd (cc (within))
    some_parts (suc k) within = (k, refl)

    by : (cs : List Cache) → list_all good_cache cs ≡ true → in_order cs ≡ true → list_any has_cache_line cs ≡ true →
        FirstCache cs
    by [] each ordered some = absurd (cc (some))
    by (x ∷ xs) each ordered some =
        let one = first_rest (good_cache x) (list_all good_cache xs) each in
        let near = first_rest (is_name x.name && is_within 1 PARTITIONS x.parts && nat_le x.backups BACKUPS)
        (nat_le x.near NEAR_ENTRIES) one.0 in
        let backups = first_rest (is_name x.name && is_within 1 PARTITIONS x.parts) (nat_le x.backups BACKUPS) near.0 in
        let parts = some_parts x.parts (first_rest (is_name x.name) (is_within 1 PARTITIONS x.parts) backups.0).1 in
        record { cache = x; more = xs; are = refl; runs = in_front x xs ordered some; parts = parts.0; has_parts = parts.1 }

-- a row that is owned stands in front where cache 0 runs
owned_row : (running : List ℕ) (caches : List Cache) (rows : List Row) (f : FirstCache caches) →
    list_any (nat_eq 0) running ≡ true → owned_where_run running 0 caches rows ≡ true → (row : Row) × (rest : List Row)
    × (rows ≡ row ∷ rest) × (has_owner row ≡ true)
owned_row running caches rows f runs owned =
    by rows f.cache.parts f.has_parts (subst (λ (cs : List Cache). owned_where_run running 0 cs rows ≡ true) f.are owned)
  where
    by : (rs : List Row) (n : ℕ) → n ≡ suc f.parts →
        (nat_eq (length (take n rs)) n && list_all (owned_as (list_any (nat_eq 0) running)) (take n rs)
        && owned_where_run running 1 f.more (drop n rs)) ≡ true → (row : Row) × (rest : List Row) × (rs ≡ row ∷ rest)
        × (has_owner row ≡ true)
    by rs zero is all = absurd (omega (arith, is))
    by [] (suc n) is all =
        let first = first_rest (nat_eq 0 (suc n) && list_all (owned_as (list_any (nat_eq 0) running)) [])
        (owned_where_run running 1 f.more []) all in
        let size = (first_rest (nat_eq 0 (suc n)) (list_all (owned_as (list_any (nat_eq 0) running)) []) first.0).0 in
        absurd (grind (arith, nat_tests, size))
    by (r ∷ rs) (suc n) is all =
        let first = first_rest (nat_eq (length (take (suc n) (r ∷ rs))) (suc n)
        && list_all (owned_as (list_any (nat_eq 0) running)) (r ∷ take n rs))
        (owned_where_run running 1 f.more (drop (suc n) (r ∷ rs))) all in
        let second = first_rest (nat_eq (length (take (suc n) (r ∷ rs))) (suc n))
        (list_all (owned_as (list_any (nat_eq 0) running)) (r ∷ take n rs)) first.0 in
        let third = first_rest (owned_as (list_any (nat_eq 0) running) r) (list_all (owned_as (list_any (nat_eq 0) running))
        (take n rs)) second.1 in
        (r, rs, refl, subst (λ (c : Bool). owned_as c r ≡ true) runs third.0)

-- Servers.

any_with : (p q : Member → Bool) (P : Member → Type 0) (ms : List Member) → ((m : Member) → p m ≡ true → P m → q m ≡ true) →
    HoldsOfEach P ms → list_any p ms ≡ true → list_any q ms ≡ true
any_with p q P [] gives all some = absurd (cc (some))
any_with p q P (m ∷ ms) gives all some = by (λ rest. any_with p q P ms gives all.1 rest) (p m) refl some
  where
    by : (list_any p ms ≡ true → list_any q ms ≡ true) → (c : Bool) → p m ≡ c → (c || list_any p ms) ≡ true →
        list_any q (m ∷ ms) ≡ true
    by later true is here = or_first (q m) (list_any q ms) (gives m is all.0)
    by later false is rest = or_second (q m) (list_any q ms) (later rest)

servers_declared : (s : Scenario) (ms : List Member) → HoldsOfEach (IsDeclared s) ms →
    list_all (is_server_of (members s)) (servers ms) ≡ true
servers_declared s [] all = refl
servers_declared s (m ∷ ms) all = by m.server refl (servers_declared s ms all.1)
  where
    by : (c : Bool) → m.server ≡ c → list_all (is_server_of (members s)) (servers ms) ≡ true →
        list_all (is_server_of (members s)) (servers (m ∷ ms)) ≡ true
    by true is rest = rw is (both_pass (is_server_of (members s) m.node) (list_all (is_server_of (members s)) (servers ms))
        (sym all.0.0 ∙ is) rest)
    by false is rest = rw is rest

all_any : (p q : NodeId → Bool) (xs : List NodeId) → list_any p xs ≡ true → list_all q xs ≡ true → (x : NodeId) × (p x ≡ true)
    × (q x ≡ true)
all_any p q [] some all = absurd (cc (some))
all_any p q (x ∷ xs) some all = let both = first_rest (q x) (list_all q xs) all in
    by (λ there. all_any p q xs there both.1) (p x) refl some both.0
  where
    by : (list_any p xs ≡ true → (y : NodeId) × (p y ≡ true) × (q y ≡ true)) → (c : Bool) → p x ≡ c →
        (c || list_any p xs) ≡ true → q x ≡ true → (y : NodeId) × (p y ≡ true) × (q y ≡ true)
    by later true is here first = (x, is, first)
    by later false is there first = later there

-- Each map.

abbrev pub owned_in : Scenario → PartMap → Option Topology → Bool
owned_in s m None = false
owned_in s m (Some t) = owned_where_run t.running 0 s.caches m.rows

module _
    (s : Scenario)
    (is_good : IsTrue (good s))
    (es : List TopoEvent)
    (short : length es < 2 ^ 63)
    (told : HoldsOfEach (EventFits s) es)
    (declared : (k : ℕ) → HoldsOfEach (IsDeclared s) (topology_after_events s es k).members)
  where
    abbrev versions : List Topology
    versions = topologies_from (first_topology s) es

    abbrev served : NodeId → Bool
    served = is_server_of (members s)

    -- an owner exactly where the cache runs, and all owners and movers are declared servers
    abbrev Fits : PartMap → Type 0
    Fits m = (owned_in s m (topology_of versions m.top) ≡ true) × (list_all (holds_only served) m.rows ≡ true)

    first : FirstCache s.caches
    first = first_cache s.caches (caches_good s is_good)

    opening_runs : list_any (nat_eq 0) (first_topology s).running ≡ true
    opening_runs = subst (λ (cs : List Cache). list_any (nat_eq 0) (running_from 0 cs) ≡ true) (sym first.are)
        (rw first.runs refl)

    runs_at : (k : ℕ) → list_any (nat_eq 0) (topology_after_events s es k).running ≡ true
    runs_at k = zero_runs s (first_topology s) (take k es) opening_runs (each_taken (EventFits s) k es told)

    opening_is_fit : Fits (opening_map_of s)
    opening_is_fit = (
      by es,
      opening_pass served (servers s.nodes) (running_from 0 s.caches) 0 s.caches (servers_declared s s.nodes (declared 0)),
    )
      where
        by : (xs : List TopoEvent) →
            owned_in s (opening_map_of s) (topology_of (topologies_from (first_topology s) xs) first_top) ≡ true
        by [] = rw (same_top_itself first_top) (opening_map_holds s is_good)
        by (x ∷ xs) = rw (same_top_itself first_top) (opening_map_holds s is_good)

    module _ (before : List Noted) (m : PartMap) (c : IsOnOwnedBase s es before m) (base_fits : Fits c.base) where
      abbrev t : Topology
      t = topology_after_events s es c.place

      abbrev singles : List Single
      singles = singles_at before c.by m.top

      -- a partition of the base has an owner, and so a server is a member
      some_owned : (o : Option Topology) → topology_of versions c.base.top ≡ o → owned_in s c.base o ≡ true → (row : Row)
          × (rest : List Row) × (c.base.rows ≡ row ∷ rest) × (has_owner row ≡ true)
      some_owned None none owned = absurd (cc (owned))
      some_owned (Some b) found owned =
          let place = found_place (first_topology s) es c.base.top b found in
          owned_row b.running s.caches c.base.rows first (ap (λ (x : Topology). list_any (nat_eq 0) x.running) place.2
          ∙ runs_at place.0) owned

      a_server : list_any (λ (x : Member). x.server) t.members ≡ true
      a_server =
          let row = some_owned (topology_of versions c.base.top) refl base_fits.0 in
          let kept : keeps_one t.members row.0 ≡ true =
          (first_rest (keeps_one t.members row.0) (list_all (keeps_one t.members) row.1)
          (sym (ap (list_all (keeps_one t.members)) row.2) ∙ c.keeps)).0 in
          let some : list_any (is_member t.members) row.0.owners ≡ true =
          subst (λ (b : Bool). (not b || list_any (is_member t.members) row.0.owners) ≡ true) row.3 kept in
          let held = (first_rest (holds_only served row.0) (list_all (holds_only served) row.1)
          (sym (ap (list_all (holds_only served)) row.2) ∙ base_fits.1)).0 in
          let owners = (first_rest (list_all served row.0.owners) (list_all served row.0.movers) held).0 in
          let one = all_any (is_member t.members) served row.0.owners some owners in
          any_with (λ (x : Member). same_node one.0 x.node) (λ (x : Member). x.server) (IsDeclared s) t.members
          (λ x same is. is.0 ∙ sym (ap served (same_node_true one.0 x.node same)) ∙ one.2) (declared c.place) one.1

      base_is : base_map singles ≡ c.base
      base_is = ap (λ (r : Option PartMap). unwrap_or r no_map) c.is_base

      base_keeps : list_all (keeps_one t.members) (base_map singles).rows ≡ true
      base_keeps = ap (λ (x : PartMap). list_all (keeps_one t.members) x.rows) base_is ∙ c.keeps

      next_fits : Fits m
      next_fits =
          let some = some_server t.members a_server in
          let base = base_map singles in (
            ap (owned_in s m) (at_place s es c.place m.top short c.within c.is_top)
                ∙ ap (λ (x : PartMap). owned_where_run t.running 0 s.caches x.rows) c.is_next
                ∙ subst (λ (ns : List NodeId). owned_where_run t.running 0 s.caches
                (next_rows t.members singles base.top 0 (opening_rows ns t.running 0 s.caches) base.rows) ≡ true)
                (sym some.2)
                (next_owned t.members singles base.top some.0 some.1 t.running 0 s.caches 0 base.rows base_keeps),
            ap (λ (x : PartMap). list_all (holds_only served) x.rows) c.is_next
                ∙ next_served served t.members singles base.top 0 (opening_rows (servers t.members) t.running 0 s.caches)
                base.rows
                (opening_pass served (servers t.members) t.running 0 s.caches (servers_declared s t.members (declared c.place)))
                (ap (λ (x : PartMap). list_all (holds_only served) x.rows) base_is ∙ base_fits.1),
          )

    installed_fits : (before : List Noted) (n : Noted) (r : Rec) → HoldsOfEach Fits (maps_installed s before) →
        SurvivorsFit s es before n r → (installs_fitting (owned_in s) versions r ≡ true) × HoldsOfEach Fits (map_in r)
    installed_fits before n (note.Install m) all fits = let one = by fits.1 in (one.0, (one, tt))
      where
        by : IsKnownMap s before m ⊎ IsOnOwnedBase s es before m → Fits m
        by (inl known) = (found_there Fits (λ (x : PartMap). same_top x.top m.top) (maps_installed s before) m known.is_map
            all).0
        by (inr c) = next_fits before m c (found_there Fits (λ (x : PartMap). same_top x.top c.base.top)
            (maps_installed s before) c.base c.base_known all).0
    installed_fits before n _ all fits = (refl, tt)

    longer : (before : List Noted) (n : Noted) → maps_installed s (before ++ n ∷ []) ≡ maps_installed s before ++ map_in n.rec
    longer before n = ap (λ (ms : List PartMap). opening_map_of s ∷ ms) (flat_map-append (λ (x : Noted). map_in x.rec) before
        (n ∷ []) ∙ ap (λ (ms : List PartMap). flat_map (λ (x : Noted). map_in x.rec) before ++ ms) (append_none (map_in n.rec)))

    each_owned : (before ns : List Noted) → HoldsOfEach Fits (maps_installed s before) → NotedSurvivorsFit s es before ns →
        each_from (λ (xs : List Noted) (n : Noted). installs_fitting (owned_in s) versions n.rec) before ns ≡ true
    each_owned before [] all fits = refl
    each_owned before (n ∷ ns) all fits =
        let one = installed_fits before n n.rec all fits.0 in
        both_pass (installs_fitting (owned_in s) versions n.rec)
        (each_from (λ (xs : List Noted) (x : Noted). installs_fitting (owned_in s) versions x.rec) (before ++ n ∷ []) ns)
        one.0
        (each_owned (before ++ n ∷ []) ns (subst (HoldsOfEach Fits) (sym (longer before n))
        (each_both Fits (maps_installed s before) (map_in n.rec) all one.1)) fits.1)

    pub all_owned : (ns : List Noted) → NotedSurvivorsFit s es [] ns →
        each_from (λ (xs : List Noted) (n : Noted). installs_fitting (owned_in s) versions n.rec) [] ns ≡ true
    all_owned ns fits = each_owned [] ns (opening_is_fit, tt) fits

-- Both laws of a map are the statement.

each_joined : (a b c : List Noted → Noted → Bool) → ((before : List Noted) (n : Noted) → a before n ≡ true →
    b before n ≡ true → c before n ≡ true) → (before ns : List Noted) → each_from a before ns ≡ true →
    each_from b before ns ≡ true → each_from c before ns ≡ true
each_joined a b c gives before [] first second = refl
each_joined a b c gives before (n ∷ ns) first second =
    let x = first_rest (a before n) (each_from a (before ++ n ∷ []) ns) first in
    let y = first_rest (b before n) (each_from b (before ++ n ∷ []) ns) second in
    both_pass (c before n) (each_from c (before ++ n ∷ []) ns) (gives before n x.0 y.0)
    (each_joined a b c gives (before ++ n ∷ []) ns x.1 y.1)

one_fits : (s : Scenario) (ts : List Topology) (before : List Noted) (r : Rec) → installs_fitting (owned_in s) ts r ≡ true →
    installs_next_map s ts before r ≡ true → install_fits s ts before r ≡ true
one_fits s ts before (note.Install m) owned next = by (map_of_version (maps_installed s before) m.top) next
  where
    new_map : (o : Option Topology) → owned_in s m o ≡ true → is_next_of s before m o ≡ true → is_new_map s before m o ≡ true
    new_map None has is = absurd (cc (has))
    new_map (Some t) has is = both_pass (owned_where_run t.running 0 s.caches m.rows)
        (is_map_from s before t m (oldest_member t.members)) has is

    by : (o : Option PartMap) → is_known_or_next s ts before m o ≡ true → map_fits s ts before m o ≡ true
    by None is = new_map (topology_of ts m.top) owned is
    by (Some there) is = is
one_fits s ts before _ owned next = refl

module _ (events : ℕ) (short : is_short_run events ≡ true) (j : Journal) (run : IsRunOf events j) where
  pub owned_hold : each_from (λ (xs : List Noted) (n : Noted). installs_fitting (owned_in j.scenario) (topologies j) n.rec) []
      (noted j.scenario j.groups) ≡ true
  owned_hold =
      let all = holds events short j run in
      subst (λ (ts : List Topology).
      each_from (λ (xs : List Noted) (n : Noted). installs_fitting (owned_in j.scenario) ts n.rec) []
      (noted j.scenario j.groups) ≡ true) (versions_are events short j run)
      (all_owned j.scenario run.is_good (last_scene j).directory.events all.maps.topology.few (told_fit events short j run)
      (version_members events short j run) (noted j.scenario j.groups) all.survivors.fit)

  pub maps_hold : maps j ≡ true
  maps_hold =
      both_pass (opening_map_fits j.scenario)
      (each_from (λ (before : List Noted) (n : Noted). install_fits j.scenario (topologies j) before n.rec) []
      (noted j.scenario j.groups)) (opening_map_holds j.scenario run.is_good)
      (each_joined (λ (before : List Noted) (n : Noted). installs_fitting (owned_in j.scenario) (topologies j) n.rec)
      (λ (before : List Noted) (n : Noted). installs_next_map j.scenario (topologies j) before n.rec)
      (λ (before : List Noted) (n : Noted). install_fits j.scenario (topologies j) before n.rec)
      (λ before n owned next. one_fits j.scenario (topologies j) before n.rec owned next) [] (noted j.scenario j.groups)
      owned_hold (next_maps_hold events short j run))
