-- The rows that install a map keep what is known of living owners: a map that comes in a Full is no higher than the highest
-- one; a
-- computed one rests on the highest one, whose owners are members as long as they are not lost.
use Rattle.std.proofs.Common.{◌≡◌, ◌≤◌, ◌⊎◌, inl, inr, ◌++◌, ◌&&◌, ◌||◌, List, [], ◌∷◌, Option, Some, None, Bool, true, false, if◌then◌else◌, is_some, not, filter, length, ℕ, suc, refl, ap, sym, subst, ◌∙◌, arith}
use Rattle.std.specs.List.{flat_map, list_all, list_any}
use Rattle.std.specs.Prelude.{drop, nat_le, option_to_list, take, unwrap_or}
use Rattle.std.proofs.lemmas.Bool.Decides.{nat_tests}
use Rattle.std.proofs.lemmas.List.Folds.{list_any-append}
use Rattle.act_rows.specs.Exchange.{after_compute, after_compute_if_all, after_full, after_install, all_sent, is_newer_map, may_compute, next_map_seen, others_seen, singles_under, without_singles}
use Rattle.act_rows.specs.NewNodes.{map_if, opening_map_of}
use Rattle.act_rows.specs.Steps.{is_installed, is_oldest, outs_to, with_out, with_outs}
use Rattle.ignite_types.proofs.NameLaws.{same_node_itself, same_node_true, same_top_itself, same_top_true}
use Rattle.ignite_types.specs.Affinity.{opening_rows}
use Rattle.ignite_types.specs.Names.{same_node, same_top}
use Rattle.ignite_types.specs.declared.journal.TopoEvent.{TopoEvent}
use Rattle.ignite_types.specs.declared.message.Single.{Single}
use Rattle.ignite_types.specs.declared.names.NodeId.{NodeId}
use Rattle.ignite_types.specs.declared.names.TopVer.{TopVer}
use Rattle.ignite_types.specs.declared.placement.PartMap.{PartMap}
use Rattle.ignite_types.specs.declared.placement.Row.{Row}
use Rattle.ignite_types.specs.declared.scenario.Member.{Member}
use Rattle.ignite_types.specs.declared.scenario.Scenario.{Scenario}
use Rattle.journal_statements.specs.MapLaws.{has_live_owner}
use Rattle.journal_statements.specs.Maps.{has_owner, single_in, singles_at}
use Rattle.journal_statements.specs.Noted.{Noted, is_lost, map_in, map_of_version, maps_installed, noted_by, recs_of}
use Rattle.journal_statements.specs.Refusals.{maps_at}
use Rattle.journal_statements.specs.Topologies.{Topology, first_topology, last_topology, topologies_from, topology_after, topology_of}
use Rattle.link_laws.proofs.Joiners.{not_true}
use Rattle.link_laws.proofs.Journals.{first_rest}
use Rattle.link_laws.proofs.Places.{some_is}
use Rattle.map_laws.proofs.LeavesMaps.{aside, andthen, counts_leaves}
use Rattle.map_laws.proofs.MapFrames.{lost_same}
use Rattle.map_laws.proofs.MapRows.{AliveOrMapless, brought, none_above}
use Rattle.map_laws.proofs.MapSteps.{each_to, own_maps}
use Rattle.map_laws.specs.MapFacts.{HasNoneAbove, maps_by, topology_after_events}
use Rattle.map_laws.specs.MapInvariant.{MapsHoldInAct}
use Rattle.node_state.specs.Node.{NodeState}
use Rattle.part_model.specs.Directory.{oldest_member}
use Rattle.part_model.specs.NextMap.{base_map, is_member, newer_map, newest_map_from, next_map, no_map, servers, single_of}
use Rattle.part_model.specs.Orders.{is_node}
use Rattle.placement_laws.proofs.MemberRows.{opening_pass, servers_pass}
use Rattle.placement_laws.proofs.PlacementLaws.{maps_held}
use Rattle.placement_laws.proofs.Rows.{both_pass}
use Rattle.placement_laws.specs.PlacementLaws.{holds_only, is_held_by_members}
use Rattle.scenes.proofs.Losses.{newer_is}
use Rattle.scenes.specs.Scenes.{Scene, scene_in_act}
use Rattle.survivor_laws.proofs.NextRows.{next_live}
use Rattle.survivor_laws.proofs.SurvivorFrames.{at_parts, noted_more, rows_same}
use Rattle.survivor_laws.proofs.SurvivorSteps.{leaves_survivors, other_noted, own_noted, step_survivors}
use Rattle.survivor_laws.specs.SurvivorFacts.{HasLiveOwners, IsNotedAt, IsOnOwnedBase, is_noted_map, keeps_one}
use Rattle.survivor_laws.specs.SurvivorInvariant.{SurvivorsInAct}
use Rattle.topology_laws.proofs.Bases.{between, left_between, map_seen, stays_in}
use Rattle.topology_laws.proofs.Lists.{each_both, found_there}
use Rattle.topology_laws.proofs.Records.{map_first, map_more, or_first, or_second}
use Rattle.topology_laws.proofs.Rows.{kept_under, no_map_yet, node_shown}
use Rattle.topology_laws.proofs.Sounds.{oldest_is_member}
use Rattle.topology_laws.proofs.Steps.{own_fits}
use Rattle.topology_laws.proofs.Tops.{below_not_up, rises, top_at, up_both, up_itself, up_twice}
use Rattle.topology_laws.specs.TopologyFacts.{HasAtLeast, HasMap, HasMapItself, HoldsOfEach, IsBelow, IsMapOfVersion, IsUpTo, SingleTells, never_leaves}
use Rattle.topology_laws.specs.TopologyInvariant.{HoldsInTopologyAct}
use Rattle.topology_laws.specs.TopologyScenes.{TopologyPart, TopologyScene, TopologyState, map_of, topology_at, topology_in_act, topology_scene, topology_state}
use Rattle.ignite_types.specs.declared.journal.Rec.TheVariants as note
use Rattle.ignite_types.specs.declared.message.Message.TheVariants as msg
use Rattle.node_state.specs.declared.life.Life.TheVariants as life

-- Lists.

-- one for which the test holds
pub any_found : {A : Type 0} (P : A → Type 0) (test : A → Bool) (xs : List A) → list_any test xs ≡ true → HoldsOfEach P xs →
    (x : A) × P x × (test x ≡ true)
any_found P test [] some all = absurd (cc (some))
any_found {A} P test (x ∷ xs) some all = by (λ rest. any_found P test xs rest all.1) (test x) refl some
  where
    by : (list_any test xs ≡ true → (y : A) × P y × (test y ≡ true)) → (c : Bool) → test x ≡ c →
        (c || list_any test xs) ≡ true → (y : A) × P y × (test y ≡ true)
    by later true is here = (x, all.0, is)
    by later false is rest = later rest

filter_each : {A : Type 0} (test : A → Bool) (xs : List A) → HoldsOfEach (λ x. test x ≡ true) (filter test xs)
filter_each test [] = tt
filter_each test (x ∷ xs) = by (test x) refl (filter_each test xs)
  where
    by : (c : Bool) → test x ≡ c → HoldsOfEach (λ y. test y ≡ true) (filter test xs) →
        HoldsOfEach (λ y. test y ≡ true) (if c then x ∷ filter test xs else filter test xs)
    by true is rest = (is, rest)
    by false is rest = rest

-- Maps that a node had installed.

pub each_at : (s : Scenario) (recs : List Noted) (k : NodeId) (P : PartMap → Type 0) → HoldsOfEach P (maps_by k recs) →
    (is_member s.nodes k ≡ true → P (opening_map_of s)) → HoldsOfEach P (maps_at s recs k)
each_at s recs k P all first = each_both P (option_to_list (map_if (is_member s.nodes k) (opening_map_of s))) (maps_by k recs)
    (by (is_member s.nodes k) first) all
  where
    by : (c : Bool) → (c ≡ true → P (opening_map_of s)) → HoldsOfEach P (option_to_list (map_if c (opening_map_of s)))
    by true here = (here refl, tt)
    by false here = tt

-- a map that it has installed is no higher than what all of these are up to
pub noted_up : (s : Scenario) (recs : List Noted) (k : NodeId) (o : Option PartMap) (best : TopVer) → IsNotedAt s recs k o →
    HoldsOfEach (λ (m : PartMap). IsUpTo m.top best) (maps_at s recs k) → (top : TopVer) → HasAtLeast top o → IsUpTo top best
noted_up s recs k None best there all top has = absurd has
noted_up s recs k (Some a) best there all top has =
    let found = any_found (λ (m : PartMap). IsUpTo m.top best) (λ (m : PartMap). same_top m.top a.top)
    (maps_at s recs k) there all in
    up_twice top a.top best has (subst (λ (t : TopVer). IsUpTo t best) (same_top_true found.0.top a.top found.2) found.1)

-- what a node has noted, with one more map
one_map_at : (s : Scenario) (recs : List Noted) (n k : NodeId) (m : PartMap) (P : PartMap → Type 0) →
    HoldsOfEach P (maps_at s recs k) → P m → HoldsOfEach P (maps_at s (recs ++ noted_by (Some n) (note.Install m ∷ [])) k)
one_map_at s recs n k m P all one =
    subst (HoldsOfEach P) (sym (at_parts s recs (noted_by (Some n) (note.Install m ∷ [])) k))
    (each_both P (maps_at s recs k) (flat_map map_in (recs_of k (noted_by (Some n) (note.Install m ∷ [])))) all
    (by (is_node k (Some n))))
  where
    by : (c : Bool) → HoldsOfEach P (flat_map map_in ((if c then note.Install m ∷ [] else []) ++ []))
    by true = (one, tt)
    by false = tt

now_noted : (s : Scenario) (recs : List Noted) (n : NodeId) (m : PartMap) →
    is_noted_map s (recs ++ noted_by (Some n) (note.Install m ∷ [])) n m.top ≡ true
now_noted s recs n m =
    let test = λ (x : PartMap). same_top x.top m.top in
    let more = noted_by (Some n) (note.Install m ∷ []) in
    ap (list_any test) (at_parts s recs more n) ∙ list_any-append test (maps_at s recs n) (flat_map map_in (recs_of n more))
    ∙ or_second (list_any test (maps_at s recs n)) (list_any test (flat_map map_in (recs_of n more)))
    (rw (same_node_itself n, same_top_itself m.top) refl)

-- a record of a map loses no node
still_lost : (recs : List Noted) (n : NodeId) (m : PartMap) (x : NodeId) →
    is_lost (recs ++ noted_by (Some n) (note.Install m ∷ [])) x ≡ is_lost recs x
still_lost recs n m x = lost_same recs (noted_by (Some n) (note.Install m ∷ [])) x (λ y. refl)

-- one more node has a map that is no higher than the highest one
low_owners : (s : Scenario) (es : List TopoEvent) (recs : List Noted) (n : NodeId) (m : PartMap)
    (o : HasLiveOwners s es recs) → IsUpTo m.top o.map.top →
    HasLiveOwners s es (recs ++ noted_by (Some n) (note.Install m ∷ []))
low_owners s es recs n m o low =
    let more = noted_by (Some n) (note.Install m ∷ []) in
    record {
      map = o.map;
      is_map = map_more s recs more o.map.top o.map o.is_map;
      at = o.at;
      lives = still_lost recs n m o.at ∙ o.lives;
      place = o.place;
      within = o.within;
      member = o.member;
      has_it = noted_more s recs more o.at o.map.top o.has_it;
      is_highest = λ k lives. one_map_at s recs n k m (λ (x : PartMap). IsUpTo x.top o.map.top)
          (o.is_highest k (sym (still_lost recs n m k) ∙ lives)) low;
      owned = rows_same recs (recs ++ more) (still_lost recs n m) o.map.rows ∙ o.owned;
    }

-- What a node that is alive has installed is noted there.

module _ (sc : Scene) (n : NodeId) (s : NodeState) (j : SurvivorsInAct sc n s) where
  abbrev alive_as : TopologyState → TopologyPart
  alive_as f = record { life = life.Alive; state = f }

  seat_noted : (x : NodeId) (f : TopologyState) → (topology_in_act (topology_scene sc) n s).seat x ≡ Some (alive_as f) →
      IsNotedAt sc.scenario (scene_in_act sc n s).recs x f.installed
  seat_noted x f at = by (same_node n x) refl at
    where
      by : (c : Bool) → same_node n x ≡ c →
          (if c then Some (alive_as (topology_state s)) else Some
          (record { life = sc.life x; state = topology_state (sc.state x) })) ≡ Some (alive_as f) →
          IsNotedAt sc.scenario (scene_in_act sc n s).recs x f.installed
      by true same is =
          let map_is : s.installed ≡ f.installed =
          ap (λ (p : TopologyPart). p.state.installed) (some_is (alive_as (topology_state s)) (alive_as f) is) in
          subst (λ (o : Option PartMap). IsNotedAt sc.scenario (scene_in_act sc n s).recs x o) map_is
          (subst (λ (k : NodeId). IsNotedAt sc.scenario (scene_in_act sc n s).recs k s.installed) (same_node_true n x same)
          (own_noted sc n s j))
      by false other is =
          let map_is : (sc.state x).installed ≡ f.installed =
          ap (λ (p : TopologyPart). p.state.installed)
          (some_is (record { life = sc.life x; state = topology_state (sc.state x) }) (alive_as f) is) in
          subst (λ (o : Option PartMap). IsNotedAt sc.scenario (scene_in_act sc n s).recs x o) map_is
          (other_noted sc n s j x other)

  -- so it is no higher than the highest one
  pub has_up : (x : NodeId) (top : TopVer) → is_lost (scene_in_act sc n s).recs x ≡ false →
      HasMap (topology_in_act (topology_scene sc) n s) top x → IsUpTo top j.owners.map.top
  has_up x top lives (inl lost) = absurd (cc (lost, lives))
  has_up x top lives (inr l) = noted_up sc.scenario (scene_in_act sc n s).recs x l.state.installed j.owners.map.top
      (seat_noted x l.state l.there) (j.owners.is_highest x lives) top l.holds

  -- Full
  pub full_row_survivors : (from : NodeId) (m : PartMap) →
      map_of_version (maps_installed sc.scenario (scene_in_act sc n s).recs) m.top ≡ Some m → IsUpTo m.top j.owners.map.top →
      SurvivorsInAct sc n (after_full s from m)
  full_row_survivors from m known low = by (is_newer_map m s.installed)
    where
      owners : HasLiveOwners sc.scenario sc.directory.events ((scene_in_act sc n s).recs ++ noted_by (Some n)
          (note.Install m ∷ []))
      owners = low_owners sc.scenario sc.directory.events (scene_in_act sc n s).recs n m j.owners low

      by : (c : Bool) → SurvivorsInAct sc n (if c then with_out (after_install s m) from (msg.Installed m.top) else s)
      by true =
          leaves_survivors sc n (after_install s m) (with_out (after_install s m) from (msg.Installed m.top))
          (aside (after_install s m) (with_out (after_install s m) from (msg.Installed m.top)) refl refl refl refl)
          (step_survivors sc n s (after_install s m) (note.Install m ∷ []) refl j
          (now_noted sc.scenario (scene_in_act sc n s).recs n m) owners ((owners, inl (record { is_map = known })), tt))
      by false = j

-- The first topology of a version has a place.
pub found_place : (t : Topology) (es : List TopoEvent) (top : TopVer) (found : Topology) →
    topology_of (topologies_from t es) top ≡ Some found → (k : ℕ) × (k ≤ length es) × (found ≡ last_topology t (take k es))
    × (found.top ≡ top)
found_place t [] top found is =
    (elim (same_top t.top top) as (λ c. same_top t.top top ≡ c → (if c then Some t else None) ≡ Some found → (k : ℕ) × (k ≤ 0)
    × (found ≡ last_topology t (take k [])) × (found.top ≡ top)) [
      | true ↦ λ same e. let here : t ≡ found = some_is t found e in
          (0, omega arith, sym here, ap (λ (x : Topology). x.top) (sym here) ∙ same_top_true t.top top same)
      | false ↦ λ other e. absurd (cc (e))
    ]) refl is
found_place t (e ∷ es) top found is =
    (elim (same_top t.top top) as (λ c. same_top t.top top ≡ c →
    (if c then Some t else topology_of (topologies_from (topology_after t e) es) top) ≡ Some found → (k : ℕ)
    × (k ≤ suc (length es)) × (found ≡ last_topology t (take k (e ∷ es))) × (found.top ≡ top)) [
      | true ↦ λ same x. let here : t ≡ found = some_is t found x in
          (0, omega arith, sym here, ap (λ (y : Topology). y.top) (sym here) ∙ same_top_true t.top top same)
      | false ↦ λ other x. let rest = found_place (topology_after t e) es top found x in
          (suc rest.0, (let below = rest.1 in omega (arith, below)), rest.2, rest.3)
    ]) refl is

abbrev no_best : Option PartMap
no_best = None

-- the highest map of these Singles is that of one of them
base_single : (P : Single → Type 0) (best : Option PartMap) (xs : List Single) (b : PartMap) →
    newest_map_from best xs ≡ Some b → HoldsOfEach P xs → (best ≡ Some b) ⊎ ((y : Single) × P y × (y.map ≡ Some b))
base_single P best [] b is all = inl is
base_single P best (x ∷ xs) b is all = by_rest (base_single P (newer_map best x.map) xs b is all.1)
  where
    by_newer : (best ≡ Some b) ⊎ (x.map ≡ Some b) → (best ≡ Some b) ⊎ ((y : Single) × P y × (y.map ≡ Some b))
    by_newer (inl before) = inl before
    by_newer (inr now) = inr (x, all.0, now)

    by_rest : (newer_map best x.map ≡ Some b) ⊎ ((y : Single) × P y × (y.map ≡ Some b)) → (best ≡ Some b)
        ⊎ ((y : Single) × P y × (y.map ≡ Some b))
    by_rest (inl first) = by_newer (newer_is best x.map b first)
    by_rest (inr later) = inr later

-- who has sent a Single that is kept is not lost
sent_live : (lost : NodeId → Bool) (xs : List Single) → HoldsOfEach (λ (y : Single). lost y.from ≡ false) xs →
    (ms : List Member) (x : NodeId) → is_member ms x ≡ true → all_sent ms xs ≡ true → lost x ≡ false
sent_live lost xs live [] x is all = absurd (cc (is))
sent_live lost xs live (m ∷ ms) x is all =
    let both = first_rest (is_some (single_of xs m.node)) (all_sent ms xs) all in
    (elim (same_node x m.node) as (λ b. same_node x m.node ≡ b → (b || is_member ms x) ≡ true → lost x ≡ false) [
      | true ↦ λ t e. by_single (single_of xs m.node) refl both.0 (same_node_true x m.node t)
      | false ↦ λ f e. sent_live lost xs live ms x e both.1
    ]) refl is
  where
    by_single : (o : Option Single) → single_of xs m.node ≡ o → is_some o ≡ true → x ≡ m.node → lost x ≡ false
    by_single None found there same = absurd (cc (there))
    by_single (Some y) found there same =
        let one = found_there (λ (z : Single). lost z.from ≡ false) (λ (z : Single). same_node m.node z.from) xs y found live in
        ap lost (same ∙ same_node_true m.node y.from one.1) ∙ one.0

-- Rows whose owners are members as long as they are not lost.

any_all : (p q r : NodeId → Bool) (xs : List NodeId) → ((x : NodeId) → p x ≡ true → q x ≡ true → r x ≡ true) →
    list_any p xs ≡ true → list_all q xs ≡ true → list_any r xs ≡ true
any_all p q r [] gives some all = absurd (cc (some))
any_all p q r (x ∷ xs) gives some all = let both = first_rest (q x) (list_all q xs) all in
    by (λ here. any_all p q r xs gives here both.1) (p x) refl some both.0
  where
    by : (list_any p xs ≡ true → list_any r xs ≡ true) → (c : Bool) → p x ≡ c → (c || list_any p xs) ≡ true → q x ≡ true →
        list_any r (x ∷ xs) ≡ true
    by later true is here first = or_first (r x) (list_any r xs) (gives x is first)
    by later false is here first = or_second (r x) (list_any r xs) (later here)

rows_keep : (recs : List Noted) (old now : List Member) → ((x : NodeId) → is_member old x ≡ true → is_lost recs x ≡ false →
    is_member now x ≡ true) → (rows : List Row)
    → list_all (has_live_owner recs) rows ≡ true → list_all (holds_only (is_member old)) rows ≡ true →
    list_all (keeps_one now) rows ≡ true
rows_keep recs old now stays [] live held = refl
rows_keep recs old now stays (row ∷ rows) live held =
    let a = first_rest (has_live_owner recs row) (list_all (has_live_owner recs) rows) live in
    let b = first_rest (holds_only (is_member old) row) (list_all (holds_only (is_member old)) rows) held in
    let c = first_rest (list_all (is_member old) row.owners) (list_all (is_member old) row.movers) b.0 in
    both_pass (keeps_one now row) (list_all (keeps_one now) rows) (by (not (has_owner row)) a.0 c.0)
    (rows_keep recs old now stays rows a.1 b.1)
  where
    by : (c : Bool) → (c || list_any (λ (id : NodeId). not (is_lost recs id)) row.owners) ≡ true →
        list_all (is_member old) row.owners ≡ true → (c || list_any (is_member now) row.owners) ≡ true
    by true some all = refl
    by false some all = any_all (λ (id : NodeId). not (is_lost recs id)) (is_member old) (is_member now) row.owners
        (λ x live member. stays x member (not_true (is_lost recs x) live)) some all

-- The coordinator computes the next map.

module _ (sc : Scene) (n : NodeId) (s : NodeState) (good : HoldsInTopologyAct (topology_scene sc) n s)
    (may : may_compute s ≡ true) (known : AliveOrMapless sc) (none_lost : (x : NodeId) →
    is_lost (noted_by (Some n) s.noted) x ≡ false) (lives : is_lost (scene_in_act sc n s).recs n ≡ false)
    (i : MapsHoldInAct sc n s) (j : SurvivorsInAct sc n s) where
  abbrev recs : List Noted
  recs = (scene_in_act sc n s).recs

  abbrev es : List TopoEvent
  es = sc.directory.events

  abbrev here : TopologyScene
  here = topology_in_act (topology_scene sc) n s

  abbrev m : PartMap
  m = next_map_seen s

  abbrev singles : List Single
  singles = singles_under s s.seen

  abbrev base : Option PartMap
  base = newest_map_from None singles

  abbrev o : HasLiveOwners sc.scenario es recs
  o = j.owners

  parts : ((is_oldest s && not (is_installed s s.seen)) ≡ true) × (all_sent s.members singles ≡ true)
  parts = first_rest (is_oldest s && not (is_installed s s.seen)) (all_sent s.members singles) may

  singles_are : singles ≡ singles_at recs n s.seen
  singles_are = brought sc n s good may known none_lost lives i

  abbrev Word : Single → Type 0
  Word y = SingleTells here y.from n y.top y.map × (y.top ≡ s.seen)

  words : HoldsOfEach Word singles
  words = kept_under (λ (y : Single). SingleTells here y.from n y.top y.map) s.seen s.singles
      (own_fits (topology_scene sc) n s good).singles_tell

  live_singles : HoldsOfEach (λ (y : Single). is_lost recs y.from ≡ false) singles
  live_singles =
      subst (HoldsOfEach (λ (y : Single). is_lost recs y.from ≡ false)) (sym singles_are)
      (each_to (λ (y : Single). not (is_lost recs y.from) ≡ true) (λ (y : Single). is_lost recs y.from ≡ false)
      (singles_at recs n s.seen) (λ y is. not_true (is_lost recs y.from) is)
      (filter_each (λ (y : Single). not (is_lost recs y.from)) (flat_map (single_in s.seen) (recs_of n recs))))

  both_words : (xs : List Single) → HoldsOfEach Word xs → HoldsOfEach (λ (y : Single). is_lost recs y.from ≡ false) xs →
      HoldsOfEach (λ (y : Single). Word y × (is_lost recs y.from ≡ false)) xs
  both_words [] a b = tt
  both_words (x ∷ xs) a b = ((a.0, b.0), both_words xs a.1 b.1)

  -- The base is the highest map.

  highest_up : HasAtLeast o.map.top base
  highest_up =
      let none : HasNoneAbove sc.scenario recs base o.at = none_above sc n s good may known none_lost lives i o.at o.lives in
      let all = each_at sc.scenario recs o.at (λ (x : PartMap). HasAtLeast x.top base) none.of_each none.of_first in
      let found = any_found (λ (x : PartMap). HasAtLeast x.top base) (λ (x : PartMap). same_top x.top o.map.top)
      (maps_at sc.scenario recs o.at) o.has_it all in
      subst (λ (t : TopVer). HasAtLeast t base) (same_top_true found.0.top o.map.top found.2) found.1

  single_is : (b : PartMap) → IsUpTo o.map.top b.top → (y : Single) × (Word y × (is_lost recs y.from ≡ false))
      × (y.map ≡ Some b) → b ≡ o.map
  single_is b up y =
      let known_b : map_of here b.top ≡ Some b = subst (IsMapOfVersion here) y.2 y.1.0.0.2 in
      let has : HasMap here b.top y.0.from = subst (HasMapItself here y.0.from) y.2 y.1.0.0.4 in
      let low : IsUpTo b.top o.map.top = has_up sc n s j y.0.from b.top y.1.1 has in
      let same : b.top ≡ o.map.top = up_both b.top o.map.top low up in
      some_is b o.map (sym known_b ∙ ap (map_of_version (maps_installed sc.scenario recs)) same ∙ o.is_map)

  base_is : base ≡ Some o.map
  base_is = by base refl highest_up
    where
      by : (r : Option PartMap) → base ≡ r → HasAtLeast o.map.top r → r ≡ Some o.map
      by None is up = absurd up
      by (Some b) is up = by_single (base_single (λ (y : Single). Word y × (is_lost recs y.from ≡ false)) no_best singles b is
          (both_words singles words live_singles))
        where
          by_single : (no_best ≡ Some b) ⊎ ((y : Single) × (Word y × (is_lost recs y.from ≡ false)) × (y.map ≡ Some b)) →
              Some b ≡ Some o.map
          by_single (inl none) = absurd (cc (none))
          by_single (inr y) = ap (λ (x : PartMap). Some x) (single_is b up y)

  -- Its owners are members, as long as they are not lost.

  seen_map : IsUpTo o.map.top s.seen
  seen_map = map_seen (topology_scene sc) n s good may o.map o.is_map

  seen_top : s.seen ≡ top_at sc.scenario es s.read
  seen_top = ap (λ (t : Topology). t.top) (own_fits (topology_scene sc) n s good).known_is

  before_seen : (k : ℕ) → k ≤ length es → (topology_after_events sc.scenario es k).top ≡ o.map.top → k ≤ s.read
  before_seen k within top = by (nat_le k s.read) refl
    where
      by : (c : Bool) → nat_le k s.read ≡ c → k ≤ s.read
      by true low = grind (arith, nat_tests, low)
      by false high =
          let above : IsBelow (top_at sc.scenario es s.read) (top_at sc.scenario es k) =
          rises sc.scenario es s.read k good.few (grind (arith, nat_tests, high)) within in
          let below : IsBelow s.seen o.map.top = subst (λ (t : TopVer). IsBelow t o.map.top) (sym seen_top)
          (subst (λ (t : TopVer). IsBelow (top_at sc.scenario es s.read) t) top above) in
          absurd (below_not_up s.seen o.map.top below seen_map)

  still_member : (k : ℕ) → k ≤ s.read → (x : NodeId) → is_member (topology_after_events sc.scenario es k).members x ≡ true →
      is_lost recs x ≡ false → is_member s.members x ≡ true
  still_member k low x is live =
      let mine = own_fits (topology_scene sc) n s good in
      let none : never_leaves x es ≡ true = good.lefts x live in
      ap (λ (t : Topology). is_member t.members x) (mine.known_is
      ∙ between (topology_scene sc) n s good may k s.read low mine.within)
      ∙ stays_in (topology_scene sc) n s good may (topology_at (topology_scene sc) k) (drop k (take s.read es)) x is
      (left_between (topology_scene sc) n s good may x k s.read none)

  keeps : list_all (keeps_one s.members) o.map.rows ≡ true
  keeps =
      let held = maps_held sc.scenario es good.few recs i.maps in
      let one = found_there (λ (x : PartMap).
      is_held_by_members x (topology_of (topologies_from (first_topology sc.scenario) es) x.top) ≡ true)
      (λ (x : PartMap). same_top x.top o.map.top) (maps_installed sc.scenario recs) o.map o.is_map held in
      by (topology_of (topologies_from (first_topology sc.scenario) es) o.map.top) refl one.0
    where
      by : (r : Option Topology) → topology_of (topologies_from (first_topology sc.scenario) es) o.map.top ≡ r →
          is_held_by_members o.map r ≡ true → list_all (keeps_one s.members) o.map.rows ≡ true
      by None is held = absurd (cc (held))
      by (Some t) is held =
          let place = found_place (first_topology sc.scenario) es o.map.top t is in
          let low = before_seen place.0 place.1 (ap (λ (x : Topology). x.top) (sym place.2) ∙ place.3) in
          rows_keep recs t.members s.members
          (λ x member live. still_member place.0 low x (ap (λ (y : Topology). is_member y.members x) (sym place.2)
          ∙ member) live) o.map.rows o.owned held

  -- The new map.

  live_members : (x : NodeId) → is_member s.members x ≡ true → is_lost recs x ≡ false
  live_members x is = sent_live (is_lost recs) singles live_singles s.members x is parts.1

  base_map_is : base_map singles ≡ o.map
  base_map_is = ap (λ (r : Option PartMap). unwrap_or r no_map) base_is

  live_rows : list_all (has_live_owner recs) m.rows ≡ true
  live_rows =
      next_live recs s.members live_members singles (base_map singles).top 0
      (opening_rows (servers s.members) s.running 0 s.caches) (base_map singles).rows
      (opening_pass (is_member s.members) (servers s.members) s.running 0 s.caches (servers_pass s.members))
      (ap (λ (x : PartMap). list_all (keeps_one s.members) x.rows) base_map_is ∙ keeps)

  oldest : oldest_member s.members ≡ Some n
  oldest = node_shown n s.me (oldest_member s.members) (own_fits (topology_scene sc) n s good).me_is
      (first_rest (is_oldest s) (not (is_installed s s.seen)) parts.0).0

  none_yet : map_of_version (maps_installed sc.scenario recs) m.top ≡ None
  none_yet = by (map_of_version (maps_installed sc.scenario recs) m.top) refl
    where
      by : (r : Option PartMap) → map_of_version (maps_installed sc.scenario recs) m.top ≡ r → r ≡ None
      by None is = refl
      by (Some x) is = absurd (no_map_yet (topology_scene sc) n s good oldest
          (not_true (is_installed s s.seen) (first_rest (is_oldest s) (not (is_installed s s.seen)) parts.0).1) x is)

  abbrev after : List Noted
  after = recs ++ noted_by (Some n) (note.Install m ∷ [])

  new_owners : HasLiveOwners sc.scenario es after
  new_owners =
      let mine = own_fits (topology_scene sc) n s good in
      record {
        map = m;
        is_map = map_first sc.scenario recs (Some n) m none_yet;
        at = n;
        lives = still_lost recs n m n ∙ lives;
        place = s.read;
        within = mine.within;
        member = sym (ap (λ (t : Topology). is_member t.members n) mine.known_is) ∙ oldest_is_member s.members n oldest;
        has_it = now_noted sc.scenario recs n m;
        is_highest = λ k live. one_map_at sc.scenario recs n k m (λ (x : PartMap). IsUpTo x.top m.top)
            (each_to (λ (x : PartMap). IsUpTo x.top o.map.top) (λ (x : PartMap). IsUpTo x.top m.top)
            (maps_at sc.scenario recs k) (λ x up. up_twice x.top o.map.top m.top up seen_map)
            (o.is_highest k (sym (still_lost recs n m k) ∙ live)))
            (up_itself m.top);
        owned = rows_same recs after (still_lost recs n m) m.rows ∙ live_rows;
      }

  on_base : IsOnOwnedBase sc.scenario es recs m
  on_base =
      let mine = own_fits (topology_scene sc) n s good in
      let seen_at : Topology = topology_after_events sc.scenario es s.read in
      record {
        place = s.read;
        within = mine.within;
        is_top = sym (ap (λ (t : Topology). t.top) mine.known_is);
        by = n;
        is_next =
            ap (λ (t : Topology). next_map s.seen t.members s.caches t.running singles) mine.known_is
            ∙ ap (λ cs. next_map s.seen seen_at.members cs seen_at.running singles) (own_maps sc n s i lives).caches_are
            ∙ ap (next_map s.seen seen_at.members sc.scenario.caches seen_at.running) singles_are;
        base = o.map;
        is_base = ap (newest_map_from None) (sym singles_are) ∙ base_is;
        base_known = o.is_map;
        keeps = sym (ap (λ (t : Topology). list_all (keeps_one t.members) o.map.rows) mine.known_is) ∙ keeps;
      }

  pub computes_survivors : SurvivorsInAct sc n (after_compute s m)
  computes_survivors =
      let there : NodeState = after_install (without_singles s m.top) m in
      let told : NodeState = with_outs there (outs_to (others_seen s) (msg.Full m)) in
      let first : SurvivorsInAct sc n there = step_survivors sc n s there (note.Install m ∷ []) refl j
      (now_noted sc.scenario recs n m) new_owners ((new_owners, inr on_base), tt) in
      leaves_survivors sc n there (after_compute s m)
      (andthen there told (after_compute s m) (aside there told refl refl refl refl)
      (counts_leaves told (record { top = m.top; installed = s.me ∷ [] })))
      first

pub computes_if_all_survivors : (sc : Scene) (n : NodeId) (s : NodeState) → HoldsInTopologyAct (topology_scene sc) n s →
    AliveOrMapless sc → ((x : NodeId) → is_lost (noted_by (Some n) s.noted) x ≡ false) →
    is_lost (scene_in_act sc n s).recs n ≡ false
    → MapsHoldInAct sc n s → SurvivorsInAct sc n s → SurvivorsInAct sc n (after_compute_if_all s)
computes_if_all_survivors sc n s good known none_lost lives i j = by (may_compute s) refl
  where
    by : (c : Bool) → may_compute s ≡ c → SurvivorsInAct sc n (if c then after_compute s (next_map_seen s) else s)
    by true may = computes_survivors sc n s good may known none_lost lives i j
    by false not_yet = j
