-- A living owner is left in every run.
use Rattle.std.proofs.Common.{◌≡◌, ◌++◌, ◌&&◌, ◌||◌, List, [], ◌∷◌, Option, Some, None, Bool, true, false, if◌then◌else◌, not, length, ℕ, zero, suc, refl, ap, sym, subst, ◌∙◌, arith, IsTrue}
use Rattle.std.specs.List.{flat_map, list_all, list_any}
use Rattle.std.specs.Prelude.{filter, nat_le, option_to_list, slice_get}
use Rattle.std.proofs.lemmas.List.Concat.{flat_map-append}
use Rattle.std.proofs.lemmas.List.Folds.{list_any-append}
use Rattle.act_rows.specs.NewNodes.{map_if, opening_map_of, opening_node}
use Rattle.frame_laws.proofs.Extending.{append_none}
use Rattle.ignite_types.proofs.NameLaws.{same_node_itself, same_node_true, same_top_itself, same_top_true}
use Rattle.ignite_types.specs.Good.{good, is_within, are_distinct, members, same_member_node}
use Rattle.ignite_types.specs.Names.{same_node, same_top}
use Rattle.ignite_types.specs.declared.limits.TheConstants.{NODES, NODE_NUMBERS}
use Rattle.ignite_types.specs.declared.journal.Journal.{Journal}
use Rattle.ignite_types.specs.declared.journal.Rec.{Rec}
use Rattle.ignite_types.specs.declared.journal.TopoEvent.{TopoEvent}
use Rattle.ignite_types.specs.declared.names.NodeId.{NodeId}
use Rattle.ignite_types.specs.declared.names.TopVer.{TopVer}
use Rattle.ignite_types.specs.declared.placement.PartMap.{PartMap}
use Rattle.ignite_types.specs.declared.placement.Row.{Row}
use Rattle.ignite_types.specs.declared.scenario.Member.{Member}
use Rattle.ignite_types.specs.declared.scenario.Scenario.{Scenario}
use Rattle.journal_statements.specs.MapLaws.{has_live_owner, highest_map, live_nodes, owners_left, owners_left_at, rows_have_live_owners}
use Rattle.journal_statements.specs.Noted.{Noted, each_from, is_lost, map_in, map_of_version, maps_installed, noted, recs_of}
use Rattle.journal_statements.specs.Refusals.{highest, maps_at}
use Rattle.journal_statements.specs.Topologies.{first_topology}
use Rattle.link_laws.proofs.Joiners.{not_true}
use Rattle.link_laws.proofs.Journals.{first_rest}
use Rattle.link_laws.proofs.Places.{some_is}
use Rattle.map_laws.proofs.MapKept.{opening_holds}
use Rattle.map_laws.specs.MapFacts.{topology_after_events}
use Rattle.part_model.specs.Directory.{node_set}
use Rattle.part_model.specs.NextMap.{is_higher, is_member, newer_map}
use Rattle.part_model.specs.Orders.{is_node}
use Rattle.placement_laws.proofs.Rows.{both_pass}
use Rattle.scenes.proofs.EachRun.{directory_told, few}
use Rattle.scenes.proofs.Openings.{set_both}
use Rattle.scenes.proofs.Runs.{legal_holds}
use Rattle.scenes.specs.EachRun.{IsRunOf, is_short_run, last_scene}
use Rattle.scenes.specs.Scenes.{opening_scene}
use Rattle.survivor_laws.proofs.SurvivorComputes.{any_found}
use Rattle.survivor_laws.proofs.SurvivorEvents.{survivors_kept}
use Rattle.survivor_laws.proofs.ToldEvents.{EventFits, IsDeclared, all_declared, events_fit, some_good}
use Rattle.survivor_laws.specs.SurvivorFacts.{HasLiveOwners, IsNotedAt, NotedSurvivorsFit, SurvivorsFit}
use Rattle.survivor_laws.specs.SurvivorInvariant.{MapsAndSurvivors}
use Rattle.topology_laws.proofs.Bases.{higher_up, not_higher_up}
use Rattle.topology_laws.proofs.Lists.{each_both, each_change, found_more, none_more}
use Rattle.topology_laws.proofs.Records.{or_first, or_second}
use Rattle.topology_laws.proofs.Tops.{up_both, up_itself, up_twice}
use Rattle.topology_laws.specs.TopologyFacts.{HasAtLeast, HoldsOfEach, IsUpTo, RecordFits, RecordsFitFrom}
use Rattle.topology_laws.specs.TopologyScenes.{TopologyScene, topology_scene}
use Rattle.tx_model.specs.Opening.{declared_nodes, ids_of}
use Rattle.ignite_types.specs.declared.journal.Rec.TheVariants as note

-- The opening.

fresh_live : (row : Row) → has_live_owner [] row ≡ true
fresh_live row = by row.owners
  where
    by : (os : List NodeId) → has_live_owner [] (record row { owners = os }) ≡ true
    by [] = refl
    by (o ∷ os) = refl

fresh_rows : (rows : List Row) → list_all (has_live_owner []) rows ≡ true
fresh_rows [] = refl
fresh_rows (row ∷ rows) = both_pass (has_live_owner [] row) (list_all (has_live_owner []) rows) (fresh_live row)
    (fresh_rows rows)

module _ (s : Scenario) where
  abbrev om : PartMap
  om = opening_map_of s

  opens_at : (c : Bool) → c ≡ true → list_any (λ (m : PartMap). same_top m.top om.top) (option_to_list (map_if c om) ++ [])
      ≡ true
  opens_at true is = rw (same_top_itself om.top) refl
  opens_at false is = absurd (cc (is))

  opening_noted : (n : NodeId) → IsNotedAt s [] n (opening_node s om n (is_member s.nodes n)).installed
  opening_noted n = by (is_member s.nodes n) refl
    where
      by : (c : Bool) → is_member s.nodes n ≡ c → IsNotedAt s [] n (opening_node s om n c).installed
      by true is = ap (λ (c : Bool). list_any (λ (m : PartMap). same_top m.top om.top) (option_to_list (map_if c om) ++ []))
          is ∙ opens_at true refl
      by false is = tt

  no_higher_at : (c : Bool) → HoldsOfEach (λ (m : PartMap). IsUpTo m.top om.top) (option_to_list (map_if c om) ++ [])
  no_higher_at true = (up_itself om.top, tt)
  no_higher_at false = tt

  first_member : (m : Member) (ms : List Member) → is_member (m ∷ ms) m.node ≡ true
  first_member m ms = or_first (same_node m.node m.node) (is_member ms m.node) (same_node_itself m.node)

  opening_owners : (m : Member) (ms : List Member) → s.nodes ≡ m ∷ ms → HasLiveOwners s [] []
  opening_owners m ms is =
      let there : is_member s.nodes m.node ≡ true = ap (λ (xs : List Member). is_member xs m.node) is ∙ first_member m ms in
      record {
        map = om;
        is_map = refl;
        at = m.node;
        lives = refl;
        place = 0;
        within = omega arith;
        member = there;
        has_it = opens_at (is_member s.nodes m.node) there;
        is_highest = λ k lives. no_higher_at (is_member s.nodes k);
        owned = fresh_rows om.rows;
      }

  some_node : (ms : List Member) → list_any (λ (m : Member). m.server) ms ≡ true → (m : Member) × (more : List Member)
      × (ms ≡ m ∷ more)
  some_node [] some = absurd (cc (some))
  some_node (m ∷ ms) some = (m, ms, refl)

  pub opening_survivors : IsTrue (good s) → MapsAndSurvivors (opening_scene s)
  opening_survivors is_good =
      let served = (first_rest (list_all (λ (m : Member). is_within 1 NODE_NUMBERS m.node.0) (members s)
      && are_distinct same_member_node (members s) && nat_le (length (members s)) NODES)
      (list_any (λ (m : Member). m.server) s.nodes) (some_good s is_good)).1 in
      let some = some_node s.nodes served in
      record {
        maps = opening_holds s;
        survivors =
            record { noted = opening_noted; owners = opening_owners some.0 some.1 some.2; fit = tt };
      }

-- Each map is the one of its version.

abbrev pub IsKnown : Scenario → List Noted → PartMap → Type 0
IsKnown s recs m = map_of_version (maps_installed s recs) m.top ≡ Some m

installed_next : (s : Scenario) (before : List Noted) (n : Noted) →
    maps_installed s (before ++ n ∷ []) ≡ maps_installed s before ++ map_in n.rec
installed_next s before n = ap (λ (ms : List PartMap). opening_map_of s ∷ ms)
    (flat_map-append (λ (x : Noted). map_in x.rec) before (n ∷ [])
    ∙ ap (λ (ms : List PartMap). flat_map (λ (x : Noted). map_in x.rec) before ++ ms) (append_none (map_in n.rec)))

pub known_next : (sc : TopologyScene) (before : List Noted) (n : Noted) → RecordFits sc before n.rec →
    HoldsOfEach (IsKnown sc.scenario before) (maps_installed sc.scenario before) →
    HoldsOfEach (IsKnown sc.scenario (before ++ n ∷ [])) (maps_installed sc.scenario (before ++ n ∷ []))
known_next sc before n fits all =
    let s = sc.scenario in
    let next = before ++ n ∷ [] in
    subst (HoldsOfEach (IsKnown s next)) (sym (installed_next s before n))
    (each_both (IsKnown s next) (maps_installed s before) (map_in n.rec)
    (each_change (IsKnown s before) (IsKnown s next) (maps_installed s before) (λ m is. later m is) all) (by n.rec refl fits))
  where
    later : (m : PartMap) → IsKnown sc.scenario before m → IsKnown sc.scenario (before ++ n ∷ []) m
    later m is = ap (λ (ms : List PartMap). map_of_version ms m.top) (installed_next sc.scenario before n)
        ∙ found_more (λ (x : PartMap). same_top x.top m.top) (maps_installed sc.scenario before) (map_in n.rec) m is

    new_map : (m : PartMap) → n.rec ≡ note.Install m →
        ((there : PartMap) → map_of_version (maps_installed sc.scenario before) m.top ≡ Some there → m ≡ there) →
        (o : Option PartMap) → map_of_version (maps_installed sc.scenario before) m.top ≡ o →
        IsKnown sc.scenario (before ++ n ∷ []) m
    new_map m is one (Some there) found = later m (found ∙ ap (λ (x : PartMap). Some x) (sym (one there found)))
    new_map m is one None none =
        ap (λ (ms : List PartMap). map_of_version ms m.top) (installed_next sc.scenario before n)
        ∙ none_more (λ (x : PartMap). same_top x.top m.top) (maps_installed sc.scenario before) (map_in n.rec) none
        ∙ ap (λ (r : Rec). map_of_version (map_in r) m.top) is ∙ (rw (same_top_itself m.top) refl)

    by : (r : Rec) → n.rec ≡ r → RecordFits sc before r → HoldsOfEach (IsKnown sc.scenario (before ++ n ∷ [])) (map_in r)
    by (note.Install m) is one = (new_map m is one (map_of_version (maps_installed sc.scenario before) m.top) refl, tt)
    by _ is one = tt

-- those of a node are among all
pub maps_among : (s : Scenario) (P : PartMap → Type 0) (recs : List Noted) (k : NodeId) →
    HoldsOfEach P (maps_installed s recs) →
    HoldsOfEach P (maps_at s recs k)
maps_among s P recs k all = each_both P (option_to_list (map_if (is_member s.nodes k) (opening_map_of s)))
    (flat_map map_in (recs_of k recs)) (first (is_member s.nodes k)) (rest recs all.1)
  where
    first : (c : Bool) → HoldsOfEach P (option_to_list (map_if c (opening_map_of s)))
    first true = (all.0, tt)
    first false = tt

    split : (r : Rec) (ys : List PartMap) → HoldsOfEach P (map_in r ++ ys) → HoldsOfEach P (map_in r) × HoldsOfEach P ys
    split (note.Install m) ys both = ((both.0, tt), both.1)
    split _ ys both = (tt, both)

    rest : (ns : List Noted) → HoldsOfEach P (flat_map (λ (n : Noted). map_in n.rec) ns) →
        HoldsOfEach P (flat_map map_in (recs_of k ns))
    rest [] each = tt
    rest (n ∷ ns) each =
        let both = split n.rec (flat_map (λ (x : Noted). map_in x.rec) ns) each in
        by (is_node k n.node) both.0 (rest ns both.1)
      where
        by : (c : Bool) → HoldsOfEach P (map_in n.rec) → HoldsOfEach P (flat_map map_in (recs_of k ns)) →
            HoldsOfEach P (flat_map map_in ((if c then n.rec ∷ [] else []) ++ recs_of k ns))
        by true here more = each_both P (map_in n.rec) (flat_map map_in (recs_of k ns)) here more
        by false here more = more

-- The highest map.

abbrev pub HoldsOfSome : (PartMap → Type 0) → Option PartMap → Type 0
HoldsOfSome P None = Unit {0}
HoldsOfSome P (Some m) = P m

newer_holds : (P : PartMap → Type 0) (best : Option PartMap) (m : PartMap) → HoldsOfSome P best → P m →
    HoldsOfSome P (newer_map best (Some m))
newer_holds P None m first one = one
newer_holds P (Some best) m first one =
    elim (is_higher m.top best.top) as (λ b. HoldsOfSome P (if b then Some m else Some best)) [
      | true ↦ one
      | false ↦ first
    ]

pub highest_holds : (P : PartMap → Type 0) (best : Option PartMap) (ms : List PartMap) → HoldsOfSome P best → HoldsOfEach P ms →
    HoldsOfSome P (highest best ms)
highest_holds P best [] first all = first
highest_holds P best (m ∷ ms) first all = highest_holds P (newer_map best (Some m)) ms (newer_holds P best m first all.0) all.1

newer_keeps : (best : Option PartMap) (m : PartMap) (top : TopVer) → HasAtLeast top best →
    HasAtLeast top (newer_map best (Some m))
newer_keeps None m top has = absurd has
newer_keeps (Some best) m top has =
    elim (is_higher m.top best.top) as (λ b. is_higher m.top best.top ≡ b → HasAtLeast top (if b then Some m else Some best)) [
      | true ↦ λ t. up_twice top best.top m.top has (higher_up m.top best.top t)
      | false ↦ λ f. has
    ] refl

newer_takes : (best : Option PartMap) (m : PartMap) → HasAtLeast m.top (newer_map best (Some m))
newer_takes None m = up_itself m.top
newer_takes (Some best) m =
    elim (is_higher m.top best.top) as (λ b. is_higher m.top best.top ≡ b →
    HasAtLeast m.top (if b then Some m else Some best)) [
      | true ↦ λ t. up_itself m.top
      | false ↦ λ f. not_higher_up m.top best.top f
    ] refl

highest_keeps : (best : Option PartMap) (ms : List PartMap) (top : TopVer) → HasAtLeast top best →
    HasAtLeast top (highest best ms)
highest_keeps best [] top has = has
highest_keeps best (m ∷ ms) top has = highest_keeps (newer_map best (Some m)) ms top (newer_keeps best m top has)

pub highest_takes : (best : Option PartMap) (ms : List PartMap) (top : TopVer) →
    list_any (λ (m : PartMap). same_top m.top top) ms
    ≡ true → HasAtLeast top (highest best ms)
highest_takes best [] top some = absurd (cc (some))
highest_takes best (m ∷ ms) top some = by (λ rest. highest_takes (newer_map best (Some m)) ms top rest)
    (same_top m.top top) refl some
  where
    by : (list_any (λ (x : PartMap). same_top x.top top) ms ≡ true → HasAtLeast top (highest (newer_map best (Some m)) ms)) →
        (c : Bool) → same_top m.top top ≡ c → (c || list_any (λ (x : PartMap). same_top x.top top) ms) ≡ true →
        HasAtLeast top (highest (newer_map best (Some m)) ms)
    by later true same here =
        highest_keeps (newer_map best (Some m)) ms top (subst (λ (t : TopVer). HasAtLeast t (newer_map best (Some m)))
        (same_top_true m.top top same) (newer_takes best m))
    by later false other rest = later rest

-- Nodes.

any_get : {A : Type 0} (p : A → Bool) (xs : List A) (k : ℕ) (x : A) → slice_get xs k ≡ Some x → p x ≡ true →
    list_any p xs ≡ true
any_get p [] k x there is = absurd (cc (there))
any_get p (y ∷ ys) zero x there is = let same : y ≡ x = cc (there) in or_first (p y) (list_any p ys) (ap p same ∙ is)
any_get p (y ∷ ys) (suc k) x there is = or_second (p y) (list_any p ys) (any_get p ys k x there is)

pub has_id : (s : Scenario) (x : NodeId) → is_member (declared_nodes s) x ≡ true → list_any (same_node x) (ids_of s) ≡ true
has_id s x declared =
    let at = set_both [] (declared_nodes s) [] x declared in
    any_get (same_node x) (ids_of s) at.0 x (ap (λ ms. slice_get (node_set [] ms) at.0) (sym (append_none (declared_nodes s)))
    ∙ at.1) (same_node_itself x)

abbrev pub has_version : TopVer → List PartMap → Bool
has_version top ms = list_any (λ (m : PartMap). same_top m.top top) ms

-- a map of one of the nodes that are picked is among their maps
pub kept_has : (picks : NodeId → Bool) (ids : List NodeId) (x : NodeId) (f : NodeId → List PartMap) (top : TopVer) →
    list_any (same_node x) ids ≡ true → picks x ≡ true → has_version top (f x) ≡ true →
    has_version top (flat_map f (filter picks ids)) ≡ true
kept_has picks [] x f top some kept has = absurd (cc (some))
kept_has picks (y ∷ ys) x f top some kept has =
    by (λ there. kept_has picks ys x f top there kept has) (same_node x y) refl some (picks y) refl
  where
    here : same_node x y ≡ true → has_version top (f y ++ flat_map f (filter picks ys)) ≡ true
    here same = list_any-append (λ (m : PartMap). same_top m.top top) (f y) (flat_map f (filter picks ys))
        ∙ or_first (has_version top (f y)) (has_version top (flat_map f (filter picks ys)))
        (ap (λ (n : NodeId). has_version top (f n)) (sym (same_node_true x y same)) ∙ has)

    by : (list_any (same_node x) ys ≡ true → has_version top (flat_map f (filter picks ys)) ≡ true) → (c : Bool) →
        same_node x y ≡ c → (c || list_any (same_node x) ys) ≡ true → (d : Bool) → picks y ≡ d →
        has_version top (flat_map f (if d then y ∷ filter picks ys else filter picks ys)) ≡ true
    by later true same there true pick = here same
    by later true same there false pick =
        let me = ap picks (same_node_true x y same) in absurd (cc (me, kept, pick))
    by later false other there true pick =
        list_any-append (λ (m : PartMap). same_top m.top top) (f y) (flat_map f (filter picks ys))
        ∙ or_second (has_version top (f y)) (has_version top (flat_map f (filter picks ys))) (later there)
    by later false other there false pick = later there

-- what holds of the maps of each of them
pub kept_each : (picks : NodeId → Bool) (ids : List NodeId) (f : NodeId → List PartMap) (P : PartMap → Type 0) →
    ((x : NodeId) → picks x ≡ true → HoldsOfEach P (f x)) → HoldsOfEach P (flat_map f (filter picks ids))
kept_each picks [] f P all = tt
kept_each picks (y ∷ ys) f P all = by (picks y) refl (kept_each picks ys f P all)
  where
    by : (d : Bool) → picks y ≡ d → HoldsOfEach P (flat_map f (filter picks ys)) →
        HoldsOfEach P (flat_map f (if d then y ∷ filter picks ys else filter picks ys))
    by true pick rest = each_both P (f y) (flat_map f (filter picks ys)) (all y pick) rest
    by false pick rest = rest

-- what two statements say of each is one
pub each_pair : {A : Type 0} (P Q : A → Type 0) (xs : List A) → HoldsOfEach P xs → HoldsOfEach Q xs →
    HoldsOfEach (λ x. P x × Q x) xs
each_pair P Q [] first second = tt
each_pair P Q (x ∷ xs) first second = ((first.0, second.0), each_pair P Q xs first.1 second.1)

-- what is known of the highest map is the statement
highest_owned : (s : Scenario) (es : List TopoEvent) (recs : List Noted) →
    ((k : ℕ) (x : NodeId) → is_member (topology_after_events s es k).members x ≡ true →
    is_member (declared_nodes s) x ≡ true) → HoldsOfEach (IsKnown s recs) (maps_installed s recs) → HasLiveOwners s es recs
    → rows_have_live_owners recs (highest_map s recs) ≡ true
highest_owned s es recs declared known o =
    let maps = flat_map (maps_at s recs) (live_nodes s recs) in
    let id = has_id s o.at (declared o.place o.at o.member) in
    let high : HasAtLeast o.map.top (highest None maps) =
    highest_takes None maps o.map.top (kept_has (λ (x : NodeId). not (is_lost recs x)) (ids_of s) o.at
    (maps_at s recs) o.map.top
    id (ap not o.lives) o.has_it) in
    let one : HoldsOfSome (λ (m : PartMap). IsUpTo m.top o.map.top × IsKnown s recs m) (highest None maps) =
    highest_holds (λ (m : PartMap). IsUpTo m.top o.map.top × IsKnown s recs m) None maps tt
    (kept_each (λ (x : NodeId). not (is_lost recs x)) (ids_of s) (maps_at s recs)
    (λ (m : PartMap). IsUpTo m.top o.map.top × IsKnown s recs m)
    (λ k lives. each_pair (λ (m : PartMap). IsUpTo m.top o.map.top) (IsKnown s recs) (maps_at s recs k)
    (o.is_highest k (not_true (is_lost recs k) lives)) (maps_among s (IsKnown s recs) recs k known))) in
    by (highest None maps) high one
  where
    by : (r : Option PartMap) → HasAtLeast o.map.top r →
        HoldsOfSome (λ (m : PartMap). IsUpTo m.top o.map.top × IsKnown s recs m) r → rows_have_live_owners recs r ≡ true
    by None high one = refl
    by (Some m) high one =
        let same : m.top ≡ o.map.top = up_both m.top o.map.top one.0 high in
        let is : o.map ≡ m = some_is o.map m (sym o.is_map ∙ sym (ap (map_of_version (maps_installed s recs)) same) ∙ one.1) in
        ap (λ (x : PartMap). rows_have_live_owners recs (Some x)) (sym is) ∙ o.owned

-- Each record.
module _ (sc : TopologyScene) (es : List TopoEvent) (declared : (k : ℕ) (x : NodeId) →
    is_member (topology_after_events sc.scenario es k).members x ≡ true → is_member (declared_nodes sc.scenario) x ≡ true) where
  abbrev s : Scenario
  s = sc.scenario

  one_left : (recs : List Noted) → HoldsOfEach (IsKnown s recs) (maps_installed s recs) →
      (before : List Noted) (n : Noted) (r : Rec) → recs ≡ before ++ n ∷ [] → SurvivorsFit s es before n r →
      owners_left_at s recs r ≡ true
  one_left recs known before n (note.Install m) is fits =
      highest_owned s es recs declared known (subst (HasLiveOwners s es) (sym is) fits.0)
  one_left recs known before n (note.Lost x) is fits =
      highest_owned s es recs declared known (subst (HasLiveOwners s es) (sym is) fits)
  one_left recs known before n _ is fits = refl

  each_left : (before ns : List Noted) → HoldsOfEach (IsKnown s before) (maps_installed s before) →
      RecordsFitFrom sc before ns → NotedSurvivorsFit s es before ns →
      each_from (λ (xs : List Noted) (n : Noted). owners_left_at s (xs ++ n ∷ []) n.rec) before ns ≡ true
  each_left before [] known first fits = refl
  each_left before (n ∷ ns) known first fits =
      let next = known_next sc before n first.0 known in
      both_pass (owners_left_at s (before ++ n ∷ []) n.rec)
      (each_from (λ (xs : List Noted) (x : Noted). owners_left_at s (xs ++ x ∷ []) x.rec) (before ++ n ∷ []) ns)
      (one_left (before ++ n ∷ []) next before n n.rec refl fits.0) (each_left (before ++ n ∷ []) ns next first.1 fits.1)

-- Of every run.

module _ (events : ℕ) (short : is_short_run events ≡ true) (j : Journal) (run : IsRunOf events j) where
  pub holds : MapsAndSurvivors (last_scene j)
  holds = legal_holds MapsAndSurvivors survivors_kept (λ s is. opening_survivors s is) j run.is_good (few events short j run)
      run.is_legal

  pub told_fit : HoldsOfEach (EventFits j.scenario) (last_scene j).directory.events
  told_fit = subst (HoldsOfEach (EventFits j.scenario)) (sym (directory_told events short j run))
      (events_fit j.scenario run.is_good j.groups)

  pub version_members : (k : ℕ) →
      HoldsOfEach (IsDeclared j.scenario) (topology_after_events j.scenario (last_scene j).directory.events k).members
  version_members k = all_declared j.scenario run.is_good (first_topology j.scenario) (last_scene j).directory.events k refl
      told_fit

  declared : (k : ℕ) (x : NodeId) → is_member (topology_after_events j.scenario (last_scene j).directory.events k).members x
      ≡ true → is_member (declared_nodes j.scenario) x ≡ true
  declared k x is =
      let found = any_found (IsDeclared j.scenario) (λ (m : Member). same_node x m.node)
      (topology_after_events j.scenario (last_scene j).directory.events k).members is (version_members k) in
      ap (is_member (declared_nodes j.scenario)) (same_node_true x found.0.node found.2) ∙ found.1.1

  pub owners_left_holds : owners_left j ≡ true
  owners_left_holds =
      each_left (topology_scene (last_scene j)) (last_scene j).directory.events declared [] (noted j.scenario j.groups)
      (refl, tt) holds.maps.topology.fit holds.survivors.fit
