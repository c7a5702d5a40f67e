-- The next map is made of the highest map that any living member has installed.
use Rattle.std.proofs.Common.{◌≡◌, ◌≤◌, ◌<◌, ◌⊎◌, inl, inr, ◌&&◌, ◌||◌, ◌++◌, ◌==◌, List, [], ◌∷◌, Option, Some, None, Bool, true, false, if◌then◌else◌, is_some, not, length, ℕ, zero, suc, refl, ap, sym, subst, ◌∙◌, arith}
use Rattle.std.specs.Prelude.{drop, nat_le, nat_lt, take}
use Rattle.std.proofs.lemmas.List.{length-take-le, take-append-drop}
use Rattle.std.proofs.lemmas.List.Folds.{list_any-append}
use Rattle.ignite_types.proofs.NameLaws.{same_top_itself}
use Rattle.ignite_types.proofs.NameLaws.{same_node_itself, same_node_true}
use Rattle.ignite_types.specs.declared.journal.TopoEvent.{TopoEvent}
use Rattle.journal_statements.specs.Topologies.{Topology, first_topology, last_topology, topology_after}
use Rattle.ignite_types.specs.declared.journal.TopoEvent.TheVariants as topo
use Rattle.topology_laws.proofs.Learning.{still_member}
use Rattle.std.proofs.lemmas.Bool.Decides.{nat_tests}
use Rattle.act_rows.specs.Exchange.{all_sent, may_compute, singles_under}
use Rattle.act_rows.specs.Steps.{is_installed, is_oldest}
use Rattle.part_model.specs.Directory.{members_after, oldest_member}
use Rattle.part_model.specs.NextMap.{is_higher, is_member, newer_map, newest_map_from, single_of}
use Rattle.ignite_types.specs.Names.{same_node}
use Rattle.ignite_types.specs.declared.message.Single.{Single}
use Rattle.ignite_types.specs.declared.names.NodeId.{NodeId}
use Rattle.ignite_types.specs.declared.names.TopVer.{TopVer}
use Rattle.ignite_types.specs.declared.placement.PartMap.{PartMap}
use Rattle.ignite_types.specs.declared.scenario.Member.{Member}
use Rattle.link_laws.proofs.Journals.{first_rest}
use Rattle.node_state.specs.Node.{NodeState}
use Rattle.topology_laws.specs.TopologyFacts.{OldestHasMap, HoldsOfEach, IsMemberOf, MemberFits, NodeFits, is_leave_of, never_leaves, HasAtLeast, IsBehind, IsNoHigherMap, IsUpTo, MapFits, SingleTells, IsBelow}
use Rattle.topology_laws.specs.TopologyInvariant.{HoldsInTopologyAct}
use Rattle.topology_laws.specs.TopologyScenes.{TopologyScene, TopologyState, map_of, topology_at, topology_in_act, topology_state}
use Rattle.topology_laws.proofs.Lists.{found_there}
use Rattle.topology_laws.proofs.Rows.{below_seen, kept_under, node_shown, own_holds}
use Rattle.topology_laws.proofs.Sounds.{last_split, left_drop, oldest_is_member, oldest_stays}
use Rattle.topology_laws.proofs.Steps.{alive_fits, own_fits, put_same}
use Rattle.topology_laws.proofs.Tops.{below_not_up, below_up, more_events, one_place, rises, top_at, up_both, up_itself, up_twice}
use Rattle.node_state.specs.declared.life.Life.TheVariants as life

pub higher_up : (a b : TopVer) → is_higher a b ≡ true → IsUpTo b a
higher_up a b high =
    (elim (nat_lt b.major a.major) as (λ r. nat_lt b.major a.major ≡ r →
    (r || ((a.major == b.major) && nat_lt b.minor a.minor)) ≡ true → IsUpTo b a) [
      | true ↦ λ t e. inl (grind (arith, nat_tests, t))
      | false ↦ λ f e.
          let both = first_rest (a.major == b.major) (nat_lt b.minor a.minor) e in
          inr (grind (arith, nat_tests, both.0), grind (arith, nat_tests, both.1))
    ]) refl high

pub not_higher_up : (a b : TopVer) → is_higher a b ≡ false → IsUpTo a b
not_higher_up a b low =
    (elim (nat_lt b.major a.major) as (λ r. nat_lt b.major a.major ≡ r →
    (r || ((a.major == b.major) && nat_lt b.minor a.minor)) ≡ false → IsUpTo a b) [
      | true ↦ λ t e. absurd (cc (e))
      | false ↦ λ f e.
          (elim (a.major == b.major) as (λ r. (a.major == b.major) ≡ r → (r && nat_lt b.minor a.minor) ≡ false → IsUpTo a b) [
            | true ↦ λ t2 e2. inr (grind (arith, nat_tests, t2), grind (arith, nat_tests, e2))
            | false ↦ λ f2 e2. inl (grind (arith, nat_tests, f, f2))
          ]) refl e
    ]) refl low

no_higher_twice : (a b c : Option PartMap) → IsNoHigherMap a b → IsNoHigherMap b c → IsNoHigherMap a c
no_higher_twice None b c x y = tt
no_higher_twice (Some a) None c x y = absurd x
no_higher_twice (Some a) (Some b) None x y = absurd y
no_higher_twice (Some a) (Some b) (Some c) x y = up_twice a.top b.top c.top x y

no_higher_itself : (a : Option PartMap) → IsNoHigherMap a a
no_higher_itself None = tt
no_higher_itself (Some a) = up_itself a.top

newer_both : (best next : Option PartMap) → IsNoHigherMap best (newer_map best next) × IsNoHigherMap next (newer_map best next)
newer_both None next = (tt, no_higher_itself next)
newer_both (Some best) None = (up_itself best.top, tt)
newer_both (Some best) (Some next) =
    elim (is_higher next.top best.top) as (λ b. is_higher next.top best.top ≡ b →
    IsNoHigherMap (Some best) (if b then Some next else Some best)
    × IsNoHigherMap (Some next) (if b then Some next else Some best)) [
      | true ↦ λ t. (higher_up next.top best.top t, up_itself next.top)
      | false ↦ λ f. (up_itself best.top, not_higher_up next.top best.top f)
    ] refl

newest_best : (best : Option PartMap) (xs : List Single) → IsNoHigherMap best (newest_map_from best xs)
newest_best best [] = no_higher_itself best
newest_best best (x ∷ xs) = no_higher_twice best (newer_map best x.map) (newest_map_from (newer_map best x.map) xs)
    (newer_both best x.map).0 (newest_best (newer_map best x.map) xs)

newest_each : (best : Option PartMap) (xs : List Single) →
    HoldsOfEach (λ (x : Single). IsNoHigherMap x.map (newest_map_from best xs)) xs
newest_each best [] = tt
newest_each best (x ∷ xs) = (
  no_higher_twice x.map (newer_map best x.map) (newest_map_from (newer_map best x.map) xs) (newer_both best x.map).1
      (newest_best (newer_map best x.map) xs),
  newest_each (newer_map best x.map) xs,
)

both_each : {A : Type 0} (P Q : A → Type 0) (xs : List A) → HoldsOfEach P xs → HoldsOfEach Q xs →
    HoldsOfEach (λ x. P x × Q x) xs
both_each P Q [] a b = tt
both_each P Q (x ∷ xs) a b = ((a.0, b.0), both_each P Q xs a.1 b.1)

one_stays : (e : TopoEvent) (ms : List Member) (x : NodeId) → is_member ms x ≡ true → not (is_leave_of x e) ≡ true →
    is_member (members_after ms e) x ≡ true
one_stays (topo.Join m) ms x is stays = list_any-append (λ (y : Member). same_node x y.node) ms (m ∷ [])
    ∙ ap (λ (b : Bool). b || is_member (m ∷ []) x) is
one_stays (topo.Left id) ms x is stays = still_member id x ms (turned (same_node x id) refl stays) is
  where
    turned : (b : Bool) → same_node x id ≡ b → not b ≡ true → same_node id x ≡ false
    turned true same off = absurd (cc (off))
    turned false same off = grind (arith, nat_tests, same)
one_stays topo.Minor ms x is stays = is
one_stays (topo.Start cache) ms x is stays = is
one_stays (topo.Stop cache) ms x is stays = is

left_take : (x : NodeId) (k : ℕ) (es : List TopoEvent) → never_leaves x es ≡ true → never_leaves x (take k es) ≡ true
left_take x zero es none = refl
left_take x (suc k) [] none = refl
left_take x (suc k) (e ∷ es) none =
    let both = first_rest (not (is_leave_of x e)) (never_leaves x es) none in
    rw both.0 (left_take x k es both.1)

module _ (sc : TopologyScene) (n : NodeId) (s : NodeState) (good : HoldsInTopologyAct sc n s) (may : may_compute s ≡ true) where
  abbrev base : Option PartMap
  base = newest_map_from None (singles_under s s.seen)

  abbrev Word : Single → Type 0
  Word x = (SingleTells (topology_in_act sc n s) x.from n x.top x.map × (x.top ≡ s.seen)) × IsNoHigherMap x.map base

  words : HoldsOfEach Word (singles_under s s.seen)
  words = both_each (λ (x : Single). SingleTells (topology_in_act sc n s) x.from n x.top x.map × (x.top ≡ s.seen))
      (λ (x : Single). IsNoHigherMap x.map base) (singles_under s s.seen)
      (kept_under (λ (x : Single). SingleTells (topology_in_act sc n s) x.from n x.top x.map) s.seen s.singles
      (own_fits sc n s good).singles_tell)
      (newest_each None (singles_under s s.seen))

  parts : ((is_oldest s && not (is_installed s s.seen)) ≡ true) × (all_sent s.members (singles_under s s.seen) ≡ true)
  parts = first_rest (is_oldest s && not (is_installed s s.seen)) (all_sent s.members (singles_under s s.seen)) may

  word_of : (ms : List Member) (x : NodeId) → is_member ms x ≡ true → all_sent ms (singles_under s s.seen) ≡ true →
      (y : Single) × Word y × (y.from ≡ x)
  word_of [] x is all = absurd (cc (is))
  word_of (m ∷ ms) x is all =
      let both = first_rest (is_some (single_of (singles_under s s.seen) m.node)) (all_sent ms (singles_under s s.seen)) all in
      (elim (same_node x m.node) as (λ b. same_node x m.node ≡ b → (b || is_member ms x) ≡ true → (y : Single) × Word y
      × (y.from ≡ x)) [
        | true ↦ λ t e. by_single (single_of (singles_under s s.seen) m.node) refl both.0 (same_node_true x m.node t)
        | false ↦ λ f e. word_of ms x e both.1
      ]) refl is
    where
      by_single : (o : Option Single) → single_of (singles_under s s.seen) m.node ≡ o → is_some o ≡ true → x ≡ m.node →
          (y : Single) × Word y × (y.from ≡ x)
      by_single None found there same = absurd (cc (there))
      by_single (Some y) found there same =
          let word = found_there Word (λ (z : Single). same_node m.node z.from) (singles_under s s.seen) y found words in
          (y, word.0, sym (same_node_true m.node y.from word.1) ∙ sym same)

  not_installed : HasAtLeast s.seen s.installed → ⊥
  not_installed has_it = by_map s.installed (own_fits sc n s good).map_fits has_it
      (first_rest (is_oldest s) (not (is_installed s s.seen)) parts.0).1
    where
      off : (b : Bool) → not b ≡ true → b ≡ true → ⊥
      off true e is = absurd (cc (e))
      off false e is = absurd (cc (is))

      by_map : (o : Option PartMap) → MapFits (topology_in_act sc n s) (topology_state s).known o → HasAtLeast s.seen o →
          not (is_installed (record s { installed = o }) s.seen) ≡ true → ⊥
      by_map None fits has none = has
      by_map (Some m) fits has none = off (is_installed (record s { installed = Some m }) s.seen) none
          (rw (up_both m.top s.seen fits.1 has) (same_top_itself s.seen))

  there : (topology_in_act sc n s).seat n ≡ Some (record { life = life.Alive; state = topology_state s })
  there = put_same n (record { life = life.Alive; state = topology_state s }) sc.seat

  -- the coordinator's own map is no higher than the base
  own_low : IsNoHigherMap s.installed base
  own_low =
      let first = first_rest (is_oldest s) (not (is_installed s s.seen)) parts.0 in
      let oldest = node_shown n s.me (oldest_member s.members) (own_fits sc n s good).me_is first.0 in
      let w = word_of s.members n (oldest_is_member s.members n oldest) parts.1 in
      by_case w (w.1.0.0.3 (topology_state s) (topology_state s) (ap (topology_in_act sc n s).seat w.2 ∙ there) there)
    where
      by_case : (w : (y : Single) × Word y × (y.from ≡ n)) → (w.0.map ≡ s.installed)
          ⊎ IsBehind w.0.from n w.0.top (topology_state s) (topology_state s) → IsNoHigherMap s.installed base
      by_case w (inl is) = subst (λ (o : Option PartMap). IsNoHigherMap o base) is w.1.1
      by_case w (inr low) = absurd
          (not_installed (subst (λ (v : TopVer). HasAtLeast v s.installed) w.1.0.1
          (low.own (subst (λ (x : NodeId). same_node x n ≡ true) (sym w.2) (same_node_itself n)))))

  -- no living member has a higher map
  pub base_is_best : (x : NodeId) (f : TopologyState) → is_member s.members x ≡ true →
      (topology_in_act sc n s).seat x ≡ Some (record { life = life.Alive; state = f }) → IsNoHigherMap f.installed base
  base_is_best x f member at =
      let w = word_of s.members x member parts.1 in
      by_case w (w.1.0.0.3 f (topology_state s) (ap (topology_in_act sc n s).seat w.2 ∙ at) there)
    where
      by_case : (w : (y : Single) × Word y × (y.from ≡ x)) → (w.0.map ≡ f.installed)
          ⊎ IsBehind w.0.from n w.0.top f (topology_state s) → IsNoHigherMap f.installed base
      by_case w (inl is) = subst (λ (o : Option PartMap). IsNoHigherMap o base) is w.1.1
      by_case w (inr low) = no_higher_twice f.installed s.installed base low.no_higher own_low

  -- One that is alive and no member of the version seen has no map.

  pub stays_in : (t : Topology) (es : List TopoEvent) (x : NodeId) → is_member t.members x ≡ true → never_leaves x es ≡ true →
      is_member (last_topology t es).members x ≡ true
  stays_in t [] x is none = is
  stays_in t (e ∷ es) x is none =
      let both = first_rest (not (is_leave_of x e)) (never_leaves x es) none in
      stays_in (topology_after t e) es x (one_stays e t.members x is both.0) both.1

  -- what lies between two versions
  pub between : (j k : ℕ) → j ≤ k → k ≤ length sc.events → topology_at sc k ≡ last_topology (topology_at sc j)
      (drop j (take k sc.events))
  between j k low within =
      let xs = take k sc.events in
      let as_long = length-take-le k sc.events within in
      let split : xs ≡ take j xs ++ drop j xs = sym (take-append-drop j xs) in
      let first : last_topology (first_topology sc.scenario) (take j sc.events) ≡ last_topology (first_topology sc.scenario)
      (take j xs) =
      ap (λ es. last_topology (first_topology sc.scenario) (take j es)) (sym (take-append-drop k sc.events))
      ∙ more_events sc.scenario xs (drop k sc.events) j (omega (arith, as_long, low)) in
      ap (last_topology (first_topology sc.scenario)) split ∙ last_split (first_topology sc.scenario) (take j xs) (drop j xs)
      ∙ ap (λ t. last_topology t (drop j xs)) (sym first)

  pub left_between : (x : NodeId) (j k : ℕ) → never_leaves x sc.events ≡ true → never_leaves x (drop j (take k sc.events))
      ≡ true
  left_between x j k none = left_drop x j (take k sc.events) (left_take x k sc.events none)

  -- each version that has a map was seen
  pub map_seen : (b : PartMap) → map_of (topology_in_act sc n s) b.top ≡ Some b → IsUpTo b.top s.seen
  map_seen b is = let c = good.computed b.top b is in by_order (nat_le c.place s.read) c refl
    where
      seen : s.seen ≡ top_at sc.scenario sc.events s.read
      seen = ap (λ (t : Topology). t.top) (own_fits sc n s good).known_is

      up_places : (j k : ℕ) → j ≤ k → k ≤ length sc.events → (b : Bool) → nat_lt j k ≡ b →
          IsUpTo (top_at sc.scenario sc.events j) (top_at sc.scenario sc.events k)
      up_places j k low within true less = below_up (top_at sc.scenario sc.events j) (top_at sc.scenario sc.events k)
          (rises sc.scenario sc.events j k good.few (grind (arith, nat_tests, less)) within)
      up_places j k low within false not_less =
          let same : j ≡ k = grind (arith, nat_tests, low, not_less) in
          subst (λ (i : ℕ). IsUpTo (top_at sc.scenario sc.events j) (top_at sc.scenario sc.events i)) same
          (up_itself (top_at sc.scenario sc.events j))

      by_order : (d : Bool) (c : OldestHasMap (topology_in_act sc n s) b.top) → nat_le c.place s.read ≡ d → IsUpTo b.top s.seen
      by_order true c low =
          let mine = own_fits sc n s good in
          let le : c.place ≤ s.read = grind (arith, nat_tests, low) in
          let up = up_places c.place s.read le mine.within (nat_lt c.place s.read) refl in
          subst (λ (t : TopVer). IsUpTo b.top t) (sym seen)
          (subst (λ (t : TopVer). IsUpTo t (top_at sc.scenario sc.events s.read)) c.is_top up)
      by_order false c high =
          let mine = own_fits sc n s good in
          let lt : s.read < c.place = grind (arith, nat_tests, high) in
          let le : s.read ≤ c.place = omega (arith, lt) in
          let first = first_rest (is_oldest s) (not (is_installed s s.seen)) parts.0 in
          let oldest : oldest_member s.members ≡ Some n = node_shown n s.me (oldest_member s.members) mine.me_is first.0 in
          let at_read : oldest_member (topology_at sc s.read).members ≡ Some n =
          sym (ap (λ (t : Topology). oldest_member t.members) mine.known_is) ∙ oldest in
          let none = good.lefts n mine.not_lost in
          let stays = oldest_stays (topology_at sc s.read) (drop s.read (take c.place sc.events)) n at_read
          (left_between n s.read c.place none) in
          let by : oldest_member (topology_at sc c.place).members ≡ Some n =
          ap (λ (t : Topology). oldest_member t.members) (between s.read c.place le c.within) ∙ stays in
          let has_it : HasAtLeast b.top s.installed =
          own_holds sc n s (λ (g : TopologyState). HasAtLeast b.top g.installed) good (c.by_oldest n by) in
          below_seen sc n s s.installed mine.map_fits b.top has_it

  no_map_outside : (x : NodeId) (f : TopologyState) (m : PartMap) → is_member s.members x ≡ false →
      (topology_in_act sc n s).seat x ≡ Some (record { life = life.Alive; state = f }) → f.installed ≡ Some m → ⊥
  no_map_outside x f m outside at is =
      let a = topology_in_act sc n s in
      let fits : NodeFits a x f = alive_fits a x (record { life = life.Alive; state = f }) refl
      (good.seats x (record { life = life.Alive; state = f }) at) in
      let mine = own_fits sc n s good in
      let known : MapFits a f.known (Some m) = subst (λ (o : Option PartMap). MapFits a f.known o) is fits.map_fits in
      let in_it : IsMemberOf a m.top x = subst (λ (o : Option PartMap). MemberFits a x o) is fits.map_member in
      let c = good.computed m.top m known.0 in
      let same : c.place ≡ in_it.place = one_place sc.scenario sc.events c.place in_it.place good.few c.within in_it.within
      (c.is_top ∙ sym in_it.is_top) in
      let none = good.lefts x fits.not_lost in
      by_order (nat_le in_it.place s.read) in_it refl c same none
    where
      by_order : (b : Bool) (in_it : IsMemberOf (topology_in_act sc n s) m.top x) → nat_le in_it.place s.read ≡ b →
          (c : OldestHasMap (topology_in_act sc n s) m.top) → c.place ≡ in_it.place → never_leaves x sc.events ≡ true → ⊥
      by_order true in_it low c same none =
          let mine = own_fits sc n s good in
          let le : in_it.place ≤ s.read = grind (arith, nat_tests, low) in
          let stays = stays_in (topology_at sc in_it.place) (drop in_it.place (take s.read sc.events)) x in_it.member
          (left_between x in_it.place s.read none) in
          let inside : is_member s.members x ≡ true = ap (λ (t : Topology). is_member t.members x) (mine.known_is
          ∙ between in_it.place s.read le mine.within) ∙ stays in
          absurd (cc (inside, outside))
      by_order false in_it high c same none =
          let mine = own_fits sc n s good in
          let lt : s.read < in_it.place = grind (arith, nat_tests, high) in
          let le : s.read ≤ in_it.place = omega (arith, lt) in
          let first = first_rest (is_oldest s) (not (is_installed s s.seen)) parts.0 in
          let oldest : oldest_member s.members ≡ Some n = node_shown n s.me (oldest_member s.members) mine.me_is first.0 in
          let at_read : oldest_member (topology_at sc s.read).members ≡ Some n =
          sym (ap (λ (t : Topology). oldest_member t.members) mine.known_is) ∙ oldest in
          let stays = oldest_stays (topology_at sc s.read) (drop s.read (take in_it.place sc.events)) n at_read
          (left_between n s.read in_it.place (good.lefts n mine.not_lost)) in
          let by : oldest_member (topology_at sc c.place).members ≡ Some n =
          ap (λ (i : ℕ). oldest_member (topology_at sc i).members) same ∙ ap (λ (t : Topology). oldest_member t.members)
          (between s.read in_it.place le in_it.within) ∙ stays in
          let has_it : HasAtLeast m.top s.installed =
          own_holds sc n s (λ (g : TopologyState). HasAtLeast m.top g.installed) good (c.by_oldest n by) in
          let up : IsUpTo m.top s.seen = below_seen sc n s s.installed mine.map_fits m.top has_it in
          let below : IsBelow (top_at sc.scenario sc.events s.read) (top_at sc.scenario sc.events in_it.place) =
          rises sc.scenario sc.events s.read in_it.place good.few lt in_it.within in
          let seen : s.seen ≡ top_at sc.scenario sc.events s.read = ap (λ (t : Topology). t.top) mine.known_is in
          below_not_up s.seen m.top (subst (λ (t : TopVer). IsBelow t m.top) (sym seen)
          (subst (λ (t : TopVer). IsBelow (top_at sc.scenario sc.events s.read) t) in_it.is_top below)) up

  -- no living node has a higher map
  pub base_is_best_of_all : (x : NodeId) (f : TopologyState) →
      (topology_in_act sc n s).seat x ≡ Some (record { life = life.Alive; state = f }) → IsNoHigherMap f.installed base
  base_is_best_of_all x f at =
      elim (is_member s.members x) as (λ b. is_member s.members x ≡ b → IsNoHigherMap f.installed base) [
        | true ↦ λ t. base_is_best x f t at
        | false ↦ λ g. by_map f.installed refl g
      ] refl
    where
      by_map : (o : Option PartMap) → f.installed ≡ o → is_member s.members x ≡ false → IsNoHigherMap o base
      by_map None is outside = tt
      by_map (Some m) is outside = absurd (no_map_outside x f m outside at is)
