-- What lets a node install a map leaves what Singles tell of maps as it was.
use Rattle.std.proofs.Common.{◌≡◌, ◌⊎◌, inl, inr, ◌++◌, List, [], ◌∷◌, Option, Some, None, Bool, true, false, if◌then◌else◌, not, length, ℕ, zero, suc, refl, ap, sym, subst, ◌∙◌}
use Rattle.std.specs.Prelude.{drop, take}
use Rattle.std.proofs.Math.Seq.{take-length}
use Rattle.std.proofs.lemmas.List.{take-append-drop}
use Rattle.act_rows.specs.Exchange.{after_install}
use Rattle.part_model.specs.NextMap.{is_member}
use Rattle.part_model.specs.Directory.{members_after, oldest_member, without_node}
use Rattle.ignite_types.proofs.NameLaws.{same_node_itself, same_node_true}
use Rattle.ignite_types.specs.Names.{node_cmp, same_node}
use Rattle.std.proofs.lemmas.Map.Lookups.{exact_unsigned}
use Rattle.std.specs.declared.cmp.Ordering.TheVariants.{Equal}
use Rattle.ignite_types.specs.declared.journal.TopoEvent.{TopoEvent}
use Rattle.ignite_types.specs.declared.names.NodeId.{NodeId}
use Rattle.ignite_types.specs.declared.names.TopVer.{TopVer}
use Rattle.ignite_types.specs.declared.placement.PartMap.{PartMap}
use Rattle.ignite_types.specs.declared.scenario.Member.{Member}
use Rattle.journal_statements.specs.Noted.{is_lost}
use Rattle.journal_statements.specs.Topologies.{Topology, first_topology, last_topology, topology_after}
use Rattle.link_laws.proofs.Journals.{first_rest}
use Rattle.link_laws.proofs.Places.{some_is}
use Rattle.node_state.specs.Node.{NodeState}
use Rattle.topology_laws.specs.TopologyFacts.{HasAtLeast, IsBehind, IsNoHigherMap, IsOldestMember, IsUpTo, IsAliveWith, IsLostOr, is_leave_of, last_members, never_leaves}
use Rattle.topology_laws.specs.TopologyInvariant.{HoldsInTopologyAct, TopologyInvariant}
use Rattle.topology_laws.specs.TopologyScenes.{TopologyPart, TopologyScene, TopologyState, topology_at, topology_in_act, topology_state}
use Rattle.topology_laws.proofs.Steps.{IsExactAfter, alive_fits, own_fits, put_other, put_same}
use Rattle.topology_laws.proofs.Tops.{up_itself}
use Rattle.ignite_types.specs.declared.journal.TopoEvent.TheVariants as topo
use Rattle.node_state.specs.declared.life.Life.TheVariants as life

pub oldest_is_member : (ms : List Member) (x : NodeId) → oldest_member ms ≡ Some x → is_member ms x ≡ true
oldest_is_member [] x is = absurd (cc (is))
oldest_is_member (m ∷ ms) x is = subst (λ (n : NodeId). is_member (m ∷ ms) n ≡ true) (some_is m.node x is)
    (rw (same_node_itself m.node) refl)

pub exact_node : (a b : NodeId) → node_cmp a b ≡ Equal → a ≡ b
exact_node a b tied = let number : a.0 ≡ b.0 = exact_unsigned a.0 b.0 tied in (λ i. record { 0 = number i })

-- Who is the oldest member of a version stays it as long as it does not leave.

first_stays : (ms : List Member) (e : TopoEvent) (c : NodeId) → oldest_member ms ≡ Some c → not (is_leave_of c e) ≡ true →
    oldest_member (members_after ms e) ≡ Some c
first_stays [] e c is stays = absurd (cc (is))
first_stays (m ∷ ms) (topo.Join member) c is stays = is
first_stays (m ∷ ms) (topo.Left id) c is stays =
    let number : m.node ≡ c = some_is m.node c is in
    (elim (same_node m.node id) as (λ b. same_node m.node id ≡ b →
    oldest_member (if not b then m ∷ without_node id ms else without_node id ms) ≡ Some c) [
      | true ↦ λ t. let leaves = subst (λ (n : NodeId). same_node n id ≡ true) number t in
          absurd (off (same_node c id) stays leaves)
      | false ↦ λ f. is
    ]) refl
  where
    off : (b : Bool) → not b ≡ true → b ≡ true → ⊥
    off true e is = absurd (cc (e))
    off false e is = absurd (cc (is))
first_stays (m ∷ ms) topo.Minor c is stays = is
first_stays (m ∷ ms) (topo.Start cache) c is stays = is
first_stays (m ∷ ms) (topo.Stop cache) c is stays = is

pub oldest_stays : (t : Topology) (es : List TopoEvent) (c : NodeId) → oldest_member t.members ≡ Some c →
    never_leaves c es ≡ true → oldest_member (last_topology t es).members ≡ Some c
oldest_stays t [] c is none = is
oldest_stays t (e ∷ es) c is none =
    let both = first_rest (not (is_leave_of c e)) (never_leaves c es) none in
    oldest_stays (topology_after t e) es c (first_stays t.members e c is both.0) both.1

pub last_split : (t : Topology) (xs ys : List TopoEvent) → last_topology t (xs ++ ys) ≡ last_topology (last_topology t xs) ys
last_split t [] ys = refl
last_split t (x ∷ xs) ys = last_split (topology_after t x) xs ys

pub left_drop : (c : NodeId) (k : ℕ) (es : List TopoEvent) → never_leaves c es ≡ true → never_leaves c (drop k es) ≡ true
left_drop c zero es none = none
left_drop c (suc k) [] none = refl
left_drop c (suc k) (e ∷ es) none = left_drop c k es (first_rest (not (is_leave_of c e)) (never_leaves c es) none).1

pub now_from : (sc : TopologyScene) (k : ℕ) → topology_at sc (length sc.events) ≡ last_topology (topology_at sc k)
    (drop k sc.events)
now_from sc k =
    ap (last_topology (first_topology sc.scenario)) (take-length sc.events ∙ sym (take-append-drop k sc.events))
    ∙ last_split (first_topology sc.scenario) (take k sc.events) (drop k sc.events)

pub oldest_now : (sc : TopologyScene) (c : NodeId) (top : TopVer) → TopologyInvariant sc → is_lost sc.recs c ≡ false →
    IsOldestMember sc top c → oldest_member (last_members sc) ≡ Some c
oldest_now sc c top i lives o =
    ap (λ (t : Topology). oldest_member t.members) (now_from sc o.place)
    ∙ oldest_stays (topology_at sc o.place) (drop o.place sc.events) c o.oldest
    (left_drop c o.place sc.events (i.lefts c lives))

abbrev alive_as : TopologyState → TopologyPart
alive_as f = record { life = life.Alive; state = f }

-- two that are alive and oldest of versions are one
same_oldest : (sc : TopologyScene) (x y : NodeId) (v u : TopVer) → TopologyInvariant sc → is_lost sc.recs x ≡ false →
    is_lost sc.recs y ≡ false → IsOldestMember sc v x → IsOldestMember sc u y → x ≡ y
same_oldest sc x y v u i x_lives y_lives x_oldest y_oldest = some_is x y (sym (oldest_now sc x v i x_lives x_oldest)
    ∙ oldest_now sc y u i y_lives y_oldest)

alive_lives : (sc : TopologyScene) (x : NodeId) (f : TopologyState) → TopologyInvariant sc → sc.seat x ≡ Some (alive_as f) →
    is_lost sc.recs x ≡ false
alive_lives sc x f i there = (alive_fits sc x (alive_as f) refl (i.seats x (alive_as f) there)).not_lost

-- A node that acts in two states.
module _ (sc : TopologyScene) (n : NodeId) (s : NodeState) (m : PartMap) (good : HoldsInTopologyAct sc n s) where
  abbrev before : TopologyScene
  before = topology_in_act sc n s

  abbrev then : TopologyScene
  then = topology_in_act sc n (after_install s m)

  own_face : (x : NodeId) (f : TopologyState) → same_node n x ≡ true → then.seat x ≡ Some (alive_as f) →
      topology_state (after_install s m) ≡ f
  own_face x f same there =
      let at : Some (alive_as (topology_state (after_install s m))) ≡ Some (alive_as f) =
      sym (put_same n (alive_as (topology_state (after_install s m))) sc.seat) ∙ ap then.seat (same_node_true n x same)
      ∙ there in
      ap (λ (y : TopologyPart). y.state) (some_is (alive_as (topology_state (after_install s m))) (alive_as f) at)

  other_seat : (x : NodeId) (f : TopologyState) → same_node n x ≡ false → then.seat x ≡ Some (alive_as f) →
      before.seat x ≡ Some (alive_as f)
  other_seat x f other there = put_other n (alive_as (topology_state s)) sc.seat x other
      ∙ sym (put_other n (alive_as (topology_state (after_install s m))) sc.seat x other) ∙ there

  n_lives : is_lost before.recs n ≡ false
  n_lives = (own_fits sc n s good).not_lost

  -- The map came in a Full.
  module _ (from : NodeId) (not_yet : HasAtLeast m.top s.installed → ⊥) (from_oldest : IsOldestMember before m.top from)
      (from_has : IsAliveWith before from (λ (f : TopologyState). HasAtLeast m.top f.installed)) where
    from_lives : is_lost before.recs from ≡ false
    from_lives = alive_lives before from from_has.state good from_has.there

    own_has : from ≡ n → HasAtLeast m.top s.installed
    own_has same =
        let at : Some (alive_as (topology_state s)) ≡ Some (alive_as from_has.state) =
        sym (put_same n (alive_as (topology_state s)) sc.seat) ∙ ap before.seat (sym same) ∙ from_has.there in
        subst (λ (f : TopologyState). HasAtLeast m.top f.installed)
        (ap (λ (y : TopologyPart). y.state) (sym (some_is (alive_as (topology_state s)) (alive_as from_has.state) at)))
        from_has.holds

    pub full_sound : IsExactAfter sc n s m
    full_sound x y v o t a c at_x at_y =
        (elim (same_node n y) as (λ b. same_node n y ≡ b → (o ≡ a.installed) ⊎ IsBehind x y v a c) [
          | true ↦ λ e.
              let y_oldest : IsOldestMember before v n = subst (λ (k : NodeId). IsOldestMember before v k)
              (sym (same_node_true n y e)) t.1 in
              absurd (not_yet (own_has (same_oldest before from n m.top v good from_lives n_lives from_oldest y_oldest)))
          | false ↦ λ e.
              let seat_y = other_seat y c e at_y in
              let same : from ≡ y = same_oldest before from y m.top v good from_lives (alive_lives before y c good seat_y)
              from_oldest t.1 in
              let at : Some (alive_as from_has.state) ≡ Some (alive_as c) = sym from_has.there ∙ ap before.seat same ∙ seat_y in
              let has_it : HasAtLeast m.top c.installed = subst (λ (f : TopologyState). HasAtLeast m.top f.installed)
              (ap (λ (z : TopologyPart). z.state) (some_is (alive_as from_has.state) (alive_as c) at)) from_has.holds in
              elim (same_node n x) as (λ b. same_node n x ≡ b → (o ≡ a.installed) ⊎ IsBehind x y v a c) [
                | true ↦ λ g. inr (record {
                  no_higher = subst (λ (f : TopologyState). IsNoHigherMap f.installed c.installed) (own_face x a g at_x) has_it;
                  own = λ same_xy.
                      let both = subst (λ (k : NodeId). same_node n k ≡ true) (same_node_true x y same_xy) g in
                      absurd (cc (both, e));
                })
                | false ↦ λ g. t.3 a c (other_seat x a g at_x) seat_y
              ] refl
        ]) refl

  -- The node computes the map of the version that it has seen.

  raised_map : (o : Option PartMap) → ((top : TopVer) → HasAtLeast top s.installed → IsUpTo top m.top) →
      IsNoHigherMap o s.installed → IsNoHigherMap o (Some m)
  raised_map None newer low = tt
  raised_map (Some k) newer low = newer k.top low

  seen_own : (v : TopVer) → IsLostOr before n (λ (f : TopologyState). IsUpTo v f.known.top) → IsUpTo v s.seen
  seen_own v (inl lost) = let lives = n_lives in absurd (cc (lost, lives))
  seen_own v (inr l) =
      let at : Some (alive_as (topology_state s)) ≡ Some (alive_as l.state) =
      sym (put_same n (alive_as (topology_state s)) sc.seat) ∙ l.there in
      subst (λ (f : TopologyState). IsUpTo v f.known.top)
      (ap (λ (y : TopologyPart). y.state) (sym (some_is (alive_as (topology_state s)) (alive_as l.state) at))) l.holds

  pub compute_sound : s.seen ≡ m.top → IsOldestMember before m.top n →
      ((top : TopVer) → HasAtLeast top s.installed → IsUpTo top m.top) → IsExactAfter sc n s m
  compute_sound seen n_oldest newer x y v o t a c at_x at_y =
      (elim (same_node n y) as (λ b. same_node n y ≡ b → (o ≡ a.installed) ⊎ IsBehind x y v a c) [
        | false ↦ λ e.
            let seat_y = other_seat y c e at_y in
            let same : n ≡ y = same_oldest before n y m.top v good n_lives (alive_lives before y c good seat_y) n_oldest t.1 in
            let itself = subst (λ (k : NodeId). same_node n k ≡ true) same (same_node_itself n) in
            absurd (cc (itself, e))
        | true ↦ λ e.
            let here : topology_state (after_install s m) ≡ c = own_face y c e at_y in
            elim (same_node n x) as (λ b. same_node n x ≡ b → (o ≡ a.installed) ⊎ IsBehind x y v a c) [
              | true ↦ λ g. inr (record {
                no_higher = subst (λ (f : TopologyState). IsNoHigherMap f.installed c.installed) (own_face x a g at_x)
                    (subst (λ (f : TopologyState). IsNoHigherMap (Some m) f.installed) here (up_itself m.top));
                own = λ same_xy.
                    subst (λ (f : TopologyState). HasAtLeast v f.installed) here
                    (subst (λ (w : TopVer). IsUpTo v w) seen
                    (seen_own v (subst (λ (k : NodeId). IsLostOr before k (λ (f : TopologyState). IsUpTo v f.known.top))
                    (sym (same_node_true n x g)) t.0)));
              })
              | false ↦ λ g. by_case e g here (t.3 a (topology_state s) (other_seat x a g at_x)
                  (ap before.seat (sym (same_node_true n y e)) ∙ put_same n (alive_as (topology_state s)) sc.seat))
            ] refl
      ]) refl
    where
      by_case : same_node n y ≡ true → same_node n x ≡ false → topology_state (after_install s m) ≡ c → (o ≡ a.installed)
          ⊎ IsBehind x y v a (topology_state s) → (o ≡ a.installed) ⊎ IsBehind x y v a c
      by_case e g here (inl is) = inl is
      by_case e g here (inr low) = inr (record {
        no_higher = subst (λ (f : TopologyState). IsNoHigherMap a.installed f.installed) here
            (raised_map a.installed newer low.no_higher);
        own = λ same_xy.
            let back : n ≡ x = same_node_true n y e ∙ sym (same_node_true x y same_xy) in
            let itself = subst (λ (k : NodeId). same_node n k ≡ true) back (same_node_itself n) in
            absurd (cc (itself, g));
      })
