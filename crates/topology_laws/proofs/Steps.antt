-- The small steps of a node, each of which keeps the invariant.
use Rattle.std.proofs.Common.{◌≡◌, ◌≤◌, ◌<◌, ◌+◌, ◌⊎◌, inl, inr, ◌++◌, ◌&&◌, List, [], ◌∷◌, Option, Some, None, Bool, true, false, if◌then◌else◌, length, map, ℕ, suc, refl, ap, sym, subst, ◌∙◌, arith}
use Rattle.std.specs.List.{list_all}
use Rattle.std.specs.Prelude.{slice_get}
use Rattle.std.proofs.lemmas.Option.{slice_get_within}
use Rattle.frame_laws.proofs.Extending.{append_none, append_twice}
use Rattle.act_rows.specs.Exchange.{after_install, after_learn}
use Rattle.act_rows.specs.Steps.{with_note, with_outs}
use Rattle.part_model.specs.Directory.{first_top, oldest_member, version_after}
use Rattle.part_model.specs.Orders.{next_count}
use Rattle.ignite_types.proofs.NameLaws.{same_top_true}
use Rattle.ignite_types.proofs.NameLaws.{same_node_itself, same_node_true}
use Rattle.ignite_types.specs.Names.{same_node, same_top}
use Rattle.ignite_types.specs.declared.journal.Rec.{Rec}
use Rattle.ignite_types.specs.declared.journal.TopoEvent.{TopoEvent}
use Rattle.ignite_types.specs.declared.message.Out.{Out}
use Rattle.ignite_types.specs.declared.message.Single.{Single}
use Rattle.ignite_types.specs.declared.names.NodeId.{NodeId}
use Rattle.ignite_types.specs.declared.names.TopVer.{TopVer}
use Rattle.ignite_types.specs.declared.placement.PartMap.{PartMap}
use Rattle.journal_statements.specs.Noted.{Noted, is_lost, map_of_version, maps_installed, noted_by}
use Rattle.journal_statements.specs.Topologies.{Topology, first_topology, topology_after}
use Rattle.link_laws.proofs.Journals.{first_rest, lost_parts}
use Rattle.link_laws.proofs.Places.{some_is}
use Rattle.node_state.specs.declared.life.Life.{Life}
use Rattle.node_state.specs.Node.{NodeState}
use Rattle.node_state.specs.declared.topology.Exchange.{Exchange}
use Rattle.topology_laws.specs.TopologyFacts.{AllHaveInstalled, OldestHasMap, HoldsOfEach, ExchangeFits, RecordsFitFrom, RecordFits, HasAtLeast, HasMap, HasSomeMap, IsBehind, IsExact, IsMemberOf, IsNoHigherMap, IsUpTo, IsAliveWith, IsLostOr, MapFits, NodeFits, OldestFits, PartFits, SingleTells, MessageTells, opens_at, opens_in_exchange, is_opens_of, openings_to_come, openings_by, opens_on_link, opens_in_outbox, IsBelow}
use Rattle.topology_laws.specs.TopologyInvariant.{HoldsInTopologyAct}
use Rattle.topology_laws.specs.LeavesTopology.{says_no_topology}
use Rattle.topology_laws.specs.TopologyScenes.{TopologyPart, TopologyScene, TopologyState, has_noted_map, map_of, parts_with, topology_at, topology_in_act, topology_state}
use Rattle.topology_laws.proofs.Later.{Later, computed_later, oldest_fits_later, one_later, exchange_later, fit_later, in_later, link_later, node_later, outbox_later, seat_later, singles_later}
use Rattle.topology_laws.proofs.Counts.{count_parts, install_opened, none_opened, opened_elsewhere, opened_here, opened_parts}
use Rattle.topology_laws.proofs.Lists.{each_both}
use Rattle.topology_laws.proofs.Records.{installed_more, lost_more, map_either, map_first, map_more, map_same, no_maps, none_lost}
use Rattle.topology_laws.proofs.Tops.{below_up, next_below, one_more, raised_is, top_at, up_itself, up_twice}
use Rattle.ignite_types.specs.declared.journal.Rec.TheVariants as note
use Rattle.node_state.specs.declared.life.Life.TheVariants as life

pub map_parts : {A B : Type 0} (f : A → B) (xs ys : List A) → map f (xs ++ ys) ≡ map f xs ++ map f ys
map_parts f [] ys = refl
map_parts f (x ∷ xs) ys = ap (λ zs. f x ∷ zs) (map_parts f xs ys)

-- A seat that was put.

pub put_elim : (n : NodeId) (x : TopologyPart) (f : NodeId → Option TopologyPart) (P : NodeId → TopologyPart → Type 0) →
    P n x → ((m : NodeId) (y : TopologyPart) → same_node n m ≡ false → f m ≡ Some y → P m y)
    → (m : NodeId) (y : TopologyPart) → parts_with n x f m ≡ Some y → P m y
put_elim n x f P here there m y is =
    (elim (same_node n m) as (λ b. same_node n m ≡ b → (if b then Some x else f m) ≡ Some y → P m y) [
      | true ↦ λ t e. subst (λ (z : TopologyPart). P m z) (some_is x y e)
          (subst (λ (k : NodeId). P k x) (same_node_true n m t) here)
      | false ↦ λ g e. there m y g e
    ]) refl is

pub put_same : (n : NodeId) (x : TopologyPart) (f : NodeId → Option TopologyPart) → parts_with n x f n ≡ Some x
put_same n x f = rw (same_node_itself n) refl

pub put_other : (n : NodeId) (x : TopologyPart) (f : NodeId → Option TopologyPart) (m : NodeId) → same_node n m ≡ false →
    parts_with n x f m ≡ f m
put_other n x f m other = rw other refl

abbrev alive_as : TopologyState → TopologyPart
alive_as f = record { life = life.Alive; state = f }

-- what is known of one that is alive, after a change of it
pub lives_after : (sc : TopologyScene) (n : NodeId) (a b : NodeState) (m : NodeId) (P : TopologyState → Type 0) →
    (P (topology_state a) → P (topology_state b)) → IsAliveWith (topology_in_act sc n a) m P →
    IsAliveWith (topology_in_act sc n b) m P
lives_after sc n a b m P goes l =
    (elim (same_node n m) as (λ c. same_node n m ≡ c → (if c then Some (alive_as (topology_state a)) else sc.seat m)
    ≡ Some (alive_as l.state) → IsAliveWith (topology_in_act sc n b) m P) [
      | true ↦ λ t e.
          let same : topology_state a ≡ l.state =
          ap (λ (x : TopologyPart). x.state) (some_is (alive_as (topology_state a)) (alive_as l.state) e) in
          record { state = topology_state b; there = rw t refl; holds = goes (subst P (sym same) l.holds) }
      | false ↦ λ g e. record { state = l.state; there = rw g e; holds = l.holds }
    ]) refl l.there

-- what a change of the acting node owes for the rest of the scene
pub record Step (sc : TopologyScene) (n : NodeId) (a b : NodeState) : Type 0 where
  pub more : List Rec
  pub noted_is : b.noted ≡ a.noted ++ more
  pub lost_none : (x : NodeId) → is_lost (noted_by (Some n) more) x ≡ false
  pub seen_up : (top : TopVer) → IsUpTo top a.seen → IsUpTo top b.seen
  pub map_up : (top : TopVer) → HasAtLeast top a.installed → HasAtLeast top b.installed
  pub exact : (from to : NodeId) (top : TopVer) (m : Option PartMap) → SingleTells (topology_in_act sc n a) from to top m →
      IsExact (topology_in_act sc n b) from to top m

-- one that is alive after a change of the acting node was so before, with the same map
same_map_before : (sc : TopologyScene) (n : NodeId) (a b : NodeState) → b.installed ≡ a.installed →
    (m : NodeId) (f : TopologyState) → (topology_in_act sc n b).seat m ≡ Some (alive_as f)
    → (g : TopologyState) × ((topology_in_act sc n a).seat m ≡ Some (alive_as g)) × (g.installed ≡ f.installed)
same_map_before sc n a b map_is m f there =
    (elim (same_node n m) as (λ c. same_node n m ≡ c → (if c then Some (alive_as (topology_state b)) else sc.seat m)
    ≡ Some (alive_as f) → (g : TopologyState) × ((topology_in_act sc n a).seat m ≡ Some (alive_as g))
    × (g.installed ≡ f.installed)) [
      | true ↦ λ t e. (
        topology_state a,
        rw t refl,
        sym map_is ∙ ap (λ (x : TopologyPart). x.state.installed)
            (some_is (alive_as (topology_state b)) (alive_as f) e),
      )
      | false ↦ λ g e. (f, rw g e, refl)
    ]) refl there

-- what a Single tells goes on where maps stay
pub exact_after : (a b : TopologyScene) → ((m : NodeId) (f : TopologyState) → b.seat m ≡ Some (alive_as f) →
    (g : TopologyState) × (a.seat m ≡ Some (alive_as g)) × (g.installed ≡ f.installed))
    → (from to : NodeId) (top : TopVer) (m : Option PartMap) → IsExact a from to top m → IsExact b from to top m
exact_after a b before from to top m exact x y at_x at_y =
    let p = before from x at_x in
    let q = before to y at_y in
    by_case p q (exact p.0 q.0 p.1 q.1)
  where
    by_case : (p : (g : TopologyState) × (a.seat from ≡ Some (alive_as g)) × (g.installed ≡ x.installed))
        (q : (g : TopologyState) × (a.seat to ≡ Some (alive_as g)) × (g.installed ≡ y.installed)) → (m ≡ p.0.installed)
        ⊎ IsBehind from to top p.0 q.0
        → (m ≡ x.installed) ⊎ IsBehind from to top x y
    by_case p q (inl is) = inl (is ∙ p.2)
    by_case p q (inr behind) = inr (record {
      no_higher = subst (λ (o : Option PartMap). IsNoHigherMap o y.installed) p.2
          (subst (λ (o : Option PartMap). IsNoHigherMap p.0.installed o) q.2 behind.no_higher);
      own = λ e. subst (λ (o : Option PartMap). HasAtLeast top o) q.2 (behind.own e);
    })

pub exact_here : (sc : TopologyScene) (n : NodeId) (a b : NodeState) → b.installed ≡ a.installed →
    (from to : NodeId) (top : TopVer) (m : Option PartMap) → SingleTells (topology_in_act sc n a) from to top m →
    IsExact (topology_in_act sc n b) from to top m
exact_here sc n a b map_is from to top m t = exact_after (topology_in_act sc n a) (topology_in_act sc n b)
    (same_map_before sc n a b map_is) from to top m t.3

module _ (sc : TopologyScene) (n : NodeId) (a b : NodeState) (st : Step sc n a b) where
  pub recs_grow : (topology_in_act sc n b).recs ≡ (topology_in_act sc n a).recs ++ noted_by (Some n) st.more
  recs_grow =
      ap (λ rs. sc.recs ++ noted_by (Some n) rs) st.noted_is
      ∙ ap (λ ns. sc.recs ++ ns) (map_parts (λ (r : Rec). record { node = Some n; rec = r }) a.noted st.more)
      ∙ sym (append_twice sc.recs (noted_by (Some n) a.noted) (noted_by (Some n) st.more))

  either_after : (m : NodeId) (P : TopologyState → Type 0) → (P (topology_state a) → P (topology_state b)) →
      IsLostOr (topology_in_act sc n a) m P → IsLostOr (topology_in_act sc n b) m P
  either_after m P goes (inl lost) =
      inl (subst (λ (rs : List Noted). is_lost rs m ≡ true) (sym recs_grow)
      (lost_more (topology_in_act sc n a).recs (noted_by (Some n) st.more) m lost))
  either_after m P goes (inr l) = inr (lives_after sc n a b m P goes l)

  pub step_later : Later (topology_in_act sc n a) (topology_in_act sc n b)
  step_later = record {
    same_scenario = refl;
    events = λ k within. (within, refl);
    lost = λ m e. subst (λ (rs : List Noted). is_lost rs m ≡ true) (sym recs_grow)
        (lost_more (topology_in_act sc n a).recs (noted_by (Some n) st.more) m e);
    installed = λ top m e. subst (λ (rs : List Noted). has_noted_map rs top m ≡ true) (sym recs_grow)
        (installed_more (topology_in_act sc n a).recs (noted_by (Some n) st.more) top m e);
    maps = λ top m e. subst (λ (rs : List Noted). map_of_version (maps_installed sc.scenario rs) top ≡ Some m) (sym recs_grow)
        (map_more sc.scenario (topology_in_act sc n a).recs (noted_by (Some n) st.more) top m e);
    seen = λ top m h. either_after m (λ (f : TopologyState). IsUpTo top f.known.top) (st.seen_up top) h;
    has_map = λ top m h. either_after m (λ (f : TopologyState). HasAtLeast top f.installed) (st.map_up top) h;
    exact = st.exact;
  }

  pub still_lives : (m : NodeId) → is_lost (topology_in_act sc n a).recs m ≡ false → is_lost (topology_in_act sc n b).recs m
      ≡ false
  still_lives m lives = ap (λ rs. is_lost rs m) recs_grow ∙ lost_parts (topology_in_act sc n a).recs
      (noted_by (Some n) st.more) m ∙ (rw (lives, st.lost_none m) refl)

pub fit_parts : (sc : TopologyScene) (before ns ms : List Noted) → RecordsFitFrom sc before ns →
    RecordsFitFrom sc (before ++ ns) ms → RecordsFitFrom sc before (ns ++ ms)
fit_parts sc before [] ms first second = subst (λ (rs : List Noted). RecordsFitFrom sc rs ms) (append_none before) second
fit_parts sc before (n ∷ ns) ms first second = (
  first.0,
  fit_parts sc (before ++ n ∷ []) ns ms first.1 (subst (λ (rs : List Noted). RecordsFitFrom sc rs ms)
      (sym (append_twice before (n ∷ []) ns)) second),
)

-- what holds of the acting node
pub own_fits : (sc : TopologyScene) (n : NodeId) (s : NodeState) → HoldsInTopologyAct sc n s →
    NodeFits (topology_in_act sc n s) n (topology_state s)
own_fits sc n s good = good.seats n (alive_as (topology_state s)) (put_same n (alive_as (topology_state s)) sc.seat)

not_alive : (at : Life) (sc : TopologyScene) (n : NodeId) (f : TopologyState) → PartFits sc n at f → at ≡ life.Alive →
    NodeFits sc n f
not_alive life.Alive sc n f fits is = fits
not_alive life.Absent sc n f fits is = absurd (cc (is))
not_alive life.Gone sc n f fits is = absurd (cc (is))

pub alive_fits : (sc : TopologyScene) (n : NodeId) (x : TopologyPart) → x.life ≡ life.Alive → PartFits sc n x.life x.state →
    NodeFits sc n x.state
alive_fits sc n x is fits = not_alive x.life sc n x.state fits is

-- the assembly: a step of the acting node keeps the invariant
pub step_good : (sc : TopologyScene) (n : NodeId) (a b : NodeState) (st : Step sc n a b) → HoldsInTopologyAct sc n a →
    NodeFits (topology_in_act sc n b) n (topology_state b)
    → ((top : TopVer) (m : PartMap) → map_of (topology_in_act sc n b) top ≡ Some m →
    map_of (topology_in_act sc n a) top ≡ None → OldestHasMap (topology_in_act sc n b) top)
    → RecordsFitFrom (topology_in_act sc n a) (topology_in_act sc n a).recs (noted_by (Some n) st.more)
    → ((from to : NodeId) (v : TopVer) → openings_to_come (topology_in_act sc n b) v from to + openings_by v to
    (topology_in_act sc n b).recs ≤ 1)
    → ((to : NodeId) (v : TopVer) → (openings_by v to (topology_in_act sc n b).recs ≡ 0)
    ⊎ HasSomeMap (topology_in_act sc n b) v) → HoldsInTopologyAct sc n b
step_good sc n a b st good own new fit once known =
    let later = step_later sc n a b st in
    record {
      few = good.few;
      once = once;
      known = known;
      lefts = λ m lives. good.lefts m (not_before m (is_lost (topology_in_act sc n a).recs m) refl lives);
      sat = λ k within m is. later.seen first_top m (good.sat k within m is);
      seats = put_elim n (alive_as (topology_state b)) sc.seat (λ (m : NodeId) (x : TopologyPart).
          PartFits (topology_in_act sc n b) m x.life x.state) own
          (λ m x other is.
          let before = good.seats m x (put_other n (alive_as (topology_state a)) sc.seat m other ∙ is) in
          seat_later (topology_in_act sc n a) (topology_in_act sc n b) later m x.life x.state
          (λ alive. let k = alive_fits (topology_in_act sc n a) m x alive before in
          (still_lives sc n a b st m k.not_lost, k.member)) before);
      links = λ x y. link_later (topology_in_act sc n a) (topology_in_act sc n b) later x y (sc.link x y) (good.links x y);
      computed = λ top m is.
          (elim (map_of (topology_in_act sc n a) top) as (λ o. map_of (topology_in_act sc n a) top ≡ o →
          OldestHasMap (topology_in_act sc n b) top) [
            | Some there ↦ λ e. computed_later (topology_in_act sc n a) (topology_in_act sc n b) later top
                (good.computed top there e)
            | None ↦ λ e. new top m is e
          ]) refl;
      fit = subst (λ (rs : List Noted). RecordsFitFrom (topology_in_act sc n b) [] rs) (sym (recs_grow sc n a b st))
          (fit_parts (topology_in_act sc n b) [] (topology_in_act sc n a).recs (noted_by (Some n) st.more)
          (fit_later (topology_in_act sc n a) (topology_in_act sc n b) later [] (topology_in_act sc n a).recs good.fit)
          (fit_later (topology_in_act sc n a) (topology_in_act sc n b) later (topology_in_act sc n a).recs
          (noted_by (Some n) st.more) fit));
    }
  where
    not_before : (m : NodeId) (c : Bool) → is_lost (topology_in_act sc n a).recs m ≡ c →
        is_lost (topology_in_act sc n b).recs m ≡ false → c ≡ false
    not_before m true was lives = let still = (step_later sc n a b st).lost m was in absurd (cc (still, lives))
    not_before m false was lives = refl

-- What the acting node may open.

abbrev pub OwnOnce : TopologyScene → NodeId → NodeState → NodeState → Type 0
OwnOnce sc n a b = (to : NodeId) (v : TopVer) →
    opens_on_link v (sc.link n to) + (opens_in_outbox v to b.outbox + opens_in_exchange v b.exchange) + openings_by v to
    (topology_in_act sc n a).recs ≤ 1

pub own_once : (sc : TopologyScene) (n : NodeId) (s : NodeState) → HoldsInTopologyAct sc n s → OwnOnce sc n s s
own_once sc n s good to v =
    subst (λ (x : Option TopologyPart). opens_on_link v (sc.link n to) + opens_at v to x + openings_by v to
    (topology_in_act sc n s).recs ≤ 1) (put_same n (alive_as (topology_state s)) sc.seat) (good.once n to v)

-- where it holds no more than before
pub no_more : (sc : TopologyScene) (n : NodeId) (a b : NodeState) → HoldsInTopologyAct sc n a →
    ((to : NodeId) (v : TopVer) → opens_in_outbox v to b.outbox + opens_in_exchange v b.exchange
    ≤ opens_in_outbox v to a.outbox + opens_in_exchange v a.exchange) → OwnOnce sc n a b
no_more sc n a b good less to v = let once = own_once sc n a good to v in let low = less to v in omega (arith, once, low)

same_held : (x y : ℕ) → x + y ≤ x + y
same_held x y = omega arith

pub kept_held : (s : NodeState) (to : NodeId) (v : TopVer) → opens_in_outbox v to s.outbox + opens_in_exchange v s.exchange
    ≤ opens_in_outbox v to s.outbox + opens_in_exchange v s.exchange
kept_held s to v = same_held (opens_in_outbox v to s.outbox) (opens_in_exchange v s.exchange)

-- all that may be opened, where as many openings are noted
all_once : (sc : TopologyScene) (n : NodeId) (a b : NodeState) → HoldsInTopologyAct sc n a → OwnOnce sc n a b →
    ((to : NodeId) (v : TopVer) → openings_by v to (topology_in_act sc n b).recs ≡ openings_by v to
    (topology_in_act sc n a).recs)
    → (from to : NodeId) (v : TopVer) → openings_to_come (topology_in_act sc n b) v from to + openings_by v to
    (topology_in_act sc n b).recs ≤ 1
all_once sc n a b good own same from to v =
    (elim (same_node n from) as (λ c. same_node n from ≡ c → opens_on_link v (sc.link from to) + opens_at v to
    (if c then Some (alive_as (topology_state b)) else sc.seat from) + openings_by v to (topology_in_act sc n b).recs ≤ 1) [
      | true ↦ λ t. rw (same to v)
          (subst (λ (x : NodeId). opens_on_link v (sc.link x to)
          + (opens_in_outbox v to b.outbox + opens_in_exchange v b.exchange) + openings_by v to (topology_in_act sc n a).recs
          ≤ 1) (same_node_true n from t) (own to v))
      | false ↦ λ f. rw (same to v) (subst (λ (x : Option TopologyPart). opens_on_link v (sc.link from to) + opens_at v to x
          + openings_by v to (topology_in_act sc n a).recs ≤ 1) (put_other n (alive_as (topology_state a)) sc.seat from f)
          (good.once from to v))
    ]) refl

known_after : (sc : TopologyScene) (n : NodeId) (a b : NodeState) → Later (topology_in_act sc n a) (topology_in_act sc n b) →
    HoldsInTopologyAct sc n a →
    ((to : NodeId) (v : TopVer) → openings_by v to (topology_in_act sc n b).recs ≡ openings_by v to
    (topology_in_act sc n a).recs)
    → (to : NodeId) (v : TopVer) → (openings_by v to (topology_in_act sc n b).recs ≡ 0) ⊎ HasSomeMap (topology_in_act sc n b) v
known_after sc n a b later good same to v = by_case (good.known to v)
  where
    by_case : (openings_by v to (topology_in_act sc n a).recs ≡ 0) ⊎ HasSomeMap (topology_in_act sc n a) v →
        (openings_by v to (topology_in_act sc n b).recs ≡ 0) ⊎ HasSomeMap (topology_in_act sc n b) v
    by_case (inl none) = inl (same to v ∙ none)
    by_case (inr one) = inr (one_later (topology_in_act sc n a) (topology_in_act sc n b) later v one)

pub no_openings : (sc : TopologyScene) (n : NodeId) (a b : NodeState) (st : Step sc n a b) →
    ((to : NodeId) (v : TopVer) → openings_by v to (noted_by (Some n) st.more) ≡ 0) → (to : NodeId) (v : TopVer) →
    openings_by v to (topology_in_act sc n b).recs ≡ openings_by v to (topology_in_act sc n a).recs
no_openings sc n a b st none to v =
    ap (λ rs. openings_by v to rs) (recs_grow sc n a b st) ∙ opened_parts v to (topology_in_act sc n a).recs
    (noted_by (Some n) st.more)
    ∙ ap (λ (k : ℕ). openings_by v to (topology_in_act sc n a).recs + k) (none to v)
    ∙ no_added (openings_by v to (topology_in_act sc n a).recs)
  where
    no_added : (k : ℕ) → k + 0 ≡ k
    no_added k = omega arith

-- Steps that note nothing of maps, openings and losses.

quiet_fits : (sc : TopologyScene) (before : List Noted) (r : Rec) → says_no_topology r ≡ true → RecordFits sc before r
quiet_fits sc before (note.Install m) quiet = absurd (cc (quiet))
quiet_fits sc before (note.Opened top) quiet = absurd (cc (quiet))
quiet_fits sc before _ quiet = tt

pub quiet_fit : (sc : TopologyScene) (before : List Noted) (who : Option NodeId) (rs : List Rec) →
    list_all says_no_topology rs ≡ true → RecordsFitFrom sc before (noted_by who rs)
quiet_fit sc before who [] quiet = tt
quiet_fit sc before who (r ∷ rs) quiet =
    let both = first_rest (says_no_topology r) (list_all says_no_topology rs) quiet in
    (quiet_fits sc before r both.0, quiet_fit sc (before ++ record { node = who; rec = r } ∷ []) who rs both.1)

pub calm_good : (sc : TopologyScene) (n : NodeId) (a b : NodeState) (more : List Rec) → b.noted ≡ a.noted ++ more →
    list_all says_no_topology more ≡ true → ((top : TopVer) → IsUpTo top a.seen → IsUpTo top b.seen)
    → b.installed ≡ a.installed → HoldsInTopologyAct sc n a → OwnOnce sc n a b →
    (Later (topology_in_act sc n a) (topology_in_act sc n b) → NodeFits (topology_in_act sc n b) n (topology_state a) →
    NodeFits (topology_in_act sc n b) n (topology_state b)) → HoldsInTopologyAct sc n b
calm_good sc n a b more noted quiet up map_is good once own =
    let st : Step sc n a b = record {
      more = more;
      noted_is = noted;
      lost_none = λ x. none_lost (Some n) more x quiet;
      seen_up = up;
      map_up = λ top has. subst (λ (m : Option PartMap). HasAtLeast top m) (sym map_is) has;
      exact = exact_here sc n a b map_is;
    } in
    let later = step_later sc n a b st in
    let before = own_fits sc n a good in
    step_good sc n a b st good
    (own later (node_later (topology_in_act sc n a) (topology_in_act sc n b) later n (topology_state a)
    (still_lives sc n a b st n before.not_lost) before.member before))
    (λ top m is none.
    let same = ap (λ rs. map_of_version (maps_installed sc.scenario rs) top) (recs_grow sc n a b st)
    ∙ map_same sc.scenario (topology_in_act sc n a).recs (noted_by (Some n) more) top (no_maps (Some n) more quiet) in
    absurd (cc (is, same, none)))
    (quiet_fit (topology_in_act sc n a) (topology_in_act sc n a).recs (Some n) more quiet)
    (all_once sc n a b good once (no_openings sc n a b st (λ to v. none_opened v to (Some n) more quiet)))
    (known_after sc n a b later good (no_openings sc n a b st (λ to v. none_opened v to (Some n) more quiet)))

-- a step that notes nothing
pub still_good : (sc : TopologyScene) (n : NodeId) (a b : NodeState) → b.noted ≡ a.noted → b.seen ≡ a.seen →
    b.installed ≡ a.installed → HoldsInTopologyAct sc n a → OwnOnce sc n a b
    → (Later (topology_in_act sc n a) (topology_in_act sc n b) → NodeFits (topology_in_act sc n b) n (topology_state a) →
    NodeFits (topology_in_act sc n b) n (topology_state b)) → HoldsInTopologyAct sc n b
still_good sc n a b noted seen map_is good once own =
    calm_good sc n a b [] (noted ∙ sym (append_none a.noted)) refl (λ top up. subst (λ (t : TopVer). IsUpTo top t)
    (sym seen) up) map_is good once own

pub sent_good : (sc : TopologyScene) (n : NodeId) (s : NodeState) (outs : List Out) →
    HoldsOfEach (λ (o : Out). MessageTells (topology_in_act sc n s) n o.to o.msg) outs → OwnOnce sc n s (with_outs s outs) →
    HoldsInTopologyAct sc n s → HoldsInTopologyAct sc n (with_outs s outs)
sent_good sc n s outs tell once good =
    still_good sc n s (with_outs s outs) refl refl refl good once
    (λ later k. record {
      me_is = k.me_is;
      not_lost = k.not_lost;
      member = k.member;
      within = k.within;
      known_is = k.known_is;
      map_fits = k.map_fits;
      map_member = k.map_member;
      exchange_fits = k.exchange_fits;
      exchange_oldest = k.exchange_oldest;
      singles_tell = k.singles_tell;
      outbox_tells = each_both (λ (o : Out). MessageTells (topology_in_act sc n (with_outs s outs)) n o.to o.msg) s.outbox
          outs k.outbox_tells
          (outbox_later (topology_in_act sc n s) (topology_in_act sc n (with_outs s outs)) later n outs tell);
    })

-- messages that open nothing
pub other_good : (sc : TopologyScene) (n : NodeId) (s : NodeState) (outs : List Out) →
    ((to : NodeId) (v : TopVer) → opens_in_outbox v to outs ≡ 0) →
    HoldsOfEach (λ (o : Out). MessageTells (topology_in_act sc n s) n o.to o.msg) outs → HoldsInTopologyAct sc n s →
    HoldsInTopologyAct sc n (with_outs s outs)
other_good sc n s outs none tell good =
    sent_good sc n s outs tell
    (no_more sc n s (with_outs s outs) good
    (λ to v.
    let parts : opens_in_outbox v to (s.outbox ++ outs) ≡ opens_in_outbox v to s.outbox + opens_in_outbox v to outs =
    count_parts (λ (o : Out). same_node o.to to && is_opens_of v o.msg) s.outbox outs in
    let nothing = none to v in
    omega (arith, parts, nothing)))
    good

pub singles_good : (sc : TopologyScene) (n : NodeId) (s : NodeState) (xs : List Single) →
    HoldsOfEach (λ (x : Single). SingleTells (topology_in_act sc n s) x.from n x.top x.map) xs → HoldsInTopologyAct sc n s →
    HoldsInTopologyAct sc n (record s { singles = xs })
singles_good sc n s xs tell good =
    let b : NodeState = record s { singles = xs } in
    still_good sc n s b refl refl refl good (no_more sc n s b good (kept_held s))
    (λ later k. record {
      me_is = k.me_is;
      not_lost = k.not_lost;
      member = k.member;
      within = k.within;
      known_is = k.known_is;
      map_fits = k.map_fits;
      map_member = k.map_member;
      exchange_fits = k.exchange_fits;
      exchange_oldest = k.exchange_oldest;
      singles_tell = singles_later (topology_in_act sc n s) (topology_in_act sc n b) later n xs tell;
      outbox_tells = k.outbox_tells;
    })

pub exchange_good : (sc : TopologyScene) (n : NodeId) (s : NodeState) (x : Option Exchange) →
    ExchangeFits (topology_in_act sc n s) (topology_state s).known x → OldestFits (topology_in_act sc n s) n x →
    OwnOnce sc n s (record s { exchange = x }) → HoldsInTopologyAct sc n s → HoldsInTopologyAct sc n (record s { exchange = x })
exchange_good sc n s x fits oldest once good =
    let b : NodeState = record s { exchange = x } in
    still_good sc n s b refl refl refl good once
    (λ later k. record {
      me_is = k.me_is;
      not_lost = k.not_lost;
      member = k.member;
      within = k.within;
      known_is = k.known_is;
      map_fits = k.map_fits;
      map_member = k.map_member;
      exchange_fits = exchange_later (topology_in_act sc n s) (topology_in_act sc n b) later (topology_state s).known x fits;
      exchange_oldest = oldest_fits_later (topology_in_act sc n s) (topology_in_act sc n b) later n x oldest;
      singles_tell = k.singles_tell;
      outbox_tells = k.outbox_tells;
    })

-- The steps that matter.

-- a version is opened
pub opened_good : (sc : TopologyScene) (n : NodeId) (s : NodeState) (top : TopVer) →
    AllHaveInstalled (topology_in_act sc n s) top → HasSomeMap (topology_in_act sc n s) top →
    ((from : NodeId) → openings_to_come (topology_in_act sc n s) top from n + openings_by top n (topology_in_act sc n s).recs
    ≡ 0) → HoldsInTopologyAct sc n s → HoldsInTopologyAct sc n (with_note (record s { opened = Some top }) (note.Opened top))
opened_good sc n s top all one none good =
    let b : NodeState = with_note (record s { opened = Some top }) (note.Opened top) in
    let st : Step sc n s b = record {
      exact = exact_here sc n s b refl;
      more = note.Opened top ∷ [];
      noted_is = refl;
      lost_none = λ x. refl;
      seen_up = λ t up. up;
      map_up = λ t has. has;
    } in
    let later = step_later sc n s b st in
    let before = own_fits sc n s good in
    step_good sc n s b st good
    (node_later (topology_in_act sc n s) (topology_in_act sc n b) later n (topology_state s)
    (still_lives sc n s b st n before.not_lost) before.member before)
    (λ t m is none.
    let same = ap (λ rs. map_of_version (maps_installed sc.scenario rs) t) (recs_grow sc n s b st)
    ∙ map_same sc.scenario (topology_in_act sc n s).recs (noted_by (Some n) (note.Opened top ∷ [])) t refl in
    absurd (cc (is, same, none)))
    (all, tt)
    (λ from to v. opened_once from to v (same_node to n && same_top top v) refl)
    (λ to v. opened_known later to v (same_node to n && same_top top v) refl)
  where
    b2 : NodeState
    b2 = with_note (record s { opened = Some top }) (note.Opened top)

    st2 : Step sc n s b2
    st2 = record {
      exact = exact_here sc n s b2 refl;
      more = note.Opened top ∷ [];
      noted_is = refl;
      lost_none = λ x. refl;
      seen_up = λ t up. up;
      map_up = λ t has. has;
    }

    opened_sum : (to : NodeId) (v : TopVer) → openings_by v to (topology_in_act sc n b2).recs ≡ openings_by v to
        (topology_in_act sc n s).recs + openings_by v to (noted_by (Some n) (note.Opened top ∷ []))
    opened_sum to v = ap (λ rs. openings_by v to rs) (recs_grow sc n s b2 st2)
        ∙ opened_parts v to (topology_in_act sc n s).recs (noted_by (Some n) (note.Opened top ∷ []))

    opened_once : (from to : NodeId) (v : TopVer) (c : Bool) → (same_node to n && same_top top v) ≡ c →
        openings_to_come (topology_in_act sc n b2) v from to + openings_by v to (topology_in_act sc n b2).recs ≤ 1
    opened_once from to v true is =
        let both = first_rest (same_node to n) (same_top top v) is in
        let nothing : openings_to_come (topology_in_act sc n s) v from to + openings_by v to (topology_in_act sc n s).recs ≡ 0 =
        subst (λ (x : NodeId). openings_to_come (topology_in_act sc n s) v from x + openings_by v x
        (topology_in_act sc n s).recs ≡ 0) (sym (same_node_true to n both.0))
        (subst (λ (t : TopVer). openings_to_come (topology_in_act sc n s) t from n + openings_by t n
        (topology_in_act sc n s).recs ≡ 0) (same_top_true top v both.1) (none from)) in
        let sum = opened_sum to v in
        let one_more = opened_here v top to n in
        omega (arith, nothing, sum, one_more)
    opened_once from to v false is =
        let sum = opened_sum to v in
        let zero_more = opened_elsewhere v top to n is in
        let once = good.once from to v in
        omega (arith, once, sum, zero_more)

    opened_known : Later (topology_in_act sc n s) (topology_in_act sc n b2) → (to : NodeId) (v : TopVer) (c : Bool) →
        (same_node to n && same_top top v) ≡ c → (openings_by v to (topology_in_act sc n b2).recs ≡ 0)
        ⊎ HasSomeMap (topology_in_act sc n b2) v
    opened_known later to v true is =
        inr (one_later (topology_in_act sc n s) (topology_in_act sc n b2) later v
        (subst (λ (t : TopVer). HasSomeMap (topology_in_act sc n s) t)
        (same_top_true top v (first_rest (same_node to n) (same_top top v) is).1) one))
    opened_known later to v false is = by_case (good.known to v)
      where
        by_case : (openings_by v to (topology_in_act sc n s).recs ≡ 0) ⊎ HasSomeMap (topology_in_act sc n s) v →
            (openings_by v to (topology_in_act sc n b2).recs ≡ 0) ⊎ HasSomeMap (topology_in_act sc n b2) v
        by_case (inl nothing) = inl (let sum = opened_sum to v in let zero_more = opened_elsewhere v top to n is in
            omega (arith, nothing, sum, zero_more))
        by_case (inr has) = inr (one_later (topology_in_act sc n s) (topology_in_act sc n b2) later v has)

-- a map is known already, or it is the first one of the version that its oldest member has seen
pub record IsFirst (sc : TopologyScene) (n : NodeId) (s : NodeState) (m : PartMap) : Type 0 where
  pub none : map_of (topology_in_act sc n s) m.top ≡ None
  pub is_seen : s.seen ≡ m.top
  pub oldest : oldest_member s.members ≡ Some n

abbrev pub MayInstall : TopologyScene → NodeId → NodeState → PartMap → Type 0
MayInstall sc n s m = (map_of (topology_in_act sc n s) m.top ≡ Some m) ⊎ IsFirst sc n s m

install_fits : (sc : TopologyScene) (n : NodeId) (s : NodeState) (m : PartMap) → MayInstall sc n s m →
    RecordFits (topology_in_act sc n s) (topology_in_act sc n s).recs (note.Install m)
install_fits sc n s m (inl known) there is = some_is m there (sym known ∙ is)
install_fits sc n s m (inr first) there is = let none = first.none in absurd (cc (none, is))

-- what lets a node install a map: it comes in a Full, or the node computes it
abbrev pub IsExactAfter : TopologyScene → NodeId → NodeState → PartMap → Type 0
IsExactAfter sc n s m = (from to : NodeId) (top : TopVer) (o : Option PartMap) →
    SingleTells (topology_in_act sc n s) from to top o → IsExact (topology_in_act sc n (after_install s m)) from to top o

abbrev pub install_step : (sc : TopologyScene) (n : NodeId) (s : NodeState) (m : PartMap) →
    ((top : TopVer) → HasAtLeast top s.installed → IsUpTo top m.top) → IsExactAfter sc n s m → Step sc n s (after_install s m)
install_step sc n s m newer sound = record {
  more = note.Install m ∷ [];
  noted_is = refl;
  lost_none = λ x. refl;
  seen_up = λ t up. up;
  map_up = newer;
  exact = sound;
}

there_now : (sc : TopologyScene) (n : NodeId) (s : NodeState) (m : PartMap) (st : Step sc n s (after_install s m)) →
    st.more ≡ note.Install m ∷ [] → MayInstall sc n s m → map_of (topology_in_act sc n (after_install s m)) m.top ≡ Some m
there_now sc n s m st more (inl known) = (step_later sc n s (after_install s m) st).maps m.top m known
there_now sc n s m st more (inr first) =
    ap (λ rs. map_of_version (maps_installed sc.scenario rs) m.top) (recs_grow sc n s (after_install s m) st
    ∙ ap (λ rs. (topology_in_act sc n s).recs ++ noted_by (Some n) rs) more)
    ∙ map_first sc.scenario (topology_in_act sc n s).recs (Some n) m first.none

computed_now : (sc : TopologyScene) (n : NodeId) (s : NodeState) (m : PartMap) → HoldsInTopologyAct sc n s →
    MayInstall sc n s m → map_of (topology_in_act sc n s) m.top ≡ None →
    OldestHasMap (topology_in_act sc n (after_install s m)) m.top
computed_now sc n s m good (inl known) none = absurd (cc (known, none))
computed_now sc n s m good (inr first) none =
    let k = own_fits sc n s good in
    record {
      place = s.read;
      within = k.within;
      is_top = sym (ap (λ (t : Topology). t.top) k.known_is) ∙ first.is_seen;
      by_oldest = λ c is.
          let me : n ≡ c = some_is n c (sym first.oldest ∙ ap (λ (t : Topology). oldest_member t.members) k.known_is ∙ is) in
          subst (λ (x : NodeId). HasMap (topology_in_act sc n (after_install s m)) m.top x) me
          (inr (record {
            state = topology_state (after_install s m);
            there =
                put_same n (record { life = life.Alive; state = topology_state (after_install s m) }) sc.seat;
            holds =
                up_itself m.top;
          }));
    }

pub installs_good : (sc : TopologyScene) (n : NodeId) (s : NodeState) (m : PartMap) → MayInstall sc n s m →
    IsUpTo m.top s.seen → ((top : TopVer) → HasAtLeast top s.installed → IsUpTo top m.top) → IsExactAfter sc n s m →
    IsMemberOf (topology_in_act sc n s) m.top n → HoldsInTopologyAct sc n s → HoldsInTopologyAct sc n (after_install s m)
installs_good sc n s m may at_most newer sound member good =
    let b : NodeState = after_install s m in
    let st = install_step sc n s m newer sound in
    let later = step_later sc n s b st in
    let before = own_fits sc n s good in
    let k = node_later (topology_in_act sc n s) (topology_in_act sc n b) later n (topology_state s)
    (still_lives sc n s b st n before.not_lost) before.member before in
    step_good sc n s b st good
    (record {
      me_is = k.me_is;
      not_lost = k.not_lost;
      member = k.member;
      within = k.within;
      known_is = k.known_is;
      map_fits = (there_now sc n s m st refl may, at_most);
      map_member = in_later (topology_in_act sc n s) (topology_in_act sc n b) later m.top n member;
      exchange_fits = k.exchange_fits;
      exchange_oldest = k.exchange_oldest;
      singles_tell = k.singles_tell;
      outbox_tells = k.outbox_tells;
    })
    (λ top x is none.
    let is_now : map_of_version
    (maps_installed sc.scenario ((topology_in_act sc n s).recs ++ noted_by (Some n) (note.Install m ∷ []))) top ≡ Some x =
    sym (ap (λ rs. map_of_version (maps_installed sc.scenario rs) top) (recs_grow sc n s b st)) ∙ is in
    let same : m.top ≡ top =
    same_top_true m.top top (map_either sc.scenario (topology_in_act sc n s).recs (Some n) m top x is_now none) in
    subst (λ (t : TopVer). OldestHasMap (topology_in_act sc n b) t) same
    (computed_now sc n s m good may (subst (λ (t : TopVer). map_of (topology_in_act sc n s) t ≡ None) (sym same) none)))
    (install_fits sc n s m may, tt)
    (all_once sc n s b good (no_more sc n s b good (kept_held s))
    (no_openings sc n s b st (λ to v. install_opened v to (Some n) m)))
    (known_after sc n s b later good (no_openings sc n s b st (λ to v. install_opened v to (Some n) m)))

-- a topology event is read
pub learns_good : (sc : TopologyScene) (n : NodeId) (s : NodeState) (e : TopoEvent) → slice_get sc.events s.read ≡ Some e →
    HoldsInTopologyAct sc n s → HoldsInTopologyAct sc n (after_learn s e)
learns_good sc n s e is good =
    let b : NodeState = after_learn s e in
    let fits = own_fits sc n s good in
    let within : s.read < length sc.events = slice_get_within sc.events s.read e is in
    let next : next_count s.read ≡ suc s.read = raised_is s.read (let few = good.few in omega (arith, within, few)) in
    let seen_is : s.seen ≡ top_at sc.scenario sc.events s.read = ap (λ (t : Topology). t.top) fits.known_is in
    let below : IsBelow s.seen (version_after s.seen e) = subst (λ (t : TopVer). IsBelow t (version_after t e)) (sym seen_is)
    (next_below sc.scenario sc.events s.read e good.few is within) in
    calm_good sc n s b [] (sym (append_none s.noted)) refl (λ top up. up_twice top s.seen (version_after s.seen e) up
    (below_up s.seen (version_after s.seen e) below)) refl good
    (no_more sc n s b good (λ to v. fewer_held (opens_in_outbox v to s.outbox) (opens_in_exchange v s.exchange)))
    (λ later k. record {
      me_is = k.me_is;
      not_lost = k.not_lost;
      member = k.member;
      within = rw next within;
      known_is =
          ap (λ (t : Topology). topology_after t e) k.known_is
          ∙ sym (one_more (first_topology sc.scenario) sc.events s.read e is)
          ∙ ap (λ (i : ℕ). topology_at sc i) (sym next);
      map_fits = map_up_to sc n s b e below s.installed k.map_fits;
      map_member = k.map_member;
      exchange_fits = tt;
      exchange_oldest = tt;
      singles_tell = k.singles_tell;
      outbox_tells = k.outbox_tells;
    })
  where
    fewer_held : (x y : ℕ) → x + 0 ≤ x + y
    fewer_held x y = omega arith

    map_up_to : (sc2 : TopologyScene) (n2 : NodeId) (s2 b2 : NodeState) (e2 : TopoEvent) →
        IsBelow s2.seen (version_after s2.seen e2) → (m : Option PartMap) →
        MapFits (topology_in_act sc2 n2 b2) (topology_state s2).known m →
        MapFits (topology_in_act sc2 n2 b2) (topology_after (topology_state s2).known e2) m
    map_up_to sc2 n2 s2 b2 e2 below None fits = tt
    map_up_to sc2 n2 s2 b2 e2 below (Some m) fits =
        (fits.0, up_twice m.top s2.seen (version_after s2.seen e2) fits.1 (below_up s2.seen (version_after s2.seen e2) below))
