-- Changes of a scene that keep the invariant, beside those of a node that acts.
use Rattle.std.proofs.Common.{◌≡◌, ◌≤◌, ◌<◌, ◌+◌, ◌^◌, ◌⊎◌, inl, inr, ◌++◌, ◌&&◌, List, [], ◌∷◌, Option, Some, true, false, if◌then◌else◌, not, length, ℕ, refl, ap, sym, subst, ◌∙◌, arith}
use Rattle.std.specs.Prelude.{drop, nat_le}
use Rattle.std.proofs.lemmas.Bool.Decides.{nat_tests}
use Rattle.ignite_types.proofs.NameLaws.{same_node_true}
use Rattle.ignite_types.specs.declared.scenario.Member.{Member}
use Rattle.frame_laws.proofs.Extending.{append_none}
use Rattle.act_rows.specs.Acts.{with_act_begun}
use Rattle.part_model.specs.Directory.{first_top, members_after}
use Rattle.part_model.specs.NextMap.{is_member}
use Rattle.ignite_types.specs.Names.{same_node}
use Rattle.std.proofs.Math.Seq.{take-length}
use Rattle.std.proofs.lemmas.List.{length-append}
use Rattle.ignite_types.specs.declared.journal.TopoEvent.{TopoEvent}
use Rattle.ignite_types.specs.declared.message.Message.{Message}
use Rattle.ignite_types.specs.declared.message.Out.{Out}
use Rattle.ignite_types.specs.declared.names.NodeId.{NodeId}
use Rattle.ignite_types.specs.declared.names.TopVer.{TopVer}
use Rattle.ignite_types.specs.declared.placement.PartMap.{PartMap}
use Rattle.journal_statements.specs.Noted.{Noted, is_lost}
use Rattle.journal_statements.specs.Topologies.{Topology, first_topology, last_topology, topology_after}
use Rattle.link_laws.proofs.Journals.{first_rest, lost_parts}
use Rattle.node_state.specs.Node.{NodeState}
use Rattle.topology_laws.specs.TopologyFacts.{HoldsOfEach, RecordsFitFrom, HasAtLeast, HasSomeMap, HasSeen, IsExact, IsUpTo, IsLostOr, PartFits, SingleTells, MessageTells, is_leave_of, is_opens_of, openings_to_come, last_members, never_leaves, openings_by, opens_on_link}
use Rattle.topology_laws.specs.TopologyInvariant.{HoldsInTopologyAct, TopologyInvariant}
use Rattle.topology_laws.specs.TopologyScenes.{TopologyPart, TopologyScene, TopologyState, parts_with, topology_at, topology_in_act, topology_state}
use Rattle.topology_laws.proofs.Later.{Later, computed_later, one_later, fit_later, link_later, seat_later}
use Rattle.topology_laws.proofs.Lists.{each_rest}
use Rattle.topology_laws.proofs.Records.{installed_more, lost_more, map_more, map_same, maps_in}
use Rattle.topology_laws.proofs.Steps.{alive_fits, fit_parts, no_more, still_good}
use Rattle.topology_laws.proofs.Counts.{count_rest, opened_parts}
use Rattle.topology_laws.proofs.Tops.{last_push, more_events}
use Rattle.node_state.specs.declared.life.Life.TheVariants as life

-- the scene with other seats, links and events, and with more records
abbrev pub changed : TopologyScene → List TopoEvent → (NodeId → Option TopologyPart) → (NodeId → NodeId → List Message) →
    List Noted → TopologyScene
changed sc events seat link more = record sc { events = events; seat = seat; link = link; recs = sc.recs ++ more }

-- what holds of a node that was alive holds of it still, where it is not lost now
abbrev pub StillHolds : TopologyScene → TopologyScene → Type 0
StillHolds a b = (m : NodeId) (f : TopologyState) → a.seat m ≡ Some (record { life = life.Alive; state = f })
    → IsLostOr b m (λ (g : TopologyState). (g.known ≡ f.known) × (g.installed ≡ f.installed))

module _ (sc : TopologyScene) (events : List TopoEvent) (seat : NodeId → Option TopologyPart) (link : NodeId → NodeId →
    List Message) (more : List Noted) where
  abbrev next : TopologyScene
  next = changed sc events seat link more

  holds_later : StillHolds sc next → (m : NodeId) (P : TopologyState → Type 0) →
      ((f g : TopologyState) → g.known ≡ f.known → g.installed ≡ f.installed → P f → P g) → IsLostOr sc m P → IsLostOr next m P
  holds_later still m P goes (inl lost) = inl (lost_more sc.recs more m lost)
  holds_later still m P goes (inr l) = by_case (still m l.state l.there)
    where
      by_case : IsLostOr next m (λ (g : TopologyState). (g.known ≡ l.state.known) × (g.installed ≡ l.state.installed)) →
          IsLostOr next m P
      by_case (inl lost) = inl lost
      by_case (inr k) = inr (record {
        state = k.state;
        there = k.there;
        holds =
            goes l.state k.state k.holds.0 k.holds.1 l.holds;
      })

  pub changed_later : StillHolds sc next → ((from to : NodeId) (top : TopVer) (m : Option PartMap) →
      SingleTells sc from to top m → IsExact next from to top m) →
      ((k : ℕ) → k ≤ length sc.events → (k ≤ length events) × (topology_at next k ≡ topology_at sc k)) → Later sc next
  changed_later still exact es = record {
    same_scenario = refl;
    events = es;
    lost = λ n e. lost_more sc.recs more n e;
    installed = λ top n e. installed_more sc.recs more top n e;
    maps = λ top m e. map_more sc.scenario sc.recs more top m e;
    seen = λ top n h. holds_later still n (λ (f : TopologyState). IsUpTo top f.known.top) (λ f g known map_is up.
        subst (λ (t : Topology). IsUpTo top t.top) (sym known) up) h;
    has_map = λ top n h. holds_later still n (λ (f : TopologyState). HasAtLeast top f.installed) (λ f g known map_is up.
        subst (λ (o : Option PartMap). HasAtLeast top o) (sym map_is) up) h;
    exact = exact;
  }

  -- the assembly
  pub changed_inv : Later sc next → length events < 2 ^ 63 →
      ((n : NodeId) → is_lost next.recs n ≡ false → never_leaves n events ≡ true) →
      ((k : ℕ) → k ≤ length events → (n : NodeId) → is_member (topology_at next k).members n ≡ true →
      HasSeen next first_top n) →
      ((from to : NodeId) (v : TopVer) → openings_to_come next v from to + openings_by v to sc.recs ≤ 1) →
      ((to : NodeId) (v : TopVer) → openings_by v to more ≡ 0) → maps_in more ≡ [] → RecordsFitFrom sc sc.recs more →
      ((n : NodeId) (x : TopologyPart) → seat n ≡ Some x → PartFits next n x.life x.state)
      → ((a b : NodeId) → HoldsOfEach (MessageTells next a b) (link a b)) → TopologyInvariant sc → TopologyInvariant next
  changed_inv later few lefts sat once quiet none fit seats links i = record {
    once = λ from to v. let sum = opened_parts v to sc.recs more in let nothing = quiet to v in let before = once from to v in
        omega (arith, sum, nothing, before);
    known = λ to v. known_by to v (i.known to v) (let sum = opened_parts v to sc.recs more in let nothing = quiet to v in
        omega (arith, sum, nothing));
    lefts = lefts;
    sat = sat;
    few = few;
    seats = seats;
    links = links;
    computed = λ top m is. computed_later sc next later top
        (i.computed top m (sym (map_same sc.scenario sc.recs more top none) ∙ is));
    fit = fit_parts next [] sc.recs more (fit_later sc next later [] sc.recs i.fit) (fit_later sc next later sc.recs more fit);
  }
    where
      known_by : (to : NodeId) (v : TopVer) → (openings_by v to sc.recs ≡ 0) ⊎ HasSomeMap sc v →
          openings_by v to next.recs ≡ openings_by v to sc.recs → (openings_by v to next.recs ≡ 0) ⊎ HasSomeMap next v
      known_by to v (inl nothing) same = inl (same ∙ nothing)
      known_by to v (inr one) same = inr (one_later sc next later v one)

pub calm_later : (sc : TopologyScene) (link : NodeId → NodeId → List Message) (more : List Noted) →
    Later sc (record sc { link = link; recs = sc.recs ++ more })
calm_later sc link more =
    changed_later sc sc.events sc.seat link more
    (λ m f there. inr (record { state = f; there = there; holds = (refl, refl) })) (λ from to top m t. t.3)
    (λ k within. (within, refl))

pub not_lost_before : (recs more : List Noted) (n : NodeId) → is_lost (recs ++ more) n ≡ false → is_lost recs n ≡ false
not_lost_before recs more n lives =
    elim (is_lost recs n) as (λ b. is_lost recs n ≡ b → b ≡ false) [
      | true ↦ λ t. let still = lost_more recs more n t in absurd (cc (still, lives))
      | false ↦ λ f. refl
    ] refl

-- Records that say nothing, and fewer messages.
pub calm_inv : (sc : TopologyScene) (link : NodeId → NodeId → List Message) (more : List Noted) → maps_in more ≡ [] →
    ((x : NodeId) → is_lost more x ≡ false) → RecordsFitFrom sc sc.recs more →
    ((to : NodeId) (v : TopVer) → openings_by v to more ≡ 0) →
    ((v : TopVer) (a b : NodeId) → opens_on_link v (link a b) ≤ opens_on_link v (sc.link a b))
    → ((a b : NodeId) → HoldsOfEach (MessageTells sc a b) (link a b)) → TopologyInvariant sc →
    TopologyInvariant (record sc { link = link; recs = sc.recs ++ more })
calm_inv sc link more none lost_none fit quiet fewer links i =
    let b : TopologyScene = changed sc sc.events sc.seat link more in
    let later = calm_later sc link more in
    changed_inv sc sc.events sc.seat link more later i.few (λ n lives. i.lefts n (not_lost_before sc.recs more n lives))
    (λ k within n is. later.seen first_top n (i.sat k within n is)) (λ from to v. let less = fewer v from to in let once =
    i.once from to v in omega (arith, less, once)) quiet none fit
    (λ n x is.
    let before = i.seats n x is in
    seat_later sc b later n x.life x.state
    (λ alive.
    let k = alive_fits sc n x alive before in
    (lost_parts sc.recs more n ∙ (rw (k.not_lost, lost_none n) refl), k.member)) before)
    (λ x y. link_later sc b later x y (link x y) (links x y))
    i

-- A node begins to act.

put_itself : (n : NodeId) (x : TopologyPart) (f : NodeId → Option TopologyPart) → f n ≡ Some x → (m : NodeId) →
    parts_with n x f m ≡ f m
put_itself n x f is m =
    elim (same_node n m) as (λ b. same_node n m ≡ b → (if b then Some x else f m) ≡ f m) [
      | true ↦ λ t. sym is ∙ ap f (same_node_true n m t)
      | false ↦ λ g. refl
    ] refl

pub begins_as : (sc : TopologyScene) (n : NodeId) (s : NodeState) →
    sc.seat n ≡ Some (record { life = life.Alive; state = topology_state s }) → topology_in_act sc n (with_act_begun s) ≡ sc
begins_as sc n s is = λ i. record sc {
  seat = λ m. put_itself n (record { life = life.Alive; state = topology_state s }) sc.seat is m i;
  recs = append_none sc.recs i;
}

pub begin_good : (sc : TopologyScene) (n : NodeId) (s : NodeState) →
    sc.seat n ≡ Some (record { life = life.Alive; state = topology_state s }) → TopologyInvariant sc →
    HoldsInTopologyAct sc n (with_act_begun s)
begin_good sc n s is i = subst TopologyInvariant (sym (begins_as sc n s is)) i

-- The oldest message leaves the outbox.
pub fewer_good : (sc : TopologyScene) (n : NodeId) (s : NodeState) → HoldsInTopologyAct sc n s →
    HoldsInTopologyAct sc n (record s { outbox = drop 1 s.outbox })
fewer_good sc n s good =
    let b : NodeState = record s { outbox = drop 1 s.outbox } in
    still_good sc n s b refl refl refl good
    (no_more sc n s b good (λ to v. let fewer = count_rest (λ (o : Out). same_node o.to to && is_opens_of v o.msg) s.outbox in
    omega (arith, fewer)))
    (λ later k. record {
      me_is = k.me_is;
      not_lost = k.not_lost;
      member = k.member;
      within = k.within;
      known_is = k.known_is;
      map_fits = k.map_fits;
      map_member = k.map_member;
      exchange_fits = k.exchange_fits;
      exchange_oldest = k.exchange_oldest;
      singles_tell = k.singles_tell;
      outbox_tells = each_rest (λ (o : Out). MessageTells (topology_in_act sc n b) n o.to o.msg) s.outbox k.outbox_tells;
    })

pub longer : {A : Type 0} (xs ys : List A) (k : ℕ) → k ≤ length xs → k ≤ length (xs ++ ys)
longer xs ys k within = let sum = length-append xs ys in omega (arith, sum, within)

-- the topology after the last event
pub now_after : (sc : TopologyScene) (e : TopoEvent) → topology_at (record sc { events = sc.events ++ e ∷ [] })
    (length (sc.events ++ e ∷ [])) ≡ topology_after (topology_at sc (length sc.events)) e
now_after sc e =
    ap (last_topology (first_topology sc.scenario)) (take-length (sc.events ++ e ∷ []))
    ∙ last_push (first_topology sc.scenario) sc.events e
    ∙ ap (λ es. topology_after (last_topology (first_topology sc.scenario) es) e) (sym (take-length sc.events))

pub same_number : (k : ℕ) → k ≤ k
same_number k = omega arith

pub left_push : (n : NodeId) (es : List TopoEvent) (e : TopoEvent) → never_leaves n es ≡ true → not (is_leave_of n e) ≡ true →
    never_leaves n (es ++ e ∷ []) ≡ true
left_push n [] e none stays = rw stays refl
left_push n (x ∷ es) e none stays =
    let both = first_rest (not (is_leave_of n x)) (never_leaves n es) none in
    rw both.0 (left_push n es e both.1 stays)

-- who was a member of any version, where that holds of the last one
pub sat_push : (sc : TopologyScene) (e : TopoEvent) (seat : NodeId → Option TopologyPart) (link : NodeId → NodeId →
    List Message) (more : List Noted) → let b = changed sc (sc.events ++ e ∷ []) seat link more in Later sc b →
    TopologyInvariant sc
    → ((n : NodeId) → is_member (members_after (last_members sc) e) n ≡ true → HasSeen b first_top n)
    → (k : ℕ) → k ≤ length (sc.events ++ e ∷ []) → (n : NodeId) → is_member (topology_at b k).members n ≡ true →
    HasSeen b first_top n
sat_push sc e seat link more later i last k within n is =
    elim (nat_le k (length sc.events)) as (λ b. nat_le k (length sc.events) ≡ b →
    HasSeen (changed sc (sc.events ++ e ∷ []) seat link more) first_top n) [
      | true ↦ λ t.
          let low : k ≤ length sc.events = grind (arith, nat_tests, t) in
          later.seen first_top n (i.sat k low n (subst (λ (x : Topology). is_member x.members n ≡ true)
          (more_events sc.scenario sc.events (e ∷ []) k low) is))
      | false ↦ λ f.
          let sum = length-append sc.events (e ∷ []) in
          let same : k ≡ length (sc.events ++ e ∷ []) = grind (arith, nat_tests, f, sum, within) in
          last n (subst (λ (x : Topology). is_member x.members n ≡ true)
          (ap (λ (j : ℕ). topology_at (record sc { events = sc.events ++ e ∷ [] }) j) same ∙ now_after sc e) is)
    ] refl

-- One more topology event, by which no node leaves.
pub appended_inv : (sc : TopologyScene) (e : TopoEvent) (more : List Noted) → length (sc.events ++ e ∷ []) < 2 ^ 63 →
    ((ms : List Member) → members_after ms e ≡ ms) → ((n : NodeId) → not (is_leave_of n e) ≡ true)
    → maps_in more ≡ [] → ((x : NodeId) → is_lost more x ≡ false) → RecordsFitFrom sc sc.recs more →
    ((to : NodeId) (v : TopVer) → openings_by v to more ≡ 0) → TopologyInvariant sc →
    TopologyInvariant (changed sc (sc.events ++ e ∷ []) sc.seat sc.link more)
appended_inv sc e more few same stays none lost_none fit quiet i =
    let es : List TopoEvent = sc.events ++ e ∷ [] in
    let b : TopologyScene = changed sc es sc.seat sc.link more in
    let later : Later sc b =
    changed_later sc es sc.seat sc.link more
    (λ m f there. inr (record { state = f; there = there; holds = (refl, refl) })) (λ from to top m t. t.3)
    (λ k within. (longer sc.events (e ∷ []) k within, more_events sc.scenario sc.events (e ∷ []) k within)) in
    changed_inv sc es sc.seat sc.link more later few
    (λ n lives. left_push n sc.events e (i.lefts n (not_lost_before sc.recs more n lives)) (stays n))
    (sat_push sc e sc.seat sc.link more later i
    (λ n is. later.seen first_top n (i.sat (length sc.events) (same_number (length sc.events)) n
    (subst (λ (ms : List Member). is_member ms n ≡ true) (same (last_members sc)) is))))
    i.once quiet none fit
    (λ n x is.
    let before = i.seats n x is in
    seat_later sc b later n x.life x.state
    (λ alive.
    let k = alive_fits sc n x alive before in (
      lost_parts sc.recs more n ∙ (rw (k.not_lost, lost_none n) refl),
      subst (λ (t : Topology). is_member t.members n ≡ true)
          (sym (now_after sc e)) (subst (λ (ms : List Member). is_member ms n ≡ true) (sym (same (last_members sc))) k.member),
    ))
    before)
    (λ x y. link_later sc b later x y (sc.link x y) (i.links x y))
    i
