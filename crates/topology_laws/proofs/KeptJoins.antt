-- A node that joins keeps the invariant.
use Rattle.std.proofs.Common.{◌≡◌, ◌≤◌, ◌<◌, ◌+◌, ◌^◌, ◌⊎◌, inl, inr, arith, ◌++◌, ◌||◌, List, [], ◌∷◌, Option, Some, None, Bool, true, false, if◌then◌else◌, length, ℕ, refl, ap, sym, subst, ◌∙◌}
use Rattle.std.specs.Prelude.{slice_get}
use Rattle.std.proofs.Math.Seq.{take-length}
use Rattle.std.proofs.lemmas.List.{length-append}
use Rattle.std.proofs.lemmas.List.Folds.{list_any-append}
use Rattle.frame_laws.proofs.Extending.{append_none}
use Rattle.act_rows.specs.Acts.{after_see, with_act_begun}
use Rattle.act_rows.specs.Closing.{after_closing_rules}
use Rattle.act_rows.specs.Exchange.{after_learn_all}
use Rattle.part_model.specs.Directory.{first_top}
use Rattle.part_model.specs.NextMap.{is_member}
use Rattle.ignite_types.proofs.NameLaws.{same_node_itself, same_node_true}
use Rattle.ignite_types.specs.Names.{same_node}
use Rattle.ignite_types.specs.declared.journal.TopoEvent.{TopoEvent}
use Rattle.ignite_types.specs.declared.message.Out.{Out}
use Rattle.ignite_types.specs.declared.message.Single.{Single}
use Rattle.ignite_types.specs.declared.names.NodeId.{NodeId}
use Rattle.ignite_types.specs.declared.names.TopVer.{TopVer}
use Rattle.ignite_types.specs.declared.placement.PartMap.{PartMap}
use Rattle.ignite_types.specs.declared.scenario.Member.{Member}
use Rattle.journal_statements.specs.Noted.{Noted, is_lost}
use Rattle.journal_statements.specs.Topologies.{Topology, first_topology, last_topology}
use Rattle.link_laws.proofs.Journals.{lost_parts, or_none}
use Rattle.link_laws.proofs.LinkTables.{or_true}
use Rattle.link_laws.proofs.Places.{same_node_turned, some_is}
use Rattle.node_state.specs.Node.{NodeState}
use Rattle.node_state.specs.declared.topology.Exchange.{Exchange}
use Rattle.scenes.specs.Scenes.{state_at_rest, scene_after_join, scene_after_loss, either_state, scene_after_send, one_record, state_after_loss, plan_records, links_after_take, links_after_send, lives_with, states_with, is_survivor, scene_after_step, scene_after_take, links_without}
use Rattle.scenes.specs.Scenes as scenes
use Rattle.topology_laws.specs.TopologyFacts.{HoldsOfEach, ExchangeFits, HasSeen, IsBehind, IsExact, IsUnjoined, IsUpTo, IsLostOr, MapFits, MemberFits, NodeFits, OldestFits, PartFits, SingleTells, MessageTells, opens_at_part, opens_at, opens_in_exchange, openings_to_come, last_members, openings_by, opens_on_link, opens_in_outbox}
use Rattle.topology_laws.specs.TopologyInvariant.{HoldsInTopologyAct, TopologyInvariant}
use Rattle.topology_laws.specs.TopologyScenes.{TopologyPart, TopologyScene, TopologyState, parts_with, topology_at, topology_scene, topology_state}
use Rattle.topology_laws.proofs.Acts.{see_good}
use Rattle.topology_laws.proofs.Counts.{none_opened}
use Rattle.topology_laws.proofs.Frames.{StillHolds, changed, changed_inv, changed_later, left_push, longer, not_lost_before, now_after, same_number, sat_push}
use Rattle.topology_laws.proofs.Later.{Later, link_later, seat_later}
use Rattle.topology_laws.proofs.Kept.{acts}
use Rattle.topology_laws.proofs.Learning.{learned_exchange, learned_known, learned_map, learned_me, learned_outbox, learned_read, learned_singles, seam}
use Rattle.topology_laws.proofs.Sounds.{oldest_is_member}
use Rattle.topology_laws.proofs.Steps.{alive_fits, put_elim, put_other, put_same}
use Rattle.topology_laws.proofs.Tops.{first_up, more_events}
use Rattle.ignite_types.specs.declared.journal.Rec.TheVariants as note
use Rattle.ignite_types.specs.declared.journal.TopoEvent.TheVariants as topo
use Rattle.node_state.specs.declared.life.Life.TheVariants as life

-- A node joins.
module _ (sc : scenes.Scene) (m : Member) (s : NodeState) (absent : sc.life m.node ≡ life.Absent)
    (lives : is_lost sc.recs m.node ≡ false) (state_is : sc.state m.node ≡ state_at_rest s)
    (i : TopologyInvariant (topology_scene sc))
    (few : length (sc.directory.events ++ topo.Join m ∷ []) < 2 ^ 63) where
  abbrev n : NodeId
  n = m.node

  abbrev es : List TopoEvent
  es = sc.directory.events ++ topo.Join m ∷ []

  abbrev sc0 : TopologyScene
  sc0 = topology_scene sc

  there : sc0.seat n ≡ Some (record { life = life.Absent; state = topology_state s })
  there = λ j. Some (record { life = absent j; state = topology_state (state_is j) })

  fresh : IsUnjoined sc0 n (topology_state s)
  fresh = i.seats n (record { life = life.Absent; state = topology_state s }) there

  abbrev start : NodeState
  start = with_act_begun (after_learn_all s sc.directory.events sc.directory.clock)

  abbrev own : TopologyPart
  own = record { life = life.Alive; state = topology_state start }

  abbrev more : List Noted
  more = plan_records sc None

  abbrev next : TopologyScene
  next = changed sc0 es (parts_with n own sc0.seat) sc0.link more

  read_is : start.read ≡ length sc.directory.events
  read_is = learned_read sc.directory.events s
      (rw fresh.none_read (let sum = length-append sc.directory.events (topo.Join m ∷ []) in omega (arith, sum, few)))
      ∙ (rw fresh.none_read (no_less (length sc.directory.events)))
    where
      no_less : (a : ℕ) → 0 + a ≡ a
      no_less a = omega arith

  -- the joiner was neither lost nor alive
  nowhere : (x : NodeId) (P : TopologyState → Type 0) → same_node n x ≡ true → IsLostOr sc0 x P → ⊥
  nowhere x P same (inl lost) =
      let mine : is_lost sc.recs n ≡ true = ap (λ (y : NodeId). is_lost sc.recs y) (same_node_true n x same) ∙ lost in
      absurd (cc (mine, lives))
  nowhere x P same (inr l) =
      let here : sc0.seat n ≡ Some (record { life = life.Alive; state = l.state }) = ap sc0.seat (same_node_true n x same)
      ∙ l.there in
      let alive : life.Absent ≡ life.Alive =
      ap (λ (y : TopologyPart). y.life) (some_is (record { life = life.Absent; state = topology_state s })
      (record { life = life.Alive; state = l.state }) (sym there ∙ here)) in
      absurd (cc (alive))

  holds_still : StillHolds sc0 next
  holds_still x f at =
      elim (same_node n x) as (λ b. same_node n x ≡ b → IsLostOr next x (λ (g : TopologyState). (g.known ≡ f.known)
      × (g.installed ≡ f.installed))) [
        | true ↦ λ t. absurd (nowhere x (λ (g : TopologyState). Unit {0}) t
            (inr (record { state = f; there = at; holds = tt })))
        | false ↦ λ g. inr (record { state = f; there = put_other n own sc0.seat x g ∙ at; holds = (refl, refl) })
      ] refl

  exact_then : (x y : NodeId) (top : TopVer) (o : Option PartMap) → SingleTells sc0 x y top o → IsExact next x y top o
  exact_then x y top o t a c at_x at_y =
      elim (same_node n x) as (λ b. same_node n x ≡ b → (o ≡ a.installed) ⊎ IsBehind x y top a c) [
        | true ↦ λ e. absurd (nowhere x (λ (f : TopologyState). IsUpTo top f.known.top) e t.0)
        | false ↦ λ e.
            elim (same_node n y) as (λ b. same_node n y ≡ b → (o ≡ a.installed) ⊎ IsBehind x y top a c) [
              | true ↦ λ g. absurd (nowhere y (λ (f : TopologyState). IsUpTo first_top f.known.top) g
                  (i.sat t.1.place t.1.within y (oldest_is_member (topology_at sc0 t.1.place).members y t.1.oldest)))
              | false ↦ λ g. t.3 a c (sym (put_other n own sc0.seat x e) ∙ at_x) (sym (put_other n own sc0.seat y g) ∙ at_y)
            ] refl
      ] refl

  later : Later sc0 next
  later = changed_later sc0 es (parts_with n own sc0.seat) sc0.link more holds_still exact_then
      (λ j within. (
        longer sc.directory.events (topo.Join m ∷ []) j within,
        more_events sc.scenario sc.directory.events (topo.Join m ∷ []) j within,
      ))

  known_then : (topology_state start).known ≡ topology_at next (length sc.directory.events)
  known_then =
      learned_known sc.directory.events s
      ∙ ap (λ t. last_topology t sc.directory.events) fresh.known_is
      ∙ ap (λ xs. last_topology (first_topology sc.scenario) xs) (sym (take-length sc.directory.events))
      ∙ sym (more_events sc.scenario sc.directory.events (topo.Join m ∷ []) (length sc.directory.events)
      (same_number (length sc.directory.events)))

  start_fits : NodeFits next n (topology_state start)
  start_fits =
      let events = sc.directory.events in
      record {
        me_is = learned_me events s ∙ fresh.me_is;
        not_lost = lost_parts sc.recs more n ∙ (rw lives refl);
        member = subst (λ (t : Topology). is_member t.members n ≡ true) (sym (now_after sc0 (topo.Join m)))
            (list_any-append (λ (y : Member). same_node n y.node) (last_members sc0) (m ∷ [])
            ∙ (rw (same_node_itself n) (or_true (is_member (last_members sc0) n))));
        within = rw read_is (longer events (topo.Join m ∷ []) (length events) (same_number (length events)));
        known_is = known_then ∙ ap (λ (j : ℕ). topology_at next j) (sym read_is);
        map_member = subst (λ (o : Option PartMap). MemberFits next n o) (sym (learned_map events s ∙ fresh.no_map)) tt;
        map_fits = subst (λ (o : Option PartMap). MapFits next (topology_state start).known o)
            (sym (learned_map events s ∙ fresh.no_map)) tt;
        exchange_oldest = subst (λ (o : Option Exchange). OldestFits next n o)
            (sym (learned_exchange events s fresh.no_exchange)) tt;
        exchange_fits = subst (λ (o : Option Exchange). ExchangeFits next (topology_state start).known o)
            (sym (learned_exchange events s fresh.no_exchange)) tt;
        singles_tell = subst (λ (xs : List Single). HoldsOfEach (λ (x : Single). SingleTells next x.from n x.top x.map) xs)
            (sym (learned_singles events s ∙ fresh.no_singles)) tt;
        outbox_tells = subst (λ (xs : List Out). HoldsOfEach (λ (x : Out). MessageTells next n x.to x.msg) xs)
            (sym (learned_outbox events s ∙ fresh.no_outbox)) tt;
      }

  -- the joiner has seen the first version
  joiner_seen : (x : NodeId) → same_node n x ≡ true → HasSeen next first_top x
  joiner_seen x same = subst (λ (y : NodeId). HasSeen next first_top y) (same_node_true n x same)
      (inr (record {
        state = topology_state start;
        there = put_same n own sc0.seat;
        holds = subst (λ (t : Topology). IsUpTo first_top t.top) (sym known_then)
            (first_up sc.scenario es (length sc.directory.events) few
            (longer sc.directory.events (topo.Join m ∷ []) (length sc.directory.events)
            (same_number (length sc.directory.events))));
      }))

  member_seen : (x : NodeId) → is_member (last_members sc0 ++ m ∷ []) x ≡ true → HasSeen next first_top x
  member_seen x is =
      (elim (is_member (last_members sc0) x) as (λ b. is_member (last_members sc0) x ≡ b →
      (b || is_member (m ∷ []) x) ≡ true → HasSeen next first_top x) [
        | true ↦ λ t e. later.seen first_top x (i.sat (length sc.directory.events) (same_number (length sc.directory.events))
            x t)
        | false ↦ λ f e. joiner_seen x (same_node_turned x n (sym (or_none (same_node x n)) ∙ e))
      ]) refl (sym (list_any-append (λ (y : Member). same_node x y.node) (last_members sc0) (m ∷ [])) ∙ is)

  held_own : (v : TopVer) (to : NodeId) → opens_at_part v to life.Alive (topology_state start) ≡ 0
  held_own v to =
      subst (λ (xs : List Out). opens_in_outbox v to xs + opens_in_exchange v start.exchange ≡ 0)
      (sym (learned_outbox sc.directory.events s ∙ fresh.no_outbox))
      (subst (λ (o : Option Exchange). opens_in_outbox v to [] + opens_in_exchange v o ≡ 0)
      (sym (learned_exchange sc.directory.events s fresh.no_exchange)) refl)

  once_then : (x y : NodeId) (v : TopVer) → openings_to_come next v x y + openings_by v y sc.recs ≤ 1
  once_then x y v =
      let once = i.once x y v in
      elim (same_node n x) as (λ c. opens_on_link v (sc0.link x y) + opens_at v y (if c then Some own else sc0.seat x)
      + openings_by v y sc.recs ≤ 1) [
        | true ↦ let none = held_own v y in omega (arith, none, once)
        | false ↦ once
      ]

  next_inv : TopologyInvariant next
  next_inv =
      changed_inv sc0 es (parts_with n own sc0.seat) sc0.link more later few
      (λ x x_lives. left_push x sc.directory.events (topo.Join m) (i.lefts x (not_lost_before sc.recs more x x_lives)) refl)
      (sat_push sc0 (topo.Join m) (parts_with n own sc0.seat) sc0.link more later i member_seen)
      once_then
      (λ t v. none_opened v t None (note.Planned sc.directory.done None ∷ []) refl)
      refl (tt, tt)
      (put_elim n own sc0.seat (λ (x : NodeId) (y : TopologyPart). PartFits next x y.life y.state) start_fits
      (λ x y other at.
      let before = i.seats x y at in
      seat_later sc0 next later x y.life y.state
      (λ alive.
      let q = alive_fits sc0 x y alive before in (
        lost_parts sc.recs more x ∙ (rw (q.not_lost) refl),
        subst (λ (t : Topology). is_member t.members x ≡ true) (sym (now_after sc0 (topo.Join m)))
            (list_any-append (λ (z : Member). same_node x z.node) (last_members sc0) (m ∷ [])
            ∙ ap (λ (b : Bool). b || is_member (m ∷ []) x) q.member),
      )) before))
      (λ x y. link_later sc0 next later x y (sc0.link x y) (i.links x y))
      i

  joined_seat : (x : NodeId) (c : Bool) →
      (if c then Some own else Some (record { life = sc.life x; state = topology_state (sc.state x) }))
      ≡ (if c then Some own else Some (record {
        life = if c then life.Alive else sc.life x;
        state =
            topology_state (sc.state x);
      }))
  joined_seat x true = refl
  joined_seat x false = refl

  start_good : HoldsInTopologyAct (topology_scene (scene_after_join sc m)) n start
  start_good =
      let as_scene : next ≡ record (topology_scene (scene_after_join sc m)) {
        seat =
            parts_with n own (topology_scene (scene_after_join sc m)).seat;
      } =
      λ j. record next { seat = λ x. joined_seat x (same_node n x) j } in
      subst (λ (rs : List Noted). TopologyInvariant (record (topology_scene (scene_after_join sc m)) {
        seat =
            parts_with n own (topology_scene (scene_after_join sc m)).seat;
        recs = rs;
      }))
      (sym (append_none (scene_after_join sc m).recs)) (subst TopologyInvariant as_scene next_inv)

  pub joins_kept : TopologyInvariant
      (topology_scene (scenes.scene_in_act (scene_after_join sc m) n
      (after_closing_rules (after_see start start.read (topo.Join m)))))
  joins_kept =
      let alive : (scene_after_join sc m).life n ≡ life.Alive = ap (λ (c : Bool). if c then life.Alive else sc.life n)
      (same_node_itself n) in
      acts (scene_after_join sc m) n (after_closing_rules (after_see start start.read (topo.Join m))) alive
      (see_good (topology_scene (scene_after_join sc m)) n start (topo.Join m) (ap (slice_get es) read_is
      ∙ seam sc.directory.events (topo.Join m)) start_good)
