-- The loss of a node keeps the invariant.
use Rattle.std.proofs.Common.{◌≡◌, ◌≤◌, ◌<◌, ◌^◌, inl, inr, arith, ◌++◌, ◌||◌, List, [], ◌∷◌, Some, None, Bool, true, false, if◌then◌else◌, not, length, ℕ, refl, ap, sym, subst, ◌∙◌}
use Rattle.act_rows.specs.Exchange.{without_single}
use Rattle.part_model.specs.Directory.{first_top}
use Rattle.part_model.specs.NextMap.{is_member}
use Rattle.ignite_types.specs.Names.{same_node}
use Rattle.ignite_types.specs.declared.message.Message.{Message}
use Rattle.ignite_types.specs.declared.message.Single.{Single}
use Rattle.ignite_types.specs.declared.names.NodeId.{NodeId}
use Rattle.ignite_types.specs.declared.names.TopVer.{TopVer}
use Rattle.journal_statements.specs.Noted.{Noted, is_lost}
use Rattle.journal_statements.specs.Topologies.{Topology}
use Rattle.link_laws.proofs.Journals.{lost_parts, or_none}
use Rattle.link_laws.proofs.LinkTables.{or_true}
use Rattle.link_laws.proofs.Places.{same_node_turned, some_is}
use Rattle.node_state.specs.declared.life.Life.{Life}
use Rattle.node_state.specs.Node.{NodeState}
use Rattle.tx_model.specs.World.{is_alive}
use Rattle.scenes.specs.Scenes.{state_at_rest, scene_after_join, scene_after_loss, either_state, scene_after_send, one_record, state_after_loss, plan_records, links_after_take, links_after_send, lives_with, states_with, is_survivor, scene_after_step, scene_after_take, links_without}
use Rattle.scenes.specs.Scenes as scenes
use Rattle.topology_laws.specs.TopologyFacts.{HoldsOfEach, IsLostOr, NodeFits, PartFits, SingleTells, MessageTells, opens_at_part, is_opens_of, last_members, opens_on_link}
use Rattle.topology_laws.specs.TopologyInvariant.{TopologyInvariant}
use Rattle.topology_laws.specs.TopologyScenes.{TopologyPart, TopologyScene, TopologyState, topology_scene, topology_state}
use Rattle.topology_laws.proofs.Counts.{no_more_in}
use Rattle.topology_laws.proofs.Frames.{StillHolds, changed_inv, changed_later, left_push, longer, not_lost_before, now_after, same_number, sat_push}
use Rattle.topology_laws.proofs.Later.{Later, link_later, node_later, seat_later}
use Rattle.topology_laws.proofs.Lists.{each_filter}
use Rattle.topology_laws.proofs.Learning.{not_off, still_member, was_member}
use Rattle.topology_laws.proofs.Steps.{exact_after}
use Rattle.topology_laws.proofs.Tops.{more_events}
use Rattle.ignite_types.specs.declared.journal.Rec.TheVariants as note
use Rattle.ignite_types.specs.declared.journal.TopoEvent.TheVariants as topo
use Rattle.node_state.specs.declared.life.Life.TheVariants as life

nothing_less : (a : ℕ) → 0 ≤ a
nothing_less a = omega arith

module _ (sc : scenes.Scene) (id : NodeId) (i : TopologyInvariant (topology_scene sc))
    (few : length (sc.directory.events ++ topo.Left id ∷ []) < 2 ^ 63) where
  abbrev N : TopologyScene
  N = topology_scene sc

  abbrev B : TopologyScene
  B = topology_scene (scene_after_loss sc id)

  abbrev more : List Noted
  more = plan_records sc None ++ one_record None (note.Lost id)

  abbrev state_then : NodeId → Bool → NodeState
  state_then m d = state_after_loss id d (sc.state m)

  abbrev then_at : NodeId → Bool → TopologyPart
  then_at m c = record {
    life = if c then life.Gone else sc.life m;
    state =
        topology_state (state_then m (if c then false else is_alive (sc.life m)));
  }

  lost_then : (m : NodeId) → is_lost (sc.recs ++ more) m ≡ (is_lost sc.recs m || same_node id m)
  lost_then m = lost_parts sc.recs more m ∙ ap (λ (b : Bool). is_lost sc.recs m || b) (or_none (same_node id m))

  lost_itself : (m : NodeId) → same_node id m ≡ true → is_lost (sc.recs ++ more) m ≡ true
  lost_itself m same = lost_then m ∙ ap (λ (b : Bool). is_lost sc.recs m || b) same ∙ or_true (is_lost sc.recs m)

  lost_other : (m : NodeId) → same_node id m ≡ false → is_lost sc.recs m ≡ false → is_lost (sc.recs ++ more) m ≡ false
  lost_other m other lives = lost_then m ∙ (rw (lives, other) refl)

  abbrev before_at : NodeId → TopologyPart
  before_at m = record { life = sc.life m; state = topology_state (sc.state m) }

  abbrev living : TopologyState → TopologyPart
  living f = record { life = life.Alive; state = f }

  seat_is : (x y : TopologyPart) → Some x ≡ Some y → x ≡ y
  seat_is x y is = some_is x y is

  holds_still : StillHolds N B
  holds_still m f at = by (same_node id m) refl (seat_is (record { life = sc.life m; state = topology_state (sc.state m) })
      (record { life = life.Alive; state = f }) at)
    where
      by : (c : Bool) → same_node id m ≡ c → before_at m ≡ living f → IsLostOr B m (λ (g : TopologyState). (g.known ≡ f.known)
          × (g.installed ≡ f.installed))
      by true same is = inl (lost_itself m same)
      by false other is = inr (record {
        state = topology_state (state_then m (is_alive (sc.life m)));
        there = ap (λ (c : Bool). Some (then_at m c)) other
            ∙ ap (λ (l : Life). Some (record { life = l; state = topology_state (state_then m (is_alive (sc.life m))) }))
            (ap (λ (x : TopologyPart). x.life) is);
        holds = (ap (λ (x : TopologyPart). x.state.known) is, ap (λ (x : TopologyPart). x.state.installed) is);
      })

  -- one that is alive after the loss was so before, with the same map
  before_then : (m : NodeId) (f : TopologyState) → B.seat m ≡ Some (record { life = life.Alive; state = f }) →
      (g : TopologyState) × (N.seat m ≡ Some (record { life = life.Alive; state = g })) × (g.installed ≡ f.installed)
  before_then m f at = by (same_node id m) (seat_is (then_at m (same_node id m)) (record { life = life.Alive; state = f }) at)
    where
      by : (c : Bool) → then_at m c ≡ living f → (g : TopologyState)
          × (N.seat m ≡ Some (record { life = life.Alive; state = g })) × (g.installed ≡ f.installed)
      by true is = let gone : life.Gone ≡ life.Alive = ap (λ (x : TopologyPart). x.life) is in absurd (cc (gone))
      by false is = (
        topology_state (sc.state m),
        ap (λ (l : Life). Some (record { life = l; state = topology_state (sc.state m) }))
            (ap (λ (x : TopologyPart). x.life) is),
        ap (λ (x : TopologyPart). x.state.installed) is,
      )

  later : Later N B
  later = changed_later N B.events B.seat B.link more holds_still
      (λ from to top m t. exact_after N B before_then from to top m t.3)
      (λ k within. (
        longer sc.directory.events (topo.Left id ∷ []) k within,
        more_events sc.scenario sc.directory.events (topo.Left id ∷ []) k within,
      ))

  -- one that is alive and not the lost one
  kept_fits : (m : NodeId) (d : Bool) → same_node id m ≡ false → NodeFits N m (topology_state (sc.state m)) →
      NodeFits B m (topology_state (state_then m d))
  kept_fits m d other fits =
      let k = node_later N B later m (topology_state (sc.state m)) (lost_other m other fits.not_lost)
      (subst (λ (t : Topology). is_member t.members m ≡ true) (sym (now_after N (topo.Left id)))
      (still_member id m (last_members N) other fits.member)) fits in
      record {
        me_is = k.me_is;
        not_lost = k.not_lost;
        member = k.member;
        within = k.within;
        known_is = k.known_is;
        map_fits = k.map_fits;
        map_member = k.map_member;
        exchange_fits = k.exchange_fits;
        exchange_oldest = k.exchange_oldest;
        singles_tell = fewer d k.singles_tell;
        outbox_tells = k.outbox_tells;
      }
    where
      fewer : (d : Bool) → HoldsOfEach (λ (x : Single). SingleTells B x.from m x.top x.map) (sc.state m).singles →
          HoldsOfEach (λ (x : Single). SingleTells B x.from m x.top x.map)
          (if d then (without_single (sc.state m) id).singles else (sc.state m).singles)
      fewer true all = each_filter (λ (x : Single). SingleTells B x.from m x.top x.map)
          (λ (x : Single). not (same_node x.from id)) (sc.state m).singles all
      fewer false all = all

  part_fits : (m : NodeId) (c : Bool) (at : Life) → same_node id m ≡ c → sc.life m ≡ at →
      PartFits N m at (topology_state (sc.state m)) →
      PartFits B m (if c then life.Gone else at) (topology_state (state_then m (if c then false else is_alive at)))
  part_fits m true at same is fits = tt
  part_fits m false life.Alive other is fits = kept_fits m true other fits
  part_fits m false life.Absent other is fits = seat_later N B later m life.Absent (topology_state (sc.state m))
      (λ e. absurd (cc (e))) fits
  part_fits m false life.Gone other is fits = tt

  held_less : (v : TopVer) (to m : NodeId) (c : Bool) (at : Life) → opens_at_part v to (if c then life.Gone else at)
      (topology_state (state_then m (if c then false else is_alive at))) ≤ opens_at_part v to at (topology_state (sc.state m))
  held_less v to m true at = nothing_less (opens_at_part v to at (topology_state (sc.state m)))
  held_less v to m false life.Alive = same_number (opens_at_part v to life.Alive (topology_state (sc.state m)))
  held_less v to m false life.Absent = nothing_less 0
  held_less v to m false life.Gone = nothing_less 0

  link_less : (v : TopVer) (ms : List Message) (c : Bool) → opens_on_link v (if c then [] else ms) ≤ opens_on_link v ms
  link_less v ms true = nothing_less (opens_on_link v ms)
  link_less v ms false = no_more_in (is_opens_of v) ms

  link_each : (x y : NodeId) (c : Bool) → HoldsOfEach (MessageTells B x y) (sc.link x y) →
      HoldsOfEach (MessageTells B x y) (if c then [] else sc.link x y)
  link_each x y true all = tt
  link_each x y false all = all

  pub loses_kept : TopologyInvariant B
  loses_kept = changed_inv N B.events B.seat B.link more later few
      (λ n lives. left_push n sc.directory.events (topo.Left id) (i.lefts n (not_lost_before sc.recs more n lives))
      (not_off (same_node n id) (λ e. let lost = lost_itself n (same_node_turned n id e) in absurd (cc (lost, lives)))))
      (sat_push N (topo.Left id) B.seat B.link more later i
      (λ n is. later.seen first_top n (i.sat (length sc.directory.events) (same_number (length sc.directory.events)) n
      (was_member id n (last_members N) is))))
      (λ x y v. let less = link_less v (sc.link x y) (same_node id x || same_node id y) in let held =
      held_less v y x (same_node id x) (sc.life x) in let once = i.once x y v in omega (arith, less, held, once))
      (λ t v. refl)
      refl (tt, (tt, tt))
      (λ m x is. subst (λ (y : TopologyPart). PartFits B m y.life y.state) (seat_is (then_at m (same_node id m)) x is)
      (part_fits m (same_node id m) (sc.life m) refl refl
      (i.seats m (record { life = sc.life m; state = topology_state (sc.state m) }) refl)))
      (λ x y. link_each x y (same_node id x || same_node id y) (link_later N B later x y (sc.link x y) (i.links x y))) i
