-- The invariant of the laws of topology holds at the opening and is kept by each event.
use Rattle.std.proofs.Common.{◌≡◌, ◌≤◌, ◌<◌, ◌^◌, inl, inr, arith, ◌++◌, List, [], ◌∷◌, Option, Some, None, Bool, true, false, if◌then◌else◌, length, ℕ, zero, suc, refl, ap, subst}
use Rattle.std.proofs.lemmas.List.{length-append}
use Rattle.act_rows.specs.NewNodes.{opening_map_of, opening_node}
use Rattle.frame_laws.proofs.Extending.{append_none}
use Rattle.act_rows.specs.Acts.{after_see}
use Rattle.act_rows.specs.Closing.{after_closing_rules}
use Rattle.part_model.specs.Directory.{first_top, with_event}
use Rattle.part_model.specs.NextMap.{is_member}
use Rattle.ignite_types.proofs.NameLaws.{same_top_true}
use Rattle.ignite_types.specs.declared.journal.Rec.{Rec}
use Rattle.ignite_types.specs.declared.journal.TopoEvent.{TopoEvent}
use Rattle.ignite_types.specs.declared.names.NodeId.{NodeId}
use Rattle.ignite_types.specs.declared.names.TopVer.{TopVer}
use Rattle.ignite_types.specs.declared.placement.PartMap.{PartMap}
use Rattle.journal_statements.specs.Noted.{Noted, is_lost}
use Rattle.link_laws.proofs.Places.{some_is}
use Rattle.scenes.specs.Events.{EachEventKeeps, IsSound, is_cache_switch}
use Rattle.scenes.specs.Scenes.{state_at_rest, scene_after_join, scene_after_loss, either_state, scene_after_send, one_record, state_after_loss, plan_records, links_after_take, links_after_send, lives_with, states_with, is_survivor, scene_after_step, scene_after_take, links_without}
use Rattle.scenes.specs.Scenes as scenes
use Rattle.std.specs.List.{list_all}
use Rattle.act_rows.specs.Commands.{after_answer, after_call}
use Rattle.act_rows.specs.Searches.{after_expire}
use Rattle.part_model.specs.Directory.{oldest_member, with_answer_given}
use Rattle.ignite_types.specs.Names.{same_top}
use Rattle.ignite_types.specs.declared.scenario.Scenario.{Scenario}
use Rattle.scenes.specs.Scenes.{opening_life, opening_scene}
use Rattle.topology_laws.specs.LeavesTopology.{says_no_topology}
use Rattle.topology_laws.specs.TopologyScenes.{map_of}
use Rattle.topology_laws.proofs.Records.{maps_in}
use Rattle.topology_laws.proofs.Tops.{up_itself}
use Rattle.topology_laws.specs.TopologyFacts.{OldestHasMap, RecordsFitFrom, HasMap, HasSeen, IsUnjoined, NodeFits, PartFits, opens_at_part, is_opens_of}
use Rattle.topology_laws.specs.TopologyInvariant.{TopologyInvariant}
use Rattle.topology_laws.specs.TopologyScenes.{TopologyPart, TopologyScene, topology_at, topology_scene, topology_state}
use Rattle.topology_laws.proofs.Acts.{answer_good, call_good, expire_good, see_good}
use Rattle.topology_laws.proofs.Counts.{no_more_in, none_opened}
use Rattle.topology_laws.proofs.Frames.{appended_inv, calm_inv}
use Rattle.topology_laws.proofs.Kept.{acts, drops_kept, moves_kept, started, takes_kept}
use Rattle.topology_laws.proofs.KeptJoins.{joins_kept}
use Rattle.topology_laws.proofs.KeptLosses.{loses_kept}
use Rattle.topology_laws.proofs.Sounds.{oldest_is_member}
use Rattle.ignite_types.specs.declared.journal.Rec.TheVariants as note
use Rattle.ignite_types.specs.declared.journal.TopoEvent.TheVariants as topo
use Rattle.node_state.specs.declared.life.Life.TheVariants as life

abbrev pub Topologies : scenes.Scene → Type 0
Topologies sc = TopologyInvariant (topology_scene sc)

few_after : (es : List TopoEvent) (e : TopoEvent) → suc (length es) < 2 ^ 63 → length (es ++ e ∷ []) < 2 ^ 63
few_after es e room = let sum = length-append es (e ∷ []) in omega (arith, sum, room)

starting : (sc : scenes.Scene) (e : TopoEvent) → IsSound sc → is_cache_switch e ≡ true → Topologies sc →
    Topologies (scene_after_step sc (with_event sc.directory e) None)
starting sc (topo.Start cache) sound is i =
    appended_inv (topology_scene sc) (topo.Start cache) (plan_records sc None)
    (few_after sc.directory.events (topo.Start cache) sound.room) (λ ms. refl) (λ n. refl) refl (λ x. refl) (tt, tt)
    (λ t v. none_opened v t None (note.Planned sc.directory.done None ∷ []) refl) i
starting sc (topo.Stop cache) sound is i =
    appended_inv (topology_scene sc) (topo.Stop cache) (plan_records sc None)
    (few_after sc.directory.events (topo.Stop cache) sound.room) (λ ms. refl) (λ n. refl) refl (λ x. refl) (tt, tt)
    (λ t v. none_opened v t None (note.Planned sc.directory.done None ∷ []) refl) i
starting sc topo.Minor sound is i = absurd (cc (is))
starting sc (topo.Join m) sound is i = absurd (cc (is))
starting sc (topo.Left n) sound is i = absurd (cc (is))

calm : (sc : scenes.Scene) (who : Option NodeId) (r : Rec) → maps_in (one_record who r) ≡ [] →
    ((x : NodeId) → is_lost (one_record who r) x ≡ false) → RecordsFitFrom (topology_scene sc) sc.recs (one_record who r) →
    list_all says_no_topology (r ∷ []) ≡ true
    → Topologies sc → TopologyInvariant (record (topology_scene sc) { recs = sc.recs ++ one_record who r })
calm sc who r no_map no_loss fits quiet i = calm_inv (topology_scene sc) sc.link (one_record who r) no_map no_loss fits
    (λ to v. none_opened v to who (r ∷ []) quiet) (λ v a b. no_more_in (is_opens_of v) (sc.link a b)) i.links i

-- a moment changes no face
moment_face : (sc : scenes.Scene) (to : ℕ) →
    TopologyInvariant (record (topology_scene sc) { recs = sc.recs ++ one_record None (note.Tick to) }) →
    Topologies (scenes.scene_after_tick sc to)
moment_face sc to i = i

pub topologies_kept : EachEventKeeps Topologies
topologies_kept = record {
  answers = λ sc n s session sound r may i. acts (scenes.scene_with_directory sc (with_answer_given sc.directory)) n
      (after_answer s session) r.alive (answer_good (topology_scene sc) n s (started sc n s r i) session);
  calls = λ sc n s session sound r may i. acts sc n (after_closing_rules (after_call s session)) r.alive
      (call_good (topology_scene sc) n s (started sc n s r i) session);
  takes = λ sc n s from m sound r first i. takes_kept sc n s from m sound r first i;
  expires = λ sc n s tx sound r own may i. acts sc n (after_closing_rules (after_expire s tx)) r.alive
      (expire_good (topology_scene sc) n s (started sc n s r i) tx);
  sees = λ sc n s e sound r there i. acts sc n (after_closing_rules (after_see s s.read e)) r.alive
      (see_good (topology_scene sc) n s e there (started sc n s r i));
  switches = λ sc n s sound r may same i.
      subst (λ (rs : List Noted).
      TopologyInvariant (record (topology_scene sc) { events = sc.directory.events ++ topo.Minor ∷ []; recs = rs }))
      (append_none sc.recs)
      (appended_inv (topology_scene sc) topo.Minor [] (few_after sc.directory.events topo.Minor sound.room) (λ ms. refl)
      (λ n. refl) refl (λ x. refl) tt (λ t v. refl) i);
  moves = λ sc n s out sound r first i. moves_kept sc n s out sound r first i;
  drops = λ sc n s out sound r first away i. drops_kept sc n s out sound r first i;
  joins = λ sc m s sound absent new is i. joins_kept sc m s absent new is i
      (few_after sc.directory.events (topo.Join m) sound.room);
  loses = λ sc n sound lives i. loses_kept sc n i (few_after sc.directory.events (topo.Left n) sound.room);
  plans = λ sc refused sound i. calm sc None (note.Planned sc.directory.done refused) refl (λ x. refl) (tt, tt) refl i;
  starts = λ sc e sound is i. starting sc e sound is i;
  ticks = λ sc to sound i. moment_face sc to (calm sc None (note.Tick to) refl (λ x. refl) (tt, tt) refl i);
  breaks = λ sc n sound i. calm sc (Some n) note.Memory refl (λ x. refl) (tt, tt) refl i;
}

-- The opening.

module _ (s : Scenario) where
  abbrev sc : TopologyScene
  sc = topology_scene (opening_scene s)

  abbrev m : PartMap
  m = opening_map_of s

  alive_fits_at : (id : NodeId) → is_member s.nodes id ≡ true → NodeFits sc id (topology_state (opening_node s m id true))
  alive_fits_at id is = record {
    me_is = refl;
    not_lost = refl;
    member = is;
    within = omega arith;
    known_is = refl;
    map_fits = (refl, up_itself m.top);
    map_member = record { place = 0; within = omega arith; is_top = refl; member = is };
    exchange_fits = tt;
    exchange_oldest = tt;
    singles_tell = tt;
    outbox_tells = tt;
  }

  fresh_at : (id : NodeId) → IsUnjoined sc id (topology_state (opening_node s m id false))
  fresh_at id = record {
    me_is = refl;
    none_read = refl;
    known_is = refl;
    no_map = refl;
    no_exchange = refl;
    no_singles = refl;
    no_outbox = refl;
  }

  abbrev seat_by : NodeId → Bool → TopologyPart
  seat_by id b = record { life = opening_life b; state = topology_state (opening_node s m id b) }

  part_fits : (id : NodeId) (b : Bool) → is_member s.nodes id ≡ b →
      PartFits sc id (opening_life b) (topology_state (opening_node s m id b))
  part_fits id true is = alive_fits_at id is
  part_fits id false is = fresh_at id

  member_alive : (x : NodeId) → is_member s.nodes x ≡ true →
      sc.seat x ≡ Some (record { life = life.Alive; state = topology_state (opening_node s m x true) })
  member_alive x member = ap (λ (b : Bool). Some (seat_by x b)) member

  oldest_has : (x : NodeId) → oldest_member s.nodes ≡ Some x → HasMap sc m.top x
  oldest_has x is = inr (record {
    state = topology_state (opening_node s m x true);
    there =
        member_alive x (oldest_is_member s.nodes x is);
    holds = up_itself m.top;
  })

  member_seen : (k : ℕ) → k ≤ 0 → (x : NodeId) → is_member (topology_at sc k).members x ≡ true → HasSeen sc first_top x
  member_seen zero within x is =
      inr (record { state = topology_state (opening_node s m x true); there = member_alive x is; holds = up_itself first_top })
  member_seen (suc k) within x is = absurd (omega (arith, within))

  no_held : (v : TopVer) (to x : NodeId) (b : Bool) →
      opens_at_part v to (opening_life b) (topology_state (opening_node s m x b)) ≡ 0
  no_held v to x true = refl
  no_held v to x false = refl

  computed : (top : TopVer) (x : PartMap) → map_of sc top ≡ Some x → OldestHasMap sc top
  computed top x is =
      (elim (same_top m.top top) as (λ b. same_top m.top top ≡ b → (if b then Some m else None) ≡ Some x →
      OldestHasMap sc top) [
        | true ↦ λ t e. record {
          place = 0;
          within = omega arith;
          is_top = same_top_true m.top top t;
          by_oldest = λ y oldest. subst (λ (v : TopVer). HasMap sc v y) (same_top_true m.top top t) (oldest_has y oldest);
        }
        | false ↦ λ f e. absurd (cc (e))
      ]) refl is

  pub opening_kept : Topologies (opening_scene s)
  opening_kept = record {
    lefts = λ n lives. refl;
    sat = member_seen;
    once = λ x y v. let held = no_held v y x (is_member s.nodes x) in omega (arith, held);
    known = λ to v. inl refl;
    few = omega arith;
    seats = λ n x is. subst (λ (y : TopologyPart). PartFits sc n y.life y.state)
        (some_is (seat_by n (is_member s.nodes n)) x is) (part_fits n (is_member s.nodes n) refl);
    links = λ x y. tt;
    computed = computed;
    fit = tt;
  }
