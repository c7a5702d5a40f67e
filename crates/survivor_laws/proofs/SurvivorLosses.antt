-- A loss that is not refused leaves living owners: the highest map that survives keeps one in each partition that has owners.
use Rattle.std.proofs.Common.{◌≡◌, ◌++◌, ◌||◌, List, [], ◌∷◌, Option, Some, None, Bool, true, false, if◌then◌else◌, not, length, refl, ap, sym, subst, ◌∙◌}
use Rattle.std.specs.List.{list_all}
use Rattle.frame_laws.proofs.Extending.{append_twice}
use Rattle.ignite_types.specs.Names.{same_node}
use Rattle.ignite_types.specs.declared.journal.TopoEvent.{TopoEvent}
use Rattle.ignite_types.specs.declared.names.NodeId.{NodeId}
use Rattle.ignite_types.specs.declared.names.TopVer.{TopVer}
use Rattle.ignite_types.specs.declared.placement.PartMap.{PartMap}
use Rattle.ignite_types.specs.declared.placement.Row.{Row}
use Rattle.journal_statements.specs.MapLaws.{has_live_owner}
use Rattle.journal_statements.specs.Noted.{Noted, is_lost, map_of_version, maps_installed}
use Rattle.journal_statements.specs.Topologies.{Topology}
use Rattle.link_laws.proofs.Journals.{first_rest}
use Rattle.link_laws.specs.Carrying.{is_gone}
use Rattle.map_laws.proofs.MapLosses.{lives_before, lost_now}
use Rattle.map_laws.proofs.MapSteps.{each_to}
use Rattle.map_laws.specs.MapFacts.{maps_by}
use Rattle.node_state.specs.Node.{NodeState}
use Rattle.node_state.specs.declared.life.Life.{Life}
use Rattle.part_model.specs.Directory.{any_remains, first_top, remains, survives}
use Rattle.part_model.specs.NextMap.{is_member}
use Rattle.placement_laws.proofs.Rows.{both_pass}
use Rattle.scenes.proofs.Sounds.{alive_is, turned}
use Rattle.scenes.specs.Events.{IsSound, MayBeLost}
use Rattle.scenes.specs.Scenes.{Scene, is_survivor, one_record, plan_records, scene_after_loss}
use Rattle.survivor_laws.proofs.NextRows.{any_change}
use Rattle.survivor_laws.proofs.SurvivorComputes.{each_at}
use Rattle.survivor_laws.proofs.SurvivorFrames.{at_same, fit_events, fit_parts, noted_at_more, noted_more}
use Rattle.survivor_laws.specs.SurvivorFacts.{HasLiveOwners, IsNotedAt}
use Rattle.survivor_laws.specs.SurvivorInvariant.{MapsAndSurvivors, SurvivorInvariant}
use Rattle.topology_laws.proofs.Bases.{not_higher_up}
use Rattle.topology_laws.proofs.Frames.{longer, same_number}
use Rattle.topology_laws.proofs.Records.{map_more}
use Rattle.topology_laws.proofs.Steps.{alive_fits}
use Rattle.topology_laws.proofs.Tops.{more_events, up_twice}
use Rattle.topology_laws.specs.TopologyFacts.{HasAtLeast, HoldsOfEach, IsUpTo, MapFits, NodeFits}
use Rattle.topology_laws.specs.TopologyScenes.{topology_scene, topology_state}
use Rattle.tx_model.specs.World.{is_alive}
use Rattle.ignite_types.specs.declared.journal.Rec.TheVariants as note
use Rattle.ignite_types.specs.declared.journal.TopoEvent.TheVariants as topo
use Rattle.node_state.specs.declared.life.Life.TheVariants as life

survivor_parts : (id x : NodeId) (at : Life) → is_survivor id x at ≡ true → (same_node id x ≡ false) × (is_alive at ≡ true)
survivor_parts id x at is = by (same_node id x) refl is
  where
    by : (c : Bool) → same_node id x ≡ c → (if c then false else is_alive at) ≡ true → (same_node id x ≡ false)
        × (is_alive at ≡ true)
    by true same e = absurd (cc (e))
    by false other e = (other, e)

module _ (sc : Scene) (id : NodeId) (sound : IsSound sc) (may : MayBeLost sc id) (i : MapsAndSurvivors sc) where
  abbrev more : List Noted
  more = plan_records sc None ++ one_record None (note.Lost id)

  abbrev after : List Noted
  after = sc.recs ++ more

  abbrev es : List TopoEvent
  es = sc.directory.events ++ topo.Left id ∷ []

  lost : (x : NodeId) → is_lost after x ≡ (is_lost sc.recs x || same_node id x)
  lost x = lost_now sc id sound i.maps.maps x

  still_lives : (x : NodeId) → is_lost sc.recs x ≡ false → same_node id x ≡ false → is_lost after x ≡ false
  still_lives x lives other = lost x ∙ (rw (lives, other) refl)

  at_lives : (same_node id may.at ≡ false) × (is_alive (sc.life may.at) ≡ true)
  at_lives = survivor_parts id may.at (sc.life may.at) may.at_survives

  at_fits : NodeFits (topology_scene sc) may.at (topology_state (sc.state may.at))
  at_fits = alive_fits (topology_scene sc) may.at (record { life = sc.life may.at; state = topology_state (sc.state may.at) })
      (alive_is (sc.life may.at) at_lives.1)
      (i.maps.topology.seats may.at (record { life = sc.life may.at; state = topology_state (sc.state may.at) }) refl)

  best_known : map_of_version (maps_installed sc.scenario sc.recs) may.best.top ≡ Some may.best
  best_known = (subst (MapFits (topology_scene sc) (topology_state (sc.state may.at)).known) may.has_best at_fits.map_fits).0

  -- who survives has no higher map
  none_above : (k : NodeId) → is_lost sc.recs k ≡ false → same_node id k ≡ false → (top : TopVer) →
      HasAtLeast top (sc.state k).installed → IsUpTo top may.best.top
  none_above k lives other top has = by_life (sc.life k) refl
    where
      by_map : (o : Option PartMap) → (sc.state k).installed ≡ o → sc.life k ≡ life.Alive → HasAtLeast top o →
          IsUpTo top may.best.top
      by_map None is at up = absurd up
      by_map (Some x) is at up =
          let survives_it : is_survivor id k (sc.life k) ≡ true = ap (is_survivor id k) at
          ∙ ap (λ (c : Bool). if c then false else true) other in
          up_twice top x.top may.best.top up (not_higher_up x.top may.best.top (may.none_higher k x survives_it is))

      by_life : (at : Life) → sc.life k ≡ at → IsUpTo top may.best.top
      by_life life.Alive at = by_map (sc.state k).installed refl at has
      by_life life.Absent at =
          absurd (subst (HasAtLeast top) (ap (λ (st : NodeState). st.installed) (sound.absent_fresh k at)) has)
      by_life life.Gone at = let gone = sound.gone_lost k (ap is_gone at) in absurd (cc (gone, lives))

  -- a member that remains is not lost
  remains_live : (x : NodeId) → remains sc.directory.members id x ≡ true → not (is_lost after x) ≡ true
  remains_live x is = by (same_node x id) refl is
    where
      by : (c : Bool) → same_node x id ≡ c → (if c then false else is_member sc.directory.members x) ≡ true →
          not (is_lost after x) ≡ true
      by true same e = absurd (cc (e))
      by false other e = ap not (still_lives x (sound.alive_kept x (sound.members_are x ∙ e)) (turned id x ∙ other))

  row_live : (row : Row) → survives sc.directory.members id row ≡ true → has_live_owner after row ≡ true
  row_live row is = by row.owners is
    where
      by : (os : List NodeId) → any_remains sc.directory.members id os ≡ true →
          has_live_owner after (record row { owners = os }) ≡ true
      by [] none = refl
      by (o ∷ os) some = any_change (remains sc.directory.members id) (λ (x : NodeId). not (is_lost after x))
          (o ∷ os) remains_live some

  rows_live : (rows : List Row) → list_all (survives sc.directory.members id) rows ≡ true →
      list_all (has_live_owner after) rows ≡ true
  rows_live [] all = refl
  rows_live (row ∷ rows) all =
      let both = first_rest (survives sc.directory.members id row) (list_all (survives sc.directory.members id) rows) all in
      both_pass (has_live_owner after row) (list_all (has_live_owner after) rows) (row_live row both.0) (rows_live rows both.1)

  owners : HasLiveOwners sc.scenario es after
  owners =
      let events = sc.directory.events in
      record {
        map = may.best;
        is_map = map_more sc.scenario sc.recs more may.best.top may.best best_known;
        at = may.at;
        lives = still_lives may.at at_fits.not_lost at_lives.0;
        place = length events;
        within = longer events (topo.Left id ∷ []) (length events) (same_number (length events));
        member = ap (λ (t : Topology). is_member t.members may.at) (more_events sc.scenario events (topo.Left id ∷ [])
            (length events) (same_number (length events))) ∙ at_fits.member;
        has_it = noted_more sc.scenario sc.recs more may.at may.best.top
            (subst (IsNotedAt sc.scenario sc.recs may.at) may.has_best (i.survivors.noted may.at));
        is_highest = λ k lives.
            let before = lives_before sc id sound i.maps.maps k lives in
            let n = i.maps.maps.nodes k before.0 in
            subst (HoldsOfEach (λ (x : PartMap). IsUpTo x.top may.best.top)) (sym (at_same sc.scenario sc.recs more k refl))
            (each_at sc.scenario sc.recs k (λ (x : PartMap). IsUpTo x.top may.best.top)
            (each_to (λ (x : PartMap). HasAtLeast x.top (sc.state k).installed) (λ (x : PartMap). IsUpTo x.top may.best.top)
            (maps_by k sc.recs) (λ x has. none_above k before.0 before.1 x.top has) n.has_last)
            (λ is. none_above k before.0 before.1 first_top (n.has_first is)));
        owned = rows_live may.best.rows may.keeps_owners;
      }

  pub loses_survivors : SurvivorInvariant (scene_after_loss sc id)
  loses_survivors = record {
    noted = λ k. noted_at_more sc.scenario sc.recs more k (sc.state k).installed (i.survivors.noted k);
    owners = owners;
    fit = fit_parts sc.scenario es [] sc.recs more (fit_events sc.scenario sc.directory.events (topo.Left id ∷ []) [] sc.recs
        i.survivors.fit) (
          tt,
          (
            subst (HasLiveOwners sc.scenario es)
                (sym (append_twice sc.recs (plan_records sc None) (one_record None (note.Lost id)))) owners,
            tt,
          ),
        );
  }
