-- Each event keeps the invariants of topology and of maps.
use Rattle.std.proofs.Common.{◌≡◌, ◌⊎◌, inl, inr, ◌++◌, List, [], ◌∷◌, Option, Some, None, Bool, true, false, ℕ, refl, ap, sym, subst, ◌∙◌}
use Rattle.std.specs.Prelude.{drop, fold}
use Rattle.frame_laws.proofs.Accesses.{get_ok_row_kept, lock_ok_row_kept, near_backup_finished_kept, near_finished_kept, near_update_row_kept, prepare_fail_row_kept, prepared_row_kept}
use Rattle.frame_laws.proofs.Backups.{backup_finish_row_kept, backup_prepare_row_kept}
use Rattle.frame_laws.proofs.Decisions.{near_side_left_kept}
use Rattle.frame_laws.proofs.Extending.{append_none}
use Rattle.frame_laws.proofs.Filling.{complete_row_kept, demand_row_kept, supply_row_kept}
use Rattle.frame_laws.proofs.Locks.{edges_row_kept, get_row_kept, lock_row_kept}
use Rattle.frame_laws.proofs.Primary.{backup_prepared_row_kept, finish_row_kept, near_done_row_kept, own_backup_finished_kept, prepare_row_kept, primary_left_kept}
use Rattle.frame_laws.proofs.Recovery.{begins_round_kept, orphans_row_kept, recovery_backup_finished_kept, recovery_finished_kept}
use Rattle.frame_laws.proofs.Searches.{edges_ok_row_kept, search_left_kept}
use Rattle.act_rows.specs.Accesses.{after_backup_finished_at_starter, after_finished_at_starter}
use Rattle.act_rows.specs.Acts.{after_backup_finished, after_event_effects, after_finished, after_message, after_see, with_act_begun}
use Rattle.act_rows.specs.Closing.{after_closing_rules}
use Rattle.act_rows.specs.Decisions.{after_left_at_starter}
use Rattle.act_rows.specs.Exchange.{after_compute_if_all, after_full, after_learn, after_learn_all}
use Rattle.act_rows.specs.Primary.{after_backup_finished_at_primary, after_left_at_primary}
use Rattle.act_rows.specs.Recovery.{after_begin_round}
use Rattle.act_rows.specs.Steps.{with_note}
use Rattle.ignite_types.specs.declared.journal.Rec.{Rec}
use Rattle.ignite_types.specs.declared.journal.TopoEvent.{TopoEvent}
use Rattle.ignite_types.specs.declared.message.Message.{Message}
use Rattle.ignite_types.specs.declared.names.NodeId.{NodeId}
use Rattle.ignite_types.specs.declared.names.TopVer.{TopVer}
use Rattle.ignite_types.specs.declared.names.TxId.{TxId}
use Rattle.ignite_types.specs.declared.placement.PartMap.{PartMap}
use Rattle.ignite_types.specs.declared.scenario.Member.{Member}
use Rattle.journal_statements.specs.Maps.{single_in}
use Rattle.journal_statements.specs.Noted.{Noted, is_lost, map_in, map_of_version, maps_installed, noted_by}
use Rattle.link_laws.specs.Carrying.{is_gone}
use Rattle.map_laws.proofs.LeavesMaps.{andthen, closed_leaves, installed_row_leaves, learns_leaves, leaving, nothing, noting_leaves, opens_row_leaves}
use Rattle.map_laws.proofs.MapFrames.{AreSilent, events_more, lost_same, node_more, node_silent, none_lost, noted_parts, noted_silent, of_node}
use Rattle.map_laws.proofs.MapRows.{AliveOrMapless, computes_if_all_maps, full_row_maps, single_maps}
use Rattle.map_laws.proofs.MapSteps.{begins_maps, leaves_good}
use Rattle.map_laws.specs.LeavesMaps.{LeavesMaps}
use Rattle.map_laws.specs.MapInvariant.{MapInvariant, MapsHoldInAct, TopologyAndMaps}
use Rattle.node_state.specs.declared.life.Life.{Life}
use Rattle.node_state.specs.Node.{NodeState}
use Rattle.scenes.specs.Events.{IsReady, IsSound}
use Rattle.scenes.specs.Scenes.{Scene, one_record, plan_records, scene_after_join, scene_after_take, scene_in_act, state_at_rest}
use Rattle.topology_laws.proofs.Kept.{begins, started, taken_inv, tells_then}
use Rattle.topology_laws.proofs.Rows.{single_kept_good}
use Rattle.topology_laws.specs.TopologyFacts.{MessageTells}
use Rattle.topology_laws.specs.TopologyInvariant.{HoldsInTopologyAct}
use Rattle.topology_laws.specs.TopologyScenes.{TopologyScene, topology_scene}
use Rattle.tx_model.specs.World.{is_alive}
use Rattle.ignite_types.specs.declared.journal.Rec.TheVariants as note
use Rattle.ignite_types.specs.declared.journal.TopoEvent.TheVariants as topo
use Rattle.ignite_types.specs.declared.message.Message.TheVariants as msg
use Rattle.node_state.specs.declared.life.Life.TheVariants as life

pub finished_leaves : (s : NodeState) (from : NodeId) (tx : TxId) → LeavesMaps s (after_finished s from tx)
finished_leaves s from tx = andthen s (after_finished_at_starter s from tx) (after_finished s from tx)
    (near_finished_kept LeavesMaps leaving s from tx)
    (recovery_finished_kept LeavesMaps leaving (after_finished_at_starter s from tx) from tx)

pub backup_finished_leaves : (s : NodeState) (from : NodeId) (tx : TxId) (primary : NodeId) →
    LeavesMaps s (after_backup_finished s from tx primary)
backup_finished_leaves s from tx primary =
    let own = after_backup_finished_at_primary s from tx primary in
    let near = after_backup_finished_at_starter own from tx primary in
    andthen s own (after_backup_finished s from tx primary) (own_backup_finished_kept LeavesMaps leaving s from tx primary)
    (andthen own near (after_backup_finished s from tx primary)
    (near_backup_finished_kept LeavesMaps leaving own from tx primary)
    (recovery_backup_finished_kept LeavesMaps leaving near from tx primary))

brings_leaves : (s : NodeState) (place : ℕ) (event : TopoEvent) → LeavesMaps s (after_event_effects s place event)
brings_leaves s place (topo.Left gone) =
    let near = after_left_at_starter s gone in
    let primary = after_left_at_primary near gone in
    let round = after_begin_round primary place in
    andthen s near (after_event_effects s place (topo.Left gone)) (near_side_left_kept LeavesMaps leaving s gone)
    (andthen near primary (after_event_effects s place (topo.Left gone)) (primary_left_kept LeavesMaps leaving near gone)
    (andthen primary round (after_event_effects s place (topo.Left gone)) (begins_round_kept LeavesMaps leaving primary place)
    (search_left_kept LeavesMaps leaving round gone)))
brings_leaves s place (topo.Join member) = nothing s
brings_leaves s place topo.Minor = nothing s
brings_leaves s place (topo.Start cache) = nothing s
brings_leaves s place (topo.Stop cache) = nothing s

pub see_leaves : (s : NodeState) (place : ℕ) (e : TopoEvent) → LeavesMaps s (after_closing_rules (after_see s place e))
see_leaves s place e =
    let known = after_learn s e in
    let seen = with_note known (note.See place) in
    andthen s seen (after_closing_rules (after_see s place e))
    (andthen s known seen (learns_leaves s e) (noting_leaves known (note.See place) refl))
    (andthen seen (after_event_effects seen place e) (after_closing_rules (after_see s place e)) (brings_leaves seen place e)
    (closed_leaves (after_event_effects seen place e)))

-- Events beside the acts.

-- records that say nothing of maps, and perhaps a topology event
pub calm_maps : (sc : Scene) (events : List TopoEvent) (more : List Noted) → AreSilent more → MapInvariant sc
    → MapInvariant (record sc {
      directory = record sc.directory { events = sc.directory.events ++ events };
      recs =
          sc.recs ++ more;
    })
calm_maps sc events more silent i = record {
  nodes = λ n lives. node_silent sc.scenario sc.recs more n silent (sc.state n).caches (sc.state n).installed
      (sc.state n).singles (i.nodes n (sym (lost_same sc.recs more n (λ x. none_lost more x silent)) ∙ lives));
  maps = events_more sc.scenario sc.directory.events events [] (sc.recs ++ more)
      (noted_parts sc.scenario sc.directory.events [] sc.recs more i.maps
      (noted_silent sc.scenario sc.directory.events sc.recs more silent));
}

pub silent_maps : (sc : Scene) (more : List Noted) → AreSilent more → MapInvariant sc →
    MapInvariant (record sc { recs = sc.recs ++ more })
silent_maps sc more silent i = record {
  nodes = λ n lives. node_silent sc.scenario sc.recs more n silent (sc.state n).caches (sc.state n).installed
      (sc.state n).singles (i.nodes n (sym (lost_same sc.recs more n (λ x. none_lost more x silent)) ∙ lives));
  maps = noted_parts sc.scenario sc.directory.events [] sc.recs more i.maps
      (noted_silent sc.scenario sc.directory.events sc.recs more silent);
}

-- a message was taken that is no Single
taken_maps : (sc : Scene) (n from : NodeId) (m : Message) → ((v : TopVer) → single_in v (note.Deliver from m) ≡ []) →
    MapInvariant sc → MapInvariant (scene_after_take sc from n m)
taken_maps sc n from m none i =
    let one = one_record (Some n) (note.Deliver from m) in
    record {
      nodes = λ k lives. node_more sc.scenario sc.recs one k
          (of_node map_in k (record { node = Some n; rec = note.Deliver from m }) [] refl)
          (λ v. of_node (single_in v) k (record { node = Some n; rec = note.Deliver from m }) [] (none v)) (λ x. refl)
          (sc.state k).caches (sc.state k).installed (sc.state k).singles
          (i.nodes k (sym (lost_same sc.recs one k (λ x. refl)) ∙ lives));
      maps = noted_parts sc.scenario sc.directory.events [] sc.recs one i.maps (tt, tt);
    }

-- A node begins to act.
ready_maps : (sc : Scene) (n : NodeId) (s : NodeState) → IsReady sc n s → MapInvariant sc → MapsHoldInAct sc n s
ready_maps sc n s r i = begins_maps sc n s r.none_noted (sym (ap (λ (x : NodeState). x.caches) r.state_is))
    (sym (ap (λ (x : NodeState). x.installed) r.state_is)) (sym (ap (λ (x : NodeState). x.singles) r.state_is)) i

pub acts_maps : (sc : Scene) (n : NodeId) (s b : NodeState) → IsReady sc n s → LeavesMaps s b → MapInvariant sc →
    MapsHoldInAct sc n b
acts_maps sc n s b r l i = leaves_good sc n s b l (ready_maps sc n s r i)

-- A message is taken.
module _ (sc : Scene) (n : NodeId) (s : NodeState) (from : NodeId) (sound : IsSound sc) (r : IsReady sc n s)
    (i : TopologyAndMaps sc) where
  abbrev pub after : Message → Scene
  after m = scene_after_take sc from n m

  pub ready_after : (m : Message) → IsReady (after m) n s
  ready_after m = record { alive = r.alive; me_is = r.me_is; none_noted = r.none_noted; state_is = r.state_is }

  pub none_noted : (m : Message) → (scene_in_act (after m) n s).recs ≡ (after m).recs
  none_noted m = ap (λ (rs : List Rec). (after m).recs ++ noted_by (Some n) rs) r.none_noted ∙ append_none (after m).recs

  pub own_lives : (m : Message) → is_lost (scene_in_act (after m) n s).recs n ≡ false
  own_lives m = ap (λ (rs : List Noted). is_lost rs n) (none_noted m)
      ∙ lost_same sc.recs (one_record (Some n) (note.Deliver from m)) n (λ x. refl) ∙ sound.alive_kept n (ap is_alive r.alive)

  plain : (m : Message) → ((v : TopVer) → single_in v (note.Deliver from m) ≡ []) →
      sc.link from n ≡ m ∷ drop 1 (sc.link from n) → LeavesMaps s (after_message s from m) →
      MapsHoldInAct (after m) n (after_closing_rules (after_message s from m))
  plain m none first l = acts_maps (after m) n s (after_closing_rules (after_message s from m)) (ready_after m)
      (andthen s (after_message s from m) (after_closing_rules (after_message s from m)) l
      (closed_leaves (after_message s from m))) (taken_maps sc n from m none i.maps)

  pub alive_or_mapless : (m : Message) → AliveOrMapless (after m)
  alive_or_mapless m x lives =
      by (sc.life x) refl (sym (lost_same sc.recs (one_record (Some n) (note.Deliver from m)) x (λ y. refl)) ∙ lives)
    where
      by : (at : Life) → sc.life x ≡ at → is_lost sc.recs x ≡ false → (sc.life x ≡ life.Alive) ⊎ ((sc.state x).installed ≡ None)
      by life.Alive at l = inl at
      by life.Absent at l = inr (ap (λ (st : NodeState). st.installed) (sound.absent_fresh x at))
      by life.Gone at l = let gone = sound.gone_lost x (ap (λ (y : Life). is_gone y) at) in absurd (cc (gone, l))

  pub sender_lives : (m : Message) → sc.link from n ≡ m ∷ drop 1 (sc.link from n) → (b : Bool) → is_lost sc.recs from ≡ b →
      is_lost sc.recs from ≡ false
  sender_lives m first true lost = let none = sound.from_lost from n lost in absurd (cc (none, first))
  sender_lives m first false lives = lives

  full_maps : (m : PartMap) → sc.link from n ≡ msg.Full m ∷ drop 1 (sc.link from n) →
      MapsHoldInAct (after (msg.Full m)) n (after_closing_rules (after_full s from m))
  full_maps m first =
      let told : MessageTells (topology_scene (after (msg.Full m))) from n (msg.Full m) =
      tells_then sc n s from (msg.Full m) sound r first i.topology in
      let known : map_of_version (maps_installed sc.scenario (scene_in_act (after (msg.Full m)) n s).recs) m.top ≡ Some m =
      ap (λ (rs : List Noted). map_of_version (maps_installed sc.scenario rs) m.top) (none_noted (msg.Full m)) ∙ told.1 in
      leaves_good (after (msg.Full m)) n (after_full s from m) (after_closing_rules (after_full s from m))
      (closed_leaves (after_full s from m))
      (full_row_maps (after (msg.Full m)) n s from m (own_lives (msg.Full m)) known
      (ready_maps (after (msg.Full m)) n s (ready_after (msg.Full m))
      (taken_maps sc n from (msg.Full m) (λ v. refl) i.maps)))

  single_taken : (top : TopVer) (o : Option PartMap) (complete : List ℕ) → sc.link from n ≡ msg.Single top o complete
      ∷ drop 1 (sc.link from n) → MapsHoldInAct (after (msg.Single top o complete)) n
      (after_closing_rules (after_message s from (msg.Single top o complete)))
  single_taken top o complete first =
      let m : Message = msg.Single top o complete in
      let x : NodeState = record s {
        singles = s.singles ++ record { from = from; top = top; map = o; complete = complete }
            ∷ [];
      } in
      let next = after m in
      let base = taken_inv sc n s from m sound r first i.topology in
      let told = tells_then sc n s from m sound r first i.topology in
      let good : HoldsInTopologyAct (topology_scene next) n s = started next n s (ready_after m) base in
      let back = sym (begins next n s (ready_after m)) in
      let good_x : HoldsInTopologyAct (topology_scene next) n x =
      single_kept_good (topology_scene next) n s from top o complete
      (subst (λ (c : TopologyScene). MessageTells c from n m) back told) good in
      let first_maps : MapsHoldInAct next n x =
      single_maps sc n s from top o complete r (sender_lives m first (is_lost sc.recs from) refl) i.maps in
      leaves_good next n (after_compute_if_all x) (after_closing_rules (after_compute_if_all x))
      (closed_leaves (after_compute_if_all x))
      (computes_if_all_maps next n x good_x (alive_or_mapless m)
      (λ y. ap (λ (rs : List Rec). is_lost (noted_by (Some n) rs) y) r.none_noted) (own_lives m) first_maps)

  pub takes_maps : (m : Message) → sc.link from n ≡ m ∷ drop 1 (sc.link from n) →
      MapsHoldInAct (after m) n (after_closing_rules (after_message s from m))
  takes_maps (msg.Lock tx top key) first =
      plain (msg.Lock tx top key) (λ v. refl) first (lock_row_kept LeavesMaps leaving s from tx top key)
  takes_maps (msg.LockOk tx key found) first = plain (msg.LockOk tx key found) (λ v. refl) first
      (lock_ok_row_kept LeavesMaps leaving s tx key found)
  takes_maps (msg.Get tx key near) first =
      plain (msg.Get tx key near) (λ v. refl) first (get_row_kept LeavesMaps leaving s from tx key near)
  takes_maps (msg.GetOk tx key found) first = plain (msg.GetOk tx key found) (λ v. refl) first
      (get_ok_row_kept LeavesMaps leaving s tx key found)
  takes_maps (msg.Prepare tx top mode shares wanted writes) first = plain (msg.Prepare tx top mode shares wanted writes)
      (λ v. refl) first (prepare_row_kept LeavesMaps leaving s from tx top mode shares wanted writes)
  takes_maps (msg.Prepared tx) first =
      plain (msg.Prepared tx) (λ v. refl) first (prepared_row_kept LeavesMaps leaving s from tx)
  takes_maps (msg.PrepareFail tx why) first = plain (msg.PrepareFail tx why) (λ v. refl) first
      (prepare_fail_row_kept LeavesMaps leaving s tx why)
  takes_maps (msg.Finish tx commit) first =
      plain (msg.Finish tx commit) (λ v. refl) first (finish_row_kept LeavesMaps leaving s from tx commit)
  takes_maps (msg.Finished tx) first = plain (msg.Finished tx) (λ v. refl) first (finished_leaves s from tx)
  takes_maps (msg.Edges tx round asked) first = plain (msg.Edges tx round asked) (λ v. refl) first
      (edges_row_kept LeavesMaps leaving s from tx round asked)
  takes_maps (msg.EdgesOk tx round act waits) first = plain (msg.EdgesOk tx round act waits) (λ v. refl) first
      (edges_ok_row_kept LeavesMaps leaving s from tx round act waits)
  takes_maps (msg.BackupPrepare tx top shares primary writes) first = plain (msg.BackupPrepare tx top shares primary writes)
      (λ v. refl) first (backup_prepare_row_kept LeavesMaps leaving s from tx top shares primary writes)
  takes_maps (msg.BackupPrepared tx) first =
      plain (msg.BackupPrepared tx) (λ v. refl) first (backup_prepared_row_kept LeavesMaps leaving s from tx)
  takes_maps (msg.BackupFinish tx primary commit) first = plain (msg.BackupFinish tx primary commit) (λ v. refl) first
      (backup_finish_row_kept LeavesMaps leaving s from tx primary commit)
  takes_maps (msg.BackupFinished tx primary) first = plain (msg.BackupFinished tx primary) (λ v. refl) first
      (backup_finished_leaves s from tx primary)
  takes_maps (msg.NearUpdate tx key new ver) first = plain (msg.NearUpdate tx key new ver) (λ v. refl) first
      (near_update_row_kept LeavesMaps leaving s from tx key new ver)
  takes_maps (msg.NearDone tx key) first =
      plain (msg.NearDone tx key) (λ v. refl) first (near_done_row_kept LeavesMaps leaving s from tx key)
  takes_maps (msg.Demand top part after) first = plain (msg.Demand top part after) (λ v. refl) first
      (demand_row_kept LeavesMaps leaving s from top part after)
  takes_maps (msg.Supply top part entries last) first = plain (msg.Supply top part entries last) (λ v. refl) first
      (supply_row_kept LeavesMaps leaving s from top part entries last)
  takes_maps (msg.Complete top) first =
      plain (msg.Complete top) (λ v. refl) first (complete_row_kept LeavesMaps leaving s from top)
  takes_maps (msg.Orphans round list) first = plain (msg.Orphans round list) (λ v. refl) first
      (orphans_row_kept LeavesMaps leaving s from round list)
  takes_maps (msg.Single top o complete) first = single_taken top o complete first
  takes_maps (msg.Full m) first = full_maps m first
  takes_maps (msg.Installed top) first = plain (msg.Installed top) (λ v. refl) first (installed_row_leaves s from top)
  takes_maps (msg.Opens top) first = plain (msg.Opens top) (λ v. refl) first (opens_row_leaves s top)

-- A joiner learns.

pub learned_leaves : (es : List TopoEvent) (s : NodeState) → ((fold after_learn s es).caches ≡ s.caches)
    × ((fold after_learn s es).installed ≡ s.installed) × ((fold after_learn s es).singles ≡ s.singles)
learned_leaves [] s = (refl, refl, refl)
learned_leaves (e ∷ es) s = let rest = learned_leaves es (after_learn s e) in (rest.0, rest.1, rest.2)

pub joins_maps : (sc : Scene) (m : Member) (s : NodeState) → sc.state m.node ≡ state_at_rest s → MapInvariant sc
    → (let start = with_act_begun (after_learn_all s sc.directory.events sc.directory.clock) in
    MapsHoldInAct (scene_after_join sc m) m.node (after_closing_rules (after_see start start.read (topo.Join m))))
joins_maps sc m s is i =
    let start = with_act_begun (after_learn_all s sc.directory.events sc.directory.clock) in
    let next = scene_after_join sc m in
    let calm = calm_maps sc (topo.Join m ∷ []) (plan_records sc None) refl i in
    let here : MapInvariant next = record { nodes = calm.nodes; maps = calm.maps } in
    let same = learned_leaves sc.directory.events s in
    leaves_good next m.node start (after_closing_rules (after_see start start.read (topo.Join m)))
    (see_leaves start start.read (topo.Join m))
    (begins_maps next m.node start refl
    (same.0 ∙ sym (ap (λ (x : NodeState). x.caches) is)) (same.1 ∙ sym (ap (λ (x : NodeState). x.installed) is)) (same.2
    ∙ sym (ap (λ (x : NodeState). x.singles) is)) here)
