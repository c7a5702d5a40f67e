-- Each event keeps the invariants of topology, of maps and of living owners.
use Rattle.std.proofs.Common.{◌≡◌, ◌++◌, List, [], ◌∷◌, Option, Some, None, false, ℕ, refl, ap, sym, subst, ◌∙◌}
use Rattle.std.specs.Prelude.{drop}
use Rattle.frame_laws.proofs.Accesses.{get_ok_row_kept, lock_ok_row_kept, near_update_row_kept, prepare_fail_row_kept, prepared_row_kept}
use Rattle.frame_laws.proofs.Backups.{backup_finish_row_kept, backup_prepare_row_kept}
use Rattle.frame_laws.proofs.Commands.{answer_row_kept, call_row_kept}
use Rattle.frame_laws.proofs.Extending.{append_none}
use Rattle.frame_laws.proofs.Filling.{complete_row_kept, demand_row_kept, supply_row_kept}
use Rattle.frame_laws.proofs.Locks.{edges_row_kept, get_row_kept, lock_row_kept}
use Rattle.frame_laws.proofs.Primary.{backup_prepared_row_kept, finish_row_kept, near_done_row_kept, prepare_row_kept}
use Rattle.frame_laws.proofs.Recovery.{orphans_row_kept}
use Rattle.frame_laws.proofs.Searches.{edges_ok_row_kept, expire_row_kept}
use Rattle.act_rows.specs.Acts.{after_message, after_see}
use Rattle.act_rows.specs.Closing.{after_closing_rules}
use Rattle.act_rows.specs.Commands.{after_answer, after_call}
use Rattle.act_rows.specs.Exchange.{after_compute_if_all, after_full}
use Rattle.act_rows.specs.Searches.{after_expire}
use Rattle.part_model.specs.Directory.{with_answer_given, with_event}
use Rattle.ignite_types.specs.declared.journal.Rec.{Rec}
use Rattle.ignite_types.specs.declared.journal.TopoEvent.{TopoEvent}
use Rattle.ignite_types.specs.declared.message.Message.{Message}
use Rattle.ignite_types.specs.declared.message.Out.{Out}
use Rattle.ignite_types.specs.declared.names.NodeId.{NodeId}
use Rattle.ignite_types.specs.declared.names.TopVer.{TopVer}
use Rattle.ignite_types.specs.declared.placement.PartMap.{PartMap}
use Rattle.ignite_types.specs.declared.scenario.Member.{Member}
use Rattle.journal_statements.specs.Noted.{Noted, is_lost, noted_by}
use Rattle.map_laws.proofs.LeavesMaps.{andthen, aside, closed_leaves, installed_row_leaves, leaving, opens_row_leaves}
use Rattle.map_laws.proofs.MapEvents.{alive_or_mapless, backup_finished_leaves, finished_leaves, learned_leaves, none_noted, own_lives, ready_after, see_leaves, sender_lives}
use Rattle.map_laws.proofs.MapFrames.{lost_same}
use Rattle.map_laws.proofs.MapKept.{maps_kept}
use Rattle.map_laws.proofs.MapRows.{single_maps}
use Rattle.map_laws.specs.LeavesMaps.{LeavesMaps}
use Rattle.map_laws.specs.MapInvariant.{MapsHoldInAct}
use Rattle.node_state.specs.Node.{NodeState}
use Rattle.scenes.specs.Events.{EachEventKeeps, IsReady, IsSound, joiner_end, joiner_start}
use Rattle.scenes.specs.Scenes.{Scene, one_record, plan_records, scene_after_drop, scene_after_join, scene_after_send, scene_after_step, scene_after_take, scene_in_act, scene_with_directory, state_at_rest}
use Rattle.survivor_laws.proofs.SurvivorComputes.{computes_if_all_survivors, full_row_survivors, has_up}
use Rattle.survivor_laws.proofs.SurvivorFrames.{AreAside, aside_fit, fit_events, fit_parts, noted_at_more, owners_events, owners_records}
use Rattle.survivor_laws.proofs.SurvivorLosses.{loses_survivors}
use Rattle.survivor_laws.proofs.SurvivorSteps.{begins_survivors, leaves_survivors}
use Rattle.survivor_laws.specs.SurvivorInvariant.{MapsAndSurvivors, SurvivorInvariant, SurvivorsInAct}
use Rattle.topology_laws.proofs.Kept.{begins, started, taken_inv, tells_then}
use Rattle.topology_laws.proofs.Rows.{single_kept_good}
use Rattle.topology_laws.specs.TopologyFacts.{MessageTells}
use Rattle.topology_laws.specs.TopologyInvariant.{HoldsInTopologyAct}
use Rattle.topology_laws.specs.TopologyScenes.{TopologyScene, topology_in_act, topology_scene}
use Rattle.ignite_types.specs.declared.journal.Rec.TheVariants as note
use Rattle.ignite_types.specs.declared.journal.TopoEvent.TheVariants as topo
use Rattle.ignite_types.specs.declared.message.Message.TheVariants as msg

-- records of no map and no loss, and perhaps topology events
pub aside_survivors : (sc : Scene) (events : List TopoEvent) (more : List Noted) → AreAside more → SurvivorInvariant sc
    → SurvivorInvariant (record sc {
      directory = record sc.directory { events = sc.directory.events ++ events };
      recs =
          sc.recs ++ more;
    })
aside_survivors sc events more quiet i = record {
  noted = λ n. noted_at_more sc.scenario sc.recs more n (sc.state n).installed (i.noted n);
  owners = owners_events sc.scenario sc.directory.events events (sc.recs ++ more)
      (owners_records sc.scenario sc.directory.events sc.recs more quiet i.owners);
  fit = fit_events sc.scenario sc.directory.events events [] (sc.recs ++ more)
      (fit_parts sc.scenario sc.directory.events [] sc.recs more i.fit
      (aside_fit sc.scenario sc.directory.events sc.recs more quiet));
}

pub quiet_survivors : (sc : Scene) (more : List Noted) → AreAside more → SurvivorInvariant sc →
    SurvivorInvariant (record sc { recs = sc.recs ++ more })
quiet_survivors sc more quiet i = record {
  noted = λ n. noted_at_more sc.scenario sc.recs more n (sc.state n).installed (i.noted n);
  owners = owners_records sc.scenario sc.directory.events sc.recs more quiet i.owners;
  fit = fit_parts sc.scenario sc.directory.events [] sc.recs more i.fit
      (aside_fit sc.scenario sc.directory.events sc.recs more quiet);
}

ready_survivors : (sc : Scene) (n : NodeId) (s : NodeState) → IsReady sc n s → SurvivorInvariant sc → SurvivorsInAct sc n s
ready_survivors sc n s r i = begins_survivors sc n s r.none_noted (sym (ap (λ (x : NodeState). x.installed) r.state_is)) i

acts_survivors : (sc : Scene) (n : NodeId) (s b : NodeState) → IsReady sc n s → LeavesMaps s b → SurvivorInvariant sc →
    SurvivorsInAct sc n b
acts_survivors sc n s b r l i = leaves_survivors sc n s b l (ready_survivors sc n s r i)

-- A message is taken.
module _ (sc : Scene) (n : NodeId) (s : NodeState) (from : NodeId) (sound : IsSound sc) (r : IsReady sc n s)
    (i : MapsAndSurvivors sc) where
  abbrev after : Message → Scene
  after m = scene_after_take sc from n m

  taken : (m : Message) → SurvivorInvariant (after m)
  taken m = let first = quiet_survivors sc (one_record (Some n) (note.Deliver from m)) refl i.survivors in
      record { noted = first.noted; owners = first.owners; fit = first.fit }

  ready : (m : Message) → IsReady (after m) n s
  ready m = ready_after sc n s from sound r i.maps m

  begun : (m : Message) → SurvivorsInAct (after m) n s
  begun m = ready_survivors (after m) n s (ready m) (taken m)

  plain : (m : Message) → LeavesMaps s (after_message s from m) →
      SurvivorsInAct (after m) n (after_closing_rules (after_message s from m))
  plain m l = leaves_survivors (after m) n s (after_closing_rules (after_message s from m))
      (andthen s (after_message s from m) (after_closing_rules (after_message s from m)) l
      (closed_leaves (after_message s from m))) (begun m)

  full_taken : (m : PartMap) → sc.link from n ≡ msg.Full m ∷ drop 1 (sc.link from n) →
      SurvivorsInAct (after (msg.Full m)) n (after_closing_rules (after_full s from m))
  full_taken m first =
      let next = after (msg.Full m) in
      let told : MessageTells (topology_scene next) from n (msg.Full m) =
      tells_then sc n s from (msg.Full m) sound r first i.maps.topology in
      let tells : MessageTells (topology_in_act (topology_scene next) n s) from n (msg.Full m) =
      subst (λ (c : TopologyScene). MessageTells c from n (msg.Full m)) (sym (begins next n s (ready (msg.Full m)))) told in
      let sender : is_lost (scene_in_act next n s).recs from ≡ false =
      ap (λ (rs : List Noted). is_lost rs from) (none_noted sc n s from sound r i.maps (msg.Full m))
      ∙ taken_lives (msg.Full m) first in
      leaves_survivors next n (after_full s from m) (after_closing_rules (after_full s from m))
      (closed_leaves (after_full s from m))
      (full_row_survivors next n s (begun (msg.Full m)) from m tells.1
      (has_up next n s (begun (msg.Full m)) from m.top sender tells.3))
    where
      taken_lives : (x : Message) → sc.link from n ≡ x ∷ drop 1 (sc.link from n) → is_lost (after x).recs from ≡ false
      taken_lives x there = lost_same sc.recs (one_record (Some n) (note.Deliver from x)) from (λ y. refl)
          ∙ sender_lives sc n s from sound r i.maps x there (is_lost sc.recs from) refl

  single_taken : (top : TopVer) (o : Option PartMap) (complete : List ℕ) → sc.link from n ≡ msg.Single top o complete
      ∷ drop 1 (sc.link from n) → SurvivorsInAct (after (msg.Single top o complete)) n
      (after_closing_rules (after_message s from (msg.Single top o complete)))
  single_taken top o complete first =
      let m : Message = msg.Single top o complete in
      let x : NodeState = record s {
        singles = s.singles ++ record { from = from; top = top; map = o; complete = complete }
            ∷ [];
      } in
      let next = after m in
      let base = taken_inv sc n s from m sound r first i.maps.topology in
      let told = tells_then sc n s from m sound r first i.maps.topology in
      let good : HoldsInTopologyAct (topology_scene next) n s = started next n s (ready m) base in
      let back = sym (begins next n s (ready m)) in
      let good_x : HoldsInTopologyAct (topology_scene next) n x =
      single_kept_good (topology_scene next) n s from top o complete
      (subst (λ (c : TopologyScene). MessageTells c from n m) back told) good in
      let first_maps : MapsHoldInAct next n x =
      single_maps sc n s from top o complete r (sender_lives sc n s from sound r i.maps m first
      (is_lost sc.recs from) refl) i.maps.maps in
      let first_survivors : SurvivorsInAct next n x = let b = begun m in record {
        noted = b.noted;
        owners = b.owners;
        fit =
            b.fit;
      } in
      leaves_survivors next n (after_compute_if_all x) (after_closing_rules (after_compute_if_all x))
      (closed_leaves (after_compute_if_all x))
      (computes_if_all_survivors next n x good_x (alive_or_mapless sc n s from sound r i.maps m)
      (λ y. ap (λ (rs : List Rec). is_lost (noted_by (Some n) rs) y) r.none_noted)
      (own_lives sc n s from sound r i.maps m) first_maps first_survivors)

  takes_survivors : (m : Message) → sc.link from n ≡ m ∷ drop 1 (sc.link from n) →
      SurvivorsInAct (after m) n (after_closing_rules (after_message s from m))
  takes_survivors (msg.Lock tx top key) first = plain (msg.Lock tx top key) (lock_row_kept LeavesMaps leaving s from tx top key)
  takes_survivors (msg.LockOk tx key found) first =
      plain (msg.LockOk tx key found) (lock_ok_row_kept LeavesMaps leaving s tx key found)
  takes_survivors (msg.Get tx key near) first = plain (msg.Get tx key near) (get_row_kept LeavesMaps leaving s from tx key near)
  takes_survivors (msg.GetOk tx key found) first =
      plain (msg.GetOk tx key found) (get_ok_row_kept LeavesMaps leaving s tx key found)
  takes_survivors (msg.Prepare tx top mode shares wanted writes) first = plain (msg.Prepare tx top mode shares wanted writes)
      (prepare_row_kept LeavesMaps leaving s from tx top mode shares wanted writes)
  takes_survivors (msg.Prepared tx) first = plain (msg.Prepared tx) (prepared_row_kept LeavesMaps leaving s from tx)
  takes_survivors (msg.PrepareFail tx why) first =
      plain (msg.PrepareFail tx why) (prepare_fail_row_kept LeavesMaps leaving s tx why)
  takes_survivors (msg.Finish tx commit) first =
      plain (msg.Finish tx commit) (finish_row_kept LeavesMaps leaving s from tx commit)
  takes_survivors (msg.Finished tx) first = plain (msg.Finished tx) (finished_leaves s from tx)
  takes_survivors (msg.Edges tx round asked) first =
      plain (msg.Edges tx round asked) (edges_row_kept LeavesMaps leaving s from tx round asked)
  takes_survivors (msg.EdgesOk tx round act waits) first =
      plain (msg.EdgesOk tx round act waits) (edges_ok_row_kept LeavesMaps leaving s from tx round act waits)
  takes_survivors (msg.BackupPrepare tx top shares primary writes) first =
      plain (msg.BackupPrepare tx top shares primary writes)
      (backup_prepare_row_kept LeavesMaps leaving s from tx top shares primary writes)
  takes_survivors (msg.BackupPrepared tx) first =
      plain (msg.BackupPrepared tx) (backup_prepared_row_kept LeavesMaps leaving s from tx)
  takes_survivors (msg.BackupFinish tx primary commit) first =
      plain (msg.BackupFinish tx primary commit) (backup_finish_row_kept LeavesMaps leaving s from tx primary commit)
  takes_survivors (msg.BackupFinished tx primary) first =
      plain (msg.BackupFinished tx primary) (backup_finished_leaves s from tx primary)
  takes_survivors (msg.NearUpdate tx key new ver) first =
      plain (msg.NearUpdate tx key new ver) (near_update_row_kept LeavesMaps leaving s from tx key new ver)
  takes_survivors (msg.NearDone tx key) first =
      plain (msg.NearDone tx key) (near_done_row_kept LeavesMaps leaving s from tx key)
  takes_survivors (msg.Demand top part after) first =
      plain (msg.Demand top part after) (demand_row_kept LeavesMaps leaving s from top part after)
  takes_survivors (msg.Supply top part entries last) first =
      plain (msg.Supply top part entries last) (supply_row_kept LeavesMaps leaving s from top part entries last)
  takes_survivors (msg.Complete top) first = plain (msg.Complete top) (complete_row_kept LeavesMaps leaving s from top)
  takes_survivors (msg.Orphans round list) first =
      plain (msg.Orphans round list) (orphans_row_kept LeavesMaps leaving s from round list)
  takes_survivors (msg.Single top o complete) first = single_taken top o complete first
  takes_survivors (msg.Full m) first = full_taken m first
  takes_survivors (msg.Installed top) first = plain (msg.Installed top) (installed_row_leaves s from top)
  takes_survivors (msg.Opens top) first = plain (msg.Opens top) (opens_row_leaves s top)

-- The other events.

closes : (s b : NodeState) → LeavesMaps s b → LeavesMaps s (after_closing_rules b)
closes s b l = andthen s b (after_closing_rules b) l (closed_leaves b)

sent_survivors : (sc : Scene) (n : NodeId) (out : Out) → SurvivorInvariant sc →
    SurvivorInvariant (record sc { recs = sc.recs ++ one_record (Some n) (note.Sent out.to out.msg) })
sent_survivors sc n out i = quiet_survivors sc (one_record (Some n) (note.Sent out.to out.msg)) refl i

moves_survivors : (sc : Scene) (n : NodeId) (s : NodeState) (out : Out) → IsReady sc n s → SurvivorInvariant sc →
    SurvivorsInAct (scene_after_send sc n out) n (record s { outbox = drop 1 s.outbox })
moves_survivors sc n s out r i =
    let first = sent_survivors sc n out i in
    let next = scene_after_send sc n out in
    acts_survivors next n s (record s { outbox = drop 1 s.outbox }) (record {
      alive = r.alive;
      me_is = r.me_is;
      none_noted =
          r.none_noted;
      state_is = r.state_is;
    }) (aside s (record s { outbox = drop 1 s.outbox }) refl refl refl refl)
    (record { noted = first.noted; owners = first.owners; fit = first.fit })

drops_survivors : (sc : Scene) (n : NodeId) (s : NodeState) (out : Out) → IsReady sc n s → SurvivorInvariant sc →
    SurvivorsInAct (scene_after_drop sc n out) n (record s { outbox = drop 1 s.outbox })
drops_survivors sc n s out r i =
    let first = sent_survivors sc n out i in
    let next = scene_after_drop sc n out in
    acts_survivors next n s (record s { outbox = drop 1 s.outbox }) (record {
      alive = r.alive;
      me_is = r.me_is;
      none_noted =
          r.none_noted;
      state_is = r.state_is;
    }) (aside s (record s { outbox = drop 1 s.outbox }) refl refl refl refl)
    (record { noted = first.noted; owners = first.owners; fit = first.fit })

answers_survivors : (sc : Scene) (n : NodeId) (s : NodeState) (session : ℕ) → IsReady sc n s → SurvivorInvariant sc →
    SurvivorsInAct (scene_with_directory sc (with_answer_given sc.directory)) n (after_answer s session)
answers_survivors sc n s session r i =
    acts_survivors (scene_with_directory sc (with_answer_given sc.directory)) n s (after_answer s session)
    (record { alive = r.alive; me_is = r.me_is; none_noted = r.none_noted; state_is = r.state_is })
    (answer_row_kept LeavesMaps leaving s session) (record { noted = i.noted; owners = i.owners; fit = i.fit })

switches_survivors : (sc : Scene) → SurvivorInvariant sc →
    SurvivorInvariant (scene_with_directory sc (with_event sc.directory topo.Minor))
switches_survivors sc i =
    let next = aside_survivors sc (topo.Minor ∷ []) [] refl i in
    subst (λ (rs : List Noted). SurvivorInvariant (record (scene_with_directory sc (with_event sc.directory topo.Minor)) {
      recs = rs;
    })) (append_none sc.recs) (record { noted = next.noted; owners = next.owners; fit = next.fit })

joins_survivors : (sc : Scene) (m : Member) (s : NodeState) → sc.state m.node ≡ state_at_rest s → SurvivorInvariant sc →
    SurvivorsInAct (scene_after_join sc m) m.node (joiner_end sc m s)
joins_survivors sc m s is i =
    let start : NodeState = joiner_start sc s in
    let next = scene_after_join sc m in
    let grown = aside_survivors sc (topo.Join m ∷ []) (plan_records sc None) refl i in
    let here : SurvivorInvariant next = record { noted = grown.noted; owners = grown.owners; fit = grown.fit } in
    let same = learned_leaves sc.directory.events s in
    leaves_survivors next m.node start (joiner_end sc m s) (see_leaves start start.read (topo.Join m))
    (begins_survivors next m.node start refl (same.1 ∙ sym (ap (λ (x : NodeState). x.installed) is)) here)

starts_survivors : (sc : Scene) (e : TopoEvent) → SurvivorInvariant sc →
    SurvivorInvariant (scene_after_step sc (with_event sc.directory e) None)
starts_survivors sc e i = let next = aside_survivors sc (e ∷ []) (plan_records sc None) refl i in
    record { noted = next.noted; owners = next.owners; fit = next.fit }

pub survivors_kept : EachEventKeeps MapsAndSurvivors
survivors_kept = record {
  answers = λ sc n s session sound r may i. record {
    maps = maps_kept.answers sc n s session sound r may i.maps;
    survivors =
        answers_survivors sc n s session r i.survivors;
  };
  calls = λ sc n s session sound r may i. record {
    maps = maps_kept.calls sc n s session sound r may i.maps;
    survivors =
        acts_survivors sc n s (after_closing_rules (after_call s session)) r
        (closes s (after_call s session) (call_row_kept LeavesMaps leaving s session)) i.survivors;
  };
  takes = λ sc n s from m sound r first i. record {
    maps = maps_kept.takes sc n s from m sound r first i.maps;
    survivors =
        takes_survivors sc n s from sound r i m first;
  };
  expires = λ sc n s tx sound r own may i. record {
    maps = maps_kept.expires sc n s tx sound r own may i.maps;
    survivors =
        acts_survivors sc n s (after_closing_rules (after_expire s tx)) r
        (closes s (after_expire s tx) (expire_row_kept LeavesMaps leaving s tx)) i.survivors;
  };
  sees = λ sc n s e sound r there i. record {
    maps = maps_kept.sees sc n s e sound r there i.maps;
    survivors =
        acts_survivors sc n s (after_closing_rules (after_see s s.read e)) r (see_leaves s s.read e) i.survivors;
  };
  switches = λ sc n s sound r may same i. record {
    maps = maps_kept.switches sc n s sound r may same i.maps;
    survivors =
        switches_survivors sc i.survivors;
  };
  moves = λ sc n s out sound r first i. record {
    maps = maps_kept.moves sc n s out sound r first i.maps;
    survivors =
        moves_survivors sc n s out r i.survivors;
  };
  drops = λ sc n s out sound r first away i. record {
    maps = maps_kept.drops sc n s out sound r first away i.maps;
    survivors =
        drops_survivors sc n s out r i.survivors;
  };
  joins = λ sc m s sound absent new is i. record {
    maps = maps_kept.joins sc m s sound absent new is i.maps;
    survivors =
        joins_survivors sc m s is i.survivors;
  };
  loses = λ sc n sound may i. record {
    maps = maps_kept.loses sc n sound may i.maps;
    survivors =
        loses_survivors sc n sound may i;
  };
  plans = λ sc refused sound i. record {
    maps = maps_kept.plans sc refused sound i.maps;
    survivors = let next =
        quiet_survivors sc (plan_records sc refused) refl i.survivors in record {
          noted = next.noted;
          owners = next.owners;
          fit = next.fit;
        };
  };
  starts = λ sc e sound is i. record {
    maps = maps_kept.starts sc e sound is i.maps;
    survivors =
        starts_survivors sc e i.survivors;
  };
  ticks = λ sc to sound i. record {
    maps = maps_kept.ticks sc to sound i.maps;
    survivors = let next =
        quiet_survivors sc (one_record None (note.Tick to)) refl i.survivors in
        record { noted = next.noted; owners = next.owners; fit = next.fit };
  };
  breaks = λ sc n sound i. record {
    maps = maps_kept.breaks sc n sound i.maps;
    survivors = let next =
        quiet_survivors sc (one_record (Some n) note.Memory) refl i.survivors in
        record { noted = next.noted; owners = next.owners; fit = next.fit };
  };
}
