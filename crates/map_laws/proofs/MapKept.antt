-- The invariants of topology and of maps hold at the opening, and each event keeps them.
use Rattle.std.proofs.Common.{◌++◌, List, [], ◌∷◌, Some, None, Bool, ℕ, refl, sym, subst}
use Rattle.act_rows.specs.NewNodes.{opening_map_of, opening_node}
use Rattle.frame_laws.proofs.Commands.{answer_row_kept, call_row_kept}
use Rattle.frame_laws.proofs.Extending.{append_none}
use Rattle.frame_laws.proofs.Searches.{expire_row_kept}
use Rattle.act_rows.specs.Acts.{after_see}
use Rattle.act_rows.specs.Closing.{after_closing_rules}
use Rattle.act_rows.specs.Commands.{after_answer, after_call}
use Rattle.act_rows.specs.Searches.{after_expire}
use Rattle.part_model.specs.Directory.{first_top, with_answer_given, with_event}
use Rattle.ignite_types.specs.declared.journal.TopoEvent.{TopoEvent}
use Rattle.ignite_types.specs.declared.message.Out.{Out}
use Rattle.ignite_types.specs.declared.names.NodeId.{NodeId}
use Rattle.ignite_types.specs.declared.scenario.Scenario.{Scenario}
use Rattle.journal_statements.specs.Noted.{Noted}
use Rattle.map_laws.proofs.LeavesMaps.{andthen, aside, closed_leaves, leaving}
use Rattle.map_laws.proofs.MapEvents.{acts_maps, calm_maps, joins_maps, see_leaves, silent_maps, takes_maps}
use Rattle.map_laws.proofs.MapLosses.{loses_maps}
use Rattle.map_laws.specs.LeavesMaps.{LeavesMaps}
use Rattle.map_laws.specs.MapInvariant.{MapInvariant, MapsHoldInAct, TopologyAndMaps}
use Rattle.node_state.specs.Node.{NodeState}
use Rattle.scenes.specs.Events.{EachEventKeeps, IsReady}
use Rattle.scenes.specs.Scenes.{Scene, one_record, opening_scene, plan_records, scene_after_drop, scene_after_send, scene_after_step, scene_with_directory}
use Rattle.std.specs.Prelude.{drop}
use Rattle.topology_laws.proofs.KeptAll.{opening_kept, topologies_kept}
use Rattle.topology_laws.proofs.Tops.{up_itself}
use Rattle.topology_laws.specs.TopologyFacts.{HasAtLeast}
use Rattle.ignite_types.specs.declared.journal.Rec.TheVariants as note
use Rattle.ignite_types.specs.declared.journal.TopoEvent.TheVariants as topo

closes : (s b : NodeState) → LeavesMaps s b → LeavesMaps s (after_closing_rules b)
closes s b l = andthen s b (after_closing_rules b) l (closed_leaves b)

-- a message leaves the outbox
sends_maps : (sc next : Scene) (n : NodeId) (s : NodeState) (out : Out) → IsReady next n s → MapInvariant next →
    MapsHoldInAct next n (record s { outbox = drop 1 s.outbox })
sends_maps sc next n s out r i = acts_maps next n s (record s { outbox = drop 1 s.outbox }) r
    (aside s (record s { outbox = drop 1 s.outbox }) refl refl refl refl) i

sent_maps : (sc : Scene) (n : NodeId) (out : Out) → MapInvariant sc →
    MapInvariant (record sc { recs = sc.recs ++ one_record (Some n) (note.Sent out.to out.msg) })
sent_maps sc n out i = silent_maps sc (one_record (Some n) (note.Sent out.to out.msg)) refl i

switch_silent : (sc : Scene) (e : TopoEvent) → MapInvariant sc →
    MapInvariant (scene_after_step sc (with_event sc.directory e) None)
switch_silent sc e i = let calm = calm_maps sc (e ∷ []) (plan_records sc None) refl i in
    record { nodes = calm.nodes; maps = calm.maps }

moves_maps : (sc : Scene) (n : NodeId) (s : NodeState) (out : Out) → IsReady sc n s → MapInvariant sc →
    MapsHoldInAct (scene_after_send sc n out) n (record s { outbox = drop 1 s.outbox })
moves_maps sc n s out r i =
    let first = sent_maps sc n out i in
    sends_maps sc (scene_after_send sc n out) n s out (record {
      alive = r.alive;
      me_is = r.me_is;
      none_noted = r.none_noted;
      state_is = r.state_is;
    }) (record { nodes = first.nodes; maps = first.maps })

drops_maps : (sc : Scene) (n : NodeId) (s : NodeState) (out : Out) → IsReady sc n s → MapInvariant sc →
    MapsHoldInAct (scene_after_drop sc n out) n (record s { outbox = drop 1 s.outbox })
drops_maps sc n s out r i =
    let first = sent_maps sc n out i in
    sends_maps sc (scene_after_drop sc n out) n s out (record {
      alive = r.alive;
      me_is = r.me_is;
      none_noted = r.none_noted;
      state_is = r.state_is;
    }) (record { nodes = first.nodes; maps = first.maps })

answers_maps : (sc : Scene) (n : NodeId) (s : NodeState) (session : ℕ) → IsReady sc n s → MapInvariant sc →
    MapsHoldInAct (scene_with_directory sc (with_answer_given sc.directory)) n (after_answer s session)
answers_maps sc n s session r i =
    acts_maps (scene_with_directory sc (with_answer_given sc.directory)) n s (after_answer s session)
    (record { alive = r.alive; me_is = r.me_is; none_noted = r.none_noted; state_is = r.state_is })
    (answer_row_kept LeavesMaps leaving s session) (record { nodes = i.nodes; maps = i.maps })

minor_maps : (sc : Scene) → MapInvariant sc → MapInvariant (scene_with_directory sc (with_event sc.directory topo.Minor))
minor_maps sc i =
    let calm = calm_maps sc (topo.Minor ∷ []) [] refl i in
    subst (λ (rs : List Noted). MapInvariant (record (scene_with_directory sc (with_event sc.directory topo.Minor)) {
      recs =
          rs;
    })) (append_none sc.recs) (record { nodes = calm.nodes; maps = calm.maps })

pub maps_kept : EachEventKeeps TopologyAndMaps
maps_kept = record {
  answers = λ sc n s session sound r may i. record {
    topology = topologies_kept.answers sc n s session sound r may i.topology;
    maps = answers_maps sc n s session r i.maps;
  };
  calls = λ sc n s session sound r may i. record {
    topology = topologies_kept.calls sc n s session sound r may i.topology;
    maps = acts_maps sc n s (after_closing_rules (after_call s session)) r
        (closes s (after_call s session) (call_row_kept LeavesMaps leaving s session)) i.maps;
  };
  takes = λ sc n s from m sound r first i. record {
    topology = topologies_kept.takes sc n s from m sound r first i.topology;
    maps = takes_maps sc n s from sound r i m first;
  };
  expires = λ sc n s tx sound r own may i. record {
    topology = topologies_kept.expires sc n s tx sound r own may i.topology;
    maps = acts_maps sc n s (after_closing_rules (after_expire s tx)) r
        (closes s (after_expire s tx) (expire_row_kept LeavesMaps leaving s tx)) i.maps;
  };
  sees = λ sc n s e sound r there i. record {
    topology = topologies_kept.sees sc n s e sound r there i.topology;
    maps =
        acts_maps sc n s (after_closing_rules (after_see s s.read e)) r (see_leaves s s.read e) i.maps;
  };
  switches = λ sc n s sound r may same i. record {
    topology = topologies_kept.switches sc n s sound r may same i.topology;
    maps = minor_maps sc i.maps;
  };
  moves = λ sc n s out sound r first i. record {
    topology = topologies_kept.moves sc n s out sound r first i.topology;
    maps =
        moves_maps sc n s out r i.maps;
  };
  drops = λ sc n s out sound r first away i.
      record {
        topology = topologies_kept.drops sc n s out sound r first away i.topology;
        maps =
            drops_maps sc n s out r i.maps;
      };
  joins = λ sc m s sound absent new is i. record {
    topology = topologies_kept.joins sc m s sound absent new is i.topology;
    maps = joins_maps sc m s is i.maps;
  };
  loses = λ sc n sound lives i. record {
    topology = topologies_kept.loses sc n sound lives i.topology;
    maps =
        loses_maps sc n sound i.maps;
  };
  plans = λ sc refused sound i. record {
    topology = topologies_kept.plans sc refused sound i.topology;
    maps = let first =
        silent_maps sc (plan_records sc refused) refl i.maps in record { nodes = first.nodes; maps = first.maps };
  };
  starts = λ sc e sound is i. record {
    topology = topologies_kept.starts sc e sound is i.topology;
    maps =
        switch_silent sc e i.maps;
  };
  ticks = λ sc to sound i. record {
    topology = topologies_kept.ticks sc to sound i.topology;
    maps = let first =
        silent_maps sc (one_record None (note.Tick to)) refl i.maps in record { nodes = first.nodes; maps = first.maps };
  };
  breaks = λ sc n sound i. record {
    topology = topologies_kept.breaks sc n sound i.topology;
    maps = let first =
        silent_maps sc (one_record (Some n) note.Memory) refl i.maps in record { nodes = first.nodes; maps = first.maps };
  };
}

-- at the opening no record stands, and each initial node has the opening map
pub opening_holds : (s : Scenario) → TopologyAndMaps (opening_scene s)
opening_holds s = record {
  topology = opening_kept s;
  maps = record {
    nodes = λ n lives. record {
      caches_are = refl;
      singles_are = λ v above. refl;
      has_last = tt;
      has_first = λ is. subst (λ (b : Bool). HasAtLeast first_top (opening_node s (opening_map_of s) n b).installed) (sym is)
          (up_itself (opening_map_of s).top);
    };
    maps = tt;
  };
}
