-- Every act of a node keeps the invariant.
use Rattle.std.proofs.Common.{◌≡◌, Some, false, ℕ, refl}
use Rattle.std.specs.Prelude.{slice_get}
use Rattle.frame_laws.proofs.Accesses.{get_ok_row_kept, lock_ok_row_kept, near_backup_finished_kept, near_finished_kept, near_update_row_kept, prepare_fail_row_kept, prepared_row_kept}
use Rattle.frame_laws.proofs.Backups.{backup_finish_row_kept, backup_prepare_row_kept}
use Rattle.frame_laws.proofs.Commands.{answer_row_kept, call_row_kept}
use Rattle.frame_laws.proofs.Decisions.{near_side_left_kept}
use Rattle.frame_laws.proofs.Filling.{complete_row_kept, demand_row_kept, supply_row_kept}
use Rattle.frame_laws.proofs.Locks.{edges_row_kept, get_row_kept, lock_row_kept}
use Rattle.frame_laws.proofs.Primary.{backup_prepared_row_kept, finish_row_kept, near_done_row_kept, own_backup_finished_kept, prepare_row_kept, primary_left_kept}
use Rattle.frame_laws.proofs.Recovery.{begins_round_kept, orphans_row_kept, recovery_backup_finished_kept, recovery_finished_kept}
use Rattle.frame_laws.proofs.Searches.{edges_ok_row_kept, expire_row_kept, search_left_kept}
use Rattle.act_rows.specs.Accesses.{after_backup_finished_at_starter, after_finished_at_starter}
use Rattle.act_rows.specs.Acts.{after_backup_finished, after_event_effects, after_finished, after_message, after_see}
use Rattle.act_rows.specs.Closing.{after_closing_rules}
use Rattle.act_rows.specs.Commands.{after_answer, after_call}
use Rattle.act_rows.specs.Decisions.{after_left_at_starter}
use Rattle.act_rows.specs.Exchange.{after_learn}
use Rattle.act_rows.specs.Primary.{after_backup_finished_at_primary, after_left_at_primary}
use Rattle.act_rows.specs.Recovery.{after_begin_round}
use Rattle.act_rows.specs.Searches.{after_expire}
use Rattle.act_rows.specs.Steps.{with_note}
use Rattle.ignite_types.specs.declared.journal.TopoEvent.{TopoEvent}
use Rattle.ignite_types.specs.declared.message.Message.{Message}
use Rattle.ignite_types.specs.declared.names.NodeId.{NodeId}
use Rattle.ignite_types.specs.declared.names.TxId.{TxId}
use Rattle.journal_statements.specs.Noted.{is_lost}
use Rattle.node_state.specs.Node.{NodeState}
use Rattle.topology_laws.specs.TopologyFacts.{IsLastOpening, MessageTells}
use Rattle.topology_laws.specs.TopologyInvariant.{HoldsInTopologyAct}
use Rattle.topology_laws.specs.LeavesTopology.{LeavesTopology}
use Rattle.topology_laws.specs.TopologyScenes.{TopologyScene, topology_in_act}
use Rattle.topology_laws.proofs.Quiet.{andthen, nothing, noting_quiet, quiet_good, quieting}
use Rattle.topology_laws.proofs.Rows.{closed_good, full_row_good, installed_row_good, opens_row_good, single_row_good}
use Rattle.topology_laws.proofs.Steps.{learns_good}
use Rattle.ignite_types.specs.declared.journal.Rec.TheVariants as note
use Rattle.ignite_types.specs.declared.journal.TopoEvent.TheVariants as topo
use Rattle.ignite_types.specs.declared.message.Message.TheVariants as msg

finished_quiet : (s : NodeState) (from : NodeId) (tx : TxId) → LeavesTopology s (after_finished s from tx)
finished_quiet s from tx = andthen s (after_finished_at_starter s from tx) (after_finished s from tx)
    (near_finished_kept LeavesTopology quieting s from tx) (recovery_finished_kept LeavesTopology quieting
    (after_finished_at_starter s from tx) from tx)

backup_finished_quiet : (s : NodeState) (from : NodeId) (tx : TxId) (primary : NodeId) →
    LeavesTopology s (after_backup_finished s from tx primary)
backup_finished_quiet s from tx primary =
    let own = after_backup_finished_at_primary s from tx primary in
    let near = after_backup_finished_at_starter own from tx primary in
    andthen s own (after_backup_finished s from tx primary) (own_backup_finished_kept LeavesTopology quieting s from tx primary)
    (andthen own near (after_backup_finished s from tx primary)
    (near_backup_finished_kept LeavesTopology quieting own from tx primary)
    (recovery_backup_finished_kept LeavesTopology quieting near from tx primary))

module _ (sc : TopologyScene) (n : NodeId) (s : NodeState) (good : HoldsInTopologyAct sc n s) where
  quietly : (b : NodeState) → LeavesTopology s b → HoldsInTopologyAct sc n b
  quietly b q = quiet_good sc n s b q good

  pub message_row_good : (from : NodeId) (m : Message) → is_lost (topology_in_act sc n s).recs from ≡ false →
      IsLastOpening (topology_in_act sc n s) n m → MessageTells (topology_in_act sc n s) from n m →
      HoldsInTopologyAct sc n (after_message s from m)
  message_row_good from (msg.Lock tx top key) lives sole t = quietly _ (lock_row_kept LeavesTopology quieting s from tx top key)
  message_row_good from (msg.LockOk tx key found) lives sole t =
      quietly _ (lock_ok_row_kept LeavesTopology quieting s tx key found)
  message_row_good from (msg.Get tx key near) lives sole t = quietly _ (get_row_kept LeavesTopology quieting s from tx key near)
  message_row_good from (msg.GetOk tx key found) lives sole t =
      quietly _ (get_ok_row_kept LeavesTopology quieting s tx key found)
  message_row_good from (msg.Prepare tx top mode shares wanted writes) lives sole t =
      quietly _ (prepare_row_kept LeavesTopology quieting s from tx top mode shares wanted writes)
  message_row_good from (msg.Prepared tx) lives sole t = quietly _ (prepared_row_kept LeavesTopology quieting s from tx)
  message_row_good from (msg.PrepareFail tx why) lives sole t =
      quietly _ (prepare_fail_row_kept LeavesTopology quieting s tx why)
  message_row_good from (msg.Finish tx commit) lives sole t =
      quietly _ (finish_row_kept LeavesTopology quieting s from tx commit)
  message_row_good from (msg.Finished tx) lives sole t = quietly _ (finished_quiet s from tx)
  message_row_good from (msg.Edges tx round asked) lives sole t =
      quietly _ (edges_row_kept LeavesTopology quieting s from tx round asked)
  message_row_good from (msg.EdgesOk tx round act waits) lives sole t =
      quietly _ (edges_ok_row_kept LeavesTopology quieting s from tx round act waits)
  message_row_good from (msg.BackupPrepare tx top shares primary writes) lives sole t =
      quietly _ (backup_prepare_row_kept LeavesTopology quieting s from tx top shares primary writes)
  message_row_good from (msg.BackupPrepared tx) lives sole t =
      quietly _ (backup_prepared_row_kept LeavesTopology quieting s from tx)
  message_row_good from (msg.BackupFinish tx primary commit) lives sole t =
      quietly _ (backup_finish_row_kept LeavesTopology quieting s from tx primary commit)
  message_row_good from (msg.BackupFinished tx primary) lives sole t = quietly _ (backup_finished_quiet s from tx primary)
  message_row_good from (msg.NearUpdate tx key new ver) lives sole t =
      quietly _ (near_update_row_kept LeavesTopology quieting s from tx key new ver)
  message_row_good from (msg.NearDone tx key) lives sole t =
      quietly _ (near_done_row_kept LeavesTopology quieting s from tx key)
  message_row_good from (msg.Single top m complete) lives sole t = single_row_good sc n s from top m complete t good
  message_row_good from (msg.Full m) lives sole t = full_row_good sc n s from m lives t good
  message_row_good from (msg.Installed top) lives sole t = installed_row_good sc n s from top t good
  message_row_good from (msg.Opens top) lives sole t = opens_row_good sc n s top t.0 t.2 sole good
  message_row_good from (msg.Demand top part after) lives sole t =
      quietly _ (demand_row_kept LeavesTopology quieting s from top part after)
  message_row_good from (msg.Supply top part entries last) lives sole t =
      quietly _ (supply_row_kept LeavesTopology quieting s from top part entries last)
  message_row_good from (msg.Complete top) lives sole t = quietly _ (complete_row_kept LeavesTopology quieting s from top)
  message_row_good from (msg.Orphans round list) lives sole t =
      quietly _ (orphans_row_kept LeavesTopology quieting s from round list)

  brings_quiet : (place : ℕ) (event : TopoEvent) → LeavesTopology s (after_event_effects s place event)
  brings_quiet place (topo.Left gone) =
      let near = after_left_at_starter s gone in
      let primary = after_left_at_primary near gone in
      let round = after_begin_round primary place in
      andthen s near (after_event_effects s place (topo.Left gone)) (near_side_left_kept LeavesTopology quieting s gone)
      (andthen near primary (after_event_effects s place (topo.Left gone)) (primary_left_kept LeavesTopology quieting near gone)
      (andthen primary round (after_event_effects s place (topo.Left gone))
      (begins_round_kept LeavesTopology quieting primary place) (search_left_kept LeavesTopology quieting round gone)))
  brings_quiet place (topo.Join member) = nothing s
  brings_quiet place topo.Minor = nothing s
  brings_quiet place (topo.Start cache) = nothing s
  brings_quiet place (topo.Stop cache) = nothing s

  pub brings_good : (place : ℕ) (event : TopoEvent) → HoldsInTopologyAct sc n (after_event_effects s place event)
  brings_good place event = quietly _ (brings_quiet place event)

  pub expire_good : (tx : TxId) → HoldsInTopologyAct sc n (after_closing_rules (after_expire s tx))
  expire_good tx = closed_good sc n (after_expire s tx) (quietly _ (expire_row_kept LeavesTopology quieting s tx))

  pub call_good : (session : ℕ) → HoldsInTopologyAct sc n (after_closing_rules (after_call s session))
  call_good session = closed_good sc n (after_call s session) (quietly _ (call_row_kept LeavesTopology quieting s session))

  pub answer_good : (session : ℕ) → HoldsInTopologyAct sc n (after_answer s session)
  answer_good session = quietly _ (answer_row_kept LeavesTopology quieting s session)

  pub message_good : (from : NodeId) (m : Message) → is_lost (topology_in_act sc n s).recs from ≡ false →
      IsLastOpening (topology_in_act sc n s) n m → MessageTells (topology_in_act sc n s) from n m →
      HoldsInTopologyAct sc n (after_closing_rules (after_message s from m))
  message_good from m lives sole tells = closed_good sc n (after_message s from m) (message_row_good from m lives sole tells)

pub see_good : (sc : TopologyScene) (n : NodeId) (s : NodeState) (event : TopoEvent) →
    slice_get sc.events s.read ≡ Some event → HoldsInTopologyAct sc n s →
    HoldsInTopologyAct sc n (after_closing_rules (after_see s s.read event))
see_good sc n s event is good =
    let known = after_learn s event in
    let seen = with_note known (note.See s.read) in
    closed_good sc n (after_event_effects seen s.read event)
    (brings_good sc n seen (quiet_good sc n known seen (noting_quiet known (note.See s.read) refl)
    (learns_good sc n s event is good)) s.read event)
