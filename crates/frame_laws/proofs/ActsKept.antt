-- Every act keeps what each row keeps.
use Rattle.std.proofs.Common.{Bool, ◌≡◌, refl, ℕ}
use Rattle.frame_laws.specs.Kits.{ClosedUnderAllSteps, ClosedUnderAllWatchedSteps, ClosedUnderWatchedSteps}
use Rattle.frame_laws.proofs.Accesses.{get_ok_row_kept, lock_ok_row_kept, near_backup_finished_kept, near_finished_kept, near_update_row_kept, prepare_fail_row_kept, prepared_row_kept}
use Rattle.frame_laws.proofs.Backups.{backup_finish_row_kept, backup_prepare_row_kept}
use Rattle.frame_laws.proofs.Closing.{closed_kept}
use Rattle.frame_laws.proofs.Commands.{answer_row_kept, call_row_kept}
use Rattle.frame_laws.proofs.Decisions.{near_side_left_kept}
use Rattle.frame_laws.proofs.Exchange.{full_row_kept, installed_row_kept, learns_kept, opens_row_kept, single_row_kept}
use Rattle.frame_laws.proofs.Filling.{complete_row_kept, demand_row_kept, supply_row_kept}
use Rattle.frame_laws.proofs.Locks.{edges_row_kept, get_row_kept, lock_row_kept}
use Rattle.frame_laws.proofs.Primary.{backup_prepared_row_kept, finish_row_kept, near_done_row_kept, own_backup_finished_kept, prepare_row_kept, primary_left_kept}
use Rattle.frame_laws.proofs.Recovery.{begins_round_kept, orphans_row_kept, recovery_backup_finished_kept, recovery_finished_kept}
use Rattle.frame_laws.proofs.Searches.{edges_ok_row_kept, expire_row_kept, search_left_kept}
use Rattle.act_rows.specs.Acts.{after_backup_finished, after_event_effects, after_finished, after_message, with_act_begun}
use Rattle.act_rows.specs.Accesses.{after_backup_finished_at_starter, after_finished_at_starter}
use Rattle.act_rows.specs.Closing.{after_closing_rules}
use Rattle.act_rows.specs.Commands.{after_answer, after_call}
use Rattle.act_rows.specs.Decisions.{after_left_at_starter}
use Rattle.act_rows.specs.Exchange.{after_learn}
use Rattle.act_rows.specs.Filling.{after_complete}
use Rattle.act_rows.specs.Primary.{after_backup_finished_at_primary, after_left_at_primary}
use Rattle.act_rows.specs.Recovery.{after_begin_round}
use Rattle.act_rows.specs.Searches.{after_expire}
use Rattle.ignite_types.specs.declared.journal.TopoEvent.{TopoEvent}
use Rattle.ignite_types.specs.declared.message.Message.{Message}
use Rattle.ignite_types.specs.declared.names.NodeId.{NodeId}
use Rattle.ignite_types.specs.declared.names.TopVer.{TopVer}
use Rattle.ignite_types.specs.declared.names.TxId.{TxId}
use Rattle.node_state.specs.Node.{NodeState}
use Rattle.ignite_types.specs.declared.journal.TopoEvent.TheVariants as topo
use Rattle.ignite_types.specs.declared.message.Message.TheVariants as msg

module _ {watched : Bool} (R : NodeState → NodeState → Type 0) (all : ClosedUnderAllWatchedSteps watched R) where
  abbrev kit : ClosedUnderWatchedSteps watched R
  kit = all.plain

  finished_row_kept : (s : NodeState) (from : NodeId) (tx : TxId) → R s (after_finished s from tx)
  finished_row_kept s from tx = kit.andthen s (after_finished_at_starter s from tx) (after_finished s from tx)
      (near_finished_kept R kit s from tx) (recovery_finished_kept R kit (after_finished_at_starter s from tx) from tx)

  backup_finished_row_kept : (s : NodeState) (from : NodeId) (tx : TxId) (primary : NodeId) →
      R s (after_backup_finished s from tx primary)
  backup_finished_row_kept s from tx primary =
      let own = after_backup_finished_at_primary s from tx primary in
      let near = after_backup_finished_at_starter own from tx primary in
      kit.andthen s own (after_backup_finished s from tx primary) (own_backup_finished_kept R kit s from tx primary)
      (kit.andthen own near (after_backup_finished s from tx primary) (near_backup_finished_kept R kit own from tx primary)
      (recovery_backup_finished_kept R kit near from tx primary))

  -- claims may be watched: the row of Complete is for the caller to show
  pub message_row_kept : (s : NodeState) (from : NodeId) (m : Message) →
      ((top : TopVer) → m ≡ msg.Complete top → R s (after_complete s from top)) → R s (after_message s from m)
  message_row_kept s from (msg.Lock tx top key) complete = lock_row_kept R kit s from tx top key
  message_row_kept s from (msg.LockOk tx key found) complete = lock_ok_row_kept R kit s tx key found
  message_row_kept s from (msg.Get tx key near) complete = get_row_kept R kit s from tx key near
  message_row_kept s from (msg.GetOk tx key found) complete = get_ok_row_kept R kit s tx key found
  message_row_kept s from (msg.Prepare tx top mode shares wanted writes) complete =
      prepare_row_kept R kit s from tx top mode shares wanted writes
  message_row_kept s from (msg.Prepared tx) complete = prepared_row_kept R kit s from tx
  message_row_kept s from (msg.PrepareFail tx why) complete = prepare_fail_row_kept R kit s tx why
  message_row_kept s from (msg.Finish tx commit) complete = finish_row_kept R kit s from tx commit
  message_row_kept s from (msg.Finished tx) complete = finished_row_kept s from tx
  message_row_kept s from (msg.Edges tx round asked) complete = edges_row_kept R kit s from tx round asked
  message_row_kept s from (msg.EdgesOk tx round act waits) complete = edges_ok_row_kept R kit s from tx round act waits
  message_row_kept s from (msg.BackupPrepare tx top shares primary writes) complete =
      backup_prepare_row_kept R kit s from tx top shares primary writes
  message_row_kept s from (msg.BackupPrepared tx) complete = backup_prepared_row_kept R kit s from tx
  message_row_kept s from (msg.BackupFinish tx primary commit) complete = backup_finish_row_kept R kit s from tx primary commit
  message_row_kept s from (msg.BackupFinished tx primary) complete = backup_finished_row_kept s from tx primary
  message_row_kept s from (msg.NearUpdate tx key new ver) complete = near_update_row_kept R kit s from tx key new ver
  message_row_kept s from (msg.NearDone tx key) complete = near_done_row_kept R kit s from tx key
  message_row_kept s from (msg.Single top m parts) complete = single_row_kept R all s from top m parts
  message_row_kept s from (msg.Full m) complete = full_row_kept R all s from m
  message_row_kept s from (msg.Installed top) complete = installed_row_kept R all s from top
  message_row_kept s from (msg.Opens top) complete = opens_row_kept R all s top
  message_row_kept s from (msg.Demand top part after) complete = demand_row_kept R kit s from top part after
  message_row_kept s from (msg.Supply top part entries last) complete = supply_row_kept R kit s from top part entries last
  message_row_kept s from (msg.Complete top) complete = complete top refl
  message_row_kept s from (msg.Orphans round list) complete = orphans_row_kept R kit s from round list

  pub brings_kept : (s : NodeState) (place : ℕ) (event : TopoEvent) → R s (after_event_effects s place event)
  brings_kept s place (topo.Left gone) =
      let near = after_left_at_starter s gone in
      let primary = after_left_at_primary near gone in
      let round = after_begin_round primary place in
      kit.andthen s near (after_event_effects s place (topo.Left gone)) (near_side_left_kept R kit s gone)
      (kit.andthen near primary (after_event_effects s place (topo.Left gone)) (primary_left_kept R kit near gone)
      (kit.andthen primary round (after_event_effects s place (topo.Left gone)) (begins_round_kept R kit primary place)
      (search_left_kept R kit round gone)))
  brings_kept s place (topo.Join member) = kit.nothing s
  brings_kept s place topo.Minor = kit.nothing s
  brings_kept s place (topo.Start cache) = kit.nothing s
  brings_kept s place (topo.Stop cache) = kit.nothing s

  pub then_closed_kept : (a b : NodeState) → R a b → R a (after_closing_rules b)
  then_closed_kept a b first = kit.andthen a b (after_closing_rules b) first (closed_kept R all b)

  -- what an act brings once it has begun; seeing a topology event is two parts, with its record between them
  pub learning_kept : (s : NodeState) (event : TopoEvent) → R (with_act_begun s) (after_learn (with_act_begun s) event)
  learning_kept s event = learns_kept R all (with_act_begun s) event

  pub seen_kept : (s : NodeState) (place : ℕ) (event : TopoEvent) →
      R s (after_closing_rules (after_event_effects s place event))
  seen_kept s place event = then_closed_kept s (after_event_effects s place event) (brings_kept s place event)

  pub expiry_kept : (s : NodeState) (tx : TxId) →
      R (with_act_begun s) (after_closing_rules (after_expire (with_act_begun s) tx))
  expiry_kept s tx = then_closed_kept (with_act_begun s) (after_expire (with_act_begun s) tx)
      (expire_row_kept R kit (with_act_begun s) tx)

  pub call_kept : (s : NodeState) (session : ℕ) →
      R (with_act_begun s) (after_closing_rules (after_call (with_act_begun s) session))
  call_kept s session = then_closed_kept (with_act_begun s) (after_call (with_act_begun s) session)
      (call_row_kept R kit (with_act_begun s) session)

  pub answer_kept : (s : NodeState) (session : ℕ) → R (with_act_begun s) (after_answer (with_act_begun s) session)
  answer_kept s session = answer_row_kept R kit (with_act_begun s) session

module _ (R : NodeState → NodeState → Type 0) (all : ClosedUnderAllSteps R) where
  pub row_kept : (s : NodeState) (from : NodeId) (m : Message) → R s (after_message s from m)
  row_kept s from m = message_row_kept R all s from m (λ top is. complete_row_kept R all.plain s from top)

  pub message_kept : (s : NodeState) (from : NodeId) (m : Message) →
      R (with_act_begun s) (after_closing_rules (after_message (with_act_begun s) from m))
  message_kept s from m = then_closed_kept R all (with_act_begun s) (after_message (with_act_begun s) from m)
      (row_kept (with_act_begun s) from m)
