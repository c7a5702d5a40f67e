-- Each row keeps what the small steps keep.
use Rattle.std.proofs.Common.{◌≡◌, ℕ, Some, Bool, refl, ap}
use Rattle.act_rows.specs.Accesses.{after_backup_finished_at_starter, after_finished_at_starter}
use Rattle.act_rows.specs.Acts.{after_backup_finished, after_event_effects, after_finished, after_message, after_see}
use Rattle.act_rows.specs.Decisions.{after_left_at_starter}
use Rattle.act_rows.specs.Exchange.{after_learn}
use Rattle.act_rows.specs.Primary.{after_backup_finished_at_primary, after_left_at_primary}
use Rattle.act_rows.specs.Recovery.{after_begin_round}
use Rattle.act_rows.specs.Steps.{with_note}
use Rattle.commit_laws.proofs.HolderWalks.{backup_finish_row_kept, backup_prepare_row_kept, backup_prepared_row_kept, begins_round_kept, complete_row_kept, demand_row_kept, edges_row_kept, finish_row_kept, full_row_kept, get_row_kept, installed_row_kept, learns_kept, lock_row_kept, near_done_row_kept, opens_row_kept, orphans_row_kept, own_backup_finished_kept, prepare_row_kept, primary_left_kept, recovery_backup_finished_kept, recovery_finished_kept, single_row_kept, supply_row_kept}
use Rattle.commit_laws.proofs.LossWalks.{starter_left_kept}
use Rattle.commit_laws.proofs.StarterWalks.{edges_ok_row_kept, get_ok_row_kept, lock_ok_row_kept, near_backup_finished_kept, near_finished_kept, near_update_row_kept, prepare_fail_row_kept, prepared_row_kept, search_left_kept}
use Rattle.commit_laws.specs.CommitSteps.{CommitKit, EntriesCommitted, committed_by, committed_if}
use Rattle.ignite_types.specs.declared.journal.TopoEvent.{TopoEvent}
use Rattle.ignite_types.specs.declared.message.Message.{Message}
use Rattle.ignite_types.specs.declared.names.NodeId.{NodeId}
use Rattle.ignite_types.specs.declared.names.TxId.{TxId}
use Rattle.node_state.specs.Node.{NodeState}
use Rattle.ignite_types.specs.declared.journal.Rec.TheVariants as note
use Rattle.ignite_types.specs.declared.journal.TopoEvent.TheVariants as topo
use Rattle.ignite_types.specs.declared.message.Message.TheVariants as msg

module _ (Known : TxId → Type 0) (R : NodeState → NodeState → Type 0) (kit : CommitKit Known R) where
  finished_kept : (s : NodeState) (from : NodeId) (tx : TxId) → R s (after_finished s from tx)
  finished_kept s from tx =
      let near = after_finished_at_starter s from tx in
      kit.andthen s near (after_finished s from tx) (near_finished_kept Known R kit s from tx)
      (recovery_finished_kept Known R kit near from tx)

  backup_finished_kept : (s : NodeState) (from : NodeId) (tx : TxId) (primary : NodeId) →
      R s (after_backup_finished s from tx primary)
  backup_finished_kept s from tx primary =
      let own = after_backup_finished_at_primary s from tx primary in
      let near = after_backup_finished_at_starter own from tx primary in
      kit.andthen s own (after_backup_finished s from tx primary) (own_backup_finished_kept Known R kit s from tx primary)
      (kit.andthen own near (after_backup_finished s from tx primary)
      (near_backup_finished_kept Known R kit own from tx primary)
      (recovery_backup_finished_kept Known R kit near from tx primary))

  -- what the message ends as committed is known to be
  pub message_kept : (s : NodeState) (from : NodeId) (m : Message) → ((tx : TxId) → committed_by m ≡ Some tx → Known tx) →
      R s (after_message s from m)
  message_kept s from (msg.Lock tx top key) known = lock_row_kept Known R kit s from tx top key
  message_kept s from (msg.LockOk tx key found) known = lock_ok_row_kept Known R kit s tx key found
  message_kept s from (msg.Get tx key near) known = get_row_kept Known R kit s from tx key near
  message_kept s from (msg.GetOk tx key found) known = get_ok_row_kept Known R kit s tx key found
  message_kept s from (msg.Prepare tx top how shares wanted writes) known =
      prepare_row_kept Known R kit s from tx top how shares wanted writes
  message_kept s from (msg.Prepared tx) known = prepared_row_kept Known R kit s from tx
  message_kept s from (msg.PrepareFail tx why) known = prepare_fail_row_kept Known R kit s tx why
  message_kept s from (msg.Finish tx commit) known =
      finish_row_kept Known R kit s from tx commit (λ is. known tx (ap (λ (b : Bool). committed_if b tx) is))
  message_kept s from (msg.Finished tx) known = finished_kept s from tx
  message_kept s from (msg.Edges tx round asked) known = edges_row_kept Known R kit s from tx round asked
  message_kept s from (msg.EdgesOk tx round act waits) known = edges_ok_row_kept Known R kit s from tx round act waits
  message_kept s from (msg.BackupPrepare tx top shares primary writes) known =
      backup_prepare_row_kept Known R kit s from tx top shares primary writes
  message_kept s from (msg.BackupPrepared tx) known = backup_prepared_row_kept Known R kit s from tx
  message_kept s from (msg.BackupFinish tx primary commit) known = backup_finish_row_kept Known R kit s from tx primary commit
      (λ is. known tx (ap (λ (b : Bool). committed_if b tx) is))
  message_kept s from (msg.BackupFinished tx primary) known = backup_finished_kept s from tx primary
  message_kept s from (msg.NearUpdate tx key new ver) known = near_update_row_kept Known R kit s from tx key new ver
  message_kept s from (msg.NearDone tx key) known = near_done_row_kept Known R kit s from tx key
  message_kept s from (msg.Single top o complete) known = single_row_kept Known R kit s from top o complete
  message_kept s from (msg.Full m) known = full_row_kept Known R kit s from m
  message_kept s from (msg.Installed top) known = installed_row_kept Known R kit s from top
  message_kept s from (msg.Opens top) known = opens_row_kept Known R kit s top
  message_kept s from (msg.Demand top part after) known = demand_row_kept Known R kit s from top part after
  message_kept s from (msg.Supply top part entries last) known = supply_row_kept Known R kit s from top part entries last
  message_kept s from (msg.Complete top) known = complete_row_kept Known R kit s from top
  message_kept s from (msg.Orphans round list) known = orphans_row_kept Known R kit s from round list

  effects_kept : (s : NodeState) (place : ℕ) (e : TopoEvent) → EntriesCommitted Known s.txs →
      R s (after_event_effects s place e)
  effects_kept s place (topo.Left gone) known =
      let near = after_left_at_starter s gone in
      let primary = after_left_at_primary near gone in
      let round = after_begin_round primary place in
      let last = after_event_effects s place (topo.Left gone) in
      kit.andthen s near last (starter_left_kept Known R kit s gone known)
      (kit.andthen near primary last (primary_left_kept Known R kit near gone)
      (kit.andthen primary round last (begins_round_kept Known R kit primary place) (search_left_kept Known R kit round gone)))
  effects_kept s place (topo.Join member) known = kit.nothing s
  effects_kept s place topo.Minor known = kit.nothing s
  effects_kept s place (topo.Start cache) known = kit.nothing s
  effects_kept s place (topo.Stop cache) known = kit.nothing s

  pub see_kept : (s : NodeState) (place : ℕ) (e : TopoEvent) → EntriesCommitted Known s.txs → R s (after_see s place e)
  see_kept s place e known =
      let learned = after_learn s e in
      let seen = with_note learned (note.See place) in
      kit.andthen s learned (after_see s place e) (learns_kept Known R kit s e)
      (kit.andthen learned seen (after_see s place e) (kit.noting learned (note.See place) refl)
      (effects_kept seen place e known))
