-- What rows note of themselves: no message that was sent or taken.
use Rattle.std.proofs.Common.{◌≡◌, ℕ, List, [], ◌∷◌, true, refl, sym, subst}
use Rattle.std.specs.List.{list_all}
use Rattle.act_rows.specs.Acts.{after_backup_finished, after_event_effects, after_finished, after_message, after_see}
use Rattle.act_rows.specs.Accesses.{after_backup_finished_at_starter, after_finished_at_starter}
use Rattle.act_rows.specs.Closing.{after_closing_rules}
use Rattle.act_rows.specs.Commands.{after_answer, after_call}
use Rattle.act_rows.specs.Decisions.{after_left_at_starter}
use Rattle.act_rows.specs.Exchange.{after_learn}
use Rattle.act_rows.specs.Primary.{after_backup_finished_at_primary, after_left_at_primary}
use Rattle.act_rows.specs.Recovery.{after_begin_round}
use Rattle.act_rows.specs.Searches.{after_expire}
use Rattle.act_rows.specs.Steps.{with_note}
use Rattle.frame_laws.proofs.Accesses.{get_ok_row_kept, lock_ok_row_kept, near_backup_finished_kept, near_finished_kept, near_update_row_kept, prepare_fail_row_kept, prepared_row_kept}
use Rattle.frame_laws.proofs.Backups.{backup_finish_row_kept, backup_prepare_row_kept}
use Rattle.frame_laws.proofs.Closing.{closed_kept}
use Rattle.frame_laws.proofs.Commands.{answer_row_kept, call_row_kept}
use Rattle.frame_laws.proofs.Decisions.{near_side_left_kept}
use Rattle.frame_laws.proofs.Exchange.{full_row_kept, installed_row_kept, learns_kept, opens_row_kept, single_row_kept}
use Rattle.frame_laws.proofs.Extending.{andthen, extending, extending_plain}
use Rattle.frame_laws.proofs.Filling.{complete_row_kept, demand_row_kept, supply_row_kept}
use Rattle.frame_laws.proofs.Locks.{edges_row_kept, get_row_kept, lock_row_kept}
use Rattle.frame_laws.proofs.Primary.{backup_prepared_row_kept, finish_row_kept, near_done_row_kept, own_backup_finished_kept, prepare_row_kept, primary_left_kept}
use Rattle.frame_laws.proofs.Recovery.{begins_round_kept, orphans_row_kept, recovery_backup_finished_kept, recovery_finished_kept}
use Rattle.frame_laws.proofs.Searches.{edges_ok_row_kept, expire_row_kept, search_left_kept}
use Rattle.frame_laws.specs.Extending.{OnlyAppends, is_own}
use Rattle.ignite_types.specs.declared.journal.Rec.{Rec}
use Rattle.ignite_types.specs.declared.journal.TopoEvent.{TopoEvent}
use Rattle.ignite_types.specs.declared.message.Message.{Message}
use Rattle.ignite_types.specs.declared.names.NodeId.{NodeId}
use Rattle.ignite_types.specs.declared.names.TxId.{TxId}
use Rattle.node_state.specs.Node.{NodeState}
use Rattle.told_laws.specs.FindFacts.{is_no_message}
use Rattle.transaction_laws.proofs.LeavesStarters.{all_of_both}
use Rattle.ignite_types.specs.declared.journal.Rec.TheVariants as note
use Rattle.ignite_types.specs.declared.journal.TopoEvent.TheVariants as topo
use Rattle.ignite_types.specs.declared.message.Message.TheVariants as msg

abbrev R : NodeState → NodeState → Type 0
R = OnlyAppends

finished_row : (s : NodeState) (from : NodeId) (tx : TxId) → R s (after_finished s from tx)
finished_row s from tx = andthen s (after_finished_at_starter s from tx) (after_finished s from tx)
    (near_finished_kept R extending_plain s from tx)
    (recovery_finished_kept R extending_plain (after_finished_at_starter s from tx) from tx)

backup_finished_row : (s : NodeState) (from : NodeId) (tx : TxId) (primary : NodeId) →
    R s (after_backup_finished s from tx primary)
backup_finished_row s from tx primary =
    let own = after_backup_finished_at_primary s from tx primary in
    let near = after_backup_finished_at_starter own from tx primary in
    andthen s own (after_backup_finished s from tx primary) (own_backup_finished_kept R extending_plain s from tx primary)
    (andthen own near (after_backup_finished s from tx primary)
    (near_backup_finished_kept R extending_plain own from tx primary)
    (recovery_backup_finished_kept R extending_plain near from tx primary))

message_row : (s : NodeState) (from : NodeId) (m : Message) → R s (after_message s from m)
message_row s from (msg.Lock tx top key) = lock_row_kept R extending_plain s from tx top key
message_row s from (msg.LockOk tx key found) = lock_ok_row_kept R extending_plain s tx key found
message_row s from (msg.Get tx key near) = get_row_kept R extending_plain s from tx key near
message_row s from (msg.GetOk tx key found) = get_ok_row_kept R extending_plain s tx key found
message_row s from (msg.Prepare tx top mode shares wanted writes) =
    prepare_row_kept R extending_plain s from tx top mode shares wanted writes
message_row s from (msg.Prepared tx) = prepared_row_kept R extending_plain s from tx
message_row s from (msg.PrepareFail tx why) = prepare_fail_row_kept R extending_plain s tx why
message_row s from (msg.Finish tx commit) = finish_row_kept R extending_plain s from tx commit
message_row s from (msg.Finished tx) = finished_row s from tx
message_row s from (msg.Edges tx round asked) = edges_row_kept R extending_plain s from tx round asked
message_row s from (msg.EdgesOk tx round act waits) = edges_ok_row_kept R extending_plain s from tx round act waits
message_row s from (msg.BackupPrepare tx top shares primary writes) =
    backup_prepare_row_kept R extending_plain s from tx top shares primary writes
message_row s from (msg.BackupPrepared tx) = backup_prepared_row_kept R extending_plain s from tx
message_row s from (msg.BackupFinish tx primary commit) = backup_finish_row_kept R extending_plain s from tx primary commit
message_row s from (msg.BackupFinished tx primary) = backup_finished_row s from tx primary
message_row s from (msg.NearUpdate tx key new ver) = near_update_row_kept R extending_plain s from tx key new ver
message_row s from (msg.NearDone tx key) = near_done_row_kept R extending_plain s from tx key
message_row s from (msg.Single top m complete) = single_row_kept R extending s from top m complete
message_row s from (msg.Full m) = full_row_kept R extending s from m
message_row s from (msg.Installed top) = installed_row_kept R extending s from top
message_row s from (msg.Opens top) = opens_row_kept R extending s top
message_row s from (msg.Demand top part after) = demand_row_kept R extending_plain s from top part after
message_row s from (msg.Supply top part entries last) = supply_row_kept R extending_plain s from top part entries last
message_row s from (msg.Complete top) = complete_row_kept R extending_plain s from top
message_row s from (msg.Orphans round list) = orphans_row_kept R extending_plain s from round list

effects_row : (s : NodeState) (place : ℕ) (event : TopoEvent) → R s (after_event_effects s place event)
effects_row s place (topo.Left gone) =
    let near = after_left_at_starter s gone in
    let primary = after_left_at_primary near gone in
    let round = after_begin_round primary place in
    andthen s near (after_event_effects s place (topo.Left gone)) (near_side_left_kept R extending_plain s gone)
    (andthen near primary (after_event_effects s place (topo.Left gone)) (primary_left_kept R extending_plain near gone)
    (andthen primary round (after_event_effects s place (topo.Left gone)) (begins_round_kept R extending_plain primary place)
    (search_left_kept R extending_plain round gone)))
effects_row s place (topo.Join member) = extending_plain.nothing s
effects_row s place topo.Minor = extending_plain.nothing s
effects_row s place (topo.Start cache) = extending_plain.nothing s
effects_row s place (topo.Stop cache) = extending_plain.nothing s

-- none of them is of a message that was sent or taken

own_record : (rs : List Rec) → list_all is_own rs ≡ true → list_all is_no_message rs ≡ true
own_record [] own = refl
own_record (note.Deliver from m ∷ rs) own = absurd (cc (own))
own_record (note.Sent to m ∷ rs) own = absurd (cc (own))
own_record (note.See place ∷ rs) own = absurd (cc (own))
own_record (note.Lost node ∷ rs) own = absurd (cc (own))
own_record (note.Tick to ∷ rs) own = absurd (cc (own))
own_record (note.Planned place refused ∷ rs) own = absurd (cc (own))
own_record (note.Memory ∷ rs) own = absurd (cc (own))
own_record (_ ∷ rs) own = own_record rs own

abbrev pub NotesNone : NodeState → NodeState → Type 0
NotesNone a b = list_all is_no_message a.noted ≡ true → list_all is_no_message b.noted ≡ true

none_of : (a b : NodeState) → OnlyAppends a b → NotesNone a b
none_of a b o none = subst (λ (rs : List Rec). list_all is_no_message rs ≡ true) (sym o.noted_is)
    (all_of_both is_no_message a.noted o.more_noted none (own_record o.more_noted o.own))

pub closed_notes : (s : NodeState) → NotesNone s (after_closing_rules s)
closed_notes s = none_of s (after_closing_rules s) (closed_kept R extending s)

pub message_notes : (s : NodeState) (from : NodeId) (m : Message) → NotesNone s (after_message s from m)
message_notes s from m = none_of s (after_message s from m) (message_row s from m)

pub call_notes : (s : NodeState) (session : ℕ) → NotesNone s (after_call s session)
call_notes s session = none_of s (after_call s session) (call_row_kept R extending_plain s session)

pub answer_notes : (s : NodeState) (session : ℕ) → NotesNone s (after_answer s session)
answer_notes s session = none_of s (after_answer s session) (answer_row_kept R extending_plain s session)

pub expire_notes : (s : NodeState) (tx : TxId) → NotesNone s (after_expire s tx)
expire_notes s tx = none_of s (after_expire s tx) (expire_row_kept R extending_plain s tx)

pub see_notes : (s : NodeState) (place : ℕ) (e : TopoEvent) → NotesNone s (after_see s place e)
see_notes s place e none =
    let known = after_learn s e in
    let seen = with_note known (note.See place) in
    none_of seen (after_see s place e) (effects_row seen place e)
    (all_of_both is_no_message known.noted (note.See place ∷ []) (none_of s known (learns_kept R extending s e) none) refl)
