-- What each act leaves alone.
use Rattle.std.proofs.Common.{ℕ}
use Rattle.frame_laws.specs.Acting.{Plain, Sees, Takes}
use Rattle.frame_laws.specs.Extending.{OnlyAppends}
use Rattle.frame_laws.proofs.Acting.{after_first, between, plain}
use Rattle.frame_laws.proofs.ActsKept.{answer_kept, call_kept, expiry_kept, learning_kept, message_kept, seen_kept}
use Rattle.frame_laws.proofs.Extending.{extending, nothing}
use Rattle.act_rows.specs.Acts.{after_event_effects, after_message, answer_act, call_act, expire_act, minor_act, with_act_begun}
use Rattle.act_rows.specs.Closing.{after_closing_rules}
use Rattle.act_rows.specs.Commands.{after_answer, after_call}
use Rattle.act_rows.specs.Exchange.{after_learn}
use Rattle.act_rows.specs.Searches.{after_expire}
use Rattle.act_rows.specs.Steps.{with_note}
use Rattle.ignite_types.specs.declared.journal.TopoEvent.{TopoEvent}
use Rattle.ignite_types.specs.declared.message.Message.{Message}
use Rattle.ignite_types.specs.declared.names.NodeId.{NodeId}
use Rattle.ignite_types.specs.declared.names.TxId.{TxId}
use Rattle.node_state.specs.Node.{NodeState}
use Rattle.ignite_types.specs.declared.journal.Rec.TheVariants as note

pub takes : (s : NodeState) (from : NodeId) (m : Message) → Takes s from m
takes s from m = after_first s (after_closing_rules (after_message (with_act_begun s) from m)) (note.Deliver from m)
    (message_kept OnlyAppends extending s from m)

pub sees : (s : NodeState) (event : TopoEvent) → Sees s event
sees s event =
    let learned = after_learn (with_act_begun s) event in
    let seen = with_note learned (note.See s.read) in
    between s learned (after_closing_rules (after_event_effects seen s.read event)) (note.See s.read)
    (learning_kept OnlyAppends extending s event) (seen_kept OnlyAppends extending seen s.read event)

pub expires : (s : NodeState) (tx : TxId) → Plain s (expire_act s tx)
expires s tx = plain s (after_closing_rules (after_expire (with_act_begun s) tx)) (expiry_kept OnlyAppends extending s tx)

pub calls : (s : NodeState) (session : ℕ) → Plain s (call_act s session)
calls s session = plain s (after_closing_rules (after_call (with_act_begun s) session))
    (call_kept OnlyAppends extending s session)

pub answers : (s : NodeState) (session : ℕ) → Plain s (answer_act s session)
answers s session = plain s (after_answer (with_act_begun s) session) (answer_kept OnlyAppends extending s session)

pub switches : (s : NodeState) → Plain s (minor_act s)
switches s = plain s (with_act_begun s) (nothing (with_act_begun s))
