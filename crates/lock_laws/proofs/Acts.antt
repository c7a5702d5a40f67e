-- The records of each act tell of its lock queues.
use Rattle.std.proofs.Common.{◌≡◌, ◌++◌, ℕ, List, [], ◌∷◌, Option, Some, None, false, refl, ap, sym, subst, ◌∙◌}
use Rattle.frame_laws.specs.Kits.{is_lock}
use Rattle.frame_laws.proofs.ActsKept.{answer_kept, call_kept, expiry_kept, learning_kept, message_kept, seen_kept}
use Rattle.frame_laws.proofs.Extending.{append_none, append_twice}
use Rattle.act_rows.specs.Acts.{act_of_send, act_result, after_event_effects, after_message, answer_act, call_act, expire_act, join_act, message_act, minor_act, oldest_out, see_act, send_act, with_act_begun}
use Rattle.act_rows.specs.Closing.{after_closing_rules}
use Rattle.act_rows.specs.Commands.{after_answer, after_call}
use Rattle.act_rows.specs.Exchange.{after_learn, after_learn_all}
use Rattle.act_rows.specs.Searches.{after_expire}
use Rattle.act_rows.specs.Steps.{with_note}
use Rattle.part_model.specs.Queues.{Queues}
use Rattle.ignite_types.specs.declared.journal.Rec.{Rec}
use Rattle.ignite_types.specs.declared.journal.TopoEvent.{TopoEvent}
use Rattle.ignite_types.specs.declared.message.Message.{Message}
use Rattle.ignite_types.specs.declared.message.Out.{Out}
use Rattle.ignite_types.specs.declared.names.NodeId.{NodeId}
use Rattle.ignite_types.specs.declared.names.TxId.{TxId}
use Rattle.lock_laws.specs.Tracking.{ActKeepsOwnersMatch, GrantsFit, KeepsOwnersMatch, OwnersMatch}
use Rattle.lock_laws.proofs.Tracking.{lockless_tells, tracking}
use Rattle.node_state.specs.Node.{NodeState}
use Rattle.ignite_types.specs.declared.journal.Rec.TheVariants as note

-- the act of a row that goes on telling
row_tracks : (s after : NodeState) → KeepsOwnersMatch (with_act_begun s) after → ActKeepsOwnersMatch s (act_result after)
row_tracks s after t recs tells = rw t.noted_is (t.tells recs tells, t.fits recs tells)

-- a record that is no lock, and then what tracks behind it
pub behind : (queues queues2 : Queues) (r : Rec) (more : List Rec) → is_lock r ≡ false →
    ((recs : List Rec) → GrantsFit recs (r ∷ [])) →
    ((recs : List Rec) → OwnersMatch recs queues → OwnersMatch (recs ++ more) queues2 × GrantsFit recs more)
    → (recs : List Rec) → OwnersMatch recs queues → OwnersMatch (recs ++ r ∷ more) queues2 × GrantsFit recs (r ∷ more)
behind queues queues2 r more lockless fits rest recs tells =
    let after = rest (recs ++ r ∷ []) (lockless_tells recs r queues lockless tells) in
    (subst (λ (rs : List Rec). OwnersMatch rs queues2) (append_twice recs (r ∷ []) more) after.0, ((fits recs).0, after.1))

pub message_tracks : (s : NodeState) (from : NodeId) (m : Message) → ActKeepsOwnersMatch s (message_act s from m)
message_tracks s from m =
    let after = after_closing_rules (after_message (with_act_begun s) from m) in
    behind s.queues after.queues (note.Deliver from m) after.noted refl (λ recs. (tt, tt))
    (row_tracks s after (message_kept KeepsOwnersMatch tracking s from m))

-- two stretches of records
both_fit : (recs xs ys : List Rec) → GrantsFit recs xs → GrantsFit (recs ++ xs) ys → GrantsFit recs (xs ++ ys)
both_fit recs [] ys first second = subst (λ (rs : List Rec). GrantsFit rs ys) (append_none recs) second
both_fit recs (x ∷ xs) ys first second = (
  first.0,
  both_fit (recs ++ x ∷ []) xs ys first.1
      (subst (λ (rs : List Rec). GrantsFit rs ys) (sym (append_twice recs (x ∷ []) xs)) second),
)

pub see_tracks : (s : NodeState) (event : TopoEvent) → ActKeepsOwnersMatch s (see_act s event)
see_tracks s event recs tells =
    let learned = after_learn (with_act_begun s) event in
    let r = note.See s.read in
    let seen = with_note learned r in
    let after = after_closing_rules (after_event_effects seen s.read event) in
    let first = learning_kept KeepsOwnersMatch tracking s event in
    let second = seen_kept KeepsOwnersMatch tracking seen s.read event in
    let told = first.tells recs tells in
    let rest = behind learned.queues after.queues r second.more refl (λ rs. (tt, tt))
    (λ rs t. (second.tells rs t, second.fits rs t)) (recs ++ first.more) told in
    let all : after.noted ≡ first.more ++ (r ∷ second.more) =
    second.noted_is ∙ ap (λ rs. (rs ++ r ∷ []) ++ second.more) first.noted_is ∙ append_twice first.more (r ∷ []) second.more in
    rw all (
      subst (λ (rs : List Rec). OwnersMatch rs after.queues) (append_twice recs first.more (r ∷ second.more)) rest.0,
      both_fit recs first.more (r ∷ second.more) (first.fits recs tells) rest.1,
    )

pub expire_tracks : (s : NodeState) (tx : TxId) → ActKeepsOwnersMatch s (expire_act s tx)
expire_tracks s tx = row_tracks s (after_closing_rules (after_expire (with_act_begun s) tx))
    (expiry_kept KeepsOwnersMatch tracking s tx)

pub call_tracks : (s : NodeState) (session : ℕ) → ActKeepsOwnersMatch s (call_act s session)
call_tracks s session = row_tracks s (after_closing_rules (after_call (with_act_begun s) session))
    (call_kept KeepsOwnersMatch tracking s session)

pub answer_tracks : (s : NodeState) (session : ℕ) → ActKeepsOwnersMatch s (answer_act s session)
answer_tracks s session = row_tracks s (after_answer (with_act_begun s) session)
    (answer_kept KeepsOwnersMatch tracking s session)

nothing_tracks : (s after : NodeState) → after.queues ≡ s.queues → ActKeepsOwnersMatch s (record { state = after; recs = [] })
nothing_tracks s after same recs tells = (rw (same, append_none recs) tells, tt)

pub minor_tracks : (s : NodeState) → ActKeepsOwnersMatch s (minor_act s)
minor_tracks s = nothing_tracks s (act_result (with_act_begun s)).state refl

send_at : (s : NodeState) (out : Option Out) → ActKeepsOwnersMatch s (act_of_send (with_act_begun s) out)
send_at s None = nothing_tracks s (with_act_begun s) refl
send_at s (Some out) = λ recs tells. (lockless_tells recs (note.Sent out.to out.msg) s.queues refl tells, (tt, tt))

pub send_tracks : (s : NodeState) → ActKeepsOwnersMatch s (send_act s)
send_tracks s = send_at s (oldest_out s)

learn_queues : (s : NodeState) (es : List TopoEvent) → (after_learn_all s es 0).queues ≡ s.queues
learn_queues s [] = refl
learn_queues s (e ∷ es) = learn_queues (after_learn s e) es

pub join_tracks : (s : NodeState) (es : List TopoEvent) (now : ℕ) (own : TopoEvent) →
    ActKeepsOwnersMatch s (join_act s es now own)
join_tracks s es now own recs tells = see_tracks (after_learn_all s es now) own recs (rw (learn_queues s es) tells)
