-- What a node notes in an act tells of nothing that it sent.
use Rattle.std.proofs.Common.{◌≡◌, ◌++◌, ◌&&◌, ℕ, List, [], ◌∷◌, Bool, true, false, refl, ap, sym, ◌∙◌}
use Rattle.std.specs.List.{list_all}
use Rattle.frame_laws.proofs.ActsKept.{row_kept, seen_kept, then_closed_kept}
use Rattle.frame_laws.proofs.Commands.{answer_row_kept, call_row_kept}
use Rattle.frame_laws.proofs.Exchange.{learns_kept}
use Rattle.frame_laws.proofs.Extending.{extending, extending_plain}
use Rattle.frame_laws.proofs.Searches.{expire_row_kept}
use Rattle.frame_laws.specs.Extending.{OnlyAppends, is_own}
use Rattle.act_rows.specs.Accesses.{after_backup_finished_at_starter, after_finished_at_starter}
use Rattle.act_rows.specs.Acts.{after_backup_finished, after_event_effects, after_finished, after_message, after_see}
use Rattle.act_rows.specs.Closing.{after_closing_rules}
use Rattle.act_rows.specs.Commands.{after_answer, after_call}
use Rattle.act_rows.specs.Decisions.{after_left_at_starter}
use Rattle.act_rows.specs.Exchange.{after_learn}
use Rattle.act_rows.specs.Primary.{after_backup_finished_at_primary, after_left_at_primary}
use Rattle.act_rows.specs.Recovery.{after_begin_round}
use Rattle.act_rows.specs.Searches.{after_expire}
use Rattle.act_rows.specs.Steps.{with_note}
use Rattle.ignite_types.specs.declared.journal.Rec.{Rec}
use Rattle.ignite_types.specs.declared.journal.TopoEvent.{TopoEvent}
use Rattle.ignite_types.specs.declared.message.Message.{Message}
use Rattle.ignite_types.specs.declared.names.NodeId.{NodeId}
use Rattle.ignite_types.specs.declared.names.TxId.{TxId}
use Rattle.link_laws.proofs.Journals.{first_rest}
use Rattle.node_state.specs.Node.{NodeState}
use Rattle.ignite_types.specs.declared.journal.Rec.TheVariants as note
use Rattle.ignite_types.specs.declared.journal.TopoEvent.TheVariants as topo
use Rattle.ignite_types.specs.declared.message.Message.TheVariants as msg

-- a record of nothing that was sent
abbrev pub says_no_sent : Rec → Bool
says_no_sent (note.Sent to message) = false
says_no_sent _ = true

own_one : (r : Rec) → is_own r ≡ true → says_no_sent r ≡ true
own_one (note.Sent to message) own = absurd (cc (own))
own_one _ own = refl

own_silent : (rs : List Rec) → list_all is_own rs ≡ true → list_all says_no_sent rs ≡ true
own_silent [] own = refl
own_silent (r ∷ rs) own =
    let both = first_rest (is_own r) (list_all is_own rs) own in
    rw (own_one r both.0) (own_silent rs both.1)

both_silent : (xs ys : List Rec) → list_all says_no_sent xs ≡ true → list_all says_no_sent ys ≡ true →
    list_all says_no_sent (xs ++ ys) ≡ true
both_silent [] ys first second = second
both_silent (x ∷ xs) ys first second =
    let both = first_rest (says_no_sent x) (list_all says_no_sent xs) first in
    rw both.0 (both_silent xs ys both.1 second)

-- Acts.

-- nothing was noted before
noted_silent : (s b : NodeState) → s.noted ≡ [] → OnlyAppends s b → list_all says_no_sent b.noted ≡ true
noted_silent s b none more = ap (list_all says_no_sent) (more.noted_is ∙ ap (λ (rs : List Rec). rs ++ more.more_noted) none)
    ∙ own_silent more.more_noted more.own

pub answer_silent : (s : NodeState) (session : ℕ) → s.noted ≡ [] → list_all says_no_sent (after_answer s session).noted ≡ true
answer_silent s session none =
    noted_silent s (after_answer s session) none (answer_row_kept OnlyAppends extending_plain s session)

pub call_silent : (s : NodeState) (session : ℕ) → s.noted ≡ [] →
    list_all says_no_sent (after_closing_rules (after_call s session)).noted ≡ true
call_silent s session none = noted_silent s (after_closing_rules (after_call s session)) none
    (then_closed_kept OnlyAppends extending s (after_call s session) (call_row_kept OnlyAppends extending_plain s session))

pub expire_silent : (s : NodeState) (tx : TxId) → s.noted ≡ [] →
    list_all says_no_sent (after_closing_rules (after_expire s tx)).noted ≡ true
expire_silent s tx none = noted_silent s (after_closing_rules (after_expire s tx)) none
    (then_closed_kept OnlyAppends extending s (after_expire s tx) (expire_row_kept OnlyAppends extending_plain s tx))

pub message_silent : (s : NodeState) (from : NodeId) (m : Message) → s.noted ≡ [] →
    list_all says_no_sent (after_closing_rules (after_message s from m)).noted ≡ true
message_silent s from m none = noted_silent s (after_closing_rules (after_message s from m)) none
    (then_closed_kept OnlyAppends extending s (after_message s from m) (row_kept OnlyAppends extending s from m))

pub see_silent : (s : NodeState) (place : ℕ) (e : TopoEvent) → s.noted ≡ [] →
    list_all says_no_sent (after_closing_rules (after_see s place e)).noted ≡ true
see_silent s place e none =
    let known : NodeState = after_learn s e in
    let seen : NodeState = with_note known (note.See place) in
    let first : OnlyAppends s known = learns_kept OnlyAppends extending s e in
    let second : OnlyAppends seen (after_closing_rules (after_see s place e)) =
    seen_kept OnlyAppends extending seen place e in
    let before : list_all says_no_sent known.noted ≡ true = noted_silent s known none first in
    ap (list_all says_no_sent) second.noted_is
    ∙ both_silent seen.noted second.more_noted (both_silent known.noted (note.See place ∷ []) before refl)
    (own_silent second.more_noted second.own)
