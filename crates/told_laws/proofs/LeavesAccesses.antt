-- The small steps of rows that leave sessions and accesses alone, and what they send.
use Rattle.std.proofs.Common.{◌≡◌, ◌++◌, ℕ, List, [], ◌∷◌, Bool, true, false, if◌then◌else◌, Option, Some, None, refl, ap, sym, subst, ◌∙◌}
use Rattle.std.specs.List.{list_all}
use Rattle.act_rows.specs.Accesses.{prepare_outs}
use Rattle.act_rows.specs.Decisions.{backup_finish_outs, decision_outs, finishes_for_lost, is_committing, outs_after_left}
use Rattle.act_rows.specs.Exchange.{demand_outs, demands_of}
use Rattle.act_rows.specs.Primary.{backup_prepare_outs, near_outs, readers_but_me}
use Rattle.act_rows.specs.Steps.{live_among, live_holders, lost_among, on_share, outs_to, with_out, with_out_to_oldest, with_share}
use Rattle.frame_laws.proofs.Extending.{append_none, append_twice}
use Rattle.ignite_types.specs.Names.{node_cmp, same_node}
use Rattle.ignite_types.specs.Placement.{capped, first_owner}
use Rattle.ignite_types.specs.declared.journal.Rec.{Rec}
use Rattle.ignite_types.specs.declared.message.Message.{Message}
use Rattle.ignite_types.specs.declared.message.Out.{Out}
use Rattle.ignite_types.specs.declared.message.Stored.{Stored}
use Rattle.ignite_types.specs.declared.names.NodeId.{NodeId}
use Rattle.ignite_types.specs.declared.names.TopVer.{TopVer}
use Rattle.ignite_types.specs.declared.names.TxId.{TxId}
use Rattle.ignite_types.specs.declared.placement.Row.{Row}
use Rattle.ignite_types.specs.declared.placement.Share.{Share}
use Rattle.node_state.specs.Node.{NodeState}
use Rattle.node_state.specs.declared.near.TxEntry.{TxEntry}
use Rattle.node_state.specs.declared.primary.OwnShare.{OwnShare}
use Rattle.ordered_set.specs.Members.{has}
use Rattle.part_model.specs.NextMap.{has_node}
use Rattle.ignite_types.specs.declared.message.Message.TheVariants as msg
use Rattle.transaction_laws.proofs.LeavesStarters.{all_of_both}
use Rattle.told_laws.specs.LeavesAccesses.{AccessFace, LeavesAccesses, access_face, is_quiet, is_right, is_sent_right}

-- Small steps.

-- a change of fields that sessions and accesses have nothing to do with
pub aside : (before after : NodeState) → access_face after ≡ access_face before → LeavesAccesses before after
aside before after same = record {
  more = [];
  quiet = refl;
  sent = [];
  right = refl;
  face_is = same ∙ λ i. record (access_face before) {
    noted = sym (append_none before.noted) i;
    outbox =
        sym (append_none before.outbox) i;
  };
}

pub nothing : (s : NodeState) → LeavesAccesses s s
nothing s = aside s s refl

pub same_me : (a b : NodeState) → LeavesAccesses a b → b.me ≡ a.me
same_me a b l = ap (λ (f : AccessFace). f.me) l.face_is

pub andthen : (a b c : NodeState) → LeavesAccesses a b → LeavesAccesses b c → LeavesAccesses a c
andthen a b c first second = record {
  more = first.more ++ second.more;
  quiet = all_of_both is_quiet first.more second.more first.quiet second.quiet;
  sent = first.sent ++ second.sent;
  right = all_of_both (is_sent_right a.me) first.sent second.sent first.right
      (subst (λ (n : NodeId). list_all (is_sent_right n) second.sent ≡ true) (same_me a b first) second.right);
  face_is = second.face_is
      ∙ ap (λ (f : AccessFace). record f { noted = f.noted ++ second.more; outbox = f.outbox ++ second.sent }) first.face_is
      ∙ λ i. record (access_face a) {
        noted = append_twice a.noted first.more second.more i;
        outbox =
            append_twice a.outbox first.sent second.sent i;
      };
}

-- a record is noted, and messages are sent
pub notes_sends : (before after : NodeState) (r : Rec) (outs : List Out) → is_quiet r ≡ true →
    list_all (is_sent_right before.me) outs ≡ true
    → access_face after ≡ record (access_face before) { noted = before.noted ++ r ∷ []; outbox = before.outbox ++ outs } →
    LeavesAccesses before after
notes_sends before after r outs quiet right is = record {
  more = r ∷ [];
  quiet = rw quiet refl;
  sent = outs;
  right = right;
  face_is = is;
}

pub notes : (before after : NodeState) (r : Rec) → is_quiet r ≡ true → access_face after ≡ record (access_face before) {
  noted = before.noted ++ r ∷ [];
} → LeavesAccesses before after
notes before after r quiet is =
    notes_sends before after r [] quiet refl (is ∙ λ i. record (access_face before) {
      noted = before.noted ++ r ∷ [];
      outbox =
          sym (append_none before.outbox) i;
    })

pub sends_all : (before after : NodeState) (outs : List Out) → list_all (is_sent_right before.me) outs ≡ true →
    access_face after ≡ record (access_face before) { outbox = before.outbox ++ outs } → LeavesAccesses before after
sends_all before after outs right is = record {
  more = [];
  quiet = refl;
  sent = outs;
  right = right;
  face_is = is ∙ λ i. record (access_face before) { noted = sym (append_none before.noted) i; outbox = before.outbox ++ outs };
}

pub sends : (s : NodeState) (to : NodeId) (m : Message) → is_right s.me to m ≡ true → LeavesAccesses s (with_out s to m)
sends s to m right = sends_all s (with_out s to m) (record { to = to; msg = m } ∷ []) (rw right refl) refl

pub sends_to_oldest : (s : NodeState) (m : Message) (to : Option NodeId) → ((n : NodeId) → is_right s.me n m ≡ true) →
    LeavesAccesses s (with_out_to_oldest s m to)
sends_to_oldest s m None right = nothing s
sends_to_oldest s m (Some oldest) right = sends s oldest m (right oldest)

pub either : (s x y : NodeState) (b : Bool) → LeavesAccesses s x → LeavesAccesses s y → LeavesAccesses s (if b then x else y)
either s x y true first second = first
either s x y false first second = second

pub on_share_leaves : (s : NodeState) (tx : TxId) (f : OwnShare → OwnShare) (share : Option OwnShare) →
    LeavesAccesses s (on_share s tx f share)
on_share_leaves s tx f None = nothing s
on_share_leaves s tx f (Some h) = aside s (with_share s tx (f h)) refl

-- What is sent is right.

pub right_to : (me : NodeId) (nodes : List NodeId) (m : Message) → ((n : NodeId) → is_right me n m ≡ true) →
    list_all (is_sent_right me) (outs_to nodes m) ≡ true
right_to me [] m right = refl
right_to me (n ∷ ns) m right = rw (right n) (right_to me ns m right)

pub right_for_lost : (me : NodeId) (s : NodeState) (tx : TxId) (commit : Bool) (shares : List Share) (nodes : List NodeId) →
    list_all (is_sent_right me) (finishes_for_lost s tx commit shares nodes) ≡ true
right_for_lost me s tx commit shares [] = refl
right_for_lost me s tx commit shares (n ∷ ns) =
    all_of_both (is_sent_right me) (backup_finish_outs tx n commit (live_holders s shares n))
    (finishes_for_lost s tx commit shares ns)
    (right_to me (live_holders s shares n) (msg.BackupFinish tx n commit) (λ x. refl)) (right_for_lost me s tx commit shares ns)

pub right_decided : (me : NodeId) (s : NodeState) (tx : TxId) (commit : Bool) (e : TxEntry) →
    list_all (is_sent_right me) (decision_outs s tx commit e) ≡ true
right_decided me s tx commit e =
    all_of_both (is_sent_right me) (outs_to (live_among s e.asked) (msg.Finish tx commit))
    (finishes_for_lost s tx commit e.shares (lost_among s e.asked))
    (right_to me (live_among s e.asked) (msg.Finish tx commit) (λ x. refl))
    (right_for_lost me s tx commit e.shares (lost_among s e.asked))

pub right_left : (me : NodeId) (s : NodeState) (tx : TxId) (lost : NodeId) (e : TxEntry) →
    list_all (is_sent_right me) (outs_after_left s tx lost e) ≡ true
right_left me s tx lost e =
    elim (has node_cmp e.awaited lost) as (λ b. list_all (is_sent_right me)
    (if b then backup_finish_outs tx lost (is_committing e.state) (live_holders s e.shares lost) else []) ≡ true) [
      | true ↦ right_to me (live_holders s e.shares lost) (msg.BackupFinish tx lost (is_committing e.state)) (λ x. refl)
      | false ↦ refl
    ]

pub right_prepares : (me : NodeId) (s : NodeState) (tx : TxId) (top : TopVer) (e : TxEntry) (shares : List Share)
    (nodes : List NodeId) → same_node tx.node me ≡ true → list_all (is_sent_right me) (prepare_outs s tx top e shares nodes)
    ≡ true
right_prepares me s tx top e shares [] own = refl
right_prepares me s tx top e shares (n ∷ ns) own = rw own (right_prepares me s tx top e shares ns own)

pub right_backup_prepares : (me : NodeId) (s : NodeState) (tx : TxId) (top : TopVer) (shares : List Share)
    (writes : List Stored) (nodes : List NodeId) →
    list_all (is_sent_right me) (backup_prepare_outs s tx top shares writes nodes) ≡ true
right_backup_prepares me s tx top shares writes [] = refl
right_backup_prepares me s tx top shares writes (n ∷ ns) = right_backup_prepares me s tx top shares writes ns

pub right_near : (me : NodeId) (s : NodeState) (tx : TxId) (writes : List Stored) →
    list_all (is_sent_right me) (near_outs s tx writes) ≡ true
right_near me s tx [] = refl
right_near me s tx (w ∷ ws) =
    all_of_both (is_sent_right me) (outs_to (readers_but_me s w.key) (msg.NearUpdate tx w.key w.value w.ver))
    (near_outs s tx ws)
    (right_to me (readers_but_me s w.key) (msg.NearUpdate tx w.key w.value w.ver) (λ x. refl)) (right_near me s tx ws)

right_demands_of : (me self : NodeId) (top : TopVer) (part : ℕ) (row : Row) (primary : Option NodeId) →
    list_all (is_sent_right me) (demands_of self top part row primary) ≡ true
right_demands_of me self top part row None = refl
right_demands_of me self top part row (Some primary) =
    elim (has_node row.movers self) as (λ b. list_all (is_sent_right me)
    (if b then record { to = primary; msg = msg.Demand top part None } ∷ [] else []) ≡ true) [
      | true ↦ refl
      | false ↦ refl
    ]

pub right_demands : (me self : NodeId) (top : TopVer) (part : ℕ) (rows : List Row) →
    list_all (is_sent_right me) (demand_outs self top part rows) ≡ true
right_demands me self top part [] = refl
right_demands me self top part (row ∷ rows) =
    all_of_both (is_sent_right me) (demands_of self top part row (first_owner row)) (demand_outs self top (capped part 1) rows)
    (right_demands_of me self top part row (first_owner row)) (right_demands me self top (capped part 1) rows)
