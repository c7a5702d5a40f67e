-- The small steps of rows that leave starters alone, and what they send.
use Rattle.std.proofs.Common.{◌≡◌, ◌++◌, ◌&&◌, ℕ, List, [], ◌∷◌, Bool, true, false, if◌then◌else◌, Option, Some, None, refl, ap, sym, ◌∙◌}
use Rattle.std.specs.List.{list_all}
use Rattle.act_rows.specs.Accesses.{prepare_outs}
use Rattle.act_rows.specs.Decisions.{backup_finish_outs, decision_outs, finishes_for_lost, is_committing, outs_after_left}
use Rattle.act_rows.specs.Exchange.{demand_outs, demands_of}
use Rattle.act_rows.specs.Primary.{backup_prepare_outs, near_outs, readers_but_me}
use Rattle.act_rows.specs.Steps.{live_among, live_holders, lost_among, on_share, outs_to, with_out, with_out_to_oldest, with_share}
use Rattle.frame_laws.proofs.Extending.{append_none, append_twice}
use Rattle.ignite_types.specs.Names.{node_cmp}
use Rattle.ignite_types.specs.Placement.{capped, first_owner}
use Rattle.ignite_types.specs.declared.journal.Rec.{Rec}
use Rattle.ignite_types.specs.declared.message.Message.{Message}
use Rattle.ignite_types.specs.declared.message.Out.{Out}
use Rattle.ignite_types.specs.declared.message.Stored.{Stored}
use Rattle.ignite_types.specs.declared.names.NodeId.{NodeId}
use Rattle.ignite_types.specs.declared.names.TopVer.{TopVer}
use Rattle.ignite_types.specs.declared.names.TxId.{TxId}
use Rattle.ignite_types.specs.declared.placement.Row.{Row}
use Rattle.ignite_types.specs.declared.placement.Share.{Share}
use Rattle.node_state.specs.Node.{NodeState}
use Rattle.node_state.specs.declared.near.TxEntry.{TxEntry}
use Rattle.node_state.specs.declared.primary.OwnShare.{OwnShare}
use Rattle.ordered_set.specs.Members.{has}
use Rattle.part_model.specs.NextMap.{has_node}
use Rattle.ignite_types.specs.declared.message.Message.TheVariants as msg
use Rattle.transaction_laws.specs.LeavesStarters.{LeavesStarters, StarterFace, is_no_list, sends_no_list, starter_face}
use Rattle.transaction_laws.specs.StarterFacts.{is_silent}

-- Small steps.

pub all_of_both : {A : Type 0} (p : A → Bool) (xs ys : List A) → list_all p xs ≡ true → list_all p ys ≡ true →
    list_all p (xs ++ ys) ≡ true
all_of_both p [] ys first second = second
all_of_both p (x ∷ xs) ys first second =
    elim (p x) as (λ b. (b && list_all p xs) ≡ true → (b && list_all p (xs ++ ys)) ≡ true) [
      | true ↦ λ rest. all_of_both p xs ys rest second
      | false ↦ λ none. absurd (cc)
    ] first

-- a change of fields that starters have nothing to do with
pub aside : (before after : NodeState) → starter_face after ≡ starter_face before → LeavesStarters before after
aside before after same = record {
  more = [];
  silent = refl;
  sent = [];
  listless = refl;
  face_is = same ∙ λ i. record (starter_face before) {
    noted = sym (append_none before.noted) i;
    outbox =
        sym (append_none before.outbox) i;
  };
}

pub nothing : (s : NodeState) → LeavesStarters s s
nothing s = aside s s refl

pub andthen : (a b c : NodeState) → LeavesStarters a b → LeavesStarters b c → LeavesStarters a c
andthen a b c first second = record {
  more = first.more ++ second.more;
  silent = all_of_both is_silent first.more second.more first.silent second.silent;
  sent = first.sent ++ second.sent;
  listless = all_of_both sends_no_list first.sent second.sent first.listless second.listless;
  face_is = second.face_is
      ∙ ap (λ (f : StarterFace). record f { noted = f.noted ++ second.more; outbox = f.outbox ++ second.sent }) first.face_is
      ∙ λ i. record (starter_face a) {
        noted = append_twice a.noted first.more second.more i;
        outbox =
            append_twice a.outbox first.sent second.sent i;
      };
}

-- a record is noted, and messages are sent
pub notes_sends : (before after : NodeState) (r : Rec) (outs : List Out) → is_silent r ≡ true →
    list_all sends_no_list outs ≡ true
    → starter_face after ≡ record (starter_face before) { noted = before.noted ++ r ∷ []; outbox = before.outbox ++ outs } →
    LeavesStarters before after
notes_sends before after r outs silent listless is = record {
  more = r ∷ [];
  silent = rw silent refl;
  sent = outs;
  listless =
      listless;
  face_is = is;
}

pub notes : (before after : NodeState) (r : Rec) → is_silent r ≡ true → starter_face after ≡ record (starter_face before) {
  noted = before.noted ++ r ∷ [];
} → LeavesStarters before after
notes before after r silent is =
    notes_sends before after r [] silent refl (is ∙ λ i. record (starter_face before) {
      noted = before.noted ++ r ∷ [];
      outbox = sym (append_none before.outbox) i;
    })

pub sends_all : (before after : NodeState) (outs : List Out) → list_all sends_no_list outs ≡ true →
    starter_face after ≡ record (starter_face before) { outbox = before.outbox ++ outs } → LeavesStarters before after
sends_all before after outs listless is = record {
  more = [];
  silent = refl;
  sent = outs;
  listless = listless;
  face_is = is ∙ λ i. record (starter_face before) { noted = sym (append_none before.noted) i; outbox = before.outbox ++ outs };
}

pub sends : (s : NodeState) (to : NodeId) (m : Message) → is_no_list m ≡ true → LeavesStarters s (with_out s to m)
sends s to m listless = sends_all s (with_out s to m) (record { to = to; msg = m } ∷ []) (rw listless refl) refl

pub sends_to_oldest : (s : NodeState) (m : Message) (to : Option NodeId) → is_no_list m ≡ true →
    LeavesStarters s (with_out_to_oldest s m to)
sends_to_oldest s m None listless = nothing s
sends_to_oldest s m (Some oldest) listless = sends s oldest m listless

pub either : (s x y : NodeState) (b : Bool) → LeavesStarters s x → LeavesStarters s y → LeavesStarters s (if b then x else y)
either s x y true first second = first
either s x y false first second = second

pub on_share_leaves : (s : NodeState) (tx : TxId) (f : OwnShare → OwnShare) (share : Option OwnShare) →
    LeavesStarters s (on_share s tx f share)
on_share_leaves s tx f None = nothing s
on_share_leaves s tx f (Some h) = aside s (with_share s tx (f h)) refl

-- What is sent is no list.

pub no_list_to : (nodes : List NodeId) (m : Message) → is_no_list m ≡ true → list_all sends_no_list (outs_to nodes m) ≡ true
no_list_to [] m listless = refl
no_list_to (n ∷ ns) m listless = rw listless (no_list_to ns m listless)

pub no_list_for_lost : (s : NodeState) (tx : TxId) (commit : Bool) (shares : List Share) (nodes : List NodeId) →
    list_all sends_no_list (finishes_for_lost s tx commit shares nodes) ≡ true
no_list_for_lost s tx commit shares [] = refl
no_list_for_lost s tx commit shares (n ∷ ns) =
    all_of_both sends_no_list (backup_finish_outs tx n commit (live_holders s shares n))
    (finishes_for_lost s tx commit shares ns)
    (no_list_to (live_holders s shares n) (msg.BackupFinish tx n commit) refl) (no_list_for_lost s tx commit shares ns)

pub no_list_decided : (s : NodeState) (tx : TxId) (commit : Bool) (e : TxEntry) →
    list_all sends_no_list (decision_outs s tx commit e) ≡ true
no_list_decided s tx commit e =
    all_of_both sends_no_list (outs_to (live_among s e.asked) (msg.Finish tx commit))
    (finishes_for_lost s tx commit e.shares (lost_among s e.asked))
    (no_list_to (live_among s e.asked) (msg.Finish tx commit) refl)
    (no_list_for_lost s tx commit e.shares (lost_among s e.asked))

pub no_list_left : (s : NodeState) (tx : TxId) (lost : NodeId) (e : TxEntry) →
    list_all sends_no_list (outs_after_left s tx lost e) ≡ true
no_list_left s tx lost e =
    elim (has node_cmp e.awaited lost) as (λ b.
    list_all sends_no_list (if b then backup_finish_outs tx lost (is_committing e.state) (live_holders s e.shares lost)
    else []) ≡ true) [
      | true ↦ no_list_to (live_holders s e.shares lost) (msg.BackupFinish tx lost (is_committing e.state)) refl
      | false ↦ refl
    ]

pub no_list_prepares : (s : NodeState) (tx : TxId) (top : TopVer) (e : TxEntry) (shares : List Share) (nodes : List NodeId) →
    list_all sends_no_list (prepare_outs s tx top e shares nodes) ≡ true
no_list_prepares s tx top e shares [] = refl
no_list_prepares s tx top e shares (n ∷ ns) = no_list_prepares s tx top e shares ns

pub no_list_backup_prepares : (s : NodeState) (tx : TxId) (top : TopVer) (shares : List Share) (writes : List Stored)
    (nodes : List NodeId) → list_all sends_no_list (backup_prepare_outs s tx top shares writes nodes) ≡ true
no_list_backup_prepares s tx top shares writes [] = refl
no_list_backup_prepares s tx top shares writes (n ∷ ns) = no_list_backup_prepares s tx top shares writes ns

pub no_list_near : (s : NodeState) (tx : TxId) (writes : List Stored) → list_all sends_no_list (near_outs s tx writes) ≡ true
no_list_near s tx [] = refl
no_list_near s tx (w ∷ ws) =
    all_of_both sends_no_list (outs_to (readers_but_me s w.key) (msg.NearUpdate tx w.key w.value w.ver)) (near_outs s tx ws)
    (no_list_to (readers_but_me s w.key) (msg.NearUpdate tx w.key w.value w.ver) refl) (no_list_near s tx ws)

no_list_demands_of : (me : NodeId) (top : TopVer) (part : ℕ) (row : Row) (primary : Option NodeId) →
    list_all sends_no_list (demands_of me top part row primary) ≡ true
no_list_demands_of me top part row None = refl
no_list_demands_of me top part row (Some primary) =
    elim (has_node row.movers me) as (λ b.
    list_all sends_no_list (if b then record { to = primary; msg = msg.Demand top part None } ∷ [] else []) ≡ true) [
      | true ↦ refl
      | false ↦ refl
    ]

pub no_list_demands : (me : NodeId) (top : TopVer) (part : ℕ) (rows : List Row) →
    list_all sends_no_list (demand_outs me top part rows) ≡ true
no_list_demands me top part [] = refl
no_list_demands me top part (row ∷ rows) =
    all_of_both sends_no_list (demands_of me top part row (first_owner row)) (demand_outs me top (capped part 1) rows)
    (no_list_demands_of me top part row (first_owner row)) (no_list_demands me top (capped part 1) rows)
