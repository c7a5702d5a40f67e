-- Plain rows leave maps alone, and so do the rows of the exchange that neither bring a Single nor install a map.
use Rattle.std.proofs.Common.{◌≡◌, ◌++◌, List, [], ◌∷◌, Option, Some, None, Bool, true, false, if◌then◌else◌, refl, ap, sym, ◌∙◌}
use Rattle.std.specs.List.{list_all}
use Rattle.frame_laws.proofs.Closing.{near_on_kept}
use Rattle.frame_laws.proofs.Extending.{append_none, append_twice}
use Rattle.frame_laws.proofs.Primary.{shares_on_kept}
use Rattle.frame_laws.proofs.Starts.{starts_all_kept}
use Rattle.frame_laws.specs.Extending.{is_own}
use Rattle.frame_laws.specs.Kits.{ClosedUnderSteps, PlainFrame, is_exchange}
use Rattle.act_rows.specs.Closing.{after_advance_starter, after_closing_rules, after_send_single, after_single_if_drained, owes_single}
use Rattle.act_rows.specs.Exchange.{after_count, after_count_installed, after_installed, after_learn, after_open_for_all, after_opens, after_send_demands, all_installed, others_seen}
use Rattle.act_rows.specs.Locks.{after_grant, after_leave, after_lock_behind, after_pass_on, after_release, is_owner, owner_at, with_queued}
use Rattle.act_rows.specs.Primary.{after_advance_shares, own_txs}
use Rattle.act_rows.specs.Starts.{after_start_all}
use Rattle.act_rows.specs.Steps.{installed_top, oldest_seen, outs_to, with_note, with_out, with_out_to_oldest, with_outs}
use Rattle.ignite_types.specs.Names.{same_top, node_cmp}
use Rattle.ignite_types.specs.declared.journal.Rec.{Rec}
use Rattle.ignite_types.specs.declared.journal.TopoEvent.{TopoEvent}
use Rattle.ignite_types.specs.declared.message.Message.{Message}
use Rattle.ignite_types.specs.declared.names.NodeId.{NodeId}
use Rattle.ignite_types.specs.declared.names.TopVer.{TopVer}
use Rattle.ignite_types.specs.declared.names.TxId.{TxId}
use Rattle.ignite_types.specs.declared.text.Key.{Key}
use Rattle.link_laws.proofs.Journals.{first_rest}
use Rattle.map_laws.specs.LeavesMaps.{LeavesMaps, says_no_map}
use Rattle.node_state.specs.Node.{NodeState}
use Rattle.node_state.specs.declared.topology.Exchange.{Exchange}
use Rattle.ordered_set.specs.Members.{with_member}
use Rattle.ignite_types.specs.declared.message.Message.TheVariants as msg
use Rattle.ignite_types.specs.declared.journal.Rec.TheVariants as note

both_silent : (xs ys : List Rec) → list_all says_no_map xs ≡ true → list_all says_no_map ys ≡ true →
    list_all says_no_map (xs ++ ys) ≡ true
both_silent [] ys first second = second
both_silent (x ∷ xs) ys first second =
    let both = first_rest (says_no_map x) (list_all says_no_map xs) first in
    rw both.0 (both_silent xs ys both.1 second)

-- nothing is noted
pub aside : (before after : NodeState) → after.noted ≡ before.noted → after.caches ≡ before.caches →
    after.installed ≡ before.installed → after.singles ≡ before.singles → LeavesMaps before after
aside before after noted caches map_is singles = record {
  more = [];
  noted_is = noted ∙ sym (append_none before.noted);
  silent = refl;
  same_caches = caches;
  same_map = map_is;
  same_singles = singles;
}

pub nothing : (s : NodeState) → LeavesMaps s s
nothing s = aside s s refl refl refl refl

pub andthen : (a b c : NodeState) → LeavesMaps a b → LeavesMaps b c → LeavesMaps a c
andthen a b c first second = record {
  more = first.more ++ second.more;
  noted_is = second.noted_is ∙ ap (λ rs. rs ++ second.more) first.noted_is ∙ append_twice a.noted first.more second.more;
  silent = both_silent first.more second.more first.silent second.silent;
  same_caches = second.same_caches ∙ first.same_caches;
  same_map = second.same_map ∙ first.same_map;
  same_singles = second.same_singles ∙ first.same_singles;
}

own_silent : (r : Rec) → is_own r ≡ true → is_exchange r ≡ false → says_no_map r ≡ true
own_silent (note.Install m) own other = absurd (cc (other))
own_silent (note.Deliver from message) own other = absurd (cc (own))
own_silent (note.Lost node) own other = absurd (cc (own))
own_silent _ own other = refl

pub noting_leaves : (s : NodeState) (r : Rec) → says_no_map r ≡ true → LeavesMaps s (with_note s r)
noting_leaves s r silent = record {
  more = r ∷ [];
  noted_is = refl;
  silent = rw silent refl;
  same_caches = refl;
  same_map = refl;
  same_singles = refl;
}

grants_leaves : (s : NodeState) (to : NodeId) (tx : TxId) (top : TopVer) (key : Key) →
    LeavesMaps s (after_grant s to tx top key)
grants_leaves s to tx top key = andthen s (with_note s (note.Grant tx top key)) (after_grant s to tx top key)
    (noting_leaves s (note.Grant tx top key) refl) (aside (with_note s (note.Grant tx top key)) (after_grant s to tx top key)
    refl refl refl refl)

enqueued_leaves : (s : NodeState) (tx : TxId) (key : Key) → LeavesMaps s (with_queued s tx key)
enqueued_leaves s tx key = aside s (with_queued s tx key) refl refl refl refl

placed_leaves : (s : NodeState) (from : NodeId) (tx : TxId) (top : TopVer) (key : Key) (owner : Option TxId) →
    LeavesMaps s (after_lock_behind s from tx top key owner)
placed_leaves s from tx top key None = andthen s (with_queued s tx key) (after_grant (with_queued s tx key) from tx top key)
    (enqueued_leaves s tx key) (grants_leaves (with_queued s tx key) from tx top key)
placed_leaves s from tx top key (Some owner) =
    andthen s (with_queued s tx key) (with_note (with_queued s tx key) (note.Queue tx key owner)) (enqueued_leaves s tx key)
    (noting_leaves (with_queued s tx key) (note.Queue tx key owner) refl)

passed_on_leaves : (s : NodeState) (key : Key) (was_owner : Bool) (owner : Option TxId) →
    LeavesMaps s (after_pass_on s key was_owner owner)
passed_on_leaves s key true (Some next) = grants_leaves s next.node next (installed_top s) key
passed_on_leaves s key true None = nothing s
passed_on_leaves s key false owner = nothing s

released_leaves : (s : NodeState) (tx : TxId) (key : Key) → LeavesMaps s (after_release s tx key)
released_leaves s tx key =
    let left = after_leave s tx key in
    let after = with_note left (note.Drop tx key) in
    andthen s after (after_release s tx key)
    (andthen s left after (aside s left refl refl refl refl) (noting_leaves left (note.Drop tx key) refl))
    (passed_on_leaves after key (is_owner tx (owner_at s key)) (owner_at after key))

-- every plain row
pub leaving : ClosedUnderSteps LeavesMaps
leaving = record {
  nothing = nothing;
  andthen = andthen;
  aside = λ before after same. aside before after (ap (λ (f : PlainFrame). f.noted) same)
      (ap (λ (f : PlainFrame). f.caches) same) (ap (λ (f : PlainFrame). f.installed) same)
      (ap (λ (f : PlainFrame). f.singles) same);
  noting = λ s r own lockless other. noting_leaves s r (own_silent r own other);
  sent_all = λ s outs plain. aside s (with_outs s outs) refl refl refl refl;
  placed = λ s from tx top key. placed_leaves s from tx top key (owner_at s key);
  released = released_leaves;
  owned = λ s tx top key free. andthen s (with_queued s tx key) (with_note (with_queued s tx key) (note.Grant tx top key))
      (enqueued_leaves s tx key) (noting_leaves (with_queued s tx key) (note.Grant tx top key) refl);
}

-- Rows of the exchange.

pub learns_leaves : (s : NodeState) (e : TopoEvent) → LeavesMaps s (after_learn s e)
learns_leaves s e = aside s (after_learn s e) refl refl refl refl

pub opens_row_leaves : (s : NodeState) (top : TopVer) → LeavesMaps s (after_opens s top)
opens_row_leaves s top =
    let opening : NodeState = record s { opened = Some top } in
    let noted : NodeState = with_note opening (note.Opened top) in
    andthen s noted (after_opens s top)
    (andthen s opening noted (aside s opening refl refl refl refl) (noting_leaves opening (note.Opened top) refl))
    (andthen noted (after_start_all noted) (after_send_demands (after_start_all noted))
    (starts_all_kept LeavesMaps leaving noted) (aside (after_start_all noted) (after_send_demands (after_start_all noted))
    refl refl refl refl))

opens_for_all_leaves : (s : NodeState) (top : TopVer) → LeavesMaps s (after_open_for_all s top)
opens_for_all_leaves s top =
    let told : NodeState = with_outs (record s { exchange = None }) (outs_to (others_seen s) (msg.Opens top)) in
    andthen s told (after_opens told top) (aside s told refl refl refl refl) (opens_row_leaves told top)

pub counts_leaves : (s : NodeState) (x : Exchange) → LeavesMaps s (after_count s x)
counts_leaves s x =
    let here : NodeState = record s { exchange = Some x } in
    andthen s here (after_count s x) (aside s here refl refl refl refl) (by (all_installed here.members x.installed))
  where
    by : (c : Bool) → let here : NodeState = record s { exchange = Some x } in
        LeavesMaps here (if c then after_open_for_all here x.top else here)
    by true = opens_for_all_leaves (record s { exchange = Some x }) x.top
    by false = nothing (record s { exchange = Some x })

pub installed_row_leaves : (s : NodeState) (from : NodeId) (top : TopVer) → LeavesMaps s (after_installed s from top)
installed_row_leaves s from top = by s.exchange
  where
    counted : (x : Exchange) (c : Bool) →
        LeavesMaps s (if c then after_count s (record x { installed = with_member node_cmp x.installed from }) else s)
    counted x true = counts_leaves s (record x { installed = with_member node_cmp x.installed from })
    counted x false = nothing s

    by : (found : Option Exchange) → LeavesMaps s (after_count_installed s from top found)
    by None = nothing s
    by (Some x) = counted x (same_top x.top top)

single_if_drained_leaves : (s : NodeState) → LeavesMaps s (after_single_if_drained s)
single_if_drained_leaves s = by (owes_single s)
  where
    to_oldest : (m : Message) (to : Option NodeId) →
        LeavesMaps s (with_out_to_oldest (record s { single_sent = Some s.seen }) m to)
    to_oldest m None = aside s (record s { single_sent = Some s.seen }) refl refl refl refl
    to_oldest m (Some oldest) = aside s (with_out (record s { single_sent = Some s.seen }) oldest m) refl refl refl refl

    by : (c : Bool) → LeavesMaps s (if c then after_send_single s else s)
    by true = to_oldest (msg.Single s.seen s.installed s.complete) (oldest_seen s)
    by false = nothing s

pub closed_leaves : (s : NodeState) → LeavesMaps s (after_closing_rules s)
closed_leaves s =
    let shared = after_advance_shares s (own_txs s) in
    let first = after_advance_starter shared in
    let started = after_start_all first in
    let second = after_advance_starter started in
    andthen s second (after_closing_rules s)
    (andthen s shared second (shares_on_kept LeavesMaps leaving s (own_txs s))
    (andthen shared first second (near_on_kept LeavesMaps leaving shared)
    (andthen first started second (starts_all_kept LeavesMaps leaving first) (near_on_kept LeavesMaps leaving started))))
    (single_if_drained_leaves second)
