-- Plain rows are quiet, and what is quiet keeps the invariant.
use Rattle.std.proofs.Common.{◌≡◌, ◌≤◌, ◌+◌, ◌++◌, ◌&&◌, arith, List, [], ◌∷◌, Option, Some, None, Bool, true, false, refl, ap, sym, subst, ◌∙◌}
use Rattle.std.specs.List.{list_all}
use Rattle.frame_laws.specs.Extending.{is_own}
use Rattle.frame_laws.specs.Kits.{ClosedUnderSteps, PlainFrame, is_exchange, is_plain_message, is_plain_out}
use Rattle.frame_laws.proofs.Extending.{append_none, append_twice}
use Rattle.frame_laws.proofs.Plain.{both_plain}
use Rattle.act_rows.specs.Locks.{after_grant, after_leave, after_lock_behind, after_pass_on, after_release, is_owner, owner_at, with_queued}
use Rattle.act_rows.specs.Steps.{installed_top, with_note, with_outs}
use Rattle.ignite_types.specs.declared.journal.Rec.{Rec}
use Rattle.ignite_types.specs.declared.message.Message.{Message}
use Rattle.ignite_types.specs.declared.message.Out.{Out}
use Rattle.ignite_types.specs.declared.names.NodeId.{NodeId}
use Rattle.ignite_types.specs.declared.names.TopVer.{TopVer}
use Rattle.ignite_types.specs.declared.names.TxId.{TxId}
use Rattle.ignite_types.specs.declared.text.Key.{Key}
use Rattle.link_laws.proofs.Journals.{first_rest}
use Rattle.node_state.specs.Node.{NodeState}
use Rattle.topology_laws.specs.TopologyFacts.{HoldsOfEach, IsUpTo, NodeFits, MessageTells, opens_in_exchange, is_opens_of, opens_in_outbox}
use Rattle.topology_laws.specs.TopologyInvariant.{HoldsInTopologyAct}
use Rattle.topology_laws.specs.LeavesTopology.{LeavesTopology, says_no_topology}
use Rattle.topology_laws.specs.TopologyScenes.{TopologyScene, TopologyState, topology_in_act, topology_state}
use Rattle.topology_laws.proofs.Lists.{each_both}
use Rattle.topology_laws.proofs.Steps.{calm_good, no_more}
use Rattle.topology_laws.proofs.Counts.{count_parts, plain_out}
use Rattle.ignite_types.specs.Names.{same_node}
use Rattle.ignite_types.specs.declared.message.Message.TheVariants as msg
use Rattle.ignite_types.specs.declared.journal.Rec.TheVariants as note

both_quiet : (xs ys : List Rec) → list_all says_no_topology xs ≡ true → list_all says_no_topology ys ≡ true →
    list_all says_no_topology (xs ++ ys) ≡ true
both_quiet [] ys first second = second
both_quiet (x ∷ xs) ys first second =
    let both = first_rest (says_no_topology x) (list_all says_no_topology xs) first in
    rw both.0 (both_quiet xs ys both.1 second)

-- nothing is noted or sent
pub aside : (before after : NodeState) → after.noted ≡ before.noted → topology_state after ≡ topology_state before →
    LeavesTopology before after
aside before after noted same = record {
  more = [];
  noted_is = noted ∙ sym (append_none before.noted);
  quiet = refl;
  sent = [];
  plain = refl;
  face_is = same ∙ ap (λ outs. record (topology_state before) { outbox = outs }) (sym (append_none before.outbox));
}

pub nothing : (s : NodeState) → LeavesTopology s s
nothing s = aside s s refl refl

pub andthen : (a b c : NodeState) → LeavesTopology a b → LeavesTopology b c → LeavesTopology a c
andthen a b c first second = record {
  more = first.more ++ second.more;
  noted_is = second.noted_is ∙ ap (λ rs. rs ++ second.more) first.noted_is ∙ append_twice a.noted first.more second.more;
  quiet = both_quiet first.more second.more first.quiet second.quiet;
  sent = first.sent ++ second.sent;
  plain = both_plain first.sent second.sent first.plain second.plain;
  face_is =
      second.face_is
      ∙ ap (λ (f : TopologyState). record f { outbox = f.outbox ++ second.sent }) first.face_is
      ∙ ap (λ outs. record (topology_state a) { outbox = outs }) (append_twice a.outbox first.sent second.sent);
}

own_quiet : (r : Rec) → is_own r ≡ true → is_exchange r ≡ false → says_no_topology r ≡ true
own_quiet (note.Install m) own other = absurd (cc (other))
own_quiet (note.Opened top) own other = absurd (cc (other))
own_quiet (note.Lost node) own other = absurd (cc (own))
own_quiet _ own other = refl

pub noting_quiet : (s : NodeState) (r : Rec) → says_no_topology r ≡ true → LeavesTopology s (with_note s r)
noting_quiet s r quiet = record {
  more = r ∷ [];
  noted_is = refl;
  quiet = rw quiet refl;
  sent = [];
  plain = refl;
  face_is = ap (λ outs. record (topology_state s) { outbox = outs }) (sym (append_none s.outbox));
}

sent_quiet : (s : NodeState) (outs : List Out) → list_all is_plain_out outs ≡ true → LeavesTopology s (with_outs s outs)
sent_quiet s outs plain = record {
  more = [];
  noted_is = sym (append_none s.noted);
  quiet = refl;
  sent = outs;
  plain = plain;
  face_is = refl;
}

enqueued_quiet : (s : NodeState) (tx : TxId) (key : Key) → LeavesTopology s (with_queued s tx key)
enqueued_quiet s tx key = aside s (with_queued s tx key) refl refl

grants_quiet : (s : NodeState) (to : NodeId) (tx : TxId) (top : TopVer) (key : Key) →
    LeavesTopology s (after_grant s to tx top key)
grants_quiet s to tx top key = andthen s (with_note s (note.Grant tx top key)) (after_grant s to tx top key)
    (noting_quiet s (note.Grant tx top key) refl) (sent_quiet (with_note s (note.Grant tx top key)) _ refl)

placed_quiet : (s : NodeState) (from : NodeId) (tx : TxId) (top : TopVer) (key : Key) (owner : Option TxId) →
    LeavesTopology s (after_lock_behind s from tx top key owner)
placed_quiet s from tx top key None = andthen s (with_queued s tx key) (after_grant (with_queued s tx key) from tx top key)
    (enqueued_quiet s tx key) (grants_quiet (with_queued s tx key) from tx top key)
placed_quiet s from tx top key (Some owner) =
    andthen s (with_queued s tx key) (with_note (with_queued s tx key) (note.Queue tx key owner)) (enqueued_quiet s tx key)
    (noting_quiet (with_queued s tx key) (note.Queue tx key owner) refl)

passed_on_quiet : (s : NodeState) (key : Key) (was_owner : Bool) (owner : Option TxId) →
    LeavesTopology s (after_pass_on s key was_owner owner)
passed_on_quiet s key true (Some next) = grants_quiet s next.node next (installed_top s) key
passed_on_quiet s key true None = nothing s
passed_on_quiet s key false owner = nothing s

released_quiet : (s : NodeState) (tx : TxId) (key : Key) → LeavesTopology s (after_release s tx key)
released_quiet s tx key =
    let left = after_leave s tx key in
    let after = with_note left (note.Drop tx key) in
    andthen s after (after_release s tx key)
    (andthen s left after (aside s left refl refl) (noting_quiet left (note.Drop tx key) refl))
    (passed_on_quiet after key (is_owner tx (owner_at s key)) (owner_at after key))

abbrev face_in : PlainFrame → TopologyState
face_in c = record {
  me = c.me;
  read = c.read;
  known = record { top = c.seen; members = c.members; running = c.running };
  installed = c.installed;
  singles = c.singles;
  exchange = c.exchange;
  outbox = c.outbox;
}

-- every plain row is quiet
pub quieting : ClosedUnderSteps LeavesTopology
quieting = record {
  nothing = nothing;
  andthen = andthen;
  aside = λ before after same. aside before after (ap (λ (c : PlainFrame). c.noted) same) (ap face_in same);
  noting = λ s r own lockless other. noting_quiet s r (own_quiet r own other);
  sent_all = sent_quiet;
  placed = λ s from tx top key. placed_quiet s from tx top key (owner_at s key);
  released = released_quiet;
  owned = λ s tx top key free. andthen s (with_queued s tx key) (with_note (with_queued s tx key) (note.Grant tx top key))
      (enqueued_quiet s tx key) (noting_quiet (with_queued s tx key) (note.Grant tx top key) refl);
}

-- A plain message tells nothing.

plain_tells : (sc : TopologyScene) (from to : NodeId) (m : Message) → is_plain_message m ≡ true → MessageTells sc from to m
plain_tells sc from to (msg.Single top m complete) plain = absurd (cc (plain))
plain_tells sc from to (msg.Full m) plain = absurd (cc (plain))
plain_tells sc from to (msg.Installed top) plain = absurd (cc (plain))
plain_tells sc from to (msg.Opens top) plain = absurd (cc (plain))
plain_tells sc from to _ plain = tt

pub all_tell : (sc : TopologyScene) (n : NodeId) (outs : List Out) → list_all is_plain_out outs ≡ true →
    HoldsOfEach (λ (o : Out). MessageTells sc n o.to o.msg) outs
all_tell sc n [] plain = tt
all_tell sc n (o ∷ os) plain =
    let both = first_rest (is_plain_out o) (list_all is_plain_out os) plain in
    (plain_tells sc n o.to o.msg both.0, all_tell sc n os both.1)

pub quiet_good : (sc : TopologyScene) (n : NodeId) (a b : NodeState) → LeavesTopology a b → HoldsInTopologyAct sc n a →
    HoldsInTopologyAct sc n b
quiet_good sc n a b q good =
    calm_good sc n a b q.more q.noted_is q.quiet
    (λ top up. subst (λ (f : TopologyState). IsUpTo top f.known.top) (sym q.face_is) up)
    (ap (λ (f : TopologyState). f.installed) q.face_is)
    good
    (no_more sc n a b good (λ to v. held_no_more to v))
    (λ later k. subst (λ (f : TopologyState). NodeFits (topology_in_act sc n b) n f) (sym q.face_is) (record {
      me_is = k.me_is;
      not_lost = k.not_lost;
      member = k.member;
      within = k.within;
      known_is = k.known_is;
      map_fits = k.map_fits;
      map_member = k.map_member;
      exchange_fits = k.exchange_fits;
      exchange_oldest = k.exchange_oldest;
      singles_tell = k.singles_tell;
      outbox_tells = each_both (λ (o : Out). MessageTells (topology_in_act sc n b) n o.to o.msg) a.outbox q.sent
          k.outbox_tells (all_tell (topology_in_act sc n b) n q.sent q.plain);
    }))
  where
    held_no_more : (to : NodeId) (v : TopVer) → opens_in_outbox v to b.outbox + opens_in_exchange v b.exchange
        ≤ opens_in_outbox v to a.outbox + opens_in_exchange v a.exchange
    held_no_more to v =
        let parts : opens_in_outbox v to (a.outbox ++ q.sent) ≡ opens_in_outbox v to a.outbox + opens_in_outbox v to q.sent =
        count_parts (λ (o : Out). same_node o.to to && is_opens_of v o.msg) a.outbox q.sent in
        let nothing = plain_out v to q.sent q.plain in
        let fewer : opens_in_outbox v to (a.outbox ++ q.sent) + opens_in_exchange v a.exchange ≤ opens_in_outbox v to a.outbox
        + opens_in_exchange v a.exchange = omega (arith, parts, nothing) in
        subst (λ (f : TopologyState). opens_in_outbox v to f.outbox + opens_in_exchange v f.exchange
        ≤ opens_in_outbox v to a.outbox + opens_in_exchange v a.exchange) (sym q.face_is) fewer

-- The same with the invariant itself as the relation: a row keeps it because its steps do.
pub good_kit : (sc : TopologyScene) (n : NodeId) → ClosedUnderSteps (λ (a b : NodeState). HoldsInTopologyAct sc n a →
    HoldsInTopologyAct sc n b)
good_kit sc n = record {
  nothing = λ s good. good;
  andthen = λ a b c first second good. second (first good);
  aside = λ before after same. quiet_good sc n before after (quieting.aside before after same);
  noting = λ s r own lockless other. quiet_good sc n s (with_note s r) (quieting.noting s r own lockless other);
  sent_all = λ s outs plain. quiet_good sc n s (with_outs s outs) (sent_quiet s outs plain);
  placed = λ s from tx top key. quiet_good sc n s (after_lock_behind s from tx top key (owner_at s key))
      (quieting.placed s from tx top key);
  released = λ s tx key. quiet_good sc n s (after_release s tx key) (quieting.released s tx key);
  owned = λ s tx top key free. quiet_good sc n s (with_note (with_queued s tx key) (note.Grant tx top key))
      (quieting.owned s tx top key free);
}
