-- One more node's messages among the possible acts, and one more node's inbox.
use Rattle.std.proofs.Common.{◌≡◌, ℕ, ◌+◌, ◌<◌, List, [], ◌∷◌, ◌++◌, Option, Some, None, length, drop, get_or, map, slice_set, suc, add-one, drop-cons, append_assoc, refl, sym, ap, ◌∙◌}
use Rattle.std.proofs.lemmas.Option.{slice_get-get_or}
use Rattle.act_rows.specs.Acts.{Acted, call_act, expire_act, join_act, message_act, see_act}
use Rattle.ignite_types.specs.declared.journal.Event.{Event}
use Rattle.ignite_types.specs.declared.journal.Event.TheVariants as event
use Rattle.ignite_types.specs.declared.journal.Rec.{Rec}
use Rattle.ignite_types.specs.declared.journal.Rec.TheVariants as note
use Rattle.node_state.specs.declared.life.Life.TheVariants as life
use Rattle.ignite_types.specs.declared.names.NodeId.{NodeId}
use Rattle.ignite_types.specs.declared.names.TxId.{TxId}
use Rattle.node_state.specs.Node.{NodeState}
use Rattle.tx_model.specs.World.{Outcome, Part, World, act_outcome, act_outcome_from, call_outcome, expire_outcome, inbox_on, join_outcome, outcome_of_act, part_on, plan_outcome_with, possible_acts, possible_of, see_outcome, see_outcome_of, unchanged, with_inbox}
use Rattle.world_core.specs.Run.{Run, next_for}
use Rattle.tx_model.specs.Opening.{opening_inboxes}
use Rattle.part_model.specs.Directory.{Directory, directory_after_join, event_at}
use Rattle.part_model.specs.Links.{Inbox, inbox_after_pop, new_inbox, oldest_in}
use Rattle.ignite_types.specs.declared.journal.TopoEvent.{TopoEvent}
use Rattle.ignite_types.specs.declared.journal.TopoEvent.TheVariants as topo
use Rattle.ignite_types.specs.declared.message.Message.{Message}
use Rattle.ignite_types.specs.declared.scenario.Member.{Member}

pub acts_more : (w : World) (senders : List NodeId) (parts : List Part) (i : ℕ) (d : Part) (events next whole : List Event)
    (id : NodeId) → i < length parts → id ≡ (get_or parts i d).node.me →
    next ≡ events ++ possible_of w (map (event.Act id) senders) →
    events ++ possible_acts w senders (map (λ (p : Part). p.node.me) (drop i parts)) ≡ whole →
    next ++ possible_acts w senders (map (λ (p : Part). p.node.me) (drop (i + 1) parts)) ≡ whole
acts_more w senders parts i d events next whole id inside named added h =
    let split : drop i parts ≡ get_or parts i d ∷ drop (suc i) parts = drop-cons parts i d inside in
    rw (added, add-one, append_assoc, named) (rw split at h)

-- one more node's inbox
pub inboxes_more : (senders ids : List NodeId) (i : ℕ) (d : NodeId) (made next whole : List Inbox) (inbox : Inbox) →
    i < length ids → next ≡ made ++ inbox ∷ [] → inbox ≡ new_inbox senders → made ++ opening_inboxes senders (drop i ids)
    ≡ whole → next ++ opening_inboxes senders (drop (i + 1) ids) ≡ whole
inboxes_more senders ids i d made next whole inbox inside added is h =
    let split : drop i ids ≡ get_or ids i d ∷ drop (suc i) ids = drop-cons ids i d inside in
    rw (added, add-one, append_assoc, is) (rw split at h)

-- An act of the node at a place, whatever it is.

abbrev pub acts_at : (NodeState → Acted) → World → Option ℕ → Option Part → Outcome
acts_at f w (Some place) (Some p) = outcome_of_act w place p (f p.node)
acts_at f w _ _ = unchanged w

pub there_is : (w : World) (place : ℕ) (q given : Part) → place < length w.parts → q ≡ given →
    given ≡ get_or w.parts place given → part_on w (Some place) ≡ Some q
there_is w place q given inside is at = slice_get-get_or w.parts place given inside
    ∙ ap (λ (p : Part). Some p) (sym at ∙ sym is)

acts_is : (f : NodeState → Acted) (w : World) (place : ℕ) (q given : Part) (found : Option ℕ) → found ≡ Some place →
    place < length w.parts → q ≡ given → given ≡ get_or w.parts place given →
    acts_at f w found (part_on w found) ≡ outcome_of_act w place q (f q.node)
acts_is f w place q given found here inside is at =
    ap (λ (place' : Option ℕ). acts_at f w place' (part_on w place')) here
    ∙ ap (λ (p : Option Part). acts_at f w (Some place) p) (there_is w place q given inside is at)

pub acts_world : (f : NodeState → Acted) (r : Run) (place : ℕ) (q given : Part) (node : NodeState) (found : Option ℕ) →
    found ≡ Some place → place < length r.now.parts → q ≡ given → given ≡ get_or r.now.parts place given →
    node ≡ (f q.node).state →
    record r { now = record r.now { parts = slice_set r.now.parts place (record { node = node; life = q.life }) } }
    ≡ record r { now = (acts_at f r.now found (part_on r.now found)).world }
acts_world f r place q given node found here inside is at state =
    ap (λ (s : NodeState). record r {
      now =
          record r.now { parts = slice_set r.now.parts place (record { node = s; life = q.life }) };
    }) state
    ∙ sym (ap (λ (o : Outcome). record r { now = o.world }) (acts_is f r.now place q given found here inside is at))

pub acts_recs : (f : NodeState → Acted) (r : Run) (place : ℕ) (q given : Part) (recs : List Rec) (found : Option ℕ) →
    found ≡ Some place → place < length r.now.parts → q ≡ given → given ≡ get_or r.now.parts place given →
    recs ≡ (f q.node).recs → recs ≡ (acts_at f r.now found (part_on r.now found)).recs
acts_recs f r place q given recs found here inside is at same =
    same ∙ sym (ap (λ (o : Outcome). o.recs) (acts_is f r.now place q given found here inside is at))

pub expires_as : (w : World) (tx : TxId) (place : Option ℕ) (p : Option Part) →
    acts_at (λ (s : NodeState). expire_act s tx) w place p ≡ expire_outcome w tx place p
expires_as w tx (Some place) (Some p) = refl
expires_as w tx (Some place) None = refl
expires_as w tx None p = refl

pub calls_as : (w : World) (session : ℕ) (place : Option ℕ) (p : Option Part) →
    acts_at (λ (s : NodeState). call_act s session) w place p ≡ call_outcome w session place p
calls_as w session (Some place) (Some p) = refl
calls_as w session (Some place) None = refl
calls_as w session None p = refl

-- A message is taken.

pub inbox_is : (w : World) (place : ℕ) (given : Inbox) → place < length w.inboxes → given ≡ get_or w.inboxes place given →
    inbox_on w (Some place) ≡ Some given
inbox_is w place given inside at = slice_get-get_or w.inboxes place given inside ∙ ap (λ (i : Inbox). Some i) (sym at)

takes_is : (w : World) (from : NodeId) (place : ℕ) (q : Part) (inbox : Inbox) (m : Message) (found : Option ℕ) →
    found ≡ Some place → part_on w (Some place) ≡ Some q → inbox_on w (Some place) ≡ Some inbox →
    oldest_in inbox from ≡ Some m → act_outcome w from found (part_on w found) (inbox_on w found) ≡ outcome_of_act
    (with_inbox w place (inbox_after_pop inbox from)) place q (message_act q.node from m)
takes_is w from place q inbox m found here there kept first =
    ap (λ (f : Option ℕ). act_outcome w from f (part_on w f) (inbox_on w f)) here
    ∙ ap (λ (p : Option Part). act_outcome w from (Some place) p (inbox_on w (Some place))) there
    ∙ ap (λ (i : Option Inbox). act_outcome w from (Some place) (Some q) i) kept
    ∙ ap (λ (o : Option Message). act_outcome_from w place q inbox from o) first

pub takes_world : (r : Run) (from : NodeId) (place : ℕ) (q : Part) (inbox rest : Inbox) (m : Message) (node : NodeState)
    (found : Option ℕ) → found ≡ Some place → part_on r.now (Some place) ≡ Some q → inbox_on r.now (Some place) ≡ Some inbox →
    oldest_in inbox from ≡ Some m → rest ≡ inbox_after_pop inbox from → node ≡ (message_act q.node from m).state →
    record r {
      now = record r.now {
        parts = slice_set r.now.parts place (record { node = node; life = q.life });
        inboxes =
            slice_set r.now.inboxes place rest;
      };
    } ≡ record r {
      now =
          (act_outcome r.now from found (part_on r.now found) (inbox_on r.now found)).world;
    }
takes_world r from place q inbox rest m node found here there kept first left state =
    ap (λ (s : NodeState). record r {
      now =
          record r.now {
            parts = slice_set r.now.parts place (record { node = s; life = q.life });
            inboxes =
                slice_set r.now.inboxes place rest;
          };
    }) state
    ∙ ap (λ (i : Inbox). record r {
      now =
          record r.now {
            parts = slice_set r.now.parts place (record {
              node = (message_act q.node from m).state;
              life =
                  q.life;
            });
            inboxes = slice_set r.now.inboxes place i;
          };
    }) left
    ∙ sym (ap (λ (o : Outcome). record r { now = o.world }) (takes_is r.now from place q inbox m found here there kept first))

pub takes_recs : (r : Run) (from : NodeId) (place : ℕ) (q : Part) (inbox : Inbox) (m : Message) (recs : List Rec)
    (found : Option ℕ) → found ≡ Some place → part_on r.now (Some place) ≡ Some q → inbox_on r.now (Some place) ≡ Some inbox →
    oldest_in inbox from ≡ Some m → recs ≡ (message_act q.node from m).recs →
    recs ≡ (act_outcome r.now from found (part_on r.now found) (inbox_on r.now found)).recs
takes_recs r from place q inbox m recs found here there kept first same =
    same ∙ sym (ap (λ (o : Outcome). o.recs) (takes_is r.now from place q inbox m found here there kept first))

-- An event is seen.

sees_is : (w : World) (place : ℕ) (q : Part) (e : Option TopoEvent) (found : Option ℕ) → found ≡ Some place →
    part_on w (Some place) ≡ Some q → event_at w.directory q.node.read ≡ e →
    see_outcome w found (part_on w found) ≡ see_outcome_of w place q e
sees_is w place q e found here there next =
    ap (λ (f : Option ℕ). see_outcome w f (part_on w f)) here
    ∙ ap (λ (p : Option Part). see_outcome w (Some place) p) there
    ∙ ap (λ (o : Option TopoEvent). see_outcome_of w place q o) next

pub sees_world : (r : Run) (place : ℕ) (q : Part) (e : TopoEvent) (node : NodeState) (found : Option ℕ) → found ≡ Some place →
    part_on r.now (Some place) ≡ Some q → event_at r.now.directory q.node.read ≡ Some e → node ≡ (see_act q.node e).state →
    record r { now = record r.now { parts = slice_set r.now.parts place (record { node = node; life = q.life }) } }
    ≡ record r { now = (see_outcome r.now found (part_on r.now found)).world }
sees_world r place q e node found here there next state =
    ap (λ (s : NodeState). record r {
      now =
          record r.now { parts = slice_set r.now.parts place (record { node = s; life = q.life }) };
    }) state
    ∙ sym (ap (λ (o : Outcome). record r { now = o.world }) (sees_is r.now place q (Some e) found here there next))

pub sees_recs : (r : Run) (place : ℕ) (q : Part) (e : TopoEvent) (recs : List Rec) (found : Option ℕ) → found ≡ Some place →
    part_on r.now (Some place) ≡ Some q → event_at r.now.directory q.node.read ≡ Some e → recs ≡ (see_act q.node e).recs →
    recs ≡ (see_outcome r.now found (part_on r.now found)).recs
sees_recs r place q e recs found here there next same =
    same ∙ sym (ap (λ (o : Outcome). o.recs) (sees_is r.now place q (Some e) found here there next))

-- of no event nothing comes
pub sees_nothing : (w : World) (place : Option ℕ) (p : Option Part) → next_for w p ≡ None → see_outcome w place p ≡ unchanged w
sees_nothing w (Some place) (Some p) none = ap (λ (e : Option TopoEvent). see_outcome_of w place p e) none
sees_nothing w (Some place) None none = refl
sees_nothing w None p none = refl

-- A node joins.

joins_is : (w : World) (member : Member) (place : ℕ) (q : Part) (found : Option ℕ) → found ≡ Some place →
    part_on w (Some place) ≡ Some q → join_outcome w member w.directory found (part_on w found)
    ≡ join_outcome w member w.directory (Some place) (Some q)
joins_is w member place q found here there =
    ap (λ (f : Option ℕ). join_outcome w member w.directory f (part_on w f)) here
    ∙ ap (λ (p : Option Part). join_outcome w member w.directory (Some place) p) there

abbrev pub entered : Run → ℕ → Part → Directory → Run
entered r place p d = record r { now = record r.now { parts = slice_set r.now.parts place p; directory = d } }

abbrev pub own_join : World → Member → Part → Acted
own_join w member q = join_act q.node w.directory.events w.directory.clock (topo.Join member)

pub joins_world : (r : Run) (member : Member) (place : ℕ) (q p : Part) (d : Directory) (recs : List Rec) (found : Option ℕ) →
    found ≡ Some place → part_on r.now (Some place) ≡ Some q → p ≡ record {
      node = (own_join r.now member q).state;
      life =
          life.Alive;
    } → d ≡ directory_after_join r.now.directory member →
    record (entered r place p d) { now = (plan_outcome_with (entered r place p d).now d None recs).world } ≡ record r {
      now =
          (join_outcome r.now member r.now.directory found (part_on r.now found)).world;
    }
joins_world r member place q p d recs found here there part list =
    ap (λ (x : Part). record (entered r place x d) { now = (plan_outcome_with (entered r place x d).now d None recs).world })
    part
    ∙ ap (λ (y : Directory).
    record (entered r place (record { node = (own_join r.now member q).state; life = life.Alive }) y) {
      now =
          (plan_outcome_with (entered r place (record { node = (own_join r.now member q).state; life = life.Alive }) y).now y
          None recs).world;
    }) list
    ∙ sym (ap (λ (o : Outcome). record r { now = o.world }) (joins_is r.now member place q found here there))

pub joins_recs : (r : Run) (member : Member) (place : ℕ) (q p : Part) (d : Directory) (recs : List Rec) (found : Option ℕ) →
    found ≡ Some place → part_on r.now (Some place) ≡ Some q → recs ≡ (own_join r.now member q).recs →
    d ≡ directory_after_join r.now.directory member → (plan_outcome_with (entered r place p d).now d None recs).recs
    ≡ (join_outcome r.now member r.now.directory found (part_on r.now found)).recs
joins_recs r member place q p d recs found here there same list =
    ap (λ (x : List Rec). note.Planned d.done None ∷ x) same
    ∙ ap (λ (y : Directory). note.Planned y.done None ∷ (own_join r.now member q).recs) list
    ∙ sym (ap (λ (o : Outcome). o.recs) (joins_is r.now member place q found here there))
