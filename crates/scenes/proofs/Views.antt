-- What events and sends do to a view, as equations.
use Rattle.std.proofs.Common.{◌≡◌, ◌&&◌, ◌++◌, ◌||◌, List, [], ◌∷◌, Some, None, Bool, true, false, if◌then◌else◌, refl, ap, sym, ◌∙◌}
use Rattle.std.specs.Prelude.{drop}
use Rattle.frame_laws.proofs.Extending.{append_none, append_twice}
use Rattle.act_rows.specs.Steps.{with_out}
use Rattle.ignite_types.proofs.NameLaws.{same_node_itself, same_node_true}
use Rattle.ignite_types.specs.Names.{same_node}
use Rattle.ignite_types.specs.declared.journal.Rec.{Rec}
use Rattle.ignite_types.specs.declared.message.Message.{Message}
use Rattle.ignite_types.specs.declared.message.Out.{Out}
use Rattle.ignite_types.specs.declared.names.NodeId.{NodeId}
use Rattle.journal_statements.specs.Noted.{Noted, noted_by}
use Rattle.link_laws.specs.Carrying.{is_gone}
use Rattle.node_state.specs.Node.{NodeState}
use Rattle.scenes.specs.Events.{IsReady, IsSound}
use Rattle.scenes.specs.Scenes.{Scene, scene_in_act, state_at_rest, scene_after_drop, scene_after_loss, either_state, scene_after_send, one_record, plan_records, links_after_take, states_with, scene_after_take}
use Rattle.scenes.specs.Views.{flight_unless_gone, view_after_loss, outbox_for, view_after_send, flight_view}
use Rattle.ignite_types.specs.declared.journal.Rec.TheVariants as note
use Rattle.node_state.specs.declared.life.Life.TheVariants as life

-- An act begins.

begun_state : (sc : Scene) (n : NodeId) (s : NodeState) → sc.state n ≡ state_at_rest s → (m : NodeId) (c : Bool) →
    same_node n m ≡ c → either_state c (state_at_rest s) (sc.state m) ≡ sc.state m
begun_state sc n s is m true same = sym is ∙ ap sc.state (same_node_true n m same)
begun_state sc n s is m false other = refl

-- before its first row a node that acts is as in its scene
pub begins : (sc : Scene) (n : NodeId) (s : NodeState) → IsReady sc n s → scene_in_act sc n s ≡ sc
begins sc n s r =
    ap (λ (rs : List Rec). record sc {
      state = states_with n (state_at_rest s) sc.state;
      recs =
          sc.recs ++ noted_by (Some n) rs;
    }) r.none_noted
    ∙ (λ i. record sc { state = λ m. begun_state sc n s r.state_is m (same_node n m) refl i; recs = append_none sc.recs i })

-- An outbox grows behind, and shrinks in front.

outs_push : (b : NodeId) (outs : List Out) (to : NodeId) (m : Message) →
    outbox_for b (outs ++ record { to = to; msg = m } ∷ []) ≡ outbox_for b outs ++ (if same_node to b then m ∷ [] else [])
outs_push b [] to m = refl
outs_push b (o ∷ outs) to m = by (same_node o.to b) (outs_push b outs to m)
  where
    by : (c : Bool) → outbox_for b (outs ++ record { to = to; msg = m } ∷ []) ≡ outbox_for b outs
        ++ (if same_node to b then m ∷ [] else [])
        → (if c then o.msg ∷ outbox_for b (outs ++ record { to = to; msg = m } ∷ []) else outbox_for b
        (outs ++ record { to = to; msg = m } ∷ [])) ≡ (if c then o.msg ∷ outbox_for b outs else outbox_for b outs)
        ++ (if same_node to b then m ∷ [] else [])
    by true rest = ap (λ ms. o.msg ∷ ms) rest
    by false rest = rest

-- what a node sends in its act is on its way
pub sent_view : (sc : Scene) (n : NodeId) (s : NodeState) (to : NodeId) (m : Message) →
    flight_view (scene_in_act sc n (with_out s to m)) ≡ view_after_send n to m (flight_view (scene_in_act sc n s))
sent_view sc n s to m = λ i. record (flight_view (scene_in_act sc n s)) {
  flight =
      λ a b. each a b (is_gone (sc.life a) || is_gone (sc.life b)) (same_node n a) (same_node to b) refl i;
}
  where
    each : (a b : NodeId) (gone c d : Bool) → same_node to b ≡ d
        → flight_unless_gone gone
        (sc.link a b ++ outbox_for b (if c then s.outbox ++ record { to = to; msg = m } ∷ [] else (sc.state a).outbox))
        ≡ (let old = flight_unless_gone gone (sc.link a b ++ outbox_for b (if c then s.outbox else (sc.state a).outbox))
        in if c && d then old ++ flight_unless_gone gone (m ∷ []) else old)
    each a b true true true is = refl
    each a b true true false is = refl
    each a b true false d is = refl
    each a b false true true is = ap (λ ms. sc.link a b ++ ms) (outs_push b s.outbox to m
        ∙ ap (λ (c : Bool). outbox_for b s.outbox ++ (if c then m ∷ [] else [])) is)
        ∙ sym (append_twice (sc.link a b) (outbox_for b s.outbox) (m ∷ []))
    each a b false true false is = ap (λ ms. sc.link a b ++ ms) (outs_push b s.outbox to m
        ∙ ap (λ (c : Bool). outbox_for b s.outbox ++ (if c then m ∷ [] else [])) is ∙ append_none (outbox_for b s.outbox))
    each a b false false d is = refl

-- A message leaves the outbox.
module _ (sc : Scene) (n : NodeId) (s : NodeState) (out : Out) (r : IsReady sc n s)
    (first : s.outbox ≡ out ∷ drop 1 s.outbox) where
  abbrev after : NodeState
  after = record s { outbox = drop 1 s.outbox }

  outbox_at : (a : NodeId) → same_node n a ≡ true → (sc.state a).outbox ≡ out ∷ drop 1 s.outbox
  outbox_at a same = ap (λ (x : NodeId). (sc.state x).outbox) (sym (same_node_true n a same))
      ∙ ap (λ (x : NodeState). x.outbox) r.state_is ∙ first

  state_then : (m : NodeId) (c : Bool) → same_node n m ≡ c → record (either_state c (state_at_rest after) (sc.state m)) {
    outbox = [];
  } ≡ record (sc.state m) { outbox = [] }
  state_then m true same = ap (λ (x : NodeState). record x { outbox = [] }) (sym r.state_is
      ∙ ap sc.state (same_node_true n m same))
  state_then m false other = refl

  sent_rec : List Noted
  sent_rec = one_record (Some n) (note.Sent out.to out.msg)

  recs_then : (sc.recs ++ one_record (Some n) (note.Sent out.to out.msg)) ++ noted_by (Some n) s.noted ≡ sc.recs ++ one_record
      (Some n) (note.Sent out.to out.msg)
  recs_then = ap (λ (rs : List Rec). (sc.recs ++ one_record (Some n) (note.Sent out.to out.msg)) ++ noted_by (Some n) rs)
      r.none_noted ∙ append_none (sc.recs ++ one_record (Some n) (note.Sent out.to out.msg))

  pub with_flight : (link : NodeId → NodeId → List Message) (flight : NodeId → NodeId → List Message)
      → ((a b : NodeId) → flight_unless_gone (is_gone (sc.life a) || is_gone (sc.life b))
      (link a b ++ outbox_for b (if same_node n a then drop 1 s.outbox else (sc.state a).outbox)) ≡ flight a b)
      → flight_view (scene_in_act
      (record sc { link = link; recs = sc.recs ++ one_record (Some n) (note.Sent out.to out.msg) }) n after)
      ≡ record (flight_view sc) { flight = flight; recs = sc.recs ++ one_record (Some n) (note.Sent out.to out.msg) }
  with_flight link flight same = λ i. record (flight_view sc) {
    state = λ m. state_then m (same_node n m) refl i;
    flight = λ a b. same a b i;
    recs = recs_then i;
  }

  -- it is on its way as before
  pub moved_view : flight_view (scene_in_act (scene_after_send sc n out) n after) ≡ record (flight_view sc) {
    recs =
        sc.recs ++ one_record (Some n) (note.Sent out.to out.msg);
  }
  moved_view = with_flight (scene_after_send sc n out).link (flight_view sc).flight
      (λ a b. each a b (is_gone (sc.life a) || is_gone (sc.life b)) (same_node n a) refl (same_node out.to b) refl)
    where
      each : (a b : NodeId) (gone c : Bool) → same_node n a ≡ c → (d : Bool) → same_node out.to b ≡ d
          → flight_unless_gone gone ((if c && d then sc.link a b ++ out.msg ∷ [] else sc.link a b) ++ outbox_for b
          (if c then drop 1 s.outbox else (sc.state a).outbox)) ≡ flight_unless_gone gone
          (sc.link a b ++ outbox_for b (sc.state a).outbox)
      each a b true c from d to = refl
      each a b false true from true to = append_twice (sc.link a b) (out.msg ∷ []) (outbox_for b (drop 1 s.outbox))
          ∙ sym (ap (λ os. sc.link a b ++ outbox_for b os) (outbox_at a from)
          ∙ ap (λ (c : Bool). sc.link a b ++ (if c then out.msg ∷ outbox_for b (drop 1 s.outbox) else outbox_for b
          (drop 1 s.outbox))) to)
      each a b false true from false to = sym (ap (λ os. sc.link a b ++ outbox_for b os) (outbox_at a from)
          ∙ ap (λ (c : Bool). sc.link a b ++ (if c then out.msg ∷ outbox_for b (drop 1 s.outbox) else outbox_for b
          (drop 1 s.outbox))) to)
      each a b false false from d to = refl

  -- nothing was on its way to a lost node
  pub dropped_view : is_gone (sc.life out.to) ≡ true → flight_view (scene_in_act (scene_after_drop sc n out) n after)
      ≡ record (flight_view sc) { recs = sc.recs ++ one_record (Some n) (note.Sent out.to out.msg) }
  dropped_view lost = with_flight sc.link (flight_view sc).flight
      (λ a b. each a b (is_gone (sc.life a)) (is_gone (sc.life b)) refl (same_node n a) refl (same_node out.to b) refl)
    where
      each : (a b : NodeId) (x y : Bool) → is_gone (sc.life b) ≡ y → (c : Bool) → same_node n a ≡ c → (d : Bool) →
          same_node out.to b ≡ d
          → flight_unless_gone (x || y) (sc.link a b ++ outbox_for b (if c then drop 1 s.outbox else (sc.state a).outbox))
          ≡ flight_unless_gone (x || y) (sc.link a b ++ outbox_for b (sc.state a).outbox)
      each a b true y gone c from d to = refl
      each a b false true gone c from d to = refl
      each a b false false gone true from true to = let here =
          ap (λ (m : NodeId). is_gone (sc.life m)) (sym (same_node_true out.to b to)) ∙ lost in absurd (cc (here, gone))
      each a b false false gone true from false to = sym (ap (λ os. sc.link a b ++ outbox_for b os) (outbox_at a from)
          ∙ ap (λ (c : Bool). sc.link a b ++ (if c then out.msg ∷ outbox_for b (drop 1 s.outbox) else outbox_for b
          (drop 1 s.outbox))) to)
      each a b false false gone false from d to = refl

-- A message is taken: it was the first on its way.
module _ (sc : Scene) (n from : NodeId) (m : Message) (sound : IsSound sc) (alive : sc.life n ≡ life.Alive)
    (first : sc.link from n ≡ m ∷ drop 1 (sc.link from n)) where
  gone_not : (c : Bool) → is_gone (sc.life from) ≡ c → c ≡ false
  gone_not true gone = let none = sound.from_lost from n (sound.gone_lost from gone) in absurd (cc (none, first))
  gone_not false here = refl

  pub sender_here : is_gone (sc.life from) ≡ false
  sender_here = gone_not (is_gone (sc.life from)) refl

  none_gone : (is_gone (sc.life from) || is_gone (sc.life n)) ≡ false
  none_gone = ap (λ (c : Bool). c || is_gone (sc.life n)) sender_here ∙ ap is_gone alive

  pub first_view : (flight_view sc).flight from n ≡ m ∷ (flight_view (scene_after_take sc from n m)).flight from n
  first_view =
      let rest = outbox_for n (sc.state from).outbox in
      let popped : links_after_take from n sc.link from n ≡ drop 1 (sc.link from n) =
      rw (same_node_itself from, same_node_itself n) refl in
      ap (λ (c : Bool). flight_unless_gone c (sc.link from n ++ rest)) none_gone ∙ ap (λ ms. ms ++ rest) first
      ∙ ap (λ ms. m ∷ ms) (sym (ap (λ (c : Bool). flight_unless_gone c (links_after_take from n sc.link from n ++ rest))
      none_gone ∙ ap (λ ms. ms ++ rest) popped))

  pub other_view : (a b : NodeId) → (same_node from a && same_node n b) ≡ false →
      (flight_view (scene_after_take sc from n m)).flight a b ≡ (flight_view sc).flight a b
  other_view a b other = ap (λ (c : Bool). flight_unless_gone (is_gone (sc.life a) || is_gone (sc.life b))
      ((if c then drop 1 (sc.link a b) else sc.link a b) ++ outbox_for b (sc.state a).outbox)) other

-- A node is lost.
pub lost_view : (sc : Scene) (id : NodeId) → flight_view (scene_after_loss sc id) ≡ view_after_loss id
    (plan_records sc None ++ one_record None (note.Lost id)) (flight_view sc)
lost_view sc id = λ i. record (flight_view (scene_after_loss sc id)) {
  flight =
      λ a b. each a b (same_node id a) (same_node id b) i;
}
  where
    or_true : (c : Bool) (ms : List Message) → flight_unless_gone (c || true) ms ≡ []
    or_true true ms = refl
    or_true false ms = refl

    each : (a b : NodeId) (c d : Bool) → flight_unless_gone (is_gone (if c then life.Gone else sc.life a)
        || is_gone (if d then life.Gone else sc.life b)) ((if c || d then [] else sc.link a b) ++ outbox_for b
        (sc.state a).outbox)
        ≡ (if c || d then [] else flight_unless_gone (is_gone (sc.life a) || is_gone (sc.life b))
        (sc.link a b ++ outbox_for b (sc.state a).outbox))
    each a b true d = refl
    each a b false true = or_true (is_gone (sc.life a)) (outbox_for b (sc.state a).outbox)
    each a b false false = refl
