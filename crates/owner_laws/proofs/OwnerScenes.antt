-- What acts and sends leave of the facts of owners.
use Rattle.std.proofs.Common.{◌≡◌, ◌++◌, ◌&&◌, ◌⊎◌, inl, inr, ℕ, List, [], ◌∷◌, Bool, true, false, if◌then◌else◌, Some, refl, ap, sym, subst, ◌∙◌}
use Rattle.std.specs.Prelude.{drop}
use Rattle.act_rows.specs.Acts.{after_message}
use Rattle.act_rows.specs.Closing.{after_closing_rules}
use Rattle.act_rows.specs.NewNodes.{opening_map_of}
use Rattle.act_rows.specs.Steps.{entry_of, session_state_of, share_of}
use Rattle.frame_laws.proofs.Extending.{append_twice}
use Rattle.ignite_types.proofs.NameLaws.{same_node_itself, same_node_true}
use Rattle.ignite_types.specs.Names.{same_node}
use Rattle.ignite_types.specs.declared.message.Message.{Message}
use Rattle.ignite_types.specs.declared.message.Out.{Out}
use Rattle.ignite_types.specs.declared.names.NodeId.{NodeId}
use Rattle.ignite_types.specs.declared.placement.PartMap.{PartMap}
use Rattle.journal_statements.specs.Noted.{recs_of}
use Rattle.node_state.specs.Node.{NodeState}
use Rattle.owner_laws.proofs.Flights.{Fewer, Popped, apart_without, fewer_keeps, in_before, pop_keeps}
use Rattle.owner_laws.proofs.LockActs.{message_act_both}
use Rattle.owner_laws.proofs.LockRows.{Good}
use Rattle.owner_laws.proofs.LockSteps.{fact_link}
use Rattle.owner_laws.proofs.PrimaryRows.{Both}
use Rattle.owner_laws.specs.LockFacts.{Apart, Entries, Fact, In, InHand, Locks}
use Rattle.owner_laws.specs.LockViews.{Around, View, of_node, view}
use Rattle.owner_laws.specs.OwnerInvariant.{NodeStands, OwnersFit}
use Rattle.owner_laws.specs.OwnerLaws.{lock_view}
use Rattle.part_model.specs.Queues.{queue_in}
use Rattle.scenes.proofs.Sounds.{turned}
use Rattle.scenes.specs.Events.{IsReady}
use Rattle.scenes.specs.Scenes.{Scene, either_state, links_after_send, links_after_take, scene_after_drop, scene_after_send, scene_after_take, scene_in_act, state_at_rest, states_with}
use Rattle.scenes.specs.Views.{outbox_for}
use Rattle.transaction_laws.proofs.StarterEvents.{ready_next}
use Rattle.transaction_laws.specs.StarterFacts.{StarterInAct}
use Rattle.node_state.specs.declared.life.Life.TheVariants as life

abbrev pub around : Scene → Around
around sc = record { others = sc.state; link = sc.link }

-- The acting node among the others, and the scene.

-- what is looked at of a state is the same before a node acts
module _ (sc : Scene) (n : NodeId) (s : NodeState) (me : s.me ≡ n) (is : sc.state n ≡ state_at_rest s) where
  pub before : {A : Type 0} (f : NodeState → A) → f (state_at_rest s) ≡ f s → (x : NodeId) →
      of_node s.me (f s) x (f (sc.state x)) ≡ f (sc.state x)
  before f rest x = by (same_node x s.me) refl
    where
      by : (c : Bool) → same_node x s.me ≡ c → (if c then f s else f (sc.state x)) ≡ f (sc.state x)
      by true same = let at_n : x ≡ n = same_node_true x s.me same ∙ me in sym rest ∙ sym (ap f is)
          ∙ ap (λ (y : NodeId). f (sc.state y)) (sym at_n)
      by false other = refl

  view_begins : view (around sc) s ≡ lock_view sc
  view_begins = λ i. record {
    entry = λ x. before entry_of refl x i;
    session_state = λ x. before session_state_of refl x i;
    queue = λ x. before (λ (st : NodeState). queue_in st.queues) refl x i;
    share = λ x. before share_of refl x i;
    flight = λ a b. sc.link a b ++ outbox_for b (before (λ (st : NodeState). st.outbox) refl a i);
  }

-- and after its act
module _ (sc : Scene) (n : NodeId) (s : NodeState) (me : s.me ≡ n) where
  pub after : {A : Type 0} (f : NodeState → A) → f (state_at_rest s) ≡ f s → (x : NodeId) →
      of_node s.me (f s) x (f (sc.state x)) ≡ f (states_with n (state_at_rest s) sc.state x)
  after f rest x = ap (λ (c : Bool). if c then f s else f (sc.state x)) (ap (same_node x) me ∙ turned x n) ∙ by (same_node n x)
    where
      by : (c : Bool) → (if c then f s else f (sc.state x)) ≡ f (either_state c (state_at_rest s) (sc.state x))
      by true = sym rest
      by false = refl

  view_ends : view (around sc) s ≡ lock_view (scene_in_act sc n s)
  view_ends = λ i. record {
    entry = λ x. after entry_of refl x i;
    session_state = λ x. after session_state_of refl x i;
    queue = λ x. after (λ (st : NodeState). queue_in st.queues) refl x i;
    share = λ x. after share_of refl x i;
    flight = λ a b. sc.link a b ++ outbox_for b (after (λ (st : NodeState). st.outbox) refl a i);
  }

-- A node acts.

abbrev pub map_of : Scene → PartMap
map_of sc = opening_map_of sc.scenario

pub begins : (sc : Scene) (n : NodeId) (s : NodeState) → IsReady sc n s → OwnersFit sc → Good (map_of sc) (around sc) s
begins sc n s r f =
    let stands : NodeStands (map_of sc) (state_at_rest s) = subst (NodeStands (map_of sc)) r.state_is (f.nodes n r.alive) in
    record {
      locks = subst (Locks (map_of sc)) (sym (view_begins sc n s r.me_is r.state_is)) f.locks;
      up = stands.up;
      installed = stands.installed;
      seen = stands.seen;
      shares_up = stands.shares_up;
    }

pub ends : (sc : Scene) (n : NodeId) (s : NodeState) → s.me ≡ n → OwnersFit sc → Good (map_of sc) (around sc) s →
    OwnersFit (scene_in_act sc n s)
ends sc n s me f g = record {
  no_event = f.no_event;
  locks = subst (Locks (map_of sc)) (view_ends sc n s me) g.locks;
  nodes = λ x alive. by x (same_node n x) alive;
}
  where
    by : (x : NodeId) (c : Bool) → sc.life x ≡ life.Alive →
        NodeStands (map_of sc) (either_state c (state_at_rest s) (sc.state x))
    by x true alive = record { up = g.up; installed = g.installed; seen = g.seen; shares_up = g.shares_up }
    by x false alive = let stands = f.nodes x alive in record {
      up = stands.up;
      installed = stands.installed;
      seen =
          stands.seen;
      shares_up = stands.shares_up;
    }

abbrev pub BothAt : ℕ → Scene → NodeId → NodeState → Type 0
BothAt k sc n s = Both (recs_of n sc.recs) (map_of sc) (around sc) s

pub acts_fit : (k : ℕ) (sc : Scene) (n : NodeId) (s b : NodeState) → IsReady sc n s → b.me ≡ n →
    StarterInAct (recs_of n sc.recs) s → (BothAt k sc n s → BothAt k sc n b) → OwnersFit sc → OwnersFit (scene_in_act sc n b)
acts_fit k sc n s b r me near row f = ends sc n b me f (row (record { near = near; good = begins sc n s r f })).good

-- A message is taken.

pub taken_flight : (sc : Scene) (from n : NodeId) (m : Message) → sc.link from n ≡ m ∷ drop 1 (sc.link from n) →
    Popped (lock_view sc).flight (lock_view (scene_after_take sc from n m)).flight from n m
taken_flight sc from n m first = record {
  taken = ap (λ (ms : List Message). ms ++ outbox_for n (sc.state from).outbox) first
      ∙ ap (λ (ms : List Message). m ∷ (ms ++ outbox_for n (sc.state from).outbox)) (sym here);
  others = λ a b. by a b (same_node from a) refl (same_node n b) refl;
}
  where
    here : links_after_take from n sc.link from n ≡ drop 1 (sc.link from n)
    here = rw (same_node_itself from, same_node_itself n) refl

    by : (a b : NodeId) (c : Bool) → same_node from a ≡ c → (d : Bool) → same_node n b ≡ d
        → ((a ≡ from) × (b ≡ n))
        ⊎ (sc.link a b ++ outbox_for b (sc.state a).outbox ≡ (if c && d then drop 1 (sc.link a b) else sc.link a b)
        ++ outbox_for b (sc.state a).outbox)
    by a b true is true on = inl (sym (same_node_true from a is), sym (same_node_true n b on))
    by a b true is false on = inr refl
    by a b false is d on = inr refl

pub takes_fit : (k : ℕ) (sc : Scene) (n : NodeId) (s : NodeState) (from : NodeId) (m : Message) → IsReady sc n s →
    sc.link from n ≡ m ∷ drop 1 (sc.link from n) → (after_closing_rules (after_message s from m)).me ≡ n
    → StarterInAct (recs_of n (scene_after_take sc from n m).recs) s → OwnersFit sc →
    OwnersFit (scene_in_act (scene_after_take sc from n m) n (after_closing_rules (after_message s from m)))
takes_fit k sc n s from m r first me near f =
    let next = scene_after_take sc from n m in
    let pop = pop_keeps (map_of sc) (lock_view sc) (lock_view next).flight from n m (taken_flight sc from n m first) f.locks in
    let fits : OwnersFit next = record { no_event = f.no_event; locks = pop.0; nodes = f.nodes } in
    let same = view_begins next n s r.me_is r.state_is in
    let fact : Fact (map_of sc) (lock_view next) from n m =
    fact_link (map_of sc) (lock_view sc) (lock_view next).flight from n m pop.1 in
    let hand : InHand (map_of sc) (view (around next) s) n (Some (record { from = from; message = m })) =
    subst (λ (v : View). InHand (map_of sc) v n (Some (record { from = from; message = m }))) (sym same) (fact, pop.2) in
    acts_fit k next n s (after_closing_rules (after_message s from m)) (ready_next sc next n s refl refl r) me near
    (message_act_both (recs_of n next.recs) k (map_of sc) (around next) s from m
    (subst (λ (x : NodeId). InHand (map_of sc) (view (around next) s) x (Some (record { from = from; message = m })))
    (sym r.me_is) hand)) fits

-- A message leaves the outbox: it lies on the link then, or is lost.

module _ (sc : Scene) (n : NodeId) (s : NodeState) (out : Out) (r : IsReady sc n s)
    (first : s.outbox ≡ out ∷ drop 1 s.outbox) where
  abbrev pub sender : NodeState
  sender = record s { outbox = drop 1 s.outbox }

  pub stays : {A : Type 0} (f : NodeState → A) → f (state_at_rest sender) ≡ f (state_at_rest s) → (x : NodeId) →
      f (sc.state x) ≡ f (states_with n (state_at_rest sender) sc.state x)
  stays f same x = by (same_node n x) refl
    where
      by : (c : Bool) → same_node n x ≡ c → f (sc.state x) ≡ f (either_state c (state_at_rest sender) (sc.state x))
      by true is = ap (λ (y : NodeId). f (sc.state y)) (sym (same_node_true n x is)) ∙ ap f r.state_is ∙ sym same
      by false other = refl

  outbox_is : (a : NodeId) → same_node n a ≡ true → (sc.state a).outbox ≡ out ∷ drop 1 s.outbox
  outbox_is a is = ap (λ (y : NodeId). (sc.state y).outbox) (sym (same_node_true n a is))
      ∙ ap (λ (st : NodeState). st.outbox) r.state_is ∙ first

  pub moved_flight : (a b : NodeId) → sc.link a b ++ outbox_for b (sc.state a).outbox ≡ links_after_send n out.to out.msg
      sc.link a b ++ outbox_for b (states_with n (state_at_rest sender) sc.state a).outbox
  moved_flight a b = by (same_node n a) refl (same_node out.to b) refl
    where
      by : (c : Bool) → same_node n a ≡ c → (d : Bool) → same_node out.to b ≡ d
          → sc.link a b ++ outbox_for b (sc.state a).outbox ≡ (if c && d then sc.link a b ++ out.msg ∷ [] else sc.link a b)
          ++ outbox_for b (either_state c (state_at_rest sender) (sc.state a)).outbox
      by true is true on = ap (λ (os : List Out). sc.link a b ++ outbox_for b os) (outbox_is a is)
          ∙ ap (λ (c : Bool). sc.link a b ++ (if c then out.msg ∷ outbox_for b (drop 1 s.outbox) else outbox_for b
          (drop 1 s.outbox))) on
          ∙ sym (append_twice (sc.link a b) (out.msg ∷ []) (outbox_for b (drop 1 s.outbox)))
      by true is false on = ap (λ (os : List Out). sc.link a b ++ outbox_for b os) (outbox_is a is)
          ∙ ap (λ (c : Bool). sc.link a b ++ (if c then out.msg ∷ outbox_for b (drop 1 s.outbox) else outbox_for b
          (drop 1 s.outbox))) on
      by false is d on = refl

  moved_view : lock_view sc ≡ lock_view (scene_in_act (scene_after_send sc n out) n sender)
  moved_view = λ i. record {
    entry = λ x. stays entry_of refl x i;
    session_state = λ x. stays session_state_of refl x i;
    queue = λ x. stays (λ (st : NodeState). queue_in st.queues) refl x i;
    share = λ x. stays share_of refl x i;
    flight = λ a b. moved_flight a b i;
  }

  sender_stands : OwnersFit sc → (x : NodeId) → sc.life x ≡ life.Alive →
      NodeStands (map_of sc) (states_with n (state_at_rest sender) sc.state x)
  sender_stands f x alive = by (same_node n x) refl
    where
      by : (c : Bool) → same_node n x ≡ c → NodeStands (map_of sc) (either_state c (state_at_rest sender) (sc.state x))
      by true is = let stands : NodeStands (map_of sc) (state_at_rest s) =
          subst (NodeStands (map_of sc)) r.state_is (f.nodes n r.alive) in
          record { up = stands.up; installed = stands.installed; seen = stands.seen; shares_up = stands.shares_up }
      by false other = let stands = f.nodes x alive in record {
        up = stands.up;
        installed = stands.installed;
        seen =
            stands.seen;
        shares_up = stands.shares_up;
      }

  pub moves_fit : OwnersFit sc → OwnersFit (scene_in_act (scene_after_send sc n out) n sender)
  moves_fit f = record {
    no_event = f.no_event;
    locks = subst (Locks (map_of sc)) moved_view f.locks;
    nodes =
        λ x alive. sender_stands f x alive;
  }

  -- one fewer on its way
  abbrev pub IsRest : NodeId → NodeId → Type 0
  IsRest a b = let now = (lock_view (scene_in_act (scene_after_drop sc n out) n sender)).flight a b in
      (now ≡ (lock_view sc).flight a b) ⊎ ((earlier : List Message) × (later : List Message)
      × ((lock_view sc).flight a b ≡ earlier ++ out.msg ∷ later) × (now ≡ earlier ++ later))

  pub dropped : (a b : NodeId) → IsRest a b
  dropped a b = by (same_node n a) refl (same_node out.to b) refl
    where
      by : (c : Bool) → same_node n a ≡ c → (d : Bool) → same_node out.to b ≡ d → let now =
          sc.link a b ++ outbox_for b (either_state c (state_at_rest sender) (sc.state a)).outbox in
          (now ≡ sc.link a b ++ outbox_for b (sc.state a).outbox) ⊎ ((earlier : List Message) × (later : List Message)
          × (sc.link a b ++ outbox_for b (sc.state a).outbox ≡ earlier ++ out.msg ∷ later) × (now ≡ earlier ++ later))
      by true is true on = inr (
        sc.link a b,
        outbox_for b (drop 1 s.outbox),
        ap (λ (os : List Out). sc.link a b ++ outbox_for b os) (outbox_is a is)
            ∙ ap (λ (c : Bool). sc.link a b ++ (if c then out.msg ∷ outbox_for b (drop 1 s.outbox) else outbox_for b
            (drop 1 s.outbox))) on,
        refl,
      )
      by true is false on = inl (sym (ap (λ (os : List Out). sc.link a b ++ outbox_for b os) (outbox_is a is)
          ∙ ap (λ (c : Bool). sc.link a b ++ (if c then out.msg ∷ outbox_for b (drop 1 s.outbox) else outbox_for b
          (drop 1 s.outbox))) on))
      by false is d on = inl refl

  fewer : Fewer (lock_view sc).flight (lock_view (scene_in_act (scene_after_drop sc n out) n sender)).flight
  fewer = record {
    there = λ a b x here. there a b x (dropped a b) here;
    apart =
        λ entry a b old. apart entry a b (dropped a b) old;
  }
    where
      there : (a b : NodeId) (x : Message) → IsRest a b →
          In x ((lock_view (scene_in_act (scene_after_drop sc n out) n sender)).flight a b) → In x ((lock_view sc).flight a b)
      there a b x (inl same) here = subst (In x) same here
      there a b x (inr lost) here = subst (In x) (sym lost.2) (in_before lost.0 lost.1 out.msg x (subst (In x) lost.3 here))

      apart : (entry : Entries) (a b : NodeId) → IsRest a b → Apart entry ((lock_view sc).flight a b) →
          Apart entry ((lock_view (scene_in_act (scene_after_drop sc n out) n sender)).flight a b)
      apart entry a b (inl same) old = subst (Apart entry) (sym same) old
      apart entry a b (inr lost) old =
          subst (Apart entry) (sym lost.3) (apart_without entry lost.0 lost.1 out.msg (subst (Apart entry) lost.2 old))

  dropped_view : record (lock_view sc) { flight = (lock_view (scene_in_act (scene_after_drop sc n out) n sender)).flight }
      ≡ lock_view (scene_in_act (scene_after_drop sc n out) n sender)
  dropped_view = λ i. record {
    entry = λ x. stays entry_of refl x i;
    session_state = λ x. stays session_state_of refl x i;
    queue = λ x. stays (λ (st : NodeState). queue_in st.queues) refl x i;
    share = λ x. stays share_of refl x i;
    flight = (lock_view (scene_in_act (scene_after_drop sc n out) n sender)).flight;
  }

  pub drops_fit : OwnersFit sc → OwnersFit (scene_in_act (scene_after_drop sc n out) n sender)
  drops_fit f = record {
    no_event = f.no_event;
    locks = subst (Locks (map_of sc)) dropped_view
        (fewer_keeps (map_of sc) (lock_view sc) (lock_view (scene_in_act (scene_after_drop sc n out) n sender)).flight fewer
        f.locks);
    nodes = λ x alive. sender_stands f x alive;
  }
