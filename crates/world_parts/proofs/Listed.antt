-- An event that its parts allow is one that the machine names among the possible ones: so no event follows where it names none.
use Rattle.std.proofs.Common.{◌≡◌, ◌++◌, List, [], ◌∷◌, Option, Some, None, Bool, true, false, if◌then◌else◌, is_some, map, ℕ, zero, suc, refl, ap, sym, subst, ◌∙◌}
use Rattle.std.specs.Option.{option_and_then, option_map}
use Rattle.std.specs.Ordering.{match_ordering, nat_cmp}
use Rattle.std.specs.Prelude.{filter, slice_get}
use Rattle.std.specs.declared.cmp.Ordering.{Ordering}
use Rattle.std.specs.declared.cmp.Ordering.TheVariants.{Less, Equal, Greater}
use Rattle.std.proofs.lemmas.Map.Lookups.{exact_unsigned}
use Rattle.std.proofs.lemmas.Option.{slice_get-map}
use Rattle.ignite_types.proofs.NameLaws.{same_node_true, same_tx_true}
use Rattle.ignite_types.specs.Good.{are_distinct, members}
use Rattle.ignite_types.specs.Good as good
use Rattle.ignite_types.specs.declared.journal.Event.{Event}
use Rattle.ignite_types.specs.declared.journal.Rec.{Rec}
use Rattle.ignite_types.specs.declared.names.NodeId.{NodeId}
use Rattle.ignite_types.specs.declared.names.TxId.{TxId}
use Rattle.ignite_types.specs.declared.scenario.Scenario.{Scenario}
use Rattle.link_laws.proofs.Journals.{first_rest}
use Rattle.link_laws.proofs.Places.{some_is}
use Rattle.node_state.specs.Node.{NodeState}
use Rattle.ordered_table.specs.Entries.{at}
use Rattle.tx_model.specs.World.{Part, World, can_answer, can_be, can_call, can_expire, is_quiet, is_tick, live_place, node_events, node_ids, open_txs, part_on, plan_events, possible, possible_acts, possible_of, session_node, session_node_at, sessions, state_of_part, tick_events, tx_of_session, txs_of_sessions, unless_broken, with_tx}
use Rattle.world_parts.specs.Parts.{PartValue, declared_place, parts_of}
use Rattle.world_parts.specs.Steps.{PartsAfter, addressee_in, after_act, after_minor, after_see, after_send, directory_and_node, home_of, is_listed, is_node, is_open_tx, is_tx, node_alone, node_and_addressee, node_and_inbox, parts_after, touches_of}
use Rattle.world_parts.proofs.NodeEvents.{Standing, each_node, standing}
use Rattle.world_parts.proofs.Shapes.{IsShaped}
use Rattle.ignite_types.specs.declared.journal.Event.TheVariants as event

-- Where an element stands in lists.

abbrev pub StandsIn : {A : Type 0} → List A → A → Type 0
StandsIn xs x = (k : ℕ) × (slice_get xs k ≡ Some x)

later : {A : Type 0} (y : A) (xs : List A) (x : A) → StandsIn xs x → StandsIn (y ∷ xs) x
later y xs x stands = (suc stands.0, stands.1)

in_map : {A B : Type 0} (f : A → B) (xs : List A) (x : A) → StandsIn xs x → StandsIn (map f xs) (f x)
in_map f xs x stands = (stands.0, slice_get-map f xs stands.0 ∙ ap (option_map f) stands.1)

in_filter : {A : Type 0} (t : A → Bool) (x : A) → t x ≡ true → (xs : List A) (k : ℕ) → slice_get xs k ≡ Some x →
    StandsIn (filter t xs) x
in_filter t x passes [] k is = absurd (cc (is))
in_filter t x passes (y ∷ ys) zero is =
    subst (λ (c : Bool). StandsIn (if c then y ∷ filter t ys else filter t ys) x) (sym (ap t (some_is y x is) ∙ passes)) (0, is)
in_filter t x passes (y ∷ ys) (suc k) is = by (t y) (in_filter t x passes ys k is)
  where
    by : (c : Bool) → StandsIn (filter t ys) x → StandsIn (if c then y ∷ filter t ys else filter t ys) x
    by true stands = later y (filter t ys) x stands
    by false stands = stands

in_left : {A : Type 0} (ys : List A) (x : A) (xs : List A) (k : ℕ) → slice_get xs k ≡ Some x → StandsIn (xs ++ ys) x
in_left ys x [] k is = absurd (cc (is))
in_left ys x (z ∷ zs) zero is = (0, is)
in_left ys x (z ∷ zs) (suc k) is = later z (zs ++ ys) x (in_left ys x zs k is)

in_right : {A : Type 0} (ys : List A) (x : A) → StandsIn ys x → (xs : List A) → StandsIn (xs ++ ys) x
in_right ys x stands [] = stands
in_right ys x stands (z ∷ zs) = later z (zs ++ ys) x (in_right ys x stands zs)

key_stands : (table : List (ℕ × NodeId)) (n : ℕ) (id : NodeId) → at nat_cmp table n ≡ Some id →
    StandsIn (map (λ (home : ℕ × NodeId). home.0) table) n
key_stands [] n id is = absurd (cc (is))
key_stands (e ∷ es) n id is = by (nat_cmp n e.0) refl is (λ there. key_stands es n id there)
  where
    by : (r : Ordering) → nat_cmp n e.0 ≡ r → match_ordering r None (Some e.1) (at nat_cmp es n) ≡ Some id →
        (at nat_cmp es n ≡ Some id → StandsIn (map (λ (home : ℕ × NodeId). home.0) es) n)
        → StandsIn (map (λ (home : ℕ × NodeId). home.0) (e ∷ es)) n
    by Less is there rest = absurd (cc (there))
    by Equal is there rest = (0, ap (λ (k : ℕ). Some k) (sym (exact_unsigned n e.0 is)))
    by Greater is there rest = later e.0 (map (λ (home : ℕ × NodeId). home.0) es) n (rest there)

module _ (s : Scenario) (apart : are_distinct good.same_member_node (members s) ≡ true) (w : World)
    (shaped : IsShaped s w) where
  abbrev f : ℕ → PartValue
  f = parts_of s w

  -- all that the machine names
  abbrev named : List Event
  named = node_events w ++ plan_events w ++ tick_events w (is_quiet w)

  number_stands : (id : NodeId) (k : ℕ) → Standing s w id k → StandsIn (node_ids w) id
  number_stands id k t = (
    t.r,
    slice_get-map (λ (p : Part). p.node.me) w.parts t.r
        ∙ ap (option_map (λ (p : Part). p.node.me)) t.node_at ∙ ap (λ (n : NodeId). Some n) t.me_is,
  )

  can_stand : (e : Event) (es : List Event) → can_be w e ≡ true → StandsIn es e → StandsIn (possible_of w es) e
  can_stand e es can stands = in_filter (can_be w) e can es stands.0 stands.1

  -- The seven kinds of events at nodes, in their order.

  abbrev answers : List Event
  answers = possible_of w (map event.Answer (sessions w))

  abbrev acts : List Event
  acts = possible_acts w (node_ids w) (node_ids w)

  abbrev sends : List Event
  sends = possible_of w (map event.Send (node_ids w))

  abbrev sees : List Event
  sees = possible_of w (map event.See (node_ids w))

  abbrev expires : List Event
  expires = possible_of w (map event.Expire (open_txs w))

  abbrev minors : List Event
  minors = possible_of w (map event.Minor (node_ids w))

  abbrev calls : List Event
  calls = possible_of w (map event.Call (sessions w))

  at_node : (e : Event) → StandsIn (node_events w) e → StandsIn named e
  at_node e at =
      let more = in_left (plan_events w) e (node_events w) at.0 at.1 in
      in_left (tick_events w (is_quiet w)) e (node_events w ++ plan_events w) more.0 more.1

  a_call : (e : Event) → StandsIn calls e → StandsIn named e
  a_call e at = at_node e (in_right calls e at (answers ++ acts ++ sends ++ sees ++ expires ++ minors))

  before_calls : (e : Event) → StandsIn (answers ++ acts ++ sends ++ sees ++ expires ++ minors) e → StandsIn named e
  before_calls e at = at_node e (in_left calls e (answers ++ acts ++ sends ++ sees ++ expires ++ minors) at.0 at.1)

  a_minor : (e : Event) → StandsIn minors e → StandsIn named e
  a_minor e at = before_calls e (in_right minors e at (answers ++ acts ++ sends ++ sees ++ expires))

  before_minors : (e : Event) → StandsIn (answers ++ acts ++ sends ++ sees ++ expires) e → StandsIn named e
  before_minors e at = before_calls e (in_left minors e (answers ++ acts ++ sends ++ sees ++ expires) at.0 at.1)

  an_expire : (e : Event) → StandsIn expires e → StandsIn named e
  an_expire e at = before_minors e (in_right expires e at (answers ++ acts ++ sends ++ sees))

  before_expires : (e : Event) → StandsIn (answers ++ acts ++ sends ++ sees) e → StandsIn named e
  before_expires e at = before_minors e (in_left expires e (answers ++ acts ++ sends ++ sees) at.0 at.1)

  a_see : (e : Event) → StandsIn sees e → StandsIn named e
  a_see e at = before_expires e (in_right sees e at (answers ++ acts ++ sends))

  before_sees : (e : Event) → StandsIn (answers ++ acts ++ sends) e → StandsIn named e
  before_sees e at = before_expires e (in_left sees e (answers ++ acts ++ sends) at.0 at.1)

  a_send : (e : Event) → StandsIn sends e → StandsIn named e
  a_send e at = before_sees e (in_right sends e at (answers ++ acts))

  before_sends : (e : Event) → StandsIn (answers ++ acts) e → StandsIn named e
  before_sends e at = before_sees e (in_left sends e (answers ++ acts) at.0 at.1)

  an_act : (e : Event) → StandsIn acts e → StandsIn named e
  an_act e at = before_sends e (in_right acts e at answers)

  an_answer : (e : Event) → StandsIn answers e → StandsIn named e
  an_answer e at = before_sends e (in_left acts e answers at.0 at.1)

  -- Where each kind is listed.

  acts_stand : (id from : NodeId) → can_be w (event.Act id from) ≡ true → (senders : List NodeId) → StandsIn senders from →
      (ids : List NodeId) (k : ℕ) → slice_get ids k ≡ Some id
      → StandsIn (possible_acts w senders ids) (event.Act id from)
  acts_stand id from can senders sender [] k is = absurd (cc (is))
  acts_stand id from can senders sender (x ∷ xs) zero is =
      let here = can_stand (event.Act id from) (map (event.Act id) senders) can (in_map (event.Act id) senders from sender) in
      subst (λ (n : NodeId). StandsIn (possible_of w (map (event.Act n) senders) ++ possible_acts w senders xs)
      (event.Act id from)) (sym (some_is x id is))
      (in_left (possible_acts w senders xs) (event.Act id from) (possible_of w (map (event.Act id) senders)) here.0 here.1)
  acts_stand id from can senders sender (x ∷ xs) (suc k) is =
      in_right (possible_acts w senders xs) (event.Act id from) (acts_stand id from can senders sender xs k is)
      (possible_of w (map (event.Act x) senders))

  txs_stand : (tx : TxId) (session : ℕ) → tx_of_session session (session_node_at w session) ≡ Some tx →
      (numbers : List ℕ) (k : ℕ) → slice_get numbers k ≡ Some session → StandsIn (txs_of_sessions w numbers) tx
  txs_stand tx session is [] k at = absurd (cc (at))
  txs_stand tx session is (n ∷ ns) zero at =
      let here : tx_of_session n (session_node_at w n) ≡ Some tx =
      subst (λ (m : ℕ). tx_of_session m (session_node_at w m) ≡ Some tx) (sym (some_is n session at)) is in
      by (tx_of_session n (session_node_at w n)) here
    where
      by : (o : Option TxId) → o ≡ Some tx → StandsIn (with_tx o (txs_of_sessions w ns)) tx
      by None none = absurd (cc (none))
      by (Some t) some = (0, some)
  txs_stand tx session is (n ∷ ns) (suc k) at = by (tx_of_session n (session_node_at w n)) (txs_stand tx session is ns k at)
    where
      by : (o : Option TxId) → StandsIn (txs_of_sessions w ns) tx → StandsIn (with_tx o (txs_of_sessions w ns)) tx
      by None stands = stands
      by (Some t) stands = later t (txs_of_sessions w ns) tx stands

  session_stands : (session : ℕ) (o : Option NodeId) → session_node w session ≡ o → is_some o ≡ true →
      StandsIn (sessions w) session
  session_stands session None is some = absurd (cc (some))
  session_stands session (Some id) is some = key_stands w.session_nodes session id is

  answer_home : (session : ℕ) (o : Option NodeId) →
      can_answer session (state_of_part (part_on w (option_and_then (live_place w) o))) ≡ true → is_some o ≡ true
  answer_home session None can = absurd (cc (can))
  answer_home session (Some id) can = refl

  call_home : (session : ℕ) (o : Option NodeId) →
      can_call session (state_of_part (part_on w (option_and_then (live_place w) o))) ≡ true → is_some o ≡ true
  call_home session None can = absurd (cc (can))
  call_home session (Some id) can = refl

  declared_stands : (id : NodeId) (o : Option ℕ) → declared_place s id ≡ o → is_some o ≡ true → StandsIn (node_ids w) id
  declared_stands id None place some = absurd (cc (some))
  declared_stands id (Some k) place some = number_stands id k (standing s apart w shaped id k place)

  open_told : (tx : TxId) → is_listed s (event.Expire tx) (map f (node_alone (declared_place s tx.node))) ≡ true →
      can_be w (event.Expire tx) ≡ true
      → (home_of s tx.session ≡ Some tx.node)
      × (tx_of_session tx.session (state_of_part (part_on w (live_place w tx.node))) ≡ Some tx)
  open_told tx =
      each_node s apart w shaped tx.node
      (λ o place p. is_listed s (event.Expire tx) (map f (node_alone o)) ≡ true → can_expire tx (state_of_part p) ≡ true →
      (home_of s tx.session ≡ Some tx.node) × (tx_of_session tx.session (state_of_part p) ≡ Some tx))
      (λ listed can. absurd (cc (can)))
      (λ k t away listed can. absurd (cc (can)))
      (λ k t alive listed can.
      by t.node.node (subst (λ (x : PartValue). is_listed s (event.Expire tx) (x ∷ []) ≡ true) t.node_is listed))
    where
      as_node : (o : Option NodeId) (id : NodeId) → is_node o id ≡ true → o ≡ Some id
      as_node None id is = absurd (cc (is))
      as_node (Some x) id is = ap (λ (n : NodeId). Some n) (same_node_true x id is)

      as_tx : (o : Option TxId) (t : TxId) → is_tx o t ≡ true → o ≡ Some t
      as_tx None t is = absurd (cc (is))
      as_tx (Some x) t is = ap (λ (y : TxId). Some y) (same_tx_true x t is)

      by : (node : NodeState) → is_open_tx s node tx ≡ true → (home_of s tx.session ≡ Some tx.node)
          × (tx_of_session tx.session (Some node) ≡ Some tx)
      by node is =
          let both = first_rest (is_node (home_of s tx.session) tx.node) (is_tx (tx_of_session tx.session (Some node)) tx) is in
          (as_node (home_of s tx.session) tx.node both.0, as_tx (tx_of_session tx.session (Some node)) tx both.1)

  expire_stands : (tx : TxId) → is_listed s (event.Expire tx) (map f (node_alone (declared_place s tx.node))) ≡ true →
      can_be w (event.Expire tx) ≡ true → StandsIn named (event.Expire tx)
  expire_stands tx listed can =
      let told = open_told tx listed can in
      let home : session_node w tx.session ≡ Some tx.node =
      ap (λ (homes : List (ℕ × NodeId)). at nat_cmp homes tx.session) shaped.homes_are ∙ told.0 in
      let session = key_stands w.session_nodes tx.session tx.node home in
      let current : tx_of_session tx.session (session_node_at w tx.session) ≡ Some tx =
      ap (λ (o : Option NodeId). tx_of_session tx.session (state_of_part (part_on w (option_and_then (live_place w) o)))) home
      ∙ told.1 in
      let open_tx = txs_stand tx tx.session current (sessions w) session.0 session.1 in
      an_expire (event.Expire tx) (can_stand (event.Expire tx) (map event.Expire (open_txs w)) can
      (in_map event.Expire (open_txs w) tx open_tx))

  -- an event that touches nothing is not possible
  act_place : (from : NodeId) (a : PartsAfter) (o : Option ℕ) → after_act from (map f (node_and_inbox o)) ≡ Some a →
      is_some o ≡ true
  act_place from a None made = absurd (cc (made))
  act_place from a (Some k) made = refl

  send_place : (to : Option ℕ) (a : PartsAfter) (o : Option ℕ) → after_send (map f (node_and_addressee o to)) ≡ Some a →
      is_some o ≡ true
  send_place to a None made = absurd (cc (made))
  send_place to a (Some k) made = refl

  see_place : (a : PartsAfter) (o : Option ℕ) → after_see (map f (directory_and_node o)) ≡ Some a → is_some o ≡ true
  see_place a None made = absurd (cc (made))
  see_place a (Some k) made = refl

  minor_place : (a : PartsAfter) (o : Option ℕ) → after_minor (map f (directory_and_node o)) ≡ Some a → is_some o ≡ true
  minor_place a None made = absurd (cc (made))
  minor_place a (Some k) made = refl

  listed_named : (e : Event) (recs : List Rec) (a : PartsAfter) → parts_after s e (map f (touches_of s e recs)) ≡ Some a →
      is_listed s e (map f (touches_of s e recs)) ≡ true
      → can_be w e ≡ true → (is_tick e ≡ true → is_quiet w ≡ true) → StandsIn named e
  listed_named (event.Answer session) recs a made listed can quiet =
      an_answer (event.Answer session) (can_stand (event.Answer session) (map event.Answer (sessions w)) can
      (in_map event.Answer (sessions w) session (session_stands session (session_node w session) refl
      (answer_home session (session_node w session) can))))
  listed_named (event.Act id from) recs a made listed can quiet =
      let at = declared_stands id (declared_place s id) refl (act_place from a (declared_place s id) made) in
      an_act (event.Act id from)
      (acts_stand id from can (node_ids w) (declared_stands from (declared_place s from) refl listed)
      (node_ids w) at.0 at.1)
  listed_named (event.Send id) recs a made listed can quiet =
      a_send (event.Send id) (can_stand (event.Send id) (map event.Send (node_ids w)) can
      (in_map event.Send (node_ids w) id
      (declared_stands id (declared_place s id) refl
      (send_place (option_and_then (declared_place s) (addressee_in recs)) a (declared_place s id) made))))
  listed_named (event.See id) recs a made listed can quiet =
      a_see (event.See id) (can_stand (event.See id) (map event.See (node_ids w)) can
      (in_map event.See (node_ids w) id
      (declared_stands id (declared_place s id) refl (see_place a (declared_place s id) made))))
  listed_named (event.Expire tx) recs a made listed can quiet = expire_stands tx listed can
  listed_named (event.Minor id) recs a made listed can quiet =
      a_minor (event.Minor id) (can_stand (event.Minor id) (map event.Minor (node_ids w)) can
      (in_map event.Minor (node_ids w) id
      (declared_stands id (declared_place s id) refl (minor_place a (declared_place s id) made))))
  listed_named (event.Call session) recs a made listed can quiet =
      a_call (event.Call session) (can_stand (event.Call session) (map event.Call (sessions w)) can
      (in_map event.Call (sessions w) session (session_stands session (session_node w session) refl
      (call_home session (session_node w session) can))))
  listed_named event.Plan recs a made listed can quiet =
      let here = can_stand event.Plan (event.Plan ∷ []) can (0, refl) in
      let more = in_right (plan_events w) event.Plan here (node_events w) in
      in_left (tick_events w (is_quiet w)) event.Plan (node_events w ++ plan_events w) more.0 more.1
  listed_named event.Tick recs a made listed can quiet =
      let here = subst (λ (c : Bool). StandsIn (tick_events w c) event.Tick) (sym (quiet refl))
      (can_stand event.Tick (event.Tick ∷ []) can (0, refl)) in
      in_right (tick_events w (is_quiet w)) event.Tick here (node_events w ++ plan_events w)
  listed_named (event.Memory id) recs a made listed can quiet = absurd (cc (made))

  pub listed_possible : (e : Event) (recs : List Rec) (a : PartsAfter) → parts_after s e (map f (touches_of s e recs))
      ≡ Some a → is_listed s e (map f (touches_of s e recs)) ≡ true
      → can_be w e ≡ true → (is_tick e ≡ true → is_quiet w ≡ true) → StandsIn (possible w) e
  listed_possible e recs a made listed can quiet =
      subst (λ (es : List Event). StandsIn es e) (sym (ap (unless_broken w) shaped.unbroken))
      (listed_named e recs a made listed can quiet)
