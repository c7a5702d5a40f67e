-- Each event at a node, on the parts that it touches: it is possible by their values where it is possible in the world, and
-- what it makes of them is what the world has there after it, all other parts being as before.
use Rattle.std.proofs.Common.{◌≡◌, ◌&&◌, List, [], ◌∷◌, Option, Some, None, Bool, true, false, if◌then◌else◌, is_some, not, map, length, ℕ, refl, ap, sym, subst, ◌∙◌}
use Rattle.std.specs.Option.{option_and_then}
use Rattle.std.specs.Prelude.{nat_lt, slice_get, slice_set}
use Rattle.frame_laws.proofs.Acts as acts
use Rattle.act_rows.specs.Acts.{Acted, act_of_send, answer_act, call_act, expire_act, may_answer, may_call, may_send, message_act, minor_act, oldest_out, see_act, with_act_begun}
use Rattle.act_rows.specs.Filling.{may_switch}
use Rattle.act_rows.specs.Searches.{is_overdue}
use Rattle.part_model.specs.Directory.{Directory, event_at, with_answer_given, with_event}
use Rattle.part_model.specs.Links.{Inbox, inbox_after_pop, inbox_after_push, is_held, oldest_in}
use Rattle.ignite_types.specs.Good.{are_distinct, members}
use Rattle.ignite_types.specs.Good as good
use Rattle.ignite_types.specs.Names.{same_top}
use Rattle.ignite_types.specs.declared.journal.Rec.{Rec}
use Rattle.ignite_types.specs.declared.journal.TopoEvent.{TopoEvent}
use Rattle.ignite_types.specs.declared.message.Message.{Message}
use Rattle.ignite_types.specs.declared.message.Out.{Out}
use Rattle.ignite_types.specs.declared.names.NodeId.{NodeId}
use Rattle.ignite_types.specs.declared.names.TxId.{TxId}
use Rattle.ignite_types.specs.declared.scenario.Scenario.{Scenario}
use Rattle.link_laws.proofs.Places.{some_is}
use Rattle.scenes.specs.Scenes.{part_or_absent}
use Rattle.tx_model.specs.Opening.{ids_of}
use Rattle.tx_model.specs.World.{Outcome, Part, World, act_outcome, act_outcome_from, answer_outcome, call_outcome, can_answer, can_call, can_expire, can_see, can_send, can_switch, can_take, expire_outcome, if_alive, inbox_on, is_alive, live_place, minor_outcome, outcome_of_act, part_on, place_of, see_outcome, see_outcome_of, send_outcome, state_of_part, unchanged, with_delivery, with_directory, with_inbox, with_inbox_push}
use Rattle.world_parts.specs.Parts.{PartValue, declared_ids, declared_place, inbox_or_new, inbox_part, node_part, parts_of}
use Rattle.world_parts.specs.Steps.{PartsAfter, acted, addressee_in, after_act, after_answer, after_call, after_expire, after_if, after_minor, after_read, after_see, after_send, after_take, directory_and_node, node_alone, node_and_addressee, node_and_inbox, with_values}
use Rattle.world_parts.proofs.Places.{declared_there, ranked}
use Rattle.world_parts.proofs.Shapes.{IsShaped, directory_set, directory_shaped, inbox_here, inbox_part_is, inbox_set, inbox_shaped, node_part_is, node_set, node_shaped, nowhere, part_here, place_here, values_cons}
use Rattle.ignite_types.specs.declared.journal.TopoEvent.TheVariants as topo
use Rattle.world_parts.specs.declared.parts.WorldPart.TheVariants as part

-- what the parts give is what the machine gives
pub record Made (s : Scenario) (w : World) (ps : List ℕ) (o : Outcome) (a : PartsAfter) : Type 0 where
  pub same_recs : a.recs ≡ o.recs
  pub put_back : parts_of s o.world ≡ with_values ps a.news (parts_of s w)
  pub shaped : IsShaped s o.world
  pub counted : length a.news ≡ length ps

pub record Agrees (s : Scenario) (w : World) (ps : List ℕ) (can : Bool) (o : Outcome) (r : Option PartsAfter) : Type 0 where
  pub possible : is_some r ≡ can
  pub made : (a : PartsAfter) → r ≡ Some a → Made s w ps o a

pub never : (s : Scenario) (w : World) (ps : List ℕ) (o : Outcome) → Agrees s w ps false o None
never s w ps o = record { possible = refl; made = λ a is. absurd (cc (is)) }

pub makes : (s : Scenario) (w : World) (ps : List ℕ) (o : Outcome) (a : PartsAfter) → Made s w ps o a →
    Agrees s w ps true o (Some a)
makes s w ps o a m = record { possible = refl; made = λ b is. subst (λ (x : PartsAfter). Made s w ps o x) (some_is a b is) m }

abbrev pub result : List PartValue → List Rec → PartsAfter
result news recs = record { news = news; recs = recs }

-- a declared node in a world
pub record Standing (s : Scenario) (w : World) (id : NodeId) (k : ℕ) : Type 0 where
  pub r : ℕ
  pub node : Part
  pub box : Inbox
  pub declared : slice_get (declared_ids s) k ≡ Some id
  pub rank : slice_get (ids_of s) r ≡ Some id
  pub here : place_of w id ≡ Some r
  pub node_at : slice_get w.parts r ≡ Some node
  pub box_at : slice_get w.inboxes r ≡ Some box
  pub me_is : node.node.me ≡ id
  pub node_is : parts_of s w (node_part k) ≡ part.Node node
  pub inbox_is : parts_of s w (inbox_part k) ≡ part.Inbox box

module _ (s : Scenario) (apart : are_distinct good.same_member_node (members s) ≡ true) (w : World)
    (shaped : IsShaped s w) where
  pub standing : (id : NodeId) (k : ℕ) → declared_place s id ≡ Some k → Standing s w id k
  standing id k place =
      let declared = declared_there s apart k id place in
      let rank = ranked s apart k id declared in
      let here = place_here s apart w shaped rank.0 id rank.1 in
      let p = part_here s apart w shaped rank.0 id rank.1 in
      let b = inbox_here s apart w shaped rank.0 id rank.1 in
      record {
        r = rank.0;
        node = p.0;
        box = b.0;
        declared = declared;
        rank = rank.1;
        here = here;
        node_at = p.1;
        box_at = b.1;
        me_is = p.2;
        node_is = node_part_is s w k id declared ∙ ap (λ (o : Option ℕ). part.Node (part_or_absent s id (part_on w o))) here
            ∙ ap (λ (o : Option Part). part.Node (part_or_absent s id o)) p.1;
        inbox_is = inbox_part_is s w k id declared ∙ ap (λ (o : Option ℕ). part.Inbox (inbox_or_new (inbox_on w o))) here
            ∙ ap (λ (o : Option Inbox). part.Inbox (inbox_or_new o)) b.1;
      }

  -- a statement of a node: it is not declared, or does not live, or lives
  pub each_node : (id : NodeId) (F : Option ℕ → Option ℕ → Option Part → Type 0) → F None None None
      → ((k : ℕ) (t : Standing s w id k) → is_alive t.node.life ≡ false → F (Some k) None None)
      → ((k : ℕ) (t : Standing s w id k) → is_alive t.node.life ≡ true → F (Some k) (Some t.r) (Some t.node))
      → F (declared_place s id) (live_place w id) (part_on w (live_place w id))
  each_node id F none away lives = by (declared_place s id) refl
    where
      at_alive : (k : ℕ) (t : Standing s w id k) (b : Bool) → is_alive t.node.life ≡ b →
          live_place w id ≡ (if b then Some t.r else None) → F (Some k) (live_place w id) (part_on w (live_place w id))
      at_alive k t true alive place = subst (λ (o : Option ℕ). F (Some k) o (part_on w o)) (sym place)
          (subst (F (Some k) (Some t.r)) (sym t.node_at) (lives k t alive))
      at_alive k t false alive place = subst (λ (o : Option ℕ). F (Some k) o (part_on w o)) (sym place) (away k t alive)

      by : (o : Option ℕ) → declared_place s id ≡ o → F o (live_place w id) (part_on w (live_place w id))
      by None place =
          let gone : live_place w id ≡ None = ap (λ (o : Option ℕ). if_alive o (part_on w o))
          (nowhere s apart w shaped id place) in
          subst (λ (o : Option ℕ). F None o (part_on w o)) (sym gone) none
      by (Some k) place =
          let t = standing id k place in
          at_alive k t (is_alive t.node.life) refl (ap (λ (o : Option ℕ). if_alive o (part_on w o)) t.here
          ∙ ap (if_alive (Some t.r)) t.node_at)

  -- What an act is in its parts.
  module _ (id : NodeId) (k : ℕ) (t : Standing s w id k) (act : Acted) (me : act.state.me ≡ t.node.node.me) where
    abbrev q : Part
    q = record { node = act.state; life = t.node.life }

    pub acted_alone : Made s w (node_part k ∷ []) (outcome_of_act w t.r t.node act) (result (acted t.node act ∷ []) act.recs)
    acted_alone = record {
      same_recs = refl;
      put_back = node_set s apart w shaped k t.r id t.declared t.rank q (me ∙ t.me_is);
      shaped = node_shaped s apart w shaped k t.r id t.declared t.rank q (me ∙ t.me_is);
      counted = refl;
    }

    pub acted_directory : (d : Directory) → d.plan ≡ w.directory.plan →
        Made s w (0 ∷ node_part k ∷ []) (outcome_of_act (with_directory w d) t.r t.node act)
        (result (part.Directory d ∷ acted t.node act ∷ []) act.recs)
    acted_directory d plan =
        let w1 : World = record w { parts = slice_set w.parts t.r q } in
        let shaped1 = node_shaped s apart w shaped k t.r id t.declared t.rank q (me ∙ t.me_is) in
        record {
          same_recs = refl;
          put_back =
              directory_set s apart w1 shaped1 d
              ∙ ap (with_values (0 ∷ []) (part.Directory d ∷ [])) (node_set s apart w shaped k t.r id t.declared t.rank q
              (me ∙ t.me_is))
              ∙ sym (values_cons 0 (node_part k ∷ []) (part.Directory d) (part.Node q ∷ []) (parts_of s w));
          shaped = directory_shaped s apart w1 shaped1 d plan;
          counted = refl;
        }

    module _ (to : NodeId) (j : ℕ) (u : Standing s w to j) (b : Inbox) where
      abbrev w2 : World
      w2 = with_inbox w u.r b

      -- the inbox of another node, or of this one, changes too
      pub acted_inbox : Made s w (node_part k ∷ inbox_part j ∷ []) (outcome_of_act w2 t.r t.node act)
          (result (acted t.node act ∷ part.Inbox b ∷ []) act.recs)
      acted_inbox =
          let shaped2 = inbox_shaped s apart w shaped j u.r to u.declared u.rank b in
          record {
            same_recs = refl;
            put_back =
                node_set s apart w2 shaped2 k t.r id t.declared t.rank q (me ∙ t.me_is)
                ∙ ap (with_values (node_part k ∷ []) (part.Node q ∷ []))
                (inbox_set s apart w shaped j u.r to u.declared u.rank b)
                ∙ sym (values_cons (node_part k) (inbox_part j ∷ []) (part.Node q) (part.Inbox b ∷ []) (parts_of s w));
            shaped = node_shaped s apart w2 shaped2 k t.r id t.declared t.rank q (me ∙ t.me_is);
            counted = refl;
          }

      pub inbox_acted : Made s w (inbox_part j ∷ node_part k ∷ []) (outcome_of_act w2 t.r t.node act)
          (result (part.Inbox b ∷ acted t.node act ∷ []) act.recs)
      inbox_acted =
          let w1 : World = record w { parts = slice_set w.parts t.r q } in
          let shaped1 = node_shaped s apart w shaped k t.r id t.declared t.rank q (me ∙ t.me_is) in
          record {
            same_recs = refl;
            put_back =
                inbox_set s apart w1 shaped1 j u.r to u.declared u.rank b
                ∙ ap (with_values (inbox_part j ∷ []) (part.Inbox b ∷ []))
                (node_set s apart w shaped k t.r id t.declared t.rank q (me ∙ t.me_is))
                ∙ sym (values_cons (inbox_part j) (node_part k ∷ []) (part.Inbox b) (part.Node q ∷ []) (parts_of s w));
            shaped = inbox_shaped s apart w1 shaped1 j u.r to u.declared u.rank b;
            counted = refl;
          }

  abbrev f : ℕ → PartValue
  f = parts_of s w

  -- One event after another.

  pub answers : (session : ℕ) (h : Option NodeId) → (let place = option_and_then (live_place w) h in let ps =
      directory_and_node (option_and_then (declared_place s) h) in
      Agrees s w ps (can_answer session (state_of_part (part_on w place))) (answer_outcome w session place (part_on w place))
      (after_answer session (map f ps)))
  answers session None = never s w [] (unchanged w)
  answers session (Some id) =
      each_node id (λ o place p. Agrees s w (directory_and_node o) (can_answer session (state_of_part p))
      (answer_outcome w session place p) (after_answer session (map f (directory_and_node o))))
      (never s w [] (unchanged w))
      (λ k t away. rw (t.node_is, away) (never s w (0 ∷ node_part k ∷ []) (unchanged w)))
      (λ k t alive. rw (t.node_is, alive) (by k t (may_answer t.node.node session)))
    where
      by : (k : ℕ) (t : Standing s w id k) (c : Bool) → (let act = answer_act t.node.node session in let d =
          with_answer_given w.directory in
          Agrees s w (0 ∷ node_part k ∷ []) c (if c then outcome_of_act (with_directory w d) t.r t.node act else unchanged w)
          (after_if c (part.Directory d ∷ acted t.node act ∷ []) act.recs))
      by k t true =
          let act = answer_act t.node.node session in
          let d = with_answer_given w.directory in
          makes s w (0 ∷ node_part k ∷ []) (outcome_of_act (with_directory w d) t.r t.node act)
          (result (part.Directory d ∷ acted t.node act ∷ []) act.recs)
          (acted_directory id k t act (acts.answers t.node.node session).0.same_me d refl)
      by k t false = never s w (0 ∷ node_part k ∷ []) (unchanged w)

  pub calls : (session : ℕ) (h : Option NodeId) → (let place = option_and_then (live_place w) h in let ps =
      node_alone (option_and_then (declared_place s) h) in
      Agrees s w ps (can_call session (state_of_part (part_on w place))) (call_outcome w session place (part_on w place))
      (after_call session (map f ps)))
  calls session None = never s w [] (unchanged w)
  calls session (Some id) =
      each_node id (λ o place p. Agrees s w (node_alone o) (can_call session (state_of_part p))
      (call_outcome w session place p) (after_call session (map f (node_alone o))))
      (never s w [] (unchanged w))
      (λ k t away. rw (t.node_is, away) (never s w (node_part k ∷ []) (unchanged w)))
      (λ k t alive. rw (t.node_is, alive) (by k t (may_call t.node.node session)))
    where
      by : (k : ℕ) (t : Standing s w id k) (c : Bool) → (let act = call_act t.node.node session in
          Agrees s w (node_part k ∷ []) c (outcome_of_act w t.r t.node act) (after_if c (acted t.node act ∷ []) act.recs))
      by k t true =
          let act = call_act t.node.node session in
          makes s w (node_part k ∷ []) (outcome_of_act w t.r t.node act) (result (acted t.node act ∷ []) act.recs)
          (acted_alone id k t act (acts.calls t.node.node session).0.same_me)
      by k t false = let act = call_act t.node.node session in never s w (node_part k ∷ []) (outcome_of_act w t.r t.node act)

  pub expires : (tx : TxId) → (let place = live_place w tx.node in let ps = node_alone (declared_place s tx.node) in
      Agrees s w ps (can_expire tx (state_of_part (part_on w place))) (expire_outcome w tx place (part_on w place))
      (after_expire tx (map f ps)))
  expires tx =
      each_node tx.node (λ o place p. Agrees s w (node_alone o) (can_expire tx (state_of_part p))
      (expire_outcome w tx place p) (after_expire tx (map f (node_alone o))))
      (never s w [] (unchanged w))
      (λ k t away. rw (t.node_is, away) (never s w (node_part k ∷ []) (unchanged w)))
      (λ k t alive. rw (t.node_is, alive) (by k t (is_overdue t.node.node tx)))
    where
      by : (k : ℕ) (t : Standing s w tx.node k) (c : Bool) → (let act = expire_act t.node.node tx in
          Agrees s w (node_part k ∷ []) c (outcome_of_act w t.r t.node act) (after_if c (acted t.node act ∷ []) act.recs))
      by k t true =
          let act = expire_act t.node.node tx in
          makes s w (node_part k ∷ []) (outcome_of_act w t.r t.node act) (result (acted t.node act ∷ []) act.recs)
          (acted_alone tx.node k t act (acts.expires t.node.node tx).0.same_me)
      by k t false = let act = expire_act t.node.node tx in never s w (node_part k ∷ []) (outcome_of_act w t.r t.node act)

  pub switches : (id : NodeId) → (let place = live_place w id in let ps = directory_and_node (declared_place s id) in
      Agrees s w ps (can_switch w.directory (state_of_part (part_on w place))) (minor_outcome w place (part_on w place))
      (after_minor (map f ps)))
  switches id =
      each_node id (λ o place p. Agrees s w (directory_and_node o) (can_switch w.directory (state_of_part p))
      (minor_outcome w place p) (after_minor (map f (directory_and_node o))))
      (never s w [] (unchanged w))
      (λ k t away. rw (t.node_is, away) (never s w (0 ∷ node_part k ∷ []) (unchanged w)))
      (λ k t alive. rw (t.node_is, alive) (by k t (may_switch t.node.node && same_top t.node.node.seen w.directory.last)))
    where
      by : (k : ℕ) (t : Standing s w id k) (c : Bool) →
          (let act = minor_act t.node.node in let d = with_event w.directory topo.Minor in
          Agrees s w (0 ∷ node_part k ∷ []) c (outcome_of_act (with_directory w d) t.r t.node act)
          (after_if c (part.Directory d ∷ acted t.node act ∷ []) act.recs))
      by k t true =
          let act = minor_act t.node.node in
          let d = with_event w.directory topo.Minor in
          makes s w (0 ∷ node_part k ∷ []) (outcome_of_act (with_directory w d) t.r t.node act)
          (result (part.Directory d ∷ acted t.node act ∷ []) act.recs)
          (acted_directory id k t act refl d refl)
      by k t false =
          let act = minor_act t.node.node in
          let d = with_event w.directory topo.Minor in
          never s w (0 ∷ node_part k ∷ []) (outcome_of_act (with_directory w d) t.r t.node act)

  pub sees : (id : NodeId) → (let place = live_place w id in let ps = directory_and_node (declared_place s id) in
      Agrees s w ps (can_see w.directory (state_of_part (part_on w place))) (see_outcome w place (part_on w place))
      (after_see (map f ps)))
  sees id =
      each_node id (λ o place p. Agrees s w (directory_and_node o) (can_see w.directory (state_of_part p))
      (see_outcome w place p) (after_see (map f (directory_and_node o))))
      (never s w [] (unchanged w))
      (λ k t away. rw t.node_is (unread k t away (event_at w.directory t.node.node.read)))
      (λ k t alive. rw t.node_is (reads k t alive (event_at w.directory t.node.node.read)))
    where
      unread : (k : ℕ) (t : Standing s w id k) → is_alive t.node.life ≡ false → (o : Option TopoEvent) →
          Agrees s w (0 ∷ node_part k ∷ []) false (unchanged w) (after_read w.directory t.node o)
      unread k t away None = never s w (0 ∷ node_part k ∷ []) (unchanged w)
      unread k t away (Some e) = rw away (never s w (0 ∷ node_part k ∷ []) (unchanged w))

      reads : (k : ℕ) (t : Standing s w id k) → is_alive t.node.life ≡ true → (o : Option TopoEvent) →
          Agrees s w (0 ∷ node_part k ∷ []) (is_some o) (see_outcome_of w t.r t.node o) (after_read w.directory t.node o)
      reads k t alive None = never s w (0 ∷ node_part k ∷ []) (unchanged w)
      reads k t alive (Some e) =
          let act = see_act t.node.node e in
          rw alive
          (makes s w (0 ∷ node_part k ∷ []) (outcome_of_act w t.r t.node act)
          (result (part.Directory w.directory ∷ acted t.node act ∷ []) act.recs)
          (acted_directory id k t act (acts.sees t.node.node e).0.same_me w.directory refl))

  pub takes : (id from : NodeId) → (let place = live_place w id in let ps = node_and_inbox (declared_place s id) in
      Agrees s w ps (can_take from (inbox_on w place)) (act_outcome w from place (part_on w place) (inbox_on w place))
      (after_act from (map f ps)))
  takes id from =
      each_node id (λ o place p. Agrees s w (node_and_inbox o) (can_take from (inbox_on w place))
      (act_outcome w from place p (inbox_on w place)) (after_act from (map f (node_and_inbox o))))
      (never s w [] (unchanged w))
      (λ k t away. rw (t.node_is, t.inbox_is) (idle k t away (oldest_in t.box from)))
      (λ k t alive. rw (t.node_is, t.inbox_is, t.box_at) (taking k t alive (oldest_in t.box from)))
    where
      idle : (k : ℕ) (t : Standing s w id k) → is_alive t.node.life ≡ false → (o : Option Message) →
          Agrees s w (node_part k ∷ inbox_part k ∷ []) false (unchanged w) (after_take from t.node t.box o)
      idle k t away None = never s w (node_part k ∷ inbox_part k ∷ []) (unchanged w)
      idle k t away (Some m) = rw away (never s w (node_part k ∷ inbox_part k ∷ []) (unchanged w))

      taken : (k : ℕ) (t : Standing s w id k) (m : Message) (c : Bool) → (let act = message_act t.node.node from m in let b =
          inbox_after_pop t.box from in
          Agrees s w (node_part k ∷ inbox_part k ∷ []) (c && true) (outcome_of_act (with_inbox w t.r b) t.r t.node act)
          (after_if c (acted t.node act ∷ part.Inbox b ∷ []) act.recs))
      taken k t m true =
          let act = message_act t.node.node from m in
          let b = inbox_after_pop t.box from in
          makes s w (node_part k ∷ inbox_part k ∷ []) (outcome_of_act (with_inbox w t.r b) t.r t.node act)
          (result (acted t.node act ∷ part.Inbox b ∷ []) act.recs)
          (acted_inbox id k t act (acts.takes t.node.node from m).0.same_me id k t b)
      taken k t m false =
          let act = message_act t.node.node from m in
          never s w (node_part k ∷ inbox_part k ∷ [])
          (outcome_of_act (with_inbox w t.r (inbox_after_pop t.box from)) t.r t.node act)

      none : (k : ℕ) (c : Bool) → Agrees s w (node_part k ∷ inbox_part k ∷ []) (c && false) (unchanged w) None
      none k true = never s w (node_part k ∷ inbox_part k ∷ []) (unchanged w)
      none k false = never s w (node_part k ∷ inbox_part k ∷ []) (unchanged w)

      taking : (k : ℕ) (t : Standing s w id k) → is_alive t.node.life ≡ true → (o : Option Message)
          → Agrees s w (node_part k ∷ inbox_part k ∷ []) (not (is_held t.box from) && is_some o)
          (act_outcome_from w t.r t.node t.box from o) (after_take from t.node t.box o)
      taking k t alive None = none k (not (is_held t.box from))
      taking k t alive (Some m) = rw alive (taken k t m (not (is_held t.box from)))

  -- A message on its way out.

  abbrev addressee : List Rec → Option ℕ
  addressee recs = option_and_then (declared_place s) (addressee_in recs)

  pub sends : (id : NodeId) → (let place = live_place w id in let o = send_outcome w place (part_on w place) in let ps =
      node_and_addressee (declared_place s id) (addressee o.recs) in
      Agrees s w ps (can_send (state_of_part (part_on w place))) o (after_send (map f ps)))
  sends id =
      each_node id
      (λ o place p. let x = send_outcome w place p in let ps = node_and_addressee o (addressee x.recs) in
      Agrees s w ps (can_send (state_of_part p)) x (after_send (map f ps)))
      (never s w [] (unchanged w))
      (λ k t away. rw (t.node_is, away) (never s w (node_part k ∷ []) (unchanged w)))
      (λ k t alive. sending k t alive (oldest_out t.node.node) refl)
    where
      reached : (k : ℕ) (t : Standing s w id k) → is_alive t.node.life ≡ true → (out : Out) →
          oldest_out t.node.node ≡ Some out → (j : ℕ) (u : Standing s w out.to j) (c : Bool)
          → (let ps = if c then inbox_part j ∷ node_part k ∷ [] else node_part k ∷ inbox_part j ∷ [] in
          Agrees s w ps true (outcome_of_act (with_inbox w u.r (inbox_after_push u.box t.node.node.me out.msg)) t.r t.node
          (act_of_send (with_act_begun t.node.node) (Some out))) (after_send (map f ps)))
      reached k t alive out is j u true =
          let act = act_of_send (with_act_begun t.node.node) (Some out) in
          let b = inbox_after_push u.box t.node.node.me out.msg in
          rw (t.node_is, u.inbox_is, alive, is)
          (makes s w (inbox_part j ∷ node_part k ∷ []) (outcome_of_act (with_inbox w u.r b) t.r t.node act)
          (result (part.Inbox b ∷ acted t.node act ∷ []) act.recs)
          (inbox_acted id k t act refl out.to j u b))
      reached k t alive out is j u false =
          let act = act_of_send (with_act_begun t.node.node) (Some out) in
          let b = inbox_after_push u.box t.node.node.me out.msg in
          rw (t.node_is, u.inbox_is, alive, is)
          (makes s w (node_part k ∷ inbox_part j ∷ []) (outcome_of_act (with_inbox w u.r b) t.r t.node act)
          (result (acted t.node act ∷ part.Inbox b ∷ []) act.recs)
          (acted_inbox id k t act refl out.to j u b))

      arriving : (k : ℕ) (t : Standing s w id k) → is_alive t.node.life ≡ true → (out : Out) →
          oldest_out t.node.node ≡ Some out → (x : Option ℕ) → declared_place s out.to ≡ x
          → (let ps = node_and_addressee (Some k) x in
          Agrees s w ps true (outcome_of_act (with_delivery w t.node.node.me (Some out)) t.r t.node
          (act_of_send (with_act_begun t.node.node) (Some out))) (after_send (map f ps)))
      arriving k t alive out is None place =
          let act = act_of_send (with_act_begun t.node.node) (Some out) in
          subst (λ (o : Option ℕ). Agrees s w (node_part k ∷ []) true
          (outcome_of_act (with_inbox_push w t.node.node.me out.msg o (inbox_on w o)) t.r t.node act)
          (after_send (map f (node_part k ∷ [])))) (sym (nowhere s apart w shaped out.to place))
          (rw (t.node_is, alive, is)
          (makes s w (node_part k ∷ []) (outcome_of_act w t.r t.node act) (result (acted t.node act ∷ []) act.recs)
          (acted_alone id k t act refl)))
      arriving k t alive out is (Some j) place =
          let u = standing out.to j place in
          let act = act_of_send (with_act_begun t.node.node) (Some out) in
          let ps = node_and_addressee (Some k) (Some j) in
          subst (λ (o : Option ℕ).
          Agrees s w ps true (outcome_of_act (with_inbox_push w t.node.node.me out.msg o (inbox_on w o)) t.r t.node act)
          (after_send (map f ps))) (sym u.here)
          (subst (λ (o : Option Inbox).
          Agrees s w ps true (outcome_of_act (with_inbox_push w t.node.node.me out.msg (Some u.r) o) t.r t.node act)
          (after_send (map f ps))) (sym u.box_at)
          (reached k t alive out is j u (nat_lt j k)))

      sending : (k : ℕ) (t : Standing s w id k) → is_alive t.node.life ≡ true → (o : Option Out) → oldest_out t.node.node ≡ o
          → (let x = send_outcome w (Some t.r) (Some t.node) in let ps = node_and_addressee (Some k) (addressee x.recs) in
          Agrees s w ps (may_send t.node.node) x (after_send (map f ps)))
      sending k t alive None is =
          rw (is, t.node_is, alive, is)
          (never s w (node_part k ∷ []) (outcome_of_act w t.r t.node (act_of_send (with_act_begun t.node.node) None)))
      sending k t alive (Some out) is =
          subst (λ (o : Option Out). let act = act_of_send (with_act_begun t.node.node) o in let ps =
          node_and_addressee (Some k) (addressee act.recs) in
          Agrees s w ps (is_some o) (outcome_of_act (with_delivery w t.node.node.me o) t.r t.node act)
          (after_send (map f ps))) (sym is)
          (arriving k t alive out is (declared_place s out.to) refl)
