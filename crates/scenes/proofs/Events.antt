-- What each event owes, paid by a world: a statement of scenes that holds before an event holds after it.
use Rattle.std.proofs.Common.{◌≡◌, ◌++◌, List, [], ◌∷◌, Option, Some, None, Bool, true, false, if◌then◌else◌, is_some, not, ℕ, suc, refl, ap, sym, subst, ◌∙◌}
use Rattle.std.specs.Option.{option_and_then}
use Rattle.std.specs.Ordering.{nat_cmp}
use Rattle.std.specs.Prelude.{drop, slice_get, slice_set}
use Rattle.std.specs.List.{list_all}
use Rattle.frame_laws.proofs.Acts as acts
use Rattle.frame_laws.proofs.Extending.{append_none, append_twice}
use Rattle.act_rows.specs.Acts.{act_of_send, act_result, after_message, after_see, answer_act, join_act, may_answer, may_call, may_send, oldest_out, with_act_begun}
use Rattle.act_rows.specs.Closing.{after_closing_rules}
use Rattle.act_rows.specs.Commands.{after_answer, after_call}
use Rattle.act_rows.specs.Exchange.{after_learn_all}
use Rattle.act_rows.specs.Filling.{may_switch}
use Rattle.act_rows.specs.Searches.{after_expire, is_overdue}
use Rattle.part_model.specs.Directory.{directory_after_join, event_at, is_due, leaves_partition, next_step, refusal_of_loss, step_due, with_answer_given, with_event, with_step_done}
use Rattle.part_model.specs.Links.{Inbox, Link, inbox_after_pop, inbox_after_push, is_held, link_of, oldest_in, on_link}
use Rattle.part_model.specs.NextMap.{is_member}
use Rattle.ignite_types.proofs.NameLaws.{same_node_itself, same_node_true}
use Rattle.ignite_types.specs.Good.{joining}
use Rattle.ignite_types.specs.Names.{same_node, same_top}
use Rattle.ignite_types.specs.declared.journal.Event.{Event}
use Rattle.ignite_types.specs.declared.journal.NoLoss.{NoLoss}
use Rattle.ignite_types.specs.declared.journal.TopoEvent.{TopoEvent}
use Rattle.ignite_types.specs.declared.message.Message.{Message}
use Rattle.ignite_types.specs.declared.message.Out.{Out}
use Rattle.ignite_types.specs.declared.names.NodeId.{NodeId}
use Rattle.ignite_types.specs.declared.names.TxId.{TxId}
use Rattle.ignite_types.specs.declared.scenario.Member.{Member}
use Rattle.ignite_types.specs.declared.scenario.PlanStep.{PlanStep}
use Rattle.ignite_types.specs.declared.scenario.Scenario.{Scenario}
use Rattle.ignite_types.specs.declared.scenario.Step.{Step}
use Rattle.journal_statements.specs.Noted.{Noted, actor, is_lost, joiner_in, noted_by, noted_for, noted_in_plan}
use Rattle.link_laws.specs.Carrying.{LinkInvariant, is_gone, is_new, joiners}
use Rattle.link_laws.proofs.Frames.{live_is, place_is, stands_there}
use Rattle.link_laws.proofs.Joiners.{drop_next, map_some, not_true}
use Rattle.link_laws.proofs.Journals.{first_rest}
use Rattle.link_laws.proofs.Places.{some_is}
use Rattle.node_state.specs.declared.life.Life.{Life}
use Rattle.node_state.specs.Node.{NodeState}
use Rattle.ordered_table.specs.Entries.{at}
use Rattle.scenes.specs.Events.{EachEventLeads, IsReady, IsSound, MayBeLost}
use Rattle.scenes.specs.Scenes.{Scene, scene_in_act, state_at_rest, scene_after_drop, world_links, link_messages, scene_after_send, one_record, part_or_absent, links_after_send, lives_with, states_with, scene_of, scene_after_step, scene_with_directory as at_directory}
use Rattle.scenes.proofs.Links.{links_here, links_held, links_popped, links_pushed, links_same}
use Rattle.scenes.proofs.Lanes.{Full, lane_in}
use Rattle.scenes.proofs.Learned.{learned_me}
use Rattle.scenes.proofs.Losses.{may_be_lost}
use Rattle.scenes.proofs.Parts.{part_there}
use Rattle.scenes.proofs.Sounds.{alive_is}
use Rattle.scenes.proofs.Worlds.{acted_scene, life_here, life_same, loss_scene, scene_set, state_here, state_same, tick_scene}
use Rattle.tx_model.specs.World.{Outcome, Part, World, act_outcome, act_outcome_from, answer_outcome, best_map_without, call_outcome, can_answer, can_be, can_call, can_expire, can_see, can_send, can_switch, can_take, expire_outcome, if_alive, inbox_on, is_alive, join_outcome, least_moment, live_place, loss_outcome, memory_outcome, minor_outcome, outcome, outcome_of_act, part_on, place_of, plan_outcome, plan_outcome_with, see_outcome, see_outcome_of, send_outcome, state_of_part, step_outcome, tick_outcome, with_delivery, with_directory, with_inbox, with_inbox_push, with_link_held, world_after_loss}
use Rattle.ignite_types.specs.declared.journal.Event.TheVariants as event
use Rattle.ignite_types.specs.declared.journal.NoLoss.TheVariants as refusal
use Rattle.ignite_types.specs.declared.journal.Rec.TheVariants as note
use Rattle.ignite_types.specs.declared.scenario.Step.TheVariants as step
use Rattle.ignite_types.specs.declared.journal.TopoEvent.TheVariants as topo
use Rattle.node_state.specs.declared.life.Life.TheVariants as life

-- at the place of a node that is alive stands a part
someone : (parts : List Part) (place : Option ℕ) (k : ℕ) → if_alive place (option_and_then (slice_get parts) place) ≡ Some k →
    slice_get parts k ≡ None → ⊥
someone parts None k alive none = absurd (cc)
someone parts (Some j) k alive none =
    (elim (slice_get parts j) as (λ r. slice_get parts j ≡ r → if_alive (Some j) r ≡ Some k → ⊥) [
      | None ↦ λ g has. absurd (cc)
      | Some q ↦ λ g has.
          (elim (is_alive q.life) as (λ b. (if b then Some j else None) ≡ Some k → ⊥) [
            | true ↦ λ e. let there = subst (λ (n : ℕ). slice_get parts n ≡ Some q) (some_is j k e) g in
                absurd (cc (there, none))
            | false ↦ λ e. absurd (cc)
          ]) has
    ]) refl alive

-- a statement of the place and the part of a node that is alive
pub at_alive : (w : World) (id : NodeId) (F : Option ℕ → Option Part → Type 0) → F None None
    → ((k : ℕ) (p : Part) → slice_get w.parts k ≡ Some p → same_node p.node.me id ≡ true → is_alive p.life ≡ true →
    F (Some k) (Some p))
    → F (live_place w id) (part_on w (live_place w id))
at_alive w id F nowhere there =
    elim (live_place w id) as (λ r. live_place w id ≡ r → F r (option_and_then (slice_get w.parts) r)) [
      | None ↦ λ g. nowhere
      | Some k ↦ λ g.
          elim (slice_get w.parts k) as (λ q. slice_get w.parts k ≡ q → F (Some k) q) [
            | None ↦ λ none. absurd (someone w.parts _ k g none)
            | Some p ↦ λ some. let both = live_is w id k p g some in there k p some both.0 both.1
          ] refl
    ] refl

head_is : {A : Type 0} (xs : List A) (x : A) → slice_get xs 0 ≡ Some x → xs ≡ x ∷ drop 1 xs
head_is [] x is = absurd (cc (is))
head_is (y ∷ ys) x is = ap (λ z. z ∷ ys) (some_is y x is)

module _ (P Q : Scene → Type 0) (ev : EachEventLeads P Q) (s : Scenario) (recs : List Noted) (w : World)
    (c : LinkInvariant s recs w) (sound : IsSound (scene_of s recs w)) (full : Full w) (holds_now : P (scene_of s recs w)) where
  abbrev sc : Scene
  sc = scene_of s recs w

  abbrev pub AfterAt : Option NodeId → Outcome → Type 0
  AfterAt who o = Q (scene_of s (recs ++ noted_by who o.recs) o.world)

  -- A node that acts.
  module _ (k : ℕ) (p : Part) (is : slice_get w.parts k ≡ Some p) (alive : is_alive p.life ≡ true) where
    abbrev me : NodeId
    me = p.node.me

    ready : IsReady sc me (with_act_begun p.node)
    ready = record {
      alive = life_here s recs w k p c.apart is me (same_node_itself me) ∙ alive_is p.life alive;
      me_is = refl;
      none_noted = refl;
      state_is = state_here s recs w k p c.apart is me (same_node_itself me);
    }

    answer_goes : (session : ℕ) → may_answer p.node session ≡ true →
        AfterAt (Some me) (answer_outcome w session (Some k) (Some p))
    answer_goes session may =
        subst (λ (b : Bool). AfterAt (Some me) (if b then outcome_of_act (with_directory w (with_answer_given w.directory)) k
        p (answer_act p.node session) else record { world = w; recs = [] })) (sym may)
        (subst Q (sym (acted_scene s recs (with_directory w (with_answer_given w.directory)) k p c.apart is
        (after_answer (with_act_begun p.node) session) (acts.answers p.node session).0.same_me))
        (ev.answers sc me (with_act_begun p.node) session sound ready may holds_now))

    call_goes : (session : ℕ) → may_call p.node session ≡ true → AfterAt (Some me) (call_outcome w session (Some k) (Some p))
    call_goes session may =
        subst Q (sym (acted_scene s recs w k p c.apart is (after_closing_rules (after_call (with_act_begun p.node) session))
        (acts.calls p.node session).0.same_me))
        (ev.calls sc me (with_act_begun p.node) session sound ready may holds_now)

    expire_goes : (tx : TxId) → tx.node ≡ me → is_overdue p.node tx ≡ true →
        AfterAt (Some me) (expire_outcome w tx (Some k) (Some p))
    expire_goes tx own may =
        subst Q (sym (acted_scene s recs w k p c.apart is (after_closing_rules (after_expire (with_act_begun p.node) tx))
        (acts.expires p.node tx).0.same_me))
        (ev.expires sc me (with_act_begun p.node) tx sound ready own may holds_now)

    see_goes : (e : TopoEvent) → event_at w.directory p.node.read ≡ Some e → AfterAt (Some me) (see_outcome_of w k p (Some e))
    see_goes e there =
        subst Q (sym (acted_scene s recs w k p c.apart is
        (after_closing_rules (after_see (with_act_begun p.node) p.node.read e)) (acts.sees p.node e).0.same_me))
        (ev.sees sc me (with_act_begun p.node) e sound ready there holds_now)

    -- nothing of the node changes that a scene has
    still_scene : (more : List Noted) →
        scene_of s more (record w { parts = slice_set w.parts k (record { node = with_act_begun p.node; life = p.life }) })
        ≡ record sc { recs = more }
    still_scene more =
        scene_set s more w k p (record { node = with_act_begun p.node; life = p.life }) c.apart is refl
        ∙ ap (λ (f : NodeId → Life). record (scene_of s more w) {
          life = f;
          state =
              states_with me (state_at_rest p.node) (scene_of s more w).state;
        }) (life_same s more w k p c.apart is)
        ∙ ap (λ (f : NodeId → NodeState). record (scene_of s more w) { state = f }) (state_same s more w k p c.apart is)

    switch_goes : may_switch p.node ≡ true → same_top p.node.seen w.directory.last ≡ true →
        AfterAt (Some me) (minor_outcome w (Some k) (Some p))
    switch_goes may same =
        let d = with_event w.directory topo.Minor in
        subst Q (sym (ap (λ (x : Scene). at_directory x d) (still_scene (recs ++ []))
        ∙ ap (λ (rs : List Noted). record sc { directory = d; recs = rs }) (append_none recs)))
        (ev.switches sc me (with_act_begun p.node) sound ready may same holds_now)

    memory_goes : AfterAt (Some me) (memory_outcome w (Some k) (Some p))
    memory_goes = subst Q (sym (still_scene (recs ++ one_record (Some me) note.Memory))) (ev.breaks sc me sound holds_now)

    -- A message is taken.
    take_goes : (b : Inbox) (from : NodeId) (m : Message) → slice_get w.inboxes k ≡ Some b → oldest_in b from ≡ Some m →
        AfterAt (Some me) (act_outcome_from w k p b from (Some m))
    take_goes b from m box first =
        let w1 : World = with_inbox w k (inbox_after_pop b from) in
        let st : NodeState = after_closing_rules (after_message (with_act_begun p.node) from m) in
        let n : Noted = record { node = Some me; rec = note.Deliver from m } in
        subst (λ (rs : List Noted). Q (scene_of s rs (outcome_of_act w1 k p (act_result st)).world))
        (append_twice recs (n ∷ []) (noted_by (Some me) st.noted))
        (subst Q (sym (acted_scene s (recs ++ n ∷ []) w1 k p c.apart is st (acts.takes p.node from m).0.same_me
        ∙ ap (λ (f : NodeId → NodeId → List Message). scene_in_act (record sc { link = f; recs = recs ++ n ∷ [] }) me st)
        (links_popped w k p b c.apart is box from)))
        (ev.takes sc me (with_act_begun p.node) from m sound ready (on_link (link_of b from) refl first) holds_now))
      where
        here : sc.link from me ≡ link_messages (link_of b from)
        here = links_here w k p b c.apart is box from me (same_node_itself me)

        on_link : (r : Option Link) → link_of b from ≡ r → option_and_then (λ (l : Link). slice_get l.messages 0) r ≡ Some m →
            sc.link from me ≡ m ∷ drop 1 (sc.link from me)
        on_link None g none = absurd (cc (none))
        on_link (Some l) g e = subst (λ (ms : List Message). ms ≡ m ∷ drop 1 ms) (sym (here ∙ ap link_messages g))
            (head_is l.messages m e)

    -- A message is sent.
    abbrev after_send : NodeState
    after_send = record (with_act_begun p.node) { outbox = drop 1 p.node.outbox }

    abbrev sent : Out → List Noted
    sent out = one_record (Some me) (note.Sent out.to out.msg)

    sent_in : (ins : List Inbox) (out : Out) →
        Q (scene_in_act (record sc { link = world_links (record w { inboxes = ins }); recs = recs ++ sent out }) me after_send)
        → AfterAt (Some me) (outcome_of_act (record w { inboxes = ins }) k p
        (record { state = after_send; recs = note.Sent out.to out.msg ∷ [] }))
    sent_in ins out q =
        let w1 : World = record w { inboxes = ins } in
        let recs1 = recs ++ sent out in
        subst (λ (rs : List Noted). Q (scene_of s rs (outcome_of_act w1 k p (act_result after_send)).world)) (append_none recs1)
        (subst Q (sym (acted_scene s recs1 w1 k p c.apart is after_send refl)) q)

    drop_goes : (out : Out) → oldest_out p.node ≡ Some out → is_alive (sc.life out.to) ≡ false →
        Q (scene_in_act (scene_after_drop sc me out) me after_send)
    drop_goes out first away = ev.drops sc me (with_act_begun p.node) out sound ready (head_is p.node.outbox out first) away
        holds_now

    move_goes : (out : Out) → oldest_out p.node ≡ Some out → Q (scene_in_act (scene_after_send sc me out) me after_send)
    move_goes out first = ev.moves sc me (with_act_begun p.node) out sound ready (head_is p.node.outbox out first) holds_now

    -- the links did not change
    lost_goes : (ins : List Inbox) (out : Out) → oldest_out p.node ≡ Some out → is_alive (sc.life out.to) ≡ false →
        world_links (record w { inboxes = ins }) ≡ world_links w →
        AfterAt (Some me) (outcome_of_act (record w { inboxes = ins }) k p
        (record { state = after_send; recs = note.Sent out.to out.msg ∷ [] }))
    lost_goes ins out first away same =
        sent_in ins out (subst (λ (f : NodeId → NodeId → List Message).
        Q (scene_in_act (record sc { link = f; recs = recs ++ sent out }) me after_send)) (sym same) (drop_goes out first away))

    -- there is a link to each declared node
    linked : (to : NodeId) (j : ℕ) → place_of w to ≡ Some j → lane_in (inbox_on w (Some j)) me ≡ true
    linked to j place = subst (λ (r : Option ℕ). lane_in (inbox_on w r) me ≡ true) place
        (full me to (ap is_some (place_is w k p me c.apart is (same_node_itself me))) (ap is_some place))

    closed_away : (to : NodeId) (j : ℕ) (b : Inbox) → place_of w to ≡ Some j → slice_get w.inboxes j ≡ Some b →
        b.closed ≡ true → is_alive (sc.life to) ≡ false
    closed_away to j b place box shut = by (is_alive (sc.life to)) refl
      where
        by : (c : Bool) → is_alive (sc.life to) ≡ c → c ≡ false
        by true lives =
            let q = part_there w to j p place in
            let world_after_loss : is_lost recs to ≡ true = ap (λ (n : NodeId). is_lost recs n) (sym q.2)
            ∙ sym (c.inboxes_are j q.0 b q.1 box).closed_is ∙ shut in
            let kept = sound.alive_kept to lives in
            absurd (cc (world_after_loss, kept))
        by false gone = refl

    pushed_goes : (out : Out) → oldest_out p.node ≡ Some out → (j : ℕ) (b : Inbox) → place_of w out.to ≡ Some j →
        slice_get w.inboxes j ≡ Some b → (x : Bool) → b.closed ≡ x → (r : Option Link) → link_of b me ≡ r
        → AfterAt (Some me) (outcome_of_act (with_inbox w j (inbox_after_push b me out.msg)) k p
        (record { state = after_send; recs = note.Sent out.to out.msg ∷ [] }))
    pushed_goes out first j b place box true shut r link =
        let q = part_there w out.to j p place in
        let same : inbox_after_push b me out.msg ≡ b =
        ap (λ (x : Bool). if x then b else on_link b me (λ (l : Link). record l { messages = l.messages ++ out.msg ∷ [] })
        (link_of b me)) shut in
        lost_goes (slice_set w.inboxes j (inbox_after_push b me out.msg)) out first (closed_away out.to j b place box shut)
        (ap (λ (x : Inbox). world_links (with_inbox w j x)) same ∙ links_same w j q.0 b c.apart q.1 box)
    pushed_goes out first j b place box false open_box None link =
        let has_it : is_some (link_of b me) ≡ true = sym (ap (λ (o : Option Inbox). lane_in o me) box)
        ∙ linked out.to j place in
        absurd (cc (has_it, link))
    pushed_goes out first j b place box false open_box (Some l) link =
        let q = part_there w out.to j p place in
        let same : world_links (with_inbox w j (inbox_after_push b me out.msg)) ≡ links_after_send me out.to out.msg
        (world_links w) =
        links_pushed w j q.0 b c.apart q.1 box me out.msg l open_box link
        ∙ ap (λ (to : NodeId). links_after_send me to out.msg (world_links w)) q.2 in
        sent_in (slice_set w.inboxes j (inbox_after_push b me out.msg)) out
        (subst (λ (f : NodeId → NodeId → List Message).
        Q (scene_in_act (record sc { link = f; recs = recs ++ sent out }) me after_send)) (sym same) (move_goes out first))

    sent_to : (out : Out) → oldest_out p.node ≡ Some out → (r : Option ℕ) (o : Option Inbox) → place_of w out.to ≡ r →
        inbox_on w r ≡ o
        → AfterAt (Some me) (outcome_of_act (with_inbox_push w me out.msg r o) k p
        (record { state = after_send; recs = note.Sent out.to out.msg ∷ [] }))
    sent_to out first None o place box =
        lost_goes w.inboxes out first (ap (λ r. is_alive (part_or_absent s out.to (part_on w r)).life) place) refl
    sent_to out first (Some j) None place box =
        let has_it : lane_in (inbox_on w (Some j)) me ≡ true = linked out.to j place in
        let none : lane_in (inbox_on w (Some j)) me ≡ false = ap (λ (o : Option Inbox). lane_in o me) box in
        absurd (cc (has_it, none))
    sent_to out first (Some j) (Some b) place box = pushed_goes out first j b place box b.closed refl (link_of b me) refl

    send_goes : may_send p.node ≡ true → AfterAt (Some me) (send_outcome w (Some k) (Some p))
    send_goes may = by (oldest_out p.node) refl may
      where
        by : (o : Option Out) → oldest_out p.node ≡ o → is_some o ≡ true →
            AfterAt (Some me) (outcome_of_act (with_delivery w me o) k p (act_of_send (with_act_begun p.node) o))
        by None first none = absurd (cc (none))
        by (Some out) first some = sent_to out first (place_of w out.to) (inbox_on w (place_of w out.to)) refl refl

  -- Which node acts.

  abbrev Will : Option NodeId → Bool → Outcome → Type 0
  Will who can o = can ≡ true → AfterAt who o

  answer_event : (session : ℕ) (h : Option NodeId) → (let place = option_and_then (live_place w) h in
      Will h (can_answer session (state_of_part (part_on w place))) (answer_outcome w session place (part_on w place)))
  answer_event session None can = absurd (cc (can))
  answer_event session (Some id) can =
      at_alive w id (λ r q. Will (Some id) (can_answer session (state_of_part q)) (answer_outcome w session r q))
      (λ e. absurd (cc (e)))
      (λ k p is same alive e. subst (λ (n : NodeId). AfterAt (Some n) (answer_outcome w session (Some k) (Some p)))
      (same_node_true p.node.me id same) (answer_goes k p is alive session e))
      can

  call_event : (session : ℕ) (h : Option NodeId) → (let place = option_and_then (live_place w) h in
      Will h (can_call session (state_of_part (part_on w place))) (call_outcome w session place (part_on w place)))
  call_event session None can = absurd (cc (can))
  call_event session (Some id) can =
      at_alive w id (λ r q. Will (Some id) (can_call session (state_of_part q)) (call_outcome w session r q))
      (λ e. absurd (cc (e)))
      (λ k p is same alive e. subst (λ (n : NodeId). AfterAt (Some n) (call_outcome w session (Some k) (Some p)))
      (same_node_true p.node.me id same) (call_goes k p is alive session e))
      can

  expire_event : (tx : TxId) → Will (Some tx.node) (can_be w (event.Expire tx)) (outcome w (event.Expire tx))
  expire_event tx can =
      at_alive w tx.node (λ r q. Will (Some tx.node) (can_expire tx (state_of_part q)) (expire_outcome w tx r q))
      (λ e. absurd (cc (e)))
      (λ k p is same alive e. subst (λ (n : NodeId). AfterAt (Some n) (expire_outcome w tx (Some k) (Some p)))
      (same_node_true p.node.me tx.node same) (expire_goes k p is alive tx (sym (same_node_true p.node.me tx.node same)) e))
      can

  see_event : (id : NodeId) → Will (Some id) (can_be w (event.See id)) (outcome w (event.See id))
  see_event id can =
      at_alive w id (λ r q. Will (Some id) (can_see w.directory (state_of_part q)) (see_outcome w r q)) (λ e. absurd (cc (e)))
      (λ k p is same alive e. subst (λ (n : NodeId). AfterAt (Some n) (see_outcome w (Some k) (Some p)))
      (same_node_true p.node.me id same) (by k p is alive (event_at w.directory p.node.read) refl e))
      can
    where
      by : (k : ℕ) (p : Part) → slice_get w.parts k ≡ Some p → is_alive p.life ≡ true → (o : Option TopoEvent) →
          event_at w.directory p.node.read ≡ o → is_some o ≡ true → AfterAt (Some p.node.me) (see_outcome_of w k p o)
      by k p is alive None there none = absurd (cc (none))
      by k p is alive (Some e) there some = see_goes k p is alive e there

  switch_event : (id : NodeId) → Will (Some id) (can_be w (event.Minor id)) (outcome w (event.Minor id))
  switch_event id can =
      at_alive w id (λ r q. Will (Some id) (can_switch w.directory (state_of_part q)) (minor_outcome w r q))
      (λ e. absurd (cc (e)))
      (λ k p is same alive e.
      let both = first_rest (may_switch p.node) (same_top p.node.seen w.directory.last) e in
      subst (λ (n : NodeId). AfterAt (Some n) (minor_outcome w (Some k) (Some p))) (same_node_true p.node.me id same)
      (switch_goes k p is alive both.0 both.1))
      can

  send_event : (id : NodeId) → Will (Some id) (can_be w (event.Send id)) (outcome w (event.Send id))
  send_event id can =
      at_alive w id (λ r q. Will (Some id) (can_send (state_of_part q)) (send_outcome w r q)) (λ e. absurd (cc (e)))
      (λ k p is same alive e. subst (λ (n : NodeId). AfterAt (Some n) (send_outcome w (Some k) (Some p)))
      (same_node_true p.node.me id same) (send_goes k p is alive e))
      can

  take_event : (id from : NodeId) → Will (Some id) (can_be w (event.Act id from)) (outcome w (event.Act id from))
  take_event id from can =
      at_alive w id (λ r q. Will (Some id) (can_take from (inbox_on w r)) (act_outcome w from r q (inbox_on w r)))
      (λ e. absurd (cc (e)))
      (λ k p is same alive e. subst
      (λ (n : NodeId). AfterAt (Some n) (act_outcome w from (Some k) (Some p) (inbox_on w (Some k))))
      (same_node_true p.node.me id same) (by k p is alive (slice_get w.inboxes k) refl e))
      can
    where
      taking : (k : ℕ) (p : Part) → slice_get w.parts k ≡ Some p → is_alive p.life ≡ true → (b : Inbox) →
          slice_get w.inboxes k ≡ Some b → (o : Option Message) → oldest_in b from ≡ o → is_some o ≡ true →
          AfterAt (Some p.node.me) (act_outcome_from w k p b from o)
      taking k p is alive b box None first none = absurd (cc (none))
      taking k p is alive b box (Some m) first some = take_goes k p is alive b from m box first

      by : (k : ℕ) (p : Part) → slice_get w.parts k ≡ Some p → is_alive p.life ≡ true → (o : Option Inbox) →
          slice_get w.inboxes k ≡ o → can_take from o ≡ true → AfterAt (Some p.node.me) (act_outcome w from (Some k) (Some p) o)
      by k p is alive None box none = absurd (cc (none))
      by k p is alive (Some b) box some = taking k p is alive b box (oldest_in b from) refl
          (first_rest (not (is_held b from)) (is_some (oldest_in b from)) some).1

  memory_event : (id : NodeId) → Will (Some id) (can_be w (event.Memory id)) (outcome w (event.Memory id))
  memory_event id can =
      (elim (live_place w id) as (λ r. live_place w id ≡ r → is_some r ≡ true →
      AfterAt (Some id) (memory_outcome w r (part_on w r))) [
        | None ↦ λ g e. absurd (cc)
        | Some k ↦ λ g e.
            elim (slice_get w.parts k) as (λ q. slice_get w.parts k ≡ q → AfterAt (Some id) (memory_outcome w (Some k) q)) [
              | None ↦ λ none. absurd (someone w.parts _ k g none)
              | Some p ↦ λ is. let both = live_is w id k p g is in
                  subst (λ (n : NodeId). AfterAt (Some n) (memory_outcome w (Some k) (Some p)))
                  (same_node_true p.node.me id both.0) (memory_goes k p is both.1)
            ] refl
      ]) refl can

  -- The clock.

  tick_event : Will None (can_be w event.Tick) (outcome w event.Tick)
  tick_event can = by (least_moment w) (first_rest (not (step_due w.directory)) (is_some (least_moment w)) can).1
    where
      by : (o : Option ℕ) → is_some o ≡ true → AfterAt None (tick_outcome w o)
      by None none = absurd (cc (none))
      by (Some to) some = subst Q (sym (tick_scene s recs w to)) (ev.ticks sc to sound holds_now)

  -- The plan.

  abbrev AfterPlan : Outcome → Type 0
  AfterPlan o = Q (scene_of s (recs ++ noted_in_plan s o.recs) o.world)

  quiet_goes : (refused : Option NoLoss) → AfterPlan (plan_outcome_with w w.directory refused [])
  quiet_goes refused = ev.plans sc refused sound holds_now

  hold_goes : (from to : NodeId) (flag : Bool) (r : Option ℕ) (o : Option Inbox) → place_of w to ≡ r → inbox_on w r ≡ o →
      AfterPlan (plan_outcome_with (with_link_held w from flag r o) w.directory None [])
  hold_goes from to flag None o place box = quiet_goes None
  hold_goes from to flag (Some j) None place box = quiet_goes None
  hold_goes from to flag (Some j) (Some b) place box =
      let q = part_there w to j (record { node = (sc.state to); life = life.Absent }) place in
      subst (λ (f : NodeId → NodeId → List Message). Q (record (scene_after_step sc sc.directory None) { link = f }))
      (sym (links_held w j q.0 b c.apart q.1 box from flag)) (quiet_goes None)

  -- who joins was never in
  new_facts : (x : PlanStep) (m : Member) → slice_get w.directory.plan w.directory.done ≡ Some x → x.step ≡ step.Join m →
      (is_lost recs m.node ≡ false) × (is_member w.directory.members m.node ≡ false)
  new_facts x m at_hand is =
      let there : slice_get s.plan w.directory.done ≡ Some x = ap (λ steps. slice_get steps w.directory.done) (sym c.plan_is)
      ∙ at_hand in
      let rest = drop (suc w.directory.done) s.plan in
      let steps : joiners (drop w.directory.done s.plan) ≡ m ∷ joiners rest =
      ap joiners (drop_next s.plan w.directory.done x there) ∙ map_some (λ (y : PlanStep). joining y.step) x rest m
      (ap joining is) in
      let all = subst (λ (ms : List Member). list_all (is_new recs w.directory.members) ms ≡ true) steps c.waiting.are_new in
      let one = first_rest (is_new recs w.directory.members m) (list_all (is_new recs w.directory.members) (joiners rest)) all
      in
      let both = first_rest (not (is_lost recs m.node)) (not (is_member w.directory.members m.node)) one.0 in
      (not_true (is_lost recs m.node) both.0, not_true (is_member w.directory.members m.node) both.1)

  is_absent : (n : NodeId) (at : Life) → sc.life n ≡ at → is_lost recs n ≡ false → is_member w.directory.members n ≡ false →
      sc.life n ≡ life.Absent
  is_absent n life.Absent at lives new = at
  is_absent n life.Gone at lives new = let gone = sound.gone_lost n (ap is_gone at) in absurd (cc (gone, lives))
  is_absent n life.Alive at lives new = let member = sym (sound.members_are n) ∙ ap is_alive at in absurd (cc (member, new))

  join_goes : (x : PlanStep) (m : Member) (r : Option ℕ) (q : Option Part) → slice_get w.directory.plan w.directory.done
      ≡ Some x → x.step ≡ step.Join m → place_of w m.node ≡ r → part_on w r ≡ q → AfterPlan (join_outcome w m w.directory r q)
  join_goes x m None q at_hand is place here = quiet_goes None
  join_goes x m (Some k) None at_hand is place here = quiet_goes None
  join_goes x m (Some k) (Some p) at_hand is place here =
      let act = join_act p.node w.directory.events w.directory.clock (topo.Join m) in
      let learned_it : NodeState = after_learn_all p.node w.directory.events w.directory.clock in
      let st : NodeState = after_closing_rules (after_see (with_act_begun learned_it) learned_it.read (topo.Join m)) in
      let same = stands_there w k p m.node place here in
      let number : p.node.me ≡ m.node = same_node_true p.node.me m.node same in
      let keeps : st.me ≡ p.node.me = (acts.sees learned_it (topo.Join m)).0.same_me ∙ learned_me w.directory.events p.node in
      let new = new_facts x m at_hand is in
      let w2 = (join_outcome w m w.directory (Some k) (Some p)).world in
      let joiner : joiner_in (slice_get s.plan w.directory.done) ≡ Some m.node =
      ap (λ steps. joiner_in (slice_get steps w.directory.done)) (sym c.plan_is) ∙ ap joiner_in at_hand
      ∙ ap (λ (st : Step). joiner_in (Some (record x { step = st }))) is in
      let plan_rec : Noted = record { node = None; rec = note.Planned w.directory.done None } in
      let more = recs ++ (plan_rec ∷ noted_by (Some m.node) st.noted) in
      subst (λ (who : Option NodeId). Q (scene_of s (recs ++ (plan_rec ∷ noted_by who st.noted)) w2)) (sym joiner)
      (subst Q (sym (ap (λ (x : Scene). at_directory x (with_step_done (directory_after_join w.directory m)))
      (scene_set s more w k p (record { node = record st { noted = [] }; life = life.Alive }) c.apart here keeps)
      ∙ ap (λ (n : NodeId). record sc {
        directory = with_step_done (directory_after_join w.directory m);
        life =
            lives_with n life.Alive sc.life;
        state = states_with n (state_at_rest st) sc.state;
        recs = more;
      }) number
      ∙ ap (λ (rs : List Noted). record sc {
        directory = with_step_done (directory_after_join w.directory m);
        life =
            lives_with m.node life.Alive sc.life;
        state = states_with m.node (state_at_rest st) sc.state;
        recs = rs;
      })
      (sym (append_twice recs (plan_rec ∷ []) (noted_by (Some m.node) st.noted)))))
      (ev.joins sc m p.node sound (is_absent m.node (sc.life m.node) refl new.0 new.1) new.0
      (state_here s recs w k p c.apart here m.node same) holds_now))

  loss_goes : (x : PlanStep) (id : NodeId) (o : Option NoLoss) → slice_get w.directory.plan w.directory.done ≡ Some x →
      x.step ≡ step.Lose id → refusal_of_loss w.directory id (best_map_without w id) ≡ o →
      AfterPlan (loss_outcome w id w.directory o)
  loss_goes x id (Some refused) at_hand is because = quiet_goes (Some refused)
  loss_goes x id None at_hand is because =
      let alive = alive_is (sc.life id) (sound.members_are id ∙ member (is_member w.directory.members id) because) in
      let none_joins : joiner_in (slice_get s.plan w.directory.done) ≡ None =
      ap (λ steps. joiner_in (slice_get steps w.directory.done)) (sym c.plan_is) ∙ ap joiner_in at_hand
      ∙ ap (λ (st : Step). joiner_in (Some (record x { step = st }))) is in
      subst (λ (who : Option NodeId).
      Q (scene_of s (recs ++ (record { node = None; rec = note.Planned w.directory.done None } ∷ record {
        node = who;
        rec = note.Lost id;
      } ∷ [])) (loss_outcome w id w.directory None).world)) (sym none_joins)
      (by (place_of w id) refl alive)
    where
      member : (b : Bool) → (if b then leaves_partition w.directory.members id (best_map_without w id) else Some
          refusal.NotIn) ≡ None → b ≡ true
      member true is = refl
      member false is = absurd (cc (is))

      by : (r : Option ℕ) → place_of w id ≡ r → sc.life id ≡ life.Alive →
          Q (scene_of s (recs ++ (record { node = None; rec = note.Planned w.directory.done None } ∷ record {
            node = None;
            rec = note.Lost id;
          } ∷ [])) (record (world_after_loss w id r) {
            directory =
                with_step_done (with_event w.directory (topo.Left id));
          }))
      by None place alive = let absent : sc.life id ≡ life.Absent =
          ap (λ r. (part_or_absent s id (part_on w r)).life) place in absurd (cc (absent, alive))
      by (Some k) place alive =
          let q = part_there w id k (record { node = sc.state id; life = life.Absent }) place in
          subst (λ (n : NodeId). Q
          (scene_of s (recs ++ (record { node = None; rec = note.Planned w.directory.done None } ∷ record {
            node = None;
            rec = note.Lost n;
          } ∷ [])) (record (world_after_loss w n (Some k)) {
            directory =
                with_step_done (with_event w.directory (topo.Left n));
          }))) q.2
          (subst Q (sym (loss_scene s recs w k q.0 c.apart q.1))
          (ev.loses sc q.0.node.me sound (subst (MayBeLost sc) (sym q.2) (may_be_lost s recs w id c.apart alive because))
          holds_now))

  step_goes : (x : PlanStep) (st : Step) → slice_get w.directory.plan w.directory.done ≡ Some x → x.step ≡ st →
      AfterPlan (step_outcome w w.directory st)
  step_goes x (step.Join m) at_hand is = join_goes x m (place_of w m.node) (part_on w (place_of w m.node)) at_hand is refl refl
  step_goes x (step.Lose id) at_hand is = loss_goes x id (refusal_of_loss w.directory id (best_map_without w id)) at_hand is
      refl
  step_goes x (step.Hold a b) at_hand is = hold_goes a b true (place_of w b) (inbox_on w (place_of w b)) refl refl
  step_goes x (step.Release a b) at_hand is = hold_goes a b false (place_of w b) (inbox_on w (place_of w b)) refl refl
  step_goes x (step.Start cache) at_hand is = ev.starts sc (topo.Start cache) sound refl holds_now
  step_goes x (step.Stop cache) at_hand is = ev.starts sc (topo.Stop cache) sound refl holds_now

  plan_event : can_be w event.Plan ≡ true → AfterPlan (outcome w event.Plan)
  plan_event can = by (next_step w.directory) refl can
    where
      by : (o : Option PlanStep) → next_step w.directory ≡ o → is_due w.directory o ≡ true → AfterPlan (plan_outcome w o)
      by None e none = absurd (cc (none))
      by (Some x) e some = step_goes x x.step e refl

  pub event_goes : (e : Event) → can_be w e ≡ true →
      Q (scene_of s (recs ++ noted_for s (actor w.session_nodes e) e (outcome w e).recs) (outcome w e).world)
  event_goes (event.Answer session) can = answer_event session (at nat_cmp w.session_nodes session) can
  event_goes (event.Act id from) can = take_event id from can
  event_goes (event.Send id) can = send_event id can
  event_goes (event.See id) can = see_event id can
  event_goes (event.Expire tx) can = expire_event tx can
  event_goes (event.Minor id) can = switch_event id can
  event_goes (event.Call session) can = call_event session (at nat_cmp w.session_nodes session) can
  event_goes event.Plan can = plan_event can
  event_goes event.Tick can = tick_event can
  event_goes (event.Memory id) can = memory_event id can
