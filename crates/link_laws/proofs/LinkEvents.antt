-- Messages are taken from links and go onto them.
use Rattle.std.proofs.Common.{◌≡◌, ◌≢◌, ◌++◌, ◌&&◌, List, [], ◌∷◌, Option, Some, None, Bool, true, false, if◌then◌else◌, not, is_some, length, ℕ, refl, ap, sym, subst, ◌∙◌}
use Rattle.std.specs.List.{list_all}
use Rattle.std.specs.Option.{option_and_then}
use Rattle.std.specs.Prelude.{drop, slice_get, slice_set}
use Rattle.frame_laws.proofs.Acts as acts
use Rattle.frame_laws.proofs.Extending.{append_twice}
use Rattle.act_rows.specs.Acts.{act_of_send, message_act, oldest_out, with_act_begun}
use Rattle.part_model.specs.Links.{Inbox, Link, inbox_after_pop, inbox_after_push, is_held, is_link_held_by, link_of, oldest_in, on_link}
use Rattle.ignite_types.proofs.NameLaws.{same_node_itself, same_node_true}
use Rattle.ignite_types.specs.Names.{same_node}
use Rattle.ignite_types.specs.declared.journal.Rec.{Rec}
use Rattle.ignite_types.specs.declared.message.Message.{Message}
use Rattle.ignite_types.specs.declared.message.Out.{Out}
use Rattle.ignite_types.specs.declared.names.NodeId.{NodeId}
use Rattle.ignite_types.specs.declared.scenario.PlanStep.{PlanStep}
use Rattle.ignite_types.specs.declared.scenario.Scenario.{Scenario}
use Rattle.journal_statements.specs.LinkRecords.{is_link_held, is_next_message, is_that_message, sent_on, taken_on}
use Rattle.journal_statements.specs.Noted.{Noted, each_from, is_lost, noted_by}
use Rattle.link_laws.specs.Carrying.{InboxCarries, LinkCarries, LinkInvariant, NodesApart, fits, is_calm}
use Rattle.link_laws.proofs.Frames.{at_live, inbox_same, link_same, new_same, not_lost, parts_keep, place_is, same_keeps, set_stood, stands_there}
use Rattle.link_laws.proofs.Journals.{all_calm, both_calm, calm_fits, calm_same, each_both, first_rest}
use Rattle.link_laws.proofs.LinkTables.{on_link_elim}
use Rattle.link_laws.proofs.NodeEvents.{KeepsAt, calm_keeps, stays}
use Rattle.link_laws.proofs.OneRecord.{more_held, no_more_lost, no_more_sent, no_more_taken, not_sent_to, not_taken_from, sending, sent_elsewhere, sent_there, taken_elsewhere, taken_there, taking}
use Rattle.link_laws.proofs.Places.{same_node_turned, set_elim, some_is}
use Rattle.link_laws.proofs.SameMessages.{same_message_itself}
use Rattle.tx_model.specs.World.{Part, World, act_outcome, act_outcome_from, inbox_on, is_alive, live_place, outcome_of_act, part_on, place_of, send_outcome, with_delivery, with_inbox, with_inbox_push}

pub closed_same : (b : Inbox) (from : NodeId) (f : Link → Link) (r : Option Link) → (on_link b from f r).closed ≡ b.closed
closed_same b from f None = refl
closed_same b from f (Some l) = refl

-- other inboxes, while no node is lost
pub inboxes_change : (s : Scenario) (a b : List Noted) (w : World) (inboxes : List Inbox) →
    ((node : NodeId) → is_lost b node ≡ is_lost a node)
    → ((k : ℕ) (p : Part) (inbox : Inbox) → slice_get w.parts k ≡ Some p → slice_get inboxes k ≡ Some inbox →
    InboxCarries s.plan b p.node.me inbox) → LinkInvariant s a w → LinkInvariant s b (record w { inboxes = inboxes })
inboxes_change s a b w inboxes lost each c = record {
  plan_is = c.plan_is;
  session_nodes_are = c.session_nodes_are;
  apart = c.apart;
  lives = λ k p is. c.lives k p is ∙ sym (lost p.node.me);
  inboxes_are = each;
  waiting = new_same a b w.directory.members _ lost c.waiting;
}

-- at another place stands another node
pub other_place : (parts : List Part) (i k : ℕ) (p q : Part) → NodesApart parts → slice_get parts i ≡ Some q →
    slice_get parts k ≡ Some p → i ≢ k → same_node q.node.me p.node.me ≡ false
other_place parts i k p q apart at_i at_k other =
    elim (same_node q.node.me p.node.me) as (λ b. same_node q.node.me p.node.me ≡ b → b ≡ false) [
      | true ↦ λ t. absurd (other (apart i k q p at_i at_k t))
      | false ↦ λ f. refl
    ] refl

-- Taking.

pub seam : (ts : List Message) (m : Message) (ms : List Message) → slice_get (ts ++ m ∷ ms) (length ts) ≡ Some m
seam [] m ms = refl
seam (t ∷ ts) m ms = seam ts m ms

pub popped_carries : (plan : List PlanStep) (ns : List Noted) (id from : NodeId) (m : Message) (ms : List Message) (b : Inbox)
    (l : Link) → link_of b from ≡ Some l → l.messages ≡ m ∷ ms
    → is_lost ns from ≡ false → is_lost ns id ≡ false → InboxCarries plan ns id b →
    InboxCarries plan (ns ++ taking id from m ∷ []) id (inbox_after_pop b from)
popped_carries plan ns id from m ms b l some has from_lives id_lives c =
    let next = ns ++ taking id from m ∷ [] in
    let lost = λ (node : NodeId). no_more_lost ns (taking id from m) node refl in
    record {
      closed_is = closed_same b from (λ (link : Link). record link { messages = drop 1 link.messages }) (link_of b from)
          ∙ c.closed_is ∙ sym (lost id);
      links_are = on_link_elim b from (λ (link : Link). record link { messages = drop 1 link.messages })
          (λ (x : NodeId) (k : Link). LinkCarries plan next x id k)
          (λ old is.
          let same : l ≡ old = some_is l old (sym some ∙ is) in
          let old_has : old.messages ≡ m ∷ ms = ap (λ (k : Link). k.messages) (sym same) ∙ has in
          let before = c.links_are from old is in
          record {
            held_is = before.held_is ∙ sym (more_held plan from id ns (taking id from m));
            sender_lost = λ e. absurd (cc (e, lost from, from_lives));
            addressee_lost = λ e. absurd (cc (e, lost id, id_lives));
            in_order = λ e f.
                no_more_sent from id ns (taking id from m) refl
                ∙ before.in_order from_lives id_lives
                ∙ ap (λ (xs : List Message). taken_on from id ns ++ xs) old_has
                ∙ sym (append_twice (taken_on from id ns) (m ∷ []) ms)
                ∙ ap (λ (xs : List Message). xs ++ ms) (sym (taken_there from id ns m))
                ∙ ap (λ (xs : List Message). taken_on from id next ++ drop 1 xs) (sym old_has);
          })
          (λ x k other is.
          link_same plan ns next x id k (no_more_sent x id ns (taking id from m) refl)
          (no_more_taken x id ns (taking id from m) (not_taken_from from x m other)) (lost x) (lost id)
          (more_held plan x id ns (taking id from m)) (c.links_are x k is));
    }

take_one : (s : Scenario) (ns : List Noted) (w : World) (c : LinkInvariant s ns w) (k : ℕ) (p : Part) (b : Inbox)
    (from : NodeId) (l : Link) (m : Message) (ms : List Message) → slice_get w.parts k ≡ Some p → slice_get w.inboxes k ≡ Some b
    → link_of b from ≡ Some l → l.messages ≡ m ∷ ms → is_lost ns from ≡ false → is_lost ns p.node.me ≡ false →
    LinkInvariant s (ns ++ taking p.node.me from m ∷ []) (with_inbox w k (inbox_after_pop b from))
take_one s ns w c k p b from l m ms is inbox some has from_lives lives =
    let n = taking p.node.me from m in
    let next = ns ++ n ∷ [] in
    inboxes_change s ns next w (slice_set w.inboxes k (inbox_after_pop b from)) (λ node. no_more_lost ns n node refl)
    (λ j q b2 at_j has_j.
    set_elim w.inboxes k (inbox_after_pop b from) (λ (i : ℕ) (y : Inbox). (x : Part) → slice_get w.parts i ≡ Some x →
    InboxCarries s.plan next x.node.me y)
    (λ x at_k. subst (λ (y : Part). InboxCarries s.plan next y.node.me (inbox_after_pop b from)) (some_is p x (sym is ∙ at_k))
    (popped_carries s.plan ns p.node.me from m ms b l some has from_lives lives (c.inboxes_are k p b is inbox)))
    (λ i y other at_i x at_x.
    inbox_same s.plan ns next x.node.me y (λ f. no_more_sent f x.node.me ns n refl)
    (λ f. taken_elsewhere f x.node.me ns n (other_place w.parts i k p x c.apart at_x is other))
    (λ node. no_more_lost ns n node refl) (λ f. more_held s.plan f x.node.me ns n) (c.inboxes_are i x y at_x at_i))
    j b2 has_j q at_j)
    c

-- the sender of a message that is on its way is not lost
sender_lives : (plan : List PlanStep) (ns : List Noted) (from to : NodeId) (l : Link) (m : Message) (ms : List Message) →
    LinkCarries plan ns from to l → l.messages ≡ m ∷ ms → is_lost ns from ≡ false
sender_lives plan ns from to l m ms c has =
    elim (is_lost ns from) as (λ b. is_lost ns from ≡ b → b ≡ false) [
      | true ↦ λ t. let none = c.sender_lost t in absurd (cc (none, has))
      | false ↦ λ f. refl
    ] refl

not_held : (b : Bool) → not b ≡ true → b ≡ false
not_held true e = absurd (cc)
not_held false e = refl

module _ (s : Scenario) (recs : List Noted) (w : World) (c : LinkInvariant s recs w) where
  taken_keeps : (k : ℕ) (p : Part) (b : Inbox) (from : NodeId) (l : Link) (m : Message) (ms : List Message) →
      slice_get w.parts k ≡ Some p → slice_get w.inboxes k ≡ Some b → is_alive p.life ≡ true
      → link_of b from ≡ Some l → l.held ≡ false → l.messages ≡ m ∷ ms →
      KeepsAt s recs (Some p.node.me) (act_outcome_from w k p b from (Some m))
  taken_keeps k p b from l m ms is inbox alive some held has =
      let me = p.node.me in
      let n = taking me from m in
      let next = recs ++ n ∷ [] in
      let act = message_act p.node from m in
      let taken = acts.takes p.node from m in
      let rest : List Rec = drop 1 act.recs in
      let calm : list_all is_calm rest ≡ true = subst (λ (rs : List Rec). list_all is_calm (drop 1 rs) ≡ true)
      (sym taken.1.recs_are) (both_calm taken.1.first taken.1.last (all_calm taken.1.first taken.1.first_own)
      (all_calm taken.1.last taken.1.last_own)) in
      let lives : is_lost recs me ≡ false = not_lost s recs w k p me c is (same_node_itself me) alive in
      let link = (c.inboxes_are k p b is inbox).links_are from l some in
      let from_lives = sender_lives s.plan recs from me l m ms link has in
      let order : sent_on from me recs ≡ taken_on from me recs ++ m ∷ ms = link.in_order from_lives lives
      ∙ ap (λ (xs : List Message). taken_on from me recs ++ xs) has in
      let is_next : is_next_message from me m recs ≡ true =
      ap (λ (xs : List Message). is_that_message m (slice_get xs (length (taken_on from me recs)))) order
      ∙ ap (λ (o : Option Message). is_that_message m o) (seam (taken_on from me recs) m ms) ∙ same_message_itself m in
      let free : is_link_held s.plan from me recs ≡ false = sym link.held_is ∙ held in
      let first : each_from (fits s.plan) recs (n ∷ []) ≡ true =
      ap (λ (a : Bool). (not a && (is_next_message from me m recs && not (is_lost recs from)
      && not (is_link_held s.plan from me recs))) && true) lives
      ∙ ap (λ (a : Bool). (a && not (is_lost recs from) && not (is_link_held s.plan from me recs)) && true) is_next
      ∙ ap (λ (a : Bool). (not a && not (is_link_held s.plan from me recs)) && true) from_lives
      ∙ ap (λ (a : Bool). not a && true) free in
      let still : is_lost next me ≡ false = no_more_lost recs n me refl ∙ lives in
      record {
        passes = each_both (fits s.plan) recs (n ∷ []) (noted_by (Some me) rest) first
            (calm_fits s.plan next me rest calm still);
        carried =
            subst (λ (r : List Noted). LinkInvariant s r (act_outcome_from w k p b from (Some m)).world)
            (append_twice recs (n ∷ []) (noted_by (Some me) rest))
            (same_keeps s next (next ++ noted_by (Some me) rest) (act_outcome_from w k p b from (Some m)).world
            (calm_same s.plan next (Some me) rest calm)
            (parts_keep s next (with_inbox w k (inbox_after_pop b from))
            (slice_set w.parts k (record { node = act.state; life = p.life }))
            (set_stood w.parts k p (record { node = act.state; life = p.life }) is (sym taken.0.same_me) refl)
            (take_one s recs w c k p b from l m ms is inbox some has from_lives lives)));
      }

  take_from : (k : ℕ) (p : Part) (b : Inbox) (from : NodeId) → slice_get w.parts k ≡ Some p → slice_get w.inboxes k ≡ Some b →
      is_alive p.life ≡ true
      → (not (is_held b from) && is_some (oldest_in b from)) ≡ true →
      KeepsAt s recs (Some p.node.me) (act_outcome_from w k p b from (oldest_in b from))
  take_from k p b from is inbox alive can =
      (elim (link_of b from) as (λ r. link_of b from ≡ r →
      (not (is_link_held_by r) && is_some (option_and_then (λ (link : Link). slice_get link.messages 0) r)) ≡ true
      → KeepsAt s recs (Some p.node.me)
      (act_outcome_from w k p b from (option_and_then (λ (link : Link). slice_get link.messages 0) r))) [
        | None ↦ λ none e. stays s recs w c (Some p.node.me)
        | Some l ↦ λ some e.
            elim l.messages as (λ ms. l.messages ≡ ms →
            KeepsAt s recs (Some p.node.me) (act_outcome_from w k p b from (slice_get ms 0))) [
              | [] ↦ λ none. stays s recs w c (Some p.node.me)
              | m ∷ ms ↦ λ has. taken_keeps k p b from l m ms is inbox alive some
                  (not_held l.held (first_rest (not l.held) (is_some (slice_get l.messages 0)) e).0) has
            ] refl
      ]) refl can

  -- a node takes a message
  pub act_keeps : (id from : NodeId) (k : ℕ) (p : Part) (b : Inbox) → slice_get w.parts k ≡ Some p →
      slice_get w.inboxes k ≡ Some b → same_node p.node.me id ≡ true → is_alive p.life ≡ true
      → (not (is_held b from) && is_some (oldest_in b from)) ≡ true →
      KeepsAt s recs (Some id) (act_outcome w from (Some k) (Some p) (Some b))
  act_keeps id from k p b is inbox same alive can =
      subst (λ (x : NodeId). KeepsAt s recs (Some x) (act_outcome_from w k p b from (oldest_in b from)))
      (same_node_true p.node.me id same) (take_from k p b from is inbox alive can)

  -- Sending.

  pushed_open : (id to : NodeId) (m : Message) (b : Inbox) → is_lost recs id ≡ false → is_lost recs to ≡ false →
      InboxCarries s.plan recs to b
      → InboxCarries s.plan (recs ++ sending id to m ∷ []) to
      (on_link b id (λ (link : Link). record link { messages = link.messages ++ m ∷ [] }) (link_of b id))
  pushed_open id to m b id_lives to_lives before =
      let n = sending id to m in
      let next = recs ++ n ∷ [] in
      let lost = λ (node : NodeId). no_more_lost recs n node refl in
      record {
        closed_is = closed_same b id (λ (link : Link). record link { messages = link.messages ++ m ∷ [] }) (link_of b id)
            ∙ before.closed_is ∙ sym (lost to);
        links_are = on_link_elim b id (λ (link : Link). record link { messages = link.messages ++ m ∷ [] })
            (λ (x : NodeId) (l : Link). LinkCarries s.plan next x to l)
            (λ l is.
            let link = before.links_are id l is in
            record {
              held_is = link.held_is ∙ sym (more_held s.plan id to recs n);
              sender_lost = λ e. absurd (cc (e, lost id, id_lives));
              addressee_lost = λ e. absurd (cc (e, lost to, to_lives));
              in_order = λ e f.
                  sent_there id to recs m
                  ∙ ap (λ (xs : List Message). xs ++ m ∷ []) (link.in_order id_lives to_lives)
                  ∙ append_twice (taken_on id to recs) l.messages (m ∷ [])
                  ∙ ap (λ (xs : List Message). xs ++ (l.messages ++ m ∷ [])) (sym (no_more_taken id to recs n refl));
            })
            (λ x l other is.
            link_same s.plan recs next x to l (sent_elsewhere x to recs n (turned_false x other))
            (no_more_taken x to recs n refl) (lost x) (lost to) (more_held s.plan x to recs n) (before.links_are x l is));
      }
    where
      turned_false : (x : NodeId) → same_node id x ≡ false → same_node x id ≡ false
      turned_false x other =
          elim (same_node x id) as (λ b2. same_node x id ≡ b2 → b2 ≡ false) [
            | true ↦ λ t. let back = same_node_turned x id t in absurd (cc (back, other))
            | false ↦ λ f. refl
          ] refl

  pushed_shut : (id to : NodeId) (m : Message) (b : Inbox) → is_lost recs to ≡ true → InboxCarries s.plan recs to b →
      InboxCarries s.plan (recs ++ sending id to m ∷ []) to b
  pushed_shut id to m b gone before =
      let n = sending id to m in
      let lost = λ (node : NodeId). no_more_lost recs n node refl in
      record {
        closed_is = before.closed_is ∙ sym (lost to);
        links_are = λ x l is.
            let link = before.links_are x l is in
            record {
              held_is = link.held_is ∙ sym (more_held s.plan x to recs n);
              sender_lost = λ e. link.sender_lost (sym (lost x) ∙ e);
              addressee_lost = λ e. link.addressee_lost gone;
              in_order = λ e f. absurd (cc (f, lost to, gone));
            };
      }

  pushed_carries : (id to : NodeId) (m : Message) (b : Inbox) → is_lost recs id ≡ false → InboxCarries s.plan recs to b →
      InboxCarries s.plan (recs ++ sending id to m ∷ []) to (inbox_after_push b id m)
  pushed_carries id to m b id_lives before =
      elim b.closed as (λ x. b.closed ≡ x → InboxCarries s.plan (recs ++ sending id to m ∷ []) to
      (if x then b else on_link b id (λ (link : Link). record link { messages = link.messages ++ m ∷ [] })
      (link_of b id))) [
        | true ↦ λ t. pushed_shut id to m b (sym before.closed_is ∙ t) before
        | false ↦ λ f. pushed_open id to m b id_lives (sym before.closed_is ∙ f) before
      ] refl

  other_addressee : (id to : NodeId) (m : Message) (q : Part) (b : Inbox) → same_node to q.node.me ≡ false →
      InboxCarries s.plan recs q.node.me b → InboxCarries s.plan (recs ++ sending id to m ∷ []) q.node.me b
  other_addressee id to m q b other before =
      let n = sending id to m in
      inbox_same s.plan recs (recs ++ n ∷ []) q.node.me b
      (λ f. no_more_sent f q.node.me recs n (not_sent_to to q.node.me m other)) (λ f. no_more_taken f q.node.me recs n refl)
      (λ node. no_more_lost recs n node refl) (λ f. more_held s.plan f q.node.me recs n) before

  -- an inbox at a place where the addressee does not stand
  away : (id to : NodeId) (m : Message) (j : ℕ) (q : Part) (b : Inbox) → slice_get w.parts j ≡ Some q →
      slice_get w.inboxes j ≡ Some b → place_of w to ≢ Some j → InboxCarries s.plan (recs ++ sending id to m ∷ []) q.node.me b
  away id to m j q b at_j has no_place =
      elim (same_node to q.node.me) as (λ x. same_node to q.node.me ≡ x →
      InboxCarries s.plan (recs ++ sending id to m ∷ []) q.node.me b) [
        | true ↦ λ t. absurd (no_place (place_is w j q to c.apart at_j (same_node_turned to q.node.me t)))
        | false ↦ λ f. other_addressee id to m q b f (c.inboxes_are j q b at_j has)
      ] refl

  pub reached : (id to : NodeId) (m : Message) (r : Option ℕ) (i : Option Inbox) → is_lost recs id ≡ false →
      place_of w to ≡ r → inbox_on w r ≡ i
      → LinkInvariant s (recs ++ sending id to m ∷ []) (with_inbox_push w id m r i)
      × ((with_inbox_push w id m r i).parts ≡ w.parts)
  reached id to m None i lives place has = (
    inboxes_change s recs _ w w.inboxes (λ node. no_more_lost recs (sending id to m) node refl)
        (λ j q b at_j has_j. away id to m j q b at_j has_j (λ e. absurd (cc (place, e)))) c,
    refl,
  )
  reached id to m (Some k) None lives place has = (
    inboxes_change s recs _ w w.inboxes (λ node. no_more_lost recs (sending id to m) node refl)
        (λ j q b at_j has_j. away id to m j q b at_j has_j (λ e.
        let same : k ≡ j = some_is k j (sym place ∙ e) in
        let gone = subst (λ (x : ℕ). slice_get w.inboxes x ≡ None) same has in
        absurd (cc (gone, has_j)))) c,
    refl,
  )
  reached id to m (Some k) (Some b) lives place has = (
    inboxes_change s recs _ w (slice_set w.inboxes k (inbox_after_push b id m))
        (λ node. no_more_lost recs (sending id to m) node refl)
        (λ j q b2 at_j has_j.
        set_elim w.inboxes k (inbox_after_push b id m) (λ (i : ℕ) (y : Inbox). (x : Part) → slice_get w.parts i ≡ Some x →
        InboxCarries s.plan (recs ++ sending id to m ∷ []) x.node.me y)
        (λ x at_k.
        let same : x.node.me ≡ to = same_node_true x.node.me to (stands_there w k x to place at_k) in
        subst (λ (y : NodeId). InboxCarries s.plan (recs ++ sending id to m ∷ []) y (inbox_after_push b id m)) (sym same)
        (pushed_carries id to m b lives (subst (λ (y : NodeId). InboxCarries s.plan recs y b) same
        (c.inboxes_are k x b at_k has))))
        (λ i y other at_i x at_x. away id to m i x y at_x at_i (λ e. absurd (other (some_is i k (sym e ∙ place)))))
        j b2 has_j q at_j) c,
    refl,
  )

  sent_keeps : (k : ℕ) (p : Part) (out : Out) → slice_get w.parts k ≡ Some p → is_alive p.life ≡ true →
      KeepsAt s recs (Some p.node.me) (outcome_of_act (with_delivery w p.node.me (Some out)) k p
      (act_of_send (with_act_begun p.node) (Some out)))
  sent_keeps k p out is alive =
      let me = p.node.me in
      let lives : is_lost recs me ≡ false = not_lost s recs w k p me c is (same_node_itself me) alive in
      let place = place_of w out.to in
      let w2 = with_inbox_push w me out.msg place (inbox_on w place) in
      let reach = reached me out.to out.msg place (inbox_on w place) lives refl refl in
      let act = act_of_send (with_act_begun p.node) (Some out) in
      record {
        passes = ap (λ (a : Bool). (not a && true) && true) lives;
        carried =
            parts_keep s (recs ++ sending me out.to out.msg ∷ []) w2
            (slice_set w2.parts k (record { node = act.state; life = p.life }))
            (set_stood w2.parts k p (record { node = act.state; life = p.life })
            (ap (λ (ps : List Part). slice_get ps k) reach.1 ∙ is) refl refl)
            reach.0;
      }

  pub send_keeps : (id : NodeId) → KeepsAt s recs (Some id) (let place = live_place w id in
      send_outcome w place (part_on w place))
  send_keeps id =
      at_live w id (λ r q. KeepsAt s recs (Some id) (send_outcome w r q)) (stays s recs w c (Some id))
      (λ k. stays s recs w c (Some id))
      (λ k p place is same alive.
      elim (oldest_out p.node) as (λ o. KeepsAt s recs (Some id) (outcome_of_act (with_delivery w p.node.me o) k p
      (act_of_send (with_act_begun p.node) o))) [
        | None ↦ calm_keeps s recs w c id k p w.directory (act_of_send (with_act_begun p.node) None) is same alive refl refl
            refl refl refl
        | Some out ↦ subst (λ (x : NodeId). KeepsAt s recs (Some x) (outcome_of_act (with_delivery w p.node.me (Some out)) k p
            (act_of_send (with_act_begun p.node) (Some out)))) (same_node_true p.node.me id same) (sent_keeps k p out is alive)
      ])
