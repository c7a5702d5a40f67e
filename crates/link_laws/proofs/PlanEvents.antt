-- The steps of the plan, and the clock.
use Rattle.std.proofs.Common.{◌≡◌, ◌≢◌, ◌≤◌, ◌++◌, ◌&&◌, ◌||◌, List, [], ◌∷◌, Option, Some, None, Bool, true, false, if◌then◌else◌, not, length, suc, ℕ, refl, ap, sym, subst, ◌∙◌}
use Rattle.std.specs.Option.{option_and_then}
use Rattle.std.specs.Prelude.{drop, fold, slice_get, slice_set}
use Rattle.std.proofs.lemmas.Option.{slice_get_within}
use Rattle.frame_laws.proofs.Acts as acts
use Rattle.frame_laws.proofs.Exchange.{learns_kept}
use Rattle.frame_laws.specs.Extending.{OnlyAppends}
use Rattle.act_rows.specs.Acts.{join_act}
use Rattle.act_rows.specs.Exchange.{after_learn, after_learn_all, without_single}
use Rattle.part_model.specs.Directory.{Directory, directory_after_join, refusal_of_loss, with_event, with_step_done, without_node}
use Rattle.part_model.specs.Links.{Inbox, Link, inbox_shut, link_of, with_hold, without_messages_of}
use Rattle.part_model.specs.NextMap.{is_member}
use Rattle.part_model.specs.Orders.{next_count}
use Rattle.ignite_types.proofs.NameLaws.{same_node_itself, same_node_true}
use Rattle.ignite_types.specs.Good.{joining}
use Rattle.ignite_types.specs.Names.{same_node}
use Rattle.ignite_types.specs.declared.journal.NoLoss.{NoLoss}
use Rattle.ignite_types.specs.declared.journal.TopoEvent.{TopoEvent}
use Rattle.ignite_types.specs.declared.names.NodeId.{NodeId}
use Rattle.ignite_types.specs.declared.placement.PartMap.{PartMap}
use Rattle.ignite_types.specs.declared.scenario.Member.{Member}
use Rattle.ignite_types.specs.declared.scenario.PlanStep.{PlanStep}
use Rattle.ignite_types.specs.declared.scenario.Scenario.{Scenario}
use Rattle.ignite_types.specs.declared.scenario.Step.{Step}
use Rattle.journal_statements.specs.LinkRecords.{hold_after, hold_after_planned, is_link, is_link_held, sent_on, taken_on}
use Rattle.journal_statements.specs.Noted.{Noted, is_lost, joiner_in, noted_by, noted_in_plan}
use Rattle.link_laws.specs.Carrying.{InboxCarries, LinkCarries, LinkInvariant, LinkStepInvariant, SayTheSame, StillNew, fits, is_gone}
use Rattle.link_laws.proofs.Frames.{inbox_same, link_same, new_same, parts_keep, place_is, same_keeps, set_stood, stands_there}
use Rattle.link_laws.proofs.Joiners.{drop_next, new_after_loss, none_joins, one_joins, raised_is}
use Rattle.link_laws.proofs.Journals.{calm_fits, calm_same, each_both, hold_parts, lost_parts, or_none, sent_parts, taken_parts}
use Rattle.frame_laws.proofs.Extending.{append_none, append_twice, extending}
use Rattle.link_laws.proofs.LinkEvents.{closed_same, inboxes_change}
use Rattle.link_laws.proofs.LinkTables.{on_link_elim, or_true, shut_empty, shut_keeps}
use Rattle.link_laws.proofs.NodeEvents.{see_calm}
use Rattle.link_laws.proofs.OneRecord.{more_held, no_more_lost, no_more_sent, no_more_taken}
use Rattle.link_laws.proofs.Places.{after_map, same_node_turned, set_elim, some_is}
use Rattle.node_state.specs.Node.{NodeState}
use Rattle.tx_model.specs.World.{Outcome, Part, World, best_map_without, inbox_on, inboxes_emptied, is_alive, join_outcome, loss_outcome, part_after_loss, part_on, parts_after_loss, place_of, plan_outcome_with, step_outcome, with_directory, with_inbox_shut, with_link_held, world_after_loss}
use Rattle.ignite_types.specs.declared.journal.Rec.TheVariants as note
use Rattle.ignite_types.specs.declared.journal.TopoEvent.TheVariants as topo
use Rattle.ignite_types.specs.declared.scenario.Step.TheVariants as step
use Rattle.node_state.specs.declared.life.Life.TheVariants as life

abbrev pub planning : ℕ → Option NoLoss → Noted
planning place refused = record { node = None; rec = note.Planned place refused }

-- the directory goes on to the next step
pub redirected : (s : Scenario) (ns : List Noted) (w : World) (d : Directory) → d.plan ≡ s.plan →
    StillNew ns d.members (drop d.done s.plan) → LinkInvariant s ns w → LinkInvariant s ns (with_directory w d)
redirected s ns w d plan waiting c = record {
  plan_is = plan;
  session_nodes_are = c.session_nodes_are;
  apart = c.apart;
  lives = c.lives;
  inboxes_are = c.inboxes_are;
  waiting = waiting;
}

learned_me : (node : NodeState) (events : List TopoEvent) → (fold after_learn node events).me ≡ node.me
learned_me node [] = refl
learned_me node (e ∷ es) = learned_me (after_learn node e) es ∙ (learns_kept OnlyAppends extending node e).same_me

false_if : (b : Bool) → b ≢ true → b ≡ false
false_if true other = absurd (other refl)
false_if false other = refl

turned_false : (a b : NodeId) → same_node a b ≡ false → same_node b a ≡ false
turned_false a b other = false_if (same_node b a) (λ t. let back = same_node_turned b a t in absurd (cc (back, other)))

module _ (s : Scenario) (recs : List Noted) (w : World) (c : LinkInvariant s recs w) (x : PlanStep)
    (at_hand : slice_get s.plan w.directory.done ≡ Some x) (short : length s.plan ≤ 64) where
  abbrev next_recs : Option NoLoss → List Noted
  next_recs refused = recs ++ planning w.directory.done refused ∷ []

  -- the steps to come
  abbrev rest : List PlanStep
  rest = drop (suc w.directory.done) s.plan

  waits_all : StillNew recs w.directory.members (x ∷ rest)
  waits_all = subst (λ (steps : List PlanStep). StillNew recs w.directory.members steps)
      (drop_next s.plan w.directory.done x at_hand) c.waiting

  rest_is : drop (next_count w.directory.done) s.plan ≡ rest
  rest_is = ap (λ (k : ℕ). drop k s.plan)
      (raised_is w.directory.done (length s.plan) (slice_get_within s.plan w.directory.done x at_hand) short)

  lost_same : (refused : Option NoLoss) (node : NodeId) → is_lost (next_recs refused) node ≡ is_lost recs node
  lost_same refused node = no_more_lost recs (planning w.directory.done refused) node refl

  held_then : (from to : NodeId) → is_link_held s.plan from to (next_recs None) ≡ hold_after from to
      (is_link_held s.plan from to recs) x.step
  held_then from to = more_held s.plan from to recs (planning w.directory.done None)
      ∙ ap (λ (o : Option PlanStep). hold_after_planned from to (is_link_held s.plan from to recs) o) at_hand

  say_same : (refused : Option NoLoss) →
      ((from to : NodeId) → is_link_held s.plan from to (next_recs refused) ≡ is_link_held s.plan from to recs) →
      SayTheSame s.plan recs (next_recs refused)
  say_same refused held = record {
    same_sent = λ from to. no_more_sent from to recs (planning w.directory.done refused) refl;
    same_taken = λ from to. no_more_taken from to recs (planning w.directory.done refused) refl;
    same_lost = lost_same refused;
    same_held = held;
  }

  -- a step that leaves all nodes and links alone
  quiet_step : (refused : Option NoLoss) (d : Directory) → d.plan ≡ w.directory.plan → d.members ≡ w.directory.members →
      d.done ≡ w.directory.done
      → ((from to : NodeId) → is_link_held s.plan from to (next_recs refused) ≡ is_link_held s.plan from to recs) →
      StillNew recs w.directory.members rest → LinkInvariant s (next_recs refused) (with_directory w (with_step_done d))
  quiet_step refused d plan members done held waiting =
      redirected s (next_recs refused) w (with_step_done d) (plan ∙ c.plan_is)
      (rw (members, done) (subst (λ (steps : List PlanStep). StillNew (next_recs refused) w.directory.members steps)
      (sym rest_is) (new_same recs (next_recs refused) w.directory.members rest (lost_same refused) waiting)))
      (same_keeps s recs (next_recs refused) w (say_same refused held) c)

  abbrev pub KeepsStep : Outcome → Type 0
  KeepsStep o = LinkStepInvariant s recs (noted_in_plan s o.recs) o.world

  quiet_keeps : (refused : Option NoLoss) (d : Directory) → d.plan ≡ w.directory.plan → d.members ≡ w.directory.members →
      d.done ≡ w.directory.done
      → ((from to : NodeId) → is_link_held s.plan from to (next_recs refused) ≡ is_link_held s.plan from to recs) →
      StillNew recs w.directory.members rest → LinkStepInvariant s recs (planning d.done refused ∷ [])
      (plan_outcome_with w d refused []).world
  quiet_keeps refused d plan members done held waiting = record {
    passes = refl;
    carried = subst (λ (k : ℕ). LinkInvariant s (recs ++ planning k refused ∷ []) (with_directory w (with_step_done d)))
        (sym done) (quiet_step refused d plan members done held waiting);
  }

  -- Holding.

  held_inbox : (a b : NodeId) (flag : Bool) (inbox : Inbox) → ((from to : NodeId) → is_link from to a b ≡ false →
      is_link_held s.plan from to (next_recs None) ≡ is_link_held s.plan from to recs)
      → is_link_held s.plan a b (next_recs None) ≡ flag → InboxCarries s.plan recs b inbox →
      InboxCarries s.plan (next_recs None) b (with_hold inbox a flag)
  held_inbox a b flag inbox elsewhere here before = record {
    closed_is = closed_same inbox a (λ (link : Link). record link { held = flag }) (link_of inbox a) ∙ before.closed_is
        ∙ sym (lost_same None b);
    links_are = on_link_elim inbox a (λ (link : Link). record link { held = flag }) (λ (y : NodeId) (l : Link).
        LinkCarries s.plan (next_recs None) y b l)
        (λ l is.
        let link = before.links_are a l is in
        record {
          held_is = sym here;
          sender_lost = λ e. link.sender_lost (sym (lost_same None a) ∙ e);
          addressee_lost = λ e. link.addressee_lost (sym (lost_same None b) ∙ e);
          in_order = λ e f.
              no_more_sent a b recs (planning w.directory.done None) refl ∙ link.in_order (sym (lost_same None a) ∙ e)
              (sym (lost_same None b) ∙ f)
              ∙ ap (λ ms. ms ++ l.messages) (sym (no_more_taken a b recs (planning w.directory.done None) refl));
        })
        (λ y l other is.
        link_same s.plan recs (next_recs None) y b l (no_more_sent y b recs (planning w.directory.done None) refl)
        (no_more_taken y b recs (planning w.directory.done None) refl)
        (lost_same None y) (lost_same None b) (elsewhere y b (ap (λ (r : Bool). r && same_node b b) other))
        (before.links_are y l is));
  }

  other_inbox : (a b t : NodeId) (inbox : Inbox) → ((from to : NodeId) → is_link from to a b ≡ false →
      is_link_held s.plan from to (next_recs None) ≡ is_link_held s.plan from to recs)
      → same_node b t ≡ false → InboxCarries s.plan recs t inbox → InboxCarries s.plan (next_recs None) t inbox
  other_inbox a b t inbox elsewhere other before =
      inbox_same s.plan recs (next_recs None) t inbox (λ f. no_more_sent f t recs (planning w.directory.done None) refl)
      (λ f. no_more_taken f t recs (planning w.directory.done None) refl) (lost_same None)
      (λ f. elsewhere f t (ap (λ (r : Bool). same_node a f && r) other ∙ and_none (same_node a f))) before
    where
      and_none : (r : Bool) → (r && false) ≡ false
      and_none true = refl
      and_none false = refl

  away_inbox : (a b : NodeId) (j : ℕ) (q : Part) (inbox : Inbox) → ((from to : NodeId) → is_link from to a b ≡ false →
      is_link_held s.plan from to (next_recs None) ≡ is_link_held s.plan from to recs)
      → slice_get w.parts j ≡ Some q → slice_get w.inboxes j ≡ Some inbox → place_of w b ≢ Some j →
      InboxCarries s.plan (next_recs None) q.node.me inbox
  away_inbox a b j q inbox elsewhere at_j has no_place =
      other_inbox a b q.node.me inbox elsewhere
      (false_if (same_node b q.node.me) (λ t. no_place (place_is w j q b c.apart at_j (same_node_turned b q.node.me t))))
      (c.inboxes_are j q inbox at_j has)

  held_world : (a b : NodeId) (flag : Bool) (r : Option ℕ) (i : Option Inbox) →
      ((from to : NodeId) → is_link from to a b ≡ false → is_link_held s.plan from to (next_recs None)
      ≡ is_link_held s.plan from to recs)
      → is_link_held s.plan a b (next_recs None) ≡ flag → place_of w b ≡ r → inbox_on w r ≡ i →
      LinkInvariant s (next_recs None) (with_link_held w a flag r i)
  held_world a b flag None i elsewhere here place has =
      inboxes_change s recs (next_recs None) w w.inboxes (lost_same None) (λ j q inbox at_j has_j.
      away_inbox a b j q inbox elsewhere at_j has_j (λ e. absurd (cc (place, e)))) c
  held_world a b flag (Some k) None elsewhere here place has =
      inboxes_change s recs (next_recs None) w w.inboxes (lost_same None)
      (λ j q inbox at_j has_j. away_inbox a b j q inbox elsewhere at_j has_j (λ e.
      let same : k ≡ j = some_is k j (sym place ∙ e) in
      let gone = subst (λ (y : ℕ). slice_get w.inboxes y ≡ None) same has in
      absurd (cc (gone, has_j)))) c
  held_world a b flag (Some k) (Some inbox) elsewhere here place has =
      inboxes_change s recs (next_recs None) w (slice_set w.inboxes k (with_hold inbox a flag)) (lost_same None)
      (λ j q inbox2 at_j has_j.
      set_elim w.inboxes k (with_hold inbox a flag) (λ (i : ℕ) (y : Inbox). (z : Part) → slice_get w.parts i ≡ Some z →
      InboxCarries s.plan (next_recs None) z.node.me y)
      (λ z at_k.
      let same : z.node.me ≡ b = same_node_true z.node.me b (stands_there w k z b place at_k) in
      subst (λ (y : NodeId). InboxCarries s.plan (next_recs None) y (with_hold inbox a flag)) (sym same)
      (held_inbox a b flag inbox elsewhere here (subst (λ (y : NodeId). InboxCarries s.plan recs y inbox) same
      (c.inboxes_are k z inbox at_k has))))
      (λ i y other at_i z at_z. away_inbox a b i z y elsewhere at_z at_i (λ e. absurd (other (some_is i k (sym e ∙ place)))))
      j inbox2 has_j q at_j)
      c

  hold_keeps : (a b : NodeId) (flag : Bool) → joining x.step ≡ None → ((from to : NodeId) → is_link from to a b ≡ false →
      is_link_held s.plan from to (next_recs None) ≡ is_link_held s.plan from to recs)
      → is_link_held s.plan a b (next_recs None) ≡ flag → LinkStepInvariant s recs (planning w.directory.done None ∷ [])
      (with_directory (with_link_held w a flag (place_of w b) (inbox_on w (place_of w b))) (with_step_done w.directory))
  hold_keeps a b flag nobody elsewhere here = record {
    passes = refl;
    carried =
        redirected s (next_recs None) (with_link_held w a flag (place_of w b) (inbox_on w (place_of w b)))
        (with_step_done w.directory) c.plan_is
        (subst (λ (steps : List PlanStep). StillNew (next_recs None) w.directory.members steps) (sym rest_is)
        (new_same recs (next_recs None) w.directory.members rest (lost_same None)
        (none_joins recs w.directory.members x rest nobody waits_all)))
        (held_world a b flag (place_of w b) (inbox_on w (place_of w b)) elsewhere here refl refl);
  }

  link_itself : (a b : NodeId) → is_link a b a b ≡ true
  link_itself a b = ap (λ (r : Bool). r && same_node b b) (same_node_itself a) ∙ same_node_itself b

  holds_keeps : (a b : NodeId) → x.step ≡ step.Hold a b → KeepsStep (step_outcome w w.directory (step.Hold a b))
  holds_keeps a b is =
      hold_keeps a b true (ap joining is)
      (λ from to other. held_then from to ∙ ap (λ (st : Step). hold_after from to (is_link_held s.plan from to recs) st) is
      ∙ ap (λ (r : Bool). is_link_held s.plan from to recs || r) other ∙ or_none (is_link_held s.plan from to recs))
      (held_then a b ∙ ap (λ (st : Step). hold_after a b (is_link_held s.plan a b recs) st) is
      ∙ ap (λ (r : Bool). is_link_held s.plan a b recs || r) (link_itself a b) ∙ or_true (is_link_held s.plan a b recs))

  releases_keeps : (a b : NodeId) → x.step ≡ step.Release a b → KeepsStep (step_outcome w w.directory (step.Release a b))
  releases_keeps a b is =
      hold_keeps a b false (ap joining is)
      (λ from to other. held_then from to ∙ ap (λ (st : Step). hold_after from to (is_link_held s.plan from to recs) st) is
      ∙ ap (λ (r : Bool). is_link_held s.plan from to recs && not r) other ∙ and_true (is_link_held s.plan from to recs))
      (held_then a b ∙ ap (λ (st : Step). hold_after a b (is_link_held s.plan a b recs) st) is
      ∙ ap (λ (r : Bool). is_link_held s.plan a b recs && not r) (link_itself a b)
      ∙ and_false (is_link_held s.plan a b recs))
    where
      and_true : (r : Bool) → (r && true) ≡ r
      and_true true = refl
      and_true false = refl

      and_false : (r : Bool) → (r && false) ≡ false
      and_false true = refl
      and_false false = refl

  -- Joining.

  joins_held : (m : Member) → x.step ≡ step.Join m → (from to : NodeId) → is_link_held s.plan from to (next_recs None)
      ≡ is_link_held s.plan from to recs
  joins_held m is from to = held_then from to ∙ ap (λ (st : Step). hold_after from to (is_link_held s.plan from to recs) st) is

  joins_there : (m : Member) (k : ℕ) (p : Part) → x.step ≡ step.Join m → place_of w m.node ≡ Some k →
      slice_get w.parts k ≡ Some p → KeepsStep (join_outcome w m w.directory (Some k) (Some p))
  joins_there m k p is place here =
      let d = w.directory in
      let act = join_act p.node d.events d.clock (topo.Join m) in
      let now : Part = record { node = act.state; life = life.Alive } in
      let next = next_recs None in
      let more = noted_by (Some m.node) act.recs in
      let w2 = (join_outcome w m d (Some k) (Some p)).world in
      let seen = acts.sees (after_learn_all p.node d.events d.clock) (topo.Join m) in
      let calm = see_calm act.recs (after_learn_all p.node d.events d.clock).read seen.1 in
      let new = one_joins recs d.members x m rest (ap joining is) waits_all in
      let number : p.node.me ≡ m.node = same_node_true p.node.me m.node (stands_there w k p m.node place here) in
      let joiner : joiner_in (slice_get s.plan d.done) ≡ Some m.node = ap joiner_in at_hand
      ∙ ap (λ (st : Step). joiner_in (Some (record x { step = st }))) is in
      let keeps : LinkStepInvariant s recs (planning d.done None ∷ more) w2 = record {
        passes = each_both (fits s.plan) recs (planning d.done None ∷ []) more refl
            (calm_fits s.plan next m.node act.recs calm (lost_same None m.node ∙ new.2));
        carried =
            subst (λ (r : List Noted). LinkInvariant s r w2) (append_twice recs (planning d.done None ∷ []) more)
            (same_keeps s next (next ++ more) w2 (calm_same s.plan next (Some m.node) act.recs calm)
            (redirected s next (record w { parts = slice_set w.parts k now }) (with_step_done (directory_after_join d m))
            c.plan_is
            (subst (λ (steps : List PlanStep). StillNew next (d.members ++ m ∷ []) steps) (sym rest_is)
            (new_same recs next (d.members ++ m ∷ []) rest (lost_same None) new.1))
            (parts_keep s next w (slice_set w.parts k now)
            (set_stood w.parts k p now here (sym (seen.0.same_me ∙ learned_me p.node d.events)) (c.lives k p here
            ∙ ap (λ (n : NodeId). is_lost recs n) number ∙ new.2))
            (same_keeps s recs next w (say_same None (joins_held m is)) c))));
      } in
      subst (λ (o : Option NodeId). LinkStepInvariant s recs (planning d.done None ∷ noted_by o act.recs) w2) (sym joiner) keeps

  joins_in : (m : Member) (r : Option ℕ) (q : Option Part) → x.step ≡ step.Join m → place_of w m.node ≡ r → part_on w r ≡ q →
      KeepsStep (join_outcome w m w.directory r q)
  joins_in m None q is place here = quiet_keeps None w.directory refl refl refl (joins_held m is)
      (one_joins recs w.directory.members x m rest (ap joining is) waits_all).0
  joins_in m (Some k) None is place here = quiet_keeps None w.directory refl refl refl (joins_held m is)
      (one_joins recs w.directory.members x m rest (ap joining is) waits_all).0
  joins_in m (Some k) (Some p) is place here = joins_there m k p is place here

  -- Losing.

  abbrev loss_recs : NodeId → List Noted
  loss_recs id = recs ++ (planning w.directory.done None ∷ record { node = None; rec = note.Lost id } ∷ [])

  lost_then : (id node : NodeId) → is_lost (loss_recs id) node ≡ (is_lost recs node || same_node id node)
  lost_then id node = lost_parts recs (planning w.directory.done None ∷ record { node = None; rec = note.Lost id } ∷ []) node
      ∙ ap (λ (b : Bool). is_lost recs node || b) (or_none (same_node id node))

  lost_itself : (id : NodeId) → is_lost (loss_recs id) id ≡ true
  lost_itself id = lost_then id id ∙ ap (λ (b : Bool). is_lost recs id || b) (same_node_itself id) ∙ or_true (is_lost recs id)

  lost_other : (id node : NodeId) → same_node id node ≡ false → is_lost (loss_recs id) node ≡ is_lost recs node
  lost_other id node other = lost_then id node ∙ ap (λ (b : Bool). is_lost recs node || b) other ∙ or_none (is_lost recs node)

  loss_sent : (id from to : NodeId) → sent_on from to (loss_recs id) ≡ sent_on from to recs
  loss_sent id from to = sent_parts from to recs (planning w.directory.done None ∷ record { node = None; rec = note.Lost id }
      ∷ []) ∙ append_none (sent_on from to recs)

  loss_taken : (id from to : NodeId) → taken_on from to (loss_recs id) ≡ taken_on from to recs
  loss_taken id from to = taken_parts from to recs (planning w.directory.done None ∷ record {
    node = None;
    rec =
        note.Lost id;
  } ∷ []) ∙ append_none (taken_on from to recs)

  loss_held : (id : NodeId) → x.step ≡ step.Lose id → (from to : NodeId) → is_link_held s.plan from to (loss_recs id)
      ≡ is_link_held s.plan from to recs
  loss_held id is from to =
      hold_parts s.plan from to false recs (planning w.directory.done None ∷ record { node = None; rec = note.Lost id } ∷ [])
      ∙ ap (λ (o : Option PlanStep). hold_after_planned from to (is_link_held s.plan from to recs) o) at_hand
      ∙ ap (λ (st : Step). hold_after from to (is_link_held s.plan from to recs) st) is

  gone_inbox : (id : NodeId) (b : Inbox) → x.step ≡ step.Lose id → InboxCarries s.plan recs id b →
      InboxCarries s.plan (loss_recs id) id (inbox_shut (without_messages_of b id))
  gone_inbox id b is before = record {
    closed_is = sym (lost_itself id);
    links_are = λ y l has. record {
      held_is =
          shut_keeps (without_messages_of b id) y (λ (k : Link). k.held ≡ is_link_held s.plan y id (loss_recs id)) (λ k e. e)
          (λ k at. on_link_elim b id (λ (link : Link). record link { messages = [] }) (λ (z : NodeId) (n : Link).
          n.held ≡ is_link_held s.plan z id (loss_recs id))
          (λ old some. (before.links_are id old some).held_is ∙ sym (loss_held id is id id))
          (λ z n other some. (before.links_are z n some).held_is ∙ sym (loss_held id is z id))
          y k at)
          l has;
      sender_lost = λ e. shut_empty (without_messages_of b id) y l has;
      addressee_lost = λ e. shut_empty (without_messages_of b id) y l has;
      in_order = λ e f. let g = lost_itself id in absurd (cc (f, g));
    };
  }

  kept_inbox : (id t : NodeId) (b : Inbox) → x.step ≡ step.Lose id → same_node id t ≡ false → InboxCarries s.plan recs t b →
      InboxCarries s.plan (loss_recs id) t (without_messages_of b id)
  kept_inbox id t b is other before = record {
    closed_is = closed_same b id (λ (link : Link). record link { messages = [] }) (link_of b id) ∙ before.closed_is
        ∙ sym (lost_other id t other);
    links_are = on_link_elim b id (λ (link : Link). record link { messages = [] }) (λ (z : NodeId) (n : Link).
        LinkCarries s.plan (loss_recs id) z t n)
        (λ old some. record {
          held_is = (before.links_are id old some).held_is ∙ sym (loss_held id is id t);
          sender_lost = λ e. refl;
          addressee_lost = λ e. refl;
          in_order = λ e f. let g = lost_itself id in absurd (cc (e, g));
        })
        (λ z n apart some. link_same s.plan recs (loss_recs id) z t n (loss_sent id z t) (loss_taken id z t)
        (lost_other id z apart) (lost_other id t other) (loss_held id is z t) (before.links_are z n some));
  }

  unlinked_elim : (id : NodeId) (r : Option ℕ) (i : Option Inbox) →
      option_and_then (slice_get (inboxes_emptied id w.inboxes)) r ≡ i → (P : ℕ → Inbox → Type 0)
      → ((j : ℕ) (b : Inbox) → slice_get w.inboxes j ≡ Some b → r ≢ Some j → P j (without_messages_of b id)) →
      ((j : ℕ) (b : Inbox) → slice_get w.inboxes j ≡ Some b → r ≡ Some j → P j (inbox_shut (without_messages_of b id)))
      → (j : ℕ) (b : Inbox) → slice_get (with_inbox_shut (record w { inboxes = inboxes_emptied id w.inboxes }) r i).inboxes j
      ≡ Some b → P j b
  unlinked_elim id None i at P stays goes j b has =
      let a = after_map (λ (inbox : Inbox). without_messages_of inbox id) w.inboxes j b has in
      subst (λ (y : Inbox). P j y) a.2 (stays j a.0 a.1 (λ e. absurd (cc (e))))
  unlinked_elim id (Some k) None at P stays goes j b has =
      let a = after_map (λ (inbox : Inbox). without_messages_of inbox id) w.inboxes j b has in
      subst (λ (y : Inbox). P j y) a.2 (stays j a.0 a.1 (λ e.
      let gone = subst (λ (n : ℕ). slice_get (inboxes_emptied id w.inboxes) n ≡ None) (some_is k j e) at in
      absurd (cc (gone, has))))
  unlinked_elim id (Some k) (Some e) at P stays goes j b has =
      set_elim (inboxes_emptied id w.inboxes) k (inbox_shut e) P
      (let a = after_map (λ (inbox : Inbox). without_messages_of inbox id) w.inboxes k e at in
      subst (λ (y : Inbox). P k (inbox_shut y)) a.2 (goes k a.0 a.1 refl))
      (λ n y other at_n.
      let a = after_map (λ (inbox : Inbox). without_messages_of inbox id) w.inboxes n y at_n in
      subst (λ (z : Inbox). P n z) a.2 (stays n a.0 a.1 (λ g. other (sym (some_is k n g)))))
      j b has

  part_me : (id : NodeId) (q : Part) → q.node.me ≡ (part_after_loss id q).node.me
  part_me id q =
      elim (same_node q.node.me id) as (λ b.
      q.node.me ≡ (if b then record { node = q.node; life = life.Gone } else if is_alive q.life then record {
        node =
            without_single q.node id;
        life = q.life;
      } else q).node.me) [
        | true ↦ refl
        | false ↦
            elim (is_alive q.life) as (λ b. q.node.me ≡ (if b then record {
              node = without_single q.node id;
              life =
                  q.life;
            } else q).node.me) [
              | true ↦ refl
              | false ↦ refl
            ]
      ]

  part_life : (id : NodeId) (q : Part) → is_gone q.life ≡ is_lost recs q.node.me →
      is_gone (part_after_loss id q).life ≡ is_lost (loss_recs id) q.node.me
  part_life id q before =
      elim (same_node q.node.me id) as (λ b. same_node q.node.me id ≡ b →
      is_gone (if b then record { node = q.node; life = life.Gone } else if is_alive q.life then record {
        node =
            without_single q.node id;
        life = q.life;
      } else q).life ≡ is_lost (loss_recs id) q.node.me) [
        | true ↦ λ t. sym (lost_itself id) ∙ ap (λ (n : NodeId). is_lost (loss_recs id) n) (sym (same_node_true q.node.me id t))
        | false ↦ λ f.
            elim (is_alive q.life) as (λ b.
            is_gone (if b then record { node = without_single q.node id; life = q.life } else q).life ≡ is_lost
            (loss_recs id) q.node.me) [
              | true ↦ before ∙ sym (lost_other id q.node.me (turned_false q.node.me id f))
              | false ↦ before ∙ sym (lost_other id q.node.me (turned_false q.node.me id f))
            ]
      ] refl

  shut_as : (e : World) (r : Option ℕ) (i : Option Inbox) → record e { inboxes = (with_inbox_shut e r i).inboxes }
      ≡ with_inbox_shut e r i
  shut_as e None i = refl
  shut_as e (Some k) None = refl
  shut_as e (Some k) (Some b) = refl

  lost_inboxes : (id : NodeId) → x.step ≡ step.Lose id → let e : World = record w { inboxes = inboxes_emptied id w.inboxes } in
      (j : ℕ) (b : Inbox) → slice_get (with_inbox_shut e (place_of w id) (inbox_on e (place_of w id))).inboxes j ≡ Some b →
      (q : Part) → slice_get w.parts j ≡ Some q → InboxCarries s.plan (loss_recs id) q.node.me b
  lost_inboxes id is =
      let e : World = record w { inboxes = inboxes_emptied id w.inboxes } in
      unlinked_elim id (place_of w id) (inbox_on e (place_of w id)) refl (λ (j : ℕ) (b : Inbox). (q : Part) →
      slice_get w.parts j ≡ Some q → InboxCarries s.plan (loss_recs id) q.node.me b)
      (λ j b has no_place q at_j.
      kept_inbox id q.node.me b is
      (false_if (same_node id q.node.me)
      (λ t. no_place (place_is w j q id c.apart at_j (same_node_turned id q.node.me t)))) (c.inboxes_are j q b at_j has))
      (λ j b has place q at_j.
      let same : q.node.me ≡ id = same_node_true q.node.me id (stands_there w j q id place at_j) in
      subst (λ (n : NodeId). InboxCarries s.plan (loss_recs id) n (inbox_shut (without_messages_of b id))) (sym same)
      (gone_inbox id b is (subst (λ (n : NodeId). InboxCarries s.plan recs n b) same (c.inboxes_are j q b at_j has))))

  lost_carries : (id : NodeId) → x.step ≡ step.Lose id → is_member w.directory.members id ≡ true →
      LinkInvariant s (loss_recs id) (with_directory (world_after_loss w id (place_of w id))
      (with_step_done (with_event w.directory (topo.Left id))))
  lost_carries id is member =
      let e : World = record w { inboxes = inboxes_emptied id w.inboxes } in
      let r = place_of w id in
      let i = inbox_on e r in
      let d = with_step_done (with_event w.directory (topo.Left id)) in
      let boxes = (with_inbox_shut e r i).inboxes in
      let old = λ (k : ℕ) (p : Part) (at : slice_get (parts_after_loss id w.parts) k ≡ Some p).
      after_map (part_after_loss id) w.parts k p at in
      let me = λ (q p : Part) (same : part_after_loss id q ≡ p). (part_me id q ∙ ap (λ (y : Part). y.node.me) same) in
      let made : LinkInvariant s (loss_recs id)
      (with_directory (record e { inboxes = boxes; parts = parts_after_loss id w.parts }) d) = record {
        plan_is = c.plan_is;
        session_nodes_are = c.session_nodes_are;
        apart = λ j k p q at_j at_k same.
            let a = old j p at_j in
            let b = old k q at_k in
            c.apart j k a.0 b.0 a.1 b.1
            (subst (λ (n : NodeId). same_node n b.0.node.me ≡ true) (sym (me a.0 p a.2))
            (subst (λ (n : NodeId). same_node p.node.me n ≡ true) (sym (me b.0 q b.2)) same));
        lives = λ k p at.
            let a = old k p at in
            sym (ap (λ (y : Part). is_gone y.life) a.2) ∙ part_life id a.0 (c.lives k a.0 a.1)
            ∙ ap (λ (n : NodeId). is_lost (loss_recs id) n) (me a.0 p a.2);
        inboxes_are = λ k p b at has.
            let a = old k p at in
            subst (λ (n : NodeId). InboxCarries s.plan (loss_recs id) n b) (me a.0 p a.2) (lost_inboxes id is k b has a.0 a.1);
        waiting =
            subst (λ (steps : List PlanStep). StillNew (loss_recs id) (without_node id w.directory.members) steps) (sym rest_is)
            (new_after_loss recs (loss_recs id) w.directory.members id rest (lost_then id) member
            (none_joins recs w.directory.members x rest (ap joining is) waits_all));
      } in
      subst (λ (o : World). LinkInvariant s (loss_recs id)
      (with_directory (record o { parts = parts_after_loss id o.parts }) d)) (shut_as e r i) made

  refused_else : (b : Bool) (o : Option NoLoss) (n : NoLoss) → (if b then o else Some n) ≡ None → b ≡ true
  refused_else true o n e = refl
  refused_else false o n e = absurd (cc)

  loses_by : (id : NodeId) (o : Option NoLoss) → x.step ≡ step.Lose id →
      (o ≡ None → is_member w.directory.members id ≡ true) → KeepsStep (loss_outcome w id w.directory o)
  loses_by id (Some n) is member =
      quiet_keeps (Some n) w.directory refl refl refl
      (λ from to. more_held s.plan from to recs (planning w.directory.done (Some n)))
      (none_joins recs w.directory.members x rest (ap joining is) waits_all)
  loses_by id None is member =
      let w2 = with_directory (world_after_loss w id (place_of w id)) (with_step_done (with_event w.directory (topo.Left id)))
      in
      let joiner : joiner_in (slice_get s.plan w.directory.done) ≡ None = ap joiner_in at_hand
      ∙ ap (λ (st : Step). joiner_in (Some (record x { step = st }))) is in
      let keeps : LinkStepInvariant s recs (planning w.directory.done None ∷ noted_by None (note.Lost id ∷ [])) w2 =
      record { passes = refl; carried = lost_carries id is (member refl) } in
      subst (λ (o : Option NodeId). LinkStepInvariant s recs (planning w.directory.done None ∷ noted_by o (note.Lost id ∷ []))
      w2) (sym joiner) keeps

  loses_keeps : (id : NodeId) (best : Option PartMap) → x.step ≡ step.Lose id →
      KeepsStep (loss_outcome w id w.directory (refusal_of_loss w.directory id best))
  loses_keeps id best is = loses_by id (refusal_of_loss w.directory id best) is
      (λ e. refused_else (is_member w.directory.members id) _ _ e)

  -- All steps.

  caches_keep : (event : TopoEvent) → joining x.step ≡ None → (with_event w.directory event).members ≡ w.directory.members →
      ((from to : NodeId) → hold_after from to (is_link_held s.plan from to recs) x.step ≡ is_link_held s.plan from to recs)
      → KeepsStep (plan_outcome_with w (with_event w.directory event) None [])
  caches_keep event nobody members held = quiet_keeps None (with_event w.directory event) refl members refl
      (λ from to. held_then from to ∙ held from to) (none_joins recs w.directory.members x rest nobody waits_all)

  pub step_keeps : (st : Step) → x.step ≡ st → KeepsStep (step_outcome w w.directory st)
  step_keeps (step.Join m) is = joins_in m (place_of w m.node) (part_on w (place_of w m.node)) is refl refl
  step_keeps (step.Lose id) is = loses_keeps id (best_map_without w id) is
  step_keeps (step.Hold a b) is = holds_keeps a b is
  step_keeps (step.Release a b) is = releases_keeps a b is
  step_keeps (step.Start cache) is = caches_keep (topo.Start cache) (ap joining is) refl
      (λ from to. ap (λ (st : Step). hold_after from to (is_link_held s.plan from to recs) st) is)
  step_keeps (step.Stop cache) is = caches_keep (topo.Stop cache) (ap joining is) refl
      (λ from to. ap (λ (st : Step). hold_after from to (is_link_held s.plan from to recs) st) is)
