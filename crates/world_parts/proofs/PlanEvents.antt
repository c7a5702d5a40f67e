-- Steps of the plan and of the clock on the parts that they touch.
use Rattle.std.proofs.Common.{◌≡◌, ◌≤◌, ◌<◌, ◌+◌, ◌&&◌, ◌||◌, ◌==◌, ◌*◌, List, [], ◌∷◌, Option, Some, None, Bool, true, false, if◌then◌else◌, not, map, length, ℕ, zero, suc, refl, ap, sym, subst, ◌∙◌, arith}
use Rattle.std.specs.Option.{option_map}
use Rattle.std.specs.Prelude.{nat_le, slice_get, slice_set}
use Rattle.std.proofs.lemmas.Bool.Decides.{nat_tests}
use Rattle.frame_laws.proofs.Acts as acts
use Rattle.act_rows.specs.Acts.{join_act}
use Rattle.act_rows.specs.Exchange.{after_learn_all}
use Rattle.part_model.specs.Directory.{Directory, directory_after_join, is_due, next_step, refusal_of_loss, step_due, with_event, with_step_done}
use Rattle.part_model.specs.Links.{Inbox, inbox_shut, with_hold, without_messages_of}
use Rattle.ignite_types.specs.Good.{are_distinct, members}
use Rattle.ignite_types.specs.Good as good
use Rattle.ignite_types.specs.declared.journal.Event.{Event}
use Rattle.ignite_types.specs.declared.journal.NoLoss.{NoLoss}
use Rattle.ignite_types.specs.declared.journal.Rec.{Rec}
use Rattle.ignite_types.specs.declared.journal.TopoEvent.{TopoEvent}
use Rattle.ignite_types.specs.declared.names.NodeId.{NodeId}
use Rattle.ignite_types.specs.declared.scenario.Member.{Member}
use Rattle.ignite_types.specs.declared.scenario.PlanStep.{PlanStep}
use Rattle.ignite_types.specs.declared.scenario.Scenario.{Scenario}
use Rattle.ignite_types.specs.declared.scenario.Step.{Step}
use Rattle.link_laws.proofs.Places.{some_is}
use Rattle.part_table.specs.History.{held_at, held_pairs, replay_or}
use Rattle.part_table.specs.Rule.{numbers_from}
use Rattle.scenes.proofs.Learned.{learned_me}
use Rattle.scenes.proofs.Parts.{same_all}
use Rattle.scenes.proofs.Worlds.{loss_me, moment_me}
use Rattle.tx_model.specs.World.{Outcome, Part, World, best_map_without, can_be, inbox_on, inboxes_emptied, is_enabled, is_quiet, join_outcome, least_moment, loss_outcome, outcome, part_after_loss, part_at_moment, part_on, place_of, plan_outcome, plan_outcome_with, step_outcome, tick_outcome, unchanged, with_directory, with_inbox, with_inbox_shut, with_link_held, parts_after_loss}
use Rattle.world_parts.specs.Parts.{PartValue, declared_ids, declared_place, inbox_part, no_part, node_part, part_count, parts_of, world_of}
use Rattle.world_parts.specs.Steps.{PartsAfter, after_cache_step, after_due, after_hold, after_if, after_join, after_plan, after_step, after_tick, after_whole, all_parts, inbox_alone, node_and_inbox, parts_of_step, step_done, step_in, value_in, with_values}
use Rattle.world_parts.proofs.NodeEvents.{Agrees, Made, Standing, makes, never, result, standing}
use Rattle.world_parts.proofs.Shapes.{IsShaped, beyond_is, directory_set, directory_shaped, inbox_set, inbox_shaped, map_length, node_set, node_shaped, nowhere, round, set_length, values_cons}
use Rattle.ignite_types.specs.declared.journal.Event.TheVariants as event
use Rattle.ignite_types.specs.declared.journal.Rec.TheVariants as note
use Rattle.ignite_types.specs.declared.journal.TopoEvent.TheVariants as topo
use Rattle.ignite_types.specs.declared.scenario.Step.TheVariants as step
use Rattle.node_state.specs.declared.life.Life.TheVariants as life
use Rattle.world_parts.specs.declared.parts.WorldPart.TheVariants as part

-- All values, told in order and read again.

told_again : (s : Scenario) (f : ℕ → PartValue) (k n p : ℕ) → p < n → value_in s (map f (numbers_from k n)) p ≡ f (k + p)
told_again s f k zero p within = absurd (omega (arith, within))
told_again s f k (suc n) zero within = ap f (omega arith)
told_again s f k (suc n) (suc p) within = told_again s f (k + 1) n p (omega (arith, within)) ∙ ap f (omega arith)

told_past : (s : Scenario) (f : ℕ → PartValue) (k n p : ℕ) → n ≤ p → value_in s (map f (numbers_from k n)) p ≡ no_part s
told_past s f k zero p far = refl
told_past s f k (suc n) zero far = absurd (omega (arith, far))
told_past s f k (suc n) (suc p) far = told_past s f (k + 1) n p (omega (arith, far))

-- all values put in place of others
put_all : (f g : ℕ → PartValue) (k n p : ℕ) → k ≤ p → p < k + n →
    with_values (numbers_from k n) (map g (numbers_from k n)) f p ≡ g p
put_all f g k zero p from to = absurd (omega (arith, from, to))
put_all f g k (suc n) p from to = by (λ above. put_all f g (k + 1) n p above (omega (arith, to))) (k == p) refl
  where
    by : (k + 1 ≤ p → with_values (numbers_from (k + 1) n) (map g (numbers_from (k + 1) n)) f p ≡ g p) → (b : Bool) →
        (k == p) ≡ b → replay_or
        (if b then Some (g k) else held_at p (held_pairs (numbers_from (k + 1) n) (map g (numbers_from (k + 1) n)))) (f p) ≡ g p
    by rest true same = ap g (grind (arith, nat_tests, same))
    by rest false other = rest (grind (arith, nat_tests, from, other))

put_past : (f g : ℕ → PartValue) (k n p : ℕ) → k + n ≤ p → with_values (numbers_from k n) (map g (numbers_from k n)) f p ≡ f p
put_past f g k zero p far = refl
put_past f g k (suc n) p far = by (put_past f g (k + 1) n p (omega (arith, far))) (k == p) refl
  where
    by : with_values (numbers_from (k + 1) n) (map g (numbers_from (k + 1) n)) f p ≡ f p → (b : Bool) → (k == p) ≡ b →
        replay_or (if b then Some (g k) else held_at p (held_pairs (numbers_from (k + 1) n) (map g (numbers_from (k + 1) n))))
        (f p) ≡ f p
    by rest true same = absurd (grind (arith, nat_tests, same, far))
    by rest false other = rest

numbers_length : (k n : ℕ) → length (numbers_from k n) ≡ n
numbers_length k zero = refl
numbers_length k (suc n) = ap suc (numbers_length (k + 1) n)

-- a value that is there already
same_value : (p : ℕ) (x : PartValue) (f : ℕ → PartValue) → f p ≡ x → with_values (p ∷ []) (x ∷ []) f ≡ f
same_value p x f is = λ i q. by q (p == q) refl i
  where
    by : (q : ℕ) (b : Bool) → (p == q) ≡ b → replay_or (if b then Some x else None) (f q) ≡ f q
    by q true same = let here : p ≡ q = grind (arith, nat_tests, same) in sym is ∙ ap f here
    by q false other = refl

within_or_past : (p n : ℕ) (F : Type 0) → (p < n → F) → (n ≤ p → F) → F
within_or_past p n F below past = by (nat_le n p) refl
  where
    by : (b : Bool) → nat_le n p ≡ b → F
    by true t = past (grind (arith, nat_tests, t))
    by false t = below (grind (arith, nat_tests, t))

-- what is made where a test is passed
pub if_recs : (c : Bool) (news : List PartValue) (recs : List Rec) (a : PartsAfter) → after_if c news recs ≡ Some a →
    a.recs ≡ recs
if_recs true news recs a is = ap (λ (y : PartsAfter). y.recs) (sym (some_is (result news recs) a is))
if_recs false news recs a is = absurd (cc (is))

module _ (s : Scenario) (apart : are_distinct good.same_member_node (members s) ≡ true) where
  pub values_told : (w : World) → value_in s (map (parts_of s w) (all_parts s)) ≡ parts_of s w
  values_told w = λ i p. by p i
    where
      by : (p : ℕ) → value_in s (map (parts_of s w) (all_parts s)) p ≡ parts_of s w p
      by p = within_or_past p (part_count s) (value_in s (map (parts_of s w) (all_parts s)) p ≡ parts_of s w p)
          (λ below. told_again s (parts_of s w) 0 (part_count s) p below ∙ ap (parts_of s w) (omega arith))
          (λ past. told_past s (parts_of s w) 0 (part_count s) p past ∙ sym (beyond_is s w p past))

  values_put : (w w2 : World) → parts_of s w2 ≡ with_values (all_parts s) (map (parts_of s w2) (all_parts s)) (parts_of s w)
  values_put w w2 = λ i p. by p i
    where
      by : (p : ℕ) → parts_of s w2 p ≡ with_values (all_parts s) (map (parts_of s w2) (all_parts s)) (parts_of s w) p
      by p = within_or_past p (part_count s) (parts_of s w2 p ≡ with_values (all_parts s) (map (parts_of s w2) (all_parts s))
          (parts_of s w) p)
          (λ below. sym (put_all (parts_of s w) (parts_of s w2) 0 (part_count s) p (omega arith) (omega (arith, below))))
          (λ past. beyond_is s w2 p past
          ∙ sym (put_past (parts_of s w) (parts_of s w2) 0 (part_count s) p (omega (arith, past)) ∙ beyond_is s w p past))

  module _ (w : World) (shaped : IsShaped s w) where
    abbrev f : ℕ → PartValue
    f = parts_of s w

    pub whole_told : world_of s (value_in s (map f (all_parts s))) ≡ w
    whole_told = ap (world_of s) (values_told w) ∙ round s apart w shaped

    -- an event that touches all parts
    whole : (e : Event) → (is_enabled w e ≡ true → IsShaped s (outcome w e).world) →
        Agrees s w (all_parts s) (is_enabled w e) (outcome w e)
        (after_whole s e (world_of s (value_in s (map f (all_parts s)))))
    whole e kept = subst (λ (v : World). Agrees s w (all_parts s) (is_enabled w e) (outcome w e) (after_whole s e v))
        (sym whole_told) (by (is_enabled w e) kept)
      where
        by : (c : Bool) → (c ≡ true → IsShaped s (outcome w e).world) →
            Agrees s w (all_parts s) c (outcome w e) (after_if c (map (parts_of s (outcome w e).world) (all_parts s))
            (outcome w e).recs)
        by true now = makes s w (all_parts s) (outcome w e) (result (map (parts_of s (outcome w e).world) (all_parts s))
            (outcome w e).recs) (record {
              same_recs = refl;
              put_back = values_put w (outcome w e).world;
              shaped = now refl;
              counted = map_length (parts_of s (outcome w e).world) (all_parts s);
            })
        by false now = never s w (all_parts s) (outcome w e)

    -- The clock.

    tick_shaped : (o : Option ℕ) → IsShaped s (tick_outcome w o).world
    tick_shaped None = shaped
    tick_shaped (Some to) = record {
      numbers_are = same_all (part_at_moment to) (moment_me to) w.parts ∙ shaped.numbers_are;
      inboxes_are = shaped.inboxes_are;
      homes_are = shaped.homes_are;
      plan_is = shaped.plan_is;
      unbroken = shaped.unbroken;
    }

    pub ticks : Agrees s w (all_parts s) (is_enabled w event.Tick) (outcome w event.Tick) (after_tick s (map f (all_parts s)))
    ticks = whole event.Tick (λ can. tick_shaped (least_moment w))

    -- A loss.

    lost_shaped : (id : NodeId) (r : Option ℕ) (b : Option Inbox)
        → (let u = with_inbox_shut (record w { inboxes = inboxes_emptied id w.inboxes }) r b in
        IsShaped s (with_directory (record u { parts = parts_after_loss id u.parts })
        (with_step_done (with_event w.directory (topo.Left id)))))
    lost_shaped id (Some r) (Some b) = record {
      numbers_are = same_all (part_after_loss id) (loss_me id) w.parts ∙ shaped.numbers_are;
      inboxes_are = set_length (inboxes_emptied id w.inboxes) r (inbox_shut b)
          ∙ map_length (λ (inbox : Inbox). without_messages_of inbox id) w.inboxes ∙ shaped.inboxes_are;
      homes_are = shaped.homes_are;
      plan_is = shaped.plan_is;
      unbroken = shaped.unbroken;
    }
    lost_shaped id (Some r) None = record {
      numbers_are = same_all (part_after_loss id) (loss_me id) w.parts ∙ shaped.numbers_are;
      inboxes_are = map_length (λ (inbox : Inbox). without_messages_of inbox id) w.inboxes ∙ shaped.inboxes_are;
      homes_are = shaped.homes_are;
      plan_is = shaped.plan_is;
      unbroken = shaped.unbroken;
    }
    lost_shaped id None b = record {
      numbers_are = same_all (part_after_loss id) (loss_me id) w.parts ∙ shaped.numbers_are;
      inboxes_are = map_length (λ (inbox : Inbox). without_messages_of inbox id) w.inboxes ∙ shaped.inboxes_are;
      homes_are = shaped.homes_are;
      plan_is = shaped.plan_is;
      unbroken = shaped.unbroken;
    }

    loss_shaped : (id : NodeId) (o : Option NoLoss) → IsShaped s (loss_outcome w id w.directory o).world
    loss_shaped id (Some refused) = directory_shaped s apart w shaped (with_step_done w.directory) refl
    loss_shaped id None = lost_shaped id (place_of w id) (inbox_on (record w { inboxes = inboxes_emptied id w.inboxes })
        (place_of w id))

    -- The other steps.

    -- the directory alone changes
    alone : (d : Directory) → d.plan ≡ w.directory.plan → Made s w (0 ∷ []) (plan_outcome_with w d None [])
        (result (part.Directory (with_step_done d) ∷ []) (note.Planned d.done None ∷ []))
    alone d plan = record {
      same_recs = refl;
      put_back = directory_set s apart w shaped (with_step_done d);
      shaped = directory_shaped s apart w shaped (with_step_done d) plan;
      counted = refl;
    }

    with_box : (to : NodeId) (j : ℕ) (u : Standing s w to j) (b : Inbox)
        → Made s w (0 ∷ inbox_part j ∷ []) (plan_outcome_with (with_inbox w u.r b) w.directory None [])
        (result (part.Directory (with_step_done w.directory) ∷ part.Inbox b ∷ []) (note.Planned w.directory.done None ∷ []))
    with_box to j u b =
        let shaped1 = inbox_shaped s apart w shaped j u.r to u.declared u.rank b in
        let d = with_step_done w.directory in
        record {
          same_recs = refl;
          put_back =
              directory_set s apart (with_inbox w u.r b) shaped1 d
              ∙ ap (with_values (0 ∷ []) (part.Directory d ∷ [])) (inbox_set s apart w shaped j u.r to u.declared u.rank b)
              ∙ sym (values_cons 0 (inbox_part j ∷ []) (part.Directory d) (part.Inbox b ∷ []) f);
          shaped = directory_shaped s apart (with_inbox w u.r b) shaped1 d refl;
          counted = refl;
        }

    joined : (m : Member) (k : ℕ) (t : Standing s w m.node k)
        → (let act = join_act t.node.node w.directory.events w.directory.clock (topo.Join m) in let d =
        with_step_done (directory_after_join w.directory m) in
        Made s w (0 ∷ node_part k ∷ inbox_part k ∷ []) (join_outcome w m w.directory (Some t.r) (Some t.node))
        (result (part.Directory d ∷ part.Node (record { node = act.state; life = life.Alive }) ∷ part.Inbox t.box ∷ [])
        (note.Planned w.directory.done None ∷ act.recs)))
    joined m k t =
        let act = join_act t.node.node w.directory.events w.directory.clock (topo.Join m) in
        let q : Part = record { node = act.state; life = life.Alive } in
        let me : q.node.me ≡ m.node =
        (acts.sees (after_learn_all t.node.node w.directory.events w.directory.clock) (topo.Join m)).0.same_me
        ∙ learned_me w.directory.events t.node.node ∙ t.me_is in
        let d = with_step_done (directory_after_join w.directory m) in
        let w1 : World = record w { parts = slice_set w.parts t.r q } in
        let shaped1 = node_shaped s apart w shaped k t.r m.node t.declared t.rank q me in
        record {
          same_recs = refl;
          put_back =
              directory_set s apart w1 shaped1 d
              ∙ ap (with_values (0 ∷ []) (part.Directory d ∷ []))
              (node_set s apart w shaped k t.r m.node t.declared t.rank q me
              ∙ ap (with_values (node_part k ∷ []) (part.Node q ∷ []))
              (sym (same_value (inbox_part k) (part.Inbox t.box) f t.inbox_is))
              ∙ sym (values_cons (node_part k) (inbox_part k ∷ []) (part.Node q) (part.Inbox t.box ∷ []) f))
              ∙ sym (values_cons 0 (node_part k ∷ inbox_part k ∷ []) (part.Directory d) (part.Node q ∷ part.Inbox t.box ∷ [])
              f);
          shaped = directory_shaped s apart w1 shaped1 d refl;
          counted = refl;
        }

    -- a declared node, or none
    each_place : (id : NodeId) (F : Option ℕ → Option ℕ → Option Part → Option Inbox → Type 0) → F None None None None
        → ((k : ℕ) (t : Standing s w id k) → F (Some k) (Some t.r) (Some t.node) (Some t.box))
        → F (declared_place s id) (place_of w id) (part_on w (place_of w id)) (inbox_on w (place_of w id))
    each_place id F none there = by (declared_place s id) refl
      where
        by : (o : Option ℕ) → declared_place s id ≡ o → F o (place_of w id) (part_on w (place_of w id))
            (inbox_on w (place_of w id))
        by None place = subst (λ (o : Option ℕ). F None o (part_on w o) (inbox_on w o))
            (sym (nowhere s apart w shaped id place)) none
        by (Some k) place =
            let t = standing s apart w shaped id k place in
            subst (λ (o : Option ℕ). F (Some k) o (part_on w o) (inbox_on w o)) (sym t.here)
            (subst (λ (o : Option Part). F (Some k) (Some t.r) o (slice_get w.inboxes t.r)) (sym t.node_at)
            (subst (λ (o : Option Inbox). F (Some k) (Some t.r) (Some t.node) o) (sym t.box_at) (there k t)))

    joins : (m : Member) → (let place = place_of w m.node in let others = node_and_inbox (declared_place s m.node) in
        Agrees s w (0 ∷ others) true (join_outcome w m w.directory place (part_on w place))
        (after_join w.directory m (map f others)))
    joins m =
        each_place m.node (λ o place p b. let others = node_and_inbox o in
        Agrees s w (0 ∷ others) true (join_outcome w m w.directory place p) (after_join w.directory m (map f others)))
        (makes s w (0 ∷ []) (plan_outcome_with w w.directory None [])
        (result (part.Directory (with_step_done w.directory) ∷ []) (note.Planned w.directory.done None ∷ []))
        (alone w.directory refl))
        (λ k t.
        let act = join_act t.node.node w.directory.events w.directory.clock (topo.Join m) in
        let d = with_step_done (directory_after_join w.directory m) in
        rw (t.node_is, t.inbox_is)
        (makes s w (0 ∷ node_part k ∷ inbox_part k ∷ []) (join_outcome w m w.directory (Some t.r) (Some t.node))
        (result (part.Directory d ∷ part.Node (record { node = act.state; life = life.Alive }) ∷ part.Inbox t.box ∷ [])
        (note.Planned w.directory.done None ∷ act.recs))
        (joined m k t)))

    holds : (from to : NodeId) (held : Bool) → (let place = place_of w to in let others = inbox_alone (declared_place s to) in
        Agrees s w (0 ∷ others) true (plan_outcome_with (with_link_held w from held place (inbox_on w place)) w.directory None
        []) (after_hold w.directory from held (map f others)))
    holds from to held =
        each_place to
        (λ o place p b. let others = inbox_alone o in
        Agrees s w (0 ∷ others) true (plan_outcome_with (with_link_held w from held place b) w.directory None [])
        (after_hold w.directory from held (map f others)))
        (makes s w (0 ∷ []) (plan_outcome_with w w.directory None [])
        (result (part.Directory (with_step_done w.directory) ∷ []) (note.Planned w.directory.done None ∷ []))
        (alone w.directory refl))
        (λ k t.
        let b = with_hold t.box from held in
        rw t.inbox_is
        (makes s w (0 ∷ inbox_part k ∷ []) (plan_outcome_with (with_inbox w t.r b) w.directory None [])
        (result (part.Directory (with_step_done w.directory) ∷ part.Inbox b ∷ []) (note.Planned w.directory.done None ∷ []))
        (with_box to k t b)))

    switches : (e : TopoEvent) → Agrees s w (0 ∷ []) true (plan_outcome_with w (with_event w.directory e) None [])
        (after_cache_step w.directory e [])
    switches e =
        let d = with_event w.directory e in
        makes s w (0 ∷ []) (plan_outcome_with w d None []) (result (part.Directory (with_step_done d) ∷ [])
        (note.Planned d.done None ∷ [])) (alone d refl)

    -- The step at hand.
    module _ (x : PlanStep) (at_hand : next_step w.directory ≡ Some x) where
      -- it stands in the records
      planned : (refused : Option NoLoss) (recs : List Rec) → step_in s (note.Planned w.directory.done refused ∷ recs)
          ≡ Some x.step
      planned refused recs =
          ap (λ (steps : List PlanStep). option_map (λ (y : PlanStep). y.step) (slice_get steps w.directory.done))
          (sym shaped.plan_is)
          ∙ ap (option_map (λ (y : PlanStep). y.step)) at_hand

      told : (v : World) (st : Step) → step_in s (step_outcome v w.directory st).recs ≡ Some x.step
      told v (step.Join m) = by (place_of v m.node) (part_on v (place_of v m.node))
        where
          by : (r : Option ℕ) (p : Option Part) → step_in s (join_outcome v m w.directory r p).recs ≡ Some x.step
          by (Some r) (Some p) = planned None (join_act p.node w.directory.events w.directory.clock (topo.Join m)).recs
          by (Some r) None = planned None []
          by None p = planned None []
      told v (step.Lose id) = by (refusal_of_loss w.directory id (best_map_without v id))
        where
          by : (o : Option NoLoss) → step_in s (loss_outcome v id w.directory o).recs ≡ Some x.step
          by (Some refused) = planned (Some refused) []
          by None = planned None (note.Lost id ∷ [])
      told v (step.Hold from to) = planned None []
      told v (step.Release from to) = planned None []
      told v (step.Start cache) = planned None []
      told v (step.Stop cache) = planned None []

      -- what its step touches beside the directory
      abbrev others : Step → List ℕ
      others (step.Join m) = node_and_inbox (declared_place s m.node)
      others (step.Lose id) = numbers_from 1 (2 * length (declared_ids s))
      others (step.Hold from to) = inbox_alone (declared_place s to)
      others (step.Release from to) = inbox_alone (declared_place s to)
      others (step.Start cache) = []
      others (step.Stop cache) = []

      all_of : (st : Step) → parts_of_step s (Some st) ≡ 0 ∷ others st
      all_of (step.Join m) = refl
      all_of (step.Lose id) = refl
      all_of (step.Hold from to) = refl
      all_of (step.Release from to) = refl
      all_of (step.Start cache) = refl
      all_of (step.Stop cache) = refl

      now_enabled : nat_le x.moment w.directory.clock ≡ true → is_enabled w event.Plan ≡ true
      now_enabled due =
          ap (λ (b : Bool). not b && step_due w.directory && (true || is_quiet w)) shaped.unbroken
          ∙ ap (λ (o : Option PlanStep). true && is_due w.directory o && (true || is_quiet w)) at_hand
          ∙ ap (λ (b : Bool). true && b && (true || is_quiet w)) due

      stepped : (st : Step) → x.step ≡ st → nat_le x.moment w.directory.clock ≡ true →
          Agrees s w (0 ∷ others st) true (step_outcome w w.directory st) (after_step s w.directory (map f (others st)) st)
      stepped (step.Join m) is due = joins m
      stepped (step.Lose id) is due =
          let same : outcome w event.Plan ≡ step_outcome w w.directory (step.Lose id) = ap (plan_outcome w) at_hand
          ∙ ap (step_outcome w w.directory) is in
          let made = after_whole s event.Plan (world_of s (value_in s (map f (all_parts s)))) in
          let kept = subst (λ (o : Outcome). IsShaped s o.world) (sym same)
          (loss_shaped id (refusal_of_loss w.directory id (best_map_without w id))) in
          subst (λ (c : Bool). Agrees s w (all_parts s) c (step_outcome w w.directory (step.Lose id)) made) (now_enabled due)
          (subst (λ (o : Outcome). Agrees s w (all_parts s) (is_enabled w event.Plan) o made) same
          (whole event.Plan (λ can. kept)))
      stepped (step.Hold from to) is due = holds from to true
      stepped (step.Release from to) is due = holds from to false
      stepped (step.Start cache) is due = switches (topo.Start cache)
      stepped (step.Stop cache) is due = switches (topo.Stop cache)

      by_due : (c : Bool) → nat_le x.moment w.directory.clock ≡ c →
          Agrees s w (0 ∷ others x.step) c (step_outcome w w.directory x.step)
          (if c then after_step s w.directory (map f (others x.step)) x.step else None)
      by_due true due = stepped x.step refl due
      by_due false early = never s w (0 ∷ others x.step) (step_outcome w w.directory x.step)

      is_due_then : after_plan s (map f (0 ∷ others x.step))
          ≡ (if nat_le x.moment w.directory.clock then after_step s w.directory (map f (others x.step)) x.step else None)
      is_due_then =
          ap (after_due s w.directory (map f (others x.step))) at_hand
          ∙ ap (λ (o : Option PlanStep). if is_due w.directory o then after_step s w.directory (map f (others x.step)) x.step
          else None) at_hand

      at_step : (let ps = parts_of_step s (step_in s (step_outcome w w.directory x.step).recs) in
          Agrees s w ps (nat_le x.moment w.directory.clock) (step_outcome w w.directory x.step) (after_plan s (map f ps)))
      at_step =
          subst (λ (ps : List ℕ). Agrees s w ps (nat_le x.moment w.directory.clock) (step_outcome w w.directory x.step)
          (after_plan s (map f ps)))
          (sym (ap (parts_of_step s) (told w x.step) ∙ all_of x.step))
          (subst (Agrees s w (0 ∷ others x.step) (nat_le x.moment w.directory.clock) (step_outcome w w.directory x.step))
          (sym is_due_then) (by_due (nat_le x.moment w.directory.clock) refl))

      -- and no other step has these records

      done_told : (d : Directory) (xs : List PartValue) (recs : List Rec) (a : PartsAfter) →
          step_done w.directory d xs recs ≡ Some a → step_in s a.recs ≡ Some x.step
      done_told d xs recs a is = ap (λ (y : PartsAfter). step_in s y.recs) (sym (some_is _ a is)) ∙ planned None recs

      join_told : (m : Member) (xs : List PartValue) (a : PartsAfter) → after_join w.directory m xs ≡ Some a →
          step_in s a.recs ≡ Some x.step
      join_told m [] a is = done_told _ _ _ a is
      join_told m (part.Node p ∷ part.Inbox b ∷ []) a is = done_told _ _ _ a is
      join_told m _ a is = absurd (cc (is))

      hold_told : (from : NodeId) (held : Bool) (xs : List PartValue) (a : PartsAfter) →
          after_hold w.directory from held xs ≡ Some a → step_in s a.recs ≡ Some x.step
      hold_told from held [] a is = done_told _ _ _ a is
      hold_told from held (part.Inbox b ∷ []) a is = done_told _ _ _ a is
      hold_told from held _ a is = absurd (cc (is))

      cache_told : (e : TopoEvent) (xs : List PartValue) (a : PartsAfter) → after_cache_step w.directory e xs ≡ Some a →
          step_in s a.recs ≡ Some x.step
      cache_told e [] a is = done_told _ _ _ a is
      cache_told e (y ∷ ys) a is = absurd (cc (is))

      loss_told : (xs : List PartValue) (a : PartsAfter) →
          after_whole s event.Plan (world_of s (value_in s (part.Directory w.directory ∷ xs))) ≡ Some a →
          step_in s a.recs ≡ Some x.step
      loss_told xs a is =
          let v = world_of s (value_in s (part.Directory w.directory ∷ xs)) in
          ap (step_in s) (if_recs (is_enabled v event.Plan) _ _ a is)
          ∙ ap (λ (o : Option PlanStep). step_in s (plan_outcome v o).recs) at_hand ∙ told v x.step

      step_told : (xs : List PartValue) (st : Step) (a : PartsAfter) → after_step s w.directory xs st ≡ Some a →
          step_in s a.recs ≡ Some x.step
      step_told xs (step.Join m) a is = join_told m xs a is
      step_told xs (step.Lose id) a is = loss_told xs a is
      step_told xs (step.Hold from to) a is = hold_told from true xs a is
      step_told xs (step.Release from to) a is = hold_told from false xs a is
      step_told xs (step.Start cache) a is = cache_told (topo.Start cache) xs a is
      step_told xs (step.Stop cache) a is = cache_told (topo.Stop cache) xs a is

    pub plans : (let ps = parts_of_step s (step_in s (outcome w event.Plan).recs) in
        Agrees s w ps (can_be w event.Plan) (outcome w event.Plan) (after_plan s (map f ps)))
    plans = by (next_step w.directory) refl
      where
        by : (o : Option PlanStep) → next_step w.directory ≡ o →
            (let ps = parts_of_step s (step_in s (plan_outcome w o).recs) in
            Agrees s w ps (is_due w.directory o) (plan_outcome w o) (after_plan s (map f ps)))
        by None at_hand = never s w [] (unchanged w)
        by (Some x) at_hand = at_step x at_hand

    -- a group whose records are those of its event touches what these records say
    pub plan_told : (recs : List Rec) (a : PartsAfter) → after_plan s (map f (parts_of_step s (step_in s recs))) ≡ Some a →
        a.recs ≡ recs → parts_of_step s (step_in s recs) ≡ parts_of_step s (step_in s (outcome w event.Plan).recs)
    plan_told recs a is same = by (step_in s recs) refl is
      where
        due_told : (x : PlanStep) → next_step w.directory ≡ Some x → (xs : List PartValue) (c : Bool) →
            (if c then after_step s w.directory xs x.step else None) ≡ Some a →
            parts_of_step s (step_in s recs) ≡ parts_of_step s (step_in s (outcome w event.Plan).recs)
        due_told x at_hand xs true made =
            ap (parts_of_step s) (ap (step_in s) (sym same) ∙ step_told x at_hand xs x.step a made
            ∙ sym (told x at_hand w x.step) ∙ ap (λ (o : Option PlanStep). step_in s (plan_outcome w o).recs) (sym at_hand))
        due_told x at_hand xs false made = absurd (cc (made))

        hand_told : (o : Option PlanStep) → next_step w.directory ≡ o → (xs : List PartValue) →
            after_due s w.directory xs o ≡ Some a → parts_of_step s (step_in s recs) ≡ parts_of_step s
            (step_in s (outcome w event.Plan).recs)
        hand_told None at_hand xs made = absurd (cc (made))
        hand_told (Some x) at_hand xs made = due_told x at_hand xs (step_due w.directory) made

        head_told : (st : Step) → after_plan s (map f (parts_of_step s (Some st))) ≡ Some a →
            parts_of_step s (step_in s recs) ≡ parts_of_step s (step_in s (outcome w event.Plan).recs)
        head_told (step.Join m) made =
            hand_told (next_step w.directory) refl (map f (node_and_inbox (declared_place s m.node))) made
        head_told (step.Lose id) made =
            hand_told (next_step w.directory) refl (map f (numbers_from 1 (2 * length (declared_ids s)))) made
        head_told (step.Hold from to) made =
            hand_told (next_step w.directory) refl (map f (inbox_alone (declared_place s to))) made
        head_told (step.Release from to) made =
            hand_told (next_step w.directory) refl (map f (inbox_alone (declared_place s to))) made
        head_told (step.Start cache) made = hand_told (next_step w.directory) refl [] made
        head_told (step.Stop cache) made = hand_told (next_step w.directory) refl [] made

        by : (o : Option Step) → step_in s recs ≡ o → after_plan s (map f (parts_of_step s o)) ≡ Some a →
            parts_of_step s (step_in s recs) ≡ parts_of_step s (step_in s (outcome w event.Plan).recs)
        by None none made = absurd (cc (made))
        by (Some st) some made = head_told st made
