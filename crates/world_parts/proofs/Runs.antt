-- Every event of a run is a step of its parts, every step of parts an event of a run, and so a table's history a run.
use Rattle.std.proofs.Common.{◌≡◌, ◌&&◌, ◌||◌, List, [], ◌∷◌, Option, Some, None, Bool, true, false, if◌then◌else◌, is_some, not, map, ℕ, refl, ap, sym, subst, ◌∙◌}
use Rattle.std.specs.List.{list_all}
use Rattle.std.specs.Option.{option_and_then}
use Rattle.std.specs.Ordering.{nat_cmp}
use Rattle.std.specs.Prelude.{IsTrue, nat_lt}
use Rattle.act_rows.specs.NewNodes.{opening_map_of}
use Rattle.act_rows.specs.Acts.{may_send, send_act}
use Rattle.ignite_types.specs.Good.{are_distinct, good, good_caches, good_format, good_nodes, good_plan, good_sessions, members}
use Rattle.ignite_types.specs.Good as scenarios
use Rattle.ignite_types.specs.declared.journal.Event.{Event}
use Rattle.ignite_types.specs.declared.journal.Group.{Group}
use Rattle.ignite_types.specs.declared.journal.Rec.{Rec}
use Rattle.ignite_types.specs.declared.names.NodeId.{NodeId}
use Rattle.ignite_types.specs.declared.scenario.Scenario.{Scenario}
use Rattle.link_laws.proofs.Journals.{first_rest}
use Rattle.link_laws.proofs.Runs as links
use Rattle.ordered_table.specs.Entries.{at}
use Rattle.part_table.specs.History.{legal_from, replay_from}
use Rattle.part_table.specs.History as history
use Rattle.part_table.specs.declared.rule.Entry.{Entry}
use Rattle.scenes.proofs.Parts.{numbers}
use Rattle.tx_model.specs.Opening.{ids_of, opening, opening_part}
use Rattle.tx_model.specs.Runs.{AreSteps, EndsAt, IsStep, world_after}
use Rattle.tx_model.specs.World.{Outcome, Part, World, can_be, is_alive, is_enabled, is_quiet, is_tick, outcome, send_outcome, session_node}
use Rattle.world_parts.specs.Laws.{IsRunOfHistory, IsRunOfParts, IsWholeStep, group_at, groups_of, is_of_parts, rules_of, touched_values, values_at, world_at}
use Rattle.world_parts.specs.Parts.{PartValue, declared_place, inbox_part, node_part, parts_of, world_of}
use Rattle.world_parts.specs.Steps.{PartsAfter, Relates, addressee_in, after_if, after_send, after_send_of, directory_and_node, is_listed, node_alone, node_and_addressee, parts_after, touches, touches_of, with_values}
use Rattle.world_parts.proofs.Ascending.{read_touched}
use Rattle.world_parts.proofs.Listed.{listed_possible}
use Rattle.world_parts.proofs.NodeEvents.{Agrees, Standing, answers, calls, each_node, expires, result, sees, sends, standing, switches, takes}
use Rattle.world_parts.proofs.PlanEvents.{if_recs, plan_told, plans, ticks}
use Rattle.world_parts.proofs.Shapes.{IsShaped, map_length, round}
use Rattle.ignite_types.specs.declared.journal.Event.TheVariants as event
use Rattle.world_parts.specs.declared.parts.WorldPart.TheVariants as part

-- what is made is made where the test is passed
if_test : (c : Bool) (news : List PartValue) (recs : List Rec) (a : PartsAfter) → after_if c news recs ≡ Some a → c ≡ true
if_test true news recs a is = refl
if_test false news recs a is = absurd (cc (is))

module _ (s : Scenario) (apart : are_distinct scenarios.same_member_node (members s) ≡ true) where
  module _ (w : World) (shaped : IsShaped s w) where
    abbrev f : ℕ → PartValue
    f = parts_of s w

    -- possible, but for what asks for rest
    enabled_is : (e : Event) → is_tick e ≡ false → is_enabled w e ≡ can_be w e
    enabled_is e other =
        ap (λ (b : Bool). not b && can_be w e && (not (is_tick e) || is_quiet w)) shaped.unbroken
        ∙ ap (λ (b : Bool). true && can_be w e && (not b || is_quiet w)) other
        ∙ and_true (can_be w e)
      where
        and_true : (c : Bool) → (c && true) ≡ c
        and_true true = refl
        and_true false = refl

    abbrev AgreesAt : Event → List ℕ → Bool → Type 0
    AgreesAt e ps can = Agrees s w ps can (outcome w e) (parts_after s e (map f ps))

    as_enabled : (e : Event) (ps : List ℕ) → is_tick e ≡ false → AgreesAt e ps (can_be w e) → AgreesAt e ps (is_enabled w e)
    as_enabled e ps other a = subst (AgreesAt e ps) (sym (enabled_is e other)) a

    agrees : (e : Event) → is_of_parts e ≡ true → AgreesAt e (touches_of s e (outcome w e).recs) (is_enabled w e)
    agrees (event.Answer session) of =
        as_enabled (event.Answer session) _ refl
        (subst (λ (h : Option NodeId). AgreesAt (event.Answer session)
        (directory_and_node (option_and_then (declared_place s) h)) (can_be w (event.Answer session)))
        (ap (λ (homes : List (ℕ × NodeId)). at nat_cmp homes session) shaped.homes_are)
        (answers s apart w shaped session (session_node w session)))
    agrees (event.Act id from) of = as_enabled (event.Act id from) _ refl (takes s apart w shaped id from)
    agrees (event.Send id) of = as_enabled (event.Send id) _ refl (sends s apart w shaped id)
    agrees (event.See id) of = as_enabled (event.See id) _ refl (sees s apart w shaped id)
    agrees (event.Expire tx) of = as_enabled (event.Expire tx) _ refl (expires s apart w shaped tx)
    agrees (event.Minor id) of = as_enabled (event.Minor id) _ refl (switches s apart w shaped id)
    agrees (event.Call session) of =
        as_enabled (event.Call session) _ refl
        (subst (λ (h : Option NodeId). AgreesAt (event.Call session) (node_alone (option_and_then (declared_place s) h))
        (can_be w (event.Call session)))
        (ap (λ (homes : List (ℕ × NodeId)). at nat_cmp homes session) shaped.homes_are)
        (calls s apart w shaped session (session_node w session)))
    agrees event.Plan of = as_enabled event.Plan _ refl (plans s apart w shaped)
    agrees event.Tick of = ticks s apart w shaped
    agrees (event.Memory id) of = absurd (cc (of))

    -- A group whose records are those of its event touches what these records say.

    abbrev addressee : List Rec → Option ℕ
    addressee recs = option_and_then (declared_place s) (addressee_in recs)

    made_of_send : (p : Part) (news : List PartValue) (a : PartsAfter) → after_send_of p news ≡ Some a →
        (is_alive p.life ≡ true) × (a.recs ≡ (send_act p.node).recs)
    made_of_send p news a is =
        let can = if_test (is_alive p.life && may_send p.node) news (send_act p.node).recs a is in (
          (first_rest (is_alive p.life) (may_send p.node) can).0,
          if_recs (is_alive p.life && may_send p.node) news
              (send_act p.node).recs a is,
        )

    -- what a node sends stands in the records, whatever the addressee
    sent_told : (id : NodeId) (k : ℕ) (t : Standing s w id k) (to : Option NodeId) (a : PartsAfter) →
        after_send (map f (node_and_addressee (Some k) (option_and_then (declared_place s) to))) ≡ Some a
        → (is_alive t.node.life ≡ true) × (a.recs ≡ (send_act t.node.node).recs)
    sent_told id k t to a made = by to made
      where
        alone : after_send (f (node_part k) ∷ []) ≡ Some a → (is_alive t.node.life ≡ true)
            × (a.recs ≡ (send_act t.node.node).recs)
        alone made = made_of_send t.node _ a (subst (λ (x : PartValue). after_send (x ∷ []) ≡ Some a) t.node_is made)

        ordered : (to : NodeId) (j : ℕ) (u : Standing s w to j) (c : Bool) →
            after_send (map f (if c then inbox_part j ∷ node_part k ∷ [] else node_part k ∷ inbox_part j ∷ [])) ≡ Some a
            → (is_alive t.node.life ≡ true) × (a.recs ≡ (send_act t.node.node).recs)
        ordered to j u true made =
            made_of_send t.node _ a (subst (λ (x : PartValue). after_send (part.Inbox u.box ∷ x ∷ []) ≡ Some a) t.node_is
            (subst (λ (x : PartValue). after_send (x ∷ f (node_part k) ∷ []) ≡ Some a) u.inbox_is made))
        ordered to j u false made =
            made_of_send t.node _ a (subst (λ (x : PartValue). after_send (part.Node t.node ∷ x ∷ []) ≡ Some a) u.inbox_is
            (subst (λ (x : PartValue). after_send (x ∷ f (inbox_part j) ∷ []) ≡ Some a) t.node_is made))

        reached : (to : NodeId) (o : Option ℕ) → declared_place s to ≡ o → after_send (map f (node_and_addressee (Some k) o))
            ≡ Some a → (is_alive t.node.life ≡ true) × (a.recs ≡ (send_act t.node.node).recs)
        reached to None place made = alone made
        reached to (Some j) place made = ordered to j (standing s apart w shaped to j place) (nat_lt j k) made

        by : (o : Option NodeId) → after_send (map f (node_and_addressee (Some k) (option_and_then (declared_place s) o)))
            ≡ Some a → (is_alive t.node.life ≡ true) × (a.recs ≡ (send_act t.node.node).recs)
        by None made = alone made
        by (Some to) made = reached to (declared_place s to) refl made

    send_told : (id : NodeId) (recs : List Rec) (a : PartsAfter) →
        after_send (map f (node_and_addressee (declared_place s id) (addressee recs))) ≡ Some a → a.recs ≡ recs →
        recs ≡ (outcome w (event.Send id)).recs
    send_told id recs a is same =
        each_node s apart w shaped id (λ o place p. after_send (map f (node_and_addressee o (addressee recs))) ≡ Some a →
        recs ≡ (send_outcome w place p).recs)
        (λ none. absurd (cc (none)))
        (λ k t away made. let alive = (sent_told id k t (addressee_in recs) a made).0 in absurd (cc (away, alive)))
        (λ k t alive made. sym same ∙ (sent_told id k t (addressee_in recs) a made).1)
        is

    told : (e : Event) (recs : List Rec) (a : PartsAfter) → parts_after s e (map f (touches_of s e recs)) ≡ Some a →
        a.recs ≡ recs → touches_of s e recs ≡ touches_of s e (outcome w e).recs
    told (event.Send id) recs a is same = ap (λ (rs : List Rec). node_and_addressee (declared_place s id) (addressee rs))
        (send_told id recs a is same)
    told event.Plan recs a is same = plan_told s apart w shaped recs a is same
    told (event.Answer session) recs a is same = refl
    told (event.Act id from) recs a is same = refl
    told (event.See id) recs a is same = refl
    told (event.Expire tx) recs a is same = refl
    told (event.Minor id) recs a is same = refl
    told (event.Call session) recs a is same = refl
    told event.Tick recs a is same = refl
    told (event.Memory id) recs a is same = refl

    -- no parts make a want of memory
    of_parts : (e : Event) (olds : List PartValue) (a : PartsAfter) → parts_after s e olds ≡ Some a → is_of_parts e ≡ true
    of_parts (event.Memory id) olds a is = absurd (cc (is))
    of_parts (event.Answer session) olds a is = refl
    of_parts (event.Act id from) olds a is = refl
    of_parts (event.Send id) olds a is = refl
    of_parts (event.See id) olds a is = refl
    of_parts (event.Expire tx) olds a is = refl
    of_parts (event.Minor id) olds a is = refl
    of_parts (event.Call session) olds a is = refl
    of_parts event.Plan olds a is = refl
    of_parts event.Tick olds a is = refl

    pub record Leads (g : Group) (news : List PartValue) : Type 0 where
      pub is_step : IsStep w g
      pub put_back : parts_of s (outcome w g.event).world ≡ with_values (touches s g) news f
      pub still_shaped : IsShaped s (outcome w g.event).world
      pub of_parts_only : is_of_parts g.event ≡ true

    -- from a step of parts to the machine
    pub leads : (g : Group) (news : List PartValue) → parts_after s g.event (touched_values s g f)
        ≡ Some (result news g.recs) → Leads g news
    leads g news related =
        let a = result news g.recs in
        let of = of_parts g.event (touched_values s g f) a related in
        let same = told g.event g.recs a related refl in
        let agreed : AgreesAt g.event (touches s g) (is_enabled w g.event) =
        subst (λ (ps : List ℕ). AgreesAt g.event ps (is_enabled w g.event)) (sym same) (agrees g.event of) in
        let made = agreed.made a related in
        record {
          is_step = record { possible_event = sym agreed.possible ∙ ap is_some related; same_records = made.same_recs };
          put_back = made.put_back;
          still_shaped = made.shaped;
          of_parts_only = of;
        }

    pub whole_step : (g : Group) (news : List PartValue) → Relates s g (touched_values s g f) news → IsWholeStep s w g news
    whole_step g news related =
        let led = leads g news related.made in
        let can = first_rest (not w.broken && can_be w g.event) (not (is_tick g.event)
        || is_quiet w) led.is_step.possible_event in
        record {
          is_step = led.is_step;
          is_named = listed_possible s apart w shaped g.event g.recs (result news g.recs) related.made related.listed
              (first_rest (not w.broken) (can_be w g.event) can.0).1
              (λ tick. sym (ap (λ (b : Bool). not b || is_quiet w) tick) ∙ can.1);
          put_back = led.put_back;
        }

    -- and back
    pub follows : (g : Group) → is_of_parts g.event ≡ true → IsStep w g → parts_after s g.event (touched_values s g f)
        ≡ Some (result (touched_values s g (parts_of s (outcome w g.event).world)) g.recs)
    follows g of step =
        subst (λ (rs : List Rec). parts_after s g.event (map f (touches_of s g.event rs))
        ≡ Some (result (map (parts_of s o.world) (touches_of s g.event rs)) rs)) (sym step.same_records)
        (by (parts_after s g.event (map f ps)) refl)
      where
        o : Outcome
        o = outcome w g.event

        ps : List ℕ
        ps = touches_of s g.event o.recs

        agreed : AgreesAt g.event ps (is_enabled w g.event)
        agreed = agrees g.event of

        by : (r : Option PartsAfter) → parts_after s g.event (map f ps) ≡ r →
            parts_after s g.event (map f ps) ≡ Some (result (map (parts_of s o.world) ps) o.recs)
        by None is = let possible = agreed.possible ∙ step.possible_event in absurd (nothing (ap is_some (sym is) ∙ possible))
          where
            nothing : false ≡ true → ⊥
            nothing e = absurd (cc (e))
        by (Some a) is =
            let made = agreed.made a is in
            let news : a.news ≡ map (parts_of s o.world) ps = sym (ap (λ (h : ℕ → PartValue). map h ps) made.put_back
            ∙ read_touched s g.event o.recs a.news f made.counted) in
            is ∙ λ i. Some (record { news = news i; recs = made.same_recs i })

  -- From the opening on.

  numbers_opened : (ids : List NodeId) → numbers (map (opening_part s (opening_map_of s)) ids) ≡ ids
  numbers_opened [] = refl
  numbers_opened (id ∷ ids) = ap (λ (more : List NodeId). id ∷ more) (numbers_opened ids)

  pub opening_shaped : IsShaped s (opening s)
  opening_shaped = record {
    numbers_are = numbers_opened (ids_of s);
    inboxes_are = map_length _ (ids_of s);
    homes_are = refl;
    plan_is = refl;
    unbroken = refl;
  }

  pub run_shaped : (w : World) → IsShaped s w → (gs : List Group) → AreSteps w gs →
      list_all (λ (g : Group). is_of_parts g.event) gs ≡ true → IsShaped s (world_after w gs)
  run_shaped w shaped [] steps of = shaped
  run_shaped w shaped (g ∷ gs) steps of =
      let both = first_rest (is_of_parts g.event) (list_all (λ (x : Group). is_of_parts x.event) gs) of in
      let next = leads w shaped g _ (follows w shaped g both.0 steps.0) in
      run_shaped (outcome w g.event).world next.still_shaped gs steps.1 both.1

  pub record Runs (w : World) (log : List (Entry PartValue Group)) : Type 0 where
    pub steps : AreSteps w (groups_of log)
    pub of_parts : list_all (λ (g : Group). is_of_parts g.event) (groups_of log) ≡ true
    pub shaped : IsShaped s (world_after w (groups_of log))
    pub values : replay_from (rules_of s) (parts_of s w) log ≡ parts_of s (world_after w (groups_of log))

  pub history_runs : (w : World) → IsShaped s w → (log : List (Entry PartValue Group)) →
      legal_from (rules_of s) (parts_of s w) log → Runs w log
  history_runs w shaped [] legal = record { steps = tt; of_parts = refl; shaped = shaped; values = refl }
  history_runs w shaped (e ∷ es) legal =
      let next = leads w shaped e.event e.news legal.0.1.made in
      let back = next.put_back in
      let rest = history_runs (outcome w e.event.event).world next.still_shaped es
      (subst (λ (h : ℕ → PartValue). legal_from (rules_of s) h es) (sym back) legal.1) in
      record {
        steps = (next.is_step, rest.steps);
        of_parts = ap (λ (b : Bool). b && list_all (λ (g : Group). is_of_parts g.event) (groups_of es)) next.of_parts_only
            ∙ rest.of_parts;
        shaped = rest.shaped;
        values = ap (λ (h : ℕ → PartValue). replay_from (rules_of s) h es) (sym back) ∙ rest.values;
      }

-- a good scenario declares no node twice
pub good_apart : (s : Scenario) → IsTrue (good s) → are_distinct scenarios.same_member_node (members s) ≡ true
good_apart s is_good =
    let all = first_rest (good_format s.format s.caches && good_caches s.caches && good_nodes s && good_plan s)
    (good_sessions s) is_good in
    let four = first_rest (good_format s.format s.caches && good_caches s.caches && good_nodes s) (good_plan s) all.0 in
    links.nodes_apart s (first_rest (good_format s.format s.caches && good_caches s.caches) (good_nodes s) four.0).1

pub shaped_at : (s : Scenario) (gs : List Group) → IsRunOfParts s gs → IsShaped s (world_at s gs)
shaped_at s gs run = let apart = good_apart s run.is_good in
    run_shaped s apart (opening s) (opening_shaped s apart) gs run.steps run.of_parts

-- the world of a run is the one of its parts
pub worlds_round : (s : Scenario) (gs : List Group) → IsRunOfParts s gs → world_of s (values_at s gs) ≡ world_at s gs
worlds_round s gs run = round s (good_apart s run.is_good) (world_at s gs) (shaped_at s gs run)

pub step_of_machine : (s : Scenario) (gs : List Group) (g : Group) (news : List PartValue) → IsRunOfParts s gs →
    Relates s g (touched_values s g (values_at s gs)) news → IsWholeStep s (world_at s gs) g news
step_of_machine s gs g news run related = whole_step s (good_apart s run.is_good) (world_at s gs) (shaped_at s gs run) g news
    related

pub step_of_parts : (s : Scenario) (gs : List Group) (g : Group) → IsRunOfParts s gs → is_of_parts g.event ≡ true →
    IsStep (world_at s gs) g
    → is_listed s g.event (touched_values s g (values_at s gs)) ≡ true
    → Relates s g (touched_values s g (values_at s gs))
    (touched_values s g (parts_of s (outcome (world_at s gs) g.event).world))
step_of_parts s gs g run of step listed =
    record { made = follows s (good_apart s run.is_good) (world_at s gs) (shaped_at s gs run) g of step; listed = listed }

-- an event is possible by the values of its parts where the machine says so
pub possible_same : (s : Scenario) (gs : List Group) (e : Event) → IsRunOfParts s gs → is_of_parts e ≡ true
    → is_some (parts_after s e (touched_values s (group_at (world_at s gs) e) (values_at s gs))) ≡ is_enabled (world_at s gs) e
possible_same s gs e run of = (agrees s (good_apart s run.is_good) (world_at s gs) (shaped_at s gs run) e of).possible

-- an event reads no other part
pub reads_no_other : (s : Scenario) (gs hs : List Group) (g : Group) → IsRunOfParts s gs → IsRunOfParts s hs →
    is_of_parts g.event ≡ true
    → touched_values s g (values_at s gs) ≡ touched_values s g (values_at s hs) → IsStep (world_at s gs) g →
    IsStep (world_at s hs) g
reads_no_other s gs hs g run other of same step =
    let after = touched_values s g (parts_of s (outcome (world_at s gs) g.event).world) in
    let made = follows s (good_apart s run.is_good) (world_at s gs) (shaped_at s gs run) g of step in
    let made_too = subst (λ (olds : List PartValue). parts_after s g.event olds ≡ Some (result after g.recs)) same made in
    (leads s (good_apart s other.is_good) (world_at s hs) (shaped_at s hs other) g after made_too).is_step

pub history_is_run : (s : Scenario) (log : List (Entry PartValue Group)) → IsTrue (good s) →
    history.IsLegal (rules_of s) log → IsRunOfHistory s log
history_is_run s log is_good legal =
    let apart = good_apart s is_good in
    let runs = history_runs s apart (opening s) (opening_shaped s apart) log legal in
    let world : world_of s (history.replay (rules_of s) log) ≡ world_at s (groups_of log) = ap (world_of s) runs.values
    ∙ round s apart (world_at s (groups_of log)) runs.shaped in
    record {
      run = record { is_good = is_good; steps = runs.steps; of_parts = runs.of_parts };
      values = runs.values;
      world = world;
      legal = λ end ends. record { steps = runs.steps; end = subst (λ (w : World). EndsAt w end) world ends };
    }
