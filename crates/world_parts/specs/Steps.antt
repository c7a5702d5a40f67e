-- Which parts an event touches, and what it makes of their values alone.
use Rattle.std.specs.Ordering.{nat_cmp}
use Rattle.std.specs.Option.{option_and_then, option_map}
use Rattle.std.specs.Prelude.{Bool, Option, Some, None, [], ◌∷◌, ◌&&◌, ◌≡◌, ℕ, suc, zero, true, false, if◌then◌else◌, is_some, map, nat_lt, not, slice_get}
use Rattle.act_rows.specs.Acts.{Acted, answer_act, call_act, expire_act, join_act, may_answer, may_call, may_send, message_act, minor_act, oldest_out, see_act, send_act}
use Rattle.act_rows.specs.Filling.{may_switch}
use Rattle.act_rows.specs.Searches.{is_overdue}
use Rattle.part_model.specs.Directory.{Directory, directory_after_join, event_at, next_step, step_due, with_answer_given, with_event, with_step_done}
use Rattle.part_model.specs.Links.{Inbox, inbox_after_pop, inbox_after_push, is_held, oldest_in, with_hold}
use Rattle.ignite_types.specs.Names.{same_node, same_top, same_tx}
use Rattle.ignite_types.specs.declared.journal.Event.{Event}
use Rattle.ignite_types.specs.declared.journal.Group.{Group}
use Rattle.ignite_types.specs.declared.journal.Rec.{Rec}
use Rattle.ignite_types.specs.declared.journal.TopoEvent.{TopoEvent}
use Rattle.ignite_types.specs.declared.list.List.{List}
use Rattle.ignite_types.specs.declared.message.Message.{Message}
use Rattle.ignite_types.specs.declared.message.Out.{Out}
use Rattle.ignite_types.specs.declared.names.NodeId.{NodeId}
use Rattle.ignite_types.specs.declared.names.TxId.{TxId}
use Rattle.ignite_types.specs.declared.scenario.Member.{Member}
use Rattle.ignite_types.specs.declared.scenario.PlanStep.{PlanStep}
use Rattle.ignite_types.specs.declared.scenario.Scenario.{Scenario}
use Rattle.ignite_types.specs.declared.scenario.Step.{Step}
use Rattle.node_state.specs.Node.{NodeState}
use Rattle.ordered_table.specs.Entries.{at}
use Rattle.part_table.specs.History.{held_at, held_pairs, replay_or}
use Rattle.part_table.specs.Rule.{numbers_from}
use Rattle.tx_model.specs.Opening.{session_nodes_from}
use Rattle.tx_model.specs.World.{Part, World, is_alive, is_enabled, outcome, tx_of_session}
use Rattle.world_parts.specs.Parts.{PartValue, declared_place, inbox_part, no_part, node_part, part_count, parts_of, world_of}
use Rattle.ignite_types.specs.declared.journal.Event.TheVariants as event
use Rattle.ignite_types.specs.declared.journal.Rec.TheVariants as note
use Rattle.ignite_types.specs.declared.journal.TopoEvent.TheVariants as topo
use Rattle.ignite_types.specs.declared.scenario.Step.TheVariants as step
use Rattle.node_state.specs.declared.life.Life.TheVariants as life
use Rattle.world_parts.specs.declared.parts.WorldPart.TheVariants as part

-- The parts that an event touches, ascending. An event of a table is a group, an event with its records: the records tell a
-- message's addressee, and which step of the plan is done.

abbrev pub home_of : Scenario → ℕ → Option NodeId
home_of s session = at nat_cmp (session_nodes_from 1 [] s.sessions) session

abbrev pub home_place : Scenario → ℕ → Option ℕ
home_place s session = option_and_then (declared_place s) (home_of s session)

abbrev pub node_alone : Option ℕ → List ℕ
node_alone None = []
node_alone (Some k) = node_part k ∷ []

abbrev pub inbox_alone : Option ℕ → List ℕ
inbox_alone None = []
inbox_alone (Some k) = inbox_part k ∷ []

abbrev pub node_and_inbox : Option ℕ → List ℕ
node_and_inbox None = []
node_and_inbox (Some k) = node_part k ∷ inbox_part k ∷ []

abbrev pub directory_and_node : Option ℕ → List ℕ
directory_and_node None = []
directory_and_node (Some k) = 0 ∷ node_part k ∷ []

-- a node that sends, and the inbox of the addressee, if that one is declared
abbrev pub node_and_addressee : Option ℕ → Option ℕ → List ℕ
node_and_addressee None to = []
node_and_addressee (Some k) None = node_part k ∷ []
node_and_addressee (Some k) (Some j) =
    if nat_lt j k then inbox_part j ∷ node_part k ∷ [] else node_part k ∷ inbox_part j ∷ []

abbrev pub all_parts : Scenario → List ℕ
all_parts s = numbers_from 0 (part_count s)

abbrev pub addressee_in : List Rec → Option NodeId
addressee_in (note.Sent to message ∷ recs) = Some to
addressee_in _ = None

abbrev pub step_in : Scenario → List Rec → Option Step
step_in s (note.Planned place refused ∷ recs) = option_map (λ (planned : PlanStep). planned.step) (slice_get s.plan place)
step_in s _ = None

abbrev pub parts_of_step : Scenario → Option Step → List ℕ
parts_of_step s None = []
parts_of_step s (Some (step.Join member)) = 0 ∷ node_and_inbox (declared_place s member.node)
parts_of_step s (Some (step.Lose id)) = all_parts s
parts_of_step s (Some (step.Hold from to)) = 0 ∷ inbox_alone (declared_place s to)
parts_of_step s (Some (step.Release from to)) = 0 ∷ inbox_alone (declared_place s to)
parts_of_step s (Some (step.Start cache)) = 0 ∷ []
parts_of_step s (Some (step.Stop cache)) = 0 ∷ []

-- want of memory touches none: no worker makes an event of it
abbrev pub touches_of : Scenario → Event → List Rec → List ℕ
touches_of s (event.Answer session) recs = directory_and_node (home_place s session)
touches_of s (event.Act id from) recs = node_and_inbox (declared_place s id)
touches_of s (event.Send id) recs =
    node_and_addressee (declared_place s id) (option_and_then (declared_place s) (addressee_in recs))
touches_of s (event.See id) recs = directory_and_node (declared_place s id)
touches_of s (event.Expire tx) recs = node_alone (declared_place s tx.node)
touches_of s (event.Minor id) recs = directory_and_node (declared_place s id)
touches_of s (event.Call session) recs = node_alone (home_place s session)
touches_of s event.Plan recs = parts_of_step s (step_in s recs)
touches_of s event.Tick recs = all_parts s
touches_of s (event.Memory id) recs = []

abbrev pub touches : Scenario → Group → List ℕ
touches s g = touches_of s g.event g.recs

-- What an event makes of the values of these parts, in the same order, and what it notes. It makes nothing where it is not
-- possible, or where these are not its parts.

pub record PartsAfter : Type 0 where
  pub news : List PartValue
  pub recs : List Rec

abbrev pub after_if : Bool → List PartValue → List Rec → Option PartsAfter
after_if possible news recs = if possible then Some (record { news = news; recs = recs }) else None

abbrev pub acted : Part → Acted → PartValue
acted p act = part.Node (record { node = act.state; life = p.life })

abbrev pub after_answer : ℕ → List PartValue → Option PartsAfter
after_answer session (part.Directory d ∷ part.Node p ∷ []) = let act = answer_act p.node session in
    after_if (is_alive p.life && may_answer p.node session) (part.Directory (with_answer_given d) ∷ acted p act ∷ []) act.recs
after_answer session _ = None

abbrev pub after_take : NodeId → Part → Inbox → Option Message → Option PartsAfter
after_take from p b None = None
after_take from p b (Some m) = let act = message_act p.node from m in
    after_if (is_alive p.life && not (is_held b from)) (acted p act ∷ part.Inbox (inbox_after_pop b from) ∷ []) act.recs

abbrev pub after_act : NodeId → List PartValue → Option PartsAfter
after_act from (part.Node p ∷ part.Inbox b ∷ []) = after_take from p b (oldest_in b from)
after_act from _ = None

abbrev pub inbox_with : Inbox → NodeId → Option Out → Inbox
inbox_with b from None = b
inbox_with b from (Some out) = inbox_after_push b from out.msg

abbrev pub after_send_of : Part → List PartValue → Option PartsAfter
after_send_of p news = after_if (is_alive p.life && may_send p.node) news (send_act p.node).recs

abbrev pub sent_by : Part → PartValue
sent_by p = acted p (send_act p.node)

abbrev pub reached_by : Part → Inbox → PartValue
reached_by p b = part.Inbox (inbox_with b p.node.me (oldest_out p.node))

abbrev pub after_send : List PartValue → Option PartsAfter
after_send (part.Node p ∷ part.Inbox b ∷ []) = after_send_of p (sent_by p ∷ reached_by p b ∷ [])
after_send (part.Inbox b ∷ part.Node p ∷ []) = after_send_of p (reached_by p b ∷ sent_by p ∷ [])
after_send (part.Node p ∷ []) = after_send_of p (sent_by p ∷ [])
after_send _ = None

abbrev pub after_read : Directory → Part → Option TopoEvent → Option PartsAfter
after_read d p None = None
after_read d p (Some e) = let act = see_act p.node e in
    after_if (is_alive p.life) (part.Directory d ∷ acted p act ∷ []) act.recs

abbrev pub after_see : List PartValue → Option PartsAfter
after_see (part.Directory d ∷ part.Node p ∷ []) = after_read d p (event_at d p.node.read)
after_see _ = None

abbrev pub after_expire : TxId → List PartValue → Option PartsAfter
after_expire tx (part.Node p ∷ []) = let act = expire_act p.node tx in
    after_if (is_alive p.life && is_overdue p.node tx) (acted p act ∷ []) act.recs
after_expire tx _ = None

abbrev pub after_minor : List PartValue → Option PartsAfter
after_minor (part.Directory d ∷ part.Node p ∷ []) = let act = minor_act p.node in
    after_if (is_alive p.life && (may_switch p.node && same_top p.node.seen d.last))
    (part.Directory (with_event d topo.Minor) ∷ acted p act ∷ []) act.recs
after_minor _ = None

abbrev pub after_call : ℕ → List PartValue → Option PartsAfter
after_call session (part.Node p ∷ []) = let act = call_act p.node session in
    after_if (is_alive p.life && may_call p.node session) (acted p act ∷ []) act.recs
after_call session _ = None

-- the values as a function of the numbers of all parts
abbrev pub value_in : Scenario → List PartValue → ℕ → PartValue
value_in s [] p = no_part s
value_in s (x ∷ xs) zero = x
value_in s (x ∷ xs) (suc p) = value_in s xs p

-- an event that touches all parts is one of the world that they make
abbrev pub after_whole : Scenario → Event → World → Option PartsAfter
after_whole s e w = let after = outcome w e in
    after_if (is_enabled w e) (map (parts_of s after.world) (all_parts s)) after.recs

abbrev pub after_tick : Scenario → List PartValue → Option PartsAfter
after_tick s olds = after_whole s event.Tick (world_of s (value_in s olds))

-- the plan step at hand is done with these values of the other parts that it touches
abbrev pub step_done : Directory → Directory → List PartValue → List Rec → Option PartsAfter
step_done d after others recs =
    Some (record { news = part.Directory (with_step_done after) ∷ others; recs = note.Planned d.done None ∷ recs })

abbrev pub after_hold : Directory → NodeId → Bool → List PartValue → Option PartsAfter
after_hold d from held (part.Inbox b ∷ []) = step_done d d (part.Inbox (with_hold b from held) ∷ []) []
after_hold d from held [] = step_done d d [] []
after_hold d from held _ = None

abbrev pub after_join : Directory → Member → List PartValue → Option PartsAfter
after_join d member (part.Node p ∷ part.Inbox b ∷ []) = let act = join_act p.node d.events d.clock (topo.Join member) in
    step_done d (directory_after_join d member)
    (part.Node (record { node = act.state; life = life.Alive }) ∷ part.Inbox b ∷ []) act.recs
after_join d member [] = step_done d d [] []
after_join d member _ = None

abbrev pub after_cache_step : Directory → TopoEvent → List PartValue → Option PartsAfter
after_cache_step d e [] = step_done d (with_event d e) [] []
after_cache_step d e _ = None

abbrev pub after_step : Scenario → Directory → List PartValue → Step → Option PartsAfter
after_step s d others (step.Join member) = after_join d member others
after_step s d others (step.Lose id) = after_whole s event.Plan (world_of s (value_in s (part.Directory d ∷ others)))
after_step s d others (step.Hold from to) = after_hold d from true others
after_step s d others (step.Release from to) = after_hold d from false others
after_step s d others (step.Start cache) = after_cache_step d (topo.Start cache) others
after_step s d others (step.Stop cache) = after_cache_step d (topo.Stop cache) others

abbrev pub after_due : Scenario → Directory → List PartValue → Option PlanStep → Option PartsAfter
after_due s d others None = None
after_due s d others (Some planned) = if step_due d then after_step s d others planned.step else None

abbrev pub after_plan : Scenario → List PartValue → Option PartsAfter
after_plan s (part.Directory d ∷ others) = after_due s d others (next_step d)
after_plan s _ = None

abbrev pub parts_after : Scenario → Event → List PartValue → Option PartsAfter
parts_after s (event.Answer session) olds = after_answer session olds
parts_after s (event.Act id from) olds = after_act from olds
parts_after s (event.Send id) olds = after_send olds
parts_after s (event.See id) olds = after_see olds
parts_after s (event.Expire tx) olds = after_expire tx olds
parts_after s (event.Minor id) olds = after_minor olds
parts_after s (event.Call session) olds = after_call session olds
parts_after s event.Plan olds = after_plan s olds
parts_after s event.Tick olds = after_tick s olds
parts_after s (event.Memory id) olds = None

-- these values put at these numbers, over the others
abbrev pub with_values : List ℕ → List PartValue → (ℕ → PartValue) → ℕ → PartValue
with_values ps news f p = replay_or (held_at p (held_pairs ps news)) (f p)

-- Which events the machine names, by the same values: it looks for messages of declared nodes, and for deadlines of the
-- transactions that sessions have open.

abbrev pub is_node : Option NodeId → NodeId → Bool
is_node None id = false
is_node (Some x) id = same_node x id

abbrev pub is_tx : Option TxId → TxId → Bool
is_tx None tx = false
is_tx (Some x) tx = same_tx x tx

-- the transaction is its session's, on the session's node
abbrev pub is_open_tx : Scenario → NodeState → TxId → Bool
is_open_tx s node tx = is_node (home_of s tx.session) tx.node && is_tx (tx_of_session tx.session (Some node)) tx

abbrev pub is_listed : Scenario → Event → List PartValue → Bool
is_listed s (event.Act id from) olds = is_some (declared_place s from)
is_listed s (event.Expire tx) (part.Node p ∷ []) = is_open_tx s p.node tx
is_listed s _ _ = true

-- the relation of a group: its event is possible by the values of the parts that it touches, makes these of them, and notes
-- what the group has
pub record Relates (s : Scenario) (g : Group) (olds news : List PartValue) : Type 0 where
  pub made : parts_after s g.event olds ≡ Some (record { news = news; recs = g.recs })
  pub listed : is_listed s g.event olds ≡ true
