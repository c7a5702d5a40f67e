-- What the world's links carry, told by the records so far: the invariant of the law of links.
use Rattle.std.specs.List.{list_all}
use Rattle.std.specs.Prelude.{Bool, Some, [], drop, false, filter_map, not, slice_get, true, ℕ, ◌&&◌, ◌++◌, ◌≡◌}
use Rattle.part_model.specs.Links.{Inbox, Link, link_of}
use Rattle.part_model.specs.NextMap.{is_member}
use Rattle.ignite_types.specs.Good.{are_distinct, joining}
use Rattle.ignite_types.specs.Good as good
use Rattle.ignite_types.specs.Names.{same_node}
use Rattle.ignite_types.specs.declared.journal.Rec.{Rec}
use Rattle.ignite_types.specs.declared.list.List.{List}
use Rattle.ignite_types.specs.declared.names.NodeId.{NodeId}
use Rattle.ignite_types.specs.declared.scenario.Member.{Member}
use Rattle.ignite_types.specs.declared.scenario.PlanStep.{PlanStep}
use Rattle.ignite_types.specs.declared.scenario.Scenario.{Scenario}
use Rattle.journal_statements.specs.LinkRecords.{is_link_held, linked_at, sent_on, taken_on}
use Rattle.journal_statements.specs.Noted.{Noted, each_from, is_lost}
use Rattle.node_state.specs.declared.life.Life.{Life}
use Rattle.tx_model.specs.Opening.{session_nodes_from}
use Rattle.tx_model.specs.World.{Part, World}
use Rattle.ignite_types.specs.declared.journal.Rec.TheVariants as note
use Rattle.node_state.specs.declared.life.Life.TheVariants as life

-- a record that says nothing of links
abbrev pub is_calm : Rec → Bool
is_calm (note.Sent to message) = false
is_calm (note.Deliver from message) = false
is_calm (note.Lost node) = false
is_calm (note.Planned place refused) = false
is_calm _ = true

-- the test of one record
abbrev pub fits : List PlanStep → List Noted → Noted → Bool
fits plan before n = linked_at plan before n.node n.rec

-- the later records say the same of links as the earlier ones
pub record SayTheSame (plan : List PlanStep) (before after : List Noted) : Type 0 where
  pub same_sent : (from to : NodeId) → sent_on from to after ≡ sent_on from to before
  pub same_taken : (from to : NodeId) → taken_on from to after ≡ taken_on from to before
  pub same_lost : (node : NodeId) → is_lost after node ≡ is_lost before node
  pub same_held : (from to : NodeId) → is_link_held plan from to after ≡ is_link_held plan from to before

abbrev pub is_gone : Life → Bool
is_gone life.Gone = true
is_gone _ = false

-- a link carries what was sent on it and not yet taken; from or to a lost node it is empty
pub record LinkCarries (plan : List PlanStep) (recs : List Noted) (from to : NodeId) (l : Link) : Type 0 where
  pub held_is : l.held ≡ is_link_held plan from to recs
  pub sender_lost : is_lost recs from ≡ true → l.messages ≡ []
  pub addressee_lost : is_lost recs to ≡ true → l.messages ≡ []
  pub in_order : is_lost recs from ≡ false → is_lost recs to ≡ false → sent_on from to recs ≡ taken_on from to recs
      ++ l.messages

-- an inbox is closed exactly where its node is lost
pub record InboxCarries (plan : List PlanStep) (recs : List Noted) (to : NodeId) (b : Inbox) : Type 0 where
  pub closed_is : b.closed ≡ is_lost recs to
  pub links_are : (from : NodeId) (l : Link) → link_of b from ≡ Some l → LinkCarries plan recs from to l

-- a node's number stands at one place only
abbrev pub NodesApart : List Part → Type 0
NodesApart parts =
    (j k : ℕ) (p q : Part) → slice_get parts j ≡ Some p → slice_get parts k ≡ Some q → same_node p.node.me q.node.me ≡ true →
    j ≡ k

-- those who join by these steps
abbrev pub joiners : List PlanStep → List Member
joiners steps = filter_map (λ planned. joining planned.step) steps

abbrev pub is_new : List Noted → List Member → Member → Bool
is_new recs members m = not (is_lost recs m.node) && not (is_member members m.node)

-- those who join by the steps to come were never in
pub record StillNew (recs : List Noted) (members : List Member) (steps : List PlanStep) : Type 0 where
  pub are_apart : are_distinct good.same_member_node (joiners steps) ≡ true
  pub are_new : list_all (is_new recs members) (joiners steps) ≡ true

-- the world is as the records say
pub record LinkInvariant (s : Scenario) (recs : List Noted) (w : World) : Type 0 where
  pub plan_is : w.directory.plan ≡ s.plan
  pub session_nodes_are : w.session_nodes ≡ session_nodes_from 1 [] s.sessions
  pub apart : NodesApart w.parts
  pub lives : (k : ℕ) (p : Part) → slice_get w.parts k ≡ Some p → is_gone p.life ≡ is_lost recs p.node.me
  pub inboxes_are : (k : ℕ) (p : Part) (b : Inbox) → slice_get w.parts k ≡ Some p → slice_get w.inboxes k ≡ Some b →
      InboxCarries s.plan recs p.node.me b
  pub waiting : StillNew recs w.directory.members (drop w.directory.done s.plan)

-- further records pass the test, and the world behind them is as all records say
pub record LinkStepInvariant (s : Scenario) (recs more : List Noted) (w : World) : Type 0 where
  pub passes : each_from (fits s.plan) recs more ≡ true
  pub carried : LinkInvariant s (recs ++ more) w

-- a part stood here before with the same number, lost or not as it is now
pub record Stood (parts : List Part) (k : ℕ) (now : Part) : Type 0 where
  pub part : Part
  pub stands : slice_get parts k ≡ Some part
  pub same_me : part.node.me ≡ now.node.me
  pub same_life : is_gone part.life ≡ is_gone now.life
