-- Links keep order: what a node takes is what was sent to it, in that order, and never from or at a lost node or on a held
-- link.
use Rattle.std.specs.List.{flat_map, list_any}
use Rattle.std.specs.Prelude.{Bool, None, Option, Some, [], false, if◌then◌else◌, length, nat_lt, not, slice_get, true, ◌&&◌, ◌||◌, ◌∷◌}
use Rattle.ignite_types.specs.Names.{same_node}
use Rattle.ignite_types.specs.declared.journal.Journal.{Journal}
use Rattle.ignite_types.specs.declared.journal.Rec.{Rec}
use Rattle.ignite_types.specs.declared.list.List.{List}
use Rattle.ignite_types.specs.declared.message.Message.{Message}
use Rattle.ignite_types.specs.declared.names.NodeId.{NodeId}
use Rattle.ignite_types.specs.declared.scenario.PlanStep.{PlanStep}
use Rattle.ignite_types.specs.declared.scenario.Scenario.{Scenario}
use Rattle.ignite_types.specs.declared.scenario.Step.{Step}
use Rattle.journal_statements.specs.Noted.{Noted, each_record, is_lost, noted, recs_of}
use Rattle.tx_model.specs.Opening.{ids_of}
use Rattle.journal_statements.specs.SameMessages.{same_message}
use Rattle.ignite_types.specs.declared.journal.Rec.TheVariants as note
use Rattle.ignite_types.specs.declared.scenario.Step.TheVariants as step

abbrev pub message_sent : NodeId → Rec → List Message
message_sent to (note.Sent addressee m) = if same_node addressee to then m ∷ [] else []
message_sent to r = []

-- what one node has sent to another
abbrev pub sent_on : NodeId → NodeId → List Noted → List Message
sent_on from to recs = flat_map (message_sent to) (recs_of from recs)

abbrev pub message_taken : NodeId → Rec → List Message
message_taken from (note.Deliver sender m) = if same_node sender from then m ∷ [] else []
message_taken from r = []

-- what one node has taken of another one's messages
abbrev pub taken_on : NodeId → NodeId → List Noted → List Message
taken_on from to recs = flat_map (message_taken from) (recs_of to recs)

abbrev pub is_that_message : Message → Option Message → Bool
is_that_message m None = false
is_that_message m (Some other) = same_message m other

-- the k-th message taken is the k-th one sent
abbrev pub is_next_message : NodeId → NodeId → Message → List Noted → Bool
is_next_message from to m before = is_that_message m (slice_get (sent_on from to before) (length (taken_on from to before)))

-- Held links.

abbrev pub is_link : NodeId → NodeId → NodeId → NodeId → Bool
is_link from to a b = same_node a from && same_node b to

abbrev pub hold_after : NodeId → NodeId → Bool → Step → Bool
hold_after from to now (step.Hold a b) = now || is_link from to a b
hold_after from to now (step.Release a b) = now && not (is_link from to a b)
hold_after from to now _ = now

abbrev pub hold_after_planned : NodeId → NodeId → Bool → Option PlanStep → Bool
hold_after_planned from to now None = now
hold_after_planned from to now (Some next) = hold_after from to now next.step

abbrev pub hold_after_rec : List PlanStep → NodeId → NodeId → Bool → Rec → Bool
hold_after_rec plan from to now (note.Planned place None) = hold_after_planned from to now (slice_get plan place)
hold_after_rec plan from to now r = now

abbrev pub hold_over : List PlanStep → NodeId → NodeId → Bool → List Noted → Bool
hold_over plan from to now [] = now
hold_over plan from to now (n ∷ ns) = hold_over plan from to (hold_after_rec plan from to now n.rec) ns

-- the plan steps done so far hold the link
abbrev pub is_link_held : List PlanStep → NodeId → NodeId → List Noted → Bool
is_link_held plan from to recs = hold_over plan from to false recs

-- Each record.

abbrev pub delivery_fits : List PlanStep → List Noted → NodeId → Rec → Bool
delivery_fits plan before to (note.Deliver from m) = is_next_message from to m before && not (is_lost before from)
    && not (is_link_held plan from to before)
delivery_fits plan before to r = true

-- a lost node notes nothing any more
abbrev pub linked_at : List PlanStep → List Noted → Option NodeId → Rec → Bool
linked_at plan before None r = true
linked_at plan before (Some who) r = not (is_lost before who) && delivery_fits plan before who r

-- each message taken is the next one sent on its link, which is not held, and nothing comes from or at a lost node
abbrev pub links : Journal → Bool
links j =
    each_record (λ (before : List Noted) (n : Noted). linked_at j.scenario.plan before n.node n.rec) (noted j.scenario j.groups)

-- A link that keeps a message back.

-- the link is held and has a message; the links of a lost node have none
abbrev pub keeps_message : Scenario → List Noted → NodeId → NodeId → Bool
keeps_message s recs from to = is_link_held s.plan from to recs
    && nat_lt (length (taken_on from to recs)) (length (sent_on from to recs))
    && not (is_lost recs from) && not (is_lost recs to)

abbrev pub any_link_keeps : Scenario → List Noted → Bool
any_link_keeps s recs = list_any (λ (from : NodeId). list_any (keeps_message s recs from) (ids_of s)) (ids_of s)
