-- What each act of a node leaves alone, and which records it notes.
use Rattle.std.specs.List.{list_all}
use Rattle.std.specs.Prelude.{[], true, ◌++◌, ◌∷◌, ◌≡◌}
use Rattle.frame_laws.specs.Extending.{is_own}
use Rattle.act_rows.specs.Acts.{Acted, message_act, see_act}
use Rattle.part_model.specs.Orders.{next_count}
use Rattle.ignite_types.specs.declared.journal.Rec.{Rec}
use Rattle.ignite_types.specs.declared.journal.TopoEvent.{TopoEvent}
use Rattle.ignite_types.specs.declared.list.List.{List}
use Rattle.ignite_types.specs.declared.message.Message.{Message}
use Rattle.ignite_types.specs.declared.message.Out.{Out}
use Rattle.ignite_types.specs.declared.names.NodeId.{NodeId}
use Rattle.node_state.specs.Node.{NodeState}
use Rattle.ignite_types.specs.declared.journal.Rec.TheVariants as note

-- the act counts, the node keeps its number and its clock, and what it sends goes behind what was in the outbox
pub record Leaves (before after : NodeState) : Type 0 where
  pub same_me : after.me ≡ before.me
  pub counted : after.acts ≡ next_count before.acts
  pub same_now : after.now ≡ before.now
  pub taken : after.noted ≡ []
  pub sent : List Out
  pub outbox_is : after.outbox ≡ before.outbox ++ sent

-- the records are these: those that rows note, between the ones that are given
pub record Notes (recs before : List Rec) (after : List Rec) : Type 0 where
  pub first : List Rec
  pub last : List Rec
  pub first_own : list_all is_own first ≡ true
  pub last_own : list_all is_own last ≡ true
  pub recs_are : recs ≡ before ++ (first ++ (after ++ last))

-- an act notes what rows note, and nothing else
abbrev pub Plain : NodeState → Acted → Type 0
Plain s act = Leaves s act.state × Notes act.recs [] []

-- a message that is taken is noted first
abbrev pub Takes : NodeState → NodeId → Message → Type 0
Takes s from m = let act = message_act s from m in Leaves s act.state × Notes act.recs (note.Deliver from m ∷ []) []

-- a topology event that is seen is noted once, by its place
abbrev pub Sees : NodeState → TopoEvent → Type 0
Sees s event = let act = see_act s event in Leaves s act.state × Notes act.recs [] (note.See s.read ∷ [])
