-- What a row adds to a node: records behind those noted, and messages behind those in the outbox. It takes nothing out, and
-- leaves the node's number, its count of acts and its clock alone.
use Rattle.std.specs.List.{list_all}
use Rattle.std.specs.Prelude.{Bool, false, true, ◌++◌, ◌≡◌}
use Rattle.ignite_types.specs.declared.journal.Rec.{Rec}
use Rattle.ignite_types.specs.declared.list.List.{List}
use Rattle.ignite_types.specs.declared.message.Out.{Out}
use Rattle.node_state.specs.Node.{NodeState}
use Rattle.ignite_types.specs.declared.journal.Rec.TheVariants as note

-- a record that a row may note; the others are noted by an event itself
abbrev pub is_own : Rec → Bool
is_own (note.Sent to message) = false
is_own (note.Deliver from message) = false
is_own (note.See place) = false
is_own (note.Lost node) = false
is_own (note.Tick to) = false
is_own (note.Planned place refused) = false
is_own note.Memory = false
is_own _ = true

pub record OnlyAppends (before after : NodeState) : Type 0 where
  pub same_me : after.me ≡ before.me
  pub same_acts : after.acts ≡ before.acts
  pub same_now : after.now ≡ before.now
  pub more_noted : List Rec
  pub noted_is : after.noted ≡ before.noted ++ more_noted
  pub own : list_all is_own more_noted ≡ true
  pub more_sent : List Out
  pub outbox_is : after.outbox ≡ before.outbox ++ more_sent
