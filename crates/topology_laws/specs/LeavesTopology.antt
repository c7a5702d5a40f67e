-- What plain rows leave of a node: they note and send nothing of the exchange, and leave its face else as it was.
use Rattle.std.specs.List.{list_all}
use Rattle.std.specs.Prelude.{Bool, false, true, ◌++◌, ◌≡◌}
use Rattle.frame_laws.specs.Kits.{is_plain_out}
use Rattle.ignite_types.specs.declared.journal.Rec.{Rec}
use Rattle.ignite_types.specs.declared.list.List.{List}
use Rattle.ignite_types.specs.declared.message.Out.{Out}
use Rattle.node_state.specs.Node.{NodeState}
use Rattle.topology_laws.specs.TopologyScenes.{topology_state}
use Rattle.ignite_types.specs.declared.journal.Rec.TheVariants as note

-- a record of no map, no opening and no loss
abbrev pub says_no_topology : Rec → Bool
says_no_topology (note.Install m) = false
says_no_topology (note.Opened top) = false
says_no_topology (note.Lost node) = false
says_no_topology _ = true

pub record LeavesTopology (before after : NodeState) : Type 0 where
  pub more : List Rec
  pub noted_is : after.noted ≡ before.noted ++ more
  pub quiet : list_all says_no_topology more ≡ true
  pub sent : List Out
  pub plain : list_all is_plain_out sent ≡ true
  pub face_is : topology_state after ≡ record (topology_state before) { outbox = before.outbox ++ sent }
