-- What rows leave alone that have nothing to do with Singles and maps.
use Rattle.std.specs.List.{list_all}
use Rattle.std.specs.Prelude.{Bool, false, true, ◌++◌, ◌≡◌}
use Rattle.ignite_types.specs.declared.journal.Rec.{Rec}
use Rattle.ignite_types.specs.declared.list.List.{List}
use Rattle.node_state.specs.Node.{NodeState}
use Rattle.ignite_types.specs.declared.journal.Rec.TheVariants as note

-- a record of no map, no message that was taken, and no loss
abbrev pub says_no_map : Rec → Bool
says_no_map (note.Install m) = false
says_no_map (note.Deliver from message) = false
says_no_map (note.Lost node) = false
says_no_map _ = true

pub record LeavesMaps (before after : NodeState) : Type 0 where
  pub more : List Rec
  pub noted_is : after.noted ≡ before.noted ++ more
  pub silent : list_all says_no_map more ≡ true
  pub same_caches : after.caches ≡ before.caches
  pub same_map : after.installed ≡ before.installed
  pub same_singles : after.singles ≡ before.singles
