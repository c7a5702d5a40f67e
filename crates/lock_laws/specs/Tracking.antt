-- What a node's records tell of its lock queues: which transaction owns each key.
use Rattle.std.specs.Prelude.{[], false, ◌++◌, ◌∷◌, ◌≡◌}
use Rattle.act_rows.specs.Acts.{Acted}
use Rattle.act_rows.specs.Locks.{is_owner}
use Rattle.part_model.specs.Queues.{Queues, owner_in}
use Rattle.ignite_types.specs.Names.{key_cmp, same_node, same_tx}
use Rattle.ignite_types.specs.declared.journal.Rec.{Rec}
use Rattle.ignite_types.specs.declared.list.List.{List}
use Rattle.ignite_types.specs.declared.names.NodeId.{NodeId}
use Rattle.ignite_types.specs.declared.names.TxId.{TxId}
use Rattle.ignite_types.specs.declared.text.Key.{Key}
use Rattle.journal_statements.specs.Noted.{Noted, recs_of}
use Rattle.journal_statements.specs.Waits.{holds_after}
use Rattle.node_state.specs.Node.{NodeState}
use Rattle.ordered_table.specs.Places.{IsAscending}
use Rattle.tx_model.specs.World.{Part}
use Rattle.ignite_types.specs.declared.journal.Rec.TheVariants as note

-- who holds a key by the records is its owner by the queues, and nobody else
pub record OwnersMatch (recs : List Rec) (queues : Queues) : Type 0 where
  pub ascending : IsAscending key_cmp queues
  pub owners : (tx : TxId) (key : Key) → holds_after tx key false recs ≡ is_owner tx (owner_in queues key)

-- a key is granted where no other transaction holds it by the records before
abbrev pub GrantFits : List Rec → Rec → Type 0
GrantFits before (note.Grant tx top key) = (u : TxId) → same_tx u tx ≡ false → holds_after u key false before ≡ false
GrantFits before _ = Unit {0}

-- each of these records does, behind those
abbrev pub GrantsFit : List Rec → List Rec → Type 0
GrantsFit before [] = Unit {0}
GrantsFit before (r ∷ rs) = GrantFits before r × GrantsFit (before ++ r ∷ []) rs

-- what is noted between two states goes on telling of the queues
pub record KeepsOwnersMatch (before after : NodeState) : Type 0 where
  pub more : List Rec
  pub noted_is : after.noted ≡ before.noted ++ more
  pub tells : (recs : List Rec) → OwnersMatch recs before.queues → OwnersMatch (recs ++ more) after.queues
  pub fits : (recs : List Rec) → OwnersMatch recs before.queues → GrantsFit recs more

-- an act goes on telling of the queues, and each of its grants fits
abbrev pub ActKeepsOwnersMatch : NodeState → Acted → Type 0
ActKeepsOwnersMatch s act =
    (recs : List Rec) → OwnersMatch recs s.queues → OwnersMatch (recs ++ act.recs) act.state.queues × GrantsFit recs act.recs

-- the records of each part tell of its queues
abbrev pub AllOwnersMatch : List Noted → List Part → Type 0
AllOwnersMatch noted [] = Unit {0}
AllOwnersMatch noted (p ∷ ps) = OwnersMatch (recs_of p.node.me noted) p.node.queues × AllOwnersMatch noted ps

-- no part has this number
abbrev pub IsAbsentFrom : NodeId → List Part → Type 0
IsAbsentFrom id [] = Unit {0}
IsAbsentFrom id (p ∷ ps) = (same_node p.node.me id ≡ false) × IsAbsentFrom id ps

-- no two parts have the same one
abbrev pub AreApart : List Part → Type 0
AreApart [] = Unit {0}
AreApart (p ∷ ps) = IsAbsentFrom p.node.me ps × AreApart ps
