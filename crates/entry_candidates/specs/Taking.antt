-- What it means that a queue or a table was taken out to be changed: an empty one stands in its place.
use Rattle.std.specs.Prelude.{Bool, None, Some, [], ◌≡◌, ◌∷◌, ◌++◌}
use Rattle.part_model.specs.Queues.{Queues}
use Rattle.ignite_types.specs.Names.{key_cmp, tx_cmp}
use Rattle.ignite_types.specs.declared.list.List.{List}
use Rattle.ignite_types.specs.declared.names.TxId.{TxId}
use Rattle.ignite_types.specs.declared.text.Key.{Key}
use Rattle.ordered_table.specs.Entries.{at, put}
use Rattle.ordered_table.specs.declared.table.Table.{Table}
use Rattle.entry_candidates.specs.Owning.{front_of}
use Rattle.entry_candidates.specs.Placing.{Places}

pub record TakesQueue (old new : Queues) (key : Key) (queue : List TxId) : Type 0 where
  pub was : at key_cmp old key ≡ Some queue
  pub vacant : new ≡ put key_cmp old key []

pub record TakesNoQueue (old new : Queues) (key : Key) : Type 0 where
  pub was : at key_cmp old key ≡ None
  pub same : new ≡ old

pub record TakesTable (old new : Places) (tx : TxId) (table : Table Key Bool) : Type 0 where
  pub was : at tx_cmp old tx ≡ Some table
  pub vacant : new ≡ put tx_cmp old tx []

pub record TakesNoTable (old new : Places) (tx : TxId) : Type 0 where
  pub was : at tx_cmp old tx ≡ None
  pub same : new ≡ old

-- the last one of a queue
pub record IsLast (queue : List TxId) (tx : TxId) : Type 0 where
  pub parts : queue ≡ front_of queue ++ tx ∷ []
