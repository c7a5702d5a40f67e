-- What it means that a walk, or what a near cache was told, was taken out to be put back changed.
use Rattle.std.specs.Prelude.{◌≡◌, List}
use Rattle.tx_model.specs.declared.walk.Walk.{Walk}
use Rattle.part_model.specs.Copies.{Found}
use Rattle.commit_history.specs.declared.walks.Walks.{Walks}
use Rattle.ignite_types.specs.Names.{node_cmp, tx_cmp}
use Rattle.ignite_types.specs.declared.names.NodeId.{NodeId}
use Rattle.ignite_types.specs.declared.names.TxId.{TxId}
use Rattle.ignite_types.specs.declared.text.Key.{Key}
use Rattle.ordered_table.specs.Entries.{put}

pub record TakesWalk (old new : Walks) (tx : TxId) : Type 0 where
  pub others : new ≡ record old { walks = new.walks }
  pub again : (w : Walk) → put tx_cmp new.walks tx w ≡ put tx_cmp old.walks tx w

pub record TakesNear (old new : Walks) (node : NodeId) : Type 0 where
  pub others : new ≡ record old { near = new.near }
  pub again : (known : List (Key × Found)) → put node_cmp new.near node known ≡ put node_cmp old.near node known
