use Rattle.std.proofs.Common.{◌∙◌}
use Rattle.partition_store.proofs.Marks.{tombstones_dropped}
use Rattle.partition_store.proofs.store.Store.drop_tombstones.Goals as goal

pub returns : goal.returns
returns c = rw (← c.self.view_is) (c.retain.ensures.kept ∙ tombstones_dropped c.self.inside.entries c.retain.ensures.ascending)
