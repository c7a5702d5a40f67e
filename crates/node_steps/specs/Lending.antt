-- What a node is once one of its copies, which was lent, has come back.
use Rattle.std.specs.Prelude.{Option, ℕ}
use Rattle.std.specs.Borrow.{Fml, LendsIf, MutBor}
use Rattle.act_rows.specs.Filling.{with_copy}
use Rattle.part_model.specs.Copies.{Copy}
use Rattle.node_state.specs.Node.{NodeState}
use Rattle.partition_store.specs.contracts.store.Store.{the_row as store_row}
use Rattle.node_steps.specs.contracts.node.Node.{the_row}

-- the partition's copy ends as the last value behind r; at `None` all copies stay
abbrev pub lends_copy : MutBor NodeState → ℕ → Option (MutBor Copy) → Fml
lends_copy s part r = LendsIf the_row store_row s r (with_copy s.now part) s.now
