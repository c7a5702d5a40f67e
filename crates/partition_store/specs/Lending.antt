-- What the stores of all partitions are once one of them, which was lent, has come back.
use Rattle.std.specs.Prelude.{ℕ, Option, slice_set}
use Rattle.std.specs.Borrow.{LendsIf, MutBor, Fml}
use Rattle.ignite_types.specs.declared.list.List.{List}
use Rattle.part_model.specs.Copies.{Copy}
use Rattle.partition_store.specs.contracts.store.Store.{the_row as store_row}
use Rattle.partition_store.specs.contracts.stores.Stores.{the_row}

-- the partition's copy ends as the last value behind r; at `None` all copies stay
abbrev pub lends_copy : MutBor (List Copy) → ℕ → Option (MutBor Copy) → Fml
lends_copy copies part r = LendsIf the_row store_row copies r (slice_set copies.now part) copies.now
