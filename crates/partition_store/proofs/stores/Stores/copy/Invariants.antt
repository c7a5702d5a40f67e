use Rattle.std.proofs.Common.{◌++◌, drop, ◌≡◌}
use Rattle.partition_store.proofs.stores.Stores.copy.Given as goal

abbrev pub invariant-loop-store : goal.invariant-loop-store
invariant-loop-store l = l.stores.items ++ drop l.store-index l.store-items ≡ l.store-items
