use Rattle.std.proofs.Common.{replicate, [], ◌≡◌}
use Rattle.partition_store.proofs.stores.Stores.new.Given as goal

abbrev pub invariant-loop-part : goal.invariant-loop-part
invariant-loop-part l = l.stores.items ≡ replicate l.part []
