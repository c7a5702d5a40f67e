use Rattle.std.proofs.Common.{drop, ◌++◌, ◌≡◌}
use Rattle.part_model.specs.Copies.{entries_of}
use Rattle.partition_store.proofs.store.stored_entries.Given as goal

abbrev pub invariant-loop-key : goal.invariant-loop-key
invariant-loop-key l = l.stored ++ entries_of (drop l.key-index l.entries) ≡ entries_of l.entries
