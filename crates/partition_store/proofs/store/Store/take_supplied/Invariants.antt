use Rattle.std.proofs.Common.{take, ◌≡◌}
use Rattle.part_model.specs.Copies.{copy_after_supply}
use Rattle.partition_store.proofs.store.Store.take_supplied.Given as goal

abbrev pub invariant-loop-entry : goal.invariant-loop-entry
invariant-loop-entry l = l.self ≡ copy_after_supply l.initial.self (take l.entry-index l.entries)
