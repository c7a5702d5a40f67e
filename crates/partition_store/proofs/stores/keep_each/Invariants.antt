use Rattle.std.proofs.Common.{drop, take, ◌++◌, ◌≡◌}
use Rattle.partition_store.specs.Keeping.{copies_kept}
use Rattle.partition_store.proofs.stores.keep_each.Given as goal

abbrev pub invariant-loop-part : goal.invariant-loop-part
invariant-loop-part l = take l.part l.store-items ++ copies_kept (drop l.part l.store-items) (drop l.part l.stay)
    ≡ copies_kept l.fn.stores.items l.stay
