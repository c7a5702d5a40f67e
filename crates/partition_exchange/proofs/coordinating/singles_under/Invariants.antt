use Rattle.std.proofs.Common.{drop, filter, ◌++◌, ◌≡◌}
use Rattle.ignite_types.specs.Names.{same_top}
use Rattle.partition_exchange.proofs.coordinating.singles_under.Given as goal

abbrev pub invariant-loop-single : goal.invariant-loop-single
invariant-loop-single l = l.under ++ filter (λ x. same_top x.top l.top) (drop l.single-index l.single-items)
    ≡ filter (λ x. same_top x.top l.top) l.single-items
