use Rattle.std.proofs.Common.{drop, filter, is_some, ◌≡◌}
use Rattle.part_model.specs.NextMap.{single_of}
use Rattle.ignite_types.specs.Names.{same_top}
use Rattle.partition_exchange.proofs.coordinating.has_single.Given as goal

abbrev pub invariant-loop-single : goal.invariant-loop-single
invariant-loop-single l = is_some (single_of (filter (λ x. same_top x.top l.top) (drop l.single-index l.singles)) l.node)
    ≡ is_some (single_of (filter (λ x. same_top x.top l.top) l.singles) l.node)
