use Rattle.std.proofs.Common.{◌≡◌, drop}
use Rattle.ignite_types.specs.Placement.{capped_sum}
use Rattle.ignite_types.proofs.placement.capped_sum.Given as goal

abbrev pub invariant-loop-number : goal.invariant-loop-number
invariant-loop-number l = capped_sum l.sum (drop l.number-index l.numbers) ≡ capped_sum 0 l.numbers
