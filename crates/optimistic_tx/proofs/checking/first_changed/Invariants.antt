use Rattle.std.proofs.Common.{drop, ◌≡◌}
use Rattle.act_rows.specs.Primary.{first_changed}
use Rattle.optimistic_tx.proofs.checking.first_changed.Given as goal

abbrev pub invariant-loop-want : goal.invariant-loop-want
invariant-loop-want l = first_changed l.node (drop l.want-index l.wanted) ≡ first_changed l.node l.wanted
