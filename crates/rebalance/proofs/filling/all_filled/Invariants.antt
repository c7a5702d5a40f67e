use Rattle.std.proofs.Common.{drop, ◌≡◌, ℕ}
use Rattle.std.specs.List.{list_all}
use Rattle.std.specs.Ordering.{nat_cmp}
use Rattle.act_rows.specs.Filling.{all_filled, moved_from}
use Rattle.ordered_set.specs.Members.{has}
use Rattle.rebalance.proofs.filling.all_filled.Given as goal

abbrev pub invariant-loop-row : goal.invariant-loop-row
invariant-loop-row l = list_all (λ (part : ℕ). has nat_cmp l.node.complete part)
    (moved_from l.node.me l.part (drop l.row-index l.row-items)) ≡ all_filled l.node
