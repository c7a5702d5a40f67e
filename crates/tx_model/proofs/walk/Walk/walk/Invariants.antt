use Rattle.std.proofs.Common.{drop, ◌≡◌}
use Rattle.tx_model.specs.History.{walk_after_groups}
use Rattle.tx_model.proofs.walk.Walk.walk.Given as goal

abbrev pub invariant-loop-group : goal.invariant-loop-group
invariant-loop-group l = walk_after_groups l.tx l.self (drop l.group-index l.groups) ≡ walk_after_groups l.tx l.initial.self
    l.groups
