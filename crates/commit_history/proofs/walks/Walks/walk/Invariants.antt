use Rattle.std.proofs.Common.{◌≡◌, drop}
use Rattle.commit_history.specs.Steps.{walks_after_groups}
use Rattle.commit_history.proofs.walks.Walks.walk.Given as goal

abbrev pub invariant-loop-group : goal.invariant-loop-group
invariant-loop-group l = walks_after_groups l.self (drop l.group-index l.groups) ≡ walks_after_groups l.initial.self l.groups
