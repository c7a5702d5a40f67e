use Rattle.std.proofs.Common.{◌≡◌, drop}
use Rattle.commit_history.specs.Steps.{walks_after_records}
use Rattle.commit_history.proofs.walks.Walks.walk_group.Given as goal

abbrev pub invariant-loop-rec : goal.invariant-loop-rec
invariant-loop-rec l = walks_after_records l.self l.to (drop l.rec-index l.recs) ≡ walks_after_records l.initial.self l.to
    l.recs
