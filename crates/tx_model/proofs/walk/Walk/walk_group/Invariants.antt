use Rattle.std.proofs.Common.{drop, ◌≡◌}
use Rattle.tx_model.specs.History.{walk_after_records}
use Rattle.tx_model.proofs.walk.Walk.walk_group.Given as goal

abbrev pub invariant-loop-rec : goal.invariant-loop-rec
invariant-loop-rec l = walk_after_records l.tx l.to l.self (drop l.rec-index l.recs)
    ≡ walk_after_records l.tx l.to l.initial.self l.recs
