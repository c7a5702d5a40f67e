use Rattle.std.proofs.Common.{drop, [], ◌≡◌}
use Rattle.entry_candidates.specs.Gathering.{waited_by}
use Rattle.entry_candidates.proofs.places.Places.waited_by.Given as goal

abbrev pub invariant-loop-tx : goal.invariant-loop-tx
invariant-loop-tx l = waited_by l.self l.marks (drop l.tx-index l.txs) ≡ waited_by l.self [] l.txs
