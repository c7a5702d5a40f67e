use Rattle.std.proofs.Common.{take, ◌≡◌}
use Rattle.entry_candidates.proofs.places.Places.copy.Given as goal

-- the copy holds the tables so far
abbrev pub invariant-loop-tx : goal.invariant-loop-tx
invariant-loop-tx l = l.tables ≡ take l.tx-index l.self
