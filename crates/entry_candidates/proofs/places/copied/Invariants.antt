use Rattle.std.proofs.Common.{take, ◌≡◌}
use Rattle.entry_candidates.proofs.places.copied.Given as goal

-- the copy holds the entries so far
abbrev pub invariant-loop-key : goal.invariant-loop-key
invariant-loop-key l = l.copy ≡ take l.key-index l.table
