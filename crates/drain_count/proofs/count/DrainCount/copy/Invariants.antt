use Rattle.std.proofs.Common.{◌≡◌, take}
use Rattle.drain_count.proofs.count.DrainCount.copy.Given as goal

-- the copy holds the entries so far
abbrev pub invariant-loop-top : goal.invariant-loop-top
invariant-loop-top l = l.counts ≡ take l.top-index l.top-items
