use Rattle.std.proofs.Common.{◌≡◌, take}
use Rattle.near_cache.proofs.nears.Nears.copy.Given as goal

-- the copy holds the near caches of the numbers so far
abbrev pub invariant-loop-number : goal.invariant-loop-number
invariant-loop-number l = l.caches ≡ take l.number-index l.self-inside.caches
