use Rattle.std.proofs.Common.{◌≡◌, take}
use Rattle.near_cache.proofs.readers.Readers.copy.Given as goal

-- the copy holds the readers of the keys so far
abbrev pub invariant-loop-key : goal.invariant-loop-key
invariant-loop-key l = l.nodes ≡ take l.key-index l.self-inside.nodes
