use Rattle.std.proofs.Common.{◌≡◌, ◌++◌, vec_len}
use Rattle.near_cache.proofs.near.copied.Given as goal

-- the copy holds the entries that were taken from the list's end
abbrev pub invariant-loop-key : goal.invariant-loop-key
invariant-loop-key l = record {
  entries : l.left.items ++ l.copy.entries ≡ l.entries.entries;
  cap : l.copy.cap ≡ l.entries.cap;
}

abbrev pub decreases-loop-key : goal.decreases-loop-key
decreases-loop-key l = vec_len l.left
