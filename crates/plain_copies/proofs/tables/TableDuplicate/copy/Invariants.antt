use Rattle.std.proofs.Common.{◌≡◌, take}
use Rattle.plain_copies.proofs.tables.TableDuplicate.copy.Given as goal

-- the copy holds the entries so far
abbrev pub invariant-loop-key : goal.invariant-loop-key
invariant-loop-key g l = l.copy ≡ take l.key-index l.key-items
