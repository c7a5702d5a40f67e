use Rattle.std.proofs.Common.{◌≡◌, ◌++◌, drop}
use Rattle.plain_copies.proofs.duplicate.ListDuplicate.copy.Given as goal

-- the copy so far, with the items that are left, is the list
abbrev pub invariant-loop-item : goal.invariant-loop-item
invariant-loop-item g l = l.copy ++ drop l.item-index l.item-items ≡ l.item-items
