use Rattle.std.proofs.Common.{◌≡◌, take}
use Rattle.session_scripts.proofs.ranges.copied.Given as goal

-- the copy holds the entries so far
abbrev pub invariant-loop-object : goal.invariant-loop-object
invariant-loop-object l = l.copy ≡ take l.object-index l.object-items
