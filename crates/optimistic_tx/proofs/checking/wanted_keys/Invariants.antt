use Rattle.std.proofs.Common.{drop, ◌++◌, ◌≡◌}
use Rattle.act_rows.specs.Primary.{wanted_keys}
use Rattle.optimistic_tx.proofs.checking.wanted_keys.Given as goal

abbrev pub invariant-loop-want : goal.invariant-loop-want
invariant-loop-want l = l.keys ++ wanted_keys (drop l.want-index l.wanted) ≡ wanted_keys l.wanted
