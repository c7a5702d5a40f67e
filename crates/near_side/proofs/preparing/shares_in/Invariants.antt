use Rattle.std.proofs.Common.{drop, ◌≡◌}
use Rattle.act_rows.specs.Accesses.{shares_from}
use Rattle.near_side.proofs.preparing.shares_in.Given as goal

abbrev pub invariant-loop-key : goal.invariant-loop-key
invariant-loop-key l = shares_from l.map l.shares (drop l.key-index l.keys) ≡ shares_from l.map l.initial.shares l.keys
