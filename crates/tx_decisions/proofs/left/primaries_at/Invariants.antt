use Rattle.std.proofs.Common.{drop, ◌≡◌}
use Rattle.act_rows.specs.Decisions.{primaries_at, primaries_from}
use Rattle.tx_decisions.proofs.left.primaries_at.Given as goal

abbrev pub invariant-loop-key : goal.invariant-loop-key
invariant-loop-key l = primaries_from l.node l.nodes (drop l.key-index l.keys) ≡ primaries_at l.node l.keys
