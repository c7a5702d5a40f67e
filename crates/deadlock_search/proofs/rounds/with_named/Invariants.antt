use Rattle.std.proofs.Common.{drop, ◌≡◌}
use Rattle.act_rows.specs.Searches.{with_named}
use Rattle.deadlock_search.proofs.rounds.with_named.Given as goal

abbrev pub invariant-loop-edge : goal.invariant-loop-edge
invariant-loop-edge l = with_named l.named (drop l.edge-index l.edges) ≡ with_named l.known l.edges
