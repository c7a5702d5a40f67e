use Rattle.std.proofs.Common.{◌≡◌, ◌++◌, drop}
use Rattle.report_text.specs.Plans.{edge_lines}
use Rattle.report_text.proofs.plans.write_edges.Given as goal

abbrev pub invariant-loop-edge : goal.invariant-loop-edge
invariant-loop-edge l =
    l.out ++ edge_lines l.scenario (drop l.edge-index l.edges)
    ≡ l.fn.out ++ edge_lines l.scenario l.edges
