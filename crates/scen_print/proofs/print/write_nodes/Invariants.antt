use Rattle.std.proofs.Common.{◌≡◌, ◌++◌, drop}
use Rattle.std.specs.Prelude.{flat_map}
use Rattle.scen_print.specs.Printing.{member_text}
use Rattle.scen_print.proofs.print.write_nodes.Given as goal

abbrev pub invariant-loop-member : goal.invariant-loop-member
invariant-loop-member l = l.out ++ flat_map member_text (drop l.member-index l.nodes) ≡ l.initial.out
    ++ flat_map member_text l.nodes
