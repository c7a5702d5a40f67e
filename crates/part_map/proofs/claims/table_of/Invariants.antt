use Rattle.part_map.proofs.ClaimLemmas.{Filled}
use Rattle.part_map.proofs.claims.table_of.Given as goal

abbrev pub invariant-loop-single : goal.invariant-loop-single
invariant-loop-single l = Filled l.version l.parts l.singles l.single-index l.table
