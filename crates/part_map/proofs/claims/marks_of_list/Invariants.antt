use Rattle.part_map.proofs.ClaimLemmas.{Marked}
use Rattle.part_map.proofs.claims.marks_of_list.Given as goal

abbrev pub invariant-loop-listed : goal.invariant-loop-listed
invariant-loop-listed l = Marked l.parts l.complete l.listed-index l.marks.items
