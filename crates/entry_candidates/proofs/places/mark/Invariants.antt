use Rattle.std.proofs.Common.{drop, ◌≡◌}
use Rattle.entry_candidates.specs.Gathering.{marked}
use Rattle.entry_candidates.proofs.places.mark.Given as goal

abbrev pub invariant-loop-key : goal.invariant-loop-key
invariant-loop-key l = marked l.marks (drop l.key-index l.table) ≡ marked l.initial.marks l.table
