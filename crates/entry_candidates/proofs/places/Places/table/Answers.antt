use Rattle.entry_candidates.proofs.places.Places.table.Goals as goal

pub returns-in-Some-clause-ascending : goal.returns-in-Some-clause-ascending
returns-in-Some-clause-ascending c = rw c.as_slice.ensures.value c.as_slice.ensures.ascending
