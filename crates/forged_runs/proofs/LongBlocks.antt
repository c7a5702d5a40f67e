-- One key more than a transaction may touch: an untold fault comes before the number of keys, and that before a loss.
use Rattle.std.proofs.Common.{false, refl, true, ◌≡◌}
use Rattle.forged_runs.specs.Forging.{honest}
use Rattle.forged_runs.specs.LongBlocks.{deadline_and_one_more, loss_and_one_more, lost_for_too_many, too_many_for_fault}
use Rattle.journal_statements.specs.Causes.{answers_fit}

deadline_and_one_more_fits : answers_fit (honest deadline_and_one_more) ≡ true
deadline_and_one_more_fits = refl

loss_and_one_more_fits : answers_fit (honest loss_and_one_more) ≡ true
loss_and_one_more_fits = refl

too_many_for_fault_refused : answers_fit too_many_for_fault ≡ false
too_many_for_fault_refused = refl

lost_for_too_many_refused : answers_fit lost_for_too_many ≡ false
lost_for_too_many_refused = refl
