-- Before a record of them is forged the runs keep the headline.
use Rattle.std.proofs.Common.{refl, true, ◌≡◌}
use Rattle.forged_runs.specs.Forgeries.{blind_write, deadline_and_idle_cache, deadline_slept_over, one_hold, one_waits, put_and_get, put_at_two, rolled_back_before_join, two_wait}
use Rattle.forged_runs.specs.Forging.{honest}
use Rattle.journal_statements.specs.Headline.{headline}

put_and_get_holds : headline (honest put_and_get) ≡ true
put_and_get_holds = refl

put_at_two_holds : headline (honest put_at_two) ≡ true
put_at_two_holds = refl

two_wait_holds : headline (honest two_wait) ≡ true
two_wait_holds = refl

one_waits_holds : headline (honest one_waits) ≡ true
one_waits_holds = refl

rolled_back_before_join_holds : headline (honest rolled_back_before_join) ≡ true
rolled_back_before_join_holds = refl

blind_write_holds : headline (honest blind_write) ≡ true
blind_write_holds = refl

deadline_slept_over_holds : headline (honest deadline_slept_over) ≡ true
deadline_slept_over_holds = refl

deadline_and_idle_cache_holds : headline (honest deadline_and_idle_cache) ≡ true
deadline_and_idle_cache_holds = refl

one_hold_holds : headline (honest one_hold) ≡ true
one_hold_holds = refl
