-- For each conjunct of the headline a forged journal that it refuses.
use Rattle.std.proofs.Common.{false, refl, ◌≡◌}
use Rattle.forged_runs.specs.Forgeries.{changed_without_read, circle_overlooked, commit_taken_back, copies_differ, deadlock_without_report, false_deadlock, find_gone_astray, hold_refused, lock_free_too_early, message_twice, no_cache_for_fault, opened_too_early, second_start, two_holders, value_for_fault, write_left_out, wrong_answer, wrong_owners, wrong_read}
use Rattle.journal_statements.specs.Applied.{full_sync}
use Rattle.journal_statements.specs.Causes.{answers_fit, causes}
use Rattle.journal_statements.specs.Faults.{faults_fit}
use Rattle.journal_statements.specs.Headline.{is_serial}
use Rattle.journal_statements.specs.LinkRecords.{links}
use Rattle.journal_statements.specs.Maps.{maps}
use Rattle.journal_statements.specs.Refusals.{refusals_fit}
use Rattle.journal_statements.specs.SerialCopies.{copies}
use Rattle.journal_statements.specs.Told.{answers_told}
use Rattle.journal_statements.specs.Versions.{commits_stand, drained, one_version}
use Rattle.journal_statements.specs.Waits.{deadlocks_true, one_holder}

wrong_read_refused : is_serial wrong_read ≡ false
wrong_read_refused = refl

commit_taken_back_refused : commits_stand commit_taken_back ≡ false
commit_taken_back_refused = refl

wrong_answer_refused : answers_told wrong_answer ≡ false
wrong_answer_refused = refl

find_gone_astray_refused : answers_told find_gone_astray ≡ false
find_gone_astray_refused = refl

second_start_refused : one_version second_start ≡ false
second_start_refused = refl

opened_too_early_refused : drained opened_too_early ≡ false
opened_too_early_refused = refl

lock_free_too_early_refused : full_sync lock_free_too_early ≡ false
lock_free_too_early_refused = refl

write_left_out_refused : full_sync write_left_out ≡ false
write_left_out_refused = refl

copies_differ_refused : copies copies_differ ≡ false
copies_differ_refused = refl

two_holders_refused : one_holder two_holders ≡ false
two_holders_refused = refl

false_deadlock_refused : deadlocks_true false_deadlock ≡ false
false_deadlock_refused = refl

message_twice_refused : links message_twice ≡ false
message_twice_refused = refl

wrong_owners_refused : maps wrong_owners ≡ false
wrong_owners_refused = refl

-- Of the causes, by faults, by answers and by steps of the plan.

changed_without_read_refused : faults_fit changed_without_read ≡ false
changed_without_read_refused = refl

circle_overlooked_refused : faults_fit circle_overlooked ≡ false
circle_overlooked_refused = refl

deadlock_without_report_refused : faults_fit deadlock_without_report ≡ false
deadlock_without_report_refused = refl

value_for_fault_refused : answers_fit value_for_fault ≡ false
value_for_fault_refused = refl

no_cache_for_fault_refused : answers_fit no_cache_for_fault ≡ false
no_cache_for_fault_refused = refl

hold_refused_refused : refusals_fit hold_refused ≡ false
hold_refused_refused = refl

-- what one part of the causes refuses, the causes refuse
no_causes : causes hold_refused ≡ false
no_causes = refl
