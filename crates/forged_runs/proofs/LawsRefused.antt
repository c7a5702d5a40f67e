-- For each law beside the headline a forged journal that does not keep it.
use Rattle.std.proofs.Common.{false, refl, true, ◌≡◌}
use Rattle.std.specs.Prelude.{[], ◌∷◌}
use Rattle.forged_runs.specs.Forgeries.{circle_overlooked, put_at_two, two_wait}
use Rattle.forged_runs.specs.ForgedLaws.{circle_of_no_moment, claim_of_older_map, decided_before_prepared, dropped_before_backup, find_without_answer, map_above_share, no_owner_left, opened_before_installed, other_map_sent, prepared_at_second, server_joins, stalled_at_once, stalled_for_nothing, too_many_events, versions_shrink}
use Rattle.forged_runs.specs.Forging.{honest}
use Rattle.journal_statements.specs.Finds.{finds_fit}
use Rattle.journal_statements.specs.Laws.{laws}
use Rattle.journal_statements.specs.MapLaws.{one_coordinator, opened_when_installed, owners_left, switches_claimed}
use Rattle.journal_statements.specs.SearchLaws.{no_circle_overlooked, reports_of_moment}
use Rattle.journal_statements.specs.ShareLaws.{forgotten_over, share_laws}
use Rattle.machine_runs.specs.Words.{tx}
use Rattle.journal_statements.specs.StallLaws.{events_bounded, stalls_explained, stalls_named, versions_grow}

put_at_two_keeps : laws (honest put_at_two) ≡ true
put_at_two_keeps = refl

two_wait_keeps : laws (honest two_wait) ≡ true
two_wait_keeps = refl

server_joins_keeps : laws (honest server_joins) ≡ true
server_joins_keeps = refl

find_without_answer_refused : finds_fit find_without_answer ≡ false
find_without_answer_refused = refl

other_map_sent_refused : one_coordinator other_map_sent ≡ false
other_map_sent_refused = refl

opened_before_installed_refused : opened_when_installed opened_before_installed ≡ false
opened_before_installed_refused = refl

no_owner_left_refused : owners_left no_owner_left ≡ false
no_owner_left_refused = refl

claim_of_older_map_refused : switches_claimed claim_of_older_map ≡ false
claim_of_older_map_refused = refl

map_above_share_refused : share_laws map_above_share ≡ false
map_above_share_refused = refl

decided_before_prepared_refused : share_laws decided_before_prepared ≡ false
decided_before_prepared_refused = refl

dropped_before_backup_refused : share_laws dropped_before_backup ≡ false
dropped_before_backup_refused = refl

circle_of_no_moment_refused : reports_of_moment circle_of_no_moment ≡ false
circle_of_no_moment_refused = refl

circle_overlooked_breaks : no_circle_overlooked circle_overlooked ≡ false
circle_overlooked_breaks = refl

stalled_for_nothing_refused : stalls_explained stalled_for_nothing ≡ false
stalled_for_nothing_refused = refl

stalled_at_once_refused : stalls_named stalled_at_once ≡ false
stalled_at_once_refused = refl

forgotten_while_prepared_refused : forgotten_over (tx 1 1 1 ∷ []) (prepared_at_second ∷ []) ≡ false
forgotten_while_prepared_refused = refl

too_many_events_refused : events_bounded too_many_events ≡ false
too_many_events_refused = refl

versions_shrink_refused : versions_grow versions_shrink ≡ false
versions_shrink_refused = refl
