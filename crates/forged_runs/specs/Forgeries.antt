-- Small runs, and a forgery of each: what a wrong machine might note.
use Prim.Native.String.{String}
use Rattle.std.specs.Prelude.{None, Some, [], codes, false, if◌then◌else◌, map, nat_eq, true, ℕ, ◌++◌, ◌∷◌}
use Rattle.part_model.specs.Copies.{absent_version}
use Rattle.ignite_types.specs.declared.answer.Answer.{Answer}
use Rattle.ignite_types.specs.declared.answer.Fault.{Fault}
use Rattle.ignite_types.specs.declared.journal.Journal.{Journal}
use Rattle.ignite_types.specs.declared.message.Edge.{Edge}
use Rattle.ignite_types.specs.declared.names.CacheVersion.{CacheVersion}
use Rattle.ignite_types.specs.declared.placement.Row.{Row}
use Rattle.ignite_types.specs.declared.scenario.Cache.{Cache}
use Rattle.ignite_types.specs.declared.scenario.Item.{Item}
use Rattle.ignite_types.specs.declared.scenario.Scenario.{Scenario}
use Rattle.forged_runs.specs.Forging.{Forgery, forged, forged_at}
use Rattle.machine_runs.specs.Words.{begin, begin_optimistic, begin_within, commit, from_moment, get, hold, join, numbered_client, numbered_node, numbered_server, plain_key, put_item, scenario, session_on, sleep, version}
use Rattle.ignite_types.specs.declared.answer.Answer.TheVariants as answer
use Rattle.ignite_types.specs.declared.answer.Fail.TheVariants as fail
use Rattle.ignite_types.specs.declared.answer.Fault.TheVariants as fault
use Rattle.ignite_types.specs.declared.journal.NoLoss.TheVariants as refusal
use Rattle.ignite_types.specs.declared.scenario.Command.TheVariants as command
use Rattle.ignite_types.specs.declared.scenario.Item.TheVariants as item
use Rattle.ignite_types.specs.declared.message.Message.TheVariants as msg
use Rattle.ignite_types.specs.declared.journal.Rec.TheVariants as note

-- The runs.

-- a value is put, and then read
abbrev pub put_and_get : Scenario
put_and_get = scenario 1 0 (numbered_server 1 ∷ []) [] (session_on "A" 1 (put_item "a" "1" ∷ get "a" ∷ []) ∷ [])

-- a value is put at a primary with a backup
abbrev pub put_at_two : Scenario
put_at_two = scenario 1 1 (numbered_server 1 ∷ numbered_server 2 ∷ []) [] (session_on "A" 1 (put_item "a" "1" ∷ []) ∷ [])

-- two transactions wait for each other, and one of them until its deadline
abbrev pub two_wait : Scenario
two_wait = scenario 1 0 (numbered_server 1 ∷ []) []
    (session_on "A" 1 (begin_within 5 ∷ put_item "a" "1" ∷ sleep 1 ∷ put_item "b" "1" ∷ commit ∷ [])
    ∷ session_on "B" 1 (begin ∷ put_item "b" "2" ∷ sleep 1 ∷ put_item "a" "2" ∷ commit ∷ [])
    ∷ [])

-- a transaction waits for another one that sleeps, until its deadline
abbrev pub one_waits : Scenario
one_waits = scenario 1 0 (numbered_server 1 ∷ []) []
    (session_on "A" 1 (begin ∷ put_item "a" "1" ∷ sleep 9 ∷ commit ∷ [])
    ∷ session_on "B" 1 (begin_within 5 ∷ put_item "a" "2" ∷ commit ∷ [])
    ∷ [])

abbrev pub rollback : Item
rollback = item.Plain command.Rollback

-- a transaction is rolled back, and then a client joins
abbrev pub rolled_back_before_join : Scenario
rolled_back_before_join = scenario 1 0 (numbered_server 1 ∷ []) (from_moment 2 (join (numbered_client 3)) ∷ [])
    (session_on "A" 1 (begin ∷ put_item "a" "1" ∷ rollback ∷ []) ∷ [])

-- an optimistic block that only writes a key of which there is a value
abbrev pub blind_write : Scenario
blind_write = scenario 1 0 (numbered_server 1 ∷ []) []
    (session_on "A" 1 (put_item "a" "1" ∷ begin_optimistic ∷ put_item "a" "2" ∷ commit ∷ []) ∷ [])

-- the deadline passes while the session sleeps
abbrev pub deadline_slept_over : Scenario
deadline_slept_over = scenario 1 0 (numbered_server 1 ∷ []) []
    (session_on "A" 1 (begin_within 2 ∷ put_item "a" "1" ∷ sleep 5 ∷ get "a" ∷ []) ∷ [])

-- a cache that does not run
abbrev pub idle_cache : Cache
idle_cache = record { name = codes "idle"; parts = 1; backups = 0; near = 0; first = false; «data» = false }

abbrev pub with_idle_cache : Scenario → Scenario
with_idle_cache s = record s { caches = s.caches ++ idle_cache ∷ [] }

abbrev pub get_idle : String → Item
get_idle text = item.Plain (command.Get (record { cache = 1; text = codes text }))

-- and then it asks for a key of a cache that does not run
abbrev pub deadline_and_idle_cache : Scenario
deadline_and_idle_cache = with_idle_cache (scenario 1 0 (numbered_server 1 ∷ []) []
    (session_on "A" 1 (begin_within 2 ∷ put_item "a" "1" ∷ sleep 5 ∷ get_idle "b" ∷ []) ∷ []))

-- a link is held
abbrev pub one_hold : Scenario
one_hold = scenario 1 0 (numbered_server 1 ∷ numbered_server 2 ∷ []) (from_moment 1 (hold 1 2) ∷ []) []

-- The forgeries.

-- the value that the transaction finds, and that it is told, is another one
abbrev pub finds_two : Forgery
finds_two (note.Sent to (msg.LockOk t key (Some (value, ver)))) = note.Sent to (msg.LockOk t key (Some (codes "2", ver))) ∷ []
finds_two (note.Deliver from (msg.LockOk t key (Some (value, ver)))) =
    note.Deliver from (msg.LockOk t key (Some (codes "2", ver))) ∷ []
finds_two (note.Answer session (answer.Found value)) = note.Answer session (answer.Found (codes "2")) ∷ []
finds_two r = r ∷ []

abbrev pub wrong_read : Journal
wrong_read = forged finds_two put_and_get

-- a commit is taken back
abbrev pub takes_back : Forgery
takes_back (note.Decide t true) = note.Decide t true ∷ note.Decide t false ∷ []
takes_back r = r ∷ []

abbrev pub commit_taken_back : Journal
commit_taken_back = forged takes_back put_and_get

-- the session is told another value than was found
abbrev pub tells_two : Forgery
tells_two (note.Answer session (answer.Found value)) = note.Answer session (answer.Found (codes "2")) ∷ []
tells_two r = r ∷ []

abbrev pub wrong_answer : Journal
wrong_answer = forged tells_two put_and_get

-- what was found for the transaction goes to another node
abbrev pub finds_elsewhere : Forgery
finds_elsewhere (note.Deliver from (msg.BackupPrepare t top shares primary entries)) =
    note.Deliver from (msg.LockOk t (plain_key "a") None) ∷ []
finds_elsewhere r = r ∷ []

abbrev pub find_gone_astray : Journal
find_gone_astray = forged_at 2 finds_elsewhere put_at_two

-- a transaction starts a second time
abbrev pub starts_twice : Forgery
starts_twice (note.Start t top) = note.Start t top ∷ note.Start t top ∷ []
starts_twice r = r ∷ []

abbrev pub second_start : Journal
second_start = forged starts_twice put_and_get

-- a rollback is never decided
abbrev pub stays_undecided : Forgery
stays_undecided (note.Decide t false) = []
stays_undecided r = r ∷ []

abbrev pub opened_too_early : Journal
opened_too_early = forged stays_undecided rolled_back_before_join

-- the lock is free as soon as the commit comes, and the write is applied after that
abbrev pub frees_first : Forgery
frees_first (note.Deliver from (msg.Finish t commit)) =
    note.Deliver from (msg.Finish t commit) ∷ note.Drop t (plain_key "a") ∷ []
frees_first r = r ∷ []

abbrev pub lock_free_too_early : Journal
lock_free_too_early = forged frees_first put_and_get

-- the backup leaves the write out
abbrev pub applies_nothing : Forgery
applies_nothing (note.Apply t top primary key new ver) = []
applies_nothing r = r ∷ []

abbrev pub write_left_out : Journal
write_left_out = forged_at 2 applies_nothing put_at_two

-- the backup keeps the write under another version
abbrev pub applies_later : Forgery
applies_later (note.Apply t top primary key new ver) = note.Apply t top primary key new (record ver { order = 7 }) ∷ []
applies_later r = r ∷ []

abbrev pub copies_differ : Journal
copies_differ = forged_at 2 applies_later put_at_two

-- who has to wait is given the lock
abbrev pub grants_at_once : Forgery
grants_at_once (note.Queue t key holder) = note.Grant t (version 1 0) key ∷ []
grants_at_once r = r ∷ []

abbrev pub two_holders : Journal
two_holders = forged grants_at_once one_waits

-- the report names an act before which nobody waited
abbrev pub at_no_act : Edge → Edge
at_no_act e = record e { act = 0 }

abbrev pub reports_too_early : Forgery
reports_too_early (note.Searched t edges) = note.Searched t (map at_no_act edges) ∷ []
reports_too_early r = r ∷ []

abbrev pub false_deadlock : Journal
false_deadlock = forged reports_too_early two_wait

-- a message comes twice
abbrev pub comes_twice : Forgery
comes_twice (note.Deliver from (msg.Prepared t)) =
    note.Deliver from (msg.Prepared t) ∷ note.Deliver from (msg.Prepared t) ∷ []
comes_twice r = r ∷ []

abbrev pub message_twice : Journal
message_twice = forged comes_twice put_and_get

-- the new map gives all partitions to the client
abbrev pub owned_by_node : ℕ → Row → Row
owned_by_node number row = record { owners = numbered_node number ∷ []; movers = [] }

abbrev pub gives_to_client : Forgery
gives_to_client (note.Install m) = note.Install (record m { rows = map (owned_by_node 3) m.rows }) ∷ []
gives_to_client r = r ∷ []

abbrev pub wrong_owners : Journal
wrong_owners = forged gives_to_client rolled_back_before_join

-- Forged causes.

abbrev pub put_at_first : CacheVersion
put_at_first = record { top = version 1 0; order = 1; node = numbered_node 1 }

abbrev pub never_changed : Fault
never_changed = fault.Check (fail.Changed (plain_key "a") absent_version put_at_first)

-- the write of a key that was never read is called changed
abbrev pub calls_changed : Forgery
calls_changed (note.Decide t commit) = if nat_eq t.number 2
    then note.Fault t never_changed ∷ note.Decide t false ∷ []
    else note.Decide t commit ∷ []
calls_changed (note.Apply t top primary key new ver) = if nat_eq t.number 2
    then []
    else note.Apply t top primary key new ver ∷ []
calls_changed (note.Answer session answer.Committed) = note.Answer session (answer.Failed never_changed) ∷ []
calls_changed r = r ∷ []

abbrev pub changed_without_read : Journal
changed_without_read = forged calls_changed blind_write

-- the search never finds a circle
abbrev pub finds_no_circle : Forgery
finds_no_circle (note.Searched t edges) = note.Searched t [] ∷ []
finds_no_circle (note.Fault t fault.Deadlock) = note.Fault t fault.Timeout ∷ []
finds_no_circle (note.Answer session (answer.Failed fault.Deadlock)) = note.Answer session (answer.Failed fault.Timeout) ∷ []
finds_no_circle r = r ∷ []

abbrev pub circle_overlooked : Journal
circle_overlooked = forged finds_no_circle two_wait

-- the search is called a deadlock where somebody only waits
abbrev pub finds_deadlock : Forgery
finds_deadlock (note.Fault t fault.Timeout) = note.Fault t fault.Deadlock ∷ []
finds_deadlock (note.Answer session (answer.Failed fault.Timeout)) = note.Answer session (answer.Failed fault.Deadlock) ∷ []
finds_deadlock r = r ∷ []

abbrev pub deadlock_without_report : Journal
deadlock_without_report = forged finds_deadlock one_waits

-- a fault that was not told yet is passed over
abbrev pub answers_instead : Answer → Forgery
answers_instead a (note.Answer session (answer.Failed why)) = note.Answer session a ∷ []
answers_instead a r = r ∷ []

abbrev pub value_for_fault : Journal
value_for_fault = forged (answers_instead (answer.Found (codes "1"))) deadline_slept_over

abbrev pub no_cache_for_fault : Journal
no_cache_for_fault = forged (answers_instead (answer.NoCache 1)) deadline_and_idle_cache

-- a step that can be done is refused
abbrev pub refuses_hold : Forgery
refuses_hold (note.Planned place None) = note.Planned place (Some refusal.NotIn) ∷ []
refuses_hold r = r ∷ []

abbrev pub hold_refused : Journal
hold_refused = forged refuses_hold one_hold
