-- Forgeries that keep to no law beside the headline.
use Rattle.std.specs.Prelude.{[], map, true, ◌++◌, ◌-◌, ◌∷◌}
use Rattle.ignite_types.specs.declared.journal.Journal.{Journal}
use Rattle.ignite_types.specs.declared.placement.PartMap.{PartMap}
use Rattle.ignite_types.specs.declared.scenario.Scenario.{Scenario}
use Rattle.forged_runs.specs.Forgeries.{frees_first, owned_by_node, put_and_get, put_at_two, rolled_back_before_join, two_wait}
use Rattle.forged_runs.specs.Forging.{Forgery, forged, forged_at, honest}
use Rattle.journal_statements.specs.ShareLaws.{HeldAt}
use Rattle.machine_runs.specs.Words.{from_moment, join, numbered_node, numbered_server, plain_key, put_item, scenario, session_on, tx, version}
use Rattle.ignite_types.specs.declared.placement.ShareState.TheVariants.{Prepared}
use Rattle.ignite_types.specs.declared.answer.Answer.TheVariants as answer
use Rattle.ignite_types.specs.declared.journal.End.TheVariants as end
use Rattle.ignite_types.specs.declared.message.Message.TheVariants as msg
use Rattle.ignite_types.specs.declared.journal.Rec.TheVariants as note

-- a server joins, fills its copy, and takes the partition over
abbrev pub server_joins : Scenario
server_joins = scenario 1 0 (numbered_server 1 ∷ []) (from_moment 1 (join (numbered_server 3)) ∷ []) []

-- what is found does not come, and the session is told that nothing was there
abbrev pub finds_nothing : Forgery
finds_nothing (note.Deliver from (msg.LockOk t key found)) = []
finds_nothing (note.Answer session (answer.Found value)) = note.Answer session answer.Absent ∷ []
finds_nothing r = r ∷ []

abbrev pub find_without_answer : Journal
find_without_answer = forged finds_nothing put_and_get

-- the coordinator sends another map than it has installed
abbrev pub sends_other_map : Forgery
sends_other_map (note.Sent to (msg.Full m)) = note.Sent to (msg.Full (record m { rows = map (owned_by_node 3) m.rows })) ∷ []
sends_other_map r = r ∷ []

abbrev pub other_map_sent : Journal
other_map_sent = forged sends_other_map rolled_back_before_join

-- the client that joins installs nothing
abbrev pub installs_nothing : Forgery
installs_nothing (note.Install m) = []
installs_nothing r = r ∷ []

abbrev pub opened_before_installed : Journal
opened_before_installed = forged_at 3 installs_nothing rolled_back_before_join

-- the last owner is lost once the client has the map
abbrev pub loses_last_owner : Forgery
loses_last_owner (note.Install m) = note.Install m ∷ note.Lost (numbered_node 1) ∷ []
loses_last_owner r = r ∷ []

abbrev pub no_owner_left : Journal
no_owner_left = forged_at 3 loses_last_owner rolled_back_before_join

-- the claim to be complete is made under an older map
abbrev pub claims_older : Forgery
claims_older (note.Deliver from (msg.Complete top)) = note.Deliver from (msg.Complete (version 1 0)) ∷ []
claims_older r = r ∷ []

abbrev pub claim_of_older_map : Journal
claim_of_older_map = forged claims_older server_joins

-- the primary drops the key while the backup's share is Prepared
abbrev pub dropped_before_backup : Journal
dropped_before_backup = forged frees_first put_at_two

-- the commit is decided when the primary takes the Prepare
abbrev pub decides_first : Forgery
decides_first (note.Deliver from (msg.Prepare t top mode shares wanted writes)) =
    note.Deliver from (msg.Prepare t top mode shares wanted writes) ∷ note.Decide t true ∷ []
decides_first r = r ∷ []

abbrev pub decided_before_prepared : Journal
decided_before_prepared = forged decides_first put_at_two

-- a later map is installed at the backup while it takes its share
abbrev pub later_map : PartMap
later_map = record { top = version 2 0; parts = 1 ∷ []; rows = record { owners = numbered_node 2 ∷ []; movers = [] } ∷ [] }

abbrev pub installs_later : Forgery
installs_later (note.Deliver from (msg.BackupPrepare t top shares primary entries)) =
    note.Deliver from (msg.BackupPrepare t top shares primary entries) ∷ note.Install later_map ∷ []
installs_later r = r ∷ []

abbrev pub map_above_share : Journal
map_above_share = forged_at 2 installs_later put_at_two

-- one of the locks of the circle is free when the circle is reported
abbrev pub frees_in_circle : Forgery
frees_in_circle (note.Searched t edges) = note.Drop (tx 1 2 1) (plain_key "b") ∷ note.Searched t edges ∷ []
frees_in_circle r = r ∷ []

abbrev pub circle_of_no_moment : Journal
circle_of_no_moment = forged frees_in_circle two_wait

-- nobody is answered, and the run is called stalled
abbrev pub answers_nobody : Forgery
answers_nobody (note.Answer session a) = []
answers_nobody r = r ∷ []

abbrev pub stalled_for_nothing : Journal
stalled_for_nothing = record (forged answers_nobody put_and_get) { end = end.Stalled }

-- nothing has happened yet, and the run is called stalled
abbrev pub stalled_at_once : Journal
stalled_at_once = record (honest put_and_get) { groups = []; end = end.Stalled }

-- the backup's share is still Prepared when the primary has forgotten its own: no change of records makes a journal of this,
-- since shares are the world's
abbrev pub prepared_at_second : HeldAt
prepared_at_second = record {
  tx = tx 1 1 1;
  holder = numbered_node 2;
  primary = numbered_node 1;
  top = version 1 0;
  state = Prepared;
  shares = [];
}

-- each event comes twice
abbrev pub too_many_events : Journal
too_many_events = record (honest put_and_get) { groups = (honest put_and_get).groups ++ (honest put_and_get).groups }

-- the later write has the lower version
abbrev pub two_puts : Scenario
two_puts = scenario 1 0 (numbered_server 1 ∷ []) [] (session_on "A" 1 (put_item "a" "1" ∷ put_item "a" "2" ∷ []) ∷ [])

abbrev pub turns_orders : Forgery
turns_orders (note.Apply t top primary key new ver) =
    note.Apply t top primary key new (record ver { order = 9 - ver.order }) ∷ []
turns_orders r = r ∷ []

abbrev pub versions_shrink : Journal
versions_shrink = forged turns_orders two_puts
