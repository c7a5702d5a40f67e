-- What is proved of the journal of every legal run of a good scenario, whatever the order of its events: one field a promise.
-- The statements of journal_statements have their names there; docs/PROMISES.md says them in plain words.
use Rattle.std.specs.Prelude.{true, ◌≡◌}
use Rattle.commit_laws.specs.CommitLaws.{applies_are_committed}
use Rattle.ignite_types.specs.declared.journal.Journal.{Journal}
use Rattle.journal_statements.specs.LinkRecords.{links}
use Rattle.journal_statements.specs.MapLaws.{one_coordinator, opened_when_installed, owners_left, switches_claimed}
use Rattle.journal_statements.specs.Maps.{maps}
use Rattle.journal_statements.specs.Refusals.{refusals_fit}
use Rattle.journal_statements.specs.Told.{finds_reach_starters}
use Rattle.journal_statements.specs.Versions.{commits_stand}
use Rattle.journal_statements.specs.Waits.{one_holder}
use Rattle.map_laws.specs.MapLaws.{highest_bases, rising_maps}
use Rattle.owner_laws.specs.OwnerLaws.{LocksAreTokens, OwnsItsKeys, topology_stands}
use Rattle.placement_laws.specs.PlacementLaws.{held_by_members}
use Rattle.run_laws.specs.Staying.{ClocksAgree}
use Rattle.scenes.specs.EachRun.{last_scene}
use Rattle.told_laws.specs.ToldLaws.{starters_ask}
use Rattle.topology_laws.specs.TopologyLaws.{OpensOnce, one_map, opens_after_all}
use Rattle.vote_laws.specs.VoteLaws.{EndsStand, VotesStand}
use Rattle.transaction_laws.specs.TransactionLaws.{commits_stand_or_lost, decided_once, has_no_loss, recovered_after_loss, rising_names, started_once}

pub record RunPromises (j : Journal) : Type 0 where
  -- Messages and locks.
  -- each message that a node takes is the next one sent on its link; none is taken on a held link, or from or at a lost node
  pub links : links j ≡ true
  -- at most one transaction holds a key at a node
  pub one_holder : one_holder j ≡ true
  -- Topology versions and maps.
  -- a map is the one of its version, or the next map of one Single from each member, as its oldest member was brought them;
  -- there, and in the map that the run begins with, a partition has an owner exactly where its cache is one of the version
  pub maps : maps j ≡ true
  -- all maps of one version that nodes install are one map
  pub one_map : one_map j ≡ true
  -- the Singles of a version's first map have a map no lower than any that a node which is not lost has installed
  pub highest_bases : highest_bases j ≡ true
  -- each map that a node installs has a higher version than those before it there
  pub rising_maps : rising_maps j ≡ true
  -- where a version is opened each of its members is lost or has installed its map
  pub opens_after_all : opens_after_all j ≡ true
  pub opened_when_installed : opened_when_installed j ≡ true
  -- the map of a version is handed out, and its opening told, by the version's oldest member alone; the map is the
  -- installed one
  pub one_coordinator : one_coordinator j ≡ true
  -- in the highest map that is installed at a node which is not lost each partition that has owners has one that is not lost
  pub owners_left : owners_left j ≡ true
  -- all owners and movers of a map are members of its version
  pub held_by_members : held_by_members j ≡ true
  -- owners switch late only where each mover of the highest map installed has told that its copies are full
  pub switches_claimed : switches_claimed j ≡ true
  -- a loss is refused exactly where its node is not in, or where the highest map that a survivor has installed would keep a
  -- partition without an owner; no other step of the plan is refused
  pub refusals_fit : refusals_fit j ≡ true
  -- no node opens a version twice
  pub opens_once : OpensOnce j
  -- Transactions.
  -- a starter decides each of its transactions at most once
  pub decided_once : decided_once j ≡ true
  -- where another node than its starter decides a transaction, the starter is lost
  pub recovered_after_loss : recovered_after_loss j ≡ true
  -- a rollback decision stands behind a commit decision only where the starter is lost
  pub commits_stand_or_lost : commits_stand_or_lost j ≡ true
  -- no rollback decision stands behind a commit decision, where no step of the plan loses a node
  pub commits_stand_without_losses : has_no_loss j.scenario ≡ true → commits_stand j ≡ true
  -- a transaction starts once, at its own node, in a version that is open there
  pub started_once : started_once j ≡ true
  -- the numbers of a session's transactions rise, in the order in which they start
  pub rising_names : rising_names j ≡ true
  -- wherever one is sent or taken: a request comes from its transaction's starter, and the answer goes to it
  pub starters_ask : starters_ask j ≡ true
  -- what is found for a transaction is delivered to its starter
  pub finds_reach_starters : finds_reach_starters j ≡ true
  -- each write that a node applies stands behind a commit decision of its transaction
  pub applies_are_committed : applies_are_committed j ≡ true
  -- where topology stands still: at the end an undecided pessimistic transaction owns each key that it has accessed, or waits
  -- for it; its Lock of a key, its place in the key's queue and its LockOk are one token
  pub keys_are_owned_in_still_topology : topology_stands j.scenario ≡ true → OwnsItsKeys (last_scene j)
  pub locks_are_tokens_in_still_topology : topology_stands j.scenario ≡ true → LocksAreTokens (last_scene j)
  -- there too: at the end each primary that an undecided transaction's starter has counted has its own share Prepared, and so
  -- has each other holder that the starter names; what ends a transaction carries its starter's decision, and a commit meets a
  -- Prepared share
  pub votes_stand_in_still_topology : topology_stands j.scenario ≡ true → VotesStand (last_scene j)
  pub ends_are_decided_in_still_topology : topology_stands j.scenario ≡ true → EndsStand (last_scene j)
  -- The clock.
  -- the clock of each node that is alive at the end is the directory's
  pub clocks_agree : ClocksAgree j.scenario j.groups
