-- What the journal of a run shows, on one page. docs/PROMISES.md has a journal that keeps each statement, and one that breaks
-- it.
use Rattle.std.specs.Prelude.{Bool, Err, Ok, Result, false, true, ◌&&◌}
use Rattle.ignite_types.specs.declared.journal.Journal.{Journal}
use Rattle.journal_statements.specs.Applied.{full_sync}
use Rattle.journal_statements.specs.Causes.{causes}
use Rattle.tx_model.specs.History.{Map, commits_of, serial}
use Rattle.journal_statements.specs.LinkRecords.{links}
use Rattle.journal_statements.specs.Maps.{maps}
use Rattle.journal_statements.specs.SerialCopies.{copies}
use Rattle.journal_statements.specs.Told.{answers_told}
use Rattle.journal_statements.specs.Versions.{commits_stand, drained, one_version}
use Rattle.journal_statements.specs.Waits.{deadlocks_true, one_holder}
use Rattle.tx_model.specs.declared.history.BadRead.{BadRead}

abbrev pub is_read_whole : Result Map BadRead → Bool
is_read_whole (Ok m) = true
is_read_whole (Err bad) = false

-- the commits are one serial history of a plain map
abbrev pub is_serial : Journal → Bool
is_serial j = is_read_whole (serial (commits_of j))

-- The headline: the statements that the journal of each run keeps, whatever the order of its events.
--
-- is_serial       The committed transactions, in the order of their decisions, are one history of a plain map: each read is
--                 what the writes before it leave.
-- commits_stand   No rollback decision follows a commit decision.
-- answers_told    A session is told what its transaction reads and sums, and that it is committed only behind the decision.
-- one_version     A transaction starts once, at a version that is open at its starter, and all that is done for it names that
--                 one.
-- drained         A version opens only when each older transaction has ended, and nothing older follows.
-- full_sync       Committed writes are applied, as they were written, at each live holder before the session is told and
--                 before the locks are free.
-- copies          Where no commit is being applied each live owner's copy is the history's map, under the same versions
--                 everywhere.
-- one_holder      At most one transaction holds a key at a node.
-- deadlocks_true  A deadlock that is reported is a circle of waits, each of which stood where and when the report says.
-- links           Each message that is taken is the next one that was sent on its link; none is taken on a held link, or from
--                 or at a lost node.
-- maps            A version has one map: the next map of what the members told its oldest one, with owners just where caches
--                 run.
-- causes          Each answer is the refusal that is due, else what the command is defined to answer or a fault that has its
--                 cause; plan steps are refused just where they have to be.
abbrev pub headline : Journal → Bool
headline j =
    is_serial j && commits_stand j && answers_told j && one_version j && drained j && full_sync j && copies j && one_holder j
    && deadlocks_true j && links j && maps j && causes j
