-- The report of a journal.
use Rattle.std.specs.Prelude.{Bool, List, codes, ℕ, ◌++◌}
use Rattle.ignite_types.specs.declared.journal.Journal.{Journal}
use Rattle.ignite_types.specs.declared.scenario.Scenario.{Scenario}
use Rattle.report_text.specs.Digests.{digest}
use Rattle.report_text.specs.Endings.{end_status, stalled_part, top_line}
use Rattle.report_text.specs.Histories.{caches_of, history_part, map_of_commits}
use Rattle.report_text.specs.Plans.{count_line, deadlock_part, plan_part}
use Rattle.report_text.specs.Sessions.{sessions_lines}
use Rattle.report_text.specs.Traces.{trace_part}
use Rattle.report_text.specs.declared.digest.Digest.{Digest}
use Rattle.tx_model.specs.History.{commits_of}
use Rattle.tx_model.specs.Outlooks.{outlook_of}
use Rattle.tx_model.specs.declared.history.CommitEntry.{CommitEntry}
use Rattle.tx_model.specs.declared.outlook.Outlook.{Outlook}

-- the sessions, the plan and the deadlocks
abbrev pub first_parts : Scenario → Digest → Outlook → List ℕ
first_parts s d shown =
    sessions_lines s d.answers shown.standings 0 s.sessions
    ++ (plan_part s d.steps ++ deadlock_part s d.deadlocks)

-- the history and the map after it
abbrev pub middle_parts : Scenario → Digest → Outlook → List CommitEntry → List ℕ
middle_parts s d shown commits =
    history_part s commits ++ map_of_commits s (caches_of s shown.events d.top) commits

-- the highest version, what the sessions wait for, the trace and the end
abbrev pub last_parts : Journal → Digest → Outlook → Bool → List ℕ
last_parts j d shown trace =
    (top_line d.top ++ stalled_part j.scenario shown.standings j.end)
    ++ (trace_part j.scenario j.groups trace ++ count_line (codes "end") (end_status j.end))

abbrev pub report_by : Journal → Digest → Outlook → List CommitEntry → Bool → List ℕ
report_by j d shown commits trace =
    first_parts j.scenario d shown
    ++ (middle_parts j.scenario d shown commits ++ last_parts j d shown trace)

-- the report of a journal with these commits, whose world shows this at its end
abbrev pub report : Journal → Outlook → List CommitEntry → Bool → List ℕ
report j shown commits trace = report_by j (digest j.groups) shown commits trace

-- the report of a journal
abbrev pub report_of : Journal → Bool → List ℕ
report_of j trace = report j (outlook_of j) (commits_of j) trace
