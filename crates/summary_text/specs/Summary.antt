-- The summary of a run whose scenario was made up.
use Rattle.std.specs.Fmt.{signed_decimal}
use Rattle.std.specs.Int.{saturate_signed, w64}
use Rattle.std.specs.Prelude.{Bool, List, None, Option, Some, [], codes, decimal, false, filter, if◌then◌else◌, length, not, pos, true, ℕ, ℤ, ◌++◌, ◌+ℤ◌, ◌+◌, ◌∷◌}
use Rattle.part_model.specs.Numbers.{number_of}
use Rattle.part_model.specs.Script.{no_progress}
use Rattle.part_model.specs.declared.script.Told.{Told}
use Rattle.part_model.specs.declared.script.Told.TheVariants as told
use Rattle.ignite_types.specs.declared.answer.Answer.TheVariants as answer
use Rattle.ignite_types.specs.declared.journal.Journal.{Journal}
use Rattle.ignite_types.specs.declared.scenario.Command.TheVariants.{Commit}
use Rattle.ignite_types.specs.declared.scenario.Item.{Item}
use Rattle.ignite_types.specs.declared.scenario.Item.TheVariants.{Plain}
use Rattle.ignite_types.specs.declared.scenario.Session.{Session}
use Rattle.report_text.specs.Digests.{digest}
use Rattle.report_text.specs.Endings.{end_status, top_line}
use Rattle.report_text.specs.Histories.{caches_of, shown_entries}
use Rattle.report_text.specs.Plans.{count_line}
use Rattle.report_text.specs.Sessions.{all_told, answers_given_to}
use Rattle.report_text.specs.declared.digest.Digest.{Digest}
use Rattle.report_text.specs.declared.digest.Given.{Given}
use Rattle.summary_text.specs.declared.made.Made.{Made}
use Rattle.tx_model.specs.History.{Map, map_after_commits}
use Rattle.tx_model.specs.declared.history.CommitEntry.{CommitEntry}
use Rattle.tx_model.specs.declared.outlook.Outlook.{Outlook}

abbrev pub is_commit_item : Item → Bool
is_commit_item (Plain Commit) = true
is_commit_item _ = false

abbrev pub is_committed_told : Told → Bool
is_committed_told (told.Plain answer.Committed) = true
is_committed_told _ = false

-- what the commit commands among these items were told
abbrev pub commits_told : List Item → List Told → List Told
commits_told [] tolds = []
commits_told (x ∷ xs) [] = []
commits_told (x ∷ xs) (t ∷ ts) = if is_commit_item x then t ∷ commits_told xs ts else commits_told xs ts

-- what the commit commands of the sessions were told, the first of which stands at this place
abbrev pub sessions_told : List Given → ℕ → List Session → List Told
sessions_told given place [] = []
sessions_told given place (x ∷ xs) =
    commits_told x.commands (all_told x.commands no_progress (answers_given_to (place + 1) given))
    ++ sessions_told given (place + 1) xs

abbrev pub committed_count : List Told → ℕ
committed_count tolds = length (filter is_committed_told tolds)

abbrev pub failed : List Told → ℕ
failed tolds = length (filter (λ t. not (is_committed_told t)) tolds)

-- a number more, where the value is one; the sum stands still at the ends of 64 bits
abbrev pub with_number : ℤ → Option ℤ → ℤ
with_number sum None = sum
with_number sum (Some n) = saturate_signed w64 (sum +ℤ n)

abbrev pub total_from : ℤ → Map → ℤ
total_from sum [] = sum
total_from sum (e ∷ es) = total_from (with_number sum (number_of e.1)) es

-- the sum of the values that are numbers
abbrev pub total : Map → ℤ
total m = total_from (pos 0) m

abbrev pub number_text : List ℕ → ℕ → List ℕ
number_text word number = word ++ decimal number

-- `made sessions S txs T`
abbrev pub sizes_text : Made → List ℕ
sizes_text made = number_text (codes "made sessions ") made.sessions ++ number_text (codes " txs ") made.txs

-- `made sessions S txs T seed N`
abbrev pub made_line : Made → List ℕ
made_line made = sizes_text made ++ (number_text (codes " seed ") made.seed ++ 10 ∷ [])

abbrev pub summary_told_lines : List Told → List ℕ
summary_told_lines tolds =
    count_line (codes "committed") (committed_count tolds) ++ count_line (codes "failed") (failed tolds)

abbrev pub total_line : Map → List ℕ
total_line m = codes "total " ++ (signed_decimal (total m) ++ 10 ∷ [])

abbrev pub summary_by : Journal → Made → Digest → Outlook → List CommitEntry → List ℕ
summary_by j made d shown commits =
    (made_line made ++ summary_told_lines (sessions_told d.answers 0 j.scenario.sessions))
    ++ (total_line (shown_entries (caches_of j.scenario shown.events d.top) (map_after_commits [] commits))
    ++ (top_line d.top ++ count_line (codes "end") (end_status j.end)))

-- the summary of a journal with these commits, whose scenario was made so and whose world shows this at its end
abbrev pub summary : Journal → Made → Outlook → List CommitEntry → List ℕ
summary j made shown commits = summary_by j made (digest j.groups) shown commits
