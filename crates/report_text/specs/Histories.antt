-- The history: the commits in the order of their decisions; and the map after it.
use Rattle.std.specs.List.{list_any}
use Rattle.std.specs.Prelude.{Bool, List, None, Option, Some, [], codes, decimal, filter, if◌then◌else◌, length, nat_eq, ℕ, ◌++◌, ◌+◌, ◌∷◌}
use Rattle.part_model.specs.Directory.{first_top, running_after, running_from, version_after}
use Rattle.part_model.specs.Orders.{is_lower_top}
use Rattle.ignite_types.specs.declared.journal.TopoEvent.{TopoEvent}
use Rattle.ignite_types.specs.declared.names.TopVer.{TopVer}
use Rattle.ignite_types.specs.declared.scenario.Scenario.{Scenario}
use Rattle.ignite_types.specs.declared.text.Key.{Key}
use Rattle.report_text.specs.Answers.{top_text, tx_text}
use Rattle.report_text.specs.Plans.{count_line}
use Rattle.scen_print.specs.Items.{key_text}
use Rattle.tx_model.specs.History.{Map, map_after_commits}
use Rattle.tx_model.specs.declared.history.CommitEntry.{CommitEntry}

-- a value, or `~` for an absent or a removed one
abbrev pub value_text : Option (List ℕ) → List ℕ
value_text None = codes "~"
value_text (Some value) = value

-- `KEY=VALUE`
abbrev pub change_text : Scenario → Key × Option (List ℕ) → List ℕ
change_text s change = key_text s change.0 ++ (61 ∷ value_text change.1)

-- the changes after the first, each behind a comma
abbrev pub more_changes : Scenario → List (Key × Option (List ℕ)) → List ℕ
more_changes s [] = []
more_changes s (c ∷ cs) = (44 ∷ change_text s c) ++ more_changes s cs

-- the changes joined by commas, `-` where there are none
abbrev pub changes_text : Scenario → List (Key × Option (List ℕ)) → List ℕ
changes_text s [] = codes "-"
changes_text s (c ∷ cs) = change_text s c ++ more_changes s cs

-- `T TOP`
abbrev pub commit_name : Scenario → CommitEntry → List ℕ
commit_name s e = tx_text s e.tx ++ (32 ∷ top_text e.top)

-- ` reads R writes W`
abbrev pub footprint_text : Scenario → CommitEntry → List ℕ
footprint_text s e =
    (codes " reads " ++ changes_text s e.reads) ++ (codes " writes " ++ changes_text s e.writes)

-- `i T TOP reads R writes W`
abbrev pub history_line : Scenario → ℕ → CommitEntry → List ℕ
history_line s i e = (decimal i ++ (32 ∷ commit_name s e)) ++ (footprint_text s e ++ 10 ∷ [])

-- the lines of the commits, the first of which stands at this place
abbrev pub history_lines : Scenario → ℕ → List CommitEntry → List ℕ
history_lines s place [] = []
history_lines s place (e ∷ es) = history_line s (place + 1) e ++ history_lines s (place + 1) es

abbrev pub history_part : Scenario → List CommitEntry → List ℕ
history_part s commits = count_line (codes "history") (length commits) ++ history_lines s 0 commits

-- The map after the history.

-- the caches that run in the version `top`: these, and what later events up to it start and stop, `now` being the
-- version before those
abbrev pub running_in : TopVer → TopVer → List ℕ → List TopoEvent → List ℕ
running_in top now running [] = running
running_in top now running (event ∷ events) =
    if is_lower_top top (version_after now event)
    then running
    else running_in top (version_after now event) (running_after running event) events

-- the caches of a version
abbrev pub caches_of : Scenario → List TopoEvent → TopVer → List ℕ
caches_of s events top = running_in top first_top (running_from 0 s.caches) events

abbrev pub is_shown : List ℕ → Key × List ℕ → Bool
is_shown running entry = list_any (nat_eq entry.0.cache) running

-- the entries of these caches
abbrev pub shown_entries : List ℕ → Map → Map
shown_entries running m = filter (is_shown running) m

abbrev pub map_line : Scenario → Key × List ℕ → List ℕ
map_line s entry = key_text s entry.0 ++ ((61 ∷ entry.1) ++ 10 ∷ [])

abbrev pub map_lines : Scenario → Map → List ℕ
map_lines s [] = []
map_lines s (e ∷ es) = map_line s e ++ map_lines s es

abbrev pub map_part : Scenario → Map → List ℕ
map_part s m = count_line (codes "map") (length m) ++ map_lines s m

-- the map after the commits, of the keys of these caches alone
abbrev pub map_of_commits : Scenario → List ℕ → List CommitEntry → List ℕ
map_of_commits s running commits = map_part s (shown_entries running (map_after_commits [] commits))
