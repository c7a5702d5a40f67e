-- The sessions: what each one's items were answered.
use Rattle.std.specs.Prelude.{List, None, Option, Some, [], codes, decimal, if◌then◌else◌, slice_get, ℕ, ◌++◌, ◌+◌, ◌==◌, ◌∷◌}
use Rattle.part_model.specs.Script.{advance, no_progress}
use Rattle.part_model.specs.declared.script.Progress.{Progress}
use Rattle.part_model.specs.declared.script.Told.{Told}
use Rattle.ignite_types.specs.declared.answer.Answer.{Answer}
use Rattle.ignite_types.specs.declared.scenario.Item.{Item}
use Rattle.ignite_types.specs.declared.scenario.Scenario.{Scenario}
use Rattle.ignite_types.specs.declared.scenario.Session.{Session}
use Rattle.report_text.specs.Answers.{item_told_text}
use Rattle.report_text.specs.declared.digest.Given.{Given}
use Rattle.scen_print.specs.Items.{item_text}
use Rattle.tx_model.specs.declared.outlook.Standing.{Standing}
use Rattle.part_model.specs.declared.script.Told.TheVariants as told
use Rattle.tx_model.specs.declared.outlook.Standing.TheVariants as standing

-- the answers to the session of this number
abbrev pub answers_given_to : ℕ → List Given → List Answer
answers_given_to number [] = []
answers_given_to number (given ∷ more) =
    if given.session == number then given.answer ∷ answers_given_to number more
    else answers_given_to number more

-- what an answer tells of the item at hand; past the script it is that of the close
abbrev pub told_by : List Item → Progress → Answer → Option Item → List Told
told_by script p answer None = told.Plain answer ∷ []
told_by script p answer (Some item) = (advance script p answer).told

-- what the items, and the close behind them, are answered
abbrev pub all_told : List Item → Progress → List Answer → List Told
all_told script p [] = []
all_told script p (answer ∷ answers) =
    told_by script p answer (slice_get script p.place)
    ++ all_told script (advance script p answer).progress answers

-- the item that is answered: past the script it is the close of the session
abbrev pub answered_item : Scenario → Option Item → List ℕ
answered_item s None = codes "close"
answered_item s (Some item) = item_text s item

-- `k ITEM: ANSWER`
abbrev pub told_line : Scenario → ℕ → Option Item → Told → List ℕ
told_line s k item told =
    (decimal k ++ (32 ∷ answered_item s item)) ++ ((codes ": " ++ item_told_text s told) ++ 10 ∷ [])

-- the lines of what was told, the first of which is of the item at this place
abbrev pub session_told_lines : Scenario → List Item → ℕ → List Told → List ℕ
session_told_lines s script place [] = []
session_told_lines s script place (x ∷ xs) =
    told_line s (place + 1) (slice_get script place) x ++ session_told_lines s script (place + 1) xs

-- `session NAME on N`
abbrev pub session_head_line : Session → List ℕ
session_head_line session =
    (codes "session " ++ session.name) ++ ((codes " on " ++ decimal session.node.0) ++ 10 ∷ [])

-- `lost: node N`, where the session was lost with its node
abbrev pub lost_line : Option Standing → List ℕ
lost_line (Some (standing.Lost node)) = codes "lost: node " ++ (decimal node.0 ++ 10 ∷ [])
lost_line _ = []

-- a session: its line, a line for each answer, and whether it was lost
abbrev pub session_lines : Scenario → Session → List Answer → Option Standing → List ℕ
session_lines s session answers stands =
    session_head_line session
    ++ (session_told_lines s session.commands 0 (all_told session.commands no_progress answers) ++ lost_line stands)

-- the sessions, the first of which stands at this place
abbrev pub sessions_lines : Scenario → List Given → List Standing → ℕ → List Session → List ℕ
sessions_lines s given standings place [] = []
sessions_lines s given standings place (x ∷ xs) =
    session_lines s x (answers_given_to (place + 1) given) (slice_get standings place)
    ++ sessions_lines s given standings (place + 1) xs
