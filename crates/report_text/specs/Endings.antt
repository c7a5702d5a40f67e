-- How a run ended: the highest version, what keeps the sessions waiting, and the status.
use Rattle.std.specs.Prelude.{Bool, List, None, Option, Some, [], codes, false, if◌then◌else◌, slice_get, true, ℕ, ◌++◌, ◌+◌, ◌∷◌}
use Rattle.ignite_types.specs.declared.journal.End.{End}
use Rattle.ignite_types.specs.declared.names.NodeId.{NodeId}
use Rattle.ignite_types.specs.declared.names.TopVer.{TopVer}
use Rattle.ignite_types.specs.declared.names.TxId.{TxId}
use Rattle.ignite_types.specs.declared.scenario.Scenario.{Scenario}
use Rattle.ignite_types.specs.declared.scenario.Session.{Session}
use Rattle.report_text.specs.Answers.{nodes_text, top_text, tx_text}
use Rattle.report_text.specs.Plans.{wait_text}
use Rattle.tx_model.specs.declared.outlook.Standing.{Standing}
use Rattle.ignite_types.specs.declared.journal.End.TheVariants as end
use Rattle.tx_model.specs.declared.outlook.Standing.TheVariants as standing

abbrev pub top_line : TopVer → List ℕ
top_line top = codes "top " ++ (top_text top ++ 10 ∷ [])

-- `waits for version A.B held by T`
abbrev pub unopened_text : Scenario → TopVer → TxId → List ℕ
unopened_text s top tx = (codes "waits for version " ++ top_text top) ++ (codes " held by " ++ tx_text s tx)

-- `waits for link N N`
abbrev pub held_text : NodeId → NodeId → List ℕ
held_text from to = nodes_text (codes "waits for link ") from to

abbrev pub waits_text : Scenario → Standing → List ℕ
waits_text s (standing.Queued node wait) = wait_text s node wait
waits_text s (standing.Unopened top tx) = unopened_text s top tx
waits_text s (standing.Held from to) = held_text from to
waits_text s _ = codes "waits"

-- it has not ended, and was not lost
abbrev pub has_not_ended : Standing → Bool
has_not_ended standing.Ended = false
has_not_ended (standing.Lost node) = false
has_not_ended _ = true

-- `stalled NAME: `, and what it waits for
abbrev pub open_line : Scenario → Session → Standing → List ℕ
open_line s session stands =
    (codes "stalled " ++ session.name) ++ ((codes ": " ++ waits_text s stands) ++ 10 ∷ [])

abbrev pub stalled_line : Scenario → Session → Option Standing → List ℕ
stalled_line s session None = []
stalled_line s session (Some stands) = if has_not_ended stands then open_line s session stands else []

-- the lines of the sessions, the first of which stands at this place
abbrev pub stalled_lines : Scenario → List Standing → ℕ → List Session → List ℕ
stalled_lines s standings place [] = []
stalled_lines s standings place (x ∷ xs) =
    stalled_line s x (slice_get standings place) ++ stalled_lines s standings (place + 1) xs

-- only a stalled run has them
abbrev pub stalled_part : Scenario → List Standing → End → List ℕ
stalled_part s standings end.Stalled = stalled_lines s standings 0 s.sessions
stalled_part s standings _ = []

-- the status of a run that ended so
abbrev pub end_status : End → ℕ
end_status end.AllEnded = 0
end_status end.Stalled = 1
end_status end.StepLimit = 4
end_status end.Memory = 5
