-- The trace: the events of a run.
use Rattle.std.specs.Prelude.{Bool, List, [], codes, decimal, false, length, slice_get, true, ℕ, ◌++◌, ◌+◌, ◌-◌, ◌∷◌}
use Rattle.ignite_types.specs.declared.journal.Event.{Event}
use Rattle.ignite_types.specs.declared.journal.Group.{Group}
use Rattle.ignite_types.specs.declared.names.NodeId.{NodeId}
use Rattle.ignite_types.specs.declared.scenario.Scenario.{Scenario}
use Rattle.report_text.specs.Answers.{nodes_text, session_name, tx_text}
use Rattle.report_text.specs.Plans.{count_line}
use Rattle.ignite_types.specs.declared.journal.Event.TheVariants as event

-- a word and a session's name
abbrev pub of_session : Scenario → List ℕ → ℕ → List ℕ
of_session s word session = word ++ session_name (slice_get s.sessions (session - 1))

abbrev pub act_text : NodeId → NodeId → List ℕ
act_text id from = nodes_text (codes "act ") id from

abbrev pub event_text : Scenario → Event → List ℕ
event_text s (event.Answer session) = of_session s (codes "answer ") session
event_text s (event.Act id from) = act_text id from
event_text s (event.Send id) = codes "send " ++ decimal id.0
event_text s (event.See id) = codes "see " ++ decimal id.0
event_text s (event.Expire tx) = codes "expire " ++ tx_text s tx
event_text s (event.Minor id) = codes "minor " ++ decimal id.0
event_text s (event.Call session) = of_session s (codes "call ") session
event_text s event.Plan = codes "plan"
event_text s event.Tick = codes "tick"
event_text s (event.Memory id) = codes "memory " ++ decimal id.0

-- `i EVENT`
abbrev pub trace_line : Scenario → ℕ → Event → List ℕ
trace_line s i e = (decimal i ++ (32 ∷ event_text s e)) ++ 10 ∷ []

-- the lines of the groups' events, the first of which stands at this place
abbrev pub trace_lines : Scenario → ℕ → List Group → List ℕ
trace_lines s place [] = []
trace_lines s place (g ∷ gs) = trace_line s (place + 1) g.event ++ trace_lines s (place + 1) gs

-- only where it is asked for
abbrev pub trace_part : Scenario → List Group → Bool → List ℕ
trace_part s groups false = []
trace_part s groups true = count_line (codes "trace") (length groups) ++ trace_lines s 0 groups
