-- Drivers of the machine, and what a run comes to. The events are taken one after another from the possible ones, and each
-- event's group is what the machine makes of it.
use Rattle.std.specs.Prelude.{Bool, List, None, Option, Result, Some, [], if◌then◌else◌, length, map, slice_get, suc, zero, ℕ, ◌++◌, ◌+◌, ◌==◌, ◌∷◌}
use Rattle.ignite_types.specs.declared.answer.Answer.{Answer}
use Rattle.ignite_types.specs.declared.journal.Event.{Event}
use Rattle.ignite_types.specs.declared.journal.Group.{Group}
use Rattle.ignite_types.specs.declared.journal.Journal.{Journal}
use Rattle.ignite_types.specs.declared.journal.Rec.{Rec}
use Rattle.ignite_types.specs.declared.message.Edge.{Edge}
use Rattle.ignite_types.specs.declared.message.Message.{Message}
use Rattle.ignite_types.specs.declared.message.Stored.{Stored}
use Rattle.ignite_types.specs.declared.message.Wait.{Wait}
use Rattle.ignite_types.specs.declared.names.TxId.{TxId}
use Rattle.ignite_types.specs.declared.scenario.Scenario.{Scenario}
use Rattle.ignite_types.specs.declared.scenario.Session.{Session}
use Rattle.ignite_types.specs.declared.text.Key.{Key}
use Rattle.journal_statements.specs.Headline.{headline}
use Rattle.tx_model.specs.History.{Map, commits, records, serial}
use Rattle.tx_model.specs.Opening.{opening}
use Rattle.tx_model.specs.Runs.{world_after}
use Rattle.tx_model.specs.World.{Outcome, World, all_sessions_over, outcome, possible}
use Rattle.tx_model.specs.declared.history.BadRead.{BadRead}
use Rattle.tx_model.specs.declared.history.CommitEntry.{CommitEntry}
use Rattle.ignite_types.specs.declared.journal.End.TheVariants as end
use Rattle.ignite_types.specs.declared.journal.Rec.TheVariants as note
use Rattle.ignite_types.specs.declared.message.Message.TheVariants as msg

-- the event's group stands before those of the later events
abbrev pub then_group : Event → Outcome → (World → List Group) → List Group
then_group e o later = record { event = e; recs = o.recs } ∷ later o.world

abbrev pub from_event : World → Option Event → (World → List Group) → List Group
from_event w None later = []
from_event w (Some e) later = then_group e (outcome w e) later

-- each event the first possible one, as long as one is possible, but so many at most
abbrev pub groups : ℕ → World → List Group
groups zero w = []
groups (suc fuel) w = from_event w (slice_get (possible w) 0) (groups fuel)

-- first the events at these places of the possible ones
abbrev pub groups_at : List ℕ → ℕ → World → List Group
groups_at [] fuel w = groups fuel w
groups_at (place ∷ places) fuel w = from_event w (slice_get (possible w) place) (groups_at places fuel)

-- so many times the first event, then the one at this place
abbrev pub after_firsts : ℕ → ℕ → List ℕ
after_firsts zero place = place ∷ []
after_firsts (suc firsts) place = 0 ∷ after_firsts firsts place

abbrev pub answer_if : ℕ → ℕ → Answer → List Answer → List Answer
answer_if session to a later = if to == session then a ∷ later else later

-- what this session was answered
abbrev pub answers_of_session : ℕ → List Rec → List Answer
answers_of_session session [] = []
answers_of_session session (note.Answer to a ∷ rs) = answer_if session to a (answers_of_session session rs)
answers_of_session session (r ∷ rs) = answers_of_session session rs

-- what each of these sessions was answered, the first of which has this number
abbrev pub answers_from : ℕ → List Session → List Rec → List (List Answer)
answers_from number [] rs = []
answers_from number (s ∷ sessions) rs = answers_of_session number rs ∷ answers_from (number + 1) sessions rs

-- the decisions, whether made by the starter or in a recovery
abbrev pub decisions : List Rec → List (TxId × Bool)
decisions [] = []
decisions (note.Decide tx commit ∷ rs) = (tx, commit) ∷ decisions rs
decisions (r ∷ rs) = decisions rs

-- what a run comes to: the number of its events, whether each session is over at its end, the answers of each session, the
-- decisions, the history, and the map that it leaves, or the first read that is not what the entries before it leave
pub record Shown : Type 0 where
  pub events : ℕ
  pub ended : Bool
  pub answers : List (List Answer)
  pub decided : List (TxId × Bool)
  pub history : List CommitEntry
  pub left : Result Map BadRead

abbrev pub shown_of : Scenario → List Group → Shown
shown_of s gs = record {
  events = length gs;
  ended = all_sessions_over (world_after (opening s) gs);
  answers = answers_from 1 s.sessions (records gs);
  decided = decisions (records gs);
  history = commits gs;
  left = serial (commits gs);
}

-- a run has far fewer events than this where it ends by itself
abbrev pub most_events : ℕ
most_events = 1000

-- the run in which the events at these places come first, and each later one is the first possible one, to its end
abbrev pub run_at : List ℕ → Scenario → List Group
run_at places s = groups_at places most_events (opening s)

abbrev pub shown_at : List ℕ → Scenario → Shown
shown_at places s = shown_of s (run_at places s)

-- the run in which each event is the first possible one, to its end
abbrev pub shown : Scenario → Shown
shown s = shown_at [] s

-- the deadlocks that were found among records, each with the waits of its circle
abbrev pub circles_among : List Rec → List (TxId × List Wait)
circles_among [] = []
circles_among (note.Searched tx edges ∷ rs) = (tx, map (λ (e : Edge). e.wait) edges) ∷ circles_among rs
circles_among (r ∷ rs) = circles_among rs

abbrev pub circles : Scenario → List (TxId × List Wait)
circles s = circles_among (records (run_at [] s))

abbrev pub brought_by : Message → List Stored
brought_by (msg.BackupPrepare tx top shares primary entries) = entries
brought_by (msg.Supply top part entries last) = entries
brought_by _ = []

-- what copies were brought by prepares and supplies, in the order of delivery
abbrev pub brought_among : List Rec → List (Key × Option (List ℕ))
brought_among [] = []
brought_among (note.Deliver from m ∷ rs) = map (λ (e : Stored). (e.key, e.value)) (brought_by m) ++ brought_among rs
brought_among (r ∷ rs) = brought_among rs

abbrev pub brought_at : List ℕ → Scenario → List (Key × Option (List ℕ))
brought_at places s = brought_among (records (run_at places s))

-- the journal of a run that came to its end
abbrev pub journal_at : List ℕ → Scenario → Journal
journal_at places s = record { scenario = s; groups = run_at places s; end = end.AllEnded }

-- all that a journal should show is so of this run
abbrev pub laws_hold_at : List ℕ → Scenario → Bool
laws_hold_at places s = headline (journal_at places s)

abbrev pub laws_hold : Scenario → Bool
laws_hold s = laws_hold_at [] s
