-- What is so of the parts of every world of a run, and of every history of a table of these parts.
use Rattle.std.specs.List.{list_all}
use Rattle.std.specs.Prelude.{All, Bool, IsTrue, List, Some, is_some, length, map, not, slice_get, true, ℕ, ◌<◌, ◌≡◌}
use Rattle.ignite_types.specs.Good.{good}
use Rattle.ignite_types.specs.declared.journal.End.{End}
use Rattle.ignite_types.specs.declared.journal.Event.{Event}
use Rattle.ignite_types.specs.declared.journal.Group.{Group}
use Rattle.ignite_types.specs.declared.journal.Journal.{Journal}
use Rattle.ignite_types.specs.declared.journal.Rec.{Rec}
use Rattle.ignite_types.specs.declared.scenario.Scenario.{Scenario}
use Rattle.ignite_types.specs.declared.names.NodeId.{NodeId}
use Rattle.part_model.specs.Links.{Inbox}
use Rattle.part_table.specs.History.{Rules, is_ascending, rules}
use Rattle.part_table.specs.History as history
use Rattle.part_table.specs.declared.rule.Entry.{Entry}
use Rattle.tx_model.specs.Opening.{opening}
use Rattle.tx_model.specs.Runs.{AreSteps, EndsAt, IsLegal, IsStep, is_memory, world_after}
use Rattle.tx_model.specs.World.{Part, World, inbox_on, is_enabled, outcome, part_at, place_of, possible}
use Rattle.world_parts.specs.Parts.{PartValue, declared_ids, opening_values, part_count, parts_of, world_of}
use Rattle.world_parts.specs.Steps.{Relates, is_listed, parts_after, touches, with_values}
use Rattle.world_parts.specs.declared.parts.WorldPart.TheVariants as part

-- an event that workers make: any but a want of memory
abbrev pub is_of_parts : Event → Bool
is_of_parts e = not (is_memory e)

-- groups that are steps of the machine from a good scenario's opening on, none of them a want of memory
pub record IsRunOfParts (s : Scenario) (gs : List Group) : Type 0 where
  pub is_good : IsTrue (good s)
  pub steps : AreSteps (opening s) gs
  pub of_parts : list_all (λ (g : Group). is_of_parts g.event) gs ≡ true

-- the world after these groups
abbrev pub world_at : Scenario → List Group → World
world_at s gs = world_after (opening s) gs

abbrev pub values_at : Scenario → List Group → ℕ → PartValue
values_at s gs = parts_of s (world_at s gs)

-- the values of the parts that a group touches
abbrev pub touched_values : Scenario → Group → (ℕ → PartValue) → List PartValue
touched_values s g f = map f (touches s g)

-- the machine names the event among those that are possible
abbrev pub IsNamed : World → Event → Type 0
IsNamed w e = (place : ℕ) × (slice_get (possible w) place ≡ Some e)

-- a step of the machine, and one that it names, after which the parts that the event touches have these values, and all others
-- those of before
pub record IsWholeStep (s : Scenario) (w : World) (g : Group) (news : List PartValue) : Type 0 where
  pub is_step : IsStep w g
  pub is_named : IsNamed w g.event
  pub put_back : parts_of s (outcome w g.event).world ≡ with_values (touches s g) news (parts_of s w)

-- numbers of parts, ascending, each once
pub record AreNumbers (count : ℕ) (ps : List ℕ) : Type 0 where
  pub ascend : is_ascending 0 ps ≡ true
  pub below : All (λ p. p < count) ps

-- the machine of the parts of a scenario's world, as a table of parts has it
abbrev pub rules_of : Scenario → Rules PartValue Group
rules_of s = rules (part_count s) (opening_values s) (touches s) (Relates s)

abbrev pub groups_of : List (Entry PartValue Group) → List Group
groups_of log = map (λ (e : Entry PartValue Group). e.event) log

-- the journal with these groups
abbrev pub journal_of : Scenario → List Group → End → Journal
journal_of s gs end = record { scenario = s; groups = gs; end = end }

-- the groups of a history are a run, after which the values are the parts of its world; where that world is an end, their
-- journal is legal
pub record IsRunOfHistory (s : Scenario) (log : List (Entry PartValue Group)) : Type 0 where
  pub run : IsRunOfParts s (groups_of log)
  pub values : history.replay (rules_of s) log ≡ values_at s (groups_of log)
  pub world : world_of s (history.replay (rules_of s) log) ≡ world_at s (groups_of log)
  pub legal : (end : End) → EndsAt (world_of s (history.replay (rules_of s) log)) end →
      IsLegal (journal_of s (groups_of log) end)

abbrev pub group_of : Event → List Rec → Group
group_of e recs = record { event = e; recs = recs }

-- the group that the machine makes of an event
abbrev pub group_at : World → Event → Group
group_at w e = group_of e (outcome w e).recs

-- The laws of one event, at each world of a run.

-- what the event may make of the parts that it touches is what the machine makes of the world
abbrev pub StepsOfPartsAreWhole : Event → Type 0
StepsOfPartsAreWhole e = (s : Scenario) (gs : List Group) (recs : List Rec) (news : List PartValue) → IsRunOfParts s gs
    → Relates s (group_of e recs) (touched_values s (group_of e recs) (values_at s gs)) news
    → IsWholeStep s (world_at s gs) (group_of e recs) news

-- and what the machine makes of the world, if its like is listed, is what the event may make of these parts
abbrev pub WholeStepsAreOfParts : Event → Type 0
WholeStepsAreOfParts e = (s : Scenario) (gs : List Group) (recs : List Rec) → IsRunOfParts s gs
    → IsStep (world_at s gs) (group_of e recs)
    → is_listed s e (touched_values s (group_of e recs) (values_at s gs)) ≡ true
    → (let after = parts_of s (outcome (world_at s gs) e).world in
    Relates s (group_of e recs) (touched_values s (group_of e recs) (values_at s gs))
    (touched_values s (group_of e recs) after))

-- it is possible by the values of these parts just where it is possible in the world
abbrev pub IsPossibleByParts : Event → Type 0
IsPossibleByParts e = (s : Scenario) (gs : List Group) → IsRunOfParts s gs
    → (let g = group_at (world_at s gs) e in
    is_some (parts_after s e (touched_values s g (values_at s gs))) ≡ is_enabled (world_at s gs) e)

-- no other part is read: where two worlds have the same values of the parts that it touches, it is a step of both or of none
abbrev pub ReadsNoOther : Event → Type 0
ReadsNoOther e = (s : Scenario) (gs hs : List Group) (recs : List Rec) → IsRunOfParts s gs → IsRunOfParts s hs
    → touched_values s (group_of e recs) (values_at s gs) ≡ touched_values s (group_of e recs) (values_at s hs)
    → IsStep (world_at s gs) (group_of e recs) → IsStep (world_at s hs) (group_of e recs)

-- The laws of the numbers of parts.

-- in a world of a run this number is that of the node at this place
abbrev pub IsNumberOfNode : ℕ → ℕ → Type 0
IsNumberOfNode place n = (s : Scenario) (gs : List Group) (id : NodeId) (p : Part) → slice_get (declared_ids s) place ≡ Some id
    → part_at (world_at s gs) id ≡ Some p → values_at s gs n ≡ part.Node p

abbrev pub IsNumberOfInbox : ℕ → ℕ → Type 0
IsNumberOfInbox place n = (s : Scenario) (gs : List Group) (id : NodeId) (b : Inbox) →
    slice_get (declared_ids s) place ≡ Some id
    → inbox_on (world_at s gs) (place_of (world_at s gs) id) ≡ Some b → values_at s gs n ≡ part.Inbox b

-- with so many declared nodes
abbrev pub TouchesAreNumbers : ℕ → ℕ → Type 0
TouchesAreNumbers nodes count = (s : Scenario) (g : Group) → length (declared_ids s) ≡ nodes → AreNumbers count (touches s g)

abbrev pub WorldsComeBack : ℕ → Type 0
WorldsComeBack nodes = (s : Scenario) (gs : List Group) → length (declared_ids s) ≡ nodes → IsRunOfParts s gs
    → world_of s (values_at s gs) ≡ world_at s gs

abbrev pub HistoriesAreRuns : ℕ → Type 0
HistoriesAreRuns nodes = (s : Scenario) (log : List (Entry PartValue Group)) → length (declared_ids s) ≡ nodes → IsTrue (good s)
    → history.IsLegal (rules_of s) log → IsRunOfHistory s log
