-- Runs: a journal is legal where each of its groups is what the machine does from the scenario's opening world.
use Rattle.std.specs.Prelude.{Bool, IsTrue, Some, [], false, length, slice_get, true, ℕ, ◌+◌, ◌∷◌, ◌≡◌, ◌⊎◌}
use Rattle.ignite_types.specs.declared.journal.End.{End}
use Rattle.ignite_types.specs.declared.journal.Event.{Event}
use Rattle.ignite_types.specs.declared.journal.Group.{Group}
use Rattle.ignite_types.specs.declared.journal.Journal.{Journal}
use Rattle.ignite_types.specs.declared.list.List.{List}
use Rattle.tx_model.specs.Opening.{opening}
use Rattle.tx_model.specs.World.{World, all_sessions_over, is_enabled, outcome, possible}
use Rattle.ignite_types.specs.declared.journal.End.TheVariants as end
use Rattle.ignite_types.specs.declared.journal.Event.TheVariants as event

-- the world after these groups' events
abbrev pub world_after : World → List Group → World
world_after w [] = w
world_after w (g ∷ gs) = world_after (outcome w g.event).world gs

-- the group's event is possible, and it notes what the machine notes
pub record IsStep (w : World) (g : Group) : Type 0 where
  pub possible_event : IsTrue (is_enabled w g.event)
  pub same_records : g.recs ≡ (outcome w g.event).recs

-- each group is a step of the machine
abbrev pub AreSteps : World → List Group → Type 0
AreSteps w [] = Unit {0}
AreSteps w (g ∷ gs) = IsStep w g × AreSteps (outcome w g.event).world gs

-- what the run's end says of the world in which it ends; after want of memory a run has no other end
abbrev pub EndsAt : World → End → Type 0
EndsAt w end.AllEnded = (possible w ≡ []) × (all_sessions_over w ≡ true) × (w.broken ≡ false)
EndsAt w end.Stalled = (possible w ≡ []) × (all_sessions_over w ≡ false) × (w.broken ≡ false)
EndsAt w end.StepLimit = w.broken ≡ false
EndsAt w end.Memory = Unit {0}

-- the journal is the machine's own, from its scenario's opening world to its end
pub record IsLegal (j : Journal) : Type 0 where
  pub steps : AreSteps (opening j.scenario) j.groups
  pub end : EndsAt (world_after (opening j.scenario) j.groups) j.end

abbrev pub is_memory : Event → Bool
is_memory (event.Memory id) = true
is_memory _ = false

-- the event is the one at this place among those that are possible
abbrev pub IsPicked : ℕ → World → Event → Type 0
IsPicked place w e = slice_get (possible w) place ≡ Some e

-- from the k-th event on, `picks` gives the place of each among so many; want of memory may stand in its place, as the last
abbrev pub ArePicked : (ℕ → ℕ → ℕ) → ℕ → World → List Group → Type 0
ArePicked picks k w [] = Unit {0}
ArePicked picks k w (g ∷ gs) = (IsPicked (picks k (length (possible w))) w g.event ⊎ ((is_memory g.event ≡ true) × (gs ≡ [])))
    × ArePicked picks (k + 1) (outcome w g.event).world gs

-- the schedule that `picks` makes: the place of the k-th event among n
abbrev pub IsScheduled : (ℕ → ℕ → ℕ) → Journal → Type 0
IsScheduled picks j = ArePicked picks 0 (opening j.scenario) j.groups
