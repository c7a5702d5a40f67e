-- How a run is driven: its groups so far are the machine's own, and each event was the one that the schedule picked.
use Rattle.std.specs.Prelude.{Bool, List, Option, Some, [], false, length, min, slice_get, true, ℕ, ◌+◌, ◌-◌, ◌^◌, ◌∷◌, ◌≡◌}
use Rattle.ignite_types.specs.declared.journal.Event.{Event}
use Rattle.ignite_types.specs.declared.journal.Group.{Group}
use Rattle.rand_pcg.specs.Lcg.{Lcg}
use Rattle.sched_seed.specs.Picks.{after_pick, next_pick, pick}
use Rattle.tx_model.specs.Opening.{opening}
use Rattle.tx_model.specs.Runs.{AreSteps, IsPicked, world_after}
use Rattle.tx_model.specs.World.{World, outcome, possible}
use Rattle.world_core.specs.Run.{Run, run_after}

-- so many events as a pick counts: of more than 32 bits count only so many
abbrev pub counted : ℕ → ℕ
counted n = min n (2 ^ 32 - 1)

-- the place that a seed picks for event number k, from 0, of n possible ones
abbrev pub picks : ℕ → ℕ → ℕ → ℕ
picks seed k n = pick seed k (counted n)

-- from the k-th event on, each event is the picked one
abbrev pub AllPicked : ℕ → ℕ → World → List Group → Type 0
AllPicked seed k w [] = Unit {0}
AllPicked seed k w (g ∷ gs) =
    IsPicked (picks seed k (length (possible w))) w g.event × AllPicked seed (k + 1) (outcome w g.event).world gs

-- the groups so far are steps of the machine and follow the schedule
pub record PastFollows (seed : ℕ) (r : Run) : Type 0 where
  pub steps : AreSteps (opening r.scenario) r.past
  pub picked : AllPicked seed 0 (opening r.scenario) r.past

-- and the world is the one after them, in which no memory was wanting
pub record Follows (seed : ℕ) (r : Run) : Type 0 where
  pub past : PastFollows seed r
  pub now : r.now ≡ world_after (opening r.scenario) r.past
  pub whole : r.now.broken ≡ false

-- one more event, the one that a picker in this state picks
pub record Advances (picker : Option Lcg) (old new : Run) : Type 0 where
  pub event : Event
  pub picked : slice_get (possible old.now) (next_pick picker (counted (length (possible old.now)))) ≡ Some event
  pub is : new ≡ run_after old event

-- no event is possible, and nothing has changed
pub record Rests (old new : Run) : Type 0 where
  pub none : possible old.now ≡ []
  pub same : new ≡ old

-- an event happened, by one pick, or none is possible
abbrev pub Moves : Option Lcg → Option Lcg → Bool → Run → Run → Type 0
Moves picker next true old new = Advances picker old new × (next ≡ after_pick picker)
Moves picker next false old new = Rests old new
