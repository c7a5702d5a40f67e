-- What contracts see of a table, a pass and a turn.
use Rattle.std.specs.Prelude.{◌≡◌, ℕ, ◌+◌, ◌<◌, ◌≤◌, true, List, [], map, Option, Some, All, IsPermutation}
use Rattle.atomic_table.specs.Table.{Me}
use Rattle.atomic_table.specs.Seated.{TableId}
use Rattle.part_table.specs.declared.rule.Entry.{Entry}
use Rattle.part_table.specs.declared.table.Parts.{Parts}
use Rattle.part_table.specs.declared.rule.Plan.{Plan}
use Rattle.part_table.specs.declared.rule.Slot.{Slot}
use Rattle.part_table.specs.declared.rule.View.{View}
use Rattle.part_table.specs.History.{IsLegal, Rules, is_ascending, own, replay, rules}
use Rattle.part_table.specs.Rule.{numbers_from}
use Rattle.part_table.specs.Turns.{IsHolding, IsLater}

abbrev pub plan_of_table : {M : Type 0} → M → ℕ → ℕ → ℕ → Plan M
plan_of_table m parts limit passes = record { machine = m; parts = parts; limit = limit; passes = passes }

abbrev pub machine_of : {M S E : Type 0} → Parts M S E → M
machine_of t = t.table.shared.key.machine

-- how many passes the table was made with
abbrev pub passes_of : {M S E : Type 0} → Parts M S E → ℕ
passes_of t = t.table.shared.key.passes

-- the meanings of the table's machine: the opening values, the parts that events touch, the relation
abbrev pub rules_of : {M S E : Type 0} → Parts M S E → (M → ℕ → S) → (M → E → List ℕ) → (M → E → List S → List S → Type 0) →
    Rules S E
rules_of t opening touches relates =
    rules t.table.shared.key.parts (opening (machine_of t)) (touches (machine_of t)) (relates (machine_of t))

-- a pass: its table with the machine and the bounds, its number, and the history that it has seen
pub record PassView (M S E : Type 0) : Type 0 where
  pub table : TableId
  pub machine : Option M
  pub parts : ℕ
  pub limit : ℕ
  pub number : ℕ
  pub seen : List (Entry S E)

-- a turn: its pass, and the parts with their values
pub record TurnView (M S E : Type 0) : Type 0 where
  pub pass : PassView M S E
  pub ids : List ℕ
  pub states : List S

abbrev pub pass_view : {M S E : Type 0} → TableId → View M S E → ℕ → PassView M S E
pass_view t v n = record { table = t; machine = v.machine; parts = v.parts; limit = v.limit; number = n; seen = v.seen }

-- the pass is one of the table
pub record IsPassOf {M S E : Type 0} (t : Parts M S E) (p : PassView M S E) : Type 0 where
  pub table : p.table ≡ t.table.shared.table_id
  pub machine : p.machine ≡ Some t.table.shared.key.machine
  pub parts : p.parts ≡ t.table.shared.key.parts
  pub limit : p.limit ≡ t.table.shared.key.limit

pub record IsTurn {M S E : Type 0} (number : ℕ) (ids : List ℕ) (states : List S) (words : ℕ)
    (me : Me (Slot S E) (View M S E)) : Type 0 where
  pub holds : IsHolding number ids states me
  pub within : All (λ i. i + 1 < words) ids
  pub up : is_ascending 0 ids ≡ true

-- each number below n stands once among those of the passes
abbrev pub EachOnce : {M S E : Type 0} → ℕ → List (PassView M S E) → Type 0
EachOnce n passes = IsPermutation (map (λ p. p.number) passes) (numbers_from 0 n)

-- what a table ends with: one history, which every pass has seen a beginning of and in which its own entries are those that
-- it saw
pub record Ends {M S E : Type 0} (r : Rules S E) (count passes : ℕ) (given : List (PassView M S E)) (log : List (Entry S E))
    (states : List S) (events : List E) : Type 0 where
  pub legal : IsLegal r log
  pub journal : events ≡ map (λ e. e.event) log
  pub values : states ≡ map (replay r log) (numbers_from 0 count)
  pub known : All (λ p. IsLater p.number p.seen log) given
  pub strangers : (k : ℕ) → passes ≤ k → own k log ≡ []
