-- The plan steps that were done or refused, and the deadlocks that were found.
use Rattle.std.specs.Prelude.{List, None, Option, Some, [], codes, decimal, if◌then◌else◌, length, nat_lt, slice_get, ℕ, ◌++◌, ◌-◌, ◌==◌, ◌∷◌}
use Rattle.ignite_types.specs.declared.journal.NoLoss.{NoLoss}
use Rattle.ignite_types.specs.declared.message.Edge.{Edge}
use Rattle.ignite_types.specs.declared.message.Wait.{Wait}
use Rattle.ignite_types.specs.declared.names.NodeId.{NodeId}
use Rattle.ignite_types.specs.declared.scenario.Cache.{Cache}
use Rattle.ignite_types.specs.declared.scenario.PlanStep.{PlanStep}
use Rattle.ignite_types.specs.declared.scenario.Scenario.{Scenario}
use Rattle.report_text.specs.Answers.{tx_text}
use Rattle.report_text.specs.declared.digest.Deadlock.{Deadlock}
use Rattle.scen_print.specs.Items.{key_text}
use Rattle.scen_print.specs.Printing.{step_text}
use Rattle.ignite_types.specs.declared.journal.NoLoss.TheVariants as refusal

-- a word and a number, as a line
abbrev pub count_line : List ℕ → ℕ → List ℕ
count_line word count = word ++ ((32 ∷ decimal count) ++ 10 ∷ [])

-- `NAME/P`, P being the partition's place within its cache
abbrev pub part_among : List Cache → ℕ → List ℕ
part_among [] part = decimal part
part_among (cache ∷ caches) part =
    if nat_lt part cache.parts then cache.name ++ (47 ∷ decimal part)
    else part_among caches (part - cache.parts)

abbrev pub part_text : Scenario → ℕ → List ℕ
part_text s part = if s.format == 2 then part_among s.caches part else decimal part

abbrev pub loss_refusal_text : Scenario → Option NoLoss → List ℕ
loss_refusal_text s None = codes "ok"
loss_refusal_text s (Some refusal.NotIn) = codes "refused not in"
loss_refusal_text s (Some (refusal.LeavesPartition part)) = codes "refused partition " ++ part_text s part

-- `M STEP`
abbrev pub planned_line : Scenario → PlanStep → List ℕ
planned_line s planned = decimal planned.moment ++ (32 ∷ step_text s planned.step)

-- `M STEP: ok`, or why the step was refused
abbrev pub step_line : Scenario → Option PlanStep → Option NoLoss → List ℕ
step_line s None refused = []
step_line s (Some planned) refused =
    planned_line s planned ++ ((codes ": " ++ loss_refusal_text s refused) ++ 10 ∷ [])

abbrev pub step_lines : Scenario → List (ℕ × Option NoLoss) → List ℕ
step_lines s [] = []
step_lines s (x ∷ xs) = step_line s (slice_get s.plan x.0) x.1 ++ step_lines s xs

abbrev pub plan_part : Scenario → List (ℕ × Option NoLoss) → List ℕ
plan_part s steps = count_line (codes "plan") (length steps) ++ step_lines s steps

-- `T waits for U`
abbrev pub waiting_text : Scenario → Wait → List ℕ
waiting_text s wait = tx_text s wait.waiter ++ (codes " waits for " ++ tx_text s wait.holder)

-- `T waits for U on KEY at N`
abbrev pub wait_text : Scenario → NodeId → Wait → List ℕ
wait_text s node wait =
    waiting_text s wait ++ ((codes " on " ++ key_text s wait.key) ++ (codes " at " ++ decimal node.0))

-- a wait of a deadlock, as a line; no proof but that of its writer looks into it
unfoldable pub edge_line : Scenario → Edge → List ℕ
edge_line s e = wait_text s e.node e.wait ++ 10 ∷ []

abbrev pub edge_lines : Scenario → List Edge → List ℕ
edge_lines s [] = []
edge_lines s (e ∷ es) = edge_line s e ++ edge_lines s es

-- `T edges E`, and a line for each
abbrev pub deadlock_lines : Scenario → Deadlock → List ℕ
deadlock_lines s d =
    (tx_text s d.tx ++ count_line (codes " edges") (length d.edges)) ++ edge_lines s d.edges

abbrev pub deadlocks_lines : Scenario → List Deadlock → List ℕ
deadlocks_lines s [] = []
deadlocks_lines s (d ∷ ds) = deadlock_lines s d ++ deadlocks_lines s ds

abbrev pub deadlock_part : Scenario → List Deadlock → List ℕ
deadlock_part s found = count_line (codes "deadlocks") (length found) ++ deadlocks_lines s found
