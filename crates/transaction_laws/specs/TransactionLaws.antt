-- The laws of decisions and starts, as statements of a journal.
use Rattle.std.specs.List.{list_all, list_any}
use Rattle.std.specs.Prelude.{Bool, Option, false, is_none, nat_eq, nat_lt, not, true, ◌&&◌, ◌||◌}
use Rattle.part_model.specs.Orders.{is_node}
use Rattle.ignite_types.specs.Names.{same_node}
use Rattle.ignite_types.specs.declared.journal.Journal.{Journal}
use Rattle.ignite_types.specs.declared.journal.Rec.{Rec}
use Rattle.ignite_types.specs.declared.list.List.{List}
use Rattle.ignite_types.specs.declared.names.NodeId.{NodeId}
use Rattle.ignite_types.specs.declared.names.TxId.{TxId}
use Rattle.ignite_types.specs.declared.scenario.PlanStep.{PlanStep}
use Rattle.ignite_types.specs.declared.scenario.Scenario.{Scenario}
use Rattle.ignite_types.specs.declared.scenario.Step.{Step}
use Rattle.journal_statements.specs.Noted.{Noted, each_record, is_committed_before, is_lost, noted, version_of_tx}
use Rattle.journal_statements.specs.Versions.{is_decide_in, was_open}
use Rattle.ignite_types.specs.declared.journal.Rec.TheVariants as note
use Rattle.ignite_types.specs.declared.scenario.Step.TheVariants as step

-- Decisions.

-- whether this node has decided the transaction
abbrev pub is_decided_by : NodeId → TxId → List Noted → Bool
is_decided_by node tx recs = list_any (λ (n : Noted). is_node node n.node && is_decide_in tx n.rec) recs

abbrev pub is_first_by_starter : List Noted → Option NodeId → Rec → Bool
is_first_by_starter before who (note.Decide tx commit) = not (is_node tx.node who) || not (is_decided_by tx.node tx before)
is_first_by_starter before who r = true

-- a starter decides each of its transactions at most once
abbrev pub decided_once : Journal → Bool
decided_once j =
    each_record (λ (before : List Noted) (n : Noted). is_first_by_starter before n.node n.rec) (noted j.scenario j.groups)

abbrev pub is_by_starter_or_after_loss : List Noted → Option NodeId → Rec → Bool
is_by_starter_or_after_loss before who (note.Decide tx commit) = is_node tx.node who || is_lost before tx.node
is_by_starter_or_after_loss before who r = true

-- where another node than its starter decides a transaction, the starter is lost
abbrev pub recovered_after_loss : Journal → Bool
recovered_after_loss j = each_record
    (λ (before : List Noted) (n : Noted). is_by_starter_or_after_loss before n.node n.rec) (noted j.scenario j.groups)

abbrev pub stands_or_is_lost : List Noted → Rec → Bool
stands_or_is_lost before (note.Decide tx false) = not (is_committed_before before tx) || is_lost before tx.node
stands_or_is_lost before r = true

-- a rollback decision stands behind a commit decision only where the starter is lost
abbrev pub commits_stand_or_lost : Journal → Bool
commits_stand_or_lost j =
    each_record (λ (before : List Noted) (n : Noted). stands_or_is_lost before n.rec) (noted j.scenario j.groups)

abbrev pub is_loss : Step → Bool
is_loss (step.Lose node) = true
is_loss other = false

-- no step of the plan loses a node
abbrev pub has_no_loss : Scenario → Bool
has_no_loss s = list_all (λ (p : PlanStep). not (is_loss p.step)) s.plan

-- Starts.

abbrev pub is_start_at_open : Scenario → List Noted → Option NodeId → Rec → Bool
is_start_at_open s before who (note.Start tx top) =
    is_node tx.node who && is_none (version_of_tx before tx) && was_open s before tx.node top
is_start_at_open s before who r = true

-- a transaction starts once, at its own node, in a version that is open there
abbrev pub started_once : Journal → Bool
started_once j = each_record
    (λ (before : List Noted) (n : Noted). is_start_at_open j.scenario before n.node n.rec) (noted j.scenario j.groups)

abbrev pub is_same_session : TxId → TxId → Bool
is_same_session u tx = same_node u.node tx.node && nat_eq u.session tx.session

abbrev pub is_lower_start : TxId → Rec → Bool
is_lower_start tx (note.Start u top) = not (is_same_session u tx) || nat_lt u.number tx.number
is_lower_start tx r = true

abbrev pub starts_above : List Noted → Rec → Bool
starts_above before (note.Start tx top) = list_all (λ (n : Noted). is_lower_start tx n.rec) before
starts_above before r = true

-- the numbers of a session's transactions rise, in the order in which they start
abbrev pub rising_names : Journal → Bool
rising_names j =
    each_record (λ (before : List Noted) (n : Noted). starts_above before n.rec) (noted j.scenario j.groups)
