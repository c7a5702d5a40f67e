-- Which plan steps are refused: the loss of a node that is not in, and one that would leave a partition without an owner.
use Rattle.std.specs.List.{flat_map}
use Rattle.std.specs.Prelude.{Bool, None, Option, Some, [], false, filter, if◌then◌else◌, nat_eq, not, option_to_list, slice_get, true, ◌&&◌, ◌++◌, ◌∷◌}
use Rattle.act_rows.specs.NewNodes.{map_if, opening_map_of}
use Rattle.part_model.specs.Directory.{leaves_partition}
use Rattle.part_model.specs.NextMap.{is_member, newer_map}
use Rattle.ignite_types.specs.Names.{same_node}
use Rattle.ignite_types.specs.declared.journal.Journal.{Journal}
use Rattle.ignite_types.specs.declared.journal.NoLoss.{NoLoss}
use Rattle.ignite_types.specs.declared.journal.Rec.{Rec}
use Rattle.ignite_types.specs.declared.list.List.{List}
use Rattle.ignite_types.specs.declared.names.NodeId.{NodeId}
use Rattle.ignite_types.specs.declared.placement.PartMap.{PartMap}
use Rattle.ignite_types.specs.declared.scenario.Member.{Member}
use Rattle.ignite_types.specs.declared.scenario.PlanStep.{PlanStep}
use Rattle.ignite_types.specs.declared.scenario.Scenario.{Scenario}
use Rattle.ignite_types.specs.declared.scenario.Step.{Step}
use Rattle.journal_statements.specs.Noted.{Noted, each_record, is_lost, map_in, noted, recs_of}
use Rattle.tx_model.specs.Opening.{ids_of}
use Rattle.journal_statements.specs.SameMessages.{same_maybe}
use Rattle.journal_statements.specs.Topologies.{events_in_rec, first_topology, last_topology}
use Rattle.ignite_types.specs.declared.journal.Rec.TheVariants as note
use Rattle.ignite_types.specs.declared.journal.NoLoss.TheVariants as refusal
use Rattle.ignite_types.specs.declared.scenario.Step.TheVariants as step

-- the maps that a node had installed, the opening map at an initial one
abbrev pub maps_at : Scenario → List Noted → NodeId → List PartMap
maps_at scenario before id = option_to_list (map_if (is_member scenario.nodes id) (opening_map_of scenario))
    ++ flat_map map_in (recs_of id before)

abbrev pub highest : Option PartMap → List PartMap → Option PartMap
highest best [] = best
highest best (m ∷ ms) = highest (newer_map best (Some m)) ms

abbrev pub survives_loss : List Noted → NodeId → NodeId → Bool
survives_loss before gone id = not (same_node id gone) && not (is_lost before id)

-- the highest map installed at a survivor of the loss
abbrev pub best_map : Scenario → List Noted → NodeId → Option PartMap
best_map scenario before gone =
    highest None (flat_map (maps_at scenario before) (filter (survives_loss before gone) (ids_of scenario)))

abbrev pub members_behind : Scenario → List Noted → List Member
members_behind scenario before =
    (last_topology (first_topology scenario) (flat_map (λ (n : Noted). events_in_rec scenario.plan n.rec) before)).members

abbrev pub loss_refusal : List Member → NodeId → Option PartMap → Option NoLoss
loss_refusal all gone best = if is_member all gone then leaves_partition all gone best else Some refusal.NotIn

-- why a step is refused; no step but a loss is
abbrev pub refusal_of : Scenario → List Noted → Step → Option NoLoss
refusal_of scenario before (step.Lose id) = loss_refusal (members_behind scenario before) id (best_map scenario before id)
refusal_of scenario before _ = None

abbrev pub same_refusal : NoLoss → NoLoss → Bool
same_refusal refusal.NotIn refusal.NotIn = true
same_refusal (refusal.LeavesPartition a) (refusal.LeavesPartition b) = nat_eq a b
same_refusal _ _ = false

abbrev pub planned_fits : Scenario → List Noted → Option NoLoss → Option PlanStep → Bool
planned_fits scenario before why None = false
planned_fits scenario before why (Some next) = same_maybe same_refusal why (refusal_of scenario before next.step)

abbrev pub refusal_fits : Scenario → List Noted → Rec → Bool
refusal_fits scenario before (note.Planned place why) = planned_fits scenario before why (slice_get scenario.plan place)
refusal_fits scenario before r = true

-- a plan step is refused exactly where it has to be
abbrev pub refusals_fit : Journal → Bool
refusals_fit j =
    each_record (λ (before : List Noted) (n : Noted). refusal_fits j.scenario before n.rec) (noted j.scenario j.groups)
