-- The directory: the one list of topology events, the members by age, the clock, how many answers were given, and how far
-- the plan is.
use Rattle.std.specs.List.{list_any}
use Rattle.std.specs.Option.{option_map}
use Rattle.std.specs.Ordering.{nat_cmp}
use Rattle.std.specs.Prelude.{Bool, None, Option, Some, [], false, filter, if◌then◌else◌, nat_le, not, slice_get, true, ℕ, ◌++◌, ◌∷◌}
use Rattle.part_model.specs.NextMap.{is_member}
use Rattle.part_model.specs.Orders.{next_count}
use Rattle.ignite_types.specs.Good.{members}
use Rattle.ignite_types.specs.Names.{node_cmp, same_node}
use Rattle.ignite_types.specs.Placement.{capped}
use Rattle.ignite_types.specs.declared.journal.NoLoss.{NoLoss}
use Rattle.ignite_types.specs.declared.journal.TopoEvent.{TopoEvent}
use Rattle.ignite_types.specs.declared.list.List.{List}
use Rattle.ignite_types.specs.declared.names.NodeId.{NodeId}
use Rattle.ignite_types.specs.declared.names.TopVer.{TopVer}
use Rattle.ignite_types.specs.declared.placement.PartMap.{PartMap}
use Rattle.ignite_types.specs.declared.placement.Row.{Row}
use Rattle.ignite_types.specs.declared.scenario.Cache.{Cache}
use Rattle.ignite_types.specs.declared.scenario.Member.{Member}
use Rattle.ignite_types.specs.declared.scenario.PlanStep.{PlanStep}
use Rattle.ignite_types.specs.declared.scenario.Scenario.{Scenario}
use Rattle.ordered_set.specs.Members.{with_member, without_member}
use Rattle.ignite_types.specs.declared.journal.NoLoss.TheVariants as refusal
use Rattle.ignite_types.specs.declared.journal.TopoEvent.TheVariants as topo

pub record Directory : Type 0 where
  pub events : List TopoEvent
  -- all numbers that were ever in
  pub ever : List NodeId
  pub members : List Member
  -- the last version
  pub last : TopVer
  pub clock : ℕ
  -- how many answers were given
  pub answered : ℕ
  pub plan : List PlanStep
  -- how many plan steps were done or refused
  pub done : ℕ

-- the first topology version
abbrev pub first_top : TopVer
first_top = record { major = 1; minor = 0 }

-- a join or a loss raises the major number, any other event the minor one
abbrev pub next_major : TopVer → TopVer
next_major top = record { major = next_count top.major; minor = 0 }

abbrev pub next_minor : TopVer → TopVer
next_minor top = record { major = top.major; minor = next_count top.minor }

abbrev pub version_after : TopVer → TopoEvent → TopVer
version_after top (topo.Join member) = next_major top
version_after top (topo.Left node) = next_major top
version_after top _ = next_minor top

abbrev pub without_node : NodeId → List Member → List Member
without_node node members = filter (λ (m : Member). not (same_node m.node node)) members

abbrev pub members_after : List Member → TopoEvent → List Member
members_after members (topo.Join member) = members ++ member ∷ []
members_after members (topo.Left node) = without_node node members
members_after members _ = members

-- the numbers of the running caches, ascending
abbrev pub running_after : List ℕ → TopoEvent → List ℕ
running_after running (topo.Start cache) = with_member nat_cmp running cache
running_after running (topo.Stop cache) = without_member nat_cmp running cache
running_after running _ = running

-- the caches that run from the start, the first of these having this number
abbrev pub running_from : ℕ → List Cache → List ℕ
running_from number [] = []
running_from number (cache ∷ caches) =
    if cache.first then number ∷ running_from (capped number 1) caches else running_from (capped number 1) caches

abbrev pub node_of : Member → NodeId
node_of m = m.node

abbrev pub node_set : List NodeId → List Member → List NodeId
node_set ids [] = ids
node_set ids (m ∷ ms) = node_set (with_member node_cmp ids m.node) ms

abbrev pub oldest_member : List Member → Option NodeId
oldest_member members = option_map node_of (slice_get members 0)

abbrev pub opening_directory : Scenario → Directory
opening_directory scenario = record {
  events = [];
  ever = node_set [] scenario.nodes;
  members = scenario.nodes;
  last = first_top;
  clock = 0;
  answered = 0;
  plan = scenario.plan;
  done = 0;
}

-- one more topology event
abbrev pub with_event : Directory → TopoEvent → Directory
with_event d event = record d {
  events = d.events ++ event ∷ [];
  members = members_after d.members event;
  last = version_after d.last event;
}

abbrev pub directory_after_join : Directory → Member → Directory
directory_after_join d member = record (with_event d (topo.Join member)) { ever = with_member node_cmp d.ever member.node }

-- Which losses are refused.

-- the node is a member, and not the one that is lost
abbrev pub remains : List Member → NodeId → NodeId → Bool
remains members lost node = if same_node node lost then false else is_member members node

abbrev pub one_remains : List Member → NodeId → List NodeId → Bool
one_remains members lost owners = list_any (λ (node : NodeId). remains members lost node) owners

-- of no owners none has to remain
abbrev pub any_remains : List Member → NodeId → List NodeId → Bool
any_remains members lost [] = true
any_remains members lost (owner ∷ owners) = one_remains members lost (owner ∷ owners)

-- a partition that runs keeps a living owner
abbrev pub survives : List Member → NodeId → Row → Bool
survives members lost row = any_remains members lost row.owners

-- the first of these partitions, counted from this number on, that runs and would be without a living owner
abbrev pub first_bare : List Member → NodeId → ℕ → List Row → Option ℕ
first_bare members lost part [] = None
first_bare members lost part (row ∷ rows) =
    if survives members lost row then first_bare members lost (capped part 1) rows else Some part

abbrev pub leaves_partition : List Member → NodeId → Option PartMap → Option NoLoss
leaves_partition members lost None = Some (refusal.LeavesPartition 0)
leaves_partition members lost (Some best) = option_map refusal.LeavesPartition (first_bare members lost 0 best.rows)

-- why the loss of a node is refused, `best` being the highest map installed at a survivor
abbrev pub refusal_of_loss : Directory → NodeId → Option PartMap → Option NoLoss
refusal_of_loss d node best = if is_member d.members node then leaves_partition d.members node best else Some refusal.NotIn

-- The plan and the clock.

abbrev pub next_step : Directory → Option PlanStep
next_step d = slice_get d.plan d.done

abbrev pub with_step_done : Directory → Directory
with_step_done d = record d { done = next_count d.done }

abbrev pub is_due : Directory → Option PlanStep → Bool
is_due d None = false
is_due d (Some step) = nat_le step.moment d.clock

abbrev pub step_due : Directory → Bool
step_due d = is_due d (next_step d)

abbrev pub at_moment : Directory → ℕ → Directory
at_moment d to = record d { clock = to }

abbrev pub with_answer_given : Directory → Directory
with_answer_given d = record d { answered = next_count d.answered }

abbrev pub event_at : Directory → ℕ → Option TopoEvent
event_at d place = slice_get d.events place
