-- When a join and a loss are refused, and when not.
use Rattle.std.specs.Option.{option_copied}
use Rattle.std.specs.Prelude.{None, Option, Result, Some, false, true, Ok, Err, ◌≡◌}
use Rattle.std.specs.Borrow.{Bor}
use Rattle.part_model.specs.Directory.{Directory, refusal_of_loss}
use Rattle.discovery_order.specs.declared.changes.JoinFault.{JoinFault}
use Rattle.discovery_order.specs.declared.changes.JoinFault.TheVariants as join
use Rattle.discovery_order.specs.declared.changes.LeftFault.{LeftFault}
use Rattle.discovery_order.specs.declared.changes.LeftFault.TheVariants as left
use Rattle.ignite_types.specs.Names.{node_cmp}
use Rattle.ignite_types.specs.declared.names.NodeId.{NodeId}
use Rattle.ignite_types.specs.declared.names.TopVer.{TopVer}
use Rattle.ignite_types.specs.declared.placement.PartMap.{PartMap}
use Rattle.ignite_types.specs.declared.scenario.Member.{Member}
use Rattle.ordered_set.specs.Members.{has}

-- a join is refused exactly where the number was ever in; only memory may be wanting else
abbrev pub JoinRefused : Directory → Member → Result TopVer JoinFault → Type 0
JoinRefused d member (Ok top) = has node_cmp d.ever member.node ≡ false
JoinRefused d member (Err join.AlreadyIn) = has node_cmp d.ever member.node ≡ true
JoinRefused d member (Err join.NoMemory) = has node_cmp d.ever member.node ≡ false

-- a loss is refused exactly so
abbrev pub LeftRefused : Directory → NodeId → Option (Bor PartMap) → Result TopVer LeftFault → Type 0
LeftRefused d node best (Ok top) = refusal_of_loss d node (option_copied best) ≡ None
LeftRefused d node best (Err (left.Refused why)) = refusal_of_loss d node (option_copied best) ≡ Some why
LeftRefused d node best (Err left.NoMemory) = refusal_of_loss d node (option_copied best) ≡ None
