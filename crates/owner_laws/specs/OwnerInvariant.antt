-- The invariant of the laws of owners, where topology stands still; it stands beside that of the laws of starters.
use Rattle.std.specs.List.{list_all}
use Rattle.std.specs.Prelude.{Bool, Some, [], false, true, ℕ, ◌≡◌}
use Rattle.act_rows.specs.NewNodes.{opening_map_of}
use Rattle.ignite_types.specs.Names.{key_cmp, same_top, tx_cmp}
use Rattle.ignite_types.specs.declared.journal.TopoEvent.{TopoEvent}
use Rattle.ignite_types.specs.declared.list.List.{List}
use Rattle.ignite_types.specs.declared.names.NodeId.{NodeId}
use Rattle.ignite_types.specs.declared.placement.PartMap.{PartMap}
use Rattle.node_state.specs.Node.{NodeState}
use Rattle.ordered_table.specs.Places.{IsAscending}
use Rattle.owner_laws.specs.LockFacts.{Locks}
use Rattle.owner_laws.specs.OwnerLaws.{lock_view}
use Rattle.scenes.specs.Scenes.{Scene}
use Rattle.transaction_laws.specs.StarterInvariant.{StarterInvariant}
use Rattle.ignite_types.specs.declared.journal.TopoEvent.TheVariants as topo
use Rattle.node_state.specs.declared.life.Life.TheVariants as life

abbrev pub is_minor : TopoEvent → Bool
is_minor topo.Minor = true
is_minor e = false

-- none has joined or is lost, and no cache was started or stopped
abbrev pub stands_still : List TopoEvent → Bool
stands_still events = list_all is_minor events

-- a node that is alive: its tables are in order, and it has the opening map, of the version that it has seen last
pub record NodeStands (m : PartMap) (s : NodeState) : Type 0 where
  pub up : IsAscending key_cmp s.queues
  pub installed : s.installed ≡ Some m
  pub seen : same_top m.top s.seen ≡ true
  pub shares_up : IsAscending tx_cmp s.shares

pub record OwnersFit (sc : Scene) : Type 0 where
  -- there was no late switch of owners either
  pub no_event : sc.directory.events ≡ []
  pub locks : Locks (opening_map_of sc.scenario) (lock_view sc)
  pub nodes : (n : NodeId) → sc.life n ≡ life.Alive → NodeStands (opening_map_of sc.scenario) (sc.state n)

-- both invariants, after so many events
pub record OwnerInvariant (events : ℕ) (sc : Scene) : Type 0 where
  pub starters : StarterInvariant events sc
  pub owners : stands_still sc.directory.events ≡ true → OwnersFit sc
