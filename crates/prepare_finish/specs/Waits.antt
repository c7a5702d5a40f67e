-- What a commit awaits from the readers of one key.
use Rattle.std.specs.Prelude.{map}
use Rattle.ignite_types.specs.declared.list.List.{List}
use Rattle.ignite_types.specs.declared.names.NodeId.{NodeId}
use Rattle.ignite_types.specs.declared.text.Key.{Key}
use Rattle.node_state.specs.declared.primary.NearWait.{NearWait}

abbrev pub near_waits_at : Key → List NodeId → List NearWait
near_waits_at key nodes = map (λ (n : NodeId). record { key = key; node = n }) nodes
