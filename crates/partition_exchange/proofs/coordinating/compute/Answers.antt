use Rattle.std.proofs.Common.{subst, [], ◌∷◌, ◌≡◌}
use Rattle.std.specs.Prelude.{OnOk}
use Rattle.act_rows.specs.Exchange.{after_count}
use Rattle.ignite_types.specs.declared.list.List.{List}
use Rattle.ignite_types.specs.declared.names.NodeId.{NodeId}
use Rattle.node_state.specs.Node.{NodeState}
use Rattle.partition_exchange.proofs.coordinating.compute.Goals as goal

pub returns : goal.returns
returns c =
    subst (λ (s : NodeState).
    OnOk c.count.result (c.count.new.node ≡ after_count s
    (record { top = c.args.map.top; installed = c.args.node.now.me ∷ [] }))) c.in_ok-publish.ensures
    (subst (λ (nodes : List NodeId).
    OnOk c.count.result (c.count.new.node ≡ after_count c.publish.new.node
    (record { top = c.args.map.top; installed = nodes }))) c.in_ok-installed.ensures c.count.ensures)
