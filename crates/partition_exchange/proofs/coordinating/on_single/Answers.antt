use Rattle.std.proofs.Common.{subst, ◌≡◌}
use Rattle.std.specs.Prelude.{OnOk}
use Rattle.act_rows.specs.Exchange.{after_compute_if_all}
use Rattle.node_state.specs.Node.{NodeState}
use Rattle.partition_exchange.proofs.coordinating.on_single.Goals as goal

pub returns : goal.returns
returns c =
    subst (λ (s : NodeState). OnOk c.compute_if_all.result (c.compute_if_all.new.node ≡ after_compute_if_all s))
    c.in_ok-keep_single.ensures c.compute_if_all.ensures
