use Rattle.std.proofs.Common.{ap, ◌++◌, ◌∙◌}
use Rattle.tx_model.specs.World.{Part, node_ids, possible_acts}
use Rattle.world_core.proofs.ActsLaws.{acts_more}
use Rattle.world_core.proofs.world.World.add_acts.Goals as goal

pub loop-part-preserved : goal.loop-part-preserved
loop-part-preserved c =
    let w = c.args.self.now.now in
    acts_more w (node_ids w) c.as_slice-part-items.result.now c.loop-part.part-index c.part-item.result c.loop-part.events
    c.add_acts_of.new.events
    (c.args.events.now ++ possible_acts w (node_ids w) (node_ids w)) c.id.result c.loop-part-test.true
    (c.id.ensures ∙ ap (λ (p : Part). p.node.me) c.part-item.is) c.in_ok-add_acts_of.ensures c.loop-part.invariant
