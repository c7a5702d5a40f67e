use Rattle.ignite_types.specs.declared.names.NodeId.{NodeId}
use Rattle.world_core.proofs.ActsLaws.{inboxes_more}
use Rattle.world_core.proofs.opening.inboxes_of.Goals as goal

pub loop-id-preserved : goal.loop-id-preserved
loop-id-preserved c =
    let any : NodeId = record { 0 = 0 } in
    inboxes_more c.args.senders.now c.args.ids.now c.loop-id._id-index any c.loop-id.inboxes.items c.push.new.self.items _
    c.in_ok-new.field-0
    c.loop-id-test.true c.in_ok-push.ensures.items c.in_ok-new.ensures c.loop-id.invariant
