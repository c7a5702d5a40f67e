use Rattle.audit_core.specs.Shape.{each, printed_entry_of}
use Rattle.serde_json.specs.View.{items_view}
use Rattle.audit_core.proofs.Lists.{each_step}
use Rattle.audit_core.proofs.shape.each_entry.Goals as goal

pub loop-item-preserved : goal.loop-item-preserved
loop-item-preserved c =
    rw (c.in_ok-push.ensures.ok) (each_step printed_entry_of c.args.items.now c.loop-item.item-index c.item-item.result
    c.in_ok-entry.entry c.loop-item.entries (each printed_entry_of (items_view c.args.items.now)) c.loop-item-test.true
    c.item-item.is c.in_ok-entry.ensures.ok c.loop-item.invariant)
