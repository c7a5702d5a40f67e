use Rattle.std.proofs.Common.{drop, option_map, ◌++◌, ◌≡◌}
use Rattle.serde_json.specs.View.{items_view}
use Rattle.audit_core.specs.Shape.{each, change_of}
use Rattle.audit_core.proofs.shape.each_change.Given as goal

abbrev pub invariant-loop-item : goal.invariant-loop-item
invariant-loop-item l = option_map (λ rest. l.changes ++ rest) (each change_of (items_view (drop l.item-index l.items)))
    ≡ each change_of (items_view l.items)
