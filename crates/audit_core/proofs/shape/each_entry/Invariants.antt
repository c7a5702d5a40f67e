use Rattle.std.proofs.Common.{drop, option_map, ◌++◌, ◌≡◌}
use Rattle.serde_json.specs.View.{items_view}
use Rattle.audit_core.specs.Shape.{each, printed_entry_of}
use Rattle.audit_core.proofs.shape.each_entry.Given as goal

abbrev pub invariant-loop-item : goal.invariant-loop-item
invariant-loop-item l = option_map (λ rest. l.entries ++ rest)
    (each printed_entry_of (items_view (drop l.item-index l.items))) ≡ each printed_entry_of (items_view l.items)
