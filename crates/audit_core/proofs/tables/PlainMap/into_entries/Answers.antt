use Rattle.std.proofs.Common.{◌∙◌}
use Rattle.audit_core.proofs.Lists.{all_taken}
use Rattle.audit_core.proofs.Sorted.{sorted_entries}
use Rattle.audit_core.proofs.tables.PlainMap.into_entries.Goals as goal

pub returns : goal.returns
returns c =
    let sorted = sorted_entries c.self.inside.map.entries c.sort_keys.new.self.entries c.in_ok-sort_keys.ensures.unique
    c.in_ok-sort_keys.ensures.sorted c.in_ok-sort_keys.ensures.reordered.2 in
    rw (← c.self.view_is) (all_taken _ _ _ c.loop-entry.invariant c.in-None.ensures.steps.0
    ∙ c.into_iter-entry-iterator.ensures.into_iter_gives.0 ∙ sorted)
