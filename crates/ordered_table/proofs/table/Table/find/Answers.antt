use Rattle.std.proofs.Common.{rules, sym}
use Rattle.std.proofs.lemmas.List.Sorted.{answers_always}
use Rattle.ordered_table.proofs.Orders.{less_from_test}
use Rattle.ordered_table.proofs.Found.{above_last, searched}
use Rattle.ordered_table.proofs.table.Table.find.Goals as goal

-- the last key is below the one that is sought, so this one belongs at the end
pub returns-in-Some-clause-missing : goal.returns-in-Some-clause-missing
returns-in-Some-clause-missing g c =
    rw (c.len.ensures, ← c.deref.ensures.len, c.deref.ensures.value, ← c.self.view_is)
    (above_last g.K.Ord.cmp g.met.K.Ord.total _ c.args.key.now c.in-Some.last.now c.self.invariant
    (rw c.deref.ensures.value at (sym c.in-Some.ensures.value)) (less_from_test _ (cc)))

-- the closure gives an entry's key, and the slice is the table's entries
pub returns-in_default : goal.returns-in_default
returns-in_default g c =
    let facts = c.binary_search_by_key.ensures in
    let by_key = facts.position (λ e. e.0) (answers_always _ _ _ (λ f a r q called. search rules)) in
    rw (← c.self.view_is, ← c.deref-in_default.ensures.value) (searched g.K.Ord.cmp g.met.K.Ord.total _ c.args.key.now
    (rw c.deref-in_default.ensures.value c.self.invariant) _ facts.bound by_key)
