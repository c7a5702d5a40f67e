use Rattle.std.proofs.Common.{◌∙◌, sym}
use Rattle.partition_store.proofs.Supply.{supplied_newer, supplied_older}
use Rattle.partition_store.proofs.store.Store.take_one.Goals as goal

pub returns-then-is_lower-clause-ok : goal.returns-then-is_lower-clause-ok
returns-then-is_lower-clause-ok c =
    rw (
      supplied_newer c.args.self.now c.args.entry.now c.in-Some.there.now (rw c.self.view_is at c.in-Some.ensures.value)
          (sym c.is_lower.ensures ∙ c.if-is_lower.true),
      ← c.self.view_is,
    ) c.set.ensures.ok

pub returns-else-is_lower-clause-ok : goal.returns-else-is_lower-clause-ok
returns-else-is_lower-clause-ok c =
    sym (supplied_older c.args.self.now c.args.entry.now c.in-Some.there.now (rw c.self.view_is at c.in-Some.ensures.value)
    (sym c.is_lower.ensures ∙ c.if-is_lower.false))
