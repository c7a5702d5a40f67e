use Rattle.std.proofs.Common.{◌∙◌, sym}
use Rattle.partition_store.proofs.Supply.{newer_stays, older_goes}
use Rattle.partition_store.proofs.store.Store.apply.Goals as goal

pub returns-then-is_lower-clause-ok : goal.returns-then-is_lower-clause-ok
returns-then-is_lower-clause-ok c =
    sym (newer_stays c.args.self.now c.args.write c.in-Some.there.now (rw c.self.view_is at c.in-Some.ensures.value)
    c.args.filling (sym c.is_lower.ensures ∙ c.if-is_lower.true))

pub returns-else-is_lower-clause-ok : goal.returns-else-is_lower-clause-ok
returns-else-is_lower-clause-ok c =
    rw (older_goes c.args.self.now c.args.write c.in-Some.there.now (rw c.self.view_is at c.in-Some.ensures.value)
    c.args.filling (sym c.is_lower.ensures ∙ c.if-is_lower.false)) c.keep.ensures.ok
