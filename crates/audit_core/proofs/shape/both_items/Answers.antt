use Rattle.std.proofs.Common.{sym}
use Rattle.audit_core.proofs.Lists.{not_two}
use Rattle.audit_core.proofs.shape.both_items.Goals as goal

pub returns-else-items-eq2 : goal.returns-else-items-eq2
returns-else-items-eq2 c = sym (not_two c.args.items.now c.if-items-eq2.false)
