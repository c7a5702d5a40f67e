use Rattle.std.proofs.Common.{nat_eq, ap, ◌∙◌}
use Rattle.audit_core.proofs.Lists.{members_there}
use Rattle.audit_core.proofs.shape.has_members.Goals as goal

pub returns-in-Some : goal.returns-in-Some
returns-in-Some c =
    ap (λ n. nat_eq n c.args.count) c.len.ensures.len
    ∙ members_there c.args.count _ c.in-Some.members.now.entries c.in-Some.ensures
