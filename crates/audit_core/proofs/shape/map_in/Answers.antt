use Rattle.std.proofs.Common.{sym, ◌∙◌}
use Rattle.serde_json.specs.View.{view}
use Rattle.audit_core.proofs.Lists.{map_read, map_refused}
use Rattle.audit_core.proofs.shape.map_in.Goals as goal

pub returns-then-all_present-clause-ok : goal.returns-then-all_present-clause-ok
returns-then-all_present-clause-ok c =
    map_read (view c.args.value.now) c.in_ok-changes.changes c.in_ok-changes.ensures.ok
    (rw c.as_slice.ensures at (sym c.all_present.ensures ∙ c.if-all_present.true))

pub returns-else-all_present-clause-err : goal.returns-else-all_present-clause-err
returns-else-all_present-clause-err c none =
    map_refused (view c.args.value.now) c.in_ok-changes.changes c.in_ok-changes.ensures.ok
    (rw c.as_slice.ensures at (sym c.all_present.ensures ∙ c.if-all_present.false))
