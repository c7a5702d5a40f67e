use Rattle.std.proofs.Common.{sym, ◌∙◌}
use Rattle.audit_core.proofs.Numbers.{numeral_refused}
use Rattle.audit_core.proofs.version.long_number.Goals as goal

pub returns-in-Err : goal.returns-in-Err
returns-in-Err c =
    numeral_refused c.args.text.now c.in-Err.field-0 (sym c.is_numeral.ensures ∙ c.if-not-is_numeral.false)
    c.in-Err.ensures.value.0
