use Rattle.std.proofs.Common.{◌∙◌, sym, arith}
use Rattle.command_words.proofs.Numbers.{refused_number}
use Rattle.command_words.proofs.values.number.Goals as goal

pub returns-in_default-3-clause-value : goal.returns-in_default-3-clause-value
returns-in_default-3-clause-value c =
    refused_number c.args.least c.args.most c.args.value.now c.in_default.field-0 (sym c.is_number.ensures
    ∙ c.if-not-is_number.false) (omega arith) c.in_default.ensures.value.0
