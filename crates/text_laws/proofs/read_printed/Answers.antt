use Rattle.std.proofs.Common.{◌≤◌, length, ap, ◌∙◌, arith, Err}
use Rattle.text_laws.proofs.Again.{said, same_again, never_refused}
use Rattle.text_laws.proofs.read_printed.Goals as goal

pub returns-in-Ok : goal.returns-in-Ok
returns-in-Ok c =
    let few : length c.as_slice.result.now ≤ 1048576 = omega arith in
    same_again c.args.scenario.now c.in-Ok.again c.as_slice.result.now
    (said c.args.scenario.now c.as_slice.result.now c.requires c.integers_are_long.ensures few (c.as_slice.ensures.value
    ∙ c.in_ok-text.ensures))
    c.in-Ok.ensures.reads

pub unreachable-requires : goal.unreachable-requires
unreachable-requires c =
    let few : length c.as_slice.result.now ≤ 1048576 = omega arith in
    never_refused c.args.scenario.now c.as_slice.result.now c.read_scenario.result c.in-Err-Refused.field-0-0
    c.in-Err-Refused.field-0-1
    (said c.args.scenario.now c.as_slice.result.now c.requires c.integers_are_long.ensures few (c.as_slice.ensures.value
    ∙ c.in_ok-text.ensures))
    (c.in-Err-Refused.is ∙ ap Err c.in-Err-Refused.field-0-is) c.read_scenario.ensures.reads
