use Rattle.std.proofs.Common.{arith, refl}
use Rattle.session_scripts.proofs.Spelled.{value_small, value_more, digit_small}
use Rattle.session_scripts.proofs.numbers.spelled.Goals as goal

pub overflow_mul-number : goal.overflow_mul-number
overflow_mul-number c =
    let small = value_small c.args.digits.now c.loop-digit.digit-index c.requires.few c.requires.digits c.loop-digit-test.true
    in
    omega (arith, small, c.loop-digit.invariant)

pub overflow_add-number : goal.overflow_add-number
overflow_add-number c =
    let small = value_small c.args.digits.now c.loop-digit.digit-index c.requires.few c.requires.digits c.loop-digit-test.true
    in
    let digit = digit_small c.args.digits.now c.loop-digit.digit-index c.requires.digits c.loop-digit-test.true in
    omega (arith, small, digit.1, c.loop-digit.invariant, c.from.ensures)

pub loop-digit-preserved : goal.loop-digit-preserved
loop-digit-preserved c =
    let more = value_more c.args.digits.now c.loop-digit.digit-index c.requires.digits c.loop-digit-test.true in
    let kept = c.loop-digit.invariant in
    rw (more, ← kept, c.from.ensures) refl
