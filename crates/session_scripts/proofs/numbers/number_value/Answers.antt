use Rattle.std.proofs.Common.{◌≡◌, ◌∙◌, ap, Ok, arith, w64, to_z, of_z}
use Rattle.std.proofs.lemmas.Int.{ints}
use Rattle.std.specs.Fmt.{signed_decimal}
use Rattle.ignite_types.specs.Texts.{value_of}
use Rattle.session_scripts.proofs.Decimals.{number_read}
use Rattle.session_scripts.proofs.numbers.number_value.Goals as goal

pub unreachable-requires : goal.unreachable-requires
unreachable-requires c =
    let same : to_z w64 (of_z w64 c.args.number) ≡ c.args.number = omega (arith, ints) in
    let text : c.as_bytes.result.now ≡ signed_decimal c.args.number = c.as_bytes.ensures.value ∙ c.format-text.ensures.text
    ∙ ap signed_decimal same in
    let read : value_of c.as_bytes.result.now ≡ Ok (signed_decimal c.args.number) = ap value_of text
    ∙ number_read c.args.number c.ranges.number.sfits in
    cc (read, c.read.ensures, c.in-Err.is)
