use Rattle.std.proofs.Common.{◌≡◌, ◌≤◌, length, arith, ap, ◌∙◌, lit<}
use Rattle.std.proofs.lemmas.Fmt.{length-decimal-le}
use Rattle.std.specs.Fmt.{decimal}
use Rattle.sched_seed.specs.Transactions.{numbered}
use Rattle.sched_seed.proofs.transaction.key_of.Goals as goal

pub new-text-requires : goal.new-text-requires
new-text-requires c =
    let short : length (decimal c.args.number) ≤ 20 = length-decimal-le 20 c.args.number (lit< tt) (omega arith)
    (omega arith) in
    let is : length c.as_slice.result.now ≡ length (numbered 107 c.args.number) =
    ap length (c.as_slice.ensures ∙ c.in_ok-bytes.ensures) in
    let fits : length c.as_slice.result.now ≤ 32 = omega arith in
    (lit< tt, fits)
