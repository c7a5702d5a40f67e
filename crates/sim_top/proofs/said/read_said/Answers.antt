use Rattle.std.proofs.Common.{refl}
use Rattle.sim_top.proofs.SaidLaws.{too_long_says}
use Rattle.sim_top.proofs.said.read_said.Goals as goal

pub returns-in-Err-TooLong : goal.returns-in-Err-TooLong
returns-in-Err-TooLong g c =
    let told = rw c.in-Err-TooLong.field-0-is at c.in-Err-TooLong.ensures.too_long in
    too_long_says _ _ _ _ _ (told refl) c.refuse.ensures
