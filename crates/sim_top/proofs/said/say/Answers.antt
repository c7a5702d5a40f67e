use Rattle.std.proofs.Common.{map, string_bytes}
use Rattle.sim_top.proofs.RangeLaws.{asked_has_range}
use Rattle.sim_top.proofs.said.say.Goals as goal

pub asked_said-requires : goal.asked_said-requires
asked_said-requires g c = asked_has_range (map string_bytes c.args.words.now) c.in-Ok.options c.in-Ok.ensures.ok
