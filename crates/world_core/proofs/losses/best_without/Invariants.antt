use Rattle.std.proofs.Common.{◌≡◌, drop, None}
use Rattle.std.specs.Option.{option_copied}
use Rattle.tx_model.specs.World.{best_map_from}
use Rattle.world_core.proofs.losses.best_without.Given as goal

abbrev pub invariant-loop-part : goal.invariant-loop-part
invariant-loop-part l = best_map_from l.id (option_copied l.best) (drop l.part-index l.parts) ≡ best_map_from l.id None l.parts
