use Rattle.std.proofs.Common.{◌≡◌, drop, None}
use Rattle.std.specs.Option.{option_copied}
use Rattle.part_model.specs.NextMap.{newest_map_from}
use Rattle.part_map.proofs.newest.newest.Given as goal

abbrev pub invariant-loop-single : goal.invariant-loop-single
invariant-loop-single l = newest_map_from (option_copied l.best) (drop l.single-index l.singles)
    ≡ newest_map_from None l.singles
