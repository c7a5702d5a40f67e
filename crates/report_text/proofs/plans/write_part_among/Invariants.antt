use Rattle.std.proofs.Common.{◌≡◌, ◌++◌, drop}
use Rattle.report_text.specs.Plans.{part_among}
use Rattle.report_text.proofs.plans.write_part_among.Given as goal

abbrev pub invariant-loop-cache : goal.invariant-loop-cache
invariant-loop-cache l =
    l.out ++ part_among (drop l.cache-index l.caches) l.left
    ≡ l.fn.out ++ part_among l.caches l.part
