use Rattle.std.proofs.Common.{◌≡◌, ◌++◌, drop}
use Rattle.std.specs.Prelude.{flat_map}
use Rattle.scen_print.specs.Printing.{cache_line_text}
use Rattle.scen_print.proofs.print.write_caches.Given as goal

abbrev pub invariant-loop-cache : goal.invariant-loop-cache
invariant-loop-cache l = l.out ++ flat_map cache_line_text (drop l.cache-index l.caches) ≡ l.initial.out
    ++ flat_map cache_line_text l.caches
