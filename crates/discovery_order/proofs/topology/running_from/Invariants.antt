use Rattle.std.proofs.Common.{drop, ◌++◌, ◌≡◌}
use Rattle.part_model.specs.Directory.{running_from}
use Rattle.discovery_order.proofs.topology.running_from.Given as goal

abbrev pub invariant-loop-cache : goal.invariant-loop-cache
invariant-loop-cache l = l.running ++ running_from l.number (drop l.cache-index l.caches) ≡ running_from 0 l.caches
