use Rattle.std.proofs.Common.{◌≡◌, ◌++◌, drop, map}
use Rattle.ignite_types.specs.declared.scenario.Cache.{Cache}
use Rattle.part_map.proofs.opening.parts_of.Given as goal

abbrev pub invariant-loop-cache : goal.invariant-loop-cache
invariant-loop-cache l = l.parts ++ map (λ (c : Cache). c.parts) (drop l.cache-index l.caches)
    ≡ map (λ (c : Cache). c.parts) l.caches
