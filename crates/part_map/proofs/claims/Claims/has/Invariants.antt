use Rattle.std.proofs.Common.{◌≡◌, drop}
use Rattle.part_model.specs.NextMap.{single_of}
use Rattle.part_map.proofs.claims.Claims.has.Given as goal

abbrev pub invariant-loop-place : goal.invariant-loop-place
invariant-loop-place l = single_of (drop l.place l.self.singles.now) l.node ≡ single_of l.self.singles.now l.node
