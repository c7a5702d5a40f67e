use Rattle.std.proofs.Common.{◌≡◌, ◌++◌, drop, filter}
use Rattle.part_model.specs.NextMap.{is_filled}
use Rattle.part_map.proofs.held.push_filled.Given as goal

abbrev pub invariant-loop-node : goal.invariant-loop-node
invariant-loop-node l = l.holders ++ filter (is_filled l.members l.claims.singles.now l.claims.version l.part)
    (drop l.node-index l.movers) ≡ l.fn.holders ++ filter (is_filled l.members l.claims.singles.now l.claims.version l.part)
    l.movers
