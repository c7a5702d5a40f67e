use Rattle.part_map.proofs.Rows.{bare_pushed}
use Rattle.part_map.proofs.opening.push_bare.Goals as goal

pub loop-preserved : goal.loop-preserved
loop-preserved c =
    bare_pushed c.loop.counter c.args.parts c.loop.rows c.push.new.self _ c.new-owners.result c.new-movers.result
    c.loop-test.true c.in_ok-push.ensures.ok c.new-owners.ensures c.new-movers.ensures c.loop.invariant
