use Rattle.std.proofs.Common.{◌∙◌}
use Rattle.part_map.proofs.Rows.{ideal_pushed}
use Rattle.part_map.proofs.opening.push_ideal.Goals as goal

pub loop-part-preserved : goal.loop-part-preserved
loop-part-preserved c =
    ideal_pushed c.args.servers.now c.args.backups c.loop-part.part c.args.parts c.loop-part.rows c.push.new.self _
    c.from_vec-owners.result c.new-movers.result c.loop-part-test.true c.in_ok-push.ensures.ok (c.from_vec-owners.ensures
    ∙ c.in_ok-ideal.ensures) c.new-movers.ensures c.loop-part.invariant
