use Rattle.std.proofs.Common.{◌∙◌}
use Rattle.part_map.proofs.ClaimLemmas.{claim_found}
use Rattle.part_map.proofs.claims.Claims.has.Goals as goal

pub returns-then-node-single : goal.returns-then-node-single
returns-then-node-single c =
    c.is_marked.ensures ∙ claim_found c.args.self.now.version c.args.self.now.parts c.args.self.now.singles.now
    c.args.self.now.table c.args.node c.loop-place.place c.args.part c.single-item.result c.args.self.now.is_table
    c.loop-place.invariant c.loop-place-test.true c.requires c.single-item.is c.if-node-single.true
