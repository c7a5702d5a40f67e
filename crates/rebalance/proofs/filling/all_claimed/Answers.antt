use Rattle.std.proofs.Common.{sym, ◌∙◌}
use Rattle.rebalance.proofs.MoverLemmas.{claimed_with_movers, claimed_without_movers}
use Rattle.rebalance.proofs.filling.all_claimed.Goals as goal

pub returns-then-has_mover : goal.returns-then-has_mover
returns-then-has_mover c =
    c.all_claim.ensures ∙ claimed_with_movers c.args.node.now c.args.rows.now (sym c.has_mover.ensures ∙ c.if-has_mover.true)

pub returns-else-has_mover : goal.returns-else-has_mover
returns-else-has_mover c =
    c.if-has_mover.false ∙ claimed_without_movers c.args.node.now c.args.rows.now (sym c.has_mover.ensures
    ∙ c.if-has_mover.false)
