use Rattle.std.proofs.Common.{refl}
use Rattle.commit_history.proofs.Orders.{node_put_put}
use Rattle.commit_history.proofs.walks.Walks.take_near.Goals as goal

pub returns-then-is_some-clause-rest : goal.returns-then-is_some-clause-rest
returns-then-is_some-clause-rest c = record {
  others = refl;
  again = λ known. rw (c.replace.ensures.new) (node_put_put c.args.self.now.near c.args.node.now _ known);
}
