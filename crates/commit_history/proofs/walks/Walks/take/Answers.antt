use Rattle.std.proofs.Common.{refl}
use Rattle.commit_history.proofs.Orders.{tx_put_put}
use Rattle.commit_history.proofs.walks.Walks.take.Goals as goal

pub returns-then-contains-clause-rest : goal.returns-then-contains-clause-rest
returns-then-contains-clause-rest c = record {
  others = refl;
  again = λ w. rw (c.replace.ensures.new) (tx_put_put c.args.self.now.walks c.args.tx.now _ w);
}
