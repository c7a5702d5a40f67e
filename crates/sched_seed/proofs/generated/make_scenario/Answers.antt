use Rattle.std.proofs.Common.{rules}
use Rattle.sched_seed.proofs.GoodLemmas.{good_made}
use Rattle.sched_seed.proofs.generated.make_scenario.Goals as goal

pub returns-clause-good : goal.returns-clause-good
returns-clause-good c =
    good_made
    (record {
      format = 1;
      caches = c.in_ok-caches.field-0;
      nodes = c.in_ok-nodes.field-0;
      plan = c.in_ok-plan.field-0;
      sessions = c.in_ok-sessions.sessions;
    })
    c.args.seed c.args.sessions c.args.txs (search rules) c.requires.few_sessions c.requires.few_txs
