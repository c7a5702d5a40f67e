use Rattle.std.proofs.Common.{◌≡◌, ◌++◌, ◌-◌}
use Rattle.sched_seed.specs.Transactions.{after_script, script}
use Rattle.sched_seed.proofs.transaction.script.Given as goal

abbrev pub invariant-loop : goal.invariant-loop
invariant-loop l = record {
  commands : l.commands ++ script (l.txs - l.counter) l.generator ≡ script l.txs l.fn.generator;
  rest : after_script (l.txs - l.counter) l.generator ≡ after_script l.txs l.fn.generator;
}
