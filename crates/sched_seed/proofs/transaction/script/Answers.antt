use Rattle.sched_seed.proofs.ScriptLemmas.{script_passed, script_pushed}
use Rattle.sched_seed.proofs.transaction.script.Goals as goal

pub loop-preserved : goal.loop-preserved
loop-preserved c = record {
  commands = script_pushed c.loop.counter c.args.txs c.loop.commands c.push_transaction.new.commands _ c.draw-words.result
      c.loop.generator c.draw-words.new.generator c.loop-test.true c.draw-words.ensures.words c.draw-words.ensures.rest
      c.in_ok-push_transaction.ensures c.loop.invariant.commands;
  rest = script_passed c.loop.counter c.args.txs _ c.loop.generator c.draw-words.new.generator c.loop-test.true
      c.draw-words.ensures.rest c.loop.invariant.rest;
}
