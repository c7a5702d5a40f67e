use Rattle.sched_seed.proofs.ScriptLemmas.{session_pushed}
use Rattle.sched_seed.proofs.generated.sessions_of.Goals as goal

pub loop-place-preserved : goal.loop-place-preserved
loop-place-preserved c =
    session_pushed c.loop-place.place c.args.sessions c.args.txs c.loop-place.list c.push.new.self _ c.in_ok-session.field-0
    c.loop-place.generator c.session.new.generator c.loop-place-test.true c.in_ok-session.ensures.value
    c.in_ok-session.ensures.rest c.in_ok-push.ensures.ok c.loop-place.invariant
