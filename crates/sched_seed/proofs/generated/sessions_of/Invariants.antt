use Rattle.std.proofs.Common.{◌≡◌, ◌++◌, ◌-◌}
use Rattle.sched_seed.specs.Generated.{sessions_from}
use Rattle.sched_seed.proofs.generated.sessions_of.Given as goal

abbrev pub invariant-loop-place : goal.invariant-loop-place
invariant-loop-place l = l.list ++ sessions_from l.place (l.sessions - l.place) l.txs l.generator
    ≡ sessions_from 0 l.sessions l.txs l.fn.generator
