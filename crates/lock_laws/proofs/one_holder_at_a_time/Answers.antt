use Rattle.lock_laws.proofs.Runs.{one_holder_at_a_time}
use Rattle.lock_laws.proofs.one_holder_at_a_time.Goals as goal

pub returns : goal.returns
returns c = one_holder_at_a_time
