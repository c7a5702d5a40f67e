use Rattle.run_laws.proofs.Runs.{runs}
use Rattle.run_laws.proofs.parts_stay.Goals as goal

pub returns : goal.returns
returns c = runs
