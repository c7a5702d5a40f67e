use Rattle.run_laws.proofs.Runs.{clocks_agree}
use Rattle.run_laws.proofs.clocks_agree.Goals as goal

pub returns : goal.returns
returns c = clocks_agree
