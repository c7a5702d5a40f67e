use Rattle.std.proofs.Common.{sym, ◌∙◌}
use Rattle.scenes.proofs.EachRun.{directory_told}
use Rattle.scenes.proofs.events_are_told.Goals as goal

pub returns-clause-law : goal.returns-clause-law
returns-clause-law c is j run = directory_told c.args.events (sym c.lost_nodes_stay.ensures.covered ∙ is) j run
