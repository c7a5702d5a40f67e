use Rattle.std.proofs.Common.{sym, ◌∙◌}
use Rattle.refusal_laws.proofs.RefusalLaws.{refusals_fit_holds}
use Rattle.refusal_laws.proofs.refusals_are_due.Goals as goal

pub returns-clause-law : goal.returns-clause-law
returns-clause-law c is j run = refusals_fit_holds c.args.events (sym c.maps_are_whole.ensures.covered ∙ is) j run
