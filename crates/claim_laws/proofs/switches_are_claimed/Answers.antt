use Rattle.std.proofs.Common.{sym, ◌∙◌}
use Rattle.claim_laws.proofs.ClaimLaws.{switches_claimed_hold}
use Rattle.claim_laws.proofs.switches_are_claimed.Goals as goal

pub returns-clause-law : goal.returns-clause-law
returns-clause-law c is j run = switches_claimed_hold c.args.events (sym c.maps_are_whole.ensures.covered ∙ is) j run
