use Rattle.std.proofs.Common.{sym, ◌∙◌}
use Rattle.owner_laws.proofs.OwnerLaws.{owns_keys}
use Rattle.owner_laws.proofs.keys_are_owned_in_still_topology.Goals as goal

pub returns-clause-law : goal.returns-clause-law
returns-clause-law c is j run stands = owns_keys c.args.events (sym c.names_rise.ensures.covered ∙ is) j run stands
