use Rattle.std.proofs.Common.{sym, ◌∙◌}
use Rattle.owner_laws.proofs.OwnerLaws.{are_tokens}
use Rattle.owner_laws.proofs.locks_are_tokens_in_still_topology.Goals as goal

pub returns-clause-law : goal.returns-clause-law
returns-clause-law c is j run stands = are_tokens c.args.events (sym c.keys_are_owned_in_still_topology.ensures.covered
    ∙ is) j run stands
