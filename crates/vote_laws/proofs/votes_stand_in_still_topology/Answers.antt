use Rattle.std.proofs.Common.{sym, ◌∙◌}
use Rattle.vote_laws.proofs.VoteLaws.{votes_stand}
use Rattle.vote_laws.proofs.votes_stand_in_still_topology.Goals as goal

pub returns-clause-law : goal.returns-clause-law
returns-clause-law c is j run stands = votes_stand c.args.events (sym c.keys_are_owned_in_still_topology.ensures.covered
    ∙ is) j run stands
