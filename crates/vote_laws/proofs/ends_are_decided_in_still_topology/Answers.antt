use Rattle.std.proofs.Common.{sym, ◌∙◌}
use Rattle.vote_laws.proofs.VoteLaws.{ends_stand}
use Rattle.vote_laws.proofs.ends_are_decided_in_still_topology.Goals as goal

pub returns-clause-law : goal.returns-clause-law
returns-clause-law c is j run stands = ends_stand c.args.events (sym c.votes_stand_in_still_topology.ensures.covered
    ∙ is) j run stands
