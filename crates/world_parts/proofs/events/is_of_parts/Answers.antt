use Rattle.std.proofs.Common.{ap, sym, ◌∙◌}
use Rattle.std.specs.Prelude.{not}
use Rattle.world_parts.specs.Laws.{group_of}
use Rattle.world_parts.proofs.Runs.{possible_same, reads_no_other, step_of_machine, step_of_parts}
use Rattle.world_parts.proofs.events.is_of_parts.Goals as goal

pub returns-clause-whole : goal.returns-clause-whole
returns-clause-whole c s gs recs news run related = step_of_machine s gs (group_of c.args.event.now recs) news run related

pub returns-clause-parts : goal.returns-clause-parts
returns-clause-parts c is s gs recs run step listed = step_of_parts s gs (group_of c.args.event.now recs) run
    (ap not (sym c.is_want_of_memory.ensures) ∙ is) step listed

pub returns-clause-possible : goal.returns-clause-possible
returns-clause-possible c is s gs run = possible_same s gs c.args.event.now run (ap not (sym c.is_want_of_memory.ensures) ∙ is)

pub returns-clause-no_other : goal.returns-clause-no_other
returns-clause-no_other c is s gs hs recs run other same step =
    reads_no_other s gs hs (group_of c.args.event.now recs) run other (ap not (sym c.is_want_of_memory.ensures) ∙ is) same step
