use Rattle.std.proofs.lemmas.Bool.{ne_eqb}
use Rattle.scen_print.proofs.print.write_head.Goals as goal

pub returns-else-scenario-eq2 : goal.returns-else-scenario-eq2
returns-else-scenario-eq2 c =
    rw (ne_eqb c.args.scenario.now.format 2 c.if-scenario-eq2.false, ← c.as_slice-else-scenario-eq2.ensures)
    c.write_first_head.ensures
