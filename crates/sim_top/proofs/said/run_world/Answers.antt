use Rattle.ignite_types.specs.declared.journal.End.TheVariants as end
use Rattle.sim_top.proofs.SaidLaws.{follows_untold}
use Rattle.sim_top.proofs.said.run_world.Goals as goal

pub returns-in-Err : goal.returns-in-Err
returns-in-Err c =
    rw (c.out_of_memory.ensures.status, c.out_of_memory.ensures.journal, c.out_of_memory.ensures.text, c.into_journal.ensures)
    (follows_untold c.args.options c.drive.new.world end.Memory c.in-Err.ensures.err)
