use Rattle.std.proofs.Common.{sym, subst}
use Rattle.ignite_types.specs.declared.journal.End.TheVariants as end
use Rattle.ignite_types.specs.declared.journal.Journal.{Journal}
use Rattle.ignite_types.specs.declared.journal.Status.TheVariants as status
use Rattle.sim_top.specs.Sim.{Runs}
use Rattle.sim_top.proofs.SaidLaws.{follows_untold, limit_runs, over_runs, stalled_runs}
use Rattle.sim_top.proofs.said.tell_world.Goals as goal

pub tell-requires-clause-runs : goal.tell-requires-clause-runs
tell-requires-clause-runs c =
    subst (λ (j : Journal). Runs c.args.options status.StepLimit j) (sym c.into_journal-journal.ensures)
    (limit_runs c.args.options c.args.world c.requires.follows (rw c.if-more.true at c.requires.ended))

pub tell-requires-then-all_over-clause-runs : goal.tell-requires-then-all_over-clause-runs
tell-requires-then-all_over-clause-runs c =
    subst (λ (j : Journal). Runs c.args.options status.AllEnded j) (sym c.into_journal-journal-then-all_over.ensures)
    (over_runs c.args.options c.args.world c.requires.follows (rw c.if-more.false at c.requires.ended)
    (rw c.all_over.ensures at c.if-all_over.true))

pub tell-requires-else-all_over-clause-runs : goal.tell-requires-else-all_over-clause-runs
tell-requires-else-all_over-clause-runs c =
    subst (λ (j : Journal). Runs c.args.options status.Stalled j) (sym c.into_journal-journal-else-all_over.ensures)
    (stalled_runs c.args.options c.args.world c.requires.follows (rw c.if-more.false at c.requires.ended)
    (rw c.all_over.ensures at c.if-all_over.false))

pub returns : goal.returns
returns c =
    rw (c.out_of_memory.ensures.status, c.out_of_memory.ensures.journal, c.out_of_memory.ensures.text, c.into_journal.ensures)
    (follows_untold c.args.options c.args.world end.Memory c.requires.follows.past)
