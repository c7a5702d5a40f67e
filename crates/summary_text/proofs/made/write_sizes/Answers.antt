use Rattle.report_text.proofs.Joined.{joined}
use Rattle.summary_text.proofs.made.write_sizes.Goals as goal

pub returns : goal.returns
returns c = rw (← c.from.ensures, ← c.from-2.ensures) (joined _ _ _ _ _ _ c.in_ok-write_number.ensures c.write_number-2.ensures)
