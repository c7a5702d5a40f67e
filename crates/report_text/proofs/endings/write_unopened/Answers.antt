use Rattle.report_text.proofs.Joined.{joined}
use Rattle.report_text.proofs.endings.write_unopened.Goals as goal

pub returns : goal.returns
returns c = joined _ _ _ _ _ _ c.in_ok-write_word_top.ensures c.write_word_tx.ensures
