use Rattle.text_laws.proofs.Whole.{reads_back}
use Rattle.text_laws.proofs.printed_is_read_back.Goals as goal

pub returns : goal.returns
returns c = reads_back
