use Rattle.std.specs.Str.Lines.{lines}
use Rattle.scen_text.proofs.GoodTexts.{reads-good}
use Rattle.scen_text.proofs.read.read_scenario.Goals as goal

pub returns-clause-good : goal.returns-clause-good
returns-clause-good c = reads-good (lines c.args.bytes.now) _ c.read_text.ensures
