use Rattle.std.proofs.Common.{ap, arith, ◌∙◌}
use Rattle.serde_json.proofs.Views.{view-Array}
use Rattle.serde_json.specs.Data.{array}
use Rattle.summary_text.proofs.Pairs.{commits_done}
use Rattle.summary_text.proofs.json.commits_json.Goals as goal

pub returns : goal.returns
returns c = view-Array c.loop-entry.list
    ∙ ap array (commits_done c.args.scenario.now c.loop-entry.list.items c.args.commits.now c.loop-entry.entry-index
    (omega (arith, c.loop-entry-test.false)) c.loop-entry.invariant)
