use Rattle.std.proofs.Common.{ap, ◌∙◌}
use Rattle.std.proofs.lemmas.Iterator.Consumers.{YieldsList-end, YieldsList-from_rest}
use Rattle.serde_json.proofs.Views.{view-Array}
use Rattle.serde_json.specs.Data.{array}
use Rattle.summary_text.proofs.Pairs.{listed}
use Rattle.summary_text.proofs.json.pairs_json.Goals as goal

pub returns : goal.returns
returns c =
    let seen = YieldsList-end (YieldsList-from_rest c.args.members.entries c.into_iter-key-iterator.ensures.into_iter_gives.0)
    c.loop-key.yielded _ c.loop-key.yielded_by _ _ c.in-None.is c.next.ensures.steps in
    view-Array c.loop-key.list
    ∙ ap array (listed c.loop-key.list.items c.loop-key.yielded c.args.members.entries c.loop-key.invariant seen.0)
