use Rattle.std.proofs.Common.{map, ◌≡◌}
use Rattle.serde_json.specs.View.{view}
use Rattle.summary_text.proofs.Pairs.{entry_pair}
use Rattle.summary_text.proofs.json.pairs_json.Given as goal

-- the list has the pairs of the members so far
abbrev pub invariant-loop-key : goal.invariant-loop-key
invariant-loop-key l = map view l.list.items ≡ map entry_pair l.yielded
