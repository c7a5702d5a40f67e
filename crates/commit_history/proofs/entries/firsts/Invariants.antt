use Rattle.std.proofs.Common.{◌≡◌, ◌++◌, ◌+◌, [], drop}
use Rattle.commit_history.specs.Firsts.{firsts}
use Rattle.tx_model.specs.History.{records}
use Rattle.commit_history.proofs.entries.firsts.Given as goal

abbrev pub invariant-loop-group : goal.invariant-loop-group
invariant-loop-group l = l.list ++ firsts l.seen (records (drop l.group-index l.groups)) ≡ firsts [] (records l.groups)

abbrev pub invariant-loop-rec : goal.invariant-loop-rec
invariant-loop-rec l =
    l.list ++ firsts l.seen (drop l.rec-index l.rec-items ++ records (drop (l.group-index + 1) l.groups))
    ≡ firsts [] (records l.groups)
