use Rattle.std.proofs.Common.{◌≡◌, ◌++◌, map, drop}
use Rattle.commit_history.specs.Steps.{entry_of_walks}
use Rattle.ignite_types.specs.declared.names.TxId.{TxId}
use Rattle.commit_history.proofs.entries.entries_of.Given as goal

abbrev pub invariant-loop-tx : goal.invariant-loop-tx
invariant-loop-tx l = l.list ++ map (λ (tx : TxId). entry_of_walks l.nodes l.walks l.journal.groups tx)
    (drop l.tx-index l.txs) ≡ map (λ (tx : TxId). entry_of_walks l.nodes l.walks l.journal.groups tx) l.txs
