use Rattle.std.proofs.Common.{[], get_or, ◌∙◌}
use Rattle.std.proofs.lemmas.List.{get_or_default}
use Rattle.ignite_types.proofs.NameLaws.{tx_total}
use Rattle.ignite_types.specs.Names.{tx_cmp}
use Rattle.ignite_types.specs.declared.names.TxId.{TxId}
use Rattle.entry_candidates.proofs.Reading.{read_copied}
use Rattle.entry_candidates.proofs.places.Places.copy.Goals as goal

pub loop-tx-preserved : goal.loop-tx-preserved
loop-tx-preserved c =
    let up = rw c.self.view_is at c.len-count.ensures.ascending in
    let txs = c.as_slice-tx-items.ensures ∙ rw c.self.view_is at c.in_ok-txs.ensures in
    let none : TxId = record { node = record { 0 = 0 }; session = 0; number = 0 } in
    let tx = get_or c.as_slice-tx-items.result.now c.loop-tx.tx-index none in
    let more = read_copied tx_cmp tx_total c.args.self.now _ c.loop-tx.tx-index tx [] up txs c.loop-tx-test.true
    (get_or_default c.as_slice-tx-items.result.now c.loop-tx.tx-index none tx c.loop-tx-test.true) in
    rw (c.in_ok-set.ensures.ok, c.in_ok-copied.ensures, c.table.ensures.value, c.loop-tx.invariant) more
