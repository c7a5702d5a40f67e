use Rattle.std.proofs.Common.{List, [], ap, map, ◌∙◌}
use Rattle.part_model.specs.Queues.{queue_in}
use Rattle.ignite_types.proofs.NameLaws.{key_total}
use Rattle.ignite_types.specs.Names.{key_cmp}
use Rattle.ignite_types.specs.declared.message.Waiters.{Waiters}
use Rattle.ignite_types.specs.declared.names.TxId.{TxId}
use Rattle.ignite_types.specs.declared.text.Key.{Key}
use Rattle.entry_candidates.proofs.Reading.{all_read, each_found, map_read}
use Rattle.entry_candidates.proofs.queue_table.QueueTable.lists.Goals as goal

pub returns : goal.returns
returns c =
    let up = rw c.self.view_is at c.len-count.ensures.ascending in
    let keys = c.as_slice-key-items.ensures ∙ rw c.self.view_is at c.in_ok-keys.ensures in
    let waiters : Key → List TxId → Waiters = λ key txs. record { key = key; txs = txs } in
    let read = map_read key_cmp [] waiters c.args.self.now c.args.self.now (each_found key_cmp key_total c.args.self.now up) in
    all_read (λ (key : Key). waiters key (queue_in c.args.self.now key)) c.loop-key.lists _ c.loop-key.key-index
    c.loop-key-test.false c.loop-key.invariant
    ∙ ap (map (λ (key : Key). waiters key (queue_in c.args.self.now key))) keys ∙ read
