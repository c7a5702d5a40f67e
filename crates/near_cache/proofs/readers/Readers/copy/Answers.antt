use Rattle.std.proofs.Common.{sym, ◌∙◌}
use Rattle.ignite_types.proofs.NameLaws.{key_total}
use Rattle.ignite_types.specs.Names.{key_cmp}
use Rattle.hash_table.proofs.Least.{listed_there}
use Rattle.near_cache.proofs.ReaderLaws.{readers_copied}
use Rattle.near_cache.proofs.readers.Readers.copy.Goals as goal

pub unreachable-requires : goal.unreachable-requires
unreachable-requires c =
    listed_there key_cmp key_total c.self.inside.nodes _ c.loop-key.key-index c.key-item.result c.len-count.ensures.ascending
    (c.as_slice-key-items.ensures ∙ c.in_ok-keys.ensures) c.loop-key-test.true c.key-item.is c.in-None.ensures.value

pub loop-key-preserved : goal.loop-key-preserved
loop-key-preserved c =
    let more =
    readers_copied c.self.inside.nodes c.as_slice-key-items.result.now c.loop-key.key-index c.key-item.result
    c.in-Some.readers.now c.len-count.ensures.ascending (c.as_slice-key-items.ensures ∙ c.in_ok-keys.ensures)
    c.loop-key-test.true c.key-item.is (sym c.in-Some.ensures.value) in
    c.in_ok-set-in-Some.ensures.ok ∙ rw (c.in_ok-copy-in-Some.ensures, c.loop-key.invariant) more
