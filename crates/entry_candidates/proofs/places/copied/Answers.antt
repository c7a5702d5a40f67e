use Rattle.entry_candidates.proofs.Named.{key_copied}
use Rattle.entry_candidates.proofs.places.copied.Goals as goal

pub loop-key-preserved : goal.loop-key-preserved
loop-key-preserved c =
    let more = key_copied c.args.table.now c.loop-key.key-index c.loop-key-item.result c.requires c.loop-key-test.true in
    rw (c.in_ok-set.ensures.ok, c.loop-key.invariant) (cc (more, c.loop-key-item.is))
