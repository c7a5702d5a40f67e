use Rattle.std.proofs.Common.{sym, ◌∙◌}
use Rattle.near_cache.proofs.CacheLaws.{cache_copied, cache_there}
use Rattle.near_cache.proofs.nears.Nears.copy.Goals as goal

pub unreachable-requires : goal.unreachable-requires
unreachable-requires c =
    cache_there c.self.inside.caches c.as_slice-number-items.result.now c.loop-number.number-index
    c.len-count.ensures.ascending (c.as_slice-number-items.ensures ∙ c.in_ok-numbers.ensures) c.loop-number-test.true
    c.in-None.ensures.value

pub loop-number-preserved : goal.loop-number-preserved
loop-number-preserved c =
    let more =
    cache_copied c.self.inside.caches c.as_slice-number-items.result.now c.loop-number.number-index c.in-Some.near.now
    c.len-count.ensures.ascending (c.as_slice-number-items.ensures ∙ c.in_ok-numbers.ensures) c.loop-number-test.true
    (sym c.in-Some.ensures.value) in
    c.in_ok-set-in-Some.ensures.ok ∙ rw (c.in_ok-copied-in-Some.ensures, c.loop-number.invariant) more
