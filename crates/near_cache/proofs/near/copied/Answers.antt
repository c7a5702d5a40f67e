use Rattle.std.proofs.Common.{ap, ◌∙◌}
use Rattle.lru.specs.LruCache.{LruCache}
use Rattle.ignite_types.specs.declared.text.Key.{Key}
use Rattle.near_cache.specs.declared.near.Kept.{Kept}
use Rattle.near_cache.proofs.NearLaws.{copied_last}
use Rattle.near_cache.proofs.near.copied.Goals as goal

pub loop-key-preserved : goal.loop-key-preserved
loop-key-preserved c =
    let whole =
    copied_last c.args.entries.now c.loop-key.copy c.loop-key.left.items c.pop.new.self.items
    (record { 0 = c.in-Some.key; 1 = c.in-Some.kept }) c.len-count.ensures.valid c.loop-key.invariant.entries
    c.loop-key.invariant.cap c.in-Some.ensures.items in
    record {
      entries = rw c.in_ok-put.ensures.entries whole;
      cap = ap (λ (d : LruCache Key Kept). d.cap) c.in_ok-put.ensures.entries ∙ c.loop-key.invariant.cap;
    }
