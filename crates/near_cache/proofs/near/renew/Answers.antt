use Rattle.std.proofs.Common.{List, sym, ap}
use Rattle.ignite_types.specs.declared.text.Key.{Key}
use Rattle.lru.specs.LruCache.{LruCache, lru_cache}
use Rattle.near_cache.specs.declared.near.Kept.{Kept}
use Rattle.near_cache.proofs.NearLaws.{set_none}
use Rattle.near_cache.proofs.near.renew.Goals as goal

pub returns-in_default : goal.returns-in_default
returns-in_default c =
    let cache : List (Key × Kept) → LruCache Key Kept = λ es. lru_cache es c.args.entries.now.cap in
    ap cache (sym (set_none c.args.entries.now.entries c.args.key.now c.args.kept (sym c.in_default.ensures.value)))
