use Rattle.std.proofs.Common.{sym, ap}
use Rattle.part_model.specs.NearEntries.{NearCache}
use Rattle.near_cache.specs.Sized.{SizedNear}
use Rattle.near_cache.proofs.NearLaws.{put_kept}
use Rattle.near_cache.proofs.near.Near.put.Goals as goal

pub returns-clause-ok : goal.returns-clause-ok
returns-clause-ok c =
    let sized : NearCache → SizedNear = λ near. record { size = c.self.inside.entries.cap; entries = near } in
    rw (c.in_ok-put.ensures.entries, ← c.self.view_is)
    (ap sized (sym (put_kept c.self.inside.entries c.args.key (record { value = c.args.value; ver = c.args.ver })
    c.len-count.ensures.valid)))
