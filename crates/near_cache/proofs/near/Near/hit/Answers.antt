use Rattle.std.proofs.Common.{sym, ap}
use Rattle.part_model.specs.NearEntries.{NearCache}
use Rattle.near_cache.specs.Sized.{SizedNear}
use Rattle.near_cache.proofs.NearLaws.{hit_none, hit_some, hit_front}
use Rattle.near_cache.proofs.near.Near.hit.Goals as goal

pub returns-in_err-kept-clause-found : goal.returns-in_err-kept-clause-found
returns-in_err-kept-clause-found c =
    rw (c.from_residual.ensures, ← c.self.view_is)
    (sym (hit_none c.self.inside.entries.entries c.args.key.now (sym c.in_err-kept.ensures.value)))

pub returns-in_err-kept-clause-front : goal.returns-in_err-kept-clause-front
returns-in_err-kept-clause-front c =
    let sized : NearCache → SizedNear = λ near. record { size = c.self.inside.entries.cap; entries = near } in
    rw (c.get.follows.holds-at-none, ← c.self.view_is)
    (ap sized (sym (hit_front c.self.inside.entries c.args.key.now c.len-count.ensures.valid)))

pub returns-clause-found : goal.returns-clause-found
returns-clause-found c =
    rw (← c.self.view_is)
    (sym (hit_some c.self.inside.entries.entries c.args.key.now c.in_ok-kept.field-0.now (sym c.in_ok-kept.ensures.value)))

pub returns-clause-front : goal.returns-clause-front
returns-clause-front c =
    let sized : NearCache → SizedNear = λ near. record { size = c.self.inside.entries.cap; entries = near } in
    rw (c.get.follows.holds-at-none, ← c.self.view_is)
    (ap sized (sym (hit_front c.self.inside.entries c.args.key.now c.len-count.ensures.valid)))
