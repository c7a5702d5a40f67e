use Rattle.std.proofs.Common.{sym, ap}
use Rattle.part_model.specs.NearEntries.{NearCache}
use Rattle.near_cache.specs.Sized.{SizedNear}
use Rattle.near_cache.proofs.NearLaws.{update_newer, update_removed, update_renewed}
use Rattle.near_cache.proofs.near.Near.update.Goals as goal

pub returns-then-not-has_older : goal.returns-then-not-has_older
returns-then-not-has_older c =
    let sized : NearCache → SizedNear = λ near. record { size = c.self.inside.entries.cap; entries = near } in
    rw (← c.self.view_is)
    (ap sized (sym (update_newer c.self.inside.entries c.args.key.now c.args.new c.args.ver c.len-count.ensures.valid
    (sym c.if-not-has_older.ensures))))

pub returns-in-Some : goal.returns-in-Some
returns-in-Some c =
    let sized : NearCache → SizedNear = λ near. record { size = c.self.inside.entries.cap; entries = near } in
    rw (c.renew.ensures, c.in-Some.is, ← c.self.view_is)
    (ap sized (sym (update_renewed c.self.inside.entries c.args.key.now (record { value = c.in-Some.value; ver = c.args.ver })
    c.len-count.ensures.valid (sym c.if-not-has_older.ensures))))

pub returns-in-None : goal.returns-in-None
returns-in-None c =
    let sized : NearCache → SizedNear = λ near. record { size = c.self.inside.entries.cap; entries = near } in
    rw (c.pop-old.ensures.entries, c.in-None.is, ← c.self.view_is)
    (ap sized (sym (update_removed c.self.inside.entries c.args.key.now c.args.ver c.len-count.ensures.valid
    (sym c.if-not-has_older.ensures))))
