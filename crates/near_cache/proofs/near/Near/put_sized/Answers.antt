use Rattle.std.proofs.Common.{ap}
use Rattle.std.specs.NonZero.{non_zero_usize_get}
use Rattle.part_model.specs.NearEntries.{NearCache}
use Rattle.near_cache.specs.Sized.{SizedNear}
use Rattle.near_cache.proofs.NearLaws.{put_sized}
use Rattle.near_cache.proofs.near.Near.put_sized.Goals as goal

pub returns : goal.returns
returns c =
    let sized : NearCache → SizedNear = λ near. record { size = non_zero_usize_get c.args.size; entries = near } in
    rw (c.resize.ensures, c.in_ok-put.ensures.entries, ← c.self.view_is)
    (ap sized (put_sized c.make_room.new.entries c.self.inside.entries.entries c.args.key c.args.kept
    (non_zero_usize_get c.args.size) c.len-count.ensures.valid c.make_room.ensures.same c.make_room.ensures.room))
