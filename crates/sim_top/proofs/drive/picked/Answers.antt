use Rattle.std.proofs.Common.{◌≡◌, ◌≤◌, IfNone, Option, [], arith, length, slice_get, subst, sym}
use Rattle.ignite_types.specs.declared.journal.Event.{Event}
use Rattle.sched_seed.specs.Picks.{next_pick}
use Rattle.sim_top.specs.Drive.{counted}
use Rattle.sim_top.proofs.DriveLaws.{picks_some, some_of}
use Rattle.sim_top.proofs.drive.picked.Goals as goal

pub returns-clause-none : goal.returns-clause-none
returns-clause-none c =
    let some : 1 ≤ length c.args.events.now = some_of c.args.events.now c.if-is_empty.ensures.1 in
    let is : c.copied.result ≡ slice_get c.args.events.now (next_pick c.args.picker.now (counted (length c.args.events.now))) =
    grind (arith, c.copied.ensures, c.get.ensures.value, c.pick-place.ensures.value, c.counted.ensures, c.len.ensures) in
    subst (λ (o : Option Event). IfNone o (c.args.events.now ≡ [])) (sym is)
    (picks_some c.args.picker.now c.args.events.now some)
