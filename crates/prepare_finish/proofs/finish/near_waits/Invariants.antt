use Rattle.std.proofs.Common.{drop, ◌++◌, ◌≡◌}
use Rattle.std.specs.List.{flat_map}
use Rattle.act_rows.specs.Primary.{near_waits, readers_but_me}
use Rattle.prepare_finish.specs.Waits.{near_waits_at}
use Rattle.prepare_finish.proofs.finish.near_waits.Given as goal

abbrev pub invariant-loop-write : goal.invariant-loop-write
invariant-loop-write l = l.waits ++ flat_map (λ w. near_waits_at w.key (readers_but_me l.node w.key))
    (drop l.write-index l.writes) ≡ near_waits l.node l.writes
