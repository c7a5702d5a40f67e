use Rattle.std.proofs.Common.{◌≡◌, drop}
use Rattle.tx_model.specs.Outlooks.{standing_queued_in}
use Rattle.world_core.proofs.standings.queued_in.Given as goal

abbrev pub invariant-loop-part : goal.invariant-loop-part
invariant-loop-part l = standing_queued_in l.tx (drop l.part-index l.parts) ≡ standing_queued_in l.tx l.parts
