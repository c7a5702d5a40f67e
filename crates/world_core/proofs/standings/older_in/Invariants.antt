use Rattle.std.proofs.Common.{◌≡◌, drop, None}
use Rattle.tx_model.specs.Outlooks.{older_among}
use Rattle.world_core.proofs.standings.older_in.Given as goal

abbrev pub invariant-loop-part : goal.invariant-loop-part
invariant-loop-part l = older_among l.seen l.first (drop l.part-index l.parts) ≡ older_among l.seen None l.parts
