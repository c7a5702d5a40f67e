use Rattle.std.proofs.Common.{◌≡◌}
use Rattle.part_table.specs.Surface.{IsPassOf}
use Rattle.part_table.proofs.tests.work.Given as goal

abbrev pub invariant-loop : goal.invariant-loop
invariant-loop g l = IsPassOf l.parts l.pass × (l.pass.number ≡ l.fn.start.number)
