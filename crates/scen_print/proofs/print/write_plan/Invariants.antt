use Rattle.std.proofs.Common.{◌≡◌, ◌++◌, drop}
use Rattle.std.specs.Prelude.{flat_map}
use Rattle.scen_print.specs.Printing.{planned_text}
use Rattle.scen_print.proofs.print.write_plan.Given as goal

abbrev pub invariant-loop-planned : goal.invariant-loop-planned
invariant-loop-planned l = l.out ++ flat_map (planned_text l.scenario) (drop l.planned-index l.plan) ≡ l.initial.out
    ++ flat_map (planned_text l.scenario) l.plan
