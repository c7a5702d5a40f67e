use Rattle.std.proofs.Common.{◌≡◌, ◌++◌, drop}
use Rattle.std.specs.Prelude.{flat_map}
use Rattle.scen_print.specs.Printing.{item_line_text}
use Rattle.scen_print.proofs.print.write_commands.Given as goal

abbrev pub invariant-loop-item : goal.invariant-loop-item
invariant-loop-item l = l.out ++ flat_map (item_line_text l.scenario) (drop l.item-index l.commands) ≡ l.initial.out
    ++ flat_map (item_line_text l.scenario) l.commands
