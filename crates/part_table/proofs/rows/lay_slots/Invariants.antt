use Rattle.std.proofs.Common.{◌≡◌, ◌+◌, ◌≤◌, ◌++◌, map, length, replicate}
use Rattle.part_table.specs.declared.rule.Slot.TheVariants.{Part, Empty}
use Rattle.part_table.proofs.rows.lay_slots.Given as goal

abbrev pub invariant-loop-value : goal.invariant-loop-value
invariant-loop-value g l = record {
  items : l.slots.items ≡ map Part l.yielded;
  room : length l.fn.values.items + l.places + 1 ≤ l.slots.cap;
}

abbrev pub invariant-loop : goal.invariant-loop
invariant-loop g l = record {
  items : l.slots.items ≡ map Part l.fn.values.items ++ replicate l.counter Empty;
  room : length l.fn.values.items + l.places + 1 ≤ l.slots.cap;
}
