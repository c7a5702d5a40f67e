use Rattle.std.proofs.Common.{take}
use Rattle.std.specs.Prelude.{IsTrue}
use Rattle.std.specs.List.{list_all}
use Rattle.text_laws.specs.RoundTrip.{has_long}
use Rattle.text_laws.proofs.longs.have_longs.Given as goal

abbrev pub invariant-loop-item : goal.invariant-loop-item
invariant-loop-item l = IsTrue (list_all has_long (take l.item-index l.items))
