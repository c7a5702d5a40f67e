use Rattle.std.proofs.Common.{drop, ◌++◌, ◌≡◌}
use Rattle.act_rows.specs.Primary.{drawn_writes, last_drawn}
use Rattle.prepare_finish.proofs.primary.draw.Given as goal

abbrev pub invariant-loop-key : goal.invariant-loop-key
invariant-loop-key l = record {
  entries : l.entries ++ drawn_writes l.top l.me l.order (drop l.key-index l.writes)
      ≡ drawn_writes l.top l.me l.initial.order l.writes;
  last : last_drawn l.order (drop l.key-index l.writes)
      ≡ last_drawn l.initial.order l.writes;
}
