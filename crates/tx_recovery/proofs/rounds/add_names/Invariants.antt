use Rattle.std.proofs.Common.{drop, ◌≡◌}
use Rattle.act_rows.specs.Recovery.{orphan_names}
use Rattle.part_model.specs.Queues.{with_members}
use Rattle.tx_recovery.proofs.rounds.add_names.Given as goal

abbrev pub invariant-loop-orphan : goal.invariant-loop-orphan
invariant-loop-orphan l = with_members l.set (orphan_names (drop l.orphan-index l.list)) ≡ with_members l.initial.set
    (orphan_names l.list)
