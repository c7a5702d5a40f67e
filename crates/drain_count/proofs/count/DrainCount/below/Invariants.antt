use Rattle.std.proofs.Common.{◌≡◌, ℕ, ◌+◌, ◌-◌, ◌^◌, drop, fold, if◌then◌else◌, min}
use Rattle.part_model.specs.Drain.{count_below}
use Rattle.part_model.specs.Orders.{is_lower_top}
use Rattle.ignite_types.specs.declared.names.TopVer.{TopVer}
use Rattle.drain_count.proofs.count.DrainCount.below.Given as goal

abbrev pub invariant-loop-version : goal.invariant-loop-version
invariant-loop-version l =
    fold (λ (n : ℕ) (e : TopVer × ℕ). if is_lower_top e.0 l.top then min (n + e.1) (2 ^ 64 - 1) else n) l.open
    (drop l.version-index l.version-items) ≡ count_below l.version-items l.top
