-- The count of open work by topology version.
use Rattle.std.specs.Prelude.{fold, if◌then◌else◌, min, suc, unwrap_or, zero, ℕ, ◌+◌, ◌-◌, ◌^◌}
use Rattle.part_model.specs.Orders.{is_lower_top, next_count}
use Rattle.ignite_types.specs.Names.{top_cmp}
use Rattle.ignite_types.specs.declared.list.List.{List}
use Rattle.ignite_types.specs.declared.names.TopVer.{TopVer}
use Rattle.ordered_table.specs.Entries.{at, put, without}

abbrev pub DrainCount : Type 0
DrainCount = List (TopVer × ℕ)

abbrev pub count_of : DrainCount → TopVer → ℕ
count_of counts top = unwrap_or (at top_cmp counts top) 0

abbrev pub with_count : DrainCount → TopVer → ℕ → DrainCount
with_count counts top zero = without top_cmp counts top
with_count counts top (suc n) = put top_cmp counts top (suc n)

abbrev pub with_one_more : DrainCount → TopVer → DrainCount
with_one_more counts top = put top_cmp counts top (next_count (count_of counts top))

abbrev pub with_one_done : DrainCount → TopVer → DrainCount
with_one_done counts top = with_count counts top (count_of counts top - 1)

-- how much is open of versions below this one
abbrev pub count_below : DrainCount → TopVer → ℕ
count_below counts top =
    fold (λ (n : ℕ) (e : TopVer × ℕ). if is_lower_top e.0 top then min (n + e.1) (2 ^ 64 - 1) else n) 0 counts
