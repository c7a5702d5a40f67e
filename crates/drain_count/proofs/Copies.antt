-- A count that is copied version by version.
use Rattle.std.proofs.Common.{◌≡◌, ℕ, ◌+◌, ◌<◌, List, length, take, get_or}
use Rattle.std.specs.Cmp.{IsTotalOrder, then_total, on_total}
use Rattle.std.proofs.lemmas.Cmp.{nat_cmp_total}
use Rattle.ignite_types.proofs.NameLaws.{top_total}
use Rattle.ignite_types.specs.Names.{top_cmp}
use Rattle.ignite_types.specs.declared.names.TopVer.{TopVer}
use Rattle.ordered_table.proofs.Copies as copies
use Rattle.ordered_table.specs.Entries.{put}
use Rattle.ordered_table.specs.Places.{IsAscending}

-- one entry more of the copy
pub copied_more : (es : List (TopVer × ℕ)) (i : ℕ) (d : TopVer × ℕ) → IsAscending top_cmp es → i < length es →
    put top_cmp (take i es) (get_or es i d).0 (get_or es i d).1 ≡ take (i + 1) es
copied_more = copies.copied_more top_cmp top_total
