-- A copy of a session's ranges grows entry by entry.
use Rattle.std.proofs.Common.{◌≡◌, ℕ, ◌+◌, ◌<◌, List, length, take, get_or}
use Rattle.std.specs.Cmp.{IsTotalOrder, then_total, on_total}
use Rattle.std.proofs.lemmas.Cmp.{nat_cmp_total, nat_list_cmp_total}
use Rattle.ignite_types.proofs.NameLaws.{key_total}
use Rattle.ignite_types.specs.Names.{key_cmp}
use Rattle.ignite_types.specs.declared.text.Key.{Key}
use Rattle.part_model.specs.declared.script.Range.{Range}
use Rattle.ordered_table.proofs.Copies as copies
use Rattle.ordered_table.specs.Entries.{put}
use Rattle.ordered_table.specs.Places.{IsAscending}

-- one entry more of the copy
pub copied_more : (es : List (Key × Range)) (i : ℕ) (d : Key × Range) → IsAscending key_cmp es → i < length es →
    put key_cmp (take i es) (get_or es i d).0 (get_or es i d).1 ≡ take (i + 1) es
copied_more = copies.copied_more key_cmp key_total
