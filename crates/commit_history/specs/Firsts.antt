-- The transactions in the order of their first commit decisions.
use Rattle.std.specs.Prelude.{None, Option, Some, [], if◌then◌else◌, is_some, ◌∷◌}
use Rattle.ignite_types.specs.Names.{tx_cmp}
use Rattle.ignite_types.specs.declared.journal.Rec.{Rec}
use Rattle.ignite_types.specs.declared.list.List.{List}
use Rattle.ignite_types.specs.declared.names.TxId.{TxId}
use Rattle.ordered_table.specs.Entries.{at, put}
use Rattle.tx_model.specs.History.{committed_in}

-- those that are committed already are in the table
abbrev pub Seen : Type 0
Seen = List (TxId × Unit {0})

abbrev pub first_if : Seen → Option TxId → (Seen → List TxId) → List TxId
first_if seen None later = later seen
first_if seen (Some tx) later = if is_some (at tx_cmp seen tx) then later seen else tx ∷ later (put tx_cmp seen tx tt)

abbrev pub firsts : Seen → List Rec → List TxId
firsts seen [] = []
firsts seen (r ∷ rs) = first_if seen (committed_in r) (λ now_seen. firsts now_seen rs)
