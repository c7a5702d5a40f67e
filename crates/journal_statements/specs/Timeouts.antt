-- What a journal says of a transaction's deadline, and of its search for a deadlock.
use Rattle.std.specs.Option.{option_and_then}
use Rattle.std.specs.Prelude.{Bool, None, Option, Some, [], false, if◌then◌else◌, is_none, is_some, length, nat_eq, nat_le, not, ℕ, ◌&&◌, ◌++◌, ◌∷◌}
use Rattle.act_rows.specs.Accesses.{access_key, most_keys}
use Rattle.act_rows.specs.Commands.{deadline_at}
use Rattle.act_rows.specs.Searches.{is_reached}
use Rattle.part_model.specs.Orders.{next_count}
use Rattle.part_model.specs.Tables.{keys_in}
use Rattle.ignite_types.specs.Names.{key_cmp}
use Rattle.ignite_types.specs.Placement.{primary_of}
use Rattle.ignite_types.specs.declared.journal.Rec.{Rec}
use Rattle.ignite_types.specs.declared.list.List.{List}
use Rattle.ignite_types.specs.declared.names.TxId.{TxId}
use Rattle.ignite_types.specs.declared.placement.PartMap.{PartMap}
use Rattle.ignite_types.specs.declared.scenario.Mode.{Mode}
use Rattle.ignite_types.specs.declared.text.Key.{Key}
use Rattle.ordered_set.specs.Members.{has, with_member}
use Rattle.ordered_table.specs.Entries.{at}
use Rattle.tx_model.specs.History.{fresh_walk, is_called}
use Rattle.tx_model.specs.declared.walk.Walk.{Walk}
use Rattle.journal_statements.specs.Noted.{Noted, map_of_version}
use Rattle.journal_statements.specs.Versions.{is_decided}
use Rattle.journal_statements.specs.Waits.{is_expire_of}
use Rattle.journal_statements.specs.Walks.{walk_of_records, walk_on}
use Rattle.ignite_types.specs.declared.scenario.Command.TheVariants as command
use Rattle.ignite_types.specs.declared.scenario.Mode.TheVariants as mode
use Rattle.ignite_types.specs.declared.journal.Rec.TheVariants as note

-- a transaction's mode, and the moment at which it may time out
pub record Terms : Type 0 where
  pub mode : Mode
  pub deadline : Option ℕ

-- a bare access is pessimistic and has no deadline
abbrev pub bare_terms : Terms
bare_terms = record { mode = mode.Pessimistic; deadline = None }

abbrev pub clock_after : ℕ → Rec → ℕ
clock_after now (note.Tick to) = to
clock_after now r = now

abbrev pub clock_over : ℕ → List Noted → ℕ
clock_over now [] = now
clock_over now (n ∷ ns) = clock_over (clock_after now n.rec) ns

-- a begin that is called where no block is open begins the transaction with the next number
abbrev pub terms_after : TxId → ℕ → Walk → Terms → Rec → Terms
terms_after tx now w t (note.Call session (command.Begin mode timeout)) =
    if is_called tx session && not w.block && nat_eq (next_count w.started) tx.number
    then record { mode = mode; deadline = deadline_at now timeout }
    else t
terms_after tx now w t r = t

abbrev pub terms_over : TxId → ℕ → Walk → Terms → List Noted → Terms
terms_over tx now w t [] = t
terms_over tx now w t (n ∷ ns) = terms_over tx (clock_after now n.rec) (walk_on tx w n) (terms_after tx now w t n.rec) ns

abbrev pub terms_of : TxId → List Noted → Terms
terms_of tx recs = terms_over tx 0 fresh_walk bare_terms recs

-- the records before the transaction's expiry, where it has one
abbrev pub before_expire : TxId → List Noted → List Noted → Option (List Noted)
before_expire tx before [] = None
before_expire tx before (n ∷ ns) = if is_expire_of tx n.rec then Some before else before_expire tx (before ++ n ∷ []) ns

abbrev pub was_due : TxId → Option (List Noted) → Bool
was_due tx None = false
was_due tx (Some before) = is_reached (clock_over 0 before) (terms_of tx before).deadline

-- the transaction has expired, when the clock had reached its deadline, and it has no decision
abbrev pub is_timed_out : TxId → List Noted → Bool
is_timed_out tx recs = was_due tx (before_expire tx [] recs) && not (is_decided recs tx)

-- State Waiting: it awaits the lock of a new key.

abbrev pub with_keys : List Key → List Key → List Key
with_keys set [] = set
with_keys set (key ∷ keys) = with_keys (with_member key_cmp set key) keys

-- the keys of its accesses that were done
abbrev pub keys_done : Walk → List Key
keys_done w = with_keys (keys_in w.reads) (keys_in w.writes)

abbrev pub runs_in : Option PartMap → Key → Bool
runs_in None key = false
runs_in (Some m) key = is_some (primary_of m key)

abbrev pub map_for : List PartMap → Walk → Option PartMap
map_for maps w = option_and_then (map_of_version maps) w.top

-- a key that the transaction has not touched
abbrev pub is_new_key : Walk → Key → Bool
is_new_key w key = not (has key_cmp (keys_done w) key)

-- it is one key too many
abbrev pub is_past_most : Walk → Key → Bool
is_past_most w key = is_new_key w key && nat_le most_keys (length (keys_done w))

abbrev pub awaits_lock_of : List PartMap → Walk → Option Key → Bool
awaits_lock_of maps w None = false
awaits_lock_of maps w (Some key) = is_none (at key_cmp w.finds key) && is_new_key w key && runs_in (map_for maps w) key
    && not (is_past_most w key)

abbrev pub is_waiting : List PartMap → Mode → Walk → Bool
is_waiting maps mode.Optimistic w = false
is_waiting maps mode.Pessimistic w = awaits_lock_of maps w (option_and_then access_key w.called)

abbrev pub waits_before : List PartMap → TxId → Option (List Noted) → Bool
waits_before maps tx None = false
waits_before maps tx (Some before) = is_waiting maps (terms_of tx before).mode (walk_of_records tx before)

-- the transaction was in state Waiting just before its expiry
abbrev pub was_waiting : List PartMap → TxId → List Noted → Bool
was_waiting maps tx recs = waits_before maps tx (before_expire tx [] recs)
