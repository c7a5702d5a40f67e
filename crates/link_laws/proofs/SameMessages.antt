-- Each message is the same as itself.
use Rattle.std.proofs.Common.{◌≡◌, true, false, List, [], ◌∷◌, Option, Some, None, ℕ, refl, arith}
use Rattle.std.specs.Cmp.Lexicographic.{pointwise}
use Rattle.std.specs.Prelude.{Bool, nat_eq}
use Rattle.std.proofs.lemmas.Bool.Decides.{nat_tests}
use Rattle.part_model.specs.Copies.{Found}
use Rattle.part_model.specs.Cycles.{same_wait}
use Rattle.part_model.specs.Orders.{same_share}
use Rattle.ignite_types.proofs.NameLaws.{same_key_itself, same_node_itself, same_top_itself, same_tx_itself}
use Rattle.ignite_types.specs.Names.{same_key, same_node, same_tx}
use Rattle.ignite_types.specs.declared.answer.Fail.{Fail}
use Rattle.ignite_types.specs.declared.message.Message.{Message}
use Rattle.ignite_types.specs.declared.message.Orphan.{Orphan}
use Rattle.ignite_types.specs.declared.message.Stored.{Stored}
use Rattle.ignite_types.specs.declared.message.Wait.{Wait}
use Rattle.ignite_types.specs.declared.message.Wanted.{Wanted}
use Rattle.ignite_types.specs.declared.names.CacheVersion.{CacheVersion}
use Rattle.ignite_types.specs.declared.placement.PartMap.{PartMap}
use Rattle.ignite_types.specs.declared.placement.Row.{Row}
use Rattle.ignite_types.specs.declared.placement.Share.{Share}
use Rattle.ignite_types.specs.declared.placement.ShareState.{ShareState}
use Rattle.ignite_types.specs.declared.placement.ShareState.TheVariants.{Committed, Prepared, Preparing, Undoing}
use Rattle.ignite_types.specs.declared.scenario.Mode.{Mode}
use Rattle.ignite_types.specs.declared.text.Key.{Key}
use Rattle.ignite_types.specs.declared.answer.Fail.TheVariants as fail
use Rattle.ignite_types.specs.declared.scenario.Mode.TheVariants as mode
use Rattle.ignite_types.specs.declared.message.Message.TheVariants as msg
use Rattle.journal_statements.specs.SameMessages.{same_cache_version, same_fail, same_flag, same_found, same_held, same_map, same_maybe, same_message, same_mode, same_orphan, same_pair, same_row, same_share_state, same_stored, same_text, same_wanted, same_write}

pub number_itself : (n : ℕ) → nat_eq n n ≡ true
number_itself n = grind (arith, nat_tests)

pub flag_itself : (a : Bool) → same_flag a a ≡ true
flag_itself true = refl
flag_itself false = refl

pub list_itself : {A : Type 0} (same : A → A → Bool) → ((a : A) → same a a ≡ true) → (list : List A) →
    pointwise same list list ≡ true
list_itself same each [] = refl
list_itself same each (a ∷ list) = rw (each a, list_itself same each list) refl

pub maybe_itself : {A : Type 0} (same : A → A → Bool) → ((a : A) → same a a ≡ true) → (a : Option A) →
    same_maybe same a a ≡ true
maybe_itself same each None = refl
maybe_itself same each (Some a) = each a

pub same_text_itself : (a : List ℕ) → same_text a a ≡ true
same_text_itself a = list_itself nat_eq number_itself a

pub same_cache_version_itself : (a : CacheVersion) → same_cache_version a a ≡ true
same_cache_version_itself a = rw (same_top_itself a.top, number_itself a.order, same_node_itself a.node) refl

-- placement
pub same_share_itself : (a : Share) → same_share a a ≡ true
same_share_itself a = rw (same_node_itself a.holder, same_node_itself a.primary) refl

pub same_share_state_itself : (a : ShareState) → same_share_state a a ≡ true
same_share_state_itself Preparing = refl
same_share_state_itself Prepared = refl
same_share_state_itself Committed = refl
same_share_state_itself Undoing = refl

pub same_held_itself : (a : Share × ShareState) → same_held a a ≡ true
same_held_itself a = rw (same_share_itself a.0, same_share_state_itself a.1) refl

pub same_row_itself : (a : Row) → same_row a a ≡ true
same_row_itself a = rw (list_itself same_node same_node_itself a.owners, list_itself same_node same_node_itself a.movers) refl

pub same_map_itself : (a : PartMap) → same_map a a ≡ true
same_map_itself a =
    rw (same_top_itself a.top, list_itself nat_eq number_itself a.parts, list_itself same_row same_row_itself a.rows) refl

-- what messages carry
pub same_wait_itself : (a : Wait) → same_wait a a ≡ true
same_wait_itself a = rw (same_key_itself a.key, same_tx_itself a.waiter, same_tx_itself a.holder) refl

pub same_pair_itself : (a : List ℕ × CacheVersion) → same_pair a a ≡ true
same_pair_itself a = rw (same_text_itself a.0, same_cache_version_itself a.1) refl

pub same_found_itself : (a : Found) → same_found a a ≡ true
same_found_itself a = maybe_itself same_pair same_pair_itself a

pub same_mode_itself : (a : Mode) → same_mode a a ≡ true
same_mode_itself mode.Pessimistic = refl
same_mode_itself mode.Optimistic = refl

pub same_wanted_itself : (a : Wanted) → same_wanted a a ≡ true
same_wanted_itself a = rw (same_key_itself a.key, maybe_itself same_cache_version same_cache_version_itself a.had) refl

pub same_write_itself : (a : Key × Option (List ℕ)) → same_write a a ≡ true
same_write_itself a = rw (same_key_itself a.0, maybe_itself same_text same_text_itself a.1) refl

pub same_stored_itself : (a : Stored) → same_stored a a ≡ true
same_stored_itself a =
    rw (same_key_itself a.key, maybe_itself same_text same_text_itself a.value, same_cache_version_itself a.ver) refl

pub same_fail_itself : (a : Fail) → same_fail a a ≡ true
same_fail_itself (fail.Changed key had there) =
    rw (same_key_itself key, same_cache_version_itself had, same_cache_version_itself there) refl
same_fail_itself (fail.Candidate key holder) = rw (same_key_itself key, same_tx_itself holder) refl

pub same_orphan_itself : (a : Orphan) → same_orphan a a ≡ true
same_orphan_itself a =
    rw (
      same_tx_itself a.tx,
      list_itself same_share same_share_itself a.shares,
      list_itself same_held same_held_itself a.held,
      flag_itself a.locks,
    ) refl

pub same_message_itself : (m : Message) → same_message m m ≡ true
same_message_itself (msg.Lock tx top key) = rw (same_tx_itself tx, same_top_itself top, same_key_itself key) refl
same_message_itself (msg.LockOk tx key found) = rw (same_tx_itself tx, same_key_itself key, same_found_itself found) refl
same_message_itself (msg.Get tx key near) = rw (same_tx_itself tx, same_key_itself key, flag_itself near) refl
same_message_itself (msg.GetOk tx key found) = rw (same_tx_itself tx, same_key_itself key, same_found_itself found) refl
same_message_itself (msg.Prepare tx top mode shares wanted writes) =
    rw (
      same_tx_itself tx,
      same_top_itself top,
      same_mode_itself mode,
      list_itself same_share same_share_itself shares,
      list_itself same_wanted same_wanted_itself wanted,
      list_itself same_write same_write_itself writes,
    ) refl
same_message_itself (msg.Prepared tx) = same_tx_itself tx
same_message_itself (msg.PrepareFail tx why) = rw (same_tx_itself tx, same_fail_itself why) refl
same_message_itself (msg.BackupPrepare tx top shares primary writes) =
    rw (
      same_tx_itself tx,
      same_top_itself top,
      list_itself same_share same_share_itself shares,
      same_node_itself primary,
      list_itself same_stored same_stored_itself writes,
    ) refl
same_message_itself (msg.BackupPrepared tx) = same_tx_itself tx
same_message_itself (msg.Finish tx commit) = rw (same_tx_itself tx, flag_itself commit) refl
same_message_itself (msg.Finished tx) = same_tx_itself tx
same_message_itself (msg.BackupFinish tx primary commit) = rw (
  same_tx_itself tx,
  same_node_itself primary,
  flag_itself commit,
) refl
same_message_itself (msg.BackupFinished tx primary) = rw (same_tx_itself tx, same_node_itself primary) refl
same_message_itself (msg.NearUpdate tx key new ver) =
    rw (same_tx_itself tx, same_key_itself key, maybe_itself same_text same_text_itself new, same_cache_version_itself ver) refl
same_message_itself (msg.NearDone tx key) = rw (same_tx_itself tx, same_key_itself key) refl
same_message_itself (msg.Edges tx round of) =
    rw (same_tx_itself tx, number_itself round, list_itself same_tx same_tx_itself of) refl
same_message_itself (msg.EdgesOk tx round act waits) =
    rw (same_tx_itself tx, number_itself round, number_itself act, list_itself same_wait same_wait_itself waits) refl
same_message_itself (msg.Single top m complete) =
    rw (same_top_itself top, maybe_itself same_map same_map_itself m, list_itself nat_eq number_itself complete) refl
same_message_itself (msg.Full m) = same_map_itself m
same_message_itself (msg.Installed top) = same_top_itself top
same_message_itself (msg.Opens top) = same_top_itself top
same_message_itself (msg.Demand top part after) =
    rw (same_top_itself top, number_itself part, maybe_itself same_key same_key_itself after) refl
same_message_itself (msg.Supply top part entries last) =
    rw (same_top_itself top, number_itself part, list_itself same_stored same_stored_itself entries, flag_itself last) refl
same_message_itself (msg.Complete top) = same_top_itself top
same_message_itself (msg.Orphans round list) = rw (number_itself round, list_itself same_orphan same_orphan_itself list) refl
