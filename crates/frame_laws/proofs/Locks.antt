-- Locks at a primary: the rows of Lock, Get and Edges and the release of places extend the node.
use Rattle.std.proofs.Common.{List, [], ◌∷◌, None, Bool, true, false, refl}
use Rattle.std.specs.Prelude.{ℕ}
use Rattle.act_rows.specs.Steps.{with_note, with_out}
use Rattle.act_rows.specs.Stores.{found_at}
use Rattle.part_model.specs.NearEntries.{with_reader}
use Rattle.part_model.specs.Queues.{edges_of, keys_queued_for}
use Rattle.ignite_types.specs.declared.message.Wanted.{Wanted}
use Rattle.ignite_types.specs.declared.names.NodeId.{NodeId}
use Rattle.ignite_types.specs.declared.names.TopVer.{TopVer}
use Rattle.ignite_types.specs.declared.names.TxId.{TxId}
use Rattle.ignite_types.specs.declared.text.Key.{Key}
use Rattle.node_state.specs.Node.{NodeState}
use Rattle.ignite_types.specs.declared.message.Message.TheVariants as msg
use Rattle.ignite_types.specs.declared.journal.Rec.TheVariants as note
use Rattle.act_rows.specs.Locks.{after_edges, after_get, after_lock, after_own_each, after_release, after_release_all, after_release_each, owner_at, with_queued, with_reader_if}
use Rattle.frame_laws.specs.Kits.{ClosedUnderWatchedSteps}
use Rattle.frame_laws.proofs.Kits.{sent_kept}
use Rattle.std.proofs.Common.{◌≡◌}
use Rattle.act_rows.specs.Primary.{wanted_keys}
use Rattle.frame_laws.proofs.Owners.{free_here, still_free}
use Rattle.part_model.specs.Queues.{first_blocked, other_owner}

module _ {watched : Bool} (R : NodeState → NodeState → Type 0) (kit : ClosedUnderWatchedSteps watched R) where
  pub lock_row_kept : (s : NodeState) (from : NodeId) (tx : TxId) (top : TopVer) (key : Key) →
      R s (after_lock s from tx top key)
  lock_row_kept = kit.placed

  pub released_kept : (s : NodeState) (tx : TxId) (key : Key) → R s (after_release s tx key)
  released_kept = kit.released

  pub released_all_kept : (s : NodeState) (tx : TxId) (keys : List Key) → R s (after_release_each s tx keys)
  released_all_kept s tx [] = kit.nothing s
  released_all_kept s tx (key ∷ keys) =
      kit.andthen s (after_release s tx key) (after_release_each (after_release s tx key) tx keys)
      (released_kept s tx key)
      (released_all_kept (after_release s tx key) tx keys)

  pub releases_kept : (s : NodeState) (tx : TxId) → R s (after_release_all s tx)
  releases_kept s tx = released_all_kept s tx (keys_queued_for s.queues tx)

  -- the keys are owned by no other transaction
  pub owns_each_kept : (s : NodeState) (tx : TxId) (top : TopVer) (ws : List Wanted) →
      first_blocked s.queues (wanted_keys ws) tx ≡ None → R s (after_own_each s tx top ws)
  owns_each_kept s tx top [] free = kit.nothing s
  owns_each_kept s tx top (w ∷ ws) free =
      let next = with_note (with_queued s tx w.key) (note.Grant tx top w.key) in
      let here = free_here w.key (other_owner tx (owner_at s w.key)) (first_blocked s.queues (wanted_keys ws) tx) free in
      kit.andthen s next (after_own_each next tx top ws) (kit.owned s tx top w.key here.0)
      (owns_each_kept next tx top ws (still_free s.queues tx w.key (wanted_keys ws) here.0 here.1))

  pub reads_for_kept : (s : NodeState) (from : NodeId) (near : Bool) (key : Key) → R s (with_reader_if s from near key)
  reads_for_kept s from true key = kit.aside s (record s { readers = with_reader s.readers key from }) refl
  reads_for_kept s from false key = kit.nothing s

  pub get_row_kept : (s : NodeState) (from : NodeId) (tx : TxId) (key : Key) (near : Bool) → R s (after_get s from tx key near)
  get_row_kept s from tx key near =
      kit.andthen s (with_reader_if s from near key) (after_get s from tx key near)
      (reads_for_kept s from near key)
      (sent_kept R kit (with_reader_if s from near key) from (msg.GetOk tx key (found_at s key)) refl)

  pub edges_row_kept : (s : NodeState) (from : NodeId) (tx : TxId) (round : ℕ) (txs : List TxId) →
      R s (after_edges s from tx round txs)
  edges_row_kept s from tx round txs = let waits = edges_of s.queues txs in
      kit.andthen s (with_note s (note.Waits tx round waits)) (with_out (with_note s (note.Waits tx round waits)) from
      (msg.EdgesOk tx round s.acts waits))
      (kit.noting s (note.Waits tx round waits) refl refl refl)
      (sent_kept R kit (with_note s (note.Waits tx round waits)) from (msg.EdgesOk tx round s.acts waits) refl)
