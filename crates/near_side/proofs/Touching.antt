-- A key that is touched leaves the near caches as they are.
use Rattle.std.proofs.Common.{None, Some, ◌≡◌}
use Rattle.act_rows.specs.Accesses.{with_touched}
use Rattle.act_rows.specs.Steps.{entry_of, near_of, on_entry}
use Rattle.part_model.specs.NearEntries.{near_entry}
use Rattle.part_model.specs.declared.near.NearEntry.{NearEntry}
use Rattle.ignite_types.specs.Names.{key_cmp}
use Rattle.ignite_types.specs.declared.names.TxId.{TxId}
use Rattle.ignite_types.specs.declared.text.Key.{Key}
use Rattle.node_state.specs.declared.near.TxEntry.{TxEntry}
use Rattle.node_state.specs.Node.{NodeState}
use Rattle.ordered_set.specs.Members.{with_member}

pub still_near : (s : NodeState) (tx : TxId) (key : Key) (e : NearEntry) → near_entry (near_of s key) key ≡ Some e →
    near_entry (near_of (with_touched s tx key) key) key ≡ Some e
still_near s tx key e there =
    elim (entry_of s tx) as (λ o.
    near_entry (near_of (on_entry s tx (λ (t : TxEntry). record t { keys = with_member key_cmp t.keys key }) o) key) key
    ≡ Some e) [
      | None ↦ there
      | Some t ↦ there
    ]
