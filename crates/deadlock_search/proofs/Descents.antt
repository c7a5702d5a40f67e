-- A descent with depth left tries the edges of its transaction.
use Rattle.std.proofs.Common.{◌≡◌, ◌-◌, List, arith, refl, suc, zero, ℕ}
use Rattle.part_model.specs.Cycles.{way_down, way_through_each}
use Rattle.ignite_types.specs.declared.message.Edge.{Edge}
use Rattle.ignite_types.specs.declared.names.TxId.{TxId}

pub descends_below : (depth : ℕ) (tx : TxId) (edges : List Edge) (entered : List TxId) (at_tx : TxId) → (depth ≡ 0 → ⊥) →
    way_down depth tx edges entered at_tx ≡ way_through_each (λ seen holder. way_down (depth - 1) tx edges seen holder) tx
    at_tx entered edges
descends_below zero tx edges entered at_tx h = absurd (h refl)
descends_below (suc depth) tx edges entered at_tx h = let e : suc depth - 1 ≡ depth = omega arith in rw e refl
