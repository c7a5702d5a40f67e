-- The orders of names, the test for the same transaction, and puts at the same name and at others.
use Rattle.std.proofs.Common.{◌≡◌, ◌≢◌, List, [], ◌∷◌, Some, None, true, false, is_some, ℕ, refl, ap, sym, arith}
use Rattle.std.specs.Cmp.{IsTotalOrder, then_total, on_total}
use Rattle.std.specs.Ordering.{match_ordering, nat_cmp}
use Rattle.std.specs.declared.cmp.Ordering.TheVariants.{Less, Equal, Greater}
use Rattle.std.proofs.lemmas.Bool.Decides.{nat_tests}
use Rattle.std.proofs.lemmas.Cmp.{nat_cmp_total, nat_list_cmp_total}
use Rattle.std.proofs.lemmas.Map.Lookups.{exact_unsigned}
use Rattle.part_model.specs.Tables.{keys_in}
use Rattle.ignite_types.proofs.NameLaws.{exact_nodes, exact_txs, node_total, same_node_itself, same_tx_itself, tx_total}
use Rattle.ignite_types.specs.Names.{node_cmp, same_node, same_tx, tx_cmp}
use Rattle.ignite_types.specs.declared.names.NodeId.{NodeId}
use Rattle.ignite_types.specs.declared.names.TxId.{TxId}
use Rattle.ordered_set.specs.Members.{has, with_member}
use Rattle.ordered_table.proofs.Laws as laws
use Rattle.ordered_table.specs.Entries.{at, put}

pub tx_put_put : {V : Type 0} (es : List (TxId × V)) (tx : TxId) (v w : V) →
    put tx_cmp (put tx_cmp es tx v) tx w ≡ put tx_cmp es tx w
tx_put_put = laws.put_put tx_cmp tx_total

pub node_put_put : {V : Type 0} (es : List (NodeId × V)) (node : NodeId) (v w : V) →
    put node_cmp (put node_cmp es node v) node w ≡ put node_cmp es node w
node_put_put = laws.put_put node_cmp node_total

-- a transaction that is another one compares unequal
pub tx_apart : (a b : TxId) → same_tx a b ≡ false → tx_cmp b a ≢ Equal
tx_apart a b other tied =
    let is : b ≡ a = exact_txs b a tied in
    let itself = same_tx_itself a in
    let same = rw is at other in
    absurd (cc)

pub node_apart : (a b : NodeId) → same_node a b ≡ false → node_cmp b a ≢ Equal
node_apart a b other tied =
    let is : b ≡ a = exact_nodes b a tied in
    let itself = same_node_itself a in
    let same = rw is at other in
    absurd (cc)

pub session_apart : (a b : ℕ) → a ≢ b → nat_cmp b a ≢ Equal
session_apart a b other tied = other (sym (exact_unsigned b a tied))

-- which transactions are over, as a table and as a set
pub keys_put : (es : List (TxId × Unit {0})) (tx : TxId) → keys_in (put tx_cmp es tx tt) ≡ with_member tx_cmp (keys_in es) tx
keys_put [] tx = refl
keys_put (e ∷ es) tx =
    elim (tx_cmp tx e.0) as (λ r. tx_cmp tx e.0 ≡ r →
    keys_in (match_ordering r ((tx, tt) ∷ e ∷ es) ((tx, tt) ∷ es) (e ∷ put tx_cmp es tx tt)) ≡ match_ordering r
    (tx ∷ e.0 ∷ keys_in es) (e.0 ∷ keys_in es) (e.0 ∷ with_member tx_cmp (keys_in es) tx)) [
      | Less ↦ λ g. refl
      | Equal ↦ λ g. ap (λ (x : TxId). x ∷ keys_in es) (exact_txs tx e.0 g)
      | Greater ↦ λ g. ap (λ r. e.0 ∷ r) (keys_put es tx)
    ] refl

pub has_keys : (es : List (TxId × Unit {0})) (tx : TxId) → has tx_cmp (keys_in es) tx ≡ is_some (at tx_cmp es tx)
has_keys [] tx = refl
has_keys (e ∷ es) tx =
    elim (tx_cmp tx e.0) as (λ r. match_ordering r false true (has tx_cmp (keys_in es) tx) ≡ is_some
    (match_ordering r None (Some e.1) (at tx_cmp es tx))) [
      | Less ↦ refl
      | Equal ↦ refl
      | Greater ↦ has_keys es tx
    ]
