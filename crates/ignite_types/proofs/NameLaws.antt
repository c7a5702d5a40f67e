-- Laws of names, versions, keys and texts: their orders are total, and what compares equal or passes the test is the same.
use Rattle.std.proofs.Common.{false, refl, true, true≢false, ℕ, List, [], ◌∷◌, ◌≡◌, ap, arith}
use Rattle.std.specs.Cmp.{IsEquivalence, IsTotalOrder, and_equiv, first_so, nat_eq_equiv, on_equiv, on_total, second_so, then_total}
use Rattle.std.specs.Cmp.Lexicographic.{nat_list_eq_equiv, pointwise}
use Rattle.std.specs.Prelude.{nat_eq}
use Rattle.std.specs.declared.cmp.Ordering.{Ordering}
use Rattle.std.specs.declared.cmp.Ordering.TheVariants.{Less, Equal, Greater}
use Rattle.std.specs.Ordering.{is_gt, is_lt, nat_cmp, ordering_then}
use Rattle.std.proofs.lemmas.Bool.{eqb-true}
use Rattle.std.proofs.lemmas.Bool.Decides.{nat_tests}
use Rattle.std.proofs.lemmas.Cmp.{nat_cmp_total, nat_list_cmp_total}
use Rattle.std.proofs.lemmas.Map.Lookups.{CmpEqualImpliesEq, exact_bytes, exact_unsigned}
use Rattle.ignite_types.specs.Names.{key_cmp, node_cmp, same_key, same_node, same_top, same_tx, top_cmp, tx_cmp}
use Rattle.ignite_types.specs.declared.names.NodeId.{NodeId}
use Rattle.ignite_types.specs.declared.names.TopVer.{TopVer}
use Rattle.ignite_types.specs.declared.names.TxId.{TxId}
use Rattle.ignite_types.specs.declared.text.Key.{Key}

-- The orders are total.

pub node_total : IsTotalOrder node_cmp
node_total = on_total (λ (n : NodeId). n.0) nat_cmp_total

pub top_total : IsTotalOrder top_cmp
top_total = then_total (on_total (λ (t : TopVer). t.major) nat_cmp_total) (on_total (λ (t : TopVer). t.minor) nat_cmp_total)

pub tx_total : IsTotalOrder tx_cmp
tx_total =
    then_total (on_total (λ (t : TxId). t.node.0) nat_cmp_total)
    (then_total (on_total (λ (t : TxId). t.session) nat_cmp_total) (on_total (λ (t : TxId). t.number) nat_cmp_total))

pub key_total : IsTotalOrder key_cmp
key_total = then_total (on_total (λ (k : Key). k.cache) nat_cmp_total) (on_total (λ (k : Key). k.text) nat_list_cmp_total)

-- What compares equal is the same.

both_tied : (r s : Ordering) → ordering_then r s ≡ Equal → (r ≡ Equal) × (s ≡ Equal)
both_tied Less s tied = absurd (true≢false (ap is_lt tied))
both_tied Equal s tied = (refl, tied)
both_tied Greater s tied = absurd (true≢false (ap is_gt tied))

pub exact_nodes : CmpEqualImpliesEq node_cmp
exact_nodes a b tied = (λ i. record { 0 = exact_unsigned a.0 b.0 tied i })

pub exact_tops : CmpEqualImpliesEq top_cmp
exact_tops a b tied =
    let parts = both_tied _ _ tied in
    (λ i. record { major = exact_unsigned a.major b.major parts.0 i; minor = exact_unsigned a.minor b.minor parts.1 i })

pub exact_txs : CmpEqualImpliesEq tx_cmp
exact_txs a b tied =
    let parts = both_tied (node_cmp a.node b.node) _ tied in
    let rest = both_tied (nat_cmp a.session b.session) (nat_cmp a.number b.number) parts.1 in
    (λ i. record {
      node = exact_nodes a.node b.node parts.0 i;
      session = exact_unsigned a.session b.session rest.0 i;
      number =
          exact_unsigned a.number b.number rest.1 i;
    })

pub exact_keys : CmpEqualImpliesEq key_cmp
exact_keys a b tied =
    let parts = both_tied (nat_cmp a.cache b.cache) _ tied in
    (λ i. record { cache = exact_unsigned a.cache b.cache parts.0 i; text = exact_bytes a.text b.text parts.1 i })

-- Each one passes the test for the same with itself, and what passes it is the same.

pub key_equiv : IsEquivalence same_key
key_equiv = and_equiv (on_equiv (λ (k : Key). k.cache) nat_eq_equiv) (on_equiv (λ (k : Key). k.text) nat_list_eq_equiv)

pub tx_equiv : IsEquivalence same_tx
tx_equiv =
    and_equiv (and_equiv (on_equiv (λ (t : TxId). t.node.0) nat_eq_equiv) (on_equiv (λ (t : TxId). t.session) nat_eq_equiv))
    (on_equiv (λ (t : TxId). t.number) nat_eq_equiv)

pub same_node_itself : (a : NodeId) → same_node a a ≡ true
same_node_itself a = grind (arith, nat_tests)

pub same_top_itself : (a : TopVer) → same_top a a ≡ true
same_top_itself a = grind (arith, nat_tests)

pub same_tx_itself : (a : TxId) → same_tx a a ≡ true
same_tx_itself a = grind (arith, nat_tests)

pub same_key_itself : (a : Key) → same_key a a ≡ true
same_key_itself a = key_equiv.refl a

pub same_node_true : (a b : NodeId) → same_node a b ≡ true → a ≡ b
same_node_true a b same = exact_nodes a b (grind (arith, nat_tests))

pub same_top_true : (a b : TopVer) → same_top a b ≡ true → a ≡ b
same_top_true a b same =
    let major : a.major ≡ b.major = grind (arith, nat_tests) in
    let minor : a.minor ≡ b.minor = grind (arith, nat_tests) in
    (λ i. record { major = major i; minor = minor i })

pub same_tx_true : (a b : TxId) → same_tx a b ≡ true → a ≡ b
same_tx_true a b same = exact_txs a b (grind (arith, nat_tests))

pub texts_exact : (s t : List ℕ) → pointwise nat_eq s t ≡ true → s ≡ t
texts_exact [] [] h = refl
texts_exact [] (y ∷ t) h = absurd (cc)
texts_exact (x ∷ s) [] h = absurd (cc)
texts_exact (x ∷ s) (y ∷ t) h =
    let first : x ≡ y = eqb-true x y (first_so (nat_eq x y) (pointwise nat_eq s t) h) in
    let rest : s ≡ t = texts_exact s t (second_so (nat_eq x y) (pointwise nat_eq s t) h) in
    cc

pub same_key_true : (a b : Key) → same_key a b ≡ true → a ≡ b
same_key_true a b h =
    let cache : a.cache ≡ b.cache =
    eqb-true a.cache b.cache (first_so (nat_eq a.cache b.cache) (pointwise nat_eq a.text b.text) h) in
    let text : a.text ≡ b.text =
    texts_exact a.text b.text (second_so (nat_eq a.cache b.cache) (pointwise nat_eq a.text b.text) h) in
    (λ i. record { cache = cache i; text = text i })
