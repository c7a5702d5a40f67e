-- In an ascending set of nodes each stands once, and one that is taken out stands there no more.
use Rattle.std.proofs.Common.{◌≡◌, ◌≤◌, ◌<◌, List, [], ◌∷◌, true, false, if◌then◌else◌, filter, length, ℕ, suc, refl, ap, arith}
use Rattle.std.specs.Ordering.{match_ordering}
use Rattle.std.specs.Prelude.{nat_le}
use Rattle.std.specs.declared.cmp.Ordering.TheVariants.{Less, Equal, Greater}
use Rattle.std.proofs.lemmas.Bool.Decides.{nat_tests}
use Rattle.part_model.specs.Directory.{node_set}
use Rattle.ignite_types.specs.Names.{node_cmp, same_node}
use Rattle.ignite_types.specs.declared.names.NodeId.{NodeId}
use Rattle.ignite_types.specs.declared.scenario.Member.{Member}
use Rattle.link_laws.proofs.Journals.{first_rest}
use Rattle.link_laws.proofs.Openings.{greater_is, less_is, rises, set_rises}
use Rattle.ordered_set.specs.Members.{without_member}
use Rattle.topology_laws.proofs.Counts.{times}
use Rattle.topology_laws.proofs.Sounds.{exact_node}

-- who is below all stands nowhere
below_none : (xs : List NodeId) (lo : ℕ) (x : NodeId) → rises lo xs ≡ true → x.0 < lo → times x xs ≡ 0
below_none [] lo x up low = refl
below_none (y ∷ ys) lo x up low =
    let both = first_rest (nat_le lo y.0) (rises (suc y.0) ys) up in
    let above : lo ≤ y.0 = grind (arith, nat_tests, both.0) in
    let other : same_node y x ≡ false = grind (arith, nat_tests, above, low) in
    rw other (below_none ys (suc y.0) x both.1 (omega (arith, above, low)))

pub once_there : (xs : List NodeId) (lo : ℕ) (x : NodeId) → rises lo xs ≡ true → times x xs ≤ 1
once_there [] lo x up = omega arith
once_there (y ∷ ys) lo x up =
    let both = first_rest (nat_le lo y.0) (rises (suc y.0) ys) up in
    elim (same_node y x) as (λ b. same_node y x ≡ b →
    length (if b then y ∷ filter (λ (z : NodeId). same_node z x) ys else filter (λ (z : NodeId). same_node z x) ys) ≤ 1) [
      | true ↦ λ t.
          let same : y.0 ≡ x.0 = grind (arith, nat_tests, t) in
          let none = below_none ys (suc y.0) x both.1 (omega (arith, same)) in
          omega (arith, none)
      | false ↦ λ f. once_there ys (suc y.0) x both.1
    ] refl

without_rises : (xs : List NodeId) (lo : ℕ) (k : NodeId) → rises lo xs ≡ true → rises lo (without_member node_cmp xs k) ≡ true
without_rises [] lo k up = refl
without_rises (y ∷ ys) lo k up =
    let both = first_rest (nat_le lo y.0) (rises (suc y.0) ys) up in
    elim (node_cmp k y) as (λ r. rises lo (match_ordering r (y ∷ ys) ys (y ∷ without_member node_cmp ys k)) ≡ true) [
      | Less ↦ up
      | Equal ↦ weaker ys lo (suc y.0) (grind (arith, nat_tests, both.0)) both.1
      | Greater ↦ rw both.0 (without_rises ys (suc y.0) k both.1)
    ]
  where
    weaker : (zs : List NodeId) (a b : ℕ) → a ≤ b → rises b zs ≡ true → rises a zs ≡ true
    weaker [] a b le up2 = refl
    weaker (z ∷ zs) a b le up2 =
        let two = first_rest (nat_le b z.0) (rises (suc z.0) zs) up2 in
        let low : nat_le a z.0 ≡ true = grind (arith, nat_tests, two.0, le) in
        rw low two.1

not_there : (xs : List NodeId) (lo : ℕ) (k : NodeId) → rises lo xs ≡ true → times k (without_member node_cmp xs k) ≡ 0
not_there [] lo k up = refl
not_there (y ∷ ys) lo k up =
    let both = first_rest (nat_le lo y.0) (rises (suc y.0) ys) up in
    elim (node_cmp k y) as (λ r. node_cmp k y ≡ r → times k (match_ordering r (y ∷ ys) ys (y ∷ without_member node_cmp ys k))
    ≡ 0) [
      | Less ↦ λ g.
          let less = less_is k.0 y.0 g in
          let other : same_node y k ≡ false = grind (arith, nat_tests, less) in
          rw other (below_none ys (suc y.0) k both.1 (omega (arith, less)))
      | Equal ↦ λ g.
          let same : k.0 ≡ y.0 = ap (λ (z : NodeId). z.0) (exact_node k y g) in
          below_none ys (suc y.0) k both.1 (omega (arith, same))
      | Greater ↦ λ g.
          let more = greater_is k.0 y.0 g in
          let other : same_node y k ≡ false = grind (arith, nat_tests, more) in
          rw other (not_there ys (suc y.0) k both.1)
    ] refl

pub others_once : (ms : List Member) (me x : NodeId) → times x (without_member node_cmp (node_set [] ms) me) ≤ 1
others_once ms me x = once_there (without_member node_cmp (node_set [] ms) me) 0 x
    (without_rises (node_set [] ms) 0 me (set_rises [] ms refl))

pub others_not_me : (ms : List Member) (me : NodeId) → times me (without_member node_cmp (node_set [] ms) me) ≡ 0
others_not_me ms me = not_there (node_set [] ms) 0 me (set_rises [] ms refl)
