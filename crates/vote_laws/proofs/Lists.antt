-- Members of filtered lists, of sets with one member fewer or more, and names of tables.
use Rattle.std.proofs.Common.{◌≡◌, ◌⊎◌, inl, inr, List, [], ◌∷◌, Bool, true, false, if◌then◌else◌, Some, None, refl, ap, sym, subst, ◌∙◌}
use Rattle.std.specs.Prelude.{filter, map}
use Rattle.std.specs.Cmp.{IsTotalOrder}
use Rattle.std.specs.Ordering.{match_ordering, ordering_then}
use Rattle.std.specs.declared.cmp.Ordering.{Ordering}
use Rattle.std.specs.declared.cmp.Ordering.TheVariants.{Less, Equal, Greater}
use Rattle.std.specs.Ordering.{is_gt, is_lt, ordering_reverse}
use Rattle.std.proofs.Common.{true≢false}
use Rattle.std.specs.Cmp.{on_total, then_total}
use Rattle.std.proofs.lemmas.Cmp.{tied_itself}
use Rattle.std.proofs.lemmas.Map.Lookups.{CmpEqualImpliesEq}
use Rattle.act_rows.specs.Steps.{backup_cmp}
use Rattle.ignite_types.proofs.NameLaws.{exact_nodes, exact_txs, node_total, tx_total}
use Rattle.ignite_types.specs.Names.{node_cmp, tx_cmp}
use Rattle.ignite_types.specs.declared.names.NodeId.{NodeId}
use Rattle.node_state.specs.declared.primary.BackupName.{BackupName}
use Rattle.ordered_set.specs.Members.{with_member, without_member}
use Rattle.ordered_table.specs.Entries.{at}
use Rattle.ordered_table.specs.Places.{IsAscending, IsBelowAll}
use Rattle.owner_laws.specs.LockFacts.{In}
use Rattle.part_model.specs.Tables.{keys_where}
use Rattle.vote_laws.specs.VoteFacts.{Distinct}

less_back : {K : Type 0} {cmp : K → K → Ordering} (o : IsTotalOrder cmp) (x y : K) → cmp x y ≡ Less → cmp y x ≡ Greater
less_back o x y h = o.antisymm y x ∙ ap ordering_reverse h

greater_back : {K : Type 0} {cmp : K → K → Ordering} (o : IsTotalOrder cmp) (x y : K) → cmp x y ≡ Greater → cmp y x ≡ Less
greater_back o x y h = o.antisymm y x ∙ ap ordering_reverse h

-- Filters.

pub In-filter : {A : Type 0} (p : A → Bool) (x : A) (xs : List A) → p x ≡ true → In x xs → In x (filter p xs)
In-filter p x [] passes there = absurd there
In-filter p x (y ∷ ys) passes (inl is) = subst (λ c. In x (if c then y ∷ filter p ys else filter p ys))
    (sym (ap p (sym is) ∙ passes)) (inl is)
In-filter p x (y ∷ ys) passes (inr there) = by (p y) (In-filter p x ys passes there)
  where
    by : (c : Bool) → In x (filter p ys) → In x (if c then y ∷ filter p ys else filter p ys)
    by true here = inr here
    by false here = here

pub filter-In : {A : Type 0} (p : A → Bool) (x : A) (xs : List A) → In x (filter p xs) → In x xs
filter-In p x [] there = absurd there
filter-In p x (y ∷ ys) there = by (p y) (filter-In p x ys) there
  where
    by : (c : Bool) → (In x (filter p ys) → In x ys) → In x (if c then y ∷ filter p ys else filter p ys) → In x (y ∷ ys)
    by true more (inl is) = inl is
    by true more (inr here) = inr (more here)
    by false more here = inr (more here)

pub In-map : {A B : Type 0} (f : A → B) (x : A) (xs : List A) → In x xs → In (f x) (map f xs)
In-map f x [] there = absurd there
In-map f x (y ∷ ys) (inl is) = inl (ap f is)
In-map f x (y ∷ ys) (inr there) = inr (In-map f x ys there)

pub distinct_filter : (p : NodeId → Bool) (xs : List NodeId) → Distinct xs → Distinct (filter p xs)
distinct_filter p [] d = tt
distinct_filter p (x ∷ xs) d = by (p x) (distinct_filter p xs d.1)
  where
    by : (c : Bool) → Distinct (filter p xs) → Distinct (if c then x ∷ filter p xs else filter p xs)
    by true rest = (λ there. d.0 (filter-In p x xs there), rest)
    by false rest = rest

-- Sets of nodes.

-- who is in a set is in it with one fewer, or is that one
pub In-without : (k x : NodeId) (xs : List NodeId) → In x xs → In x (without_member node_cmp xs k) ⊎ (x ≡ k)
In-without k x [] there = absurd there
In-without k x (y ∷ ys) there =
    elim (node_cmp k y) as (λ r. node_cmp k y ≡ r → In x (match_ordering r (y ∷ ys) ys (y ∷ without_member node_cmp ys k))
    ⊎ (x ≡ k)) [
      | Less ↦ λ g. inl there
      | Equal ↦ λ g. first (exact_nodes k y g) there
      | Greater ↦ λ g. rest (λ here. In-without k x ys here) there
    ] refl
  where
    first : k ≡ y → In x (y ∷ ys) → In x ys ⊎ (x ≡ k)
    first same (inl is) = inr (is ∙ sym same)
    first same (inr here) = inl here

    later : In x (without_member node_cmp ys k) ⊎ (x ≡ k) → In x (y ∷ without_member node_cmp ys k) ⊎ (x ≡ k)
    later (inl is) = inl (inr is)
    later (inr is) = inr is

    rest : (In x ys → In x (without_member node_cmp ys k) ⊎ (x ≡ k)) → In x (y ∷ ys) → In x (y ∷ without_member node_cmp ys k)
        ⊎ (x ≡ k)
    rest more (inl is) = inl (inl is)
    rest more (inr here) = later (more here)

-- a set that rises
abbrev pub Rises : List NodeId → Type 0
Rises [] = Unit {0}
Rises (x ∷ xs) = ((y : NodeId) → In y xs → node_cmp x y ≡ Less) × Rises xs

pub rises_distinct : (xs : List NodeId) → Rises xs → Distinct xs
rises_distinct [] r = tt
rises_distinct (x ∷ xs) r = (
  λ there. let less = r.0 x there in let tied = tied_itself node_total x in
      absurd (cc (less, tied)),
  rises_distinct xs r.1,
)

with-In : (k y : NodeId) (xs : List NodeId) → In y (with_member node_cmp xs k) → In y xs ⊎ (y ≡ k)
with-In k y [] (inl is) = inr is
with-In k y [] (inr there) = absurd there
with-In k y (x ∷ xs) there =
    elim (node_cmp k x) as (λ r. In y (match_ordering r (k ∷ x ∷ xs) (x ∷ xs) (x ∷ with_member node_cmp xs k)) → In y (x ∷ xs)
    ⊎ (y ≡ k)) [
      | Less ↦ first
      | Equal ↦ λ here. inl here
      | Greater ↦ rest (λ here. with-In k y xs here)
    ] there
  where
    first : In y (k ∷ x ∷ xs) → In y (x ∷ xs) ⊎ (y ≡ k)
    first (inl is) = inr is
    first (inr here) = inl here

    later : In y xs ⊎ (y ≡ k) → In y (x ∷ xs) ⊎ (y ≡ k)
    later (inl is) = inl (inr is)
    later (inr is) = inr is

    rest : (In y (with_member node_cmp xs k) → In y xs ⊎ (y ≡ k)) → In y (x ∷ with_member node_cmp xs k) → In y (x ∷ xs)
        ⊎ (y ≡ k)
    rest more (inl is) = inl (inl is)
    rest more (inr here) = later (more here)

pub rises_with : (xs : List NodeId) (k : NodeId) → Rises xs → Rises (with_member node_cmp xs k)
rises_with [] k r = (λ y there. absurd there, tt)
rises_with (x ∷ xs) k r =
    elim (node_cmp k x) as (λ c. node_cmp k x ≡ c →
    Rises (match_ordering c (k ∷ x ∷ xs) (x ∷ xs) (x ∷ with_member node_cmp xs k))) [
      | Less ↦ λ g. (λ y there. below g y there, r)
      | Equal ↦ λ g. r
      | Greater ↦ λ g. (λ y there. above g y (with-In k y xs there), rises_with xs k r.1)
    ] refl
  where
    less_all : (y : NodeId) → node_cmp k x ≡ Less → node_cmp x y ≡ Less → node_cmp k y ≡ Less
    less_all y first second = node_total.trans k x y first second

    below : node_cmp k x ≡ Less → (y : NodeId) → In y (x ∷ xs) → node_cmp k y ≡ Less
    below g y (inl is) = subst (λ z. node_cmp k z ≡ Less) (sym is) g
    below g y (inr there) = less_all y g (r.0 y there)

    above : node_cmp k x ≡ Greater → (y : NodeId) → In y xs ⊎ (y ≡ k) → node_cmp x y ≡ Less
    above g y (inl there) = r.0 y there
    above g y (inr is) = subst (λ z. node_cmp x z ≡ Less) (sym is) (greater_back node_total k x g)

-- a set with one more member is not empty
pub with_some : {K : Type 0} (cmp : K → K → Ordering) (xs : List K) (k : K) → with_member cmp xs k ≡ [] → ⊥
with_some cmp [] k is = absurd (cc (is))
with_some cmp (x ∷ xs) k is =
    elim (cmp k x) as (λ r. match_ordering r (k ∷ x ∷ xs) (x ∷ xs) (x ∷ with_member cmp xs k) ≡ [] → ⊥) [
      | Less ↦ λ e. absurd (cc (e))
      | Equal ↦ λ e. absurd (cc (e))
      | Greater ↦ λ e. absurd (cc (e))
    ] is

-- Names of backup shares.

both_tied : (r s : Ordering) → ordering_then r s ≡ Equal → (r ≡ Equal) × (s ≡ Equal)
both_tied Less s tied = absurd (true≢false (ap is_lt tied))
both_tied Equal s tied = (refl, tied)
both_tied Greater s tied = absurd (true≢false (ap is_gt tied))

pub backup_total : IsTotalOrder backup_cmp
backup_total = then_total (on_total (λ (n : BackupName). n.tx) tx_total) (on_total (λ (n : BackupName). n.primary) node_total)

pub exact_backups : CmpEqualImpliesEq backup_cmp
exact_backups a b tied =
    let parts = both_tied (tx_cmp a.tx b.tx) (node_cmp a.primary b.primary) tied in
    (λ i. record { tx = exact_txs a.tx b.tx parts.0 i; primary = exact_nodes a.primary b.primary parts.1 i })

-- Names of a table that pass a test: the entry there passes it.

module _ {K V : Type 0} (cmp : K → K → Ordering) (o : IsTotalOrder cmp) (test : K × V → Bool) where
  below_all : (k u : K) (es : List (K × V)) → IsBelowAll cmp k es → In u (keys_where test es) → cmp k u ≡ Less
  below_all k u [] below there = absurd there
  below_all k u (e ∷ es) below there = by (test e) (λ here. below_all k u es below.1 here) there
    where
      by : (c : Bool) → (In u (keys_where test es) → cmp k u ≡ Less) →
          In u (if c then e.0 ∷ keys_where test es else keys_where test es) → cmp k u ≡ Less
      by true more (inl is) = subst (λ z. cmp k z ≡ Less) (sym is) below.0
      by true more (inr here) = more here
      by false more here = more here

  pub keys_tell : (es : List (K × V)) → IsAscending cmp es → (u : K) → In u (keys_where test es) → (v : V) →
      at cmp es u ≡ Some v → test (u, v) ≡ true
  keys_tell [] up u there v is = absurd there
  keys_tell (e ∷ es) up u there v is = by (test e) refl (λ here at_u. keys_tell es up.1 u here v at_u) there
    where
      later : (In u (keys_where test es) → at cmp es u ≡ Some v → test (u, v) ≡ true) → In u (keys_where test es) →
          test (u, v) ≡ true
      later more here =
          let greater = less_back o e.0 u (below_all e.0 u es up.0 here) in
          more here (subst (λ r. match_ordering r None (Some e.1) (at cmp es u) ≡ Some v) greater is)

      by : (c : Bool) → test e ≡ c → (In u (keys_where test es) → at cmp es u ≡ Some v → test (u, v) ≡ true) →
          In u (if c then e.0 ∷ keys_where test es else keys_where test es) → test (u, v) ≡ true
      by true passes more (inl same) =
          let tied = subst (λ z. cmp u z ≡ Equal) same (tied_itself o u) in
          let at_e = subst (λ r. match_ordering r None (Some e.1) (at cmp es u) ≡ Some v) tied is in
          let same_v : e.1 ≡ v = cc (at_e) in
          subst (λ z. test (z, v) ≡ true) (sym same) (subst (λ z. test (e.0, z) ≡ true) same_v passes)
      by true passes more (inr here) = later more here
      by false fails more here = later more here
