-- What holds of each member of a list.
use Rattle.std.proofs.Common.{◌≡◌, ◌++◌, ◌&&◌, List, [], ◌∷◌, Some, None, Bool, true, false, if◌then◌else◌, filter, refl, sym, subst}
use Rattle.std.specs.List.{find, list_all}
use Rattle.std.specs.Ordering.{match_ordering}
use Rattle.std.specs.Prelude.{drop, slice_get}
use Rattle.std.specs.declared.cmp.Ordering.TheVariants.{Less, Equal, Greater}
use Rattle.act_rows.specs.Steps.{outs_to}
use Rattle.part_model.specs.Directory.{node_set}
use Rattle.ignite_types.specs.Names.{node_cmp}
use Rattle.ignite_types.specs.declared.message.Message.{Message}
use Rattle.ignite_types.specs.declared.message.Out.{Out}
use Rattle.ignite_types.specs.declared.names.NodeId.{NodeId}
use Rattle.ignite_types.specs.declared.scenario.Member.{Member}
use Rattle.link_laws.proofs.Places.{some_is}
use Rattle.ordered_set.specs.Members.{has, with_member, without_member}
use Rattle.topology_laws.specs.TopologyFacts.{HoldsOfEach}

pub each_change : {A : Type 0} (P Q : A → Type 0) (xs : List A) → ((x : A) → P x → Q x) → HoldsOfEach P xs → HoldsOfEach Q xs
each_change P Q [] f all = tt
each_change P Q (x ∷ xs) f all = (f x all.0, each_change P Q xs f all.1)

pub each_both : {A : Type 0} (P : A → Type 0) (xs ys : List A) → HoldsOfEach P xs → HoldsOfEach P ys → HoldsOfEach P (xs ++ ys)
each_both P [] ys first second = second
each_both P (x ∷ xs) ys first second = (first.0, each_both P xs ys first.1 second)

pub each_filter : {A : Type 0} (P : A → Type 0) (test : A → Bool) (xs : List A) → HoldsOfEach P xs →
    HoldsOfEach P (filter test xs)
each_filter P test [] all = tt
each_filter P test (x ∷ xs) all =
    elim (test x) as (λ b. HoldsOfEach P (if b then x ∷ filter test xs else filter test xs)) [
      | true ↦ (all.0, each_filter P test xs all.1)
      | false ↦ each_filter P test xs all.1
    ]

pub each_rest : {A : Type 0} (P : A → Type 0) (xs : List A) → HoldsOfEach P xs → HoldsOfEach P (drop 1 xs)
each_rest P [] all = tt
each_rest P (x ∷ xs) all = all.1

pub each_first : {A : Type 0} (P : A → Type 0) (xs : List A) (x : A) → slice_get xs 0 ≡ Some x → HoldsOfEach P xs → P x
each_first P [] x is all = absurd (cc)
each_first P (y ∷ ys) x is all = subst P (some_is y x is) all.0

pub each_with : (P : NodeId → Type 0) (xs : List NodeId) (k : NodeId) → P k → HoldsOfEach P xs →
    HoldsOfEach P (with_member node_cmp xs k)
each_with P [] k here all = (here, tt)
each_with P (x ∷ xs) k here all =
    elim (node_cmp k x) as (λ r. HoldsOfEach P (match_ordering r (k ∷ x ∷ xs) (x ∷ xs) (x ∷ with_member node_cmp xs k))) [
      | Less ↦ (here, all)
      | Equal ↦ all
      | Greater ↦ (all.0, each_with P xs k here all.1)
    ]

pub each_without : (P : NodeId → Type 0) (xs : List NodeId) (k : NodeId) → HoldsOfEach P xs →
    HoldsOfEach P (without_member node_cmp xs k)
each_without P [] k all = tt
each_without P (x ∷ xs) k all =
    elim (node_cmp k x) as (λ r. HoldsOfEach P (match_ordering r (x ∷ xs) xs (x ∷ without_member node_cmp xs k))) [
      | Less ↦ all
      | Equal ↦ all.1
      | Greater ↦ (all.0, each_without P xs k all.1)
    ]

pub each_node : (P : NodeId → Type 0) (ids : List NodeId) (ms : List Member) → HoldsOfEach P ids →
    HoldsOfEach (λ (m : Member). P m.node) ms → HoldsOfEach P (node_set ids ms)
each_node P ids [] all more = all
each_node P ids (m ∷ ms) all more = each_node P (with_member node_cmp ids m.node) ms (each_with P ids m.node more.0 all) more.1

-- a message to each
pub each_out : (P : Out → Type 0) (nodes : List NodeId) (m : Message) →
    HoldsOfEach (λ (n : NodeId). P (record { to = n; msg = m })) nodes → HoldsOfEach P (outs_to nodes m)
each_out P [] m all = tt
each_out P (n ∷ ns) m all = (all.0, each_out P ns m all.1)

-- Tests.

pub all_each : {A : Type 0} (test : A → Bool) (xs : List A) → list_all test xs ≡ true → HoldsOfEach (λ x. test x ≡ true) xs
all_each test [] all = tt
all_each test (x ∷ xs) all =
    (elim (test x) as (λ b. test x ≡ b → (b && list_all test xs) ≡ true → HoldsOfEach (λ y. test y ≡ true) (x ∷ xs)) [
      | true ↦ λ t rest. (t, all_each test xs rest)
      | false ↦ λ f none. absurd (cc)
    ]) refl all

pub each_all : {A : Type 0} (test : A → Bool) (xs : List A) → HoldsOfEach (λ x. test x ≡ true) xs → list_all test xs ≡ true
each_all test [] all = refl
each_all test (x ∷ xs) all = rw all.0 (each_all test xs all.1)

-- the one that was found
pub found_there : {A : Type 0} (P : A → Type 0) (test : A → Bool) (xs : List A) (x : A) → find test xs ≡ Some x →
    HoldsOfEach P xs → P x × (test x ≡ true)
found_there P test [] x is all = absurd (cc)
found_there P test (y ∷ ys) x is all =
    (elim (test y) as (λ b. test y ≡ b → (if b then Some y else find test ys) ≡ Some x → P x × (test x ≡ true)) [
      | true ↦ λ t e. let same = some_is y x e in (subst P same all.0, subst (λ z. test z ≡ true) same t)
      | false ↦ λ f e. found_there P test ys x e all.1
    ]) refl is

pub found_more : {A : Type 0} (test : A → Bool) (xs ys : List A) (x : A) → find test xs ≡ Some x → find test (xs ++ ys) ≡ Some x
found_more test [] ys x is = absurd (cc)
found_more test (y ∷ xs) ys x is =
    (elim (test y) as (λ b. (if b then Some y else find test xs) ≡ Some x → (if b then Some y else find test (xs ++ ys))
    ≡ Some x) [
      | true ↦ λ e. e
      | false ↦ λ e. found_more test xs ys x e
    ]) is

pub none_more : {A : Type 0} (test : A → Bool) (xs ys : List A) → find test xs ≡ None → find test (xs ++ ys) ≡ find test ys
none_more test [] ys none = refl
none_more test (y ∷ xs) ys none =
    (elim (test y) as (λ b. (if b then Some y else find test xs) ≡ None → (if b then Some y else find test (xs ++ ys))
    ≡ find test ys) [
      | true ↦ λ e. absurd (cc (e))
      | false ↦ λ e. none_more test xs ys e
    ]) none

-- who is in a set for which a test holds passes it
pub has_passes : (test : NodeId → Bool) (xs : List NodeId) (k : NodeId) → ((a b : NodeId) → node_cmp a b ≡ Equal → a ≡ b) →
    list_all test xs ≡ true → has node_cmp xs k ≡ true → test k ≡ true
has_passes test [] k exact all is = absurd (cc)
has_passes test (x ∷ xs) k exact all is =
    let both = all_each test (x ∷ xs) all in
    (elim (node_cmp k x) as (λ r. node_cmp k x ≡ r → match_ordering r false true (has node_cmp xs k) ≡ true → test k ≡ true) [
      | Less ↦ λ g e. absurd (cc)
      | Equal ↦ λ g e. subst (λ (n : NodeId). test n ≡ true) (sym (exact k x g)) both.0
      | Greater ↦ λ g e. has_passes test xs k exact (each_all test xs both.1) e
    ]) refl is
