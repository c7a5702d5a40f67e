-- Versions rise with each topology event.
use Rattle.std.proofs.Common.{◌≡◌, ◌≢◌, ◌≤◌, ◌<◌, ◌+◌, ◌-◌, ◌==◌, ◌^◌, inl, inr, ◌++◌, List, [], ◌∷◌, Some, true, false, length, ℕ, zero, suc, refl, ap, sym, subst, ◌∙◌, arith, cond}
use Rattle.std.specs.Ordering.{nat_cmp, ordering_then}
use Rattle.std.specs.declared.cmp.Ordering.TheVariants.{Less, Equal, Greater}
use Rattle.std.specs.Prelude.{nat_lt, slice_get, take}
use Rattle.std.proofs.lemmas.Bool.Decides.{nat_tests}
use Rattle.std.proofs.lemmas.List.{take-append-le}
use Rattle.std.proofs.Math.Nat.{min-eq_left, min-le_left}
use Rattle.link_laws.proofs.Places.{some_is}
use Rattle.part_model.specs.Directory.{first_top, version_after}
use Rattle.part_model.specs.Orders.{is_less, is_lower_top, next_count}
use Rattle.ignite_types.specs.declared.journal.TopoEvent.{TopoEvent}
use Rattle.ignite_types.specs.declared.names.TopVer.{TopVer}
use Rattle.ignite_types.specs.declared.scenario.Scenario.{Scenario}
use Rattle.journal_statements.specs.Topologies.{Topology, first_topology, last_topology, topology_after}
use Rattle.topology_laws.specs.TopologyFacts.{IsUpTo, IsBelow}
use Rattle.ignite_types.specs.declared.journal.TopoEvent.TheVariants as topo

pub up_itself : (a : TopVer) → IsUpTo a a
up_itself a = inr (refl, omega arith)

pub up_twice : (a b c : TopVer) → IsUpTo a b → IsUpTo b c → IsUpTo a c
up_twice a b c (inl x) (inl y) = inl (omega (arith, x, y))
up_twice a b c (inl x) (inr y) = inl (omega (arith, x, y.0))
up_twice a b c (inr x) (inl y) = inl (omega (arith, x.0, y))
up_twice a b c (inr x) (inr y) = inr (x.0 ∙ y.0, omega (arith, x.1, y.1))

pub below_up : (a b : TopVer) → IsBelow a b → IsUpTo a b
below_up a b (inl x) = inl x
below_up a b (inr x) = inr (x.0, omega (arith, x.1))

pub up_below : (a b c : TopVer) → IsUpTo a b → IsBelow b c → IsBelow a c
up_below a b c (inl x) (inl y) = inl (omega (arith, x, y))
up_below a b c (inl x) (inr y) = inl (omega (arith, x, y.0))
up_below a b c (inr x) (inl y) = inl (omega (arith, x.0, y))
up_below a b c (inr x) (inr y) = inr (x.0 ∙ y.0, omega (arith, x.1, y.1))

pub below_not : (a b : TopVer) → IsBelow a b → a ≢ b
below_not a b (inl x) same = let major : a.major ≡ b.major = ap (λ (t : TopVer). t.major) same in
    absurd (omega (arith, x, major))
below_not a b (inr x) same = let minor : a.minor ≡ b.minor = ap (λ (t : TopVer). t.minor) same in
    absurd (omega (arith, x.1, minor))

top_is : (a b : TopVer) → a.major ≡ b.major → a.minor ≡ b.minor → a ≡ b
top_is a b major minor = λ i. record { major = major i; minor = minor i }

pub up_both : (a b : TopVer) → IsUpTo a b → IsUpTo b a → a ≡ b
up_both a b (inl x) (inl y) = absurd (omega (arith, x, y))
up_both a b (inl x) (inr y) = absurd (omega (arith, x, y.0))
up_both a b (inr x) (inl y) = absurd (omega (arith, x.0, y))
up_both a b (inr x) (inr y) = top_is a b x.0 (omega (arith, x.1, y.1))

pub lower_below : (a b : TopVer) → is_lower_top a b ≡ true → IsBelow a b
lower_below a b lower =
    (elim (nat_lt a.major b.major) as (λ r. nat_lt a.major b.major ≡ r →
    is_less (ordering_then (cond r Less (cond (a.major == b.major) Equal Greater)) (nat_cmp a.minor b.minor)) ≡ true →
    IsBelow a b) [
      | true ↦ λ t e. inl (grind (arith, nat_tests, t))
      | false ↦ λ f e.
          (elim (a.major == b.major) as (λ r. (a.major == b.major) ≡ r →
          is_less (ordering_then (cond r Equal Greater) (nat_cmp a.minor b.minor)) ≡ true → IsBelow a b) [
            | true ↦ λ t e2.
                (elim (nat_lt a.minor b.minor) as (λ r. nat_lt a.minor b.minor ≡ r →
                is_less (cond r Less (cond (a.minor == b.minor) Equal Greater)) ≡ true → IsBelow a b) [
                  | true ↦ λ t2 e3. inr (grind (arith, nat_tests, t), grind (arith, nat_tests, t2))
                  | false ↦ λ f2 e3.
                      (elim (a.minor == b.minor) as (λ r. is_less (cond r Equal Greater) ≡ true → IsBelow a b) [
                        | true ↦ λ e4. absurd (cc (e4))
                        | false ↦ λ e4. absurd (cc (e4))
                      ]) e3
                ]) refl e2
            | false ↦ λ f3 e2. absurd (cc (e2))
          ]) refl e
    ]) refl lower

pub lower_up : (a b : TopVer) → is_lower_top a b ≡ true → IsUpTo a b
lower_up a b lower = below_up a b (lower_below a b lower)

pub below_not_up : (a b : TopVer) → IsBelow a b → IsUpTo b a → ⊥
below_not_up a b (inl x) (inl y) = absurd (omega (arith, x, y))
below_not_up a b (inl x) (inr y) = absurd (omega (arith, x, y.0))
below_not_up a b (inr x) (inl y) = absurd (omega (arith, x.0, y))
below_not_up a b (inr x) (inr y) = absurd (omega (arith, x.1, y.1))

-- Numbers that stand still at their end are still below it.

pub raised_is : (n : ℕ) → n < 2 ^ 63 → next_count n ≡ suc n
raised_is n small = min-eq_left (omega (arith, small)) ∙ add_one n
  where
    add_one : (m : ℕ) → m + 1 ≡ suc m
    add_one m = omega arith

pub raised_up : (n : ℕ) → next_count n ≤ suc n
raised_up n = let least = min-le_left (n + 1) (2 ^ 64 - 1) in omega (arith, least)

abbrev sum_of : TopVer → ℕ
sum_of t = t.major + t.minor

after_sum : (t : TopVer) (e : TopoEvent) → sum_of (version_after t e) ≤ suc (sum_of t)
after_sum t (topo.Join member) = let up = raised_up t.major in omega (arith, up)
after_sum t (topo.Left node) = let up = raised_up t.major in omega (arith, up)
after_sum t topo.Minor = let up = raised_up t.minor in omega (arith, up)
after_sum t (topo.Start cache) = let up = raised_up t.minor in omega (arith, up)
after_sum t (topo.Stop cache) = let up = raised_up t.minor in omega (arith, up)

after_rises : (t : TopVer) (e : TopoEvent) → sum_of t < 2 ^ 63 → IsBelow t (version_after t e)
after_rises t (topo.Join member) small = let up = raised_is t.major (omega (arith, small)) in inl (omega (arith, up))
after_rises t (topo.Left node) small = let up = raised_is t.major (omega (arith, small)) in inl (omega (arith, up))
after_rises t topo.Minor small = let up = raised_is t.minor (omega (arith, small)) in inr (refl, omega (arith, up))
after_rises t (topo.Start cache) small = let up = raised_is t.minor (omega (arith, small)) in inr (refl, omega (arith, up))
after_rises t (topo.Stop cache) small = let up = raised_is t.minor (omega (arith, small)) in inr (refl, omega (arith, up))

-- The topology after so many events.

pub last_push : (t : Topology) (es : List TopoEvent) (e : TopoEvent) → last_topology t (es ++ e ∷ []) ≡ topology_after
    (last_topology t es) e
last_push t [] e = refl
last_push t (x ∷ es) e = last_push (topology_after t x) es e

pub take_one_more : {A : Type 0} (xs : List A) (k : ℕ) (x : A) → slice_get xs k ≡ Some x → take (suc k) xs ≡ take k xs ++ x ∷ []
take_one_more [] k x is = absurd (cc)
take_one_more (y ∷ ys) zero x is = ap (λ z. z ∷ []) (some_is y x is)
take_one_more (y ∷ ys) (suc k) x is = ap (λ zs. y ∷ zs) (take_one_more ys k x is)

pub one_more : (t : Topology) (es : List TopoEvent) (k : ℕ) (e : TopoEvent) → slice_get es k ≡ Some e →
    last_topology t (take (suc k) es) ≡ topology_after (last_topology t (take k es)) e
one_more t es k e is = ap (last_topology t) (take_one_more es k e is) ∙ last_push t (take k es) e

pub there_at : {A : Type 0} (xs : List A) (k : ℕ) → k < length xs → (x : A) × (slice_get xs k ≡ Some x)
there_at [] k within = absurd (omega (arith, within))
there_at (x ∷ xs) zero within = (x, refl)
there_at (x ∷ xs) (suc k) within = there_at xs k (omega (arith, within))

top_sum : (s : Scenario) (es : List TopoEvent) (k : ℕ) → k ≤ length es →
    sum_of (last_topology (first_topology s) (take k es)).top ≤ suc k
top_sum s es zero within = omega arith
top_sum s es (suc k) within =
    let x = there_at es k (omega (arith, within)) in
    let before = top_sum s es k (omega (arith, within)) in
    let next = after_sum (last_topology (first_topology s) (take k es)).top x.0 in
    let is : (last_topology (first_topology s) (take (suc k) es)).top ≡ version_after
    (last_topology (first_topology s) (take k es)).top x.0 =
    ap (λ (t : Topology). t.top) (one_more (first_topology s) es k x.0 x.1) in
    rw is (omega (arith, before, next))

abbrev pub top_at : Scenario → List TopoEvent → ℕ → TopVer
top_at s es k = (last_topology (first_topology s) (take k es)).top

pub next_below : (s : Scenario) (es : List TopoEvent) (k : ℕ) (e : TopoEvent) → length es < 2 ^ 63 → slice_get es k ≡ Some e →
    k < length es → IsBelow (top_at s es k) (version_after (top_at s es k) e)
next_below s es k e few is within = let sum = top_sum s es k (omega (arith, within)) in
    after_rises (top_at s es k) e (omega (arith, sum, few, within))

next_rises : (s : Scenario) (es : List TopoEvent) (k : ℕ) → length es < 2 ^ 63 → k < length es →
    IsBelow (top_at s es k) (top_at s es (suc k))
next_rises s es k few within =
    let x = there_at es k within in
    subst (λ (t : Topology). IsBelow (top_at s es k) t.top) (sym (one_more (first_topology s) es k x.0 x.1))
    (next_below s es k x.0 few x.1 within)

pub rises : (s : Scenario) (es : List TopoEvent) (j k : ℕ) → length es < 2 ^ 63 → j < k → k ≤ length es →
    IsBelow (top_at s es j) (top_at s es k)
rises s es j zero few less within = absurd (omega (arith, less))
rises s es j (suc k) few less within =
    elim (nat_lt j k) as (λ b. nat_lt j k ≡ b → IsBelow (top_at s es j) (top_at s es (suc k))) [
      | true ↦ λ t.
          let before = rises s es j k few (grind (arith, nat_tests, t)) (omega (arith, within)) in
          up_below (top_at s es j) (top_at s es k) (top_at s es (suc k)) (below_up (top_at s es j) (top_at s es k) before)
          (next_rises s es k few within)
      | false ↦ λ f.
          let same : k ≡ j = grind (arith, nat_tests, f, less) in
          subst (λ (i : ℕ). IsBelow (top_at s es i) (top_at s es (suc k))) same (next_rises s es k few within)
    ] refl

-- a version stands at one place only
pub one_place : (s : Scenario) (es : List TopoEvent) (j k : ℕ) → length es < 2 ^ 63 → j ≤ length es → k ≤ length es →
    top_at s es j ≡ top_at s es k → j ≡ k
one_place s es j k few at_j at_k same =
    elim (nat_lt j k) as (λ b. nat_lt j k ≡ b → j ≡ k) [
      | true ↦ λ t. absurd (below_not (top_at s es j) (top_at s es k) (rises s es j k few (grind (arith, nat_tests, t)) at_k)
          same)
      | false ↦ λ f.
          elim (nat_lt k j) as (λ b. nat_lt k j ≡ b → j ≡ k) [
            | true ↦ λ t2. absurd (below_not (top_at s es k) (top_at s es j)
                (rises s es k j few (grind (arith, nat_tests, t2)) at_j) (sym same))
            | false ↦ λ f2. grind (arith, nat_tests, f, f2)
          ] refl
    ] refl

-- no version is below the first
pub first_up : (s : Scenario) (es : List TopoEvent) (k : ℕ) → length es < 2 ^ 63 → k ≤ length es →
    IsUpTo first_top (top_at s es k)
first_up s es zero few within = up_itself first_top
first_up s es (suc k) few within = below_up first_top (top_at s es (suc k)) (rises s es 0 (suc k) few (omega arith) within)

-- more events leave what was as it was
pub more_events : (s : Scenario) (es more : List TopoEvent) (k : ℕ) → k ≤ length es →
    last_topology (first_topology s) (take k (es ++ more)) ≡ last_topology (first_topology s) (take k es)
more_events s es more k within = ap (last_topology (first_topology s)) (take-append-le k es more within)

pub below_lower : (a b : TopVer) → IsBelow a b → is_lower_top a b ≡ true
below_lower a b (inl less) = grind (arith, nat_tests, less)
below_lower a b (inr less) = grind (arith, nat_tests, less.0, less.1)
