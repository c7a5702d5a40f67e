-- Those who join by the steps to come were never in: what a step leaves of this.
use Rattle.std.proofs.Common.{◌≡◌, ◌≤◌, ◌<◌, ◌++◌, ◌&&◌, ◌||◌, List, [], ◌∷◌, Option, Some, None, Bool, true, false, if◌then◌else◌, not, filter, zero, suc, ℕ, refl, ap, subst, ◌∙◌, arith}
use Rattle.std.specs.List.{list_all, list_any}
use Rattle.std.specs.Prelude.{drop, filter_map, slice_get}
use Rattle.std.proofs.lemmas.Bool.Decides.{nat_tests}
use Rattle.std.proofs.lemmas.List.Folds.{list_any-append}
use Rattle.part_model.specs.Directory.{without_node}
use Rattle.part_model.specs.NextMap.{is_member}
use Rattle.part_model.specs.Orders.{next_count}
use Rattle.ignite_types.proofs.NameLaws.{same_node_true}
use Rattle.ignite_types.specs.Good.{are_distinct, joining}
use Rattle.ignite_types.specs.Good as good
use Rattle.ignite_types.specs.Names.{same_node}
use Rattle.ignite_types.specs.declared.names.NodeId.{NodeId}
use Rattle.ignite_types.specs.declared.scenario.Member.{Member}
use Rattle.ignite_types.specs.declared.scenario.PlanStep.{PlanStep}
use Rattle.journal_statements.specs.Noted.{Noted, is_lost}
use Rattle.link_laws.specs.Carrying.{StillNew, is_new, joiners}
use Rattle.link_laws.proofs.Frames.{all_change}
use Rattle.link_laws.proofs.Journals.{first_rest}
use Rattle.link_laws.proofs.Places.{some_is}

pub drop_next : {X : Type 0} (xs : List X) (k : ℕ) (x : X) → slice_get xs k ≡ Some x → drop k xs ≡ x ∷ drop (suc k) xs
drop_next [] k x is = absurd (cc)
drop_next (y ∷ ys) zero x is = ap (λ z. z ∷ ys) (some_is y x is)
drop_next (y ∷ ys) (suc k) x is = drop_next ys k x is

pub raised_is : (k most : ℕ) → k < most → most ≤ 64 → next_count k ≡ suc k
raised_is k most less short = omega (arith, less, short)

pub map_some : {X Y : Type 0} (f : X → Option Y) (x : X) (xs : List X) (y : Y) → f x ≡ Some y →
    filter_map f (x ∷ xs) ≡ y ∷ filter_map f xs
map_some f x xs y is = rw is refl

pub map_none : {X Y : Type 0} (f : X → Option Y) (x : X) (xs : List X) → f x ≡ None → filter_map f (x ∷ xs) ≡ filter_map f xs
map_none f x xs is = rw is refl

-- a step by which none joins
pub none_joins : (ns : List Noted) (members : List Member) (x : PlanStep) (rest : List PlanStep) → joining x.step ≡ None →
    StillNew ns members (x ∷ rest) → StillNew ns members rest
none_joins ns members x rest none c =
    let same = map_none (λ (p : PlanStep). joining p.step) x rest none in
    record {
      are_apart = subst (λ (js : List Member). are_distinct good.same_member_node js ≡ true) same c.are_apart;
      are_new = subst (λ (js : List Member). list_all (is_new ns members) js ≡ true) same c.are_new;
    }

pub not_true : (b : Bool) → not b ≡ true → b ≡ false
not_true true e = absurd (cc)
not_true false e = refl

filter_none : {X : Type 0} (p q : X → Bool) (xs : List X) → list_any p xs ≡ false → list_any p (filter q xs) ≡ false
filter_none p q [] none = refl
filter_none p q (x ∷ xs) none =
    (elim (p x) as (λ b. p x ≡ b → (b || list_any p xs) ≡ false → list_any p (filter q (x ∷ xs)) ≡ false) [
      | true ↦ λ t e. absurd (cc)
      | false ↦ λ f e.
          elim (q x) as (λ b. list_any p (if b then x ∷ filter q xs else filter q xs) ≡ false) [
            | true ↦ rw f (filter_none p q xs e)
            | false ↦ filter_none p q xs e
          ]
    ]) refl none

-- a member is lost
pub new_after_loss : (a b : List Noted) (members : List Member) (id : NodeId) (steps : List PlanStep) →
    ((node : NodeId) → is_lost b node ≡ (is_lost a node || same_node id node)) → is_member members id ≡ true
    → StillNew a members steps → StillNew b (without_node id members) steps
new_after_loss a b members id steps lost member c = record {
  are_apart = c.are_apart;
  are_new = all_change (is_new a members) (is_new b (without_node id members)) (joiners steps)
      (λ m new.
      let both = first_rest (not (is_lost a m.node)) (not (is_member members m.node)) new in
      let out : is_member members m.node ≡ false = not_true (is_member members m.node) both.1 in
      let kept : is_lost b m.node ≡ false = lost m.node ∙ ap (λ (r : Bool). r || same_node id m.node)
      (not_true (is_lost a m.node) both.0) ∙ other m out in
      let still : is_member (without_node id members) m.node ≡ false = filter_none (λ (k : Member). same_node m.node k.node)
      (λ (k : Member). not (same_node k.node id)) members out in
      ap (λ (r : Bool). not r && not (is_member (without_node id members) m.node)) kept ∙ ap (λ (r : Bool). not r) still)
      c.are_new;
}
  where
    other : (m : Member) → is_member members m.node ≡ false → same_node id m.node ≡ false
    other m out =
        elim (same_node id m.node) as (λ r. same_node id m.node ≡ r → r ≡ false) [
          | true ↦ λ t.
              let known = subst (λ (n : NodeId). is_member members n ≡ true) (same_node_true id m.node t) member in
              absurd (cc (known, out))
          | false ↦ λ f. refl
        ] refl

one_new : (ns : List Noted) (members : List Member) (m k : Member) → good.same_member_node m k ≡ false →
    is_new ns members k ≡ true → is_new ns (members ++ m ∷ []) k ≡ true
one_new ns members m k other new =
    let both = first_rest (not (is_lost ns k.node)) (not (is_member members k.node)) new in
    let apart : same_node k.node m.node ≡ false = (grind (arith, nat_tests, other)) in
    let out : is_member (members ++ m ∷ []) k.node ≡ false =
    list_any-append (λ (x : Member). same_node k.node x.node) members (m ∷ [])
    ∙ ap (λ (r : Bool). r || (same_node k.node m.node || false)) (not_true (is_member members k.node) both.1)
    ∙ ap (λ (r : Bool). r || false) apart in
    ap (λ (r : Bool). not (is_lost ns k.node) && not r) out ∙ ap (λ (r : Bool). r && true) both.0

more_new : (ns : List Noted) (members : List Member) (m : Member) (ks : List Member) →
    list_any (good.same_member_node m) ks ≡ false → list_all (is_new ns members) ks ≡ true →
    list_all (is_new ns (members ++ m ∷ [])) ks ≡ true
more_new ns members m [] apart new = refl
more_new ns members m (k ∷ ks) apart new =
    let both = first_rest (is_new ns members k) (list_all (is_new ns members) ks) new in
    (elim (good.same_member_node m k) as (λ b. good.same_member_node m k ≡ b → (b || list_any (good.same_member_node m) ks)
    ≡ false → (is_new ns (members ++ m ∷ []) k && list_all (is_new ns (members ++ m ∷ [])) ks) ≡ true) [
      | true ↦ λ t e. absurd (cc)
      | false ↦ λ f e. ap (λ (r : Bool). r && list_all (is_new ns (members ++ m ∷ [])) ks) (one_new ns members m k f both.0)
          ∙ more_new ns members m ks e both.1
    ]) refl apart

-- the first of the steps lets a node join
pub one_joins : (ns : List Noted) (members : List Member) (x : PlanStep) (m : Member) (rest : List PlanStep) →
    joining x.step ≡ Some m → StillNew ns members (x ∷ rest)
    → StillNew ns members rest × StillNew ns (members ++ m ∷ []) rest × (is_lost ns m.node ≡ false)
one_joins ns members x m rest joins c =
    let same = map_some (λ (p : PlanStep). joining p.step) x rest m joins in
    let apart = first_rest (not (list_any (good.same_member_node m) (joiners rest)))
    (are_distinct good.same_member_node (joiners rest))
    (subst (λ (js : List Member). are_distinct good.same_member_node js ≡ true) same c.are_apart) in
    let new = first_rest (is_new ns members m) (list_all (is_new ns members) (joiners rest))
    (subst (λ (js : List Member). list_all (is_new ns members) js ≡ true) same c.are_new) in
    let own = first_rest (not (is_lost ns m.node)) (not (is_member members m.node)) new.0 in (
      record { are_apart = apart.1; are_new = new.1 },
      record {
        are_apart = apart.1;
        are_new =
            more_new ns members m (joiners rest) (not_true (list_any (good.same_member_node m) (joiners rest)) apart.0) new.1;
      },
      not_true (is_lost ns m.node) own.0,
    )
