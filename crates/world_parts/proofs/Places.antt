-- Where the declared nodes of a good scenario stand: each once among the declared ones, and each once in the order of numbers.
use Rattle.std.proofs.Common.{◌≡◌, ◌⊎◌, inl, inr, ◌++◌, ◌||◌, List, [], ◌∷◌, Some, Bool, true, false, not, map, ℕ, zero, suc, refl, ap, sym, subst, ◌∙◌}
use Rattle.std.specs.List.{flat_map, list_any}
use Rattle.std.specs.Option.{option_map}
use Rattle.std.specs.Ordering.{match_ordering}
use Rattle.std.specs.List.{cons_option}
use Rattle.std.specs.Prelude.{filter_map, position, slice_get}
use Rattle.std.specs.declared.cmp.Ordering.{Ordering}
use Rattle.std.specs.declared.cmp.Ordering.TheVariants.{Less, Equal, Greater}
use Rattle.std.proofs.lemmas.Option.{slice_get-map}
use Rattle.std.proofs.lemmas.List.Quantifiers.{position-Some}
use Rattle.frame_laws.proofs.Extending.{append_none}
use Rattle.part_model.specs.Directory.{node_of, node_set}
use Rattle.part_model.specs.NextMap.{is_member}
use Rattle.ignite_types.proofs.NameLaws.{same_node_itself, same_node_true}
use Rattle.ignite_types.specs.Good.{are_distinct, joining, members}
use Rattle.ignite_types.specs.Good as good
use Rattle.ignite_types.specs.Names.{node_cmp, same_node}
use Rattle.ignite_types.specs.declared.names.NodeId.{NodeId}
use Rattle.ignite_types.specs.declared.scenario.Member.{Member}
use Rattle.ignite_types.specs.declared.scenario.PlanStep.{PlanStep}
use Rattle.ignite_types.specs.declared.scenario.Scenario.{Scenario}
use Rattle.ignite_types.specs.declared.scenario.Step.{Step}
use Rattle.act_rows.specs.NewNodes.{opening_map_of}
use Rattle.link_laws.proofs.Journals.{first_rest}
use Rattle.link_laws.proofs.Openings.{opening_carries}
use Rattle.link_laws.proofs.Places.{first_at, first_passes, some_is}
use Rattle.ordered_set.specs.Members.{with_member}
use Rattle.scenes.proofs.Openings.{Stands, set_both}
use Rattle.scenes.proofs.Parts.{there_at}
use Rattle.tx_model.specs.Opening.{declared_nodes, ids_of, joiner_of, joins_in, opening_part}
use Rattle.world_parts.specs.Parts.{declared_ids, declared_place}
use Rattle.ignite_types.specs.declared.scenario.Step.TheVariants as step

-- Who has a number in a set was put into it.

one_of : (xs : List NodeId) (k x : NodeId) (j : ℕ) → slice_get (with_member node_cmp xs k) j ≡ Some x → (k ≡ x) ⊎ Stands xs x
one_of [] k x zero is = inl (some_is k x is)
one_of [] k x (suc j) is = absurd (cc (is))
one_of (y ∷ ys) k x j is = by (λ i at. one_of ys k x i at) (node_cmp k y) j is
  where
    here : (j : ℕ) → slice_get (y ∷ ys) j ≡ Some x → (k ≡ x) ⊎ Stands (y ∷ ys) x
    here j is = inr (j, is)

    later : (k ≡ x) ⊎ Stands ys x → (k ≡ x) ⊎ Stands (y ∷ ys) x
    later (inl same) = inl same
    later (inr at) = inr (suc at.0, at.1)

    by : ((i : ℕ) → slice_get (with_member node_cmp ys k) i ≡ Some x → (k ≡ x) ⊎ Stands ys x) → (r : Ordering) (j : ℕ)
        → slice_get (match_ordering r (k ∷ y ∷ ys) (y ∷ ys) (y ∷ with_member node_cmp ys k)) j ≡ Some x → (k ≡ x)
        ⊎ Stands (y ∷ ys) x
    by rest Less zero is = inl (some_is k x is)
    by rest Less (suc j) is = here j is
    by rest Equal j is = here j is
    by rest Greater zero is = here zero is
    by rest Greater (suc j) is = later (rest j is)

member_of : (xs : List NodeId) (ms : List Member) (x : NodeId) (j : ℕ) → slice_get (node_set xs ms) j ≡ Some x → Stands xs x
    ⊎ Stands (map node_of ms) x
member_of xs [] x j is = inl (j, is)
member_of xs (m ∷ ms) x j is = by (member_of (with_member node_cmp xs m.node) ms x j is)
  where
    of_set : (m.node ≡ x) ⊎ Stands xs x → Stands xs x ⊎ Stands (map node_of (m ∷ ms)) x
    of_set (inl same) = inr (0, ap (λ (n : NodeId). Some n) same)
    of_set (inr at) = inl at

    by : Stands (with_member node_cmp xs m.node) x ⊎ Stands (map node_of ms) x → Stands xs x ⊎ Stands (map node_of (m ∷ ms)) x
    by (inl at) = of_set (one_of xs m.node x at.0 at.1)
    by (inr at) = inr (suc at.0, at.1)

-- who stands among members is one of them
stands_member : (ms : List Member) (x : NodeId) (k : ℕ) → slice_get (map node_of ms) k ≡ Some x → is_member ms x ≡ true
stands_member [] x k is = absurd (cc (is))
stands_member (m ∷ ms) x zero is = subst (λ (n : NodeId). is_member (m ∷ ms) n ≡ true) (some_is m.node x is)
    (rw (same_node_itself m.node) refl)
stands_member (m ∷ ms) x (suc k) is = rw (stands_member ms x k is) (or_true (same_node x m.node))
  where
    or_true : (c : Bool) → (c || true) ≡ true
    or_true true = refl
    or_true false = refl

-- No node is declared twice.

joiners_same : (plan : List PlanStep) → flat_map joiner_of plan ≡ filter_map (λ planned. joining planned.step) plan
joiners_same [] = refl
joiners_same (x ∷ xs) = by x.step (joiners_same xs)
  where
    by : (st : Step) → flat_map joiner_of xs ≡ filter_map (λ planned. joining planned.step) xs →
        joins_in st ++ flat_map joiner_of xs ≡ cons_option (joining st) (filter_map (λ planned. joining planned.step) xs)
    by (step.Join member) same = ap (λ (ms : List Member). member ∷ ms) same
    by (step.Lose id) same = same
    by (step.Hold from to) same = same
    by (step.Release from to) same = same
    by (step.Start cache) same = same
    by (step.Stop cache) same = same

declared_are : (s : Scenario) → declared_nodes s ≡ members s
declared_are s = ap (λ (ms : List Member). s.nodes ++ ms) (joiners_same s.plan)

among : (x : Member) (ms : List Member) (k : ℕ) → slice_get (map node_of ms) k ≡ Some x.node →
    list_any (good.same_member_node x) ms ≡ true
among x [] k is = absurd (cc (is))
among x (m ∷ ms) zero is = rw (here x m (some_is m.node x.node is)) refl
  where
    here : (x m : Member) → m.node ≡ x.node → good.same_member_node x m ≡ true
    here x m same = subst (λ (n : NodeId). same_node x.node n ≡ true) (sym same) (same_node_itself x.node)
among x (m ∷ ms) (suc k) is = rw (among x ms k is) (or_true (good.same_member_node x m))
  where
    or_true : (c : Bool) → (c || true) ≡ true
    or_true true = refl
    or_true false = refl

twice : (b : Bool) → not b ≡ true → b ≡ true → ⊥
twice true other same = absurd (cc (other))
twice false other same = absurd (cc (same))

once_in : (ms : List Member) (j k : ℕ) (x : NodeId) → are_distinct good.same_member_node ms ≡ true →
    slice_get (map node_of ms) j ≡ Some x → slice_get (map node_of ms) k ≡ Some x → j ≡ k
once_in [] j k x apart at_j at_k = absurd (cc (at_j))
once_in (m ∷ ms) zero zero x apart at_j at_k = refl
once_in (m ∷ ms) zero (suc k) x apart at_j at_k =
    let both = first_rest (not (list_any (good.same_member_node m) ms)) (are_distinct good.same_member_node ms) apart in
    let again = among m ms k (at_k ∙ sym at_j) in
    absurd (twice (list_any (good.same_member_node m) ms) both.0 again)
once_in (m ∷ ms) (suc j) zero x apart at_j at_k =
    let both = first_rest (not (list_any (good.same_member_node m) ms)) (are_distinct good.same_member_node ms) apart in
    let again = among m ms j (at_j ∙ sym at_k) in
    absurd (twice (list_any (good.same_member_node m) ms) both.0 again)
once_in (m ∷ ms) (suc j) (suc k) x apart at_j at_k =
    let both = first_rest (not (list_any (good.same_member_node m) ms)) (are_distinct good.same_member_node ms) apart in
    ap suc (once_in ms j k x both.1 at_j at_k)

-- who stands at the place at which a number is found has this number
pub found_there : (ids : List NodeId) (id : NodeId) (k : ℕ) → position (λ (x : NodeId). same_node x id) ids ≡ Some k →
    slice_get ids k ≡ Some id
found_there ids id k found =
    let there = there_at ids k (position-Some (λ (x : NodeId). same_node x id) ids k id found).0 in
    there.1 ∙ ap (λ (x : NodeId). Some x)
    (same_node_true there.0 id (first_passes (λ (x : NodeId). same_node x id) ids k there.0 found there.1))

module _ (s : Scenario) (apart : are_distinct good.same_member_node (members s) ≡ true) where
  pub declared_once : (j k : ℕ) (x : NodeId) → slice_get (declared_ids s) j ≡ Some x → slice_get (declared_ids s) k ≡ Some x →
      j ≡ k
  declared_once j k x at_j at_k =
      once_in (declared_nodes s) j k x (subst (λ (ms : List Member). are_distinct good.same_member_node ms ≡ true)
      (sym (declared_are s)) apart) at_j at_k

  pub place_declared : (k : ℕ) (x : NodeId) → slice_get (declared_ids s) k ≡ Some x → declared_place s x ≡ Some k
  place_declared k x is =
      let first = first_at (λ (y : NodeId). same_node y x) (declared_ids s) k x is (same_node_itself x) in
      let there = found_there (declared_ids s) x first.place first.first_is in
      first.first_is ∙ ap (λ (i : ℕ). Some i) (declared_once first.place k x there is)

  pub declared_there : (k : ℕ) (x : NodeId) → declared_place s x ≡ Some k → slice_get (declared_ids s) k ≡ Some x
  declared_there k x place = found_there (declared_ids s) x k place

  -- a declared node has a place in the order of numbers
  pub ranked : (k : ℕ) (x : NodeId) → slice_get (declared_ids s) k ≡ Some x → Stands (ids_of s) x
  ranked k x is =
      let at = set_both [] (declared_nodes s) [] x (stands_member (declared_nodes s) x k is) in
      (at.0, ap (λ ms. slice_get (node_set [] ms) at.0) (sym (append_none (declared_nodes s))) ∙ at.1)

  pub declared_too : (r : ℕ) (x : NodeId) → slice_get (ids_of s) r ≡ Some x → Stands (declared_ids s) x
  declared_too r x is = by (member_of [] (declared_nodes s) x r is)
    where
      by : Stands [] x ⊎ Stands (declared_ids s) x → Stands (declared_ids s) x
      by (inl at) = let none = at.1 in absurd (cc (none))
      by (inr at) = at

  -- and no two
  pub ranked_once : (j k : ℕ) (x y : NodeId) → slice_get (ids_of s) j ≡ Some x → slice_get (ids_of s) k ≡ Some y →
      same_node x y ≡ true → j ≡ k
  ranked_once j k x y at_j at_k same =
      let f = opening_part s (opening_map_of s) in
      let stands = λ (i : ℕ) (z : NodeId) (is : slice_get (ids_of s) i ≡ Some z). slice_get-map f (ids_of s) i
      ∙ ap (option_map f) is in
      (opening_carries s apart).apart j k (f x) (f y) (stands j x at_j) (stands k y at_k) same
