-- Where the nodes of a world stand, and what stands there after a change of one part or of all.
use Rattle.std.proofs.Common.{◌≡◌, ◌≢◌, ◌+◌, ◌<◌, List, [], ◌∷◌, Option, Some, None, Bool, true, false, if◌then◌else◌, cond, map, not, length, ℕ, zero, suc, refl, ap, sym, ◌∙◌, arith}
use Rattle.std.specs.List.{prefix_len}
use Rattle.std.specs.Option.{option_and_then, option_map}
use Rattle.std.specs.Prelude.{nat_lt, position, slice_get, slice_set}
use Rattle.std.proofs.lemmas.List.Quantifiers.{position-Some}
use Rattle.std.proofs.lemmas.Option.{slice_get-map}
use Rattle.ignite_types.proofs.NameLaws.{same_node_true}
use Rattle.ignite_types.specs.Names.{same_node}
use Rattle.ignite_types.specs.declared.names.NodeId.{NodeId}
use Rattle.link_laws.specs.Carrying.{NodesApart}
use Rattle.link_laws.proofs.Frames.{place_is, stands_there}
use Rattle.link_laws.proofs.Places.{some_is}
use Rattle.tx_model.specs.World.{Part, World, part_at, part_on, place_of}

abbrev pub numbers : List Part → List NodeId
numbers ps = map (λ (p : Part). p.node.me) ps

pub same_numbers : (ps : List Part) (k : ℕ) (p q : Part) → slice_get ps k ≡ Some p → q.node.me ≡ p.node.me →
    numbers (slice_set ps k q) ≡ numbers ps
same_numbers [] k p q here same = refl
same_numbers (x ∷ ps) zero p q here same =
    ap (λ (id : NodeId). id ∷ numbers ps) (same ∙ ap (λ (y : Part). y.node.me) (sym (some_is x p here)))
same_numbers (x ∷ ps) (suc k) p q here same = ap (λ ids. x.node.me ∷ ids) (same_numbers ps k p q here same)

prefix_by : (t : NodeId → Bool) (ps : List Part) → prefix_len (λ (p : Part). t p.node.me) ps ≡ prefix_len t (numbers ps)
prefix_by t [] = refl
prefix_by t (p ∷ ps) = ap (λ n. cond (t p.node.me) (1 + n) 0) (prefix_by t ps)

length_by : (ps : List Part) → length ps ≡ length (numbers ps)
length_by [] = refl
length_by (p ∷ ps) = ap suc (length_by ps)

place_by : (id : NodeId) (ps : List Part) → position (λ (p : Part). same_node p.node.me id) ps ≡ position
    (λ (x : NodeId). same_node x id) (numbers ps)
place_by id ps =
    ap (λ n. cond (nat_lt n (length ps)) (Some n) None) (prefix_by (λ (x : NodeId). not (same_node x id)) ps)
    ∙ ap (λ l. let n = prefix_len (λ (x : NodeId). not (same_node x id)) (numbers ps) in cond (nat_lt n l) (Some n) None)
    (length_by ps)

-- the places are those of the numbers
pub same_place : (w w2 : World) → numbers w2.parts ≡ numbers w.parts → (id : NodeId) → place_of w2 id ≡ place_of w id
same_place w w2 same id = place_by id w2.parts ∙ ap (position (λ (x : NodeId). same_node x id)) same ∙ sym (place_by id w.parts)

pub get_set : {A : Type 0} (xs : List A) (k : ℕ) (x y : A) → slice_get xs k ≡ Some x → slice_get (slice_set xs k y) k ≡ Some y
get_set [] k x y is = absurd (cc (is))
get_set (z ∷ zs) zero x y is = refl
get_set (z ∷ zs) (suc k) x y is = get_set zs k x y is

pub get_other : {A : Type 0} (xs : List A) (k j : ℕ) (y : A) → j ≢ k → slice_get (slice_set xs k y) j ≡ slice_get xs j
get_other [] k j y other = refl
get_other (z ∷ zs) zero zero y other = absurd (other refl)
get_other (z ∷ zs) zero (suc j) y other = refl
get_other (z ∷ zs) (suc k) zero y other = refl
get_other (z ∷ zs) (suc k) (suc j) y other = get_other zs k j y (λ e. other (ap suc e))

pub there_at : {A : Type 0} (xs : List A) (k : ℕ) → k < length xs → (x : A) × (slice_get xs k ≡ Some x)
there_at [] k within = absurd (omega (arith, within))
there_at (x ∷ xs) zero within = (x, refl)
there_at (x ∷ xs) (suc k) within = there_at xs k (omega (arith, within))

-- a part stands where a node stands
pub part_there : (w : World) (id : NodeId) (k : ℕ) (any : Part) → place_of w id ≡ Some k → (p : Part)
    × (slice_get w.parts k ≡ Some p) × (p.node.me ≡ id)
part_there w id k any place =
    let there = there_at w.parts k (position-Some (λ (x : Part). same_node x.node.me id) w.parts k any place).0 in
    (there.0, there.1, same_node_true there.0.node.me id (stands_there w k there.0 id place there.1))

-- the part of a node at its place
pub part_is : (w : World) (k : ℕ) (p : Part) (n : NodeId) → NodesApart w.parts → slice_get w.parts k ≡ Some p →
    same_node p.node.me n ≡ true → part_at w n ≡ Some p
part_is w k p n apart is same = ap (part_on w) (place_is w k p n apart is same) ∙ is

pub part_me : (w : World) (id : NodeId) (p : Part) → part_at w id ≡ Some p → p.node.me ≡ id
part_me w id p is =
    (elim (place_of w id) as (λ r. place_of w id ≡ r → part_on w r ≡ Some p → p.node.me ≡ id) [
      | None ↦ λ e none. absurd (cc (none))
      | Some k ↦ λ e there. same_node_true p.node.me id (stands_there w k p id e there)
    ]) refl is

-- One part changed.
module _ (w : World) (k : ℕ) (p q : Part) (apart : NodesApart w.parts) (is : slice_get w.parts k ≡ Some p)
    (me : q.node.me ≡ p.node.me) where
  abbrev pub with_part : World
  with_part = record w { parts = slice_set w.parts k q }

  pub set_place : (id : NodeId) → place_of with_part id ≡ place_of w id
  set_place id = same_place w with_part (same_numbers w.parts k p q is me) id

  set_at : (id : NodeId) (r : Option ℕ) → place_of w id ≡ r → (b : Bool) → same_node p.node.me id ≡ b →
      option_and_then (slice_get (slice_set w.parts k q)) r ≡ (if b then Some q else option_and_then (slice_get w.parts) r)
  set_at id None place true same = let there = place_is w k p id apart is same in absurd (cc (there, place))
  set_at id None place false same = refl
  set_at id (Some j) place true same =
      let here : j ≡ k = some_is j k (sym place ∙ place_is w k p id apart is same) in
      ap (λ i. slice_get (slice_set w.parts k q) i) here ∙ get_set w.parts k p q is
  set_at id (Some j) place false same =
      get_other w.parts k j q (λ here.
      let there = stands_there w k p id (place ∙ ap (λ i. Some i) here) is in absurd (cc (there, same)))

  pub set_part : (id : NodeId) → part_at with_part id ≡ (if same_node p.node.me id then Some q else part_at w id)
  set_part id = ap (part_on with_part) (set_place id) ∙ set_at id (place_of w id) refl (same_node p.node.me id) refl

-- All parts changed, and none its number.

pub same_all : (f : Part → Part) → ((p : Part) → (f p).node.me ≡ p.node.me) → (ps : List Part) → numbers (map f ps) ≡ numbers ps
same_all f me [] = refl
same_all f me (p ∷ ps) = λ i. me p i ∷ same_all f me ps i

module _ (w : World) (f : Part → Part) (me : (p : Part) → (f p).node.me ≡ p.node.me) where
  abbrev pub mapped : World
  mapped = record w { parts = map f w.parts }

  pub mapped_place : (id : NodeId) → place_of mapped id ≡ place_of w id
  mapped_place id = same_place w mapped (same_all f me w.parts) id

  mapped_at : (r : Option ℕ) → option_and_then (slice_get (map f w.parts)) r ≡ option_map f
      (option_and_then (slice_get w.parts) r)
  mapped_at None = refl
  mapped_at (Some j) = slice_get-map f w.parts j

  pub mapped_part : (id : NodeId) → part_at mapped id ≡ option_map f (part_at w id)
  mapped_part id = ap (part_on mapped) (mapped_place id) ∙ mapped_at (place_of w id)
