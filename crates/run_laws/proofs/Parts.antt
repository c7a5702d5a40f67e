-- One part of the world is put in another one's place.
use Rattle.std.proofs.Common.{◌≡◌, ℕ, zero, suc, List, [], ◌∷◌, Some, true, map, length, slice_get, slice_set, refl, ap, sym, subst, ◌∙◌}
use Rattle.ignite_types.specs.declared.names.NodeId.{NodeId}
use Rattle.run_laws.specs.Staying.{InTime}
use Rattle.tx_model.specs.World.{Part, is_alive}

-- the numbers of these parts
abbrev pub numbers : List Part → List NodeId
numbers ps = map (λ (p : Part). p.node.me) ps

pub same_numbers : (ps : List Part) (k : ℕ) (p q : Part) → slice_get ps k ≡ Some p → q.node.me ≡ p.node.me →
    numbers (slice_set ps k q) ≡ numbers ps
same_numbers [] k p q here same = refl
same_numbers (x ∷ ps) zero p q here same =
    let is : x ≡ p = cc in
    ap (λ (id : NodeId). id ∷ numbers ps) (same ∙ ap (λ (y : Part). y.node.me) (sym is))
same_numbers (x ∷ ps) (suc k) p q here same = ap (λ ids. x.node.me ∷ ids) (same_numbers ps k p q here same)

pub same_length : {A : Type 0} (xs : List A) (k : ℕ) (x : A) → length (slice_set xs k x) ≡ length xs
same_length [] k x = refl
same_length (y ∷ ys) zero x = refl
same_length (y ∷ ys) (suc k) x = ap suc (same_length ys k x)

pub set_in_time : (clock : ℕ) (ps : List Part) (k : ℕ) (q : Part) → InTime clock ps →
    (is_alive q.life ≡ true → q.node.now ≡ clock) → InTime clock (slice_set ps k q)
set_in_time clock [] k q all one = tt
set_in_time clock (p ∷ ps) zero q all one = (one, all.1)
set_in_time clock (p ∷ ps) (suc k) q all one = (all.0, set_in_time clock ps k q all.1 one)

pub in_time_at : (clock : ℕ) (ps : List Part) (k : ℕ) (p : Part) → slice_get ps k ≡ Some p → InTime clock ps →
    is_alive p.life ≡ true → p.node.now ≡ clock
in_time_at clock [] k p here all alive = absurd (cc)
in_time_at clock (x ∷ ps) zero p here all alive =
    let is : x ≡ p = cc in
    subst (λ (y : Part). is_alive y.life ≡ true → y.node.now ≡ clock) is all.0 alive
in_time_at clock (x ∷ ps) (suc k) p here all alive = in_time_at clock ps k p here all.1 alive
