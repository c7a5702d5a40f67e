-- The parts that an event touches come in ascending order, each once, and are parts.
use Rattle.std.proofs.Common.{◌≡◌, ◌≤◌, ◌<◌, ◌+◌, ◌==◌, List, [], ◌∷◌, Option, Some, None, Bool, true, false, if◌then◌else◌, map, length, ℕ, zero, suc, refl, ap, ◌∙◌, arith}
use Rattle.std.specs.Option.{option_and_then}
use Rattle.std.specs.Prelude.{All, ltb, nat_lt}
use Rattle.std.proofs.lemmas.Bool.Decides.{nat_tests}
use Rattle.std.proofs.lemmas.Option.{slice_get_within}
use Rattle.ignite_types.specs.declared.journal.Event.{Event}
use Rattle.ignite_types.specs.declared.journal.Rec.{Rec}
use Rattle.ignite_types.specs.declared.names.NodeId.{NodeId}
use Rattle.ignite_types.specs.declared.scenario.Scenario.{Scenario}
use Rattle.ignite_types.specs.declared.scenario.Step.{Step}
use Rattle.part_table.specs.History.{held_at, held_pairs, is_ascending, replay_or}
use Rattle.part_table.specs.Rule.{numbers_from}
use Rattle.world_parts.specs.Parts.{PartValue, declared_ids, declared_place, inbox_part, node_part, part_count}
use Rattle.world_parts.specs.Steps.{addressee_in, directory_and_node, home_of, inbox_alone, node_alone, node_and_addressee, node_and_inbox, parts_of_step, step_in, touches_of, with_values}
use Rattle.world_parts.proofs.Places.{found_there}
use Rattle.ignite_types.specs.declared.journal.Event.TheVariants as event
use Rattle.ignite_types.specs.declared.scenario.Step.TheVariants as step

-- ascending numbers below n
abbrev pub ascends_to : ℕ → ℕ → List ℕ → Type 0
ascends_to n k [] = Unit {0}
ascends_to n k (p ∷ ps) = (k ≤ p) × (p < n) × ascends_to n (p + 1) ps

module _ (s : Scenario) where
  abbrev Up : List ℕ → Type 0
  Up ps = ascends_to (part_count s) 0 ps

  -- from the number behind the directory's on
  abbrev UpFromOne : List ℕ → Type 0
  UpFromOne ps = ascends_to (part_count s) 1 ps

  within : (id : NodeId) (k : ℕ) → declared_place s id ≡ Some k → k < length (declared_ids s)
  within id k place = slice_get_within (declared_ids s) k id (found_there (declared_ids s) id k place)

  -- a statement of a place, if it is one of a declared node
  at_place : (F : Option ℕ → Type 0) → F None → ((k : ℕ) → k < length (declared_ids s) → F (Some k)) → (o : Option NodeId) →
      F (option_and_then (declared_place s) o)
  at_place F none some None = none
  at_place F none some (Some id) = by (declared_place s id) refl
    where
      by : (o : Option ℕ) → declared_place s id ≡ o → F o
      by None place = none
      by (Some k) place = some k (within id k place)

  node_up : (o : Option NodeId) → Up (node_alone (option_and_then (declared_place s) o))
  node_up o = at_place (λ x. Up (node_alone x)) tt (λ k below. (omega arith, omega (arith, below), tt)) o

  pair_up : (o : Option NodeId) → Up (directory_and_node (option_and_then (declared_place s) o))
  pair_up o = at_place (λ x. Up (directory_and_node x)) tt
      (λ k below. (omega arith, omega arith, (omega arith, omega (arith, below), tt))) o

  both_up : (o : Option NodeId) → Up (node_and_inbox (option_and_then (declared_place s) o))
  both_up o = at_place (λ x. Up (node_and_inbox x)) tt (λ k below. (
    omega arith,
    omega (arith, below),
    (omega arith, omega (arith, below), tt),
  )) o

  both_up_behind : (o : Option NodeId) → UpFromOne (node_and_inbox (option_and_then (declared_place s) o))
  both_up_behind o = at_place (λ x. UpFromOne (node_and_inbox x)) tt
      (λ k below. (omega arith, omega (arith, below), (omega arith, omega (arith, below), tt))) o

  inbox_up_behind : (o : Option NodeId) → UpFromOne (inbox_alone (option_and_then (declared_place s) o))
  inbox_up_behind o = at_place (λ x. UpFromOne (inbox_alone x)) tt (λ k below. (omega arith, omega (arith, below), tt)) o

  send_up : (from to : Option NodeId) →
      Up (node_and_addressee (option_and_then (declared_place s) from) (option_and_then (declared_place s) to))
  send_up from to = at_place (λ x. Up (node_and_addressee x (option_and_then (declared_place s) to))) tt
      (λ k below. at_place (λ y. Up (node_and_addressee (Some k) y)) (omega arith, omega (arith, below), tt)
      (λ j also. by k j below also (nat_lt j k) refl) to) from
    where
      by : (k j : ℕ) → k < length (declared_ids s) → j < length (declared_ids s) → (c : Bool) → nat_lt j k ≡ c →
          Up (if c then inbox_part j ∷ node_part k ∷ [] else node_part k ∷ inbox_part j ∷ [])
      by k j below also true less = let lower : j < k = grind (arith, nat_tests, less) in
          (omega arith, omega (arith, also), (omega (arith, lower), omega (arith, below), tt))
      by k j below also false more = let higher : k ≤ j = grind (arith, nat_tests, more) in
          (omega arith, omega (arith, below), (omega (arith, higher), omega (arith, also), tt))

  all_up : (k m : ℕ) → k + m ≤ part_count s → ascends_to (part_count s) k (numbers_from k m)
  all_up k zero far = tt
  all_up k (suc m) far = (omega arith, omega (arith, far), all_up (k + 1) m (omega (arith, far)))

  step_up : (o : Option Step) → Up (parts_of_step s o)
  step_up None = tt
  step_up (Some (step.Join m)) = (omega arith, omega arith, both_up_behind (Some m.node))
  step_up (Some (step.Lose id)) = all_up 0 (part_count s) (omega arith)
  step_up (Some (step.Hold from to)) = (omega arith, omega arith, inbox_up_behind (Some to))
  step_up (Some (step.Release from to)) = (omega arith, omega arith, inbox_up_behind (Some to))
  step_up (Some (step.Start cache)) = (omega arith, omega arith, tt)
  step_up (Some (step.Stop cache)) = (omega arith, omega arith, tt)

  touches_up : (e : Event) (recs : List Rec) → Up (touches_of s e recs)
  touches_up (event.Answer session) recs = pair_up (home_of s session)
  touches_up (event.Act id from) recs = both_up (Some id)
  touches_up (event.Send id) recs = send_up (Some id) (addressee_in recs)
  touches_up (event.See id) recs = pair_up (Some id)
  touches_up (event.Expire tx) recs = node_up (Some tx.node)
  touches_up (event.Minor id) recs = pair_up (Some id)
  touches_up (event.Call session) recs = node_up (home_of s session)
  touches_up event.Plan recs = step_up (step_in s recs)
  touches_up event.Tick recs = all_up 0 (part_count s) (omega arith)
  touches_up (event.Memory id) recs = tt

is_up : (n k : ℕ) (ps : List ℕ) → ascends_to n k ps → is_ascending k ps ≡ true
is_up n k [] up = refl
is_up n k (p ∷ ps) up = by (is_up n (p + 1) ps up.2) (ltb p k) refl
  where
    by : is_ascending (p + 1) ps ≡ true → (c : Bool) → ltb p k ≡ c → (if c then false else is_ascending (p + 1) ps) ≡ true
    by rest true low = let above = up.0 in absurd (grind (arith, nat_tests, low, above))
    by rest false high = rest

are_below : (n k : ℕ) (ps : List ℕ) → ascends_to n k ps → All (λ p. p < n) ps
are_below n k [] up i d inside = absurd (omega (arith, inside))
are_below n k (p ∷ ps) up zero d inside = up.1
are_below n k (p ∷ ps) up (suc i) d inside = are_below n (p + 1) ps up.2 i d (omega (arith, inside))

pub touches_ascend : (s : Scenario) (e : Event) (recs : List Rec) → is_ascending 0 (touches_of s e recs) ≡ true
touches_ascend s e recs = is_up (part_count s) 0 (touches_of s e recs) (touches_up s e recs)

pub touches_below : (s : Scenario) (e : Event) (recs : List Rec) → All (λ p. p < part_count s) (touches_of s e recs)
touches_below s e recs = are_below (part_count s) 0 (touches_of s e recs) (touches_up s e recs)

-- What is put at ascending numbers is read there again.

above_all : (n k p : ℕ) (x : PartValue) (qs : List ℕ) (xs : List PartValue) (f : ℕ → PartValue) (ps : List ℕ) → p < k →
    ascends_to n k ps → map (with_values (p ∷ qs) (x ∷ xs) f) ps ≡ map (with_values qs xs f) ps
above_all n k p x qs xs f [] low up = refl
above_all n k p x qs xs f (r ∷ rs) low up =
    let first : (p == r) ≡ false = let above = up.0 in grind (arith, nat_tests, low, above) in
    let rest = above_all n (r + 1) p x qs xs f rs (let above = up.0 in omega (arith, low, above)) up.2 in
    λ i. ap (λ (b : Bool). replay_or (if b then Some x else held_at r (held_pairs qs xs)) (f r)) first i ∷ rest i

pub read_back : (n k : ℕ) (ps : List ℕ) (xs : List PartValue) (f : ℕ → PartValue) → ascends_to n k ps →
    length xs ≡ length ps → map (with_values ps xs f) ps ≡ xs
read_back n k [] [] f up long = refl
read_back n k [] (x ∷ xs) f up long = absurd (omega (arith, long))
read_back n k (p ∷ ps) [] f up long = absurd (omega (arith, long))
read_back n k (p ∷ ps) (x ∷ xs) f up long =
    let itself : (p == p) ≡ true = grind (arith, nat_tests) in
    let rest = above_all n (p + 1) p x ps xs f ps (omega arith) up.2 ∙ read_back n (p + 1) ps xs f up.2 (omega (arith, long)) in
    λ i. ap (λ (b : Bool). replay_or (if b then Some x else held_at p (held_pairs ps xs)) (f p)) itself i ∷ rest i

pub read_touched : (s : Scenario) (e : Event) (recs : List Rec) (xs : List PartValue) (f : ℕ → PartValue) →
    length xs ≡ length (touches_of s e recs) → map (with_values (touches_of s e recs) xs f) (touches_of s e recs) ≡ xs
read_touched s e recs xs f long = read_back (part_count s) 0 (touches_of s e recs) xs f (touches_up s e recs) long
