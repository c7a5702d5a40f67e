-- A table that is read by its keys.
use Rattle.std.proofs.Common.{List, Some, [], ap, arith, drop, drop-cons, get_or, length, map, refl, suc, sym, take, unwrap_or, ◌+◌, ◌++◌, ◌<◌, ◌≤◌, ◌∙◌, ◌∷◌, ◌≡◌, ℕ}
use Rattle.std.proofs.lemmas.List.{append-nil, drop_all}
use Rattle.std.specs.Cmp.{IsTotalOrder}
use Rattle.std.specs.List.{flat_map}
use Rattle.std.specs.Map.{keys_of}
use Rattle.std.specs.declared.cmp.Ordering.{Ordering}
use Rattle.std.specs.declared.cmp.Ordering.TheVariants.{Greater}
use Rattle.std.specs.Ordering.{ordering_reverse}
use Rattle.std.proofs.lemmas.Cmp.{tied_itself}
use Rattle.hash_table.proofs.Least.{in_order}
use Rattle.ordered_table.proofs.Copies.{copied_more}
use Rattle.ordered_table.specs.Entries.{at, put}
use Rattle.ordered_table.specs.Places.{IsAscending, IsBelowAll}

length_keys : {K V : Type 0} (es : List (K × V)) → length (keys_of es) ≡ length es
length_keys [] = refl
length_keys (e ∷ es) = ap suc (length_keys es)

module _ {K V : Type 0} (cmp : K → K → Ordering) where
  -- each of these entries is found in the whole table
  abbrev pub EachFound : List (K × V) → List (K × V) → Type 0
  EachFound whole [] = Unit {0}
  EachFound whole (e ∷ es) = (at cmp whole e.0 ≡ Some e.1) × EachFound whole es

  module _ (o : IsTotalOrder cmp) where
    found_behind : (e : K × V) (whole es : List (K × V)) → IsBelowAll cmp e.0 es → EachFound whole es → EachFound (e ∷ whole) es
    found_behind e whole [] below found = tt
    found_behind e whole (f ∷ es) below found =
        let greater : cmp f.0 e.0 ≡ Greater = o.antisymm f.0 e.0 ∙ ap ordering_reverse below.0 in
        (rw greater found.0, found_behind e whole es below.1 found.1)

    pub each_found : (es : List (K × V)) → IsAscending cmp es → EachFound es es
    each_found [] up = tt
    each_found (e ∷ es) up = (rw (tied_itself o e.0), found_behind e es es up.0 (each_found es up.1))

    -- one entry more of a copy that goes by the keys
    pub read_copied : (es : List (K × V)) (ks : List K) (i : ℕ) (k : K) (d : V) → IsAscending cmp es → ks ≡ keys_of es →
        i < length ks → k ≡ get_or ks i k
        → put cmp (take i es) k (unwrap_or (at cmp es k) d) ≡ take (i + 1) es
    read_copied es ks i k d up keys within here =
        let entry = in_order cmp o es i k up (rw keys at within) (rw keys at here) in
        let long = ap length keys in
        let same = length_keys es in
        let inside : i < length es = omega arith in
        let next = drop-cons es i (k, d) inside in
        let behind = entry.2 in
        let at_place : get_or es i (k, d) ≡ (k, entry.0) = cc in
        rw entry.1 (rw at_place at (copied_more cmp o es i (k, d) up inside))

-- at the end of the keys all of them have been read
pub all_read : {K X : Type 0} (f : K → X) (done : List X) (ks : List K) (i : ℕ) → length ks ≤ i →
    done ++ map f (drop i ks) ≡ map f ks → done ≡ map f ks
all_read f done ks i past so_far = sym (append-nil done) ∙ ap (λ r. done ++ map f r) (sym (drop_all i ks past)) ∙ so_far

module _ {K V X : Type 0} (cmp : K → K → Ordering) (d : V) (f : K → V → X) where
  -- what is made of each entry, by its key
  pub map_read : (whole es : List (K × V)) → EachFound cmp whole es → map (λ (k : K). f k (unwrap_or (at cmp whole k) d))
      (keys_of es) ≡ map (λ (e : K × V). f e.0 e.1) es
  map_read whole [] found = refl
  map_read whole (e ∷ es) found = rw (found.0, map_read whole es found.1)

module _ {K V X : Type 0} (cmp : K → K → Ordering) (d : V) (f : K → V → List X) where
  pub flat_map_read : (whole es : List (K × V)) → EachFound cmp whole es →
      flat_map (λ (e : K × V). f e.0 (unwrap_or (at cmp whole e.0) d)) es ≡ flat_map (λ (e : K × V). f e.0 e.1) es
  flat_map_read whole [] found = refl
  flat_map_read whole (e ∷ es) found = rw (found.0, flat_map_read whole es found.1)
