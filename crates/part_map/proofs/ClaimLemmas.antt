-- Filling and reading a table of claims.
use Rattle.std.proofs.Common.{◌≡◌, ℕ, ◌<◌, Bool, false, ◌||◌, List, [], ◌∷◌, length, drop, get_or, refl, eq-eqb, sym, ◌∙◌, ap, suc, drop-cons}
use Rattle.std.proofs.lemmas.Option.{get_or_from_slice_get, slice_get-get_or, unwrap_or-slice_get}
use Rattle.std.specs.Prelude.{◌==◌, slice_get, unwrap_or, Option, Some, None}
use Rattle.std.specs.List.{list_any}
use Rattle.ignite_types.specs.declared.message.Single.{Single}
use Rattle.ignite_types.specs.declared.names.NodeId.{NodeId}
use Rattle.ignite_types.specs.declared.names.TopVer.{TopVer}
use Rattle.part_model.specs.NextMap.{is_claimed, single_of}
use Rattle.part_map.specs.Claims.{IsTable}

-- of the partitions below `parts`, those marked so far and those still to be listed are those that are listed at all
pub record Marked (parts : ℕ) (complete : List ℕ) (i : ℕ) (marks : List Bool) : Type 0 where
  pub whole : length marks ≡ parts
  pub each : (part : ℕ) → part < parts → (get_or marks part false || list_any (λ p. p == part) (drop i complete)) ≡ list_any
      (λ p. p == part) complete

-- the table of the first `i` singles
pub record Filled (version : TopVer) (parts : ℕ) (singles : List Single) (i : ℕ) (table : List (List Bool)) : Type 0 where
  pub whole : length table ≡ i
  pub each : (place part : ℕ) → place < i → part < parts → get_or (get_or table place []) part false ≡ is_claimed version part
      (slice_get singles place)

pub marked_there : (table : List (List Bool)) (place part : ℕ) (marks : List Bool) → Some marks ≡ slice_get table place →
    get_or marks part false ≡ get_or (get_or table place []) part false
marked_there table place part marks is =
    ap (λ (m : List Bool). get_or m part false) (sym (get_or_from_slice_get table place marks [] (sym is)))

pub unmarked_past : (table : List (List Bool)) (place part : ℕ) → None ≡ slice_get table place →
    false ≡ get_or (get_or table place []) part false
unmarked_past table place part is =
    ap (λ (o : Option (List Bool)). get_or (unwrap_or o []) part false) is ∙ ap (λ (m : List Bool). get_or m part false)
    (unwrap_or-slice_get table place [])

-- the first single that is the node's
pub found_there : (singles : List Single) (node : NodeId) (place : ℕ) (single : Single) → place < length singles →
    single ≡ get_or singles place single → node.0 ≡ single.from.0 →
    single_of (drop place singles) node ≡ slice_get singles place
found_there singles node place single inside is same =
    let split : drop place singles ≡ single ∷ drop (suc place) singles = drop-cons singles place single inside
    ∙ ap (λ (s : Single). s ∷ drop (suc place) singles) (sym is) in
    let there : slice_get singles place ≡ Some single = slice_get-get_or singles place single inside
    ∙ ap (λ (s : Single). Some s) (sym is) in
    rw (split, there, eq-eqb _ _ same) refl

pub claim_found : (version : TopVer) (parts : ℕ) (singles : List Single) (table : List (List Bool)) (node : NodeId)
    (place part : ℕ) (single : Single) → IsTable version parts singles table →
    single_of (drop place singles) node ≡ single_of singles node → place < length singles → part < parts →
    single ≡ get_or singles place single → node.0 ≡ single.from.0 → get_or (get_or table place []) part false
    ≡ is_claimed version part (single_of singles node)
claim_found version parts singles table node place part single is_table passed inside within is same =
    is_table.each place part inside within
    ∙ ap (is_claimed version part) (sym (found_there singles node place single inside is same) ∙ passed)
