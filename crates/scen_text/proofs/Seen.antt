-- What a look-up of an object says of all that are known, each once.
use Rattle.std.proofs.Common.{◌≡◌, Bool, true, false, cond, ◌&&◌, ◌||◌, not, if◌then◌else◌, List, [], ◌∷◌, ◌++◌, Option, None, Some, is_some, refl, ap, true≢false}
use Rattle.std.specs.Cmp.{IsEquivalence, nat_eq_equiv, and_equiv, on_equiv}
use Rattle.std.specs.Cmp.Lexicographic.{nat_list_eq_equiv}
use Rattle.std.specs.List.{list_any, IsDistinct, AllByRecursion}
use Rattle.std.specs.Map.{keys_of, lookup}
use Rattle.ignite_types.specs.Names.{same_key}
use Rattle.ignite_types.specs.declared.text.Key.{Key}
use Rattle.indexmap.specs.IndexMap.{insert_entry}
use Rattle.scen_text.specs.declared.limits.Kind.{Kind}
use Rattle.scen_text.specs.Known.{has_object, is_other, same_object_kind}

pub same_key_equiv : IsEquivalence same_key
same_key_equiv = and_equiv (on_equiv (λ (k : Key). k.cache) nat_eq_equiv) (on_equiv (λ (k : Key). k.text) nat_list_eq_equiv)

-- the value that was found passes the test
abbrev pub passes : {X : Type 0} → (X → Bool) → Option X → Bool
passes test None = false
passes test (Some x) = test x

module _ {K X : Type 0} (eq : K → K → Bool) (laws : IsEquivalence eq) where
  -- some key is the one that is looked for, where one is found
  pub any_key : (es : List (K × X)) (k : K) → list_any (λ e. eq e.0 k) es ≡ is_some (lookup (eq k) es)
  any_key [] k = refl
  any_key (e ∷ es) k = rw (laws.symm e.0 k, any_key es k) (by (eq k e.0))
    where
      by : (b : Bool) → (b || is_some (lookup (eq k) es)) ≡ is_some (cond b (Some e.1) (lookup (eq k) es))
      by true = refl
      by false = refl

  -- no key is the one that is looked for, where it is equal to one that is in no other place
  none_more : (es : List (K × X)) (k x : K) (test : X → Bool) → eq k x ≡ true →
      AllByRecursion (λ y. eq x y ≡ false) (keys_of es)
      → list_any (λ e. eq e.0 k && test e.1) es ≡ false
  none_more [] k x test same apart = refl
  none_more (e ∷ es) k x test same apart =
      rw (laws.symm e.0 k, laws.congr k x e.0 same, apart.0) (none_more es k x test same apart.1)

  -- a known one passes the test, where the one that is found passes it
  pub any_passing : (es : List (K × X)) (k : K) (test : X → Bool) → IsDistinct eq (keys_of es) →
      list_any (λ e. eq e.0 k && test e.1) es ≡ passes test (lookup (eq k) es)
  unfolding IsDistinct
  any_passing [] k test distinct = refl
  any_passing (e ∷ es) k test distinct =
      elim (eq k e.0) as (λ b. eq k e.0 ≡ b → (eq e.0 k && test e.1 || list_any (λ e. eq e.0 k && test e.1) es) ≡ passes test
      (cond b (Some e.1) (lookup (eq k) es))) [
        | true ↦ λ same. rw (laws.symm e.0 k, same, none_more es k e.0 test same distinct.0) (or_false (test e.1))
        | false ↦ λ other. rw (laws.symm e.0 k, other) (any_passing es k test distinct.1)
      ] refl
    where
      or_false : (b : Bool) → (b || false) ≡ b
      or_false true = refl
      or_false false = refl

  -- a new key goes last
  pub inserted_last : (es : List (K × X)) (k : K) (x : X) → is_some (lookup (eq k) es) ≡ false →
      insert_entry eq es k x ≡ es ++ (k, x) ∷ []
  inserted_last [] k x new = refl
  inserted_last (e ∷ es) k x new =
      elim (eq k e.0) as (λ b. is_some (cond b (Some e.1) (lookup (eq k) es)) ≡ false →
      (if b then (e.0, x) ∷ es else e ∷ insert_entry eq es k x) ≡ e ∷ (es ++ (k, x) ∷ [])) [
        | true ↦ λ found. absurd (true≢false found)
        | false ↦ λ new. ap (λ more. e ∷ more) (inserted_last es k x new)
      ] new

-- an object that is found is known
pub found_before : (objects : List (Key × Kind)) (object : Key) (kind : Kind) → is_some (lookup (same_key object) objects)
    ≡ true
    → objects ≡ (if has_object objects object then objects else objects ++ (object, kind) ∷ [])
found_before objects object kind found = rw (any_key same_key same_key_equiv objects object, found) refl

-- one that is not found is new
pub added_last : (objects : List (Key × Kind)) (object : Key) (kind : Kind) → is_some (lookup (same_key object) objects) ≡ false
    → insert_entry same_key objects object kind ≡ (if has_object objects object then objects else objects ++ (object, kind)
    ∷ [])
added_last objects object kind new =
    rw (any_key same_key same_key_equiv objects object, new) (inserted_last same_key same_key_equiv objects object kind new)

-- an object is known to be of another kind where the kind that is found is another
pub other_kind : (objects : List (Key × Kind)) (object : Key) (kind : Kind) → IsDistinct same_key (keys_of objects)
    → is_other objects object kind ≡ passes (λ known. not (same_object_kind known kind)) (lookup (same_key object) objects)
other_kind objects object kind distinct = any_passing same_key same_key_equiv objects object
    (λ known. not (same_object_kind known kind)) distinct
