-- What a cache with distinct keys holds, as a near cache: a look-up by key, an entry that comes to the front, goes or is
-- renewed.
use Rattle.std.proofs.Common.{◌≡◌, ℕ, zero, suc, ◌+◌, ◌-◌, ◌<◌, ◌≤◌, Bool, true, false, not, ◌&&◌, cond, List, [], ◌∷◌, length, take, map, filter, Option, Some, None, option_map, refl, ap, sym, ◌∙◌, subst, arith}
use Rattle.std.specs.Cmp.{IsEquivalence}
use Rattle.std.specs.List.{find, AllByRecursion, IsDistinct}
use Rattle.std.specs.Map.{keys_of, lookup, lookup_entry, remove_entry, set_value}
use Rattle.std.specs.Option.{option_map_or}
use Rattle.std.proofs.lemmas.Map.Keys.{IsDistinct-head, IsDistinct-tail}
use Rattle.part_model.specs.declared.near.NearEntry.{NearEntry}
use Rattle.ignite_types.specs.declared.names.CacheVersion.{CacheVersion}
use Rattle.ignite_types.specs.declared.text.Key.{Key}
use Rattle.lru.specs.LruCache.{lru_cache, promoted, put_entries}
use Rattle.lru.proofs.CallerLemmas.{Contains-lookup_entry}
use Rattle.near_cache.specs.Kept.{near_entries, near_entry_of}
use Rattle.near_cache.specs.declared.near.Kept.{Kept}

pub take_all : {X : Type 0} (n : ℕ) (xs : List X) → length xs ≤ n → take n xs ≡ xs
take_all zero [] le = refl
take_all (suc n) [] le = refl
take_all zero (x ∷ xs) le = absurd (omega arith)
take_all (suc n) (x ∷ xs) le = ap (λ r. x ∷ r) (take_all n xs (omega arith))

pub near_entries_take : (n : ℕ) (es : List (Key × Kept)) → near_entries (take n es) ≡ take n (near_entries es)
near_entries_take zero es = refl
near_entries_take (suc n) [] = refl
near_entries_take (suc n) (e ∷ es) = ap (λ r. near_entry_of e ∷ r) (near_entries_take n es)

pub take_less : {X : Type 0} (n m : ℕ) (xs : List X) → n ≤ m → take n (take m xs) ≡ take n xs
take_less zero m xs le = refl
take_less (suc n) zero xs le = absurd (omega arith)
take_less (suc n) (suc m) [] le = refl
take_less (suc n) (suc m) (x ∷ xs) le = ap (λ r. x ∷ r) (take_less n m xs (omega arith))

near_entries_length : (es : List (Key × Kept)) → length (near_entries es) ≡ length es
near_entries_length [] = refl
near_entries_length (e ∷ es) = ap suc (near_entries_length es)

under_cond : {X Y : Type 0} (f : X → Y) (b : Bool) (x y : X) → f (cond b x y) ≡ cond b (f x) (f y)
under_cond f true x y = refl
under_cond f false x y = refl

module _ (same : Key → Key → Bool) (laws : IsEquivalence same) (exact : (a b : Key) → same a b ≡ true → a ≡ b) (k : Key) where
  abbrev NoneHas : List (Key × Kept) → Type 0
  NoneHas es = AllByRecursion (λ j. same k j ≡ false) (keys_of es)

  -- once the key was found, no later entry has it
  none_later : (e : Key × Kept) (es : List (Key × Kept)) → same k e.0 ≡ true → IsDistinct same (keys_of (e ∷ es)) → NoneHas es
  none_later e es h d =
      subst (λ j. AllByRecursion (λ y. same j y ≡ false) (keys_of es)) (sym (exact k e.0 h))
      (IsDistinct-head same e.0 (keys_of es) d)

  lookup_none : (es : List (Key × Kept)) → NoneHas es → lookup_entry (same k) es ≡ None
  lookup_none [] none = refl
  lookup_none (e ∷ es) none = rw none.0 (lookup_none es none.1)

  remove_none : (es : List (Key × Kept)) → lookup_entry (same k) es ≡ None → remove_entry (same k) es ≡ es
  remove_none [] none = refl
  remove_none (e ∷ es) none = (elim (same k e.0) as (λ b. same k e.0 ≡ b → cond b es (e ∷ remove_entry (same k) es) ≡ e ∷ es) [
    | true ↦ λ h. let none' = rw h at none in absurd (cc)
    | false ↦ λ h. ap (λ r. e ∷ r) (remove_none es (rw h at none))
  ]) refl

  pub renew_none : (es : List (Key × Kept)) (w : Kept) → lookup (same k) es ≡ None → set_value (same k) es w ≡ es
  renew_none [] w none = refl
  renew_none (e ∷ es) w none =
      (elim (same k e.0) as (λ b. same k e.0 ≡ b → cond b ((e.0, w) ∷ es) (e ∷ set_value (same k) es w) ≡ e ∷ es) [
        | true ↦ λ h. let none' = rw h at none in absurd (cc)
        | false ↦ λ h. ap (λ r. e ∷ r) (renew_none es w (rw h at none))
      ]) refl

  length_remove : (es : List (Key × Kept)) (x : Key × Kept) → lookup_entry (same k) es ≡ Some x →
      length (remove_entry (same k) es) + 1 ≡ length es
  length_remove [] x found = absurd (cc)
  length_remove (e ∷ es) x found =
      (elim (same k e.0) as (λ b. same k e.0 ≡ b → length (cond b es (e ∷ remove_entry (same k) es)) + 1 ≡ length (e ∷ es)) [
        | true ↦ λ h. omega arith
        | false ↦ λ h. omega (arith, length_remove es x (rw h at found))
      ]) refl

  -- a look-up by key
  entry_at : (es : List (Key × Kept)) → find (λ (n : NearEntry). same n.key k) (near_entries es) ≡ option_map near_entry_of
      (lookup_entry (same k) es)
  entry_at [] = refl
  entry_at (e ∷ es) = (elim (same k e.0) as (λ b. same k e.0 ≡ b →
      find (λ (n : NearEntry). same n.key k) (near_entries (e ∷ es)) ≡ option_map near_entry_of
      (cond b (Some e) (lookup_entry (same k) es))) [
        | true ↦ λ h. rw (laws.symm e.0 k ∙ h)
        | false ↦ λ h. rw (laws.symm e.0 k ∙ h) (entry_at es)
      ]) refl

  pub hit_at : (es : List (Key × Kept)) → option_map {U = List ℕ × CacheVersion} (λ (n : NearEntry). (n.value, n.ver))
      (find (λ (n : NearEntry). same n.key k) (near_entries es)) ≡ option_map {U = List ℕ × CacheVersion}
      (λ (v : Kept). (v.value, v.ver)) (lookup (same k) es)
  hit_at [] = refl
  hit_at (e ∷ es) = (elim (same k e.0) as (λ b. same k e.0 ≡ b →
      option_map {U = List ℕ × CacheVersion} (λ (n : NearEntry). (n.value, n.ver))
      (find (λ (n : NearEntry). same n.key k) (near_entries (e ∷ es))) ≡ option_map {U = List ℕ × CacheVersion}
      (λ (v : Kept). (v.value, v.ver)) (cond b (Some e.1) (lookup (same k) es))) [
        | true ↦ λ h. rw (laws.symm e.0 k ∙ h)
        | false ↦ λ h. rw (laws.symm e.0 k ∙ h) (hit_at es)
      ]) refl

  pub found_at : (es : List (Key × Kept)) → find (λ (n : NearEntry). same n.key k) (near_entries es) ≡ option_map
      (λ (v : Kept). near_entry_of (k, v)) (lookup (same k) es)
  found_at [] = refl
  found_at (e ∷ es) = (elim (same k e.0) as (λ b. same k e.0 ≡ b →
      find (λ (n : NearEntry). same n.key k) (near_entries (e ∷ es)) ≡ option_map (λ (v : Kept). near_entry_of (k, v))
      (cond b (Some e.1) (lookup (same k) es))) [
        | true ↦ λ h. rw (laws.symm e.0 k ∙ h) (ap (λ j. Some (near_entry_of (j, e.1))) (sym (exact k e.0 h)))
        | false ↦ λ h. rw (laws.symm e.0 k ∙ h) (found_at es)
      ]) refl

  -- the entries of other keys
  all_others : (es : List (Key × Kept)) → NoneHas es → filter (λ (n : NearEntry). not (same n.key k)) (near_entries es)
      ≡ near_entries es
  all_others [] none = refl
  all_others (e ∷ es) none = rw (laws.symm e.0 k ∙ none.0) (ap (λ r. near_entry_of e ∷ r) (all_others es none.1))

  others : (es : List (Key × Kept)) → IsDistinct same (keys_of es) →
      filter (λ (n : NearEntry). not (same n.key k)) (near_entries es) ≡ near_entries (remove_entry (same k) es)
  others [] d = refl
  others (e ∷ es) d = (elim (same k e.0) as (λ b. same k e.0 ≡ b →
      filter (λ (n : NearEntry). not (same n.key k)) (near_entries (e ∷ es)) ≡ near_entries
      (cond b es (e ∷ remove_entry (same k) es))) [
        | true ↦ λ h. rw (laws.symm e.0 k ∙ h) (all_others es (none_later e es h d))
        | false ↦ λ h. rw (laws.symm e.0 k ∙ h)
            (ap (λ r. near_entry_of e ∷ r) (others es (IsDistinct-tail same e.0 (keys_of es) d)))
      ]) refl

  front_at : (es : List (Key × Kept)) (o : Option (Key × Kept)) → IsDistinct same (keys_of es) →
      lookup_entry (same k) es ≡ o →
      option_map_or (λ (n : NearEntry). n ∷ filter (λ (m : NearEntry). not (same m.key n.key)) (near_entries es))
      (option_map near_entry_of o) (near_entries es) ≡ near_entries (option_map_or (λ e. e ∷ remove_entry (same k) es) o es)
  front_at es None d found = refl
  front_at es (Some e) d found =
      let key : k ≡ e.0 = exact k e.0 (Contains-lookup_entry (same k) es e found).1 in
      ap (λ r. near_entry_of e ∷ r)
      (subst (λ j. filter (λ (m : NearEntry). not (same m.key j)) (near_entries es) ≡ near_entries
      (remove_entry (same k) es)) key (others es d))

  -- the entry of the key comes to the front
  pub front : (es : List (Key × Kept)) → IsDistinct same (keys_of es) →
      option_map_or (λ (n : NearEntry). n ∷ filter (λ (m : NearEntry). not (same m.key n.key)) (near_entries es))
      (find (λ (n : NearEntry). same n.key k) (near_entries es)) (near_entries es) ≡ near_entries (promoted (same k) es)
  front es d = rw (entry_at es) (front_at es (lookup_entry (same k) es) d refl)

  put_at : (es : List (Key × Kept)) (v : Kept) (m : ℕ) (o : Option (Key × Kept)) → length es ≤ suc m →
      lookup_entry (same k) es ≡ o → near_entry_of (k, v) ∷ take m (near_entries (remove_entry (same k) es)) ≡ near_entries
      (option_map_or (λ e. (e.0, v) ∷ remove_entry (same k) es) o ((k, v) ∷ take m es))
  put_at es v m None le found =
      ap (λ r. near_entry_of (k, v) ∷ r) (rw (remove_none es found) (sym (near_entries_take m es)))
  put_at es v m (Some e) le found =
      let key : k ≡ e.0 = exact k e.0 (Contains-lookup_entry (same k) es e found).1 in
      let room : length (near_entries (remove_entry (same k) es)) ≤ m =
      omega (arith, near_entries_length (remove_entry (same k) es), length_remove es e found) in
      subst (λ j. near_entry_of (k, v) ∷ take m (near_entries (remove_entry (same k) es)) ≡ near_entry_of (j, v)
      ∷ near_entries (remove_entry (same k) es)) key
      (ap (λ r. near_entry_of (k, v) ∷ r) (take_all m (near_entries (remove_entry (same k) es)) room))

  -- an entry is put in front
  pub put_front : (es : List (Key × Kept)) (v : Kept) (size : ℕ) → IsDistinct same (keys_of es) → length es ≤ size →
      0 < size → take size (near_entry_of (k, v) ∷ filter (λ (n : NearEntry). not (same n.key k)) (near_entries es))
      ≡ near_entries (put_entries same (lru_cache es size) k v)
  put_front es v zero d le room = absurd (omega arith)
  put_front es v (suc m) d le room =
      let less : suc m - 1 ≡ m = omega arith in
      rw (less, others es d) (put_at es v m (lookup_entry (same k) es) le refl)

  -- an entry whose key no other one has is put in front of a cache with room
  pub put_new : (es : List (Key × Kept)) (v : Kept) (size : ℕ) → NoneHas es → length es < size →
      put_entries same (lru_cache es size) k v ≡ (k, v) ∷ es
  put_new es v size none room =
      let all : take (size - 1) es ≡ es = take_all (size - 1) es (omega arith) in
      rw (lookup_none es none) (ap (λ r. (k, v) ∷ r) all)

  module _ (lower : CacheVersion → Bool) where
    abbrev is_older : NearEntry → Bool
    is_older n = same n.key k && lower n.ver

    abbrev older_at : List (Key × Kept) → Bool
    older_at es = option_map_or (λ (v : Kept). lower v.ver) (lookup (same k) es) false

    none_removed : (es : List (Key × Kept)) → NoneHas es → filter (λ (n : NearEntry). not (is_older n)) (near_entries es)
        ≡ near_entries es
    none_removed [] none = refl
    none_removed (e ∷ es) none = rw (laws.symm e.0 k ∙ none.0) (ap (λ r. near_entry_of e ∷ r) (none_removed es none.1))

    -- a removal takes an older entry out
    pub removal : (es : List (Key × Kept)) → IsDistinct same (keys_of es) →
        filter (λ (n : NearEntry). not (is_older n)) (near_entries es) ≡ cond (older_at es)
        (near_entries (remove_entry (same k) es)) (near_entries es)
    removal [] d = refl
    removal (e ∷ es) d = (elim (same k e.0) as (λ b. same k e.0 ≡ b →
        filter (λ (n : NearEntry). not (is_older n)) (near_entries (e ∷ es))
        ≡ cond (option_map_or (λ (v : Kept). lower v.ver) (cond b (Some e.1) (lookup (same k) es)) false)
        (near_entries (cond b es (e ∷ remove_entry (same k) es))) (near_entries (e ∷ es))) [
          | true ↦ λ h.
              let rest = none_removed es (none_later e es h d) in
              rw (laws.symm e.0 k ∙ h)
              (elim (lower e.1.ver) as (λ b. cond (not b) (near_entry_of e ∷ filter (λ (n : NearEntry). not (is_older n))
              (near_entries es)) (filter (λ (n : NearEntry). not (is_older n)) (near_entries es)) ≡ cond b (near_entries es)
              (near_entries (e ∷ es))) [
                | true ↦ rest
                | false ↦ ap (λ r. near_entry_of e ∷ r) rest
              ])
          | false ↦ λ h.
              rw (laws.symm e.0 k ∙ h)
              (ap (λ r. near_entry_of e ∷ r) (removal es (IsDistinct-tail same e.0 (keys_of es) d))
              ∙ under_cond (λ r. near_entry_of e ∷ r) (older_at es) (near_entries (remove_entry (same k) es)) (near_entries es))
        ]) refl

    module _ (w : Kept) where
      abbrev renewed_at : NearEntry → NearEntry
      renewed_at n = cond (is_older n) (near_entry_of (k, w)) n

      none_renewed : (es : List (Key × Kept)) → NoneHas es → map renewed_at (near_entries es) ≡ near_entries es
      none_renewed [] none = refl
      none_renewed (e ∷ es) none = rw (laws.symm e.0 k ∙ none.0) (ap (λ r. near_entry_of e ∷ r) (none_renewed es none.1))

      -- an update renews an older entry at its place
      pub renewal : (es : List (Key × Kept)) → IsDistinct same (keys_of es) →
          map renewed_at (near_entries es) ≡ cond (older_at es) (near_entries (set_value (same k) es w)) (near_entries es)
      renewal [] d = refl
      renewal (e ∷ es) d = (elim (same k e.0) as (λ b. same k e.0 ≡ b → map renewed_at (near_entries (e ∷ es))
          ≡ cond (option_map_or (λ (v : Kept). lower v.ver) (cond b (Some e.1) (lookup (same k) es)) false)
          (near_entries (cond b ((e.0, w) ∷ es) (e ∷ set_value (same k) es w))) (near_entries (e ∷ es))) [
            | true ↦ λ h.
                let rest = none_renewed es (none_later e es h d) in
                let key : k ≡ e.0 = exact k e.0 h in
                rw (laws.symm e.0 k ∙ h)
                (elim (lower e.1.ver) as (λ b. cond b (near_entry_of (k, w)) (near_entry_of e) ∷ map renewed_at (near_entries es)
                ≡ cond b (near_entries ((e.0, w) ∷ es)) (near_entries (e ∷ es))) [
                  | true ↦ subst (λ j. near_entry_of (k, w) ∷ map renewed_at (near_entries es) ≡ near_entry_of (j, w)
                      ∷ near_entries es) key (ap (λ r. near_entry_of (k, w) ∷ r) rest)
                  | false ↦ ap (λ r. near_entry_of e ∷ r) rest
                ])
            | false ↦ λ h.
                rw (laws.symm e.0 k ∙ h)
                (ap (λ r. near_entry_of e ∷ r) (renewal es (IsDistinct-tail same e.0 (keys_of es) d))
                ∙ under_cond (λ r. near_entry_of e ∷ r) (older_at es) (near_entries (set_value (same k) es w)) (near_entries es))
          ]) refl
