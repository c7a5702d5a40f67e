-- Near caches by the number of their cache: a look-up and a change of one, as of what it shows.
use Rattle.std.proofs.Common.{◌≡◌, ◌<◌, ◌+◌, ℕ, zero, suc, List, [], ◌∷◌, IsSome, None, Option, Some, add-one, ap, arith, get_or, length, option_map, refl, sym, take, unwrap_or, ◌∙◌}
use Rattle.std.specs.Map.{keys_of}
use Rattle.std.specs.Option.{option_map_or}
use Rattle.std.specs.Ordering.{match_ordering, nat_cmp}
use Rattle.std.specs.declared.cmp.Ordering.TheVariants.{Less, Equal, Greater}
use Rattle.std.proofs.lemmas.Cmp.{nat_cmp_total}
use Rattle.part_model.specs.NearEntries.{NearCache, near_entry, near_front, near_put, near_updated}
use Rattle.part_model.specs.declared.near.NearEntry.{NearEntry}
use Rattle.ignite_types.specs.declared.names.CacheVersion.{CacheVersion}
use Rattle.ignite_types.specs.declared.text.Key.{Key}
use Rattle.hash_table.proofs.Least.{listed_there}
use Rattle.ordered_table.specs.Entries.{at, put}
use Rattle.ordered_table.specs.Places.{IsAscending}
use Rattle.ordered_table.proofs.Laws as laws
use Rattle.near_cache.specs.ByCache.{entries_by_cache, entries_in, near_at, with_near_at}
use Rattle.near_cache.specs.Sized.{SizedNear, after_hit}
use Rattle.near_cache.proofs.ReaderLaws.{put_in_order}

abbrev Caches : Type 0
Caches = List (ℕ × Option SizedNear)

shown_at : (cs : Caches) (c : ℕ) → at nat_cmp (entries_by_cache cs) c ≡ option_map entries_in (at nat_cmp cs c)
shown_at [] c = refl
shown_at (e ∷ es) c =
    elim (nat_cmp c e.0) as (λ r. match_ordering r None (Some (entries_in e.1)) (at nat_cmp (entries_by_cache es) c)
    ≡ option_map entries_in (match_ordering r None (Some e.1) (at nat_cmp es c))) [
      | Less ↦ refl
      | Equal ↦ refl
      | Greater ↦ shown_at es c
    ]

shown_put : (cs : Caches) (c : ℕ) (near : Option SizedNear) → entries_by_cache (put nat_cmp cs c near) ≡ put nat_cmp
    (entries_by_cache cs) c (entries_in near)
shown_put [] c near = refl
shown_put (e ∷ es) c near =
    elim (nat_cmp c e.0) as (λ r. entries_by_cache (match_ordering r ((c, near) ∷ e ∷ es) ((c, near) ∷ es)
    (e ∷ put nat_cmp es c near)) ≡ match_ordering r ((c, entries_in near) ∷ entries_by_cache (e ∷ es))
    ((c, entries_in near) ∷ entries_by_cache es) ((e.0, entries_in e.1) ∷ put nat_cmp (entries_by_cache es) c
    (entries_in near))) [
      | Less ↦ refl
      | Equal ↦ refl
      | Greater ↦ ap (λ r. (e.0, entries_in e.1) ∷ r) (shown_put es c near)
    ]

entries_or : (o : Option (Option SizedNear)) → unwrap_or (option_map entries_in o) [] ≡ entries_in (unwrap_or o None)
entries_or None = refl
entries_or (Some near) = refl

pub shown_near : (cs : Caches) (key : Key) →
    near_at (entries_by_cache cs) key ≡ entries_in (unwrap_or (at nat_cmp cs key.cache) None)
shown_near cs key = ap (λ o. unwrap_or o []) (shown_at cs key.cache) ∙ entries_or (at nat_cmp cs key.cache)

-- a near cache is put back changed, with a vacant one in its place until then
pub shown_with : (cs : Caches) (key : Key) (near : Option SizedNear) → entries_by_cache (put nat_cmp cs key.cache near)
    ≡ with_near_at (entries_by_cache cs) key (entries_in near)
shown_with cs key near = shown_put cs key.cache near

pub put_back : (cs : Caches) (c : ℕ) (near : Option SizedNear) → put nat_cmp (put nat_cmp cs c None) c near
    ≡ put nat_cmp cs c near
put_back cs c near = laws.put_put nat_cmp nat_cmp_total cs c None near

pub vacant_there : (cs : Caches) (c : ℕ) → IsSome (at nat_cmp (put nat_cmp cs c None) c)
vacant_there cs c = laws.put_there nat_cmp nat_cmp_total cs c None

same_or : (ks : List ℕ) (i a b : ℕ) → i < length ks → get_or ks i a ≡ get_or ks i b
same_or [] i a b within = absurd (omega arith)
same_or (k ∷ ks) zero a b within = refl
same_or (k ∷ ks) (suc i) a b within = same_or ks i a b (omega arith)

-- the number at a place is that of a cache
pub cache_there : (cs : Caches) (ks : List ℕ) (i : ℕ) → IsAscending nat_cmp cs → ks ≡ keys_of cs → i < length ks →
    None ≡ at nat_cmp cs (get_or ks i 0) → ⊥
cache_there cs ks i ascending keys within none =
    listed_there nat_cmp nat_cmp_total cs ks i (get_or ks i 0) ascending keys within (same_or ks i 0 (get_or ks i 0) within)
    none

-- a copy that has the caches before a place gets the one at it
pub cache_copied : (cs : Caches) (ks : List ℕ) (i : ℕ) (near : Option SizedNear) → IsAscending nat_cmp cs → ks ≡ keys_of cs →
    i < length ks → at nat_cmp cs (get_or ks i 0) ≡ Some near → put nat_cmp (take i cs) (get_or ks i 0) near ≡ take (i + 1) cs
cache_copied cs ks i near ascending keys within found =
    let inside : i < length (keys_of cs) = rw keys at within in
    let here : get_or ks i 0 ≡ get_or (keys_of cs) i (get_or ks i 0) = ap (λ (l : List ℕ). get_or l i 0) keys
    ∙ same_or (keys_of cs) i 0 (get_or ks i 0) inside in
    rw (add-one i) (put_in_order nat_cmp nat_cmp_total cs i (get_or ks i 0) near ascending inside here found)

-- what a near cache that was taken out shows
taken_shown : (cs : Caches) (key : Key) (near : Option SizedNear) → near ≡ unwrap_or (at nat_cmp cs key.cache) None →
    near_at (entries_by_cache cs) key ≡ entries_in near
taken_shown cs key near taken = shown_near cs key ∙ ap entries_in (sym taken)

-- it is put back changed
pub put_changed : (cs before : Caches) (key : Key) (near kept : Option SizedNear) (f : NearCache → NearCache) →
    near ≡ unwrap_or (at nat_cmp cs key.cache) None → put nat_cmp before key.cache kept ≡ put nat_cmp cs key.cache kept →
    entries_in kept ≡ f (entries_in near)
    → entries_by_cache (put nat_cmp before key.cache kept) ≡ with_near_at (entries_by_cache cs) key
    (f (near_at (entries_by_cache cs) key))
put_changed cs before key near kept f taken rest changed =
    ap entries_by_cache rest
    ∙ shown_with cs key kept
    ∙ ap (λ (n : NearCache). with_near_at (entries_by_cache cs) key n) (changed ∙ ap f (sym (taken_shown cs key near taken)))

cache_of_entry : (o : Option (Option SizedNear)) (key : Key) (e : NearEntry) → near_entry (entries_in (unwrap_or o None)) key
    ≡ Some e → IsSome o
cache_of_entry None key e there = absurd (cc)
cache_of_entry (Some near) key e there = refl

-- the cache of an entry that is there was made
pub entry_in_cache : (cs : Caches) (key : Key) (e : NearEntry) → near_entry (near_at (entries_by_cache cs) key) key ≡ Some e →
    IsSome (at nat_cmp cs key.cache)
entry_in_cache cs key e there =
    cache_of_entry (at nat_cmp cs key.cache) key e (ap (λ (n : NearCache). near_entry n key) (sym (shown_near cs key)) ∙ there)

-- an entry that is used comes to the front
pub used_front : (cs : Caches) (key : Key) (near used : Option SizedNear) (e : NearEntry) →
    at nat_cmp cs key.cache ≡ Some near → entries_in used ≡ after_hit (entries_in near) key →
    near_entry (near_at (entries_by_cache cs) key) key ≡ Some e
    → entries_by_cache (put nat_cmp (put nat_cmp cs key.cache None) key.cache used) ≡ with_near_at (entries_by_cache cs) key
    (near_front (near_at (entries_by_cache cs) key) e)
used_front cs key near used e found changed there =
    let shown : near_at (entries_by_cache cs) key ≡ entries_in near = shown_near cs key
    ∙ ap (λ (o : Option (Option SizedNear)). entries_in (unwrap_or o None)) found in
    let first : near_entry (entries_in near) key ≡ Some e = ap (λ (n : NearCache). near_entry n key) (sym shown) ∙ there in
    let front : after_hit (entries_in near) key ≡ near_front (entries_in near) e =
    ap (λ (o : Option NearEntry). option_map_or (near_front (entries_in near)) o (entries_in near)) first in
    ap entries_by_cache (put_back cs key.cache used)
    ∙ shown_with cs key used
    ∙ ap (λ (n : NearCache). with_near_at (entries_by_cache cs) key n) (changed ∙ front
    ∙ ap (λ (n : NearCache). near_front n e) (sym shown))

pub put_in_front : (cs before : Caches) (key : Key) (near kept : Option SizedNear) (size : ℕ) (e : NearEntry) →
    near ≡ unwrap_or (at nat_cmp cs key.cache) None → put nat_cmp before key.cache kept ≡ put nat_cmp cs key.cache kept →
    entries_in kept ≡ near_put size (entries_in near) e
    → entries_by_cache (put nat_cmp before key.cache kept) ≡ with_near_at (entries_by_cache cs) key
    (near_put size (near_at (entries_by_cache cs) key) e)
put_in_front cs before key near kept size e taken rest changed =
    put_changed cs before key near kept (λ (n : NearCache). near_put size n e) taken rest changed

pub updated_there : (cs before : Caches) (key : Key) (near kept : Option SizedNear) (new : Option (List ℕ))
    (ver : CacheVersion) → near ≡ unwrap_or (at nat_cmp cs key.cache) None →
    put nat_cmp before key.cache kept ≡ put nat_cmp cs key.cache kept →
    entries_in kept ≡ near_updated (entries_in near) key new ver
    → entries_by_cache (put nat_cmp before key.cache kept) ≡ with_near_at (entries_by_cache cs) key
    (near_updated (near_at (entries_by_cache cs) key) key new ver)
updated_there cs before key near kept new ver taken rest changed =
    put_changed cs before key near kept (λ (n : NearCache). near_updated n key new ver) taken rest changed
