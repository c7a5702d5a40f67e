-- The same of keys and versions as the near cache compares them.
use Rattle.std.proofs.Common.{◌≡◌, ℕ, Bool, true, false, List, [], ◌∷◌, ◌++◌, Option, Some, None, refl, ap, sym, ◌∙◌, arith, nat_eq, cond, option_map, subst, append_assoc, take, ◌≤◌}
use Rattle.std.specs.Cmp.{IsEquivalence, on_equiv, and_equiv, nat_eq_equiv, first_so, second_so}
use Rattle.std.specs.Cmp.Lexicographic.{pointwise}
use Rattle.std.specs.Map.{keys_of, lookup, remove_entry, set_value}
use Rattle.std.proofs.lemmas.Bool.{eqb-true}
use Rattle.std.proofs.lemmas.Cmp.{nat_list_eq_equiv}
use Rattle.std.proofs.lemmas.Map.Keys.{IsDistinct-head, IsDistinct-tail}
use Rattle.part_model.specs.NearEntries.{near_entry, near_front, near_put, near_updated}
use Rattle.part_model.specs.Orders.{is_lower}
use Rattle.ignite_types.proofs.NameLaws.{key_equiv, same_key_true}
use Rattle.ignite_types.specs.Names.{same_key}
use Rattle.ignite_types.specs.declared.names.CacheVersion.{CacheVersion}
use Rattle.ignite_types.specs.declared.text.Key.{Key}
use Rattle.lru.specs.LruCache.{LruCache, IsValid, lru_cache, promoted, put_entries}
use Rattle.near_cache.specs.Kept.{has_older, near_entries, near_entry_of}
use Rattle.near_cache.specs.Sized.{after_hit, hit}
use Rattle.near_cache.specs.declared.near.Kept.{Kept}
use Rattle.near_cache.proofs.Entries as entries

abbrev key_with : ℕ → List ℕ → Key
key_with cache text = record { cache = cache; text = text }

-- the entry of a key is what is kept there
pub entry_kept : (es : List (Key × Kept)) (k : Key) →
    near_entry (near_entries es) k ≡ option_map (λ (v : Kept). near_entry_of (k, v)) (lookup (same_key k) es)
entry_kept es k = entries.found_at same_key key_equiv same_key_true k es

-- a hit answers what is kept at the key
pub hit_kept : (es : List (Key × Kept)) (k : Key) → hit (near_entries es) k ≡ option_map {U = List ℕ × CacheVersion}
    (λ (v : Kept). (v.value, v.ver)) (lookup (same_key k) es)
hit_kept es k = entries.hit_at same_key key_equiv same_key_true k es

pub hit_none : (es : List (Key × Kept)) (k : Key) → lookup (same_key k) es ≡ None → hit (near_entries es) k ≡ None
hit_none es k none = hit_kept es k ∙ rw none refl

pub hit_some : (es : List (Key × Kept)) (k : Key) (v : Kept) → lookup (same_key k) es ≡ Some v →
    hit (near_entries es) k ≡ Some (v.value, v.ver)
hit_some es k v some = hit_kept es k ∙ rw some refl

-- and brings it to the front
pub hit_front : (c : LruCache Key Kept) (k : Key) → IsValid same_key c → after_hit (near_entries c.entries) k ≡ near_entries
    (promoted (same_key k) c.entries)
hit_front c k valid = entries.front same_key key_equiv same_key_true k c.entries valid.0

pub put_kept : (c : LruCache Key Kept) (k : Key) (v : Kept) → IsValid same_key c →
    near_put c.cap (near_entries c.entries) (near_entry_of (k, v)) ≡ near_entries (put_entries same_key c k v)
put_kept c k v valid = entries.put_front same_key key_equiv same_key_true k c.entries v c.cap valid.0 valid.1 valid.2

-- an entry is put into a cache with room for the size, which then gets that size
pub put_sized : (c : LruCache Key Kept) (es : List (Key × Kept)) (k : Key) (v : Kept) (size : ℕ) → IsValid same_key c →
    c.entries ≡ es → size ≤ c.cap → near_entries (take size (put_entries same_key c k v)) ≡ near_put size (near_entries es)
    (near_entry_of (k, v))
put_sized c es k v size valid same room =
    entries.near_entries_take size (put_entries same_key c k v)
    ∙ ap (take size) (sym (put_kept c k v valid))
    ∙ entries.take_less size c.cap (near_front (near_entries c.entries) (near_entry_of (k, v))) room
    ∙ ap (λ (l : List (Key × Kept)). near_put size (near_entries l) (near_entry_of (k, v))) same

under : {X : Type 0} (b c : Bool) (x y : X) → b ≡ c → cond b x y ≡ cond c x y
under b c x y h = rw h refl

-- an update of a key with no older entry changes nothing
pub update_newer : (c : LruCache Key Kept) (k : Key) (new : Option (List ℕ)) (ver : CacheVersion) → IsValid same_key c →
    has_older c.entries k ver ≡ false → near_updated (near_entries c.entries) k new ver ≡ near_entries c.entries
update_newer c k None ver valid older =
    entries.removal same_key key_equiv same_key_true k (λ (w : CacheVersion). is_lower w ver) c.entries valid.0
    ∙ under (has_older c.entries k ver) false (near_entries (remove_entry (same_key k) c.entries)) (near_entries c.entries)
    older
update_newer c k (Some value) ver valid older =
    let kept : Kept = record { value = value; ver = ver } in
    entries.renewal same_key key_equiv same_key_true k (λ (w : CacheVersion). is_lower w ver) kept c.entries valid.0
    ∙ under (has_older c.entries k ver) false (near_entries (set_value (same_key k) c.entries kept)) (near_entries c.entries)
    older

pub update_removed : (c : LruCache Key Kept) (k : Key) (ver : CacheVersion) → IsValid same_key c →
    has_older c.entries k ver ≡ true → near_updated (near_entries c.entries) k None ver ≡ near_entries
    (remove_entry (same_key k) c.entries)
update_removed c k ver valid older =
    entries.removal same_key key_equiv same_key_true k (λ (w : CacheVersion). is_lower w ver) c.entries valid.0
    ∙ under (has_older c.entries k ver) true (near_entries (remove_entry (same_key k) c.entries)) (near_entries c.entries) older

pub update_renewed : (c : LruCache Key Kept) (k : Key) (kept : Kept) → IsValid same_key c →
    has_older c.entries k kept.ver ≡ true → near_updated (near_entries c.entries) k (Some kept.value) kept.ver ≡ near_entries
    (set_value (same_key k) c.entries kept)
update_renewed c k kept valid older =
    entries.renewal same_key key_equiv same_key_true k (λ (w : CacheVersion). is_lower w kept.ver) kept c.entries valid.0
    ∙ under (has_older c.entries k kept.ver) true (near_entries (set_value (same_key k) c.entries kept))
    (near_entries c.entries) older

-- no value is renewed at a key that is missing
pub set_none : (es : List (Key × Kept)) (k : Key) (v : Kept) → lookup (same_key k) es ≡ None → set_value (same_key k) es v ≡ es
set_none es k v none = entries.renew_none same_key key_equiv same_key_true k es v none

-- a copy grows by the entry in front of it
pub copied_more : (before : List (Key × Kept)) (e : Key × Kept) (es : List (Key × Kept)) (size : ℕ) →
    IsValid same_key (lru_cache (before ++ e ∷ es) size) → put_entries same_key (lru_cache es size) e.0 e.1 ≡ e ∷ es
copied_more [] e es size valid =
    entries.put_new same_key key_equiv same_key_true e.0 es e.1 size (IsDistinct-head same_key e.0 (keys_of es) valid.0)
    (omega (arith, valid.1))
copied_more (x ∷ before) e es size valid =
    copied_more before e es size (
      IsDistinct-tail same_key x.0 (keys_of (before ++ e ∷ es)) valid.0,
      omega (arith, valid.1),
      valid.2,
    )

-- so the list's last entry goes over to the copy
pub copied_last : (c copy : LruCache Key Kept) (left rest : List (Key × Kept)) (e : Key × Kept) → IsValid same_key c →
    left ++ copy.entries ≡ c.entries → copy.cap ≡ c.cap → left ≡ rest ++ e ∷ [] → rest ++ put_entries same_key copy e.0 e.1
    ≡ c.entries
copied_last c copy left rest e valid so_far cap split =
    let whole : c.entries ≡ rest ++ e ∷ copy.entries = sym so_far ∙ ap (λ (l : List (Key × Kept)). l ++ copy.entries) split
    ∙ append_assoc rest (e ∷ []) copy.entries in
    let same : c ≡ lru_cache (rest ++ e ∷ copy.entries) copy.cap = ap (λ (es : List (Key × Kept)). lru_cache es c.cap) whole
    ∙ ap (λ (n : ℕ). lru_cache (rest ++ e ∷ copy.entries) n) (sym cap) in
    ap (λ (r : List (Key × Kept)). rest ++ r)
    (copied_more rest e copy.entries copy.cap (subst (λ (d : LruCache Key Kept). IsValid same_key d) same valid))
    ∙ sym whole
