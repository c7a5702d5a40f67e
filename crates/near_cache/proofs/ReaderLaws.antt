-- The readers of keys: one node leaves those of every key, and a copy grows key by key.
use Rattle.std.proofs.Common.{◌≡◌, ℕ, zero, suc, ◌+◌, ◌<◌, List, [], ◌∷◌, length, map, take, get_or, unwrap_or, IsSome, Some, None, Result, Ok, Err, OnOk, OnErr, refl, ap, sym, ◌∙◌, arith, add-one}
use Rattle.std.specs.Cmp.{IsTotalOrder, on_total, then_total}
use Rattle.std.specs.Map.{keys_of}
use Rattle.std.specs.Ordering.{match_ordering, ordering_reverse}
use Rattle.std.specs.declared.cmp.Ordering.{Ordering}
use Rattle.std.specs.declared.cmp.Ordering.TheVariants.{Less, Equal, Greater}
use Rattle.std.proofs.lemmas.Cmp.{nat_cmp_total, nat_list_cmp_total, tied_itself}
use Rattle.part_model.specs.NearEntries.{Readers, with_reader, without_reader, without_reader_of, without_reader_of_each}
use Rattle.part_model.specs.Tables.{keys_in}
use Rattle.ignite_types.proofs.NameLaws.{exact_keys, key_total}
use Rattle.ignite_types.specs.Names.{key_cmp, node_cmp}
use Rattle.ignite_types.specs.declared.names.NodeId.{NodeId}
use Rattle.ignite_types.specs.declared.text.Key.{Key}
use Rattle.ordered_set.specs.Members.{with_member, without_member}
use Rattle.ordered_table.specs.Entries.{at, put}
use Rattle.ordered_table.specs.Places.{IsAscending, IsBelowAll}
use Rattle.ordered_table.proofs.Laws as laws

-- each of the keys is greater
abbrev AllAbove : {K : Type 0} → (K → K → Ordering) → K → List K → Type 0
AllAbove cmp x [] = Unit {0}
AllAbove cmp x (k ∷ ks) = (cmp k x ≡ Greater) × AllAbove cmp x ks

module _ {K V : Type 0} (cmp : K → K → Ordering) (o : IsTotalOrder cmp) where
  -- a value that is put where it was changes nothing
  put_same : ((a b : K) → cmp a b ≡ Equal → a ≡ b) → (es : List (K × V)) (k : K) (v : V) → at cmp es k ≡ Some v →
      put cmp es k v ≡ es
  put_same exact [] k v some = absurd (cc)
  put_same exact (e ∷ es) k v some =
      (elim (cmp k e.0) as (λ r. cmp k e.0 ≡ r → match_ordering r None (Some e.1) (at cmp es k) ≡ Some v →
      match_ordering r ((k, v) ∷ e ∷ es) ((k, v) ∷ es) (e ∷ put cmp es k v) ≡ e ∷ es) [
        | Less ↦ λ g h. absurd (cc)
        | Equal ↦ λ g h.
            let value : e.1 ≡ v = cc in
            ap (λ j. (j, v) ∷ es) (exact k e.0 g) ∙ ap (λ w. (e.0, w) ∷ es) (sym value)
        | Greater ↦ λ g h. ap (λ r. e ∷ r) (put_same exact es k v h)
      ]) refl some

  above : (x : K) (es : List (K × V)) (i : ℕ) (k : K) → IsBelowAll cmp x es → i < length (keys_of es) →
      k ≡ get_or (keys_of es) i k → cmp k x ≡ Greater
  above x [] i k below l here = absurd (omega arith)
  above x (e ∷ es) zero k below l here = rw here (o.antisymm e.0 x ∙ ap ordering_reverse below.0)
  above x (e ∷ es) (suc i) k below l here = above x es i k below.1 (omega arith) here

  -- the entry of the next key comes to the end of a copy
  pub put_in_order : (es : List (K × V)) (i : ℕ) (k : K) (v : V) → IsAscending cmp es → i < length (keys_of es) →
      k ≡ get_or (keys_of es) i k → at cmp es k ≡ Some v → put cmp (take i es) k v ≡ take (suc i) es
  put_in_order [] i k v ascending l here found = absurd (omega arith)
  put_in_order (e ∷ es) zero k v ascending l here found =
      let tied : cmp k e.0 ≡ Equal = rw here (tied_itself o e.0) in
      let found' = rw tied at found in
      let value : e.1 ≡ v = cc in
      ap (λ j. (j, v) ∷ []) here ∙ ap (λ w. (e.0, w) ∷ []) (sym value)
  put_in_order (e ∷ es) (suc i) k v ascending l here found =
      let greater = above e.0 es i k ascending.0 (omega arith) here in
      rw greater (ap (λ r. e ∷ r) (put_in_order es i k v ascending.1 (omega arith) here (rw greater at found)))

  all_above : (x : K) (es : List (K × V)) → IsBelowAll cmp x es → AllAbove cmp x (keys_in es)
  all_above x [] below = tt
  all_above x (e ∷ es) below = (o.antisymm e.0 x ∙ ap ordering_reverse below.0, all_above x es below.1)

  module _ (change : V → V) (vacant : V) where
    abbrev changed_at : List (K × V) → K → List (K × V)
    changed_at es k = put cmp es k (change (unwrap_or (at cmp es k) vacant))

    abbrev changed_each : List (K × V) → List K → List (K × V)
    changed_each es [] = es
    changed_each es (k ∷ ks) = changed_each (changed_at es k) ks

    changed_first : (e : K × V) (es : List (K × V)) → changed_at (e ∷ es) e.0 ≡ (e.0, change e.1) ∷ es
    changed_first e es = rw (tied_itself o e.0)

    changed_next : (e : K × V) (es : List (K × V)) (k : K) → cmp k e.0 ≡ Greater → changed_at (e ∷ es) k ≡ e ∷ changed_at es k
    changed_next e es k greater = rw greater

    changed_behind : (e : K × V) (es : List (K × V)) (ks : List K) → AllAbove cmp e.0 ks →
        changed_each (e ∷ es) ks ≡ e ∷ changed_each es ks
    changed_behind e es [] greater = refl
    changed_behind e es (k ∷ ks) greater =
        ap (λ (xs : List (K × V)). changed_each xs ks) (changed_next e es k greater.0)
        ∙ changed_behind e (changed_at es k) ks greater.1

    -- the values are changed one key after the other, as all at once
    changed_all : (es : List (K × V)) → IsAscending cmp es →
        changed_each es (keys_in es) ≡ map (λ (e : K × V). (e.0, change e.1)) es
    changed_all [] ascending = refl
    changed_all (e ∷ es) ascending =
        ap (λ (xs : List (K × V)). changed_each xs (keys_in es)) (changed_first e es)
        ∙ changed_behind (e.0, change e.1) es (keys_in es) (all_above e.0 es ascending.0)
        ∙ ap (λ r. (e.0, change e.1) ∷ r) (changed_all es ascending.1)

gone_each : (readers : Readers) (ks : List Key) (node : NodeId) → without_reader_of_each readers ks node
    ≡ changed_each key_cmp key_total (λ (nodes : List NodeId). without_member node_cmp nodes node) [] readers ks
gone_each readers [] node = refl
gone_each readers (k ∷ ks) node = gone_each (without_reader_of readers k node) ks node

-- a lost node is taken out of the readers of each key
pub reader_lost : (readers : Readers) (node : NodeId) → IsAscending key_cmp readers →
    without_reader readers node ≡ map (λ (e : Key × List NodeId). (e.0, without_member node_cmp e.1 node)) readers
reader_lost readers node ascending =
    gone_each readers (keys_in readers) node
    ∙ changed_all key_cmp key_total (λ (nodes : List NodeId). without_member node_cmp nodes node) [] readers ascending

pub on_ok : {A E P Q : Type 0} (r : Result A E) → (P → Q) → OnOk r P → OnOk r Q
on_ok (Ok x) f h = f h
on_ok (Err e) f h = h

pub on_err : {A E P Q : Type 0} (r : Result A E) → (P → Q) → OnErr r P → OnErr r Q
on_err (Ok x) f h = h
on_err (Err e) f h = f h

-- the readers of a key are put back changed, or as they were
pub readers_there : (readers : Readers) (k : Key) (nodes : List NodeId) → IsSome (at key_cmp (put key_cmp readers k nodes) k)
readers_there readers k nodes = laws.put_there key_cmp key_total readers k nodes

pub reader_added : (readers : Readers) (k : Key) (nodes vacant more : List NodeId) (node : NodeId) →
    at key_cmp readers k ≡ Some nodes → more ≡ with_member node_cmp nodes node →
    put key_cmp (put key_cmp readers k vacant) k more ≡ with_reader readers k node
reader_added readers k nodes vacant more node was added =
    laws.put_put key_cmp key_total readers k vacant more ∙ rw (was, added) refl

pub readers_unchanged : (readers : Readers) (k : Key) (nodes vacant : List NodeId) → at key_cmp readers k ≡ Some nodes →
    put key_cmp (put key_cmp readers k vacant) k nodes ≡ readers
readers_unchanged readers k nodes vacant was =
    laws.put_put key_cmp key_total readers k vacant nodes ∙ put_same key_cmp key_total exact_keys readers k nodes was

pub readers_copied : (readers : Readers) (ks : List Key) (i : ℕ) (k : Key) (nodes : List NodeId) →
    IsAscending key_cmp readers → ks ≡ keys_of readers → i < length ks → k ≡ get_or ks i k →
    at key_cmp readers k ≡ Some nodes → put key_cmp (take i readers) k nodes ≡ take (i + 1) readers
readers_copied readers ks i k nodes ascending keys within here found =
    rw (add-one i) (put_in_order key_cmp key_total readers i k nodes ascending (rw keys at within) (rw keys at here) found)
