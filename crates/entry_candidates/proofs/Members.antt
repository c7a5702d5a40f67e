-- What the index says of who stands where at all: keys in order are known by which of them are there.
use Rattle.std.proofs.Common.{Bool, List, None, Option, Some, [], ap, cond, false, filter, fold, is_some, map, refl, subst, sym, true, unwrap_or, ◌||◌, ◌∙◌, ◌∷◌, ◌≡◌, inl, inr}
use Rattle.std.proofs.Math.Bool.{or-false, or-true, or_assoc}
use Rattle.std.specs.Cmp.{IsTotalOrder}
use Rattle.std.specs.List.{list_any}
use Rattle.std.specs.Map.{keys_of}
use Rattle.std.specs.Ordering.{match_ordering}
use Rattle.std.specs.declared.cmp.Ordering.{Ordering}
use Rattle.std.specs.declared.cmp.Ordering.TheVariants.{Less, Equal, Greater}
use Rattle.std.proofs.lemmas.Cmp.{tied_itself}
use Rattle.part_model.specs.Queues.{Queues, is_queued, queue_in, queued_txs, with_members}
use Rattle.part_model.specs.Queues as words
use Rattle.part_model.specs.Tables.{keys_in, keys_where}
use Rattle.hash_table.proofs.Ordered.{ascending_filter, at_below_all, same_entries}
use Rattle.ignite_types.proofs.NameLaws.{exact_keys, exact_txs, key_total, same_tx_itself, tx_total}
use Rattle.ignite_types.specs.Names.{key_cmp, same_tx, tx_cmp}
use Rattle.ignite_types.specs.declared.names.TxId.{TxId}
use Rattle.ignite_types.specs.declared.text.Key.{Key}
use Rattle.ordered_set.specs.Members.{with_member}
use Rattle.ordered_table.proofs.Ascending.{ascending_put, below_all-equal, below_all-less}
use Rattle.ordered_table.proofs.Laws as laws
use Rattle.ordered_table.specs.Entries.{at, put}
use Rattle.ordered_table.specs.Places.{IsAscending, IsBelowAll}
use Rattle.ordered_table.specs.declared.table.Table.{Table}
use Rattle.entry_candidates.proofs.Calls.{is_placed}
use Rattle.entry_candidates.proofs.Orders.{same_tx_apart, tx_or_other}
use Rattle.entry_candidates.proofs.Reading.{EachFound, each_found}
use Rattle.entry_candidates.specs.Placing.{IsIndexed, Places, place_in_queue, table_of}

module _ {K V : Type 0} (cmp : K → K → Ordering) where
  -- the keys alone
  abbrev bare : List (K × V) → List (K × Unit {0})
  bare es = map (λ (e : K × V). (e.0, tt)) es

  below_bare : (k : K) (es : List (K × V)) → IsBelowAll cmp k es → IsBelowAll cmp k (bare es)
  below_bare k [] below = tt
  below_bare k (e ∷ es) below = (below.0, below_bare k es below.1)

  bare_ascends : (es : List (K × V)) → IsAscending cmp es → IsAscending cmp (bare es)
  bare_ascends [] up = tt
  bare_ascends (e ∷ es) up = (below_bare e.0 es up.0, bare_ascends es up.1)

  bare_there : (es : List (K × V)) (k : K) → is_some (at cmp (bare es) k) ≡ is_some (at cmp es k)
  bare_there [] k = refl
  bare_there (e ∷ es) k =
      elim (cmp k e.0) as (λ r. is_some (match_ordering r None (Some tt) (at cmp (bare es) k)) ≡ is_some
      (match_ordering r None (Some e.1) (at cmp es k))) [
        | Less ↦ refl
        | Equal ↦ refl
        | Greater ↦ bare_there es k
      ]

  bare_keys : (es : List (K × V)) → keys_in (bare es) ≡ keys_in es
  bare_keys [] = refl
  bare_keys (e ∷ es) = ap (λ r. e.0 ∷ r) (bare_keys es)

same_units : (a b : Option (Unit {0})) → is_some a ≡ is_some b → a ≡ b
same_units None None same = refl
same_units None (Some y) same = absurd (cc)
same_units (Some x) None same = absurd (cc)
same_units (Some x) (Some y) same = refl

module _ {K V W : Type 0} (cmp : K → K → Ordering) (o : IsTotalOrder cmp) (exact : (x y : K) → cmp x y ≡ Equal → x ≡ y) where
  pub same_keys : (es : List (K × V)) (fs : List (K × W)) → IsAscending cmp es → IsAscending cmp fs →
      ((k : K) → is_some (at cmp es k) ≡ is_some (at cmp fs k)) → keys_in es ≡ keys_in fs
  same_keys es fs up_e up_f same =
      let alike = same_entries cmp o exact (bare cmp es) (bare cmp fs) (bare_ascends cmp es up_e) (bare_ascends cmp fs up_f)
      (λ k. same_units _ _ (bare_there cmp es k ∙ same k ∙ sym (bare_there cmp fs k))) in
      sym (bare_keys cmp es) ∙ ap keys_in alike ∙ bare_keys cmp fs

-- The keys of a transaction.

abbrev passes : {V : Type 0} → (V → Bool) → Option V → Bool
passes test None = false
passes test (Some v) = test v

keys_filtered : {K V : Type 0} (test : K × V → Bool) (es : List (K × V)) → keys_where test es ≡ keys_in (filter test es)
keys_filtered test [] = refl
keys_filtered test (e ∷ es) =
    elim (test e) as (λ b. cond b (e.0 ∷ keys_where test es) (keys_where test es) ≡ keys_in
    (cond b (e ∷ filter test es) (filter test es))) [
      | true ↦ ap (λ r. e.0 ∷ r) (keys_filtered test es)
      | false ↦ keys_filtered test es
    ]

module _ {K V : Type 0} (cmp : K → K → Ordering) (o : IsTotalOrder cmp) (test : V → Bool) where
  below_filter : (k : K) (es : List (K × V)) → IsBelowAll cmp k es → IsBelowAll cmp k (filter (λ (e : K × V). test e.1) es)
  below_filter k [] below = tt
  below_filter k (e ∷ es) below =
      elim (test e.1) as (λ b.
      IsBelowAll cmp k (cond b (e ∷ filter (λ (e : K × V). test e.1) es) (filter (λ (e : K × V). test e.1) es))) [
        | true ↦ (below.0, below_filter k es below.1)
        | false ↦ below_filter k es below.1
      ]

  low_kept : (e : K × V) (es : List (K × V)) (k : K) → IsAscending cmp (e ∷ es) → cmp k e.0 ≡ Less →
      IsBelowAll cmp k (filter (λ (e : K × V). test e.1) (e ∷ es))
  low_kept e es k up less = below_filter k (e ∷ es) (less, below_all-less cmp o k e.0 es less up.0)

  -- a key is left by a filter where its value passes
  pub filtered_there : (es : List (K × V)) (k : K) → IsAscending cmp es →
      is_some (at cmp (filter (λ (e : K × V). test e.1) es) k) ≡ passes test (at cmp es k)
  filtered_there [] k up = refl
  filtered_there (e ∷ es) k up =
      let kept : List (K × V) = filter (λ (e : K × V). test e.1) es in
      let up_kept = ascending_filter cmp (λ (e : K × V). test e.1) es up.1 in
      let rest = filtered_there es k up.1 in
      elim (cmp k e.0) as (λ r. cmp k e.0 ≡ r → is_some (at cmp (cond (test e.1) (e ∷ kept) kept) k) ≡ passes test
      (match_ordering r None (Some e.1) (at cmp es k))) [
        | Less ↦ λ g. ap is_some (at_below_all cmp _ k (low_kept e es k up g))
        | Equal ↦ λ g.
            elim (test e.1) as (λ b. is_some (at cmp (cond b (e ∷ kept) kept) k) ≡ b) [
              | true ↦ rw g
              | false ↦ ap is_some (at_below_all cmp kept k (below_filter k es (below_all-equal cmp o k e.0 es g up.0)))
            ]
        | Greater ↦ λ g.
            elim (test e.1) as (λ b. is_some (at cmp (cond b (e ∷ kept) kept) k) ≡ passes test (at cmp es k)) [
              | true ↦ rw g rest
              | false ↦ rest
            ]
      ] refl

stands_passes : (tx : TxId) (found : Option (List TxId)) → passes (is_queued tx) found ≡ is_queued tx (unwrap_or found [])
stands_passes tx None = refl
stands_passes tx (Some queue) = refl

pub keys_are : (queues : Queues) (places : Places) (tx : TxId) → IsIndexed queues places →
    keys_in (table_of places tx) ≡ words.keys_queued_for queues tx
keys_are queues places tx indexed =
    let up = indexed.queues_tidy.ascending in
    let test : Key × List TxId → Bool = λ e. is_queued tx e.1 in
    same_keys key_cmp key_total exact_keys (table_of places tx) (filter test queues) (indexed.tables_ascend tx)
    (ascending_filter key_cmp test queues up)
    (λ k. ap is_some (indexed.tied tx k) ∙ is_placed (queue_in queues k) tx
    ∙ sym (filtered_there key_cmp key_total (is_queued tx) queues k up ∙ stands_passes tx (at key_cmp queues k)))
    ∙ sym (keys_filtered test queues)

-- Who stands anywhere.

-- a set, as a table of its members
abbrev as_table : List TxId → List (TxId × Unit {0})
as_table set = map (λ (tx : TxId). (tx, tt)) set

table_with : (set : List TxId) (tx : TxId) → as_table (with_member tx_cmp set tx) ≡ put tx_cmp (as_table set) tx tt
table_with [] tx = refl
table_with (u ∷ set) tx =
    elim (tx_cmp tx u) as (λ r. tx_cmp tx u ≡ r →
    as_table (match_ordering r (tx ∷ u ∷ set) (u ∷ set) (u ∷ with_member tx_cmp set tx)) ≡ match_ordering r
    ((tx, tt) ∷ (u, tt) ∷ as_table set) ((tx, tt) ∷ as_table set) ((u, tt) ∷ put tx_cmp (as_table set) tx tt)) [
      | Less ↦ λ g. refl
      | Equal ↦ λ g. ap (λ (x : TxId). (x, tt) ∷ as_table set) (sym (exact_txs tx u g))
      | Greater ↦ λ g. ap (λ r. (u, tt) ∷ r) (table_with set tx)
    ] refl

abbrev has_tx : List TxId → TxId → Bool
has_tx set tx = is_some (at tx_cmp (as_table set) tx)

has_with : (set : List TxId) (tx u : TxId) → has_tx (with_member tx_cmp set tx) u ≡ (has_tx set u || same_tx u tx)
has_with set tx u =
    rw (table_with set tx) (
    elim (tx_or_other u tx) [
      | inl is ↦ subst (λ (x : TxId). is_some (at tx_cmp (put tx_cmp (as_table set) tx tt) x)
          ≡ (has_tx set x || same_tx x tx)) (sym is)
          (ap is_some (laws.at_put_same tx_cmp tx_total (as_table set) tx tt)
          ∙ sym (ap (λ b. has_tx set tx || b) (same_tx_itself tx) ∙ or-true (has_tx set tx)))
      | inr other ↦ ap is_some (laws.at_put_other tx_cmp tx_total (as_table set) tx u tt (λ h. other (exact_txs u tx h)))
          ∙ sym (ap (λ b. has_tx set u || b) (same_tx_apart u tx other) ∙ or-false (has_tx set u))
    ])

has_members : (set queue : List TxId) (u : TxId) → has_tx (with_members set queue) u ≡ (has_tx set u || is_queued u queue)
has_members set [] u = sym (or-false (has_tx set u))
has_members set (tx ∷ queue) u = has_members (with_member tx_cmp set tx) queue u
    ∙ ap (λ b. b || is_queued u queue) (has_with set tx u) ∙ or_assoc (has_tx set u) (same_tx u tx) (is_queued u queue)

set_ascends : (set : List TxId) (tx : TxId) → IsAscending tx_cmp (as_table set) →
    IsAscending tx_cmp (as_table (with_member tx_cmp set tx))
set_ascends set tx up = rw (table_with set tx) (ascending_put tx_cmp tx_total (as_table set) tx tt up)

members_ascend : (set queue : List TxId) → IsAscending tx_cmp (as_table set) →
    IsAscending tx_cmp (as_table (with_members set queue))
members_ascend set [] up = up
members_ascend set (tx ∷ queue) up = members_ascend (with_member tx_cmp set tx) queue (set_ascends set tx up)

abbrev standing_with : List TxId → Queues → List TxId
standing_with set queues = fold (λ (set : List TxId) (e : Key × List TxId). with_members set e.1) set queues

abbrev anywhere : TxId → Queues → Bool
anywhere u queues = list_any (λ (e : Key × List TxId). is_queued u e.1) queues

standing_ascends : (set : List TxId) (queues : Queues) → IsAscending tx_cmp (as_table set) →
    IsAscending tx_cmp (as_table (standing_with set queues))
standing_ascends set [] up = up
standing_ascends set (e ∷ queues) up = standing_ascends (with_members set e.1) queues (members_ascend set e.1 up)

has_standing : (set : List TxId) (queues : Queues) (u : TxId) →
    has_tx (standing_with set queues) u ≡ (has_tx set u || anywhere u queues)
has_standing set [] u = sym (or-false (has_tx set u))
has_standing set (e ∷ queues) u = has_standing (with_members set e.1) queues u
    ∙ ap (λ b. b || anywhere u queues) (has_members set e.1 u) ∙ or_assoc (has_tx set u) (is_queued u e.1) (anywhere u queues)

found_anywhere : (queues : Queues) (u : TxId) (key : Key) → is_queued u (queue_in queues key) ≡ true → anywhere u queues ≡ true
found_anywhere [] u key here = absurd (cc)
found_anywhere (e ∷ queues) u key here =
    elim (key_cmp key e.0) as (λ r. is_queued u (unwrap_or (match_ordering r None (Some e.1) (at key_cmp queues key)) [])
    ≡ true → (is_queued u e.1 || anywhere u queues) ≡ true) [
      | Less ↦ λ h. absurd (cc)
      | Equal ↦ λ h. ap (λ b. b || anywhere u queues) h
      | Greater ↦ λ h. ap (λ b. is_queued u e.1 || b) (found_anywhere queues u key h) ∙ or-true (is_queued u e.1)
    ] here

-- one without a table stands nowhere
nowhere : (whole queues : Queues) (places : Places) (u : TxId) → IsIndexed whole places → EachFound key_cmp whole queues →
    at tx_cmp places u ≡ None → anywhere u queues ≡ false
nowhere whole [] places u indexed found none = refl
nowhere whole (e ∷ queues) places u indexed found none =
    let table : table_of places u ≡ [] = ap (λ t. unwrap_or t []) none in
    let queue : queue_in whole e.0 ≡ e.1 = ap (λ q. unwrap_or q []) found.0 in
    let here : is_queued u e.1 ≡ false =
    sym (ap is_some (sym (ap (λ t. at key_cmp t e.0) table) ∙ indexed.tied u e.0 ∙ ap (λ q. place_in_queue q u) queue)
    ∙ is_placed e.1 u) in
    ap (λ b. b || anywhere u queues) here ∙ nowhere whole queues places u indexed found.1 none

-- one with a table stands at its first key
somewhere : (queues : Queues) (places : Places) (u : TxId) (table : Table Key Bool) → IsIndexed queues places →
    at tx_cmp places u ≡ Some table → anywhere u queues ≡ true
somewhere queues places u [] indexed is = absurd (indexed.places_tidy.filled u is)
somewhere queues places u (e ∷ es) indexed is =
    let first : at key_cmp (table_of places u) e.0 ≡ Some e.1 = ap (λ t. at key_cmp (unwrap_or t []) e.0) is
    ∙ rw (tied_itself key_total e.0) in
    let here : is_queued u (queue_in queues e.0) ≡ true = sym (sym (ap is_some first) ∙ ap is_some (indexed.tied u e.0)
    ∙ is_placed (queue_in queues e.0) u) in
    found_anywhere queues u e.0 here

same_standing : (queues : Queues) (places : Places) (u : TxId) (found : Option (Table Key Bool)) → IsIndexed queues places →
    at tx_cmp places u ≡ found → is_some found ≡ anywhere u queues
same_standing queues places u None indexed is =
    sym (nowhere queues queues places u indexed (each_found key_cmp key_total queues indexed.queues_tidy.ascending) is)
same_standing queues places u (Some table) indexed is = sym (somewhere queues places u table indexed is)

members_of : (set : List TxId) → keys_in (as_table set) ≡ set
members_of [] = refl
members_of (tx ∷ set) = ap (λ r. tx ∷ r) (members_of set)

pub standing_are : (queues : Queues) (places : Places) → IsIndexed queues places → keys_of places ≡ queued_txs queues
standing_are queues places indexed =
    same_keys tx_cmp tx_total exact_txs places (as_table (queued_txs queues)) indexed.places_tidy.ascending
    (standing_ascends [] queues tt)
    (λ u. same_standing queues places u (at tx_cmp places u) indexed refl ∙ sym (has_standing [] queues u))
    ∙ members_of (queued_txs queues)
