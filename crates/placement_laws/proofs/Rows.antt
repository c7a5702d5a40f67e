-- The rows of opening maps and of next maps, cache by cache.
use Rattle.std.proofs.Common.{◌≡◌, ◌++◌, ◌&&◌, ◌+◌, ◌||◌, ℕ, List, [], ◌∷◌, Bool, true, false, if◌then◌else◌, refl, ap, sym, subst, ◌∙◌, arith, length, nat_eq}
use Rattle.std.specs.List.{list_all, list_any}
use Rattle.std.specs.Option.{is_some}
use Rattle.std.specs.Prelude.{drop, slice_get, suc, take, zero, ◌==◌}
use Rattle.std.proofs.lemmas.Bool.Decides.{nat_tests}
use Rattle.ignite_types.specs.Affinity.{bare_rows, by_weight, goes_before, ideal, ideal_rows, opening_rows, placed_by_weight, rows_of_cache}
use Rattle.ignite_types.specs.declared.message.Single.{Single}
use Rattle.ignite_types.specs.declared.names.NodeId.{NodeId}
use Rattle.ignite_types.specs.declared.names.TopVer.{TopVer}
use Rattle.ignite_types.specs.declared.placement.Row.{Row}
use Rattle.ignite_types.specs.declared.scenario.Cache.{Cache}
use Rattle.ignite_types.specs.declared.scenario.Member.{Member}
use Rattle.journal_statements.specs.Maps.{has_owner, owned_as, owned_where_run}
use Rattle.part_model.specs.NextMap.{first_row, next_row, next_rows}
use Rattle.placement_laws.specs.PlacementLaws.{bare_unless, bare_where_stopped}

pub both_pass : (a b : Bool) → a ≡ true → b ≡ true → (a && b) ≡ true
both_pass a b first second = rw first second

-- So many rows in front.

front_length : (xs ys : List Row) → length (take (length xs) (xs ++ ys)) ≡ length xs
front_length [] ys = refl
front_length (x ∷ xs) ys = ap suc (front_length xs ys)

front_is : (xs ys : List Row) → take (length xs) (xs ++ ys) ≡ xs
front_is [] ys = refl
front_is (x ∷ xs) ys = ap (λ (zs : List Row). x ∷ zs) (front_is xs ys)

rest_is : (xs ys : List Row) → drop (length xs) (xs ++ ys) ≡ ys
rest_is [] ys = refl
rest_is (x ∷ xs) ys = rest_is xs ys

ideal_length : (servers : List NodeId) (backups part count : ℕ) → length (ideal_rows servers backups part count) ≡ count
ideal_length servers backups part zero = refl
ideal_length servers backups part (suc more) = ap suc (ideal_length servers backups (part + 1) more)

bare_length : (count : ℕ) → length (bare_rows count) ≡ count
bare_length zero = refl
bare_length (suc more) = ap suc (bare_length more)

pub cache_length : (servers : List NodeId) (runs : Bool) (c : Cache) → length (rows_of_cache servers runs c) ≡ c.parts
cache_length servers true c = ideal_length servers c.backups 0 c.parts
cache_length servers false c = bare_length c.parts

-- the same test of numbers
pub same_test : (number : ℕ) (running : List ℕ) → list_any (λ (r : ℕ). r == number) running ≡ list_any (nat_eq number) running
same_test number [] = refl
same_test number (r ∷ rs) = ap (λ (b : Bool). b || list_any (λ (x : ℕ). x == number) rs) (turned r number)
    ∙ ap (λ (b : Bool). nat_eq number r || b) (same_test number rs)
  where
    turned : (a b : ℕ) → (a == b) ≡ nat_eq b a
    turned a b = by (a == b) refl (nat_eq b a) refl
      where
        by : (c : Bool) → (a == b) ≡ c → (d : Bool) → nat_eq b a ≡ d → c ≡ d
        by true is true same = refl
        by false is false same = refl
        by true is false same = absurd (grind (arith, nat_tests, is, same))
        by false is true same = absurd (grind (arith, nat_tests, is, same))

-- Ideal owners.

placed_some : (part : ℕ) (placed : List NodeId) (node : NodeId) → is_some (slice_get (placed_by_weight part placed node) 0)
    ≡ true
placed_some part [] node = refl
placed_some part (other ∷ more) node =
    elim (goes_before part node other) as (λ b.
    is_some (slice_get (if b then node ∷ other ∷ more else other ∷ placed_by_weight part more node) 0) ≡ true) [
      | true ↦ refl
      | false ↦ refl
    ]

weighed_some : (part : ℕ) (placed nodes : List NodeId) → is_some (slice_get placed 0) ≡ true →
    is_some (slice_get (by_weight part placed nodes) 0) ≡ true
weighed_some part placed [] some = some
weighed_some part placed (n ∷ ns) some = weighed_some part (placed_by_weight part placed n) ns (placed_some part placed n)

first_taken : (count : ℕ) (xs : List NodeId) → is_some (slice_get xs 0) ≡ true → is_some (slice_get (take (count + 1) xs) 0)
    ≡ true
first_taken count [] some = absurd (cc (some))
first_taken count (x ∷ xs) some = subst (λ (n : ℕ). is_some (slice_get (take n (x ∷ xs)) 0) ≡ true) (next count) refl
  where
    next : (n : ℕ) → suc n ≡ n + 1
    next n = omega arith

ideal_some : (part : ℕ) (server : NodeId) (servers : List NodeId) (backups : ℕ) →
    is_some (slice_get (ideal part (server ∷ servers) backups) 0) ≡ true
ideal_some part server servers backups = first_taken backups (by_weight part [] (server ∷ servers))
    (weighed_some part (server ∷ []) servers refl)

ideal_owned : (server : NodeId) (servers : List NodeId) (backups part count : ℕ) →
    list_all (owned_as true) (ideal_rows (server ∷ servers) backups part count) ≡ true
ideal_owned server servers backups part zero = refl
ideal_owned server servers backups part (suc more) =
    rw (ideal_some part server servers backups) (ideal_owned server servers backups (part + 1) more)

bare_owned : (count : ℕ) → list_all (owned_as false) (bare_rows count) ≡ true
bare_owned zero = refl
bare_owned (suc more) = bare_owned more

pub cache_owned : (server : NodeId) (servers : List NodeId) (runs : Bool) (c : Cache) →
    list_all (owned_as runs) (rows_of_cache (server ∷ servers) runs c) ≡ true
cache_owned server servers true c = ideal_owned server servers c.backups 0 c.parts
cache_owned server servers false c = bare_owned c.parts

-- the rows of an opening map: an owner exactly where the cache runs
pub opening_owned : (server : NodeId) (servers : List NodeId) (running : List ℕ) (number : ℕ) (caches : List Cache) →
    owned_where_run running number caches (opening_rows (server ∷ servers) running number caches) ≡ true
opening_owned server servers running number [] = refl
opening_owned server servers running number (c ∷ cs) =
    let runs = list_any (nat_eq number) running in
    let front = rows_of_cache (server ∷ servers) runs c in
    let more = opening_rows (server ∷ servers) running (number + 1) cs in
    let size = cache_length (server ∷ servers) runs c in
    subst (λ (b : Bool). owned_where_run running number (c ∷ cs) (rows_of_cache (server ∷ servers) b c ++ more) ≡ true)
    (sym (same_test number running))
    (parts c.parts front more size runs (cache_owned server servers runs c)
    (opening_owned server servers running (number + 1) cs))
  where
    parts : (count : ℕ) (front more : List Row) → length front ≡ count → (runs : Bool) →
        list_all (owned_as runs) front ≡ true → owned_where_run running (number + 1) cs more ≡ true
        → (nat_eq (length (take count (front ++ more))) count && list_all (owned_as runs) (take count (front ++ more))
        && owned_where_run running (number + 1) cs (drop count (front ++ more))) ≡ true
    parts count front more size runs owned rest =
        subst (λ (n : ℕ). (nat_eq (length (take n (front ++ more))) n && list_all (owned_as runs) (take n (front ++ more))
        && owned_where_run running (number + 1) cs (drop n (front ++ more))) ≡ true) size
        (rw (front_is front more, rest_is front more, same_number (length front), owned) rest)
      where
        same_number : (n : ℕ) → nat_eq n n ≡ true
        same_number n = grind (arith, nat_tests)

-- Next rows: one for each ideal row, without owners where that one has none.

bare_next : (members : List Member) (singles : List Single) (version : TopVer) (part : ℕ) (owners : List NodeId) (row : Row) →
    is_some (slice_get owners 0) ≡ false → has_owner (next_row members singles version part owners row) ≡ false
bare_next members singles version part [] row none = refl
bare_next members singles version part (o ∷ os) row none = absurd (cc (none))

pub next_length : (members : List Member) (singles : List Single) (version : TopVer) (part : ℕ) (ideals rows : List Row) →
    length (next_rows members singles version part ideals rows) ≡ length ideals
next_length members singles version part [] rows = refl
next_length members singles version part (x ∷ xs) rows =
    ap suc (next_length members singles version (part + 1) xs (drop 1 rows))

-- Next rows of a list of ideal rows in two parts are in two parts.
pub next_front : (members : List Member) (singles : List Single) (version : TopVer) (part : ℕ) (xs ys rows : List Row)
    (count : ℕ) → length xs ≡ count
    → (take count (next_rows members singles version part (xs ++ ys) rows) ≡ next_rows members singles version part xs rows)
    × (drop count (next_rows members singles version part (xs ++ ys) rows) ≡ next_rows members singles version
    (part + count) ys (drop count rows))
next_front members singles version part [] ys rows count size =
    subst (λ (n : ℕ). (take n (next_rows members singles version part ys rows) ≡ [])
    × (drop n (next_rows members singles version part ys rows) ≡ next_rows members singles version (part + n) ys
    (drop n rows))) size (refl, ap (λ (n : ℕ). next_rows members singles version n ys rows) (none_more part))
  where
    none_more : (n : ℕ) → n ≡ n + 0
    none_more n = omega arith
next_front members singles version part (x ∷ xs) ys rows zero size = absurd (omega (arith, size))
next_front members singles version part (x ∷ xs) ys rows (suc count) size =
    let rest = next_front members singles version (part + 1) xs ys (drop 1 rows) count (omega (arith, size)) in (
      ap (λ (zs : List Row). next_row members singles version part x.owners (first_row rows) ∷ zs) rest.0,
      rest.1 ∙ ap (λ (n : ℕ). next_rows members singles version n ys (drop count (drop 1 rows))) (one_more part count)
          ∙ ap (next_rows members singles version (part + suc count) ys) (dropped rows),
    )
  where
    one_more : (n k : ℕ) → n + 1 + k ≡ n + suc k
    one_more n k = omega arith

    dropped : (rs : List Row) → drop count (drop 1 rs) ≡ drop (suc count) rs
    dropped [] = by count
      where
        by : (n : ℕ) → drop {A = Row} n [] ≡ []
        by zero = refl
        by (suc n) = refl
    dropped (r ∷ rs) = refl

-- next rows of rows without owners
next_bare : (members : List Member) (singles : List Single) (version : TopVer) (part count : ℕ) (rows : List Row) →
    list_all (bare_unless false) (next_rows members singles version part (bare_rows count) rows) ≡ true
next_bare members singles version part zero rows = refl
next_bare members singles version part (suc more) rows = next_bare members singles version (part + 1) more (drop 1 rows)

any_rows : (rows : List Row) → list_all (bare_unless true) rows ≡ true
any_rows [] = refl
any_rows (r ∷ rs) = any_rows rs

cache_bare : (members : List Member) (singles : List Single) (version : TopVer) (part : ℕ) (servers : List NodeId)
    (runs : Bool) (c : Cache) (rows : List Row) →
    list_all (bare_unless runs) (next_rows members singles version part (rows_of_cache servers runs c) rows) ≡ true
cache_bare members singles version part servers true c rows =
    any_rows (next_rows members singles version part (rows_of_cache servers true c) rows)
cache_bare members singles version part servers false c rows = next_bare members singles version part c.parts rows

pub next_placed : (members : List Member) (singles : List Single) (version : TopVer) (servers : List NodeId)
    (running : List ℕ) (number : ℕ) (caches : List Cache) (part : ℕ) (rows : List Row)
    → bare_where_stopped running number caches
    (next_rows members singles version part (opening_rows servers running number caches) rows) ≡ true
next_placed members singles version servers running number [] part rows = refl
next_placed members singles version servers running number (c ∷ cs) part rows =
    let runs = list_any (nat_eq number) running in
    let front = rows_of_cache servers runs c in
    let more = opening_rows servers running (number + 1) cs in
    let size = cache_length servers runs c in
    let two = next_front members singles version part front more rows c.parts size in
    subst (λ (b : Bool). bare_where_stopped running number (c ∷ cs)
    (next_rows members singles version part (rows_of_cache servers b c ++ more) rows) ≡ true)
    (sym (same_test number running))
    (rw (
      two.0,
      two.1,
      next_length members singles version part front rows ∙ size,
      same_number c.parts,
      cache_bare members singles version part servers runs c rows,
    ) (next_placed members singles version servers running
    (number + 1) cs (part + c.parts) (drop c.parts rows)))
  where
    same_number : (n : ℕ) → nat_eq n n ≡ true
    same_number n = grind (arith, nat_tests)

-- the opening map is placed so too
pub opening_placed : (servers : List NodeId) (running : List ℕ) (number : ℕ) (caches : List Cache) →
    bare_where_stopped running number caches (opening_rows servers running number caches) ≡ true
opening_placed servers running number [] = refl
opening_placed servers running number (c ∷ cs) =
    let runs = list_any (nat_eq number) running in
    let front = rows_of_cache servers runs c in
    let more = opening_rows servers running (number + 1) cs in
    let size = cache_length servers runs c in
    subst (λ (b : Bool). bare_where_stopped running number (c ∷ cs) (rows_of_cache servers b c ++ more) ≡ true)
    (sym (same_test number running))
    (subst (λ (n : ℕ). (nat_eq (length (take n (front ++ more))) n && list_all (bare_unless runs) (take n (front ++ more))
    && bare_where_stopped running (number + 1) cs (drop n (front ++ more))) ≡ true) size
    (rw (front_is front more, rest_is front more, same_number (length front), bare runs)
    (opening_placed servers running (number + 1) cs)))
  where
    same_number : (n : ℕ) → nat_eq n n ≡ true
    same_number n = grind (arith, nat_tests)

    none : (count : ℕ) → list_all (bare_unless false) (bare_rows count) ≡ true
    none zero = refl
    none (suc more) = none more

    bare : (runs : Bool) → list_all (bare_unless runs) (rows_of_cache servers runs c) ≡ true
    bare true = any_rows (rows_of_cache servers true c)
    bare false = none c.parts
