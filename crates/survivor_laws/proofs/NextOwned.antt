-- A next map has an owner exactly where the cache runs, where a member is a server and each partition of the base has an owner
-- among the members; and its owners and movers are declared servers where those of the base are.
use Rattle.std.proofs.Common.{◌≡◌, ◌++◌, ◌+◌, ◌||◌, ℕ, List, [], ◌∷◌, Bool, true, false, if◌then◌else◌, refl, sym, subst, ◌∙◌, arith, nat_eq, not}
use Rattle.std.specs.List.{list_all, list_any}
use Rattle.std.specs.Option.{is_some}
use Rattle.std.specs.Prelude.{drop, filter, slice_get, suc, zero}
use Rattle.std.proofs.lemmas.Bool.Decides.{nat_tests}
use Rattle.std.proofs.lemmas.List.Folds.{list_all-append}
use Rattle.ignite_types.specs.Affinity.{bare_rows, opening_rows, rows_of_cache}
use Rattle.ignite_types.specs.declared.message.Single.{Single}
use Rattle.ignite_types.specs.declared.names.NodeId.{NodeId}
use Rattle.ignite_types.specs.declared.names.TopVer.{TopVer}
use Rattle.ignite_types.specs.declared.placement.Row.{Row}
use Rattle.ignite_types.specs.declared.scenario.Cache.{Cache}
use Rattle.ignite_types.specs.declared.scenario.Member.{Member}
use Rattle.journal_statements.specs.Maps.{has_owner, owned_as, owned_where_run}
use Rattle.link_laws.proofs.Journals.{first_rest}
use Rattle.part_model.specs.NextMap.{first_row, has_node, is_filled, is_member, map_holders, next_row, next_rows, nodes_missing, row_of_missing, running_row}
use Rattle.placement_laws.proofs.MemberRows.{kept_pass}
use Rattle.placement_laws.proofs.Rows.{both_pass, cache_length, cache_owned, next_front, next_length, same_test}
use Rattle.placement_laws.specs.PlacementLaws.{holds_only}
use Rattle.survivor_laws.specs.SurvivorFacts.{keeps_one}

first_keeps : (members : List Member) (rows : List Row) → list_all (keeps_one members) rows ≡ true →
    keeps_one members (first_row rows) ≡ true
first_keeps members [] all = refl
first_keeps members (r ∷ rs) all = (first_rest (keeps_one members r) (list_all (keeps_one members) rs) all).0

rest_keeps : (members : List Member) (rows : List Row) → list_all (keeps_one members) rows ≡ true →
    list_all (keeps_one members) (drop 1 rows) ≡ true
rest_keeps members [] all = refl
rest_keeps members (r ∷ rs) all = (first_rest (keeps_one members r) (list_all (keeps_one members) rs) all).1

later_keeps : (members : List Member) (count : ℕ) (rows : List Row) → list_all (keeps_one members) rows ≡ true →
    list_all (keeps_one members) (drop count rows) ≡ true
later_keeps members zero rows all = all
later_keeps members (suc more) [] all = refl
later_keeps members (suc more) (r ∷ rs) all =
    later_keeps members more rs (first_rest (keeps_one members r) (list_all (keeps_one members) rs) all).1

some_kept : (p : NodeId → Bool) (xs ys : List NodeId) → list_any p xs ≡ true → is_some (slice_get (filter p xs ++ ys) 0) ≡ true
some_kept p [] ys some = absurd (cc (some))
some_kept p (x ∷ xs) ys some = by (p x) (λ rest. some_kept p xs ys rest) some
  where
    by : (c : Bool) → (list_any p xs ≡ true → is_some (slice_get (filter p xs ++ ys) 0) ≡ true) →
        (c || list_any p xs) ≡ true → is_some (slice_get ((if c then x ∷ filter p xs else filter p xs) ++ ys) 0) ≡ true
    by true later here = refl
    by false later rest = later rest

row_owned : (members : List Member) (singles : List Single) (version : TopVer) (part : ℕ) (wanted : List NodeId) (row : Row) →
    is_some (slice_get wanted 0) ≡ true → keeps_one members row ≡ true →
    has_owner (next_row members singles version part wanted row) ≡ true
row_owned members singles version part [] row some keeps = absurd (cc (some))
row_owned members singles version part (w ∷ ws) row some keeps = by row.owners refl
  where
    missing : (holders xs : List NodeId) → is_some (slice_get holders 0) ≡ true →
        has_owner (row_of_missing (w ∷ ws) holders xs) ≡ true
    missing holders [] has = refl
    missing holders (x ∷ xs) has = has

    by : (os : List NodeId) → row.owners ≡ os → has_owner (running_row members singles version part (w ∷ ws) row os) ≡ true
    by [] none = refl
    by (o ∷ os) there =
        let one : list_any (is_member members) (o ∷ os) ≡ true =
        subst (λ (xs : List NodeId). keeps_one members (record row { owners = xs }) ≡ true) there keeps in
        let holders = map_holders members singles version part row in
        missing holders (nodes_missing (w ∷ ws) holders)
        (subst (λ (xs : List NodeId).
        is_some (slice_get (filter (is_member members) xs ++ filter (is_filled members singles version part) row.movers)
        0) ≡ true) (sym there)
        (some_kept (is_member members) (o ∷ os) (filter (is_filled members singles version part) row.movers) one))

rows_owned : (members : List Member) (singles : List Single) (version : TopVer) (part : ℕ) (ideals rows : List Row) →
    list_all (owned_as true) ideals ≡ true → list_all (keeps_one members) rows ≡ true →
    list_all (owned_as true) (next_rows members singles version part ideals rows) ≡ true
rows_owned members singles version part [] rows owned keeps = refl
rows_owned members singles version part (x ∷ xs) rows owned keeps =
    let both = first_rest (has_owner x) (list_all (owned_as true) xs) owned in
    both_pass (owned_as true (next_row members singles version part x.owners (first_row rows)))
    (list_all (owned_as true) (next_rows members singles version (part + 1) xs (drop 1 rows)))
    (row_owned members singles version part x.owners (first_row rows) both.0 (first_keeps members rows keeps))
    (rows_owned members singles version (part + 1) xs (drop 1 rows) both.1 (rest_keeps members rows keeps))

rows_bare : (members : List Member) (singles : List Single) (version : TopVer) (part count : ℕ) (rows : List Row) →
    list_all (owned_as false) (next_rows members singles version part (bare_rows count) rows) ≡ true
rows_bare members singles version part zero rows = refl
rows_bare members singles version part (suc more) rows = rows_bare members singles version (part + 1) more (drop 1 rows)

cache_next : (members : List Member) (singles : List Single) (version : TopVer) (part : ℕ) (server : NodeId)
    (servers : List NodeId) (runs : Bool) (c : Cache) (rows : List Row) → list_all (keeps_one members) rows ≡ true
    → list_all (owned_as runs) (next_rows members singles version part (rows_of_cache (server ∷ servers) runs c) rows) ≡ true
cache_next members singles version part server servers true c rows keeps =
    rows_owned members singles version part (rows_of_cache (server ∷ servers) true c) rows (cache_owned server servers true c)
    keeps
cache_next members singles version part server servers false c rows keeps = rows_bare members singles version part c.parts rows

pub next_owned : (members : List Member) (singles : List Single) (version : TopVer) (server : NodeId) (servers : List NodeId)
    (running : List ℕ) (number : ℕ) (caches : List Cache) (part : ℕ) (rows : List Row) →
    list_all (keeps_one members) rows ≡ true
    → owned_where_run running number caches
    (next_rows members singles version part (opening_rows (server ∷ servers) running number caches) rows) ≡ true
next_owned members singles version server servers running number [] part rows keeps = refl
next_owned members singles version server servers running number (c ∷ cs) part rows keeps =
    let runs = list_any (nat_eq number) running in
    let front = rows_of_cache (server ∷ servers) runs c in
    let more = opening_rows (server ∷ servers) running (number + 1) cs in
    let size = cache_length (server ∷ servers) runs c in
    let two = next_front members singles version part front more rows c.parts size in
    subst (λ (b : Bool). owned_where_run running number (c ∷ cs)
    (next_rows members singles version part (rows_of_cache (server ∷ servers) b c ++ more) rows) ≡ true)
    (sym (same_test number running))
    (rw (
      two.0,
      two.1,
      next_length members singles version part front rows ∙ size,
      same_number c.parts,
      cache_next members singles version part server servers runs c rows keeps,
    )
    (next_owned members singles version server servers running (number + 1) cs (part + c.parts) (drop c.parts rows)
    (later_keeps members c.parts rows keeps)))
  where
    same_number : (n : ℕ) → nat_eq n n ≡ true
    same_number n = grind (arith, nat_tests)

-- Who holds them.

row_held : (is : NodeId → Bool) (members : List Member) (singles : List Single) (version : TopVer) (part : ℕ)
    (wanted : List NodeId) (row : Row) → list_all is wanted ≡ true → holds_only is row ≡ true →
    holds_only is (next_row members singles version part wanted row) ≡ true
row_held is members singles version part [] row all held = refl
row_held is members singles version part (w ∷ ws) row all held = by row.owners
  where
    both : (list_all is row.owners ≡ true) × (list_all is row.movers ≡ true)
    both = first_rest (list_all is row.owners) (list_all is row.movers) held

    holders_pass : list_all is (map_holders members singles version part row) ≡ true
    holders_pass =
        list_all-append is (filter (is_member members) row.owners) (filter (is_filled members singles version part) row.movers)
        ∙ both_pass (list_all is (filter (is_member members) row.owners))
        (list_all is (filter (is_filled members singles version part) row.movers))
        (kept_pass is (is_member members) row.owners both.0)
        (kept_pass is (is_filled members singles version part) row.movers both.1)

    missing : (xs : List NodeId) → list_all is xs ≡ true →
        holds_only is (row_of_missing (w ∷ ws) (map_holders members singles version part row) xs) ≡ true
    missing [] none = both_pass (list_all is (w ∷ ws)) true all refl
    missing (x ∷ xs) some = both_pass (list_all is (map_holders members singles version part row))
        (list_all is (x ∷ xs)) holders_pass some

    by : (os : List NodeId) → holds_only is (running_row members singles version part (w ∷ ws) row os) ≡ true
    by [] = both_pass (list_all is (w ∷ ws)) true all refl
    by (o ∷ os) =
        missing (nodes_missing (w ∷ ws) (map_holders members singles version part row))
        (kept_pass is (λ node. not (has_node (map_holders members singles version part row) node)) (w ∷ ws) all)

pub next_served : (is : NodeId → Bool) (members : List Member) (singles : List Single) (version : TopVer) (part : ℕ)
    (ideals rows : List Row) → list_all (holds_only is) ideals ≡ true → list_all (holds_only is) rows ≡ true →
    list_all (holds_only is) (next_rows members singles version part ideals rows) ≡ true
next_served is members singles version part [] rows all held = refl
next_served is members singles version part (x ∷ xs) rows all held =
    let both = first_rest (holds_only is x) (list_all (holds_only is) xs) all in
    let wanted = first_rest (list_all is x.owners) (list_all is x.movers) both.0 in
    both_pass (holds_only is (next_row members singles version part x.owners (first_row rows)))
    (list_all (holds_only is) (next_rows members singles version (part + 1) xs (drop 1 rows)))
    (row_held is members singles version part x.owners (first_row rows) wanted.0 (first_held rows held))
    (next_served is members singles version (part + 1) xs (drop 1 rows) both.1 (rest_held rows held))
  where
    first_held : (rs : List Row) → list_all (holds_only is) rs ≡ true → holds_only is (first_row rs) ≡ true
    first_held [] here = refl
    first_held (r ∷ rs) here = (first_rest (holds_only is r) (list_all (holds_only is) rs) here).0

    rest_held : (rs : List Row) → list_all (holds_only is) rs ≡ true → list_all (holds_only is) (drop 1 rs) ≡ true
    rest_held [] here = refl
    rest_held (r ∷ rs) here = (first_rest (holds_only is r) (list_all (holds_only is) rs) here).1
