-- The nodes of the rows of opening maps and of next maps are members.
use Rattle.std.proofs.Common.{◌≡◌, ◌+◌, ◌||◌, ℕ, List, [], ◌∷◌, Bool, true, false, if◌then◌else◌, refl, ap, ◌∙◌}
use Rattle.std.specs.List.{list_all, list_any}
use Rattle.std.specs.Prelude.{drop, filter, not, suc, take, zero, ◌==◌}
use Rattle.std.proofs.lemmas.List.Folds.{list_all-append}
use Rattle.ignite_types.proofs.NameLaws.{same_node_itself}
use Rattle.ignite_types.specs.Affinity.{bare_rows, by_weight, goes_before, ideal, ideal_rows, opening_rows, placed_by_weight, rows_of_cache}
use Rattle.ignite_types.specs.Names.{same_node}
use Rattle.ignite_types.specs.declared.message.Single.{Single}
use Rattle.ignite_types.specs.declared.names.NodeId.{NodeId}
use Rattle.ignite_types.specs.declared.names.TopVer.{TopVer}
use Rattle.ignite_types.specs.declared.placement.Row.{Row}
use Rattle.ignite_types.specs.declared.scenario.Cache.{Cache}
use Rattle.ignite_types.specs.declared.scenario.Member.{Member}
use Rattle.link_laws.proofs.Journals.{first_rest}
use Rattle.part_model.specs.NextMap.{first_row, has_node, is_claimed, is_filled, is_member, map_holders, next_row, next_rows, nodes_missing, row_of_missing, running_row, servers, single_of}
use Rattle.placement_laws.proofs.Rows.{both_pass}
use Rattle.placement_laws.specs.PlacementLaws.{holds_only}
use Rattle.topology_laws.proofs.Records.{or_second}

-- Lists of nodes.

pub kept_pass : (is picks : NodeId → Bool) (xs : List NodeId) → list_all is xs ≡ true → list_all is (filter picks xs) ≡ true
kept_pass is picks [] all = refl
kept_pass is picks (x ∷ xs) all = let both = first_rest (is x) (list_all is xs) all in
    by (picks x) refl both.0 (kept_pass is picks xs both.1)
  where
    by : (c : Bool) → picks x ≡ c → is x ≡ true → list_all is (filter picks xs) ≡ true →
        list_all is (filter picks (x ∷ xs)) ≡ true
    by true picked one rest = rw picked (both_pass (is x) (list_all is (filter picks xs)) one rest)
    by false picked one rest = rw picked rest

pub picked_pass : (is picks : NodeId → Bool) → ((x : NodeId) → picks x ≡ true → is x ≡ true) → (xs : List NodeId) →
    list_all is (filter picks xs) ≡ true
picked_pass is picks gives [] = refl
picked_pass is picks gives (x ∷ xs) = by (picks x) refl (picked_pass is picks gives xs)
  where
    by : (c : Bool) → picks x ≡ c → list_all is (filter picks xs) ≡ true → list_all is (filter picks (x ∷ xs)) ≡ true
    by true picked rest = rw picked (both_pass (is x) (list_all is (filter picks xs)) (gives x picked) rest)
    by false picked rest = rw picked rest

taken_pass : (is : NodeId → Bool) (count : ℕ) (xs : List NodeId) → list_all is xs ≡ true → list_all is (take count xs) ≡ true
taken_pass is zero xs all = refl
taken_pass is (suc more) [] all = refl
taken_pass is (suc more) (x ∷ xs) all = let both = first_rest (is x) (list_all is xs) all in
    both_pass (is x) (list_all is (take more xs)) both.0 (taken_pass is more xs both.1)

-- Ideal rows.

placed_pass : (is : NodeId → Bool) (part : ℕ) (placed : List NodeId) (node : NodeId) → list_all is placed ≡ true →
    is node ≡ true → list_all is (placed_by_weight part placed node) ≡ true
placed_pass is part [] node all one = both_pass (is node) true one refl
placed_pass is part (other ∷ more) node all one =
    let both = first_rest (is other) (list_all is more) all in
    by (goes_before part node other) both.0 (placed_pass is part more node both.1 one)
  where
    by : (c : Bool) → is other ≡ true → list_all is (placed_by_weight part more node) ≡ true →
        list_all is (if c then node ∷ other ∷ more else other ∷ placed_by_weight part more node) ≡ true
    by true first rest = both_pass (is node) (list_all is (other ∷ more)) one all
    by false first rest = both_pass (is other) (list_all is (placed_by_weight part more node)) first rest

weighed_pass : (is : NodeId → Bool) (part : ℕ) (placed nodes : List NodeId) → list_all is placed ≡ true →
    list_all is nodes ≡ true → list_all is (by_weight part placed nodes) ≡ true
weighed_pass is part placed [] first all = first
weighed_pass is part placed (n ∷ ns) first all =
    let both = first_rest (is n) (list_all is ns) all in
    weighed_pass is part (placed_by_weight part placed n) ns (placed_pass is part placed n first both.0) both.1

ideal_pass : (is : NodeId → Bool) (nodes : List NodeId) (backups part count : ℕ) → list_all is nodes ≡ true →
    list_all (holds_only is) (ideal_rows nodes backups part count) ≡ true
ideal_pass is nodes backups part zero all = refl
ideal_pass is nodes backups part (suc more) all =
    both_pass (holds_only is (record { owners = ideal part nodes backups; movers = [] }))
    (list_all (holds_only is) (ideal_rows nodes backups (part + 1) more))
    (both_pass (list_all is (ideal part nodes backups)) true (taken_pass is (backups + 1) (by_weight part [] nodes)
    (weighed_pass is part [] nodes refl all)) refl)
    (ideal_pass is nodes backups (part + 1) more all)

bare_pass : (is : NodeId → Bool) (count : ℕ) → list_all (holds_only is) (bare_rows count) ≡ true
bare_pass is zero = refl
bare_pass is (suc more) = bare_pass is more

cache_pass : (is : NodeId → Bool) (nodes : List NodeId) (runs : Bool) (c : Cache) → list_all is nodes ≡ true →
    list_all (holds_only is) (rows_of_cache nodes runs c) ≡ true
cache_pass is nodes true c all = ideal_pass is nodes c.backups 0 c.parts all
cache_pass is nodes false c all = bare_pass is c.parts

pub opening_pass : (is : NodeId → Bool) (nodes : List NodeId) (running : List ℕ) (number : ℕ) (caches : List Cache) →
    list_all is nodes ≡ true → list_all (holds_only is) (opening_rows nodes running number caches) ≡ true
opening_pass is nodes running number [] all = refl
opening_pass is nodes running number (c ∷ cs) all =
    let front = rows_of_cache nodes (list_any (λ (r : ℕ). r == number) running) c in
    let more = opening_rows nodes running (number + 1) cs in
    list_all-append (holds_only is) front more
    ∙ both_pass (list_all (holds_only is) front) (list_all (holds_only is) more)
    (cache_pass is nodes (list_any (λ (r : ℕ). r == number) running) c all)
    (opening_pass is nodes running (number + 1) cs all)

-- The servers among members are members.

servers_among : (all ms : List Member) → ((x : NodeId) → is_member ms x ≡ true → is_member all x ≡ true) →
    list_all (is_member all) (servers ms) ≡ true
servers_among all [] within = refl
servers_among all (m ∷ ms) within =
    by m.server refl (within m.node (ap (λ (b : Bool). b || is_member ms m.node) (same_node_itself m.node)))
    (servers_among all ms (λ x there. within x (or_second (same_node x m.node) (is_member ms x) there)))
  where
    by : (c : Bool) → m.server ≡ c → is_member all m.node ≡ true → list_all (is_member all) (servers ms) ≡ true →
        list_all (is_member all) (servers (m ∷ ms)) ≡ true
    by true is one rest = rw is (both_pass (is_member all m.node) (list_all (is_member all) (servers ms)) one rest)
    by false is one rest = rw is rest

pub servers_pass : (ms : List Member) → list_all (is_member ms) (servers ms) ≡ true
servers_pass ms = servers_among ms ms (λ x is. is)

-- Next rows.

next_row_pass : (members : List Member) (singles : List Single) (version : TopVer) (part : ℕ) (wanted : List NodeId)
    (row : Row) → list_all (is_member members) wanted ≡ true →
    holds_only (is_member members) (next_row members singles version part wanted row) ≡ true
next_row_pass members singles version part [] row all = refl
next_row_pass members singles version part (w ∷ ws) row all = by row.owners
  where
    members_hold : list_all (is_member members) (map_holders members singles version part row) ≡ true
    members_hold =
        list_all-append (is_member members) (filter (is_member members) row.owners)
        (filter (is_filled members singles version part) row.movers)
        ∙ both_pass (list_all (is_member members) (filter (is_member members) row.owners))
        (list_all (is_member members) (filter (is_filled members singles version part) row.movers))
        (picked_pass (is_member members) (is_member members) (λ x is. is) row.owners)
        (picked_pass (is_member members) (is_filled members singles version part)
        (λ x is. (first_rest (is_member members x) (is_claimed version part (single_of singles x)) is).0) row.movers)

    missing : (xs : List NodeId) → list_all (is_member members) xs ≡ true →
        holds_only (is_member members) (row_of_missing (w ∷ ws) (map_holders members singles version part row) xs) ≡ true
    missing [] none = both_pass (list_all (is_member members) (w ∷ ws)) true all refl
    missing (x ∷ xs) some = both_pass (list_all (is_member members) (map_holders members singles version part row))
        (list_all (is_member members) (x ∷ xs)) members_hold some

    by : (os : List NodeId) → holds_only (is_member members) (running_row members singles version part (w ∷ ws) row os) ≡ true
    by [] = both_pass (list_all (is_member members) (w ∷ ws)) true all refl
    by (o ∷ os) =
        missing (nodes_missing (w ∷ ws) (map_holders members singles version part row))
        (kept_pass (is_member members) (λ node. not (has_node (map_holders members singles version part row) node))
        (w ∷ ws) all)

pub next_pass : (members : List Member) (singles : List Single) (version : TopVer) (part : ℕ) (ideals rows : List Row) →
    list_all (holds_only (is_member members)) ideals ≡ true →
    list_all (holds_only (is_member members)) (next_rows members singles version part ideals rows) ≡ true
next_pass members singles version part [] rows all = refl
next_pass members singles version part (x ∷ xs) rows all =
    let both = first_rest (holds_only (is_member members) x) (list_all (holds_only (is_member members)) xs) all in
    let wanted = first_rest (list_all (is_member members) x.owners) (list_all (is_member members) x.movers) both.0 in
    both_pass (holds_only (is_member members) (next_row members singles version part x.owners (first_row rows)))
    (list_all (holds_only (is_member members)) (next_rows members singles version (part + 1) xs (drop 1 rows)))
    (next_row_pass members singles version part x.owners (first_row rows) wanted.0)
    (next_pass members singles version (part + 1) xs (drop 1 rows) both.1)
