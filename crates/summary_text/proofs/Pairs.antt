-- The pairs of an object's members are those of its entries, and no float is among them.
use Rattle.std.proofs.Common.{◌≡◌, ◌≤◌, zero, suc, List, [], ◌∷◌, ◌++◌, append-nil, arith, drop, length, map, String, Global, string_bytes, Bool, false, Option, Some, None, ℕ, refl, ap, sym, ◌∙◌}
use Rattle.ignite_types.specs.declared.scenario.Scenario.{Scenario}
use Rattle.ignite_types.specs.declared.text.Key.{Key}
use Rattle.serde_json.specs.Data.{Data, Members, item, member, no_members, put}
use Rattle.serde_json.specs.View.{items_of, items_view, members_view, view}
use Rattle.serde_json.specs.Written.{has_float, items_have_float, members_have_float}
use Rattle.serde_json.specs.declared.value.Value.{Value}
use Rattle.std.proofs.lemmas.Bool.{or_from, or_parts}
use Rattle.std.specs.Ordering.{match_ordering, nat_cmp}
use Rattle.std.specs.Cmp.Lexicographic.{slice_cmp}
use Rattle.std.specs.declared.cmp.Ordering.{Ordering}
use Rattle.std.specs.declared.cmp.Ordering.TheVariants.{Less, Equal, Greater}
use Rattle.summary_text.specs.Json.{by_text, changes_data, characters, commit_data, commits_data, history_data, pair_data, pairs, present_pairs, value_data}
use Rattle.scen_print.specs.Items.{key_text}
use Rattle.tx_model.specs.History.{map_after_commits}
use Rattle.tx_model.specs.declared.history.CommitEntry.{CommitEntry}

-- the pair of an entry
abbrev pub entry_pair : String Global × Value → Data
entry_pair e = pair_data (string_bytes e.0) (view e.1)

pub pairs_of_entries : (es : List (String Global × Value)) → pairs (members_view es) ≡ items_of (map entry_pair es)
pairs_of_entries [] = refl
pairs_of_entries (e ∷ es) = ap (item (entry_pair e)) (pairs_of_entries es)

same_items : {A : Type 0} (xs : List A) → map (λ x. x) xs ≡ xs
same_items [] = refl
same_items (x ∷ xs) = ap (λ r. x ∷ r) (same_items xs)

-- a list that has the pair of each entry is seen as the pairs
pub listed : (vs : List Value) (ys es : List (String Global × Value)) → map view vs ≡ map entry_pair ys →
    map (λ x. x) ys ≡ es → items_view vs ≡ pairs (members_view es)
listed vs ys es is all = ap items_of is ∙ ap (λ xs. items_of (map entry_pair xs)) (sym (same_items ys) ∙ all)
    ∙ sym (pairs_of_entries es)

-- the commits as a list
abbrev pub commit_list : Scenario → List CommitEntry → List Data
commit_list s [] = []
commit_list s (e ∷ es) = commit_data s e ∷ commit_list s es

pub items_of_commits : (s : Scenario) (es : List CommitEntry) → items_of (commit_list s es) ≡ commits_data s es
items_of_commits s [] = refl
items_of_commits s (e ∷ es) = ap (item (commit_data s e)) (items_of_commits s es)

nothing_left : {A : Type 0} (xs : List A) (i : ℕ) → length xs ≤ i → drop i xs ≡ []
nothing_left [] zero h = refl
nothing_left [] (suc i) h = refl
nothing_left (x ∷ xs) zero h = absurd (omega (arith, h))
nothing_left (x ∷ xs) (suc i) h = nothing_left xs i (omega (arith, h))

-- a list that has all commits
pub commits_done : (s : Scenario) (vs : List Value) (es : List CommitEntry) (i : ℕ) → length es ≤ i →
    map view vs ++ commit_list s (drop i es) ≡ commit_list s es → items_view vs ≡ commits_data s es
commits_done s vs es i past is =
    let all : map view vs ≡ commit_list s es = sym (append-nil (map view vs)) ∙ ap (λ rest. map view vs ++ commit_list s rest)
    (sym (nothing_left es i past)) ∙ is in
    ap items_of all ∙ items_of_commits s es

-- No float is among what is written.

value_plain : (v : Option (List ℕ)) → has_float (value_data v) ≡ false
value_plain None = refl
value_plain (Some v) = refl

put_plain : (k : List ℕ) (d : Data) (ms : Members) → has_float d ≡ false → members_have_float ms ≡ false →
    members_have_float (put k d ms) ≡ false
put_plain k d no_members plain rest = rw plain refl
put_plain k d (member l e ms) plain rest =
    let parts = or_parts (has_float e) (members_have_float ms) rest in
    elim (slice_cmp nat_cmp k l) as (λ o. members_have_float (match_ordering o (member k d (member l e ms)) (member l d ms)
    (member l e (put k d ms))) ≡ false) [
      | Less ↦ or_from _ _ plain rest
      | Equal ↦ or_from _ _ plain parts.1
      | Greater ↦ or_from _ _ parts.0 (put_plain k d ms plain parts.1)
    ]

by_text_plain : (s : Scenario) (cs : List (Key × Option (List ℕ))) (ms : Members) → members_have_float ms ≡ false →
    members_have_float (by_text s ms cs) ≡ false
by_text_plain s [] ms plain = plain
by_text_plain s (c ∷ cs) ms plain =
    by_text_plain s cs _ (put_plain (characters (key_text s c.0)) (value_data c.1) ms (value_plain c.1) plain)

pair_plain : (k : List ℕ) (d : Data) → has_float d ≡ false → has_float (pair_data k d) ≡ false
pair_plain k d plain = rw plain refl

pairs_plain : (ms : Members) → members_have_float ms ≡ false → items_have_float (pairs ms) ≡ false
pairs_plain no_members plain = refl
pairs_plain (member k d ms) plain =
    let parts = or_parts (has_float d) (members_have_float ms) plain in
    or_from _ _ (pair_plain k d parts.0) (pairs_plain ms parts.1)

changes_plain : (s : Scenario) (cs : List (Key × Option (List ℕ))) → has_float (changes_data s cs) ≡ false
changes_plain s cs = pairs_plain (by_text s no_members cs) (by_text_plain s cs no_members refl)

commit_plain : (s : Scenario) (e : CommitEntry) → has_float (commit_data s e) ≡ false
commit_plain s e = rw (changes_plain s e.reads, changes_plain s e.writes) refl

commits_plain : (s : Scenario) (es : List CommitEntry) → items_have_float (commits_data s es) ≡ false
commits_plain s [] = refl
commits_plain s (e ∷ es) = or_from _ _ (commit_plain s e) (commits_plain s es)

pub history_plain : (s : Scenario) (commits : List CommitEntry) → has_float (history_data s commits) ≡ false
history_plain s commits =
    or_from _ _ (commits_plain s commits) (or_from _ _ (changes_plain s (present_pairs (map_after_commits [] commits))) refl)
