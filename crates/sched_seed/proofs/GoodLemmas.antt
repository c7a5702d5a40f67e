-- A generated scenario is good.
use Rattle.std.proofs.Common.{◌≡◌, ℕ, zero, suc, ◌+◌, ◌*◌, ◌%◌, ◌<◌, ◌≤◌, Bool, true, false, not, cond, ◌&&◌, nat_le, bytes_eq, List, [], ◌∷◌, ◌++◌, length, filter_map, flat_map, slice_index, refl, ap, ◌∙◌, arith}
use Rattle.std.specs.Prelude.{◌==◌, IsTrue}
use Rattle.std.specs.List.{list_all, list_any}
use Rattle.std.specs.Fmt.{digits}
use Rattle.std.proofs.lemmas.Bool.{and_from, le-leb}
use Rattle.std.proofs.lemmas.List.Folds.{list_all-append}
use Rattle.std.proofs.lemmas.List.Elements.{filter_map-append}
use Rattle.ignite_types.specs.declared.scenario.Command.TheVariants.{Begin, Commit, Sleep}
use Rattle.ignite_types.specs.declared.scenario.Item.{Item}
use Rattle.ignite_types.specs.declared.scenario.Item.TheVariants.{Plain}
use Rattle.ignite_types.specs.declared.scenario.Mode.TheVariants.{Pessimistic, Optimistic}
use Rattle.ignite_types.specs.declared.scenario.Member.{Member}
use Rattle.ignite_types.specs.declared.scenario.Session.{Session}
use Rattle.ignite_types.specs.declared.scenario.Scenario.{Scenario}
use Rattle.ignite_types.specs.Good.{are_distinct, good, good_blocks, good_item, good_key, good_kinds, good_session, has_member, is_name, object_of, same_session_name}
use Rattle.rand_pcg.specs.Lcg.{Lcg}
use Rattle.sched_seed.specs.declared.transaction.Words.{Words}
use Rattle.sched_seed.specs.Generated.{caches, generated, generated_client, generated_node, generated_server, generated_session, home, sessions_from}
use Rattle.sched_seed.specs.Transactions.{after_script, after_words, moved_amount, numbered, numbered_key, other_than, script, transaction, words_of}
use Rattle.sched_seed.specs.Words.{generator}
use Rattle.sched_seed.proofs.Below.{all_below, passes_below}

-- the nodes of a generated scenario, the joining one last
abbrev everyone : List Member
everyone = generated_server 1 ∷ generated_server 2 ∷ generated_server 3 ∷ generated_server 4 ∷ generated_client 9
    ∷ generated_server 5 ∷ []

good_keys : (n : ℕ) → n < 16 → good_key caches (numbered_key n) ≡ true
unfolding digits
good_keys n h = passes_below (λ m. good_key caches (numbered_key m)) 16 refl n h

good_names : (place : ℕ) → place < 64 → is_name (numbered 83 (place + 1)) ≡ true
unfolding digits
good_names place h = passes_below (λ p. is_name (numbered 83 (p + 1))) 64 refl place h

good_session_nodes : (place : ℕ) → has_member everyone (home place) ≡ true
good_session_nodes place = passes_below (λ r. has_member everyone (generated_node (slice_index (1 ∷ 3 ∷ 4 ∷ 9 ∷ []) r))) 4
    refl (place % 4) (omega arith)

not_true : (b : Bool) → not b ≡ true → b ≡ false
not_true true h = absurd (cc)
not_true false h = refl

-- the names of two places differ
distinct_names : (a b : ℕ) → a < b → b < 64 → bytes_eq (numbered 83 (a + 1)) (numbered 83 (b + 1)) ≡ false
unfolding digits
distinct_names a b h k =
    let differs : ℕ → ℕ → Bool = λ y x. not (bytes_eq (numbered 83 (x + 1)) (numbered 83 (y + 1))) in
    not_true _ (passes_below (differs b) b (passes_below (λ y. all_below (differs y) y) 64 refl b k) a h)

-- each command of a transaction is good, and none of them stands in a block that is no longer open
good_begin : (even : Bool) → good_item caches (Plain (cond even (Begin Pessimistic 50) (Begin Optimistic 0))) ≡ true
good_begin true = refl
good_begin false = refl

other_below : (from to : ℕ) → from < 16 → to < 16 → other_than from to < 16
other_below from to h k = below_either (to == from) ((from + 1) % 16) to (omega arith) k
  where
    below_either : (b : Bool) (x y : ℕ) → x < 16 → y < 16 → cond b x y < 16
    below_either true x y h k = h
    below_either false x y h k = k

good_transaction : (words : Words) → list_all (good_item caches) (transaction words) ≡ true
good_transaction words =
    let from : words.from % 16 < 16 = omega arith in
    let to : words.to % 16 < 16 = omega arith in
    rw (
      good_begin (words.mode % 2 == 0),
      good_keys (words.from % 16) from,
      good_keys (other_than (words.from % 16) (words.to % 16)) (other_below _ _ from to),
    ) refl

good_commands : (txs : ℕ) (g : Lcg) → list_all (good_item caches) (script txs g) ≡ true
good_commands zero g = refl
good_commands (suc txs) g =
    list_all-append (good_item caches) (transaction (words_of g)) (script txs (after_words g))
    ∙ and_from _ _ (good_transaction (words_of g)) (good_commands txs (after_words g))

length-script : (txs : ℕ) (g : Lcg) → length (script txs g) ≡ 5 * txs
length-script zero g = refl
length-script (suc txs) g = let before : length (script txs (after_words g)) ≡ 5 * txs = length-script txs (after_words g) in
    omega arith

good_begun : (even : Bool) (words : Words) (more : List Item) →
    good_blocks false (Plain (cond even (Begin Pessimistic 50) (Begin Optimistic 0)) ∷ moved_amount (words.from % 16)
    (other_than (words.from % 16) (words.to % 16)) (words.amount % 100 + 1) ++ Plain Commit ∷ Plain (Sleep 1) ∷ more)
    ≡ good_blocks false more
good_begun true words more = refl
good_begun false words more = refl

good_script : (txs : ℕ) (g : Lcg) → good_blocks false (script txs g) ≡ true
good_script zero g = refl
good_script (suc txs) g = good_begun ((words_of g).mode % 2 == 0) (words_of g) (script txs (after_words g))
    ∙ good_script txs (after_words g)

-- no command is one on an object
no_objects : (txs : ℕ) (g : Lcg) → filter_map object_of (script txs g) ≡ []
no_objects zero g = refl
no_objects (suc txs) g = no_objects txs (after_words g)

good_one : (place txs : ℕ) (g : Lcg) → place < 64 → txs ≤ 100 → good_session caches everyone (generated_session place txs g)
    ≡ true
good_one place txs g h few =
    let short : nat_le (length (script txs g)) 1000 ≡ true = rw (length-script txs g) (le-leb _ _ (omega arith)) in
    rw (good_names place h, good_session_nodes place, short, good_commands txs g, good_script txs g) refl

length-sessions : (place n txs : ℕ) (g : Lcg) → length (sessions_from place n txs g) ≡ n
length-sessions place zero txs g = refl
length-sessions place (suc n) txs g = let before : length (sessions_from (place + 1) n txs (after_script txs g)) ≡ n =
    length-sessions (place + 1) n txs (after_script txs g) in omega arith

good_each : (place n txs : ℕ) (g : Lcg) → place + n ≤ 64 → txs ≤ 100 →
    list_all (good_session caches everyone) (sessions_from place n txs g) ≡ true
good_each place zero txs g h few = refl
good_each place (suc n) txs g h few =
    and_from _ _ (good_one place txs g (omega arith) few) (good_each (place + 1) n txs (after_script txs g) (omega arith) few)

-- no session from a place on has the name of one before it
other_names : (a place n txs : ℕ) (first g : Lcg) → a < place → place + n ≤ 64 →
    list_any (same_session_name (generated_session a txs first)) (sessions_from place n txs g) ≡ false
other_names a place zero txs first g h within = refl
other_names a place (suc n) txs first g h within =
    let here : bytes_eq (numbered 83 (a + 1)) (numbered 83 (place + 1)) ≡ false = distinct_names a place h (omega arith) in
    let later : list_any (same_session_name (generated_session a txs first))
    (sessions_from (place + 1) n txs (after_script txs g)) ≡ false =
    other_names a (place + 1) n txs first (after_script txs g) (omega arith) (omega arith) in
    rw (here, later) refl

distinct_sessions : (place n txs : ℕ) (g : Lcg) → place + n ≤ 64 →
    are_distinct same_session_name (sessions_from place n txs g) ≡ true
distinct_sessions place zero txs g h = refl
distinct_sessions place (suc n) txs g h =
    and_from _ _
    (ap (λ (b : Bool). not b) (other_names place (place + 1) n txs g (after_script txs g) (omega arith) (omega arith)))
    (distinct_sessions (place + 1) n txs (after_script txs g) (omega arith))

no_kinds : (place n txs : ℕ) (g : Lcg) →
    filter_map object_of (flat_map (λ (s : Session). s.commands) (sessions_from place n txs g)) ≡ []
no_kinds place zero txs g = refl
no_kinds place (suc n) txs g =
    filter_map-append object_of (script txs g)
    (flat_map (λ (s : Session). s.commands) (sessions_from (place + 1) n txs (after_script txs g)))
    ∙ rw (no_objects txs g) (no_kinds (place + 1) n txs (after_script txs g))

good_all : (n txs : ℕ) (g : Lcg) → n ≤ 64 → txs ≤ 100 →
    (nat_le (length (sessions_from 0 n txs g)) 64 && list_all (good_session caches everyone) (sessions_from 0 n txs g)
    && are_distinct same_session_name (sessions_from 0 n txs g)
    && good_kinds (filter_map object_of (flat_map (λ (s : Session). s.commands) (sessions_from 0 n txs g)))) ≡ true
good_all n txs g h few =
    let count : nat_le (length (sessions_from 0 n txs g)) 64 ≡ true = rw (length-sessions 0 n txs g) (le-leb n 64 h) in
    let kinds : good_kinds (filter_map object_of (flat_map (λ (s : Session). s.commands) (sessions_from 0 n txs g))) ≡ true =
    rw (no_kinds 0 n txs g) refl in
    and_from _ _ (and_from _ _ (and_from _ _ count (good_each 0 n txs g (omega arith) few))
    (distinct_sessions 0 n txs g (omega arith))) kinds

-- what the generator answers keeps the forms, names, order and limits of a scenario's text
pub good_generated : (seed n txs : ℕ) → n ≤ 64 → txs ≤ 100 → good (generated seed n txs) ≡ true
good_generated seed n txs h few = good_all n txs (generator seed 7) h few

pub good_made : (s : Scenario) (seed n txs : ℕ) → s ≡ generated seed n txs → n ≤ 64 → txs ≤ 100 → IsTrue (good s)
good_made s seed n txs is h few = ap good is ∙ good_generated seed n txs h few
