-- The commits of a journal are those that the one walk finds.
use Rattle.std.proofs.Common.{◌≡◌, ◌==◌, ◌&&◌, List, [], ◌∷◌, Option, Some, None, Bool, true, false, if◌then◌else◌, is_some, map, ℕ, refl, ap, sym, subst, ◌∙◌, arith}
use Rattle.std.specs.Ordering.{nat_cmp}
use Rattle.std.proofs.lemmas.Bool.Decides.{nat_tests}
use Rattle.tx_model.specs.Opening.{session_nodes_from}
use Rattle.part_model.specs.Copies.{Found}
use Rattle.part_model.specs.Tables.{keys_in}
use Rattle.commit_history.specs.Firsts.{Seen, first_if, firsts}
use Rattle.commit_history.specs.Following.{Agrees, Follows, assembled}
use Rattle.commit_history.specs.Lines.{new_line, walk_at_line}
use Rattle.commit_history.specs.Steps.{entry_of_home, entry_of_line_if, entry_of_walks, opening_walks, session_line_of, walk_of, walks_after_groups}
use Rattle.commit_history.specs.Steps as steps
use Rattle.commit_history.specs.declared.line.Line.{Line}
use Rattle.commit_history.specs.declared.walks.Walks.{Walks}
use Rattle.commit_history.proofs.Frames.{access_beside}
use Rattle.commit_history.proofs.Orders.{has_keys, keys_put}
use Rattle.commit_history.proofs.Steps.{step_follows}
use Rattle.ignite_types.proofs.NameLaws.{same_node_true}
use Rattle.ignite_types.specs.Names.{same_node, tx_cmp}
use Rattle.ignite_types.specs.declared.journal.Group.{Group}
use Rattle.ignite_types.specs.declared.journal.Rec.{Rec}
use Rattle.ignite_types.specs.declared.names.NodeId.{NodeId}
use Rattle.ignite_types.specs.declared.names.TxId.{TxId}
use Rattle.ignite_types.specs.declared.scenario.Command.{Command}
use Rattle.ignite_types.specs.declared.scenario.Session.{Session}
use Rattle.ignite_types.specs.declared.text.Key.{Key}
use Rattle.ordered_set.specs.Members.{with_member}
use Rattle.ordered_table.specs.Entries.{at, put}
use Rattle.tx_model.specs.History as history
use Rattle.tx_model.specs.History.{commits_from, commits_next, committed_in, entry_from, footprint, fresh_walk, records, taker_of, walk_after_done_access, walk_with_open_call}
use Rattle.tx_model.specs.declared.walk.Walk.{Walk}

recs_follow : (m : Walks) (tx : TxId) (w : Walk) (to : Option NodeId) (rs : List Rec) → Follows m tx w →
    Follows (steps.walks_after_records m to rs) tx (history.walk_after_records tx to w rs)
recs_follow m tx w to [] f = f
recs_follow m tx w to (r ∷ rs) f = recs_follow (steps.walks_after_record m to r) tx (history.walk_after_record tx to w r) to
    rs (step_follows m tx w to r f)

groups_follow : (m : Walks) (tx : TxId) (w : Walk) (gs : List Group) → Follows m tx w →
    Follows (walks_after_groups m gs) tx (history.walk_after_groups tx w gs)
groups_follow m tx w [] f = f
groups_follow m tx w (g ∷ gs) f =
    groups_follow (steps.walks_after_records m (taker_of g.event) g.recs) tx
    (history.walk_after_records tx (taker_of g.event) w g.recs) gs (recs_follow m tx w (taker_of g.event) g.recs f)

-- before the first record the walk of a transaction of its session's node is the fresh one
opening_follows : (sessions : List Session) (tx : TxId) (home : NodeId) →
    at nat_cmp (session_nodes_from 1 [] sessions) tx.session ≡ Some home → home ≡ tx.node →
    Follows (opening_walks sessions) tx fresh_walk
opening_follows sessions tx home here same = record {
  line = new_line home;
  here = rw here refl;
  home = same;
  agrees = record { same = refl; now = λ is. refl; later = λ less. refl; unseen = λ none. refl; fits = omega arith };
}

number_is : (b : Bool) (n number : ℕ) → (b && (n == number)) ≡ true → n ≡ number
number_is true n number both = grind (arith, nat_tests)
number_is false n number both = absurd (cc)

-- what a walk found is what the one walk has kept
module _ (tx : TxId) (l : Line) (v : Walk) (near : List (Key × Found)) (overs : List TxId) where
  kept_access : (g : Found) (b : Bool) (k : Command) → (b ≡ true → g ≡ v.near_read)
      → entry_from tx (if b then walk_after_done_access (assembled l v near overs g) k else assembled l v near overs g)
      ≡ entry_from tx (if b then walk_after_done_access (walk_at_line l v) k else walk_at_line l v)
  kept_access g true k now = rw (now refl) (ap (λ (w : Walk). entry_from tx w) (access_beside near overs (walk_at_line l v) k))
  kept_access g false k now = refl

  kept_entry : (g : Found) → Agrees tx.number l v near overs (assembled l v near overs g)
      → entry_from tx (walk_with_open_call tx (assembled l v near overs g) l.called) ≡ entry_from tx
      (walk_with_open_call tx (walk_at_line l v) l.called)
  kept_entry g agrees =
      elim l.called as (λ k. entry_from tx (walk_with_open_call tx (assembled l v near overs g) k) ≡ entry_from tx
      (walk_with_open_call tx (walk_at_line l v) k)) [
        | None ↦ refl
        | Some c ↦ kept_access g (v.committed && (l.started == tx.number)) c
            (λ both. agrees.now (number_is v.committed l.started tx.number both))
      ]

entry_is : (m : Walks) (tx : TxId) (w : Walk) (f : Follows m tx w) → entry_from tx (walk_with_open_call tx w w.called)
    ≡ steps.entry_of_line m tx f.line
entry_is m tx w f =
    let l = f.line in
    let v = walk_of m tx in
    let near = steps.near_told_of m tx.node in
    let overs = keys_in m.overs in
    subst (λ (x : Walk). entry_from tx (walk_with_open_call tx x x.called) ≡ steps.entry_of_line m tx l) (sym f.agrees.same)
    (kept_entry tx l v near overs w.near_read (subst (λ (x : Walk). Agrees tx.number l v near overs x) f.agrees.same f.agrees))

home_is : (sessions : List Session) (all : List Group) (tx : TxId) →
    Follows (walks_after_groups (opening_walks sessions) all) tx (history.walk_after_groups tx fresh_walk all) →
    entry_of_line_if (walks_after_groups (opening_walks sessions) all) all tx
    (session_line_of (walks_after_groups (opening_walks sessions) all) tx.session) ≡ footprint all tx
home_is sessions all tx f =
    rw f.here (sym (entry_is (walks_after_groups (opening_walks sessions) all) tx
    (history.walk_after_groups tx fresh_walk all) f))

footprint_is : (sessions : List Session) (all : List Group) (tx : TxId) → entry_of_walks (session_nodes_from 1 [] sessions)
    (walks_after_groups (opening_walks sessions) all) all tx ≡ footprint all tx
footprint_is sessions all tx =
    let m = walks_after_groups (opening_walks sessions) all in
    elim (at nat_cmp (session_nodes_from 1 [] sessions) tx.session) as (λ r.
    at nat_cmp (session_nodes_from 1 [] sessions) tx.session ≡ r → entry_of_home m all tx r ≡ footprint all tx) [
      | None ↦ λ here. refl
      | Some home ↦ λ here.
          elim (same_node home tx.node) as (λ b. same_node home tx.node ≡ b →
          (if b then entry_of_line_if m all tx (session_line_of m tx.session) else footprint all tx) ≡ footprint all tx) [
            | true ↦ λ is. home_is sessions all tx (groups_follow (opening_walks sessions) tx fresh_walk all
                (opening_follows sessions tx home here (same_node_true home tx.node is)))
            | false ↦ λ other. refl
          ] refl
    ] refl

-- The order of the commits.

firsts_are : (all : List Group) (seen : Seen) (rs : List Rec) → commits_from all (keys_in seen) rs ≡ map (footprint all)
    (firsts seen rs)
firsts_are all seen [] = refl
firsts_are all seen (r ∷ rs) =
    elim (committed_in r) as (λ c. commits_next all (keys_in seen) c (λ now_seen. commits_from all now_seen rs)
    ≡ map (footprint all) (first_if seen c (λ now_seen. firsts now_seen rs))) [
      | None ↦ firsts_are all seen rs
      | Some tx ↦
          rw (has_keys seen tx)
          (elim (is_some (at tx_cmp seen tx)) as (λ b. (if b then commits_from all (keys_in seen) rs else footprint all tx
          ∷ commits_from all (with_member tx_cmp (keys_in seen) tx) rs) ≡ map (footprint all)
          (if b then firsts seen rs else tx ∷ firsts (put tx_cmp seen tx tt) rs)) [
            | true ↦ firsts_are all seen rs
            | false ↦ rw (← keys_put seen tx) (ap (λ es. footprint all tx ∷ es) (firsts_are all (put tx_cmp seen tx tt) rs))
          ])
    ]

map_same : {X Y : Type 0} (f g : X → Y) → ((x : X) → f x ≡ g x) → (xs : List X) → map f xs ≡ map g xs
map_same f g same [] = refl
map_same f g same (x ∷ xs) = ap (λ y. y ∷ map f xs) (same x) ∙ ap (λ ys. g x ∷ ys) (map_same f g same xs)

-- the commits, each with what the one walk found
pub commits_are : (sessions : List Session) (all : List Group) →
    map (λ (tx : TxId). entry_of_walks (session_nodes_from 1 [] sessions) (walks_after_groups (opening_walks sessions) all)
    all tx) (firsts [] (records all)) ≡ history.commits all
commits_are sessions all =
    map_same (λ (tx : TxId). entry_of_walks (session_nodes_from 1 [] sessions)
    (walks_after_groups (opening_walks sessions) all) all tx) (footprint all) (footprint_is sessions all)
    (firsts [] (records all))
    ∙ sym (firsts_are all [] (records all))

-- the same, of a list, nodes and a walk that are equal to those
pub found_are : (sessions : List Session) (all : List Group) (nodes : List (ℕ × NodeId)) (m : Walks) (txs : List TxId) →
    txs ≡ firsts [] (records all) → nodes ≡ session_nodes_from 1 [] sessions →
    m ≡ walks_after_groups (opening_walks sessions) all →
    map (λ (tx : TxId). entry_of_walks nodes m all tx) txs ≡ history.commits all
found_are sessions all nodes m txs in_order by_number walked = rw (in_order, by_number, walked) (commits_are sessions all)
