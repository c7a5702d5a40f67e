-- The opening world carries nothing, and there is nothing that records say.
use Rattle.std.proofs.Common.{◌≡◌, ◌==◌, ◌≤◌, ◌<◌, ◌++◌, ◌&&◌, ◌||◌, List, [], ◌∷◌, Some, Bool, true, false, if◌then◌else◌, not, cond, zero, suc, ℕ, refl, ap, sym, subst, ◌∙◌, arith}
use Rattle.std.specs.List.{list_all, list_any}
use Rattle.std.specs.Ordering.{match_ordering, nat_cmp}
use Rattle.std.specs.declared.cmp.Ordering.TheVariants.{Less, Equal, Greater}
use Rattle.std.specs.Prelude.{nat_le, nat_lt, slice_get}
use Rattle.std.proofs.lemmas.Bool.Decides.{nat_tests}
use Rattle.std.proofs.lemmas.List.Folds.{list_any-append}
use Rattle.act_rows.specs.NewNodes.{opening_map_of}
use Rattle.part_model.specs.Directory.{node_set}
use Rattle.part_model.specs.Links.{Inbox, Link, inbox_from, new_inbox}
use Rattle.part_model.specs.NextMap.{is_member}
use Rattle.ignite_types.proofs.NameLaws.{node_total, same_node_true}
use Rattle.ignite_types.specs.Good.{are_distinct, members}
use Rattle.ignite_types.specs.Good as good
use Rattle.ignite_types.specs.Names.{node_cmp, same_node}
use Rattle.ignite_types.specs.declared.names.NodeId.{NodeId}
use Rattle.ignite_types.specs.declared.scenario.Member.{Member}
use Rattle.ignite_types.specs.declared.scenario.Scenario.{Scenario}
use Rattle.link_laws.specs.Carrying.{InboxCarries, LinkInvariant, is_gone, is_new, joiners}
use Rattle.link_laws.proofs.Journals.{first_rest}
use Rattle.link_laws.proofs.Joiners.{not_true}
use Rattle.link_laws.proofs.Places.{after_map, node_apart, some_is}
use Rattle.ordered_set.specs.Members.{with_member}
use Rattle.ordered_table.proofs.Laws as laws
use Rattle.ordered_table.specs.Entries.{at, put}
use Rattle.tx_model.specs.Opening.{declared_nodes, ids_of, opening, opening_part}
use Rattle.tx_model.specs.World.{Part}
use Rattle.node_state.specs.declared.life.Life.TheVariants as life

-- Numbers of nodes, ascending.

abbrev pub rises : ℕ → List NodeId → Bool
rises n [] = true
rises n (x ∷ xs) = nat_le n x.0 && rises (suc x.0) xs

both_true : (a b : Bool) → a ≡ true → b ≡ true → (a && b) ≡ true
both_true a b x y = ap (λ (r : Bool). r && b) x ∙ y

pub less_is : (x y : ℕ) → nat_cmp x y ≡ Less → x < y
less_is x y less =
    (elim (nat_lt x y) as (λ b. nat_lt x y ≡ b → cond b Less (cond (x == y) Equal Greater) ≡ Less → x < y) [
      | true ↦ λ t e. grind (arith, nat_tests, t)
      | false ↦ λ f e.
          (elim (x == y) as (λ b. cond b Equal Greater ≡ Less → x < y) [
            | true ↦ λ e2. absurd (cc (e2))
            | false ↦ λ e2. absurd (cc (e2))
          ]) e
    ]) refl less

pub greater_is : (x y : ℕ) → nat_cmp x y ≡ Greater → y < x
greater_is x y more =
    (elim (nat_lt x y) as (λ b. nat_lt x y ≡ b → cond b Less (cond (x == y) Equal Greater) ≡ Greater → y < x) [
      | true ↦ λ t e. absurd (cc (e))
      | false ↦ λ f e.
          (elim (x == y) as (λ b. (x == y) ≡ b → cond b Equal Greater ≡ Greater → y < x) [
            | true ↦ λ t e2. absurd (cc (e2))
            | false ↦ λ g e2. grind (arith, nat_tests, f, g)
          ]) refl e
    ]) refl more

with_rises : (n : ℕ) (xs : List NodeId) (k : NodeId) → n ≤ k.0 → rises n xs ≡ true → rises n (with_member node_cmp xs k) ≡ true
with_rises n [] k low up = both_true (nat_le n k.0) true (grind (arith, nat_tests, low)) refl
with_rises n (x ∷ xs) k low up =
    let both = first_rest (nat_le n x.0) (rises (suc x.0) xs) up in
    elim (node_cmp k x) as (λ r. node_cmp k x ≡ r →
    rises n (match_ordering r (k ∷ x ∷ xs) (x ∷ xs) (x ∷ with_member node_cmp xs k)) ≡ true) [
      | Less ↦ λ g. both_true (nat_le n k.0) (nat_le (suc k.0) x.0 && rises (suc x.0) xs) (grind (arith, nat_tests, low))
          (both_true (nat_le (suc k.0) x.0) (rises (suc x.0) xs) (above g) both.1)
      | Equal ↦ λ g. up
      | Greater ↦ λ g. both_true (nat_le n x.0) (rises (suc x.0) (with_member node_cmp xs k)) both.0
          (with_rises (suc x.0) xs k (below g) both.1)
    ] refl
  where
    above : node_cmp k x ≡ Less → nat_le (suc k.0) x.0 ≡ true
    above g = let less = less_is k.0 x.0 g in grind (arith, nat_tests, less)

    below : node_cmp k x ≡ Greater → suc x.0 ≤ k.0
    below g = let more = greater_is k.0 x.0 g in omega (arith, more)

pub set_rises : (xs : List NodeId) (ms : List Member) → rises 0 xs ≡ true → rises 0 (node_set xs ms) ≡ true
set_rises xs [] up = up
set_rises xs (m ∷ ms) up = set_rises (with_member node_cmp xs m.node) ms (with_rises 0 xs m.node (omega arith) up)

above_first : (n : ℕ) (xs : List NodeId) (k : ℕ) (x : NodeId) → rises n xs ≡ true → slice_get xs k ≡ Some x → n ≤ x.0
above_first n [] k x up is = absurd (cc)
above_first n (y ∷ ys) zero x up is =
    let both = first_rest (nat_le n y.0) (rises (suc y.0) ys) up in
    let same : y.0 ≡ x.0 = ap (λ (z : NodeId). z.0) (some_is y x is) in
    grind (arith, nat_tests, both.0, same)
above_first n (y ∷ ys) (suc k) x up is =
    let both = first_rest (nat_le n y.0) (rises (suc y.0) ys) up in
    let more = above_first (suc y.0) ys k x both.1 is in
    grind (arith, nat_tests, both.0, more)

ids_apart : (n : ℕ) (xs : List NodeId) (j k : ℕ) (x y : NodeId) → rises n xs ≡ true → slice_get xs j ≡ Some x →
    slice_get xs k ≡ Some y → same_node x y ≡ true → j ≡ k
ids_apart n [] j k x y up at_j at_k same = absurd (cc)
ids_apart n (z ∷ zs) zero zero x y up at_j at_k same = refl
ids_apart n (z ∷ zs) zero (suc k) x y up at_j at_k same =
    let both = first_rest (nat_le n z.0) (rises (suc z.0) zs) up in
    let more = above_first (suc z.0) zs k y both.1 at_k in
    let here : z.0 ≡ x.0 = ap (λ (q : NodeId). q.0) (some_is z x at_j) in
    let equal : x.0 ≡ y.0 = ap (λ (q : NodeId). q.0) (same_node_true x y same) in
    absurd (omega (arith, more, here, equal))
ids_apart n (z ∷ zs) (suc j) zero x y up at_j at_k same =
    let both = first_rest (nat_le n z.0) (rises (suc z.0) zs) up in
    let more = above_first (suc z.0) zs j x both.1 at_j in
    let here : z.0 ≡ y.0 = ap (λ (q : NodeId). q.0) (some_is z y at_k) in
    let equal : x.0 ≡ y.0 = ap (λ (q : NodeId). q.0) (same_node_true x y same) in
    absurd (omega (arith, more, here, equal))
ids_apart n (z ∷ zs) (suc j) (suc k) x y up at_j at_k same =
    let both = first_rest (nat_le n z.0) (rises (suc z.0) zs) up in
    ap suc (ids_apart (suc z.0) zs j k x y both.1 at_j at_k same)

-- Empty links.

put_empty : (links : List (NodeId × Link)) (k x : NodeId) (e l : Link) → ((m : Link) → at node_cmp links x ≡ Some m → m ≡ e) →
    at node_cmp (put node_cmp links k e) x ≡ Some l → l ≡ e
put_empty links k x e l before is =
    elim (same_node k x) as (λ b. same_node k x ≡ b → l ≡ e) [
      | true ↦ λ t.
          let there = subst (λ (n : NodeId). at node_cmp (put node_cmp links n e) x ≡ Some l) (same_node_true k x t) is in
          some_is l e (sym there ∙ laws.at_put_same node_cmp node_total links x e)
      | false ↦ λ f. before l (sym (laws.at_put_other node_cmp node_total links k x e (node_apart k x f)) ∙ is)
    ] refl

empty_links : (links : List (NodeId × Link)) (ks : List NodeId) (x : NodeId) (l : Link) →
    ((m : Link) → at node_cmp links x ≡ Some m → m ≡ record { held = false; messages = [] }) →
    at node_cmp (inbox_from links ks) x ≡ Some l → l ≡ record { held = false; messages = [] }
empty_links links [] x l before is = before l is
empty_links links (k ∷ ks) x l before is =
    empty_links (put node_cmp links k (record { held = false; messages = [] })) ks x l
    (λ m has. put_empty links k x (record { held = false; messages = [] }) m before has) is

-- Who joins later is no member at first.

apart_parts : (xs ys : List Member) → are_distinct good.same_member_node (xs ++ ys) ≡ true →
    (are_distinct good.same_member_node ys ≡ true) × (list_all (is_new [] xs) ys ≡ true)
apart_parts [] ys apart = (apart, none_yet ys)
  where
    none_yet : (zs : List Member) → list_all (is_new [] []) zs ≡ true
    none_yet [] = refl
    none_yet (z ∷ zs) = none_yet zs
apart_parts (x ∷ xs) ys apart =
    let both = first_rest (not (list_any (good.same_member_node x) (xs ++ ys)))
    (are_distinct good.same_member_node (xs ++ ys)) apart in
    let rest = apart_parts xs ys both.1 in (
      rest.0,
      one_more ys (no_right (list_any (good.same_member_node x) xs) (list_any (good.same_member_node x) ys)
          (sym (list_any-append (good.same_member_node x) xs ys)
          ∙ not_true (list_any (good.same_member_node x) (xs ++ ys)) both.0)) rest.1,
    )
  where
    no_right : (a b : Bool) → (a || b) ≡ false → b ≡ false
    no_right true b e = absurd (cc)
    no_right false b e = e

    one_more : (zs : List Member) → list_any (good.same_member_node x) zs ≡ false → list_all (is_new [] xs) zs ≡ true →
        list_all (is_new [] (x ∷ xs)) zs ≡ true
    one_more [] none all = refl
    one_more (z ∷ zs) none all =
        let new = first_rest (is_new [] xs z) (list_all (is_new [] xs) zs) all in
        (elim (good.same_member_node x z) as (λ b. good.same_member_node x z ≡ b →
        (b || list_any (good.same_member_node x) zs) ≡ false → list_all (is_new [] (x ∷ xs)) (z ∷ zs) ≡ true) [
          | true ↦ λ t e. absurd (cc)
          | false ↦ λ f e.
              let other : same_node z.node x.node ≡ false = (grind (arith, nat_tests, f)) in
              ap (λ (r : Bool). not (r || is_member xs z.node) && list_all (is_new [] (x ∷ xs)) zs) other
              ∙ both_true (not (is_member xs z.node)) (list_all (is_new [] (x ∷ xs)) zs) new.0 (one_more zs e new.1)
        ]) refl none

not_gone : (b : Bool) → is_gone (if b then life.Alive else life.Absent) ≡ false
not_gone true = refl
not_gone false = refl

pub opening_carries : (s : Scenario) → are_distinct good.same_member_node (members s) ≡ true → LinkInvariant s [] (opening s)
opening_carries s apart =
    let ids = ids_of s in
    let m = opening_map_of s in
    let parts = apart_parts s.nodes (joiners s.plan) apart in
    record {
      plan_is = refl;
      session_nodes_are = refl;
      apart = λ j k p q at_j at_k same.
          let a = after_map (opening_part s m) ids j p at_j in
          let b = after_map (opening_part s m) ids k q at_k in
          ids_apart 0 ids j k a.0 b.0 (set_rises [] (declared_nodes s) refl) a.1 b.1
          (subst (λ (y : Part). same_node a.0 y.node.me ≡ true) (sym b.2)
          (subst (λ (y : Part). same_node y.node.me q.node.me ≡ true) (sym a.2) same));
      lives = λ k p at. let a = after_map (opening_part s m) ids k p at in subst (λ (y : Part). is_gone y.life ≡ false) a.2
          (not_gone (is_member s.nodes a.0));
      inboxes_are = λ k p b at has.
          let a = after_map (λ (id : NodeId). new_inbox ids) ids k b has in
          subst (λ (y : Inbox). InboxCarries s.plan [] p.node.me y) a.2 (record {
            closed_is = refl;
            links_are = λ from l is.
                let empty = empty_links [] ids from l (λ n none. absurd (cc)) is in
                record {
                  held_is = ap (λ (n : Link). n.held) empty;
                  sender_lost = λ e. ap (λ (n : Link). n.messages) empty;
                  addressee_lost = λ e. ap (λ (n : Link). n.messages) empty;
                  in_order = λ e f. sym (ap (λ (n : Link). n.messages) empty);
                };
          });
      waiting = record { are_apart = parts.0; are_new = parts.1 };
    }
