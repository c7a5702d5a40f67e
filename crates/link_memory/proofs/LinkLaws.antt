-- A link that is put aside for a moment leaves no trace, and an emptied one keeps its place.
use Rattle.std.proofs.Common.{◌≡◌, ℕ, zero, suc, ◌<◌, ◌+◌, List, [], ◌∷◌, IsSome, Option, Some, None, ap, sym, subst, refl, ◌∙◌, drop, take, length, get_or, arith, add-one}
use Rattle.std.specs.Cmp.{IsTotalOrder, on_total}
use Rattle.std.specs.Ordering.{match_ordering}
use Rattle.std.specs.declared.cmp.Ordering.TheVariants.{Less, Equal, Greater}
use Rattle.std.proofs.lemmas.Cmp.{nat_cmp_total, ranked}
use Rattle.part_model.specs.Links.{Inbox, Link, link_of, on_link, without_messages_of, without_messages_of_each}
use Rattle.part_model.specs.Tables.{keys_in}
use Rattle.ignite_types.proofs.NameLaws.{exact_nodes, node_total}
use Rattle.ignite_types.specs.declared.names.NodeId.{NodeId}
use Rattle.ignite_types.specs.Names.{node_cmp}
use Rattle.link_memory.specs.Taking.{TakesLink}
use Rattle.ordered_table.specs.Entries.{at, put}
use Rattle.ordered_table.proofs.Copies as copies
use Rattle.ordered_table.proofs.Laws as laws
use Rattle.ordered_table.specs.Places.{IsAscending}

pub node_put_put : {V : Type 0} (es : List (NodeId × V)) (k : NodeId) (v w : V) → put node_cmp (put node_cmp es k v) k w
    ≡ put node_cmp es k w
node_put_put es k v w = laws.put_put node_cmp node_total es k v w

pub node_put_there : {V : Type 0} (es : List (NodeId × V)) (k : NodeId) (v : V) → IsSome (at node_cmp (put node_cmp es k v) k)
node_put_there es k v = laws.put_there node_cmp node_total es k v

-- what a node has, put at it once more
same_pair : {V : Type 0} (k : NodeId) (v : V) (e : NodeId × V) → k ≡ e.0 → Some v ≡ Some e.1 → (k, v) ≡ e
same_pair k v e key is = let value : v ≡ e.1 = cc in let pair : (k, v) ≡ (e.0, e.1) = cc in pair

put_same : {V : Type 0} (es : List (NodeId × V)) (k : NodeId) (v : V) → at node_cmp es k ≡ Some v → put node_cmp es k v ≡ es
put_same [] k v h = absurd (cc)
put_same (e ∷ es) k v h =
    (elim (node_cmp k e.0) as (λ r. node_cmp k e.0 ≡ r → match_ordering r None (Some e.1) (at node_cmp es k) ≡ Some v →
    match_ordering r ((k, v) ∷ e ∷ es) ((k, v) ∷ es) (e ∷ put node_cmp es k v) ≡ e ∷ es) [
      | Less ↦ λ g m. absurd (cc)
      | Equal ↦ λ g m. ap (λ (x : NodeId × _). x ∷ es) (same_pair k v e (exact_nodes k e.0 g) (sym m))
      | Greater ↦ λ g m. ap (λ r. e ∷ r) (put_same es k v m)
    ]) refl h

-- a value that was put aside and comes back
pub node_put_back : {V : Type 0} (es : List (NodeId × V)) (k : NodeId) (v w : V) → at node_cmp es k ≡ Some v →
    put node_cmp (put node_cmp es k w) k v ≡ es
node_put_back es k v w is = node_put_put es k w v ∙ put_same es k v is

-- a value put at a node that is there leaves the nodes as they are
keys_put : {V : Type 0} (es : List (NodeId × V)) (k : NodeId) (v w : V) → at node_cmp es k ≡ Some w →
    keys_in (put node_cmp es k v) ≡ keys_in es
keys_put [] k v w h = absurd (cc)
keys_put (e ∷ es) k v w h =
    (elim (node_cmp k e.0) as (λ r. node_cmp k e.0 ≡ r → match_ordering r None (Some e.1) (at node_cmp es k) ≡ Some w →
    keys_in (match_ordering r ((k, v) ∷ e ∷ es) ((k, v) ∷ es) (e ∷ put node_cmp es k v)) ≡ e.0 ∷ keys_in es) [
      | Less ↦ λ g m. absurd (cc)
      | Equal ↦ λ g m. ap (λ n. n ∷ keys_in es) (exact_nodes k e.0 g)
      | Greater ↦ λ g m. ap (λ r. e.0 ∷ r) (keys_put es k v w m)
    ]) refl h

keys_on_link : (inbox : Inbox) (from : NodeId) (f : Link → Link) (found : Option Link) → link_of inbox from ≡ found →
    keys_in (on_link inbox from f found).links ≡ keys_in inbox.links
keys_on_link inbox from f None is = refl
keys_on_link inbox from f (Some link) is = keys_put inbox.links from (f link) link is

-- an emptied link keeps its place
pub keys_emptied : (inbox : Inbox) (from : NodeId) → keys_in (without_messages_of inbox from).links ≡ keys_in inbox.links
keys_emptied inbox from = keys_on_link inbox from _ (link_of inbox from) refl

-- the sender at a place is the first of those that are left
sender_next : (links : List (NodeId × Link)) (i : ℕ) (d : NodeId × Link) → i < length links →
    drop i (keys_in links) ≡ (get_or links i d).0 ∷ drop (suc i) (keys_in links)
sender_next [] i d within = absurd (omega arith)
sender_next (e ∷ links) zero d within = refl
sender_next (e ∷ links) (suc i) d within = sender_next links i d (omega arith)

-- a link that was taken and is put back unchanged
pub put_back : (old new : Inbox) (from : NodeId) (link : Link) → TakesLink old new from link →
    record new { links = put node_cmp new.links from link } ≡ old
put_back old new from link taken =
    rw taken.vacant (ap (λ l. record old { links = l }) (node_put_back old.links from link _ taken.was))

length_keys : {V : Type 0} (es : List (NodeId × V)) → length (keys_in es) ≡ length es
length_keys [] = refl
length_keys (e ∷ es) = ap suc (length_keys es)

pub same_length : {V : Type 0} (xs ys : List (NodeId × V)) → keys_in xs ≡ keys_in ys → length xs ≡ length ys
same_length xs ys same = sym (length_keys xs) ∙ ap length same ∙ length_keys ys

-- one link more is emptied
pub one_emptied : (first now : Inbox) (i : ℕ) (d : NodeId × Link) → keys_in now.links ≡ keys_in first.links →
    i < length first.links
    → without_messages_of_each (without_messages_of now (get_or now.links i d).0) (drop (i + 1) (keys_in first.links))
    ≡ without_messages_of_each now (drop i (keys_in first.links))
one_emptied first now i d same within =
    let here : i < length now.links = subst (λ n. i < n) (sym (same_length now.links first.links same)) within in
    rw (← same, add-one i) (rw (sender_next now.links i d here) refl)

-- one link more of the copy
pub copied_more : (links : List (NodeId × Link)) (i : ℕ) (d : NodeId × Link) → IsAscending node_cmp links → i < length links →
    put node_cmp (take i links) (get_or links i d).0 (get_or links i d).1 ≡ take (i + 1) links
copied_more = copies.copied_more node_cmp node_total
