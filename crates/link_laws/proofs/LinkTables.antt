-- What an inbox has for a sender after a change of its links.
use Rattle.std.proofs.Common.{◌≡◌, ◌||◌, List, [], ◌∷◌, Some, None, Bool, true, false, refl, sym, subst, ◌∙◌, arith}
use Rattle.std.specs.List.{list_any}
use Rattle.std.specs.Ordering.{match_ordering}
use Rattle.std.specs.declared.cmp.Ordering.TheVariants.{Less, Equal, Greater}
use Rattle.std.proofs.lemmas.Bool.Decides.{nat_tests}
use Rattle.std.proofs.lemmas.Map.Lookups.{exact_unsigned}
use Rattle.part_model.specs.Links.{Inbox, Link, inbox_shut, link_of, on_link, with_link, without_messages_of, without_messages_of_each}
use Rattle.part_model.specs.Tables.{keys_in}
use Rattle.ignite_types.proofs.NameLaws.{node_total, same_node_itself, same_node_true}
use Rattle.ignite_types.specs.Names.{node_cmp, same_node}
use Rattle.ignite_types.specs.declared.names.NodeId.{NodeId}
use Rattle.link_laws.proofs.Places.{node_apart, some_is}
use Rattle.ordered_table.proofs.Laws as laws
use Rattle.ordered_table.specs.Entries.{at}

-- a statement of each link after the change of one
pub on_link_elim : (b : Inbox) (from : NodeId) (f : Link → Link) (P : NodeId → Link → Type 0)
    → ((l : Link) → link_of b from ≡ Some l → P from (f l)) → ((x : NodeId) (l : Link) → same_node from x ≡ false →
    link_of b x ≡ Some l → P x l)
    → (x : NodeId) (l : Link) → link_of (on_link b from f (link_of b from)) x ≡ Some l → P x l
on_link_elim b from f P here there x l is =
    (elim (link_of b from) as (λ r. link_of b from ≡ r → link_of (on_link b from f r) x ≡ Some l → P x l) [
      | None ↦ λ none has.
          elim (same_node from x) as (λ c. same_node from x ≡ c → P x l) [
            | true ↦ λ same.
                let known = subst (λ (y : NodeId). link_of b y ≡ Some l) (sym (same_node_true from x same)) has in
                absurd (cc (none, known))
            | false ↦ λ other. there x l other has
          ] refl
      | Some old ↦ λ some has.
          elim (same_node from x) as (λ c. same_node from x ≡ c → P x l) [
            | true ↦ λ same.
                subst (λ (y : NodeId). link_of (with_link b from (f old)) y ≡ Some l → P y l) (same_node_true from x same)
                (λ has_it. subst (λ (m : Link). P from m)
                (some_is (f old) l (sym (laws.at_put_same node_cmp node_total b.links from (f old)) ∙ has_it))
                (here old some))
                has
            | false ↦ λ other. there x l other
                (sym (laws.at_put_other node_cmp node_total b.links from x (f old) (node_apart from x other)) ∙ has)
          ] refl
    ]) refl is

-- what holds of a sender's link holds after links are emptied
pub emptied_keeps : (b : Inbox) (ks : List NodeId) (x : NodeId) (Q : Link → Type 0) →
    ((l : Link) → Q l → Q (record l { messages = [] }))
    → ((l : Link) → link_of b x ≡ Some l → Q l) → (l : Link) → link_of (without_messages_of_each b ks) x ≡ Some l → Q l
emptied_keeps b [] x Q clears before l is = before l is
emptied_keeps b (k ∷ ks) x Q clears before l is =
    emptied_keeps (without_messages_of b k) ks x Q clears
    (λ m has. on_link_elim b k (λ (link : Link). record link { messages = [] }) (λ (y : NodeId) (n : Link). y ≡ x → Q n)
    (λ old some same. clears old (before old (subst (λ (y : NodeId). link_of b y ≡ Some old) same some)))
    (λ y n other some same. before n (subst (λ (z : NodeId). link_of b z ≡ Some n) same some))
    x m has refl)
    l is

-- the link of an emptied sender is empty
pub emptied_there : (b : Inbox) (k x : NodeId) → same_node x k ≡ true → (l : Link) →
    link_of (without_messages_of b k) x ≡ Some l → l.messages ≡ []
emptied_there b k x same l is =
    on_link_elim b k (λ (link : Link). record link { messages = [] }) (λ (y : NodeId) (n : Link). y ≡ k → n.messages ≡ [])
    (λ old some at. refl)
    (λ y n other some at. let itself = same_node_itself k in let false_too =
    subst (λ (z : NodeId). same_node k z ≡ false) at other in absurd (cc (itself, false_too)))
    x l is (same_node_true x k same)

pub or_true : (a : Bool) → (a || true) ≡ true
or_true true = refl
or_true false = refl

emptied_all : (b : Inbox) (ks : List NodeId) (x : NodeId) → list_any (same_node x) ks ≡ true → (l : Link) →
    link_of (without_messages_of_each b ks) x ≡ Some l → l.messages ≡ []
emptied_all b [] x among l is = absurd (cc)
emptied_all b (k ∷ ks) x among l is =
    (elim (same_node x k) as (λ c. same_node x k ≡ c → (c || list_any (same_node x) ks) ≡ true → l.messages ≡ []) [
      | true ↦ λ same any. emptied_keeps (without_messages_of b k) ks x (λ (m : Link). m.messages ≡ []) (λ m e. refl)
          (emptied_there b k x same) l is
      | false ↦ λ other any. emptied_all (without_messages_of b k) ks x any l is
    ]) refl among

-- who has a link is among the keys
has_key : (es : List (NodeId × Link)) (x : NodeId) (l : Link) → at node_cmp es x ≡ Some l →
    list_any (same_node x) (keys_in es) ≡ true
has_key [] x l is = absurd (cc)
has_key (e ∷ es) x l is =
    (elim (node_cmp x e.0) as (λ r. node_cmp x e.0 ≡ r → match_ordering r None (Some e.1) (at node_cmp es x) ≡ Some l →
    (same_node x e.0 || list_any (same_node x) (keys_in es)) ≡ true) [
      | Less ↦ λ g has. absurd (cc)
      | Equal ↦ λ g has.
          let number : x.0 ≡ (e.0).0 = exact_unsigned x.0 (e.0).0 g in
          let same : same_node x e.0 ≡ true = grind (arith, nat_tests, number) in
          rw same refl
      | Greater ↦ λ g has. rw (has_key es x l has) (or_true (same_node x e.0))
    ]) refl is

-- all links of a shut inbox are empty, and held as they were
pub shut_empty : (b : Inbox) (x : NodeId) (l : Link) → link_of (inbox_shut b) x ≡ Some l → l.messages ≡ []
shut_empty b x l is =
    elim (link_of b x) as (λ r. link_of b x ≡ r → l.messages ≡ []) [
      | None ↦ λ none. emptied_keeps b (keys_in b.links) x (λ (m : Link). m.messages ≡ []) (λ m e. refl)
          (λ m has. absurd (cc (none, has))) l is
      | Some m ↦ λ some. emptied_all b (keys_in b.links) x (has_key b.links x m some) l is
    ] refl

pub shut_keeps : (b : Inbox) (x : NodeId) (Q : Link → Type 0) → ((l : Link) → Q l → Q (record l { messages = [] }))
    → ((l : Link) → link_of b x ≡ Some l → Q l) → (l : Link) → link_of (inbox_shut b) x ≡ Some l → Q l
shut_keeps b x Q clears before l is = emptied_keeps b (keys_in b.links) x Q clears before l is
