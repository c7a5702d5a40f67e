-- What lies on the links after a change of one inbox, or of all.
use Rattle.std.proofs.Common.{◌≡◌, ◌&&◌, ◌++◌, ◌||◌, List, [], ◌∷◌, Option, Some, None, Bool, true, false, if◌then◌else◌, ℕ, refl, ap, sym, subst, ◌∙◌}
use Rattle.std.specs.Option.{option_map}
use Rattle.std.specs.Prelude.{drop, slice_get}
use Rattle.std.proofs.lemmas.Option.{slice_get-map}
use Rattle.part_model.specs.Links.{Inbox, Link, inbox_after_pop, inbox_after_push, inbox_shut, link_of, on_link, with_hold, without_messages_of}
use Rattle.ignite_types.proofs.NameLaws.{node_total, same_node_true}
use Rattle.ignite_types.specs.Names.{node_cmp, same_node}
use Rattle.ignite_types.specs.declared.message.Message.{Message}
use Rattle.ignite_types.specs.declared.names.NodeId.{NodeId}
use Rattle.link_laws.specs.Carrying.{NodesApart}
use Rattle.link_laws.proofs.Frames.{place_is, stands_there}
use Rattle.link_laws.proofs.LinkTables.{or_true, shut_empty}
use Rattle.link_laws.proofs.Places.{node_apart}
use Rattle.ordered_table.proofs.Laws as laws
use Rattle.scenes.specs.Scenes.{inbox_messages, world_links, link_messages, links_after_take, links_after_send, links_without}
use Rattle.scenes.proofs.Parts.{get_other, get_set}
use Rattle.tx_model.specs.World.{Part, World, inbox_on, inboxes_emptied, place_of, with_inbox, with_inbox_shut}

-- One inbox changed.

pub links_set : (w : World) (k : ℕ) (p : Part) (b b2 : Inbox) → NodesApart w.parts → slice_get w.parts k ≡ Some p →
    slice_get w.inboxes k ≡ Some b → (x y : NodeId)
    → world_links (with_inbox w k b2) x y ≡ (if same_node p.node.me y then link_messages (link_of b2 x) else world_links w x y)
links_set w k p b b2 apart is inbox x y = by_node (same_node p.node.me y) refl
  where
    elsewhere : (r : Option ℕ) → place_of w y ≡ r → same_node p.node.me y ≡ false →
        inbox_messages (inbox_on (with_inbox w k b2) r) x ≡ inbox_messages (inbox_on w r) x
    elsewhere None place other = refl
    elsewhere (Some j) place other =
        ap (λ (o : Option Inbox). inbox_messages o x) (get_other w.inboxes k j b2 (λ here.
        let there = stands_there w k p y (place ∙ ap (λ i. Some i) here) is in absurd (cc (there, other))))

    by_node : (c : Bool) → same_node p.node.me y ≡ c →
        world_links (with_inbox w k b2) x y ≡ (if c then link_messages (link_of b2 x) else world_links w x y)
    by_node true same = ap (λ r. inbox_messages (inbox_on (with_inbox w k b2) r) x) (place_is w k p y apart is same)
        ∙ ap (λ (o : Option Inbox). inbox_messages o x) (get_set w.inboxes k b b2 inbox)
    by_node false other = elsewhere (place_of w y) refl other

pub links_here : (w : World) (k : ℕ) (p : Part) (b : Inbox) → NodesApart w.parts → slice_get w.parts k ≡ Some p →
    slice_get w.inboxes k ≡ Some b → (x y : NodeId) → same_node p.node.me y ≡ true →
    world_links w x y ≡ link_messages (link_of b x)
links_here w k p b apart is inbox x y same = ap (λ r. inbox_messages (inbox_on w r) x) (place_is w k p y apart is same)
    ∙ ap (λ (o : Option Inbox). inbox_messages o x) inbox

-- One link of an inbox changed.

pub on_link_here : (b : Inbox) (from : NodeId) (f : Link → Link) (l : Link) → link_of b from ≡ Some l →
    link_messages (link_of (on_link b from f (link_of b from)) from) ≡ (f l).messages
on_link_here b from f l some = ap (λ (r : Option Link). link_messages (link_of (on_link b from f r) from)) some
    ∙ ap link_messages (laws.at_put_same node_cmp node_total b.links from (f l))

pub on_link_other : (b : Inbox) (from : NodeId) (f : Link → Link) (x : NodeId) → same_node from x ≡ false →
    link_of (on_link b from f (link_of b from)) x ≡ link_of b x
on_link_other b from f x other = by (link_of b from)
  where
    by : (r : Option Link) → link_of (on_link b from f r) x ≡ link_of b x
    by None = refl
    by (Some l) = laws.at_put_other node_cmp node_total b.links from x (f l) (node_apart from x other)

-- of what lies on it, where the change is one of its messages
pub on_link_at : (b : Inbox) (from : NodeId) (f : Link → Link) (g : List Message → List Message) →
    ((l : Link) → (f l).messages ≡ g l.messages) → g [] ≡ [] → (x : NodeId)
    → link_messages (link_of (on_link b from f (link_of b from)) x)
    ≡ (if same_node from x then g (link_messages (link_of b x)) else link_messages (link_of b x))
on_link_at b from f g each none x = by (same_node from x) refl
  where
    here : (r : Option Link) → link_of b from ≡ r → link_messages (link_of (on_link b from f (link_of b from)) from)
        ≡ g (link_messages r)
    here None is = ap (λ (r : Option Link). link_messages (link_of (on_link b from f r) from)) is ∙ ap link_messages is
        ∙ sym none
    here (Some l) is = on_link_here b from f l is ∙ each l

    by : (c : Bool) → same_node from x ≡ c → link_messages (link_of (on_link b from f (link_of b from)) x)
        ≡ (if c then g (link_messages (link_of b x)) else link_messages (link_of b x))
    by true same = subst (λ (y : NodeId). link_messages (link_of (on_link b from f (link_of b from)) y)
        ≡ g (link_messages (link_of b y))) (same_node_true from x same) (here (link_of b from) refl)
    by false other = ap link_messages (on_link_other b from f x other)

module _ (w : World) (k : ℕ) (p : Part) (b : Inbox) (apart : NodesApart w.parts) (is : slice_get w.parts k ≡ Some p)
    (inbox : slice_get w.inboxes k ≡ Some b) where
  -- a change of one link, as one of all
  changed_at : (b2 : Inbox) (from : NodeId) (g : List Message → List Message) →
      ((x : NodeId) → link_messages (link_of b2 x)
      ≡ (if same_node from x then g (link_messages (link_of b x)) else link_messages (link_of b x)))
      → (x y : NodeId) → world_links (with_inbox w k b2) x y ≡ (if same_node from x
      && same_node p.node.me y then g (world_links w x y) else world_links w x y)
  changed_at b2 from g now x y = links_set w k p b b2 apart is inbox x y
      ∙ by (same_node p.node.me y) refl (same_node from x) refl
    where
      by : (c : Bool) → same_node p.node.me y ≡ c → (d : Bool) → same_node from x ≡ d →
          (if c then link_messages (link_of b2 x) else world_links w x y)
          ≡ (if d && c then g (world_links w x y) else world_links w x y)
      by true same true sender = now x ∙ (rw sender (ap g (sym (links_here w k p b apart is inbox x y same))))
      by true same false sender = now x ∙ (rw sender (sym (links_here w k p b apart is inbox x y same)))
      by false other true sender = refl
      by false other false sender = refl

  pub links_popped : (from : NodeId) → world_links (with_inbox w k (inbox_after_pop b from)) ≡ links_after_take from p.node.me
      (world_links w)
  links_popped from = λ i. λ x y. changed_at (inbox_after_pop b from) from (drop 1)
      (on_link_at b from (λ (l : Link). record l { messages = drop 1 l.messages }) (drop 1) (λ l. refl) refl) x y i

  pub links_held : (from : NodeId) (held : Bool) → world_links (with_inbox w k (with_hold b from held)) ≡ world_links w
  links_held from held = λ i. λ x y. (changed_at (with_hold b from held) from (λ ms. ms)
      (on_link_at b from (λ (l : Link). record l { held = held }) (λ ms. ms) (λ l. refl) refl) x y
      ∙ same (same_node from x && same_node p.node.me y) (world_links w x y)) i
    where
      same : (c : Bool) (ms : List Message) → (if c then ms else ms) ≡ ms
      same true ms = refl
      same false ms = refl

  -- the same inbox again
  pub links_same : world_links (with_inbox w k b) ≡ world_links w
  links_same = λ i. λ x y. (links_set w k p b b apart is inbox x y ∙ by x y (same_node p.node.me y) refl) i
    where
      by : (x y : NodeId) (c : Bool) → same_node p.node.me y ≡ c →
          (if c then link_messages (link_of b x) else world_links w x y) ≡ world_links w x y
      by x y true same = sym (links_here w k p b apart is inbox x y same)
      by x y false other = refl

  pub links_pushed : (from : NodeId) (m : Message) (l : Link) → b.closed ≡ false → link_of b from ≡ Some l →
      world_links (with_inbox w k (inbox_after_push b from m)) ≡ links_after_send from p.node.me m (world_links w)
  links_pushed from m l open_box some = λ i. λ x y. changed_at (inbox_after_push b from m) from (λ ms. ms ++ m ∷ [])
      (λ z. subst (λ (c : Bool).
      link_messages (link_of (if c then b else on_link b from (λ (k : Link). record k { messages = k.messages ++ m ∷ [] })
      (link_of b from)) z)
      ≡ (if same_node from z then link_messages (link_of b z) ++ m ∷ [] else link_messages (link_of b z))) (sym open_box)
      (by z (same_node from z) refl)) x y i
    where
      f : Link → Link
      f k = record k { messages = k.messages ++ m ∷ [] }

      by : (z : NodeId) (c : Bool) → same_node from z ≡ c → link_messages (link_of (on_link b from f (link_of b from)) z)
          ≡ (if c then link_messages (link_of b z) ++ m ∷ [] else link_messages (link_of b z))
      by z true same = subst (λ (y : NodeId). link_messages (link_of (on_link b from f (link_of b from)) y) ≡ link_messages
          (link_of b y) ++ m ∷ []) (same_node_true from z same)
          (on_link_here b from f l some ∙ ap (λ (r : Option Link). link_messages r ++ m ∷ []) (sym some))
      by z false other = ap link_messages (on_link_other b from f z other)

-- All links from a node emptied, and its inbox shut.

abbrev no_messages : List Message
no_messages = []

pub emptied_links : (w : World) (id x y : NodeId) → world_links (record w { inboxes = inboxes_emptied id w.inboxes }) x y
    ≡ (if same_node id x then [] else world_links w x y)
emptied_links w id x y = by (place_of w y)
  where
    none : (c : Bool) → no_messages ≡ (if c then no_messages else no_messages)
    none true = refl
    none false = refl

    in_box : (o : Option Inbox) → inbox_messages (option_map (λ (b : Inbox). without_messages_of b id) o) x
        ≡ (if same_node id x then [] else inbox_messages o x)
    in_box None = none (same_node id x)
    in_box (Some b) = on_link_at b id (λ (l : Link). record l { messages = [] }) (λ ms. []) (λ l. refl) refl x

    by : (r : Option ℕ) → inbox_messages (inbox_on (record w { inboxes = inboxes_emptied id w.inboxes }) r) x
        ≡ (if same_node id x then [] else inbox_messages (inbox_on w r) x)
    by None = none (same_node id x)
    by (Some j) = ap (λ (o : Option Inbox). inbox_messages o x)
        (slice_get-map (λ (b : Inbox). without_messages_of b id) w.inboxes j) ∙ in_box (slice_get w.inboxes j)

shut_link : (b : Inbox) (x : NodeId) (r : Option Link) → link_of (inbox_shut b) x ≡ r → link_messages r ≡ []
shut_link b x None is = refl
shut_link b x (Some l) is = shut_empty b x l is

pub shut_links : (w : World) (k : ℕ) (p : Part) (b : Inbox) → NodesApart w.parts → slice_get w.parts k ≡ Some p →
    slice_get w.inboxes k ≡ Some b → (x y : NodeId)
    → world_links (with_inbox w k (inbox_shut b)) x y ≡ (if same_node p.node.me y then [] else world_links w x y)
shut_links w k p b apart is inbox x y = links_set w k p b (inbox_shut b) apart is inbox x y
    ∙ ap (λ (ms : List Message). if same_node p.node.me y then ms else world_links w x y)
    (shut_link b x (link_of (inbox_shut b) x) refl)

or_false : (c : Bool) → (c || false) ≡ c
or_false true = refl
or_false false = refl

or_links : (c d : Bool) (ms : List Message) → (if d then [] else if c then [] else ms) ≡ (if c || d then [] else ms)
or_links true true ms = refl
or_links true false ms = refl
or_links false true ms = refl
or_links false false ms = refl

-- the links once a node that stands here is lost
pub unlinked_links : (w : World) (k : ℕ) (p : Part) (o : Option Inbox) → NodesApart w.parts → slice_get w.parts k ≡ Some p →
    slice_get w.inboxes k ≡ o → (x y : NodeId)
    → world_links (let other = record w { inboxes = inboxes_emptied p.node.me w.inboxes } in
    with_inbox_shut other (Some k) (inbox_on other (Some k))) x y ≡ links_without p.node.me (world_links w) x y
unlinked_links w k p o apart is inbox x y = by (inbox_on other (Some k)) refl
  where
    id : NodeId
    id = p.node.me

    other : World
    other = record w { inboxes = inboxes_emptied p.node.me w.inboxes }

    by : (r : Option Inbox) → inbox_on other (Some k) ≡ r → world_links (with_inbox_shut other (Some k) r) x y
        ≡ links_without p.node.me (world_links w) x y
    by None none = last (same_node p.node.me y) refl
      where
        last : (c : Bool) → same_node p.node.me y ≡ c →
            world_links other x y ≡ (if same_node p.node.me x || c then [] else world_links w x y)
        last true same = ap (λ r. inbox_messages (inbox_on other r) x) (place_is w k p y apart is same)
            ∙ ap (λ (r : Option Inbox). inbox_messages r x) none
            ∙ sym (ap (λ (c : Bool). if c then [] else world_links w x y) (or_true (same_node p.node.me x)))
        last false apart = emptied_links w p.node.me x y
            ∙ sym (ap (λ (c : Bool). if c then [] else world_links w x y) (or_false (same_node p.node.me x)))
    by (Some b) some = shut_links other k p b apart is some x y
        ∙ ap (λ (ms : List Message). if same_node p.node.me y then [] else ms) (emptied_links w p.node.me x y)
        ∙ or_links (same_node p.node.me x) (same_node p.node.me y) (world_links w x y)
