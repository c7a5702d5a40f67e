-- What the world carries stays where little changes.
use Rattle.std.proofs.Common.{◌≡◌, ◌++◌, ◌&&◌, List, [], ◌∷◌, Option, Some, None, Bool, true, false, if◌then◌else◌, not, ℕ, refl, ap, sym, subst, ◌∙◌}
use Rattle.std.specs.List.{list_all}
use Rattle.std.specs.Option.{option_and_then}
use Rattle.std.specs.Prelude.{slice_get, slice_set}
use Rattle.frame_laws.proofs.Extending.{append_none}
use Rattle.part_model.specs.Directory.{Directory}
use Rattle.part_model.specs.Links.{Inbox, Link}
use Rattle.part_model.specs.NextMap.{is_member}
use Rattle.ignite_types.proofs.NameLaws.{same_node_true}
use Rattle.ignite_types.specs.Names.{same_node}
use Rattle.ignite_types.specs.declared.message.Message.{Message}
use Rattle.ignite_types.specs.declared.names.NodeId.{NodeId}
use Rattle.ignite_types.specs.declared.scenario.Member.{Member}
use Rattle.ignite_types.specs.declared.scenario.PlanStep.{PlanStep}
use Rattle.ignite_types.specs.declared.scenario.Scenario.{Scenario}
use Rattle.journal_statements.specs.LinkRecords.{is_link_held, sent_on, taken_on}
use Rattle.journal_statements.specs.Noted.{Noted, is_lost}
use Rattle.link_laws.specs.Carrying.{InboxCarries, LinkCarries, LinkInvariant, LinkStepInvariant, NodesApart, SayTheSame, StillNew, Stood, is_gone, is_new, joiners}
use Rattle.link_laws.proofs.Places.{first_at, first_passes, set_elim, some_is}
use Rattle.node_state.specs.declared.life.Life.{Life}
use Rattle.tx_model.specs.World.{Part, World, if_alive, is_alive, live_place, part_on, place_of}
use Rattle.node_state.specs.declared.life.Life.TheVariants as life

-- Links and inboxes.

pub link_same : (plan : List PlanStep) (a b : List Noted) (from to : NodeId) (l : Link) →
    sent_on from to b ≡ sent_on from to a → taken_on from to b ≡ taken_on from to a
    → is_lost b from ≡ is_lost a from → is_lost b to ≡ is_lost a to →
    is_link_held plan from to b ≡ is_link_held plan from to a → LinkCarries plan a from to l → LinkCarries plan b from to l
link_same plan a b from to l sent taken lost_from lost_to held c = record {
  held_is = c.held_is ∙ sym held;
  sender_lost = λ e. c.sender_lost (sym lost_from ∙ e);
  addressee_lost = λ e. c.addressee_lost (sym lost_to ∙ e);
  in_order = λ e f. sent ∙ c.in_order (sym lost_from ∙ e) (sym lost_to ∙ f) ∙ ap (λ (ms : List Message). ms ++ l.messages)
      (sym taken);
}

pub inbox_same : (plan : List PlanStep) (a b : List Noted) (to : NodeId) (inbox : Inbox) →
    ((from : NodeId) → sent_on from to b ≡ sent_on from to a) → ((from : NodeId) → taken_on from to b ≡ taken_on from to a)
    → ((node : NodeId) → is_lost b node ≡ is_lost a node) →
    ((from : NodeId) → is_link_held plan from to b ≡ is_link_held plan from to a) → InboxCarries plan a to inbox →
    InboxCarries plan b to inbox
inbox_same plan a b to inbox sent taken lost held c = record {
  closed_is = c.closed_is ∙ sym (lost to);
  links_are = λ from l is. link_same plan a b from to l (sent from) (taken from) (lost from) (lost to) (held from)
      (c.links_are from l is);
}

pub all_change : {X : Type 0} (p q : X → Bool) (xs : List X) → ((x : X) → p x ≡ true → q x ≡ true) → list_all p xs ≡ true →
    list_all q xs ≡ true
all_change p q [] each all = refl
all_change p q (x ∷ xs) each all =
    (elim (p x) as (λ b. p x ≡ b → (b && list_all p xs) ≡ true → (q x && list_all q xs) ≡ true) [
      | true ↦ λ t rest. rw (each x t) (all_change p q xs each rest)
      | false ↦ λ f none. absurd (cc)
    ]) refl all

pub new_same : (a b : List Noted) (members : List Member) (steps : List PlanStep) →
    ((node : NodeId) → is_lost b node ≡ is_lost a node) → StillNew a members steps → StillNew b members steps
new_same a b members steps lost c = record {
  are_apart = c.are_apart;
  are_new = all_change (is_new a members) (is_new b members) (joiners steps)
      (λ m new. subst (λ (r : Bool). (not r && not (is_member members m.node)) ≡ true) (sym (lost m.node)) new) c.are_new;
}

-- Records that say the same.
pub same_keeps : (s : Scenario) (a b : List Noted) (w : World) → SayTheSame s.plan a b → LinkInvariant s a w →
    LinkInvariant s b w
same_keeps s a b w same c = record {
  plan_is = c.plan_is;
  session_nodes_are = c.session_nodes_are;
  apart = c.apart;
  lives = λ k p is. c.lives k p is ∙ sym (same.same_lost p.node.me);
  inboxes_are = λ k p inbox is has. inbox_same s.plan a b p.node.me inbox (λ from. same.same_sent from p.node.me)
      (λ from. same.same_taken from p.node.me) same.same_lost (λ from. same.same_held from p.node.me)
      (c.inboxes_are k p inbox is has);
  waiting = new_same a b w.directory.members _ same.same_lost c.waiting;
}

-- Parts that keep their numbers.

apart_stood : (parts after : List Part) → ((k : ℕ) (p : Part) → slice_get after k ≡ Some p → Stood parts k p) →
    NodesApart parts → NodesApart after
apart_stood parts after stood apart j k p q at_j at_k same =
    let a = stood j p at_j in
    let b = stood k q at_k in
    apart j k a.part b.part a.stands b.stands
    (subst (λ (x : NodeId). same_node x b.part.node.me ≡ true) (sym a.same_me)
    (subst (λ (x : NodeId). same_node p.node.me x ≡ true) (sym b.same_me) same))

pub parts_keep : (s : Scenario) (recs : List Noted) (w : World) (after : List Part) →
    ((k : ℕ) (p : Part) → slice_get after k ≡ Some p → Stood w.parts k p) → LinkInvariant s recs w →
    LinkInvariant s recs (record w { parts = after })
parts_keep s recs w after stood c = record {
  plan_is = c.plan_is;
  session_nodes_are = c.session_nodes_are;
  apart = apart_stood w.parts after stood c.apart;
  lives = λ k p is. let a = stood k p is in sym a.same_life ∙ c.lives k a.part a.stands
      ∙ ap (λ (x : NodeId). is_lost recs x) a.same_me;
  inboxes_are = λ k p inbox is has. let a = stood k p is in subst (λ (x : NodeId). InboxCarries s.plan recs x inbox) a.same_me
      (c.inboxes_are k a.part inbox a.stands has);
  waiting = c.waiting;
}

pub set_stood : (parts : List Part) (k : ℕ) (p q : Part) → slice_get parts k ≡ Some p → p.node.me ≡ q.node.me →
    is_gone p.life ≡ is_gone q.life → (j : ℕ) (x : Part) → slice_get (slice_set parts k q) j ≡ Some x → Stood parts j x
set_stood parts k p q is me life j x has =
    set_elim parts k q (λ (i : ℕ) (y : Part). Stood parts i y)
    (record { part = p; stands = is; same_me = me; same_life = life })
    (λ i y other at. record { part = y; stands = at; same_me = refl; same_life = refl })
    j x has

pub directory_keeps : (s : Scenario) (recs : List Noted) (w : World) (d : Directory) → d.plan ≡ w.directory.plan →
    d.members ≡ w.directory.members → d.done ≡ w.directory.done → LinkInvariant s recs w →
    LinkInvariant s recs (record w { directory = d })
directory_keeps s recs w d plan members done c = record {
  plan_is = plan ∙ c.plan_is;
  session_nodes_are = c.session_nodes_are;
  apart = c.apart;
  lives = c.lives;
  inboxes_are = c.inboxes_are;
  waiting = rw (members, done) c.waiting;
}

pub broken_keeps : (s : Scenario) (recs : List Noted) (w : World) → LinkInvariant s recs w →
    LinkInvariant s recs (record w { broken = true })
broken_keeps s recs w c = record {
  plan_is = c.plan_is;
  session_nodes_are = c.session_nodes_are;
  apart = c.apart;
  lives = c.lives;
  inboxes_are = c.inboxes_are;
  waiting = c.waiting;
}

pub idle_keeps : (s : Scenario) (recs : List Noted) (w : World) → LinkInvariant s recs w → LinkStepInvariant s recs [] w
idle_keeps s recs w c = record {
  passes = refl;
  carried = subst (λ (r : List Noted). LinkInvariant s r w)
      (sym (append_none recs)) c;
}

-- Where a node stands.

pub place_is : (w : World) (k : ℕ) (p : Part) (id : NodeId) → NodesApart w.parts → slice_get w.parts k ≡ Some p →
    same_node p.node.me id ≡ true → place_of w id ≡ Some k
place_is w k p id apart is same =
    let first = first_at (λ (x : Part). same_node x.node.me id) w.parts k p is same in
    let both : first.element.node.me ≡ p.node.me = same_node_true first.element.node.me id first.passes
    ∙ sym (same_node_true p.node.me id same) in
    let place = apart first.place k first.element p first.stands is
    (subst (λ (x : NodeId). same_node first.element.node.me x ≡ true) (sym (same_node_true p.node.me id same))
    first.passes) in
    first.first_is ∙ ap (λ (i : ℕ). Some i) place

pub stands_there : (w : World) (k : ℕ) (p : Part) (id : NodeId) → place_of w id ≡ Some k → slice_get w.parts k ≡ Some p →
    same_node p.node.me id ≡ true
stands_there w k p id place is = first_passes (λ (x : Part). same_node x.node.me id) w.parts k p place is

part_alive : (q p : Part) (j k : ℕ) (parts : List Part) → slice_get parts j ≡ Some q → slice_get parts k ≡ Some p →
    (b : Bool) → is_alive q.life ≡ b → (if b then Some j else None) ≡ Some k → (Some j ≡ Some k) × (is_alive p.life ≡ true)
part_alive q p j k parts at_j at_k true alive same =
    let place = some_is j k same in
    let here = subst (λ (i : ℕ). slice_get parts i ≡ Some q) place at_j in
    let part = some_is q p (sym here ∙ at_k) in
    (same, subst (λ (x : Part). is_alive x.life ≡ true) part alive)
part_alive q p j k parts at_j at_k false alive same = absurd (cc)

alive_in : (parts : List Part) (place : Option ℕ) (k : ℕ) (p : Part) →
    if_alive place (option_and_then (slice_get parts) place) ≡ Some k → slice_get parts k ≡ Some p → (place ≡ Some k)
    × (is_alive p.life ≡ true)
alive_in parts None k p alive is = absurd (cc)
alive_in parts (Some j) k p alive is =
    (elim (slice_get parts j) as (λ r. slice_get parts j ≡ r → if_alive (Some j) r ≡ Some k → (Some j ≡ Some k)
    × (is_alive p.life ≡ true)) [
      | None ↦ λ none has. absurd (cc)
      | Some q ↦ λ some has. part_alive q p j k parts some is (is_alive q.life) refl has
    ]) refl alive

pub live_is : (w : World) (id : NodeId) (k : ℕ) (p : Part) → live_place w id ≡ Some k → slice_get w.parts k ≡ Some p →
    (same_node p.node.me id ≡ true) × (is_alive p.life ≡ true)
live_is w id k p place is =
    let both = alive_in w.parts (place_of w id) k p place is in
    (stands_there w k p id both.0 is, both.1)

-- a statement of the place and the part of a node that is alive
pub at_live : (w : World) (id : NodeId) (F : Option ℕ → Option Part → Type 0) → F None None → ((k : ℕ) → F (Some k) None)
    → ((k : ℕ) (p : Part) → live_place w id ≡ Some k → slice_get w.parts k ≡ Some p → same_node p.node.me id ≡ true →
    is_alive p.life ≡ true → F (Some k) (Some p))
    → F (live_place w id) (part_on w (live_place w id))
at_live w id F nowhere nobody there =
    elim (live_place w id) as (λ r. live_place w id ≡ r → F r (option_and_then (slice_get w.parts) r)) [
      | None ↦ λ g. nowhere
      | Some k ↦ λ g.
          elim (slice_get w.parts k) as (λ q. slice_get w.parts k ≡ q → F (Some k) q) [
            | None ↦ λ none. nobody k
            | Some p ↦ λ some. let both = live_is w id k p g some in there k p g some both.0 both.1
          ] refl
    ] refl

alive_not_gone : (l : Life) → is_alive l ≡ true → is_gone l ≡ false
alive_not_gone life.Alive alive = refl
alive_not_gone _ alive = absurd (cc)

-- a node that is alive is not lost
pub not_lost : (s : Scenario) (recs : List Noted) (w : World) (k : ℕ) (p : Part) (id : NodeId) → LinkInvariant s recs w →
    slice_get w.parts k ≡ Some p → same_node p.node.me id ≡ true → is_alive p.life ≡ true → is_lost recs id ≡ false
not_lost s recs w k p id c is same alive =
    ap (λ (x : NodeId). is_lost recs x) (sym (same_node_true p.node.me id same)) ∙ sym (c.lives k p is)
    ∙ alive_not_gone p.life alive
