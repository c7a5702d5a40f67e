-- What each event does to the scene of a world, as an equation.
use Rattle.std.proofs.Common.{◌≡◌, ◌++◌, List, [], ◌∷◌, Option, Some, None, Bool, true, false, if◌then◌else◌, ℕ, refl, ap, sym, subst, ◌∙◌}
use Rattle.std.specs.Option.{option_map}
use Rattle.std.specs.Prelude.{slice_get, slice_set}
use Rattle.act_rows.specs.Acts.{act_result}
use Rattle.act_rows.specs.Exchange.{without_single}
use Rattle.part_model.specs.Directory.{at_moment, with_event, with_step_done}
use Rattle.part_model.specs.Links.{Inbox}
use Rattle.ignite_types.proofs.NameLaws.{same_node_itself, same_node_true}
use Rattle.ignite_types.specs.Names.{same_node}
use Rattle.ignite_types.specs.declared.names.NodeId.{NodeId}
use Rattle.ignite_types.specs.declared.scenario.Scenario.{Scenario}
use Rattle.journal_statements.specs.Noted.{Noted, noted_by}
use Rattle.link_laws.specs.Carrying.{NodesApart}
use Rattle.node_state.specs.declared.life.Life.{Life}
use Rattle.node_state.specs.Node.{NodeState}
use Rattle.scenes.specs.Scenes.{scene_in_act, state_at_moment, state_at_rest, absent_state, inbox_messages, world_links, scene_after_loss, either_state, state_after_loss, part_or_absent, lives_with, states_with, scene_of, is_survivor, scene_after_tick, links_without}
use Rattle.scenes.proofs.Links.{unlinked_links}
use Rattle.scenes.proofs.Parts.{mapped_part, mapped_place, part_is, part_me, set_part, set_place}
use Rattle.tx_model.specs.World.{Part, World, inbox_on, inboxes_emptied, is_alive, outcome_of_act, part_after_loss, part_at, part_at_moment, parts_after_loss, parts_at_moment, place_of, with_inbox_shut, world_after_loss}
use Rattle.ignite_types.specs.declared.journal.Rec.TheVariants as note
use Rattle.ignite_types.specs.declared.journal.TopoEvent.TheVariants as topo
use Rattle.node_state.specs.declared.life.Life.TheVariants as life

-- One part changed.

mixed_life : (s : Scenario) (n : NodeId) (q : Part) (r : Option Part) (c : Bool) →
    (part_or_absent s n (if c then Some q else r)).life ≡ (if c then q.life else (part_or_absent s n r).life)
mixed_life s n q r true = refl
mixed_life s n q r false = refl

mixed_state : (s : Scenario) (n : NodeId) (q : Part) (r : Option Part) (c : Bool) →
    state_at_rest (part_or_absent s n (if c then Some q else r)).node ≡ either_state c (state_at_rest q.node)
    (state_at_rest (part_or_absent s n r).node)
mixed_state s n q r true = refl
mixed_state s n q r false = refl

module _ (s : Scenario) (recs : List Noted) (w : World) (k : ℕ) (p q : Part) (apart : NodesApart w.parts)
    (is : slice_get w.parts k ≡ Some p) (me : q.node.me ≡ p.node.me) where
  abbrev w2 : World
  w2 = record w { parts = slice_set w.parts k q }

  pub scene_set : scene_of s recs (record w { parts = slice_set w.parts k q }) ≡ record (scene_of s recs w) {
    life =
        lives_with p.node.me q.life (scene_of s recs w).life;
    state =
        states_with p.node.me (state_at_rest q.node) (scene_of s recs w).state;
  }
  scene_set = λ i. record {
    scenario = s;
    directory = w.directory;
    life = λ n. (ap (λ (o : Option Part). (part_or_absent s n o).life) (set_part w k p q apart is me n)
        ∙ mixed_life s n q (part_at w n) (same_node p.node.me n)) i;
    state = λ n. (ap (λ (o : Option Part). state_at_rest (part_or_absent s n o).node) (set_part w k p q apart is me n)
        ∙ mixed_state s n q (part_at w n) (same_node p.node.me n)) i;
    link = λ x y. ap (λ r. inbox_messages (inbox_on w r) x) (set_place w k p q apart is me y) i;
    recs = recs;
  }

-- A node that stands here.
module _ (s : Scenario) (recs : List Noted) (w : World) (k : ℕ) (p : Part) (apart : NodesApart w.parts)
    (is : slice_get w.parts k ≡ Some p) where
  pub life_here : (n : NodeId) → same_node p.node.me n ≡ true → (scene_of s recs w).life n ≡ p.life
  life_here n same = ap (λ (o : Option Part). (part_or_absent s n o).life) (part_is w k p n apart is same)

  pub state_here : (n : NodeId) → same_node p.node.me n ≡ true → (scene_of s recs w).state n ≡ state_at_rest p.node
  state_here n same = ap (λ (o : Option Part). state_at_rest (part_or_absent s n o).node) (part_is w k p n apart is same)

  life_as : (n : NodeId) (c : Bool) → same_node p.node.me n ≡ c → (if c then p.life else (scene_of s recs w).life n)
      ≡ (scene_of s recs w).life n
  life_as n true same = sym (life_here n same)
  life_as n false other = refl

  pub life_same : lives_with p.node.me p.life (scene_of s recs w).life ≡ (scene_of s recs w).life
  life_same = λ i. λ n. life_as n (same_node p.node.me n) refl i

  -- the act of a node, whatever was noted before
  pub acted_scene : (st : NodeState) → st.me ≡ p.node.me → scene_of s (recs ++ noted_by (Some p.node.me) st.noted)
      (outcome_of_act w k p (act_result st)).world ≡ scene_in_act (scene_of s recs w) p.node.me st
  acted_scene st me =
      let q : Part = record { node = record st { noted = [] }; life = p.life } in
      let more = recs ++ noted_by (Some p.node.me) st.noted in
      scene_set s more w k p q apart is me
      ∙ ap (λ (f : NodeId → Life). record (scene_of s more w) {
        life = f;
        state =
            states_with p.node.me (state_at_rest st) (scene_of s more w).state;
      }) life_same

  state_as : (n : NodeId) (c : Bool) → same_node p.node.me n ≡ c →
      either_state c (state_at_rest p.node) ((scene_of s recs w).state n) ≡ (scene_of s recs w).state n
  state_as n true same = sym (state_here n same)
  state_as n false other = refl

  -- a state with nothing that a scene sees changed
  pub state_same : states_with p.node.me (state_at_rest p.node) (scene_of s recs w).state ≡ (scene_of s recs w).state
  state_same = λ i. λ n. state_as n (same_node p.node.me n) refl i

-- The clock.

pub moment_me : (to : ℕ) (p : Part) → (part_at_moment to p).node.me ≡ p.node.me
moment_me to p = by (is_alive p.life)
  where
    by : (c : Bool) → (if c then record { node = record p.node { now = to }; life = p.life } else p).node.me ≡ p.node.me
    by true = refl
    by false = refl

pub tick_scene : (s : Scenario) (recs : List Noted) (w : World) (to : ℕ)
    → scene_of s (recs ++ record { node = None; rec = note.Tick to } ∷ []) (record w {
      directory = at_moment w.directory to;
      parts = parts_at_moment to w.parts;
    }) ≡ scene_after_tick (scene_of s recs w) to
tick_scene s recs w to = λ i. record {
  scenario = s;
  directory = at_moment w.directory to;
  life = λ n. (ap (λ (o : Option Part). (part_or_absent s n o).life) (mapped_part w (part_at_moment to) (moment_me to) n)
      ∙ lives n (part_at w n)) i;
  state = λ n. (ap (λ (o : Option Part). state_at_rest (part_or_absent s n o).node)
      (mapped_part w (part_at_moment to) (moment_me to) n) ∙ states n (part_at w n)) i;
  link = λ x y. ap (λ r. inbox_messages (inbox_on w r) x) (mapped_place w (part_at_moment to) (moment_me to) y) i;
  recs = recs ++ record { node = None; rec = note.Tick to } ∷ [];
}
  where
    life_by : (p : Part) (c : Bool) → (if c then record { node = record p.node { now = to }; life = p.life } else p).life
        ≡ p.life
    life_by p true = refl
    life_by p false = refl

    state_by : (p : Part) (c : Bool) →
        state_at_rest (if c then record { node = record p.node { now = to }; life = p.life } else p).node
        ≡ state_at_moment to c (state_at_rest p.node)
    state_by p true = refl
    state_by p false = refl

    lives : (n : NodeId) (o : Option Part) → (part_or_absent s n (option_map (part_at_moment to) o)).life
        ≡ (part_or_absent s n o).life
    lives n None = refl
    lives n (Some p) = life_by p (is_alive p.life)

    states : (n : NodeId) (o : Option Part) → state_at_rest (part_or_absent s n (option_map (part_at_moment to) o)).node
        ≡ state_at_moment to (is_alive (part_or_absent s n o).life) (state_at_rest (part_or_absent s n o).node)
    states n None = refl
    states n (Some p) = state_by p (is_alive p.life)

-- A loss.

pub loss_me : (id : NodeId) (p : Part) → (part_after_loss id p).node.me ≡ p.node.me
loss_me id p = by (same_node p.node.me id) (is_alive p.life)
  where
    by : (c d : Bool) → (if c then record { node = p.node; life = life.Gone } else if d then record {
      node =
          without_single p.node id;
      life = p.life;
    } else p).node.me ≡ p.node.me
    by true d = refl
    by false true = refl
    by false false = refl

module _ (s : Scenario) (recs : List Noted) (w : World) (k : ℕ) (p : Part) (apart : NodesApart w.parts)
    (is : slice_get w.parts k ≡ Some p) where
  abbrev id : NodeId
  id = p.node.me

  life_by : (x : Part) (n : NodeId) (c d : Bool) → same_node x.node.me n ≡ true → same_node x.node.me id ≡ c →
      same_node id n ≡ c → (if c then record { node = x.node; life = life.Gone } else if d then record {
        node =
            without_single x.node id;
        life = x.life;
      } else x).life ≡ (if c then life.Gone else x.life)
  life_by x n true d here same turned = refl
  life_by x n false true here same turned = refl
  life_by x n false false here same turned = refl

  state_by : (x : Part) (n : NodeId) (c : Bool) (d : Bool) →
      state_at_rest (if c then record { node = x.node; life = life.Gone } else if d then record {
        node =
            without_single x.node id;
        life = x.life;
      } else x).node ≡ state_after_loss id (if c then false else d)
      (state_at_rest x.node)
  state_by x n true d = refl
  state_by x n false true = refl
  state_by x n false false = refl

  -- equality of numbers from either side
  either : (a b : NodeId) (c : Bool) → same_node a b ≡ c → same_node b a ≡ c
  either a b true same = subst (λ (n : NodeId). same_node n a ≡ true) (same_node_true a b same) (same_node_itself a)
  either a b false other = by (same_node b a) refl
    where
      by : (c : Bool) → same_node b a ≡ c → c ≡ false
      by true same = let back = subst (λ (n : NodeId). same_node a n ≡ true) (sym (same_node_true b a same))
          (same_node_itself a) in absurd (cc (back, other))
      by false same = refl

  turned : (a b : NodeId) → same_node a b ≡ same_node b a
  turned a b = either b a (same_node b a) refl

  lives : (n : NodeId) (o : Option Part) → part_at w n ≡ o → (part_or_absent s n (option_map (part_after_loss id) o)).life
      ≡ (if same_node id n then life.Gone else (part_or_absent s n o).life)
  lives n None none = by (same_node id n) refl
    where
      by : (c : Bool) → same_node id n ≡ c → life.Absent ≡ (if c then life.Gone else life.Absent)
      by true same = let there = part_is w k p n apart is same in absurd (cc (there, none))
      by false other = refl
  lives n (Some x) some =
      let number : x.node.me ≡ n = part_me w n x some in
      subst (λ (m : NodeId). (part_after_loss id x).life ≡ (if same_node id m then life.Gone else x.life)) number
      (life_of x (same_node x.node.me id) refl (is_alive x.life))
    where
      life_of : (x : Part) (c : Bool) → same_node x.node.me id ≡ c → (d : Bool) →
          (if same_node x.node.me id then record { node = x.node; life = life.Gone } else if d then record {
            node =
                without_single x.node id;
            life = x.life;
          } else x).life ≡ (if same_node id x.node.me then life.Gone else x.life)
      life_of x c e d = rw (turned id x.node.me) (by (same_node x.node.me id) d)
        where
          by : (c d : Bool) → (if c then record { node = x.node; life = life.Gone } else if d then record {
            node =
                without_single x.node id;
            life = x.life;
          } else x).life ≡ (if c then life.Gone else x.life)
          by true d = refl
          by false true = refl
          by false false = refl

  states : (n : NodeId) (o : Option Part) → part_at w n ≡ o →
      state_at_rest (part_or_absent s n (option_map (part_after_loss id) o)).node ≡ state_after_loss id
      (is_survivor id n (part_or_absent s n o).life) (state_at_rest (part_or_absent s n o).node)
  states n None none = by (same_node id n)
    where
      by : (c : Bool) → absent_state s n ≡ state_after_loss id (if c then false else false) (absent_state s n)
      by true = refl
      by false = refl
  states n (Some x) some =
      let number : x.node.me ≡ n = part_me w n x some in
      subst (λ (m : NodeId). state_at_rest (part_after_loss id x).node ≡ state_after_loss id (is_survivor id m x.life)
      (state_at_rest x.node)) number
      (rw (turned id x.node.me) (state_by x n (same_node x.node.me id) (is_alive x.life)))

  pub loss_scene : scene_of s
      (recs ++ (record { node = None; rec = note.Planned w.directory.done None } ∷ record { node = None; rec = note.Lost id }
      ∷ [])) (record (world_after_loss w id (Some k)) { directory = with_step_done (with_event w.directory (topo.Left id)) })
      ≡ scene_after_loss (scene_of s recs w) id
  loss_scene = by (inbox_on (record w { inboxes = inboxes_emptied id w.inboxes }) (Some k)) refl
    where
      other : World
      other = record w { inboxes = inboxes_emptied id w.inboxes }

      more : List Noted
      more = recs ++ (record { node = None; rec = note.Planned w.directory.done None } ∷ record {
        node = None;
        rec =
            note.Lost id;
      } ∷ [])

      after : World → World
      after u = record w {
        directory = with_step_done (with_event w.directory (topo.Left id));
        parts =
            parts_after_loss id w.parts;
        inboxes = u.inboxes;
      }

      with_links : (u : World) →
          ((x y : NodeId) → inbox_messages (inbox_on u (place_of w y)) x ≡ links_without id (world_links w) x y) →
          scene_of s more (after u) ≡ scene_after_loss (scene_of s recs w) id
      with_links u links = λ i. record {
        scenario = s;
        directory = with_step_done (with_event w.directory (topo.Left id));
        life = λ n. (ap (λ (o : Option Part). (part_or_absent s n o).life) (mapped_part w (part_after_loss id) (loss_me id) n)
            ∙ lives n (part_at w n) refl) i;
        state = λ n. (ap (λ (o : Option Part). state_at_rest (part_or_absent s n o).node)
            (mapped_part w (part_after_loss id) (loss_me id) n) ∙ states n (part_at w n) refl) i;
        link = λ x y. (ap (λ r. inbox_messages (inbox_on u r) x) (mapped_place w (part_after_loss id) (loss_me id) y)
            ∙ links x y) i;
        recs = more;
      }

      links : (x y : NodeId) → world_links (with_inbox_shut other (Some k) (inbox_on other (Some k))) x y ≡ links_without id
          (world_links w) x y
      links x y = unlinked_links w k p (slice_get w.inboxes k) apart is refl x y

      lost_by : Option Inbox → World
      lost_by o = let u = with_inbox_shut other (Some k) o in
          record u { directory = with_step_done (with_event w.directory (topo.Left id)); parts = parts_after_loss id u.parts }

      by : (o : Option Inbox) → inbox_on other (Some k) ≡ o →
          scene_of s more (lost_by o) ≡ scene_after_loss (scene_of s recs w) id
      by None none = with_links (with_inbox_shut other (Some k) None)
          (subst (λ (o : Option Inbox). (x y : NodeId) → world_links (with_inbox_shut other (Some k) o) x y ≡ links_without id
          (world_links w) x y) none links)
      by (Some b) some = with_links (with_inbox_shut other (Some k) (Some b))
          (subst (λ (o : Option Inbox). (x y : NodeId) → world_links (with_inbox_shut other (Some k) o) x y ≡ links_without id
          (world_links w) x y) some links)
