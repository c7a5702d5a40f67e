-- Worlds whose nodes stand in the order of their numbers, each with its inbox; and what a change of one part is in its parts.
use Rattle.std.proofs.Common.{◌≡◌, ◌≢◌, ◌≤◌, ◌<◌, ◌*◌, ◌==◌, List, [], ◌∷◌, Option, Some, None, Bool, true, false, if◌then◌else◌, map, length, ℕ, zero, suc, refl, ap, sym, subst, ◌∙◌, arith}
use Rattle.std.specs.Option.{option_and_then, option_map}
use Rattle.std.specs.Prelude.{slice_get, slice_set}
use Rattle.std.proofs.lemmas.Bool.Decides.{nat_tests}
use Rattle.std.proofs.lemmas.Option.{slice_get-map, slice_get_within}
use Rattle.part_model.specs.Directory.{Directory}
use Rattle.part_model.specs.Links.{Inbox}
use Rattle.ignite_types.proofs.NameLaws.{same_node_itself, same_node_true}
use Rattle.ignite_types.specs.Good.{are_distinct, members}
use Rattle.ignite_types.specs.Good as good
use Rattle.ignite_types.specs.Names.{same_node}
use Rattle.ignite_types.specs.declared.names.NodeId.{NodeId}
use Rattle.ignite_types.specs.declared.scenario.Scenario.{Scenario}
use Rattle.link_laws.specs.Carrying.{NodesApart}
use Rattle.link_laws.proofs.Frames.{place_is}
use Rattle.link_laws.proofs.Places.{after_map, some_is}
use Rattle.part_table.specs.History.{held_at, held_pairs, replay_or}
use Rattle.scenes.specs.Scenes.{part_or_absent}
use Rattle.scenes.proofs.Parts.{get_other, get_set, numbers, part_there, same_numbers, set_part, set_place, there_at}
use Rattle.tx_model.specs.Opening.{ids_of, session_nodes_from}
use Rattle.tx_model.specs.World.{Part, World, part_at, place_of, with_directory, with_inbox}
use Rattle.world_parts.specs.Parts.{PartValue, declared_ids, declared_place, inbox_in, inbox_of_world, inbox_or_new, inbox_part, no_part, node_in, node_of_world, node_part, pair_values, part_count, parts_of, value_at, world_of}
use Rattle.world_parts.specs.Steps.{with_values}
use Rattle.world_parts.proofs.Places.{declared_once, declared_too, place_declared, ranked, ranked_once}
use Rattle.world_parts.specs.declared.parts.WorldPart.TheVariants as part

pub record IsShaped (s : Scenario) (w : World) : Type 0 where
  pub numbers_are : numbers w.parts ≡ ids_of s
  pub inboxes_are : length w.inboxes ≡ length (ids_of s)
  pub homes_are : w.session_nodes ≡ session_nodes_from 1 [] s.sessions
  pub plan_is : w.directory.plan ≡ s.plan
  pub unbroken : w.broken ≡ false

-- The values by their numbers.

twice_suc : (j : ℕ) → 2 * suc j ≡ suc (suc (2 * j))
twice_suc j = omega arith

-- a statement of all numbers: those of nodes, those of inboxes, and those beyond
each_pair : (ids : List NodeId) (F : ℕ → Type 0) → ((j : ℕ) (id : NodeId) → slice_get ids j ≡ Some id → F (2 * j)) →
    ((j : ℕ) (id : NodeId) → slice_get ids j ≡ Some id → F (suc (2 * j)))
    → ((p : ℕ) → 2 * length ids ≤ p → F p) → (p : ℕ) → F p
each_pair [] F nodes inboxes beyond p = beyond p (omega arith)
each_pair (x ∷ xs) F nodes inboxes beyond zero = nodes 0 x refl
each_pair (x ∷ xs) F nodes inboxes beyond (suc zero) = inboxes 0 x refl
each_pair (x ∷ xs) F nodes inboxes beyond (suc (suc p)) =
    each_pair xs (λ q. F (suc (suc q)))
    (λ j id is. subst F (twice_suc j) (nodes (suc j) id is))
    (λ j id is. subst F (ap suc (twice_suc j)) (inboxes (suc j) id is))
    (λ q far. beyond (suc (suc q)) (omega (arith, far)))
    p

module _ (s : Scenario) (f : NodeId → Part) (g : NodeId → Inbox) where
  node_value : (ids : List NodeId) (j : ℕ) (id : NodeId) → slice_get ids j ≡ Some id →
      pair_values s f g ids (2 * j) ≡ part.Node (f id)
  node_value [] j id is = absurd (cc (is))
  node_value (x ∷ xs) zero id is = ap (λ (n : NodeId). part.Node (f n)) (some_is x id is)
  node_value (x ∷ xs) (suc j) id is = ap (pair_values s f g (x ∷ xs)) (twice_suc j) ∙ node_value xs j id is

  inbox_value : (ids : List NodeId) (j : ℕ) (id : NodeId) → slice_get ids j ≡ Some id →
      pair_values s f g ids (suc (2 * j)) ≡ part.Inbox (g id)
  inbox_value [] j id is = absurd (cc (is))
  inbox_value (x ∷ xs) zero id is = ap (λ (n : NodeId). part.Inbox (g n)) (some_is x id is)
  inbox_value (x ∷ xs) (suc j) id is = ap (λ n. pair_values s f g (x ∷ xs) (suc n)) (twice_suc j) ∙ inbox_value xs j id is

  no_value : (ids : List NodeId) (p : ℕ) → 2 * length ids ≤ p → pair_values s f g ids p ≡ no_part s
  no_value [] p far = refl
  no_value (x ∷ xs) zero far = absurd (omega (arith, far))
  no_value (x ∷ xs) (suc zero) far = absurd (omega (arith, far))
  no_value (x ∷ xs) (suc (suc p)) far = no_value xs p (omega (arith, far))

-- Values put in place of others.

pub values_cons : (p : ℕ) (ps : List ℕ) (x : PartValue) (xs : List PartValue) (f : ℕ → PartValue) →
    with_values (p ∷ ps) (x ∷ xs) f ≡ with_values (p ∷ []) (x ∷ []) (with_values ps xs f)
values_cons p ps x xs f = λ i q. by q (p == q) i
  where
    by : (q : ℕ) (b : Bool) → replay_or (if b then Some x else held_at q (held_pairs ps xs)) (f q) ≡ replay_or
        (if b then Some x else None) (with_values ps xs f q)
    by q true = refl
    by q false = refl

-- one value
abbrev one_value : ℕ → PartValue → (ℕ → PartValue) → ℕ → PartValue
one_value p x f = with_values (p ∷ []) (x ∷ []) f

on : (p q : ℕ) (x : PartValue) (f : ℕ → PartValue) → (p == q) ≡ true → one_value p x f q ≡ x
on p q x f here = ap (λ (b : Bool). replay_or (if b then Some x else None) (f q)) here

off : (p q : ℕ) (x : PartValue) (f : ℕ → PartValue) → (p == q) ≡ false → one_value p x f q ≡ f q
off p q x f other = ap (λ (b : Bool). replay_or (if b then Some x else None) (f q)) other

-- Lists that have the same at each place.

pub lists_same : {A : Type 0} (xs ys : List A) → length xs ≡ length ys →
    ((k : ℕ) (x y : A) → slice_get xs k ≡ Some x → slice_get ys k ≡ Some y → x ≡ y) → xs ≡ ys
lists_same [] [] long each = refl
lists_same [] (y ∷ ys) long each = absurd (omega (arith, long))
lists_same (x ∷ xs) [] long each = absurd (omega (arith, long))
lists_same (x ∷ xs) (y ∷ ys) long each =
    let first = each 0 x y refl refl in
    let rest = lists_same xs ys (omega (arith, long)) (λ k a b at_a at_b. each (suc k) a b at_a at_b) in
    λ i. first i ∷ rest i

pub set_length : {A : Type 0} (xs : List A) (k : ℕ) (x : A) → length (slice_set xs k x) ≡ length xs
set_length [] k x = refl
set_length (y ∷ ys) zero x = refl
set_length (y ∷ ys) (suc k) x = ap suc (set_length ys k x)

pub map_length : {A B : Type 0} (f : A → B) (xs : List A) → length (map f xs) ≡ length xs
map_length f [] = refl
map_length f (x ∷ xs) = ap suc (map_length f xs)

module _ (s : Scenario) where
  -- a statement of all numbers of parts, and of those beyond
  pub each_part : (F : ℕ → Type 0) → F 0 → ((k : ℕ) (id : NodeId) → slice_get (declared_ids s) k ≡ Some id →
      F (node_part k)) → ((k : ℕ) (id : NodeId) → slice_get (declared_ids s) k ≡ Some id → F (inbox_part k))
      → ((p : ℕ) → part_count s ≤ p → F p) → (p : ℕ) → F p
  each_part F first nodes inboxes beyond zero = first
  each_part F first nodes inboxes beyond (suc p) = each_pair (declared_ids s) (λ q. F (suc q)) nodes inboxes
      (λ q far. beyond (suc q) (omega (arith, far))) p

  module _ (w : World) where
    pub node_part_is : (k : ℕ) (id : NodeId) → slice_get (declared_ids s) k ≡ Some id →
        parts_of s w (node_part k) ≡ part.Node (node_of_world s w id)
    node_part_is k id is = node_value s (node_of_world s w) (inbox_of_world w) (declared_ids s) k id is

    pub inbox_part_is : (k : ℕ) (id : NodeId) → slice_get (declared_ids s) k ≡ Some id →
        parts_of s w (inbox_part k) ≡ part.Inbox (inbox_of_world w id)
    inbox_part_is k id is = inbox_value s (node_of_world s w) (inbox_of_world w) (declared_ids s) k id is

    pub beyond_is : (p : ℕ) → part_count s ≤ p → parts_of s w p ≡ no_part s
    beyond_is zero far = absurd (omega (arith, far))
    beyond_is (suc p) far = no_value s (node_of_world s w) (inbox_of_world w) (declared_ids s) p (omega (arith, far))

module _ (s : Scenario) (apart : are_distinct good.same_member_node (members s) ≡ true) where
  module _ (w : World) (shaped : IsShaped s w) where
    pub number_at : (j : ℕ) (p : Part) → slice_get w.parts j ≡ Some p → slice_get (ids_of s) j ≡ Some p.node.me
    number_at j p at = ap (λ (ids : List NodeId). slice_get ids j) (sym shaped.numbers_are)
        ∙ slice_get-map (λ (x : Part). x.node.me) w.parts j ∙ ap (option_map (λ (x : Part). x.node.me)) at

    pub nodes_apart : NodesApart w.parts
    nodes_apart j k p q at_j at_k same = ranked_once s apart j k p.node.me q.node.me (number_at j p at_j)
        (number_at k q at_k) same

    pub part_here : (r : ℕ) (id : NodeId) → slice_get (ids_of s) r ≡ Some id → (p : Part) × (slice_get w.parts r ≡ Some p)
        × (p.node.me ≡ id)
    part_here r id at = after_map (λ (x : Part). x.node.me) w.parts r id
        (ap (λ (ids : List NodeId). slice_get ids r) shaped.numbers_are ∙ at)

    pub place_here : (r : ℕ) (id : NodeId) → slice_get (ids_of s) r ≡ Some id → place_of w id ≡ Some r
    place_here r id at =
        let p = part_here r id at in
        place_is w r p.0 id nodes_apart p.1 (subst (λ (n : NodeId). same_node n id ≡ true) (sym p.2) (same_node_itself id))

    pub inbox_here : (r : ℕ) (id : NodeId) → slice_get (ids_of s) r ≡ Some id → (b : Inbox) × (slice_get w.inboxes r ≡ Some b)
    inbox_here r id at =
        let within = slice_get_within (ids_of s) r id at in
        let long = shaped.inboxes_are in
        there_at w.inboxes r (omega (arith, within, long))

    pub nowhere : (id : NodeId) → declared_place s id ≡ None → place_of w id ≡ None
    nowhere id none = by (place_of w id) refl
      where
        by : (o : Option ℕ) → place_of w id ≡ o → o ≡ None
        by None place = refl
        by (Some r) place =
            let p = part_there w id r (part_or_absent s id None) place in
            let at = number_at r p.0 p.1 ∙ ap (λ (n : NodeId). Some n) p.2 in
            let too = declared_too s apart r id at in
            let some = place_declared s apart too.0 id too.1 in
            absurd (cc (none, some))

    -- A world is the one of its parts.

    node_back : (r : ℕ) (id : NodeId) (y : Part) → slice_get (ids_of s) r ≡ Some id → slice_get w.parts r ≡ Some y →
        node_in s id (value_at s (parts_of s w) node_part (declared_place s id)) ≡ y
    node_back r id y at is =
        let too = declared_too s apart r id at in
        ap (λ (o : Option ℕ). node_in s id (value_at s (parts_of s w) node_part o)) (place_declared s apart too.0 id too.1)
        ∙ ap (node_in s id) (node_part_is s w too.0 id too.1)
        ∙ ap (λ (o : Option ℕ). part_or_absent s id (option_and_then (slice_get w.parts) o)) (place_here r id at)
        ∙ ap (part_or_absent s id) is

    inbox_back : (r : ℕ) (id : NodeId) (y : Inbox) → slice_get (ids_of s) r ≡ Some id → slice_get w.inboxes r ≡ Some y →
        inbox_in (value_at s (parts_of s w) inbox_part (declared_place s id)) ≡ y
    inbox_back r id y at is =
        let too = declared_too s apart r id at in
        ap (λ (o : Option ℕ). inbox_in (value_at s (parts_of s w) inbox_part o)) (place_declared s apart too.0 id too.1)
        ∙ ap inbox_in (inbox_part_is s w too.0 id too.1)
        ∙ ap (λ (o : Option ℕ). inbox_or_new (option_and_then (slice_get w.inboxes) o)) (place_here r id at)
        ∙ ap inbox_or_new is

    parts_back : map (λ (id : NodeId). node_in s id (value_at s (parts_of s w) node_part (declared_place s id))) (ids_of s)
        ≡ w.parts
    parts_back =
        lists_same (map (λ (id : NodeId). node_in s id (value_at s (parts_of s w) node_part (declared_place s id)))
        (ids_of s)) w.parts
        (map_length (λ (id : NodeId). node_in s id (value_at s (parts_of s w) node_part (declared_place s id))) (ids_of s)
        ∙ ap length (sym shaped.numbers_are) ∙ map_length (λ (x : Part). x.node.me) w.parts)
        (λ r x y at_x at_y.
        let a = after_map (λ (id : NodeId). node_in s id (value_at s (parts_of s w) node_part (declared_place s id)))
        (ids_of s) r x at_x in
        sym a.2 ∙ node_back r a.0 y a.1 at_y)

    inboxes_back : map (λ (id : NodeId). inbox_in (value_at s (parts_of s w) inbox_part (declared_place s id))) (ids_of s)
        ≡ w.inboxes
    inboxes_back =
        lists_same (map (λ (id : NodeId). inbox_in (value_at s (parts_of s w) inbox_part (declared_place s id))) (ids_of s))
        w.inboxes
        (map_length (λ (id : NodeId). inbox_in (value_at s (parts_of s w) inbox_part (declared_place s id))) (ids_of s)
        ∙ sym shaped.inboxes_are)
        (λ r x y at_x at_y.
        let a = after_map (λ (id : NodeId). inbox_in (value_at s (parts_of s w) inbox_part (declared_place s id)))
        (ids_of s) r x at_x in
        sym a.2 ∙ inbox_back r a.0 y a.1 at_y)

    pub round : world_of s (parts_of s w) ≡ w
    round = λ i. record {
      directory = w.directory;
      parts = parts_back i;
      inboxes = inboxes_back i;
      session_nodes = sym shaped.homes_are i;
      broken = sym shaped.unbroken i;
    }

    -- One part changed.

    pub directory_set : (d : Directory) → parts_of s (with_directory w d) ≡ with_values (0 ∷ []) (part.Directory d ∷ [])
        (parts_of s w)
    directory_set d = λ i p. by p i
      where
        by : (p : ℕ) → parts_of s (with_directory w d) p ≡ one_value 0 (part.Directory d) (parts_of s w) p
        by zero = refl
        by (suc p) = sym (off 0 (suc p) (part.Directory d) (parts_of s w) (grind (arith, nat_tests)))

    pub directory_shaped : (d : Directory) → d.plan ≡ w.directory.plan → IsShaped s (with_directory w d)
    directory_shaped d plan = record {
      numbers_are = shaped.numbers_are;
      inboxes_are = shaped.inboxes_are;
      homes_are = shaped.homes_are;
      plan_is = plan ∙ shaped.plan_is;
      unbroken = shaped.unbroken;
    }

    module _ (k r : ℕ) (id : NodeId) (declared : slice_get (declared_ids s) k ≡ Some id)
        (rank : slice_get (ids_of s) r ≡ Some id) where
      here_too : (j : ℕ) (y : NodeId) → slice_get (declared_ids s) j ≡ Some y → same_node id y ≡ true → j ≡ k
      here_too j y is same = declared_once s apart j k id (is ∙ ap (λ (n : NodeId). Some n) (sym (same_node_true id y same)))
          declared

      not_here : (j : ℕ) (y : NodeId) → slice_get (declared_ids s) j ≡ Some y → same_node id y ≡ false → j ≢ k
      not_here j y is other same_place =
          let same = some_is y id (sym is ∙ ap (slice_get (declared_ids s)) same_place ∙ declared) in
          let itself = subst (λ (n : NodeId). same_node id n ≡ true) (sym same) (same_node_itself id) in
          absurd (cc (itself, other))

      not_beyond : (p : ℕ) → part_count s ≤ p → inbox_part k < p
      not_beyond p far = let within = slice_get_within (declared_ids s) k id declared in omega (arith, far, within)

      pub node_set : (q : Part) → q.node.me ≡ id → parts_of s (record w { parts = slice_set w.parts r q }) ≡ with_values
          (node_part k ∷ []) (part.Node q ∷ []) (parts_of s w)
      node_set q me = λ i p. each_part s (λ n. parts_of s w2 n ≡ put n) first nodes inboxes beyond p i
        where
          w2 : World
          w2 = record w { parts = slice_set w.parts r q }

          put : ℕ → PartValue
          put = one_value (node_part k) (part.Node q) (parts_of s w)

          stays : (n : ℕ) → (node_part k == n) ≡ false → parts_of s w2 n ≡ parts_of s w n → parts_of s w2 n ≡ put n
          stays n other same = same ∙ sym (off (node_part k) n (part.Node q) (parts_of s w) other)

          seen : (y : NodeId) → part_at w2 y ≡ (if same_node id y then Some q else part_at w y)
          seen y =
              let p = part_here r id rank in
              set_part w r p.0 q nodes_apart p.1 (me ∙ sym p.2) y
              ∙ ap (λ (n : NodeId). if same_node n y then Some q else part_at w y) p.2

          first : parts_of s w2 0 ≡ put 0
          first = stays 0 (grind (arith, nat_tests)) refl

          nodes : (j : ℕ) (y : NodeId) → slice_get (declared_ids s) j ≡ Some y → parts_of s w2 (node_part j) ≡ put (node_part j)
          nodes j y is = by (same_node id y) refl
            where
              as_seen : (o : Option Part) → part_at w2 y ≡ o → parts_of s w2 (node_part j) ≡ part.Node (part_or_absent s y o)
              as_seen o there = node_part_is s w2 j y is ∙ ap (λ (x : Option Part). part.Node (part_or_absent s y x)) there

              by : (b : Bool) → same_node id y ≡ b → parts_of s w2 (node_part j) ≡ put (node_part j)
              by true same =
                  let here = here_too j y is same in
                  as_seen (Some q) (seen y ∙ ap (λ (b : Bool). if b then Some q else part_at w y) same)
                  ∙ sym (on (node_part k) (node_part j) (part.Node q) (parts_of s w) (grind (arith, nat_tests, here)))
              by false other =
                  let there = not_here j y is other in
                  stays (node_part j) (grind (arith, nat_tests, there))
                  (as_seen (part_at w y) (seen y ∙ ap (λ (b : Bool). if b then Some q else part_at w y) other)
                  ∙ sym (node_part_is s w j y is))

          inboxes : (j : ℕ) (y : NodeId) → slice_get (declared_ids s) j ≡ Some y →
              parts_of s w2 (inbox_part j) ≡ put (inbox_part j)
          inboxes j y is =
              let p = part_here r id rank in
              stays (inbox_part j) (grind (arith, nat_tests))
              (inbox_part_is s w2 j y is
              ∙ ap (λ (o : Option ℕ). part.Inbox (inbox_or_new (option_and_then (slice_get w.inboxes) o)))
              (set_place w r p.0 q nodes_apart p.1 (me ∙ sym p.2) y)
              ∙ sym (inbox_part_is s w j y is))

          beyond : (p : ℕ) → part_count s ≤ p → parts_of s w2 p ≡ put p
          beyond p far =
              let above = not_beyond p far in
              stays p (grind (arith, nat_tests, above)) (beyond_is s w2 p far ∙ sym (beyond_is s w p far))

      pub node_shaped : (q : Part) → q.node.me ≡ id → IsShaped s (record w { parts = slice_set w.parts r q })
      node_shaped q me =
          let p = part_here r id rank in
          record {
            numbers_are = same_numbers w.parts r p.0 q p.1 (me ∙ sym p.2) ∙ shaped.numbers_are;
            inboxes_are = shaped.inboxes_are;
            homes_are = shaped.homes_are;
            plan_is = shaped.plan_is;
            unbroken = shaped.unbroken;
          }

      pub inbox_set : (b : Inbox) → parts_of s (with_inbox w r b) ≡ with_values (inbox_part k ∷ []) (part.Inbox b ∷ [])
          (parts_of s w)
      inbox_set b = λ i p. each_part s (λ n. parts_of s w2 n ≡ put n) first nodes inboxes beyond p i
        where
          w2 : World
          w2 = with_inbox w r b

          put : ℕ → PartValue
          put = one_value (inbox_part k) (part.Inbox b) (parts_of s w)

          stays : (n : ℕ) → (inbox_part k == n) ≡ false → parts_of s w2 n ≡ parts_of s w n → parts_of s w2 n ≡ put n
          stays n other same = same ∙ sym (off (inbox_part k) n (part.Inbox b) (parts_of s w) other)

          first : parts_of s w2 0 ≡ put 0
          first = stays 0 (grind (arith, nat_tests)) refl

          nodes : (j : ℕ) (y : NodeId) → slice_get (declared_ids s) j ≡ Some y → parts_of s w2 (node_part j) ≡ put (node_part j)
          nodes j y is = stays (node_part j) (grind (arith, nat_tests)) (node_part_is s w2 j y is
              ∙ sym (node_part_is s w j y is))

          inboxes : (j : ℕ) (y : NodeId) → slice_get (declared_ids s) j ≡ Some y →
              parts_of s w2 (inbox_part j) ≡ put (inbox_part j)
          inboxes j y is = by (same_node id y) refl
            where
              q : ℕ
              q = (ranked s apart j y is).0

              q_is : slice_get (ids_of s) q ≡ Some y
              q_is = (ranked s apart j y is).1

              seen : (o : Option Inbox) → slice_get (slice_set w.inboxes r b) q ≡ o →
                  parts_of s w2 (inbox_part j) ≡ part.Inbox (inbox_or_new o)
              seen o there =
                  inbox_part_is s w2 j y is
                  ∙ ap (λ (x : Option ℕ). part.Inbox (inbox_or_new (option_and_then (slice_get (slice_set w.inboxes r b)) x)))
                  (place_here q y q_is)
                  ∙ ap (λ (x : Option Inbox). part.Inbox (inbox_or_new x)) there

              by : (c : Bool) → same_node id y ≡ c → parts_of s w2 (inbox_part j) ≡ put (inbox_part j)
              by true same =
                  let here = here_too j y is same in
                  let old = inbox_here r id rank in
                  let at = ranked_once s apart r q id y rank q_is same in
                  seen (Some b) (ap (slice_get (slice_set w.inboxes r b)) (sym at) ∙ get_set w.inboxes r old.0 b old.1)
                  ∙ sym (on (inbox_part k) (inbox_part j) (part.Inbox b) (parts_of s w) (grind (arith, nat_tests, here)))
              by false other =
                  let there = not_here j y is other in
                  let elsewhere = λ (e : q ≡ r). absurd_same e in
                  stays (inbox_part j) (grind (arith, nat_tests, there))
                  (seen (slice_get w.inboxes q) (get_other w.inboxes r q b elsewhere)
                  ∙ ap (λ (x : Option ℕ). part.Inbox (inbox_or_new (option_and_then (slice_get w.inboxes) x)))
                  (sym (place_here q y q_is))
                  ∙ sym (inbox_part_is s w j y is))
                where
                  absurd_same : q ≡ r → ⊥
                  absurd_same e =
                      let same = some_is id y (sym rank ∙ ap (slice_get (ids_of s)) (sym e) ∙ q_is) in
                      let itself = subst (λ (n : NodeId). same_node id n ≡ true) same (same_node_itself id) in
                      absurd (cc (itself, other))

          beyond : (p : ℕ) → part_count s ≤ p → parts_of s w2 p ≡ put p
          beyond p far =
              let above = not_beyond p far in
              stays p (grind (arith, nat_tests, above)) (beyond_is s w2 p far ∙ sym (beyond_is s w p far))

      pub inbox_shaped : (b : Inbox) → IsShaped s (with_inbox w r b)
      inbox_shaped b = record {
        numbers_are = shaped.numbers_are;
        inboxes_are = set_length w.inboxes r b ∙ shaped.inboxes_are;
        homes_are = shaped.homes_are;
        plan_is = shaped.plan_is;
        unbroken = shaped.unbroken;
      }
