-- The scene of a run's opening world.
use Rattle.std.proofs.Common.{◌≡◌, ◌⊎◌, inl, inr, is_some, ◌++◌, ◌||◌, List, [], ◌∷◌, Option, Some, None, Bool, true, false, ℕ, zero, suc, refl, ap, sym, subst, ◌∙◌}
use Rattle.std.specs.Option.{option_map}
use Rattle.std.specs.Ordering.{match_ordering}
use Rattle.std.specs.Prelude.{slice_get}
use Rattle.std.specs.declared.cmp.Ordering.TheVariants.{Less, Equal, Greater}
use Rattle.std.proofs.lemmas.Map.Lookups.{exact_unsigned}
use Rattle.std.proofs.lemmas.Option.{slice_get-map}
use Rattle.act_rows.specs.NewNodes.{opening_map_of, opening_node}
use Rattle.part_model.specs.Directory.{node_set}
use Rattle.part_model.specs.Links.{Inbox, Link, link_of}
use Rattle.part_model.specs.NextMap.{is_member}
use Rattle.ignite_types.proofs.NameLaws.{node_total, same_node_itself, same_node_true}
use Rattle.ignite_types.specs.Good.{are_distinct, members}
use Rattle.ignite_types.specs.Good as good
use Rattle.ignite_types.specs.Names.{node_cmp, same_node}
use Rattle.ignite_types.specs.declared.names.NodeId.{NodeId}
use Rattle.ignite_types.specs.declared.placement.PartMap.{PartMap}
use Rattle.ignite_types.specs.declared.scenario.Member.{Member}
use Rattle.ignite_types.specs.declared.scenario.Scenario.{Scenario}
use Rattle.link_laws.specs.Carrying.{LinkInvariant}
use Rattle.link_laws.proofs.Frames.{place_is}
use Rattle.link_laws.proofs.Openings.{opening_carries}
use Rattle.link_laws.proofs.Places.{after_map}
use Rattle.ordered_set.specs.Members.{with_member}
use Rattle.scenes.specs.Scenes.{state_at_rest, absent_state, inbox_messages, world_links, link_messages, opening_life, opening_scene, part_or_absent, scene_of}
use Rattle.part_model.specs.Links.{inbox_from, new_inbox}
use Rattle.link_laws.proofs.Places.{node_apart, some_is}
use Rattle.ordered_table.proofs.Laws as laws
use Rattle.ordered_table.specs.Entries.{at, put}
use Rattle.scenes.proofs.Lanes.{Full, lane_in}
use Rattle.scenes.proofs.Parts.{part_me, part_there}
use Rattle.scenes.proofs.Sounds.{Base}
use Rattle.tx_model.specs.Opening.{ids_of, opening, opening_part}
use Rattle.tx_model.specs.World.{Part, World, inbox_on, is_alive, part_at, part_on, place_of}
use Rattle.node_state.specs.declared.life.Life.TheVariants as life

exact_node : (a b : NodeId) → node_cmp a b ≡ Equal → a ≡ b
exact_node a b tied = let number : a.0 ≡ b.0 = exact_unsigned a.0 b.0 tied in (λ i. record { 0 = number i })

-- Who is declared has a part.

abbrev pub Stands : List NodeId → NodeId → Type 0
Stands xs x = (j : ℕ) × (slice_get xs j ≡ Some x)

behind : (y : NodeId) (xs : List NodeId) (x : NodeId) → Stands xs x → Stands (y ∷ xs) x
behind y xs x at = (suc at.0, at.1)

still_stands : (xs : List NodeId) (k x : NodeId) (j : ℕ) → slice_get xs j ≡ Some x → Stands (with_member node_cmp xs k) x
still_stands [] k x j is = absurd (cc (is))
still_stands (y ∷ ys) k x zero is =
    elim (node_cmp k y) as (λ r. Stands (match_ordering r (k ∷ y ∷ ys) (y ∷ ys) (y ∷ with_member node_cmp ys k)) x) [
      | Less ↦ (1, is)
      | Equal ↦ (0, is)
      | Greater ↦ (0, is)
    ]
still_stands (y ∷ ys) k x (suc j) is =
    let rest = still_stands ys k x j is in
    elim (node_cmp k y) as (λ r. Stands (match_ordering r (k ∷ y ∷ ys) (y ∷ ys) (y ∷ with_member node_cmp ys k)) x) [
      | Less ↦ (suc (suc j), is)
      | Equal ↦ (suc j, is)
      | Greater ↦ behind y (with_member node_cmp ys k) x rest
    ]

now_stands : (xs : List NodeId) (k : NodeId) → Stands (with_member node_cmp xs k) k
now_stands [] k = (0, refl)
now_stands (y ∷ ys) k =
    elim (node_cmp k y) as (λ r. node_cmp k y ≡ r →
    Stands (match_ordering r (k ∷ y ∷ ys) (y ∷ ys) (y ∷ with_member node_cmp ys k)) k) [
      | Less ↦ λ g. (0, refl)
      | Equal ↦ λ g. (0, ap (λ (n : NodeId). Some n) (sym (exact_node k y g)))
      | Greater ↦ λ g. behind y (with_member node_cmp ys k) k (now_stands ys k)
    ] refl

set_keeps : (xs : List NodeId) (ms : List Member) (x : NodeId) → Stands xs x → Stands (node_set xs ms) x
set_keeps xs [] x at = at
set_keeps xs (m ∷ ms) x at = set_keeps (with_member node_cmp xs m.node) ms x (still_stands xs m.node x at.0 at.1)

pub set_both : (xs : List NodeId) (ms more : List Member) (x : NodeId) → is_member ms x ≡ true →
    Stands (node_set xs (ms ++ more)) x
set_both xs [] more x is = absurd (cc (is))
set_both xs (m ∷ ms) more x is =
    (elim (same_node x m.node) as (λ b. same_node x m.node ≡ b → (b || is_member ms x) ≡ true →
    Stands (node_set xs ((m ∷ ms) ++ more)) x) [
      | true ↦ λ t e.
          let now = now_stands xs m.node in
          subst (λ (n : NodeId). Stands (node_set xs ((m ∷ ms) ++ more)) n) (sym (same_node_true x m.node t))
          (set_keeps (with_member node_cmp xs m.node) (ms ++ more) m.node now)
      | false ↦ λ f e. set_both (with_member node_cmp xs m.node) ms more x e
    ]) refl is

module _ (s : Scenario) (apart : are_distinct good.same_member_node (members s) ≡ true) where
  abbrev w : World
  w = opening s

  abbrev m : PartMap
  m = opening_map_of s

  c : LinkInvariant s [] w
  c = opening_carries s apart

  abbrev as_opened : NodeId → Part → Type 0
  as_opened n p = (p.life ≡ opening_life (is_member s.nodes n))
      × (state_at_rest p.node ≡ opening_node s m n (is_member s.nodes n))

  opened : (n : NodeId) → as_opened n (opening_part s m n)
  opened n = (refl, refl)

  undeclared : (n : NodeId) → place_of w n ≡ None → is_member s.nodes n ≡ false
  undeclared n none = by (is_member s.nodes n) refl
    where
      by : (b : Bool) → is_member s.nodes n ≡ b → b ≡ false
      by true member =
          let at = set_both [] s.nodes _ n member in
          let stands : slice_get w.parts at.0 ≡ Some (opening_part s m n) = slice_get-map (opening_part s m) (ids_of s) at.0
          ∙ ap (option_map (opening_part s m)) at.1 in
          let place = place_is w at.0 (opening_part s m n) n c.apart stands (same_node_itself n) in
          absurd (cc (none, place))
      by false other = refl

  each : (n : NodeId) → as_opened n (part_or_absent s n (part_at w n))
  each n = by (place_of w n) refl
    where
      at : (k : ℕ) (o : Option Part) → place_of w n ≡ Some k → slice_get w.parts k ≡ o → as_opened n (part_or_absent s n o)
      at k None place none =
          let q = part_there w n k (opening_part s m n) place in
          let some = q.1 in
          absurd (cc (none, some))
      at k (Some p) place is =
          let a = after_map (opening_part s m) (ids_of s) k p is in
          let number : a.0 ≡ n = ap (λ (x : Part). x.node.me) a.2 ∙ part_me w n p (ap (part_on w) place ∙ is) in
          subst (as_opened n) (sym (ap (opening_part s m) number) ∙ a.2) (opened n)

      by : (r : Option ℕ) → place_of w n ≡ r → as_opened n (part_or_absent s n (part_on w r))
      by None place = let no = undeclared n place in (rw no refl, rw no refl)
      by (Some k) place = at k (slice_get w.parts k) place refl

  no_link : (x y : NodeId) → world_links w x y ≡ []
  no_link x y = by (place_of w y) refl
    where
      on_link : (k : ℕ) (p : Part) (b : Inbox) (r : Option Link) → slice_get w.parts k ≡ Some p →
          slice_get w.inboxes k ≡ Some b → link_of b x ≡ r → link_messages r ≡ []
      on_link k p b None is box none = refl
      on_link k p b (Some l) is box some = sym (((c.inboxes_are k p b is box).links_are x l some).in_order refl refl)

      in_box : (k : ℕ) (o : Option Inbox) → place_of w y ≡ Some k → slice_get w.inboxes k ≡ o → inbox_messages o x ≡ []
      in_box k None place box = refl
      in_box k (Some b) place box = let q = part_there w y k (opening_part s m y) place in
          on_link k q.0 b (link_of b x) q.1 box refl

      by : (r : Option ℕ) → place_of w y ≡ r → inbox_messages (inbox_on w r) x ≡ []
      by None place = refl
      by (Some k) place = in_box k (slice_get w.inboxes k) place refl

  pub opening_is : scene_of s [] (opening s) ≡ opening_scene s
  opening_is = λ i. record {
    scenario = s;
    directory = w.directory;
    life = λ n. (each n).0 i;
    state = λ n. (each n).1 i;
    link = λ x y. no_link x y i;
    recs = [];
  }

-- Between declared nodes there are links.

inbox_lane : (xs : List NodeId) (links : List (NodeId × Link)) (a : NodeId) → (is_some (at node_cmp links a) ≡ true)
    ⊎ Stands xs a → is_some (at node_cmp (inbox_from links xs) a) ≡ true
inbox_lane [] links a (inl there) = there
inbox_lane [] links a (inr stands) = let none = stands.1 in absurd (cc (none))
inbox_lane (x ∷ xs) links a either = inbox_lane xs (put node_cmp links x empty) a (next (same_node x a) refl either)
  where
    empty : Link
    empty = record { held = false; messages = [] }

    behind_it : (stands : Stands (x ∷ xs) a) → same_node x a ≡ false → Stands xs a
    behind_it stands other = by stands.0 stands.1
      where
        by : (j : ℕ) → slice_get (x ∷ xs) j ≡ Some a → Stands xs a
        by zero is = let itself : same_node x a ≡ true = subst (λ (y : NodeId). same_node x y ≡ true) (some_is x a is)
            (same_node_itself x) in absurd (cc (itself, other))
        by (suc j) is = (j, is)

    next : (c : Bool) → same_node x a ≡ c → (is_some (at node_cmp links a) ≡ true) ⊎ Stands (x ∷ xs) a →
        (is_some (at node_cmp (put node_cmp links x empty) a) ≡ true) ⊎ Stands xs a
    next true same e = inl (subst (λ (y : NodeId). is_some (at node_cmp (put node_cmp links x empty) y) ≡ true)
        (same_node_true x a same) (ap is_some (laws.at_put_same node_cmp node_total links x empty)))
    next false other (inl there) =
        inl (ap is_some (laws.at_put_other node_cmp node_total links x a empty (node_apart x a other)) ∙ there)
    next false other (inr stands) = inr (behind_it stands other)

pub opening_full : (s : Scenario) → are_distinct good.same_member_node (members s) ≡ true → Full (opening s)
opening_full s apart a b at_a at_b = to (place_of w b) refl at_b
  where
    w : World
    w = opening s

    m : PartMap
    m = opening_map_of s

    box : Inbox
    box = new_inbox (ids_of s)

    -- who stands somewhere is declared
    declared : (n : NodeId) (k : ℕ) → place_of w n ≡ Some k → slice_get (ids_of s) k ≡ Some n
    declared n k place =
        let q = part_there w n k (opening_part s m n) place in
        let a = after_map (opening_part s m) (ids_of s) k q.0 q.1 in
        a.1 ∙ ap (λ (x : NodeId). Some x) (ap (λ (x : Part). x.node.me) a.2 ∙ q.2)

    from : (r : Option ℕ) → place_of w a ≡ r → is_some r ≡ true → is_some (link_of box a) ≡ true
    from None place none = absurd (cc (none))
    from (Some k) place some = inbox_lane (ids_of s) [] a (inr (k, declared a k place))

    to : (r : Option ℕ) → place_of w b ≡ r → is_some r ≡ true → lane_in (inbox_on w r) a ≡ true
    to None place none = absurd (cc (none))
    to (Some j) place some =
        ap (λ (o : Option Inbox). lane_in o a) (slice_get-map (λ (id : NodeId). new_inbox (ids_of s)) (ids_of s) j
        ∙ ap (option_map (λ (id : NodeId). new_inbox (ids_of s))) (declared b j place))
        ∙ from (place_of w a) refl at_a

pub opening_base : (s : Scenario) → Base (opening_scene s)
opening_base s = record { members_are = λ n. alive (is_member s.nodes n); absent_fresh = λ n. absent n (is_member s.nodes n) }
  where
    alive : (b : Bool) → is_alive (opening_life b) ≡ b
    alive true = refl
    alive false = refl

    absent : (n : NodeId) (b : Bool) → opening_life b ≡ life.Absent → opening_node s (opening_map_of s) n b ≡ absent_state s n
    absent n true is = absurd (cc (is))
    absent n false is = refl
