-- Every scene of a legal run is sound.
use Rattle.std.proofs.Common.{◌≡◌, ◌≢◌, ◌<◌, ◌^◌, ◌++◌, ◌||◌, List, [], ◌∷◌, Option, Some, None, Bool, true, false, if◌then◌else◌, not, length, ℕ, suc, refl, ap, sym, subst, ◌∙◌}
use Rattle.std.specs.Prelude.{drop, slice_get}
use Rattle.part_model.specs.Directory.{members_after, without_node}
use Rattle.part_model.specs.Links.{Inbox, Link, link_of}
use Rattle.part_model.specs.NextMap.{is_member}
use Rattle.ignite_types.proofs.NameLaws.{same_node_itself, same_node_true}
use Rattle.ignite_types.specs.Names.{same_node}
use Rattle.ignite_types.specs.declared.journal.TopoEvent.{TopoEvent}
use Rattle.ignite_types.specs.declared.names.NodeId.{NodeId}
use Rattle.ignite_types.specs.declared.scenario.Member.{Member}
use Rattle.ignite_types.specs.declared.scenario.Scenario.{Scenario}
use Rattle.journal_statements.specs.Noted.{Noted, is_lost}
use Rattle.link_laws.specs.Carrying.{LinkInvariant, is_gone}
use Rattle.node_state.specs.declared.life.Life.{Life}
use Rattle.node_state.specs.Node.{NodeState}
use Rattle.scenes.specs.Events.{EachEventKeeps, IsSound, is_cache_switch}
use Rattle.act_rows.specs.Acts.{after_message, after_see, with_act_begun}
use Rattle.act_rows.specs.Closing.{after_closing_rules}
use Rattle.act_rows.specs.Commands.{after_answer, after_call}
use Rattle.act_rows.specs.Exchange.{after_learn_all}
use Rattle.act_rows.specs.Searches.{after_expire}
use Rattle.scenes.specs.Scenes.{Scene, state_at_moment, state_at_rest, state_after_loss, is_survivor, absent_state, inbox_messages, world_links, link_messages, either_state, part_or_absent, lives_with, states_with, scene_of}
use Rattle.scenes.proofs.Parts.{part_me, part_there}
use Rattle.tx_model.specs.World.{Part, World, inbox_on, is_alive, part_at, part_on, place_of}
use Rattle.ignite_types.specs.declared.journal.TopoEvent.TheVariants as topo
use Rattle.node_state.specs.declared.life.Life.TheVariants as life

-- what the rest of soundness follows from, beside what the links carry
pub record Base (sc : Scene) : Type 0 where
  pub members_are : (n : NodeId) → is_alive (sc.life n) ≡ is_member sc.directory.members n
  pub absent_fresh : (n : NodeId) → sc.life n ≡ life.Absent → sc.state n ≡ absent_state sc.scenario n

pub alive_is : (at : Life) → is_alive at ≡ true → at ≡ life.Alive
alive_is life.Alive is = refl
alive_is life.Absent is = absurd (cc (is))
alive_is life.Gone is = absurd (cc (is))

pub alive_not_gone : (at : Life) → is_alive at ≡ true → is_gone at ≡ false
alive_not_gone life.Alive is = refl
alive_not_gone life.Absent is = absurd (cc (is))
alive_not_gone life.Gone is = absurd (cc (is))

pub turned_false : (a b : NodeId) → same_node a b ≡ false → same_node b a ≡ false
turned_false a b other = by (same_node b a) refl
  where
    by : (c : Bool) → same_node b a ≡ c → c ≡ false
    by true same = let back = subst (λ (n : NodeId). same_node a n ≡ true) (sym (same_node_true b a same))
        (same_node_itself a) in absurd (cc (back, other))
    by false same = refl

pub turned : (a b : NodeId) → same_node a b ≡ same_node b a
turned a b = by (same_node b a) refl
  where
    by : (c : Bool) → same_node b a ≡ c → same_node a b ≡ c
    by true same = subst (λ (n : NodeId). same_node n b ≡ true) (same_node_true b a same) (same_node_itself b)
    by false other = turned_false b a other

-- A part of a world.

pub at_part : (s : Scenario) (w : World) (n : NodeId) (F : Part → Type 0) →
    F (record { node = absent_state s n; life = life.Absent })
    → ((k : ℕ) (p : Part) → place_of w n ≡ Some k → slice_get w.parts k ≡ Some p → p.node.me ≡ n → F p) →
    F (part_or_absent s n (part_at w n))
at_part s w n F none there = by (place_of w n) refl
  where
    in_parts : (k : ℕ) (o : Option Part) → place_of w n ≡ Some k → slice_get w.parts k ≡ o → F (part_or_absent s n o)
    in_parts k None place is = none
    in_parts k (Some p) place is = there k p place is (part_me w n p (ap (part_on w) place ∙ is))

    by : (r : Option ℕ) → place_of w n ≡ r → F (part_or_absent s n (part_on w r))
    by None place = none
    by (Some k) place = in_parts k (slice_get w.parts k) place refl

module _ (s : Scenario) (recs : List Noted) (w : World) (c : LinkInvariant s recs w) where
  empty_link : (a b : NodeId) → ((k : ℕ) (p : Part) (inbox : Inbox) (l : Link) → slice_get w.parts k ≡ Some p →
      p.node.me ≡ b → slice_get w.inboxes k ≡ Some inbox → link_of inbox a ≡ Some l → l.messages ≡ []) → world_links w a b ≡ []
  empty_link a b each = by (place_of w b) refl
    where
      on_link : (k : ℕ) (inbox : Inbox) (r : Option Link) → place_of w b ≡ Some k → slice_get w.inboxes k ≡ Some inbox →
          link_of inbox a ≡ r → link_messages r ≡ []
      on_link k inbox None place is none = refl
      on_link k inbox (Some l) place is some = let q =
          part_there w b k (record { node = absent_state s b; life = life.Absent }) place in each k q.0 inbox l q.1 q.2 is some

      in_box : (k : ℕ) (o : Option Inbox) → place_of w b ≡ Some k → slice_get w.inboxes k ≡ o → inbox_messages o a ≡ []
      in_box k None place is = refl
      in_box k (Some inbox) place is = on_link k inbox (link_of inbox a) place is refl

      by : (r : Option ℕ) → place_of w b ≡ r → inbox_messages (inbox_on w r) a ≡ []
      by None place = refl
      by (Some k) place = in_box k (slice_get w.inboxes k) place refl

  gone_lost : (n : NodeId) → is_gone ((scene_of s recs w).life n) ≡ true → is_lost recs n ≡ true
  gone_lost n = at_part s w n (λ (p : Part). is_gone p.life ≡ true → is_lost recs n ≡ true) (λ g. absurd (cc (g)))
      (λ k p place is me g. ap (λ (x : NodeId). is_lost recs x) (sym me) ∙ sym (c.lives k p is) ∙ g)

  pub sound_of : suc (length w.directory.events) < 2 ^ 63 → Base (scene_of s recs w) → IsSound (scene_of s recs w)
  sound_of room base = record {
    me_is = λ n. at_part s w n (λ (p : Part). p.node.me ≡ n) refl (λ k p place is me. me);
    members_are = base.members_are;
    gone_lost = gone_lost;
    alive_kept = λ n. at_part s w n (λ (p : Part). is_alive p.life ≡ true → is_lost recs n ≡ false) (λ g. absurd (cc (g)))
        (λ k p place is me g. ap (λ (x : NodeId). is_lost recs x) (sym me) ∙ sym (c.lives k p is) ∙ alive_not_gone p.life g);
    absent_fresh = base.absent_fresh;
    from_lost = λ a b g. empty_link a b (λ k p inbox l is me box some.
        ((c.inboxes_are k p inbox is box).links_are a l some).sender_lost g);
    to_lost = λ a b g. empty_link a b (λ k p inbox l is me box some.
        ((c.inboxes_are k p inbox is box).links_are a l some).addressee_lost (ap (λ (x : NodeId). is_lost recs x) me ∙ g));
    plan_is = c.plan_is;
    room = room;
  }

-- Each event keeps the base.

still_absent : (s : Scenario) (lives : NodeId → Life) (states : NodeId → NodeState) (n : NodeId) (st : NodeState) →
    lives n ≡ life.Alive → ((m : NodeId) → lives m ≡ life.Absent → states m ≡ absent_state s m)
    → (m : NodeId) → lives m ≡ life.Absent → states_with n st states m ≡ absent_state s m
still_absent s lives states n st alive before m absent = by (same_node n m) refl
  where
    by : (c : Bool) → same_node n m ≡ c → either_state c st (states m) ≡ absent_state s m
    by true same = let there = ap lives (same_node_true n m same) in absurd (cc (there, alive, absent))
    by false other = before m absent

act_base : (sc : Scene) (n : NodeId) (st : NodeState) (lives : sc.life n ≡ life.Alive) → Base sc → (m : NodeId) →
    sc.life m ≡ life.Absent → states_with n (state_at_rest st) sc.state m ≡ absent_state sc.scenario m
act_base sc n st lives b = still_absent sc.scenario sc.life sc.state n (state_at_rest st) lives b.absent_fresh

joined_member : (ms : List Member) (m : Member) (n : NodeId) →
    is_member (ms ++ m ∷ []) n ≡ (if same_node m.node n then true else is_member ms n)
joined_member [] m n = rw (turned n m.node) (by (same_node m.node n))
  where
    by : (c : Bool) → (c || false) ≡ (if c then true else false)
    by true = refl
    by false = refl
joined_member (x ∷ ms) m n = by (same_node n x.node) (joined_member ms m n)
  where
    last : (d : Bool) → (if d then true else true) ≡ true
    last true = refl
    last false = refl

    by : (c : Bool) → is_member (ms ++ m ∷ []) n ≡ (if same_node m.node n then true else is_member ms n) →
        (c || is_member (ms ++ m ∷ []) n) ≡ (if same_node m.node n then true else c || is_member ms n)
    by true rest = sym (last (same_node m.node n))
    by false rest = rest

left_member : (ms : List Member) (id n : NodeId) →
    is_member (without_node id ms) n ≡ (if same_node id n then false else is_member ms n)
left_member [] id n = by (same_node id n)
  where
    by : (c : Bool) → false ≡ (if c then false else false)
    by true = refl
    by false = refl
left_member (m ∷ ms) id n = by (same_node m.node id) refl (same_node n m.node) refl (left_member ms id n)
  where
    falls : (c : Bool) → false ≡ (if c then false else false)
    falls true = refl
    falls false = refl

    by : (c : Bool) → same_node m.node id ≡ c → (d : Bool) → same_node n m.node ≡ d →
        is_member (without_node id ms) n ≡ (if same_node id n then false else is_member ms n) →
        is_member (if not c then m ∷ without_node id ms else without_node id ms) n ≡ (if same_node id n then false else d
        || is_member ms n)
    by true is true same rest =
        let here : same_node id n ≡ true = turned id n ∙ subst (λ (x : NodeId). same_node n x ≡ true)
        (same_node_true m.node id is) same in
        rest ∙ (rw here refl)
    by true is false other rest = rest
    by false apart true same rest =
        let here : same_node id n ≡ false =
        subst (λ (x : NodeId). same_node id x ≡ false) (sym (same_node_true n m.node same)) (turned id m.node ∙ apart) in
        rw (same, here) refl
    by false apart false other rest = rw other rest

switch_members : (ms : List Member) (e : TopoEvent) → is_cache_switch e ≡ true → members_after ms e ≡ ms
switch_members ms (topo.Start cache) is = refl
switch_members ms (topo.Stop cache) is = refl
switch_members ms topo.Minor is = absurd (cc (is))
switch_members ms (topo.Join m) is = absurd (cc (is))
switch_members ms (topo.Left n) is = absurd (cc (is))

joined_life : (sc : Scene) (m : Member) (n : NodeId) → Base sc → is_alive (lives_with m.node life.Alive sc.life n) ≡ is_member
    (sc.directory.members ++ m ∷ []) n
joined_life sc m n b = by (same_node m.node n) ∙ sym (joined_member sc.directory.members m n)
  where
    by : (c : Bool) → is_alive (if c then life.Alive else sc.life n) ≡ (if c then true else is_member sc.directory.members n)
    by true = refl
    by false = b.members_are n

lost_life : (sc : Scene) (id n : NodeId) → Base sc → is_alive (lives_with id life.Gone sc.life n) ≡ is_member
    (without_node id sc.directory.members) n
lost_life sc id n b = by (same_node id n) ∙ sym (left_member sc.directory.members id n)
  where
    by : (c : Bool) → is_alive (if c then life.Gone else sc.life n) ≡ (if c then false else is_member sc.directory.members n)
    by true = refl
    by false = b.members_are n

-- who is absent after a loss or a join was so before, with the same state
still_out : (lives : NodeId → Life) (id n : NodeId) (at : Life) (F : Type 0) → at ≢ life.Absent →
    lives_with id at lives n ≡ life.Absent → (same_node id n ≡ false → lives n ≡ life.Absent → F) → F
still_out lives id n at F in_now absent then_as = by (same_node id n) refl absent
  where
    by : (c : Bool) → same_node id n ≡ c → (if c then at else lives n) ≡ life.Absent → F
    by true same is = absurd (in_now is)
    by false other is = then_as other is

abbrev pub joiner : Scene → Member → NodeState → NodeState
joiner sc m s = let start = with_act_begun (after_learn_all s sc.directory.events sc.directory.clock) in
    after_closing_rules (after_see start start.read (topo.Join m))

parted_absent : (id : NodeId) (c : Bool) (at : Life) (st : NodeState) → at ≡ life.Absent →
    state_after_loss id (if c then false else is_alive at) st ≡ st
parted_absent id true at st is = refl
parted_absent id false at st is = ap (λ (l : Life). state_after_loss id (is_alive l) st) is

pub base_kept : EachEventKeeps Base
base_kept = record {
  answers = λ sc n s session sound r may b. record {
    members_are = b.members_are;
    absent_fresh =
        act_base sc n (after_answer s session) r.alive b;
  };
  calls = λ sc n s session sound r may b. record {
    members_are = b.members_are;
    absent_fresh =
        act_base sc n (after_closing_rules (after_call s session)) r.alive b;
  };
  takes = λ sc n s from m sound r is b. record {
    members_are = b.members_are;
    absent_fresh =
        act_base sc n (after_closing_rules (after_message s from m)) r.alive b;
  };
  expires = λ sc n s tx sound r own is b. record {
    members_are = b.members_are;
    absent_fresh =
        act_base sc n (after_closing_rules (after_expire s tx)) r.alive b;
  };
  sees = λ sc n s e sound r is b. record {
    members_are = b.members_are;
    absent_fresh =
        act_base sc n (after_closing_rules (after_see s s.read e)) r.alive b;
  };
  switches = λ sc n s sound r may same b. record { members_are = b.members_are; absent_fresh = b.absent_fresh };
  moves = λ sc n s out sound r is b. record {
    members_are = b.members_are;
    absent_fresh =
        act_base sc n (record s { outbox = drop 1 s.outbox }) r.alive b;
  };
  drops = λ sc n s out sound r is away b. record {
    members_are = b.members_are;
    absent_fresh =
        act_base sc n (record s { outbox = drop 1 s.outbox }) r.alive b;
  };
  joins = λ sc m s sound absent new is b. record {
    members_are = λ n. joined_life sc m n b;
    absent_fresh = λ n out. still_out sc.life m.node n life.Alive
        (states_with m.node (state_at_rest (joiner sc m s)) sc.state n ≡ absent_state sc.scenario n) (λ e. cc) out
        (λ other was. ap (λ (c : Bool). either_state c (state_at_rest (joiner sc m s)) (sc.state n)) other
        ∙ b.absent_fresh n was);
  };
  loses = λ sc n sound lives b. record {
    members_are = λ m. lost_life sc n m b;
    absent_fresh = λ m out. still_out sc.life n m life.Gone (state_after_loss n (is_survivor n m (sc.life m)) (sc.state m)
        ≡ absent_state sc.scenario m) (λ e. cc) out
        (λ other was. parted_absent n (same_node n m) (sc.life m) (sc.state m) was ∙ b.absent_fresh m was);
  };
  plans = λ sc refused sound b. record { members_are = b.members_are; absent_fresh = b.absent_fresh };
  starts = λ sc e sound is b. record {
    members_are = λ n. b.members_are n ∙ ap (λ (ms : List Member). is_member ms n)
        (sym (switch_members sc.directory.members e is));
    absent_fresh = b.absent_fresh;
  };
  ticks = λ sc to sound b. record {
    members_are = b.members_are;
    absent_fresh =
        λ n out. ap (λ (l : Life). state_at_moment to (is_alive l) (sc.state n)) out ∙ b.absent_fresh n out;
  };
  breaks = λ sc n sound b. record { members_are = b.members_are; absent_fresh = b.absent_fresh };
}
