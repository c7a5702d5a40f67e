-- Each event keeps the invariant of the laws of topology.
use Rattle.std.proofs.Common.{◌≡◌, ◌≤◌, ◌+◌, inr, arith, ◌++◌, ◌&&◌, List, [], ◌∷◌, Option, Some, Bool, true, false, if◌then◌else◌, length, ℕ, refl, ap, sym, subst, ◌∙◌}
use Rattle.std.specs.Prelude.{drop, slice_get}
use Rattle.frame_laws.proofs.Extending.{append_none}
use Rattle.act_rows.specs.Acts.{after_message}
use Rattle.act_rows.specs.Closing.{after_closing_rules}
use Rattle.part_model.specs.Directory.{first_top}
use Rattle.ignite_types.proofs.NameLaws.{same_top_itself}
use Rattle.ignite_types.proofs.NameLaws.{same_node_itself, same_node_true}
use Rattle.ignite_types.specs.Names.{same_node}
use Rattle.ignite_types.specs.declared.journal.Rec.{Rec}
use Rattle.ignite_types.specs.declared.message.Message.{Message}
use Rattle.ignite_types.specs.declared.message.Out.{Out}
use Rattle.ignite_types.specs.declared.names.NodeId.{NodeId}
use Rattle.ignite_types.specs.declared.names.TopVer.{TopVer}
use Rattle.journal_statements.specs.Noted.{Noted, is_lost, noted_by}
use Rattle.link_laws.proofs.Journals.{lost_parts}
use Rattle.link_laws.proofs.Places.{some_is}
use Rattle.node_state.specs.declared.life.Life.{Life}
use Rattle.node_state.specs.Node.{NodeState}
use Rattle.scenes.specs.Events.{IsReady, IsSound}
use Rattle.scenes.specs.Scenes.{state_at_rest, scene_after_join, scene_after_loss, either_state, scene_after_send, one_record, state_after_loss, plan_records, links_after_take, links_after_send, lives_with, states_with, is_survivor, scene_after_step, scene_after_take, links_without}
use Rattle.scenes.specs.Scenes as scenes
use Rattle.topology_laws.specs.TopologyFacts.{HoldsOfEach, IsLastOpening, IsLostOr, NodeFits, PartFits, MessageTells, opens_at, is_opens_of, openings_to_come, openings_by, opens_on_link}
use Rattle.topology_laws.specs.TopologyInvariant.{HoldsInTopologyAct, TopologyInvariant}
use Rattle.topology_laws.specs.TopologyScenes.{TopologyPart, TopologyScene, TopologyState, parts_with, topology_in_act, topology_scene, topology_state}
use Rattle.topology_laws.proofs.Acts.{message_good}
use Rattle.topology_laws.proofs.Counts.{count_first, count_head, count_parts, count_rest, no_more_in, none_opened, opened_parts}
use Rattle.topology_laws.proofs.Frames.{begins_as, calm_inv, calm_later, changed, changed_inv, changed_later, not_lost_before}
use Rattle.topology_laws.proofs.Idle.{idle_other}
use Rattle.topology_laws.proofs.Later.{Later, link_later, node_later, seat_later, tells_later}
use Rattle.topology_laws.proofs.Lists.{each_both, each_first, each_rest}
use Rattle.topology_laws.proofs.Steps.{alive_fits, exact_after, put_elim, put_other, put_same}
use Rattle.ignite_types.specs.declared.message.Message.TheVariants as msg
use Rattle.ignite_types.specs.declared.journal.Rec.TheVariants as note
use Rattle.node_state.specs.declared.life.Life.TheVariants as life

abbrev alive_as : NodeState → TopologyPart
alive_as s = record { life = life.Alive; state = topology_state s }

nothing_less : (a : ℕ) → 0 ≤ a
nothing_less a = omega arith

-- A node acts.

seat_as : (sc : scenes.Scene) (n : NodeId) (st : NodeState) → sc.life n ≡ life.Alive → (m : NodeId) (c : Bool) →
    same_node n m ≡ c
    → (if c then Some (alive_as st) else (topology_scene sc).seat m)
    ≡ Some (record { life = sc.life m; state = topology_state (either_state c (state_at_rest st) (sc.state m)) })
seat_as sc n st alive m true same = ap (λ (l : Life). Some (record { life = l; state = topology_state st }))
    (sym (ap sc.life (sym (same_node_true n m same)) ∙ alive))
seat_as sc n st alive m false other = refl

pub acts : (sc : scenes.Scene) (n : NodeId) (st : NodeState) → sc.life n ≡ life.Alive →
    HoldsInTopologyAct (topology_scene sc) n st → TopologyInvariant (topology_scene (scenes.scene_in_act sc n st))
acts sc n st alive good =
    let as_scene : topology_in_act (topology_scene sc) n st ≡ topology_scene (scenes.scene_in_act sc n st) =
    λ j. record (topology_scene sc) {
      seat = λ m. seat_as sc n st alive m (same_node n m) refl j;
      recs = sc.recs ++ noted_by (Some n) st.noted;
    } in
    subst TopologyInvariant as_scene good

-- before the first row nothing is noted
pub begins : (sc : scenes.Scene) (n : NodeId) (s : NodeState) → IsReady sc n s → topology_in_act (topology_scene sc) n s
    ≡ topology_scene sc
begins sc n s r =
    ap (λ (rs : List Rec). record (topology_scene sc) {
      seat = parts_with n (alive_as s) (topology_scene sc).seat;
      recs =
          sc.recs ++ noted_by (Some n) rs;
    }) r.none_noted
    ∙ begins_as (topology_scene sc) n s (λ j. Some (record { life = r.alive j; state = topology_state (r.state_is j) }))

pub started : (sc : scenes.Scene) (n : NodeId) (s : NodeState) → IsReady sc n s → TopologyInvariant (topology_scene sc) →
    HoldsInTopologyAct (topology_scene sc) n s
started sc n s r i = subst TopologyInvariant (sym (begins sc n s r)) i

-- A message is taken.
module _ (sc : scenes.Scene) (n : NodeId) (s : NodeState) (from : NodeId) (m : Message) (sound : IsSound sc)
    (r : IsReady sc n s) (first : sc.link from n ≡ m ∷ drop 1 (sc.link from n))
    (i : TopologyInvariant (topology_scene sc)) where
  abbrev after : scenes.Scene
  after = scene_after_take sc from n m

  pub sender_lives : (b : Bool) → is_lost sc.recs from ≡ b → is_lost sc.recs from ≡ false
  sender_lives true lost = let none = sound.from_lost from n lost in absurd (cc (none, first))
  sender_lives false lives = lives

  popped_each : (x y : NodeId) (c : Bool) → HoldsOfEach (MessageTells (topology_scene sc) x y) (sc.link x y) →
      HoldsOfEach (MessageTells (topology_scene sc) x y) (if c then drop 1 (sc.link x y) else sc.link x y)
  popped_each x y true all = each_rest (MessageTells (topology_scene sc) x y) (sc.link x y) all
  popped_each x y false all = all

  popped_fewer : (v : TopVer) (ms : List Message) (c : Bool) → opens_on_link v (if c then drop 1 ms else ms)
      ≤ opens_on_link v ms
  popped_fewer v ms true = count_rest (is_opens_of v) ms
  popped_fewer v ms false = no_more_in (is_opens_of v) ms

  pub taken_inv : TopologyInvariant (topology_scene after)
  taken_inv = calm_inv (topology_scene sc) after.link (one_record (Some n) (note.Deliver from m)) refl (λ x. refl) (tt, tt)
      (λ to v. none_opened v to (Some n) (note.Deliver from m ∷ []) refl)
      (λ v x y. popped_fewer v (sc.link x y) (same_node from x && same_node n y))
      (λ x y. popped_each x y (same_node from x && same_node n y) (i.links x y)) i

  pub tells_then : MessageTells (topology_scene after) from n m
  tells_then = tells_later (topology_scene sc) (topology_scene after)
      (calm_later (topology_scene sc) after.link (one_record (Some n) (note.Deliver from m))) from n m
      (subst (λ (ms : List Message). HoldsOfEach (MessageTells (topology_scene sc) from n) ms) first (i.links from n)).0

  pub popped_here : after.link from n ≡ drop 1 (sc.link from n)
  popped_here = rw (same_node_itself from, same_node_itself n) refl

  last_one : (x : Message) → m ≡ x → MessageTells (topology_scene after) from n x → IsLastOpening (topology_scene after) n x
  last_one (msg.Opens top) is tells = λ x.
      let ms = sc.link from n in
      let one_less = count_first (is_opens_of top) ms (msg.Opens top) (ap (λ (l : List Message). slice_get l 0) first
      ∙ ap (λ (y : Message). Some y) is) (same_top_itself top) in
      let now : opens_on_link top (after.link from n) ≡ opens_on_link top (drop 1 ms) = ap (opens_on_link top) popped_here in
      let parts = opened_parts top n sc.recs (one_record (Some n) (note.Deliver from m)) in
      let quiet = none_opened top n (Some n) (note.Deliver from m ∷ []) refl in
      let once = i.once from n top in
      (elim (same_node from x) as (λ c. same_node from x ≡ c → openings_to_come (topology_scene after) top x n
      + openings_by top n after.recs ≡ 0) [
        | true ↦ λ t. subst (λ (y : NodeId). openings_to_come (topology_scene after) top y n + openings_by top n after.recs
            ≡ 0) (same_node_true from x t) (omega (arith, one_less, now, parts, quiet, once))
        | false ↦ λ f.
            let others = idle_other (topology_scene after) top from x n taken_inv tells.1 f in
            omega (arith, others, one_less, parts, quiet, once)
      ]) refl
  last_one _ is tells = tt

  pub ready_then : IsReady after n s
  ready_then = record { alive = r.alive; me_is = r.me_is; none_noted = r.none_noted; state_is = r.state_is }

  pub takes_kept : TopologyInvariant
      (topology_scene (scenes.scene_in_act after n (after_closing_rules (after_message s from m))))
  takes_kept =
      let back = sym (begins after n s ready_then) in
      acts after n (after_closing_rules (after_message s from m)) r.alive
      (message_good (topology_scene after) n s (started after n s ready_then taken_inv) from m
      (subst (λ (c : TopologyScene). is_lost c.recs from ≡ false) back
      (lost_parts sc.recs (one_record (Some n) (note.Deliver from m)) from
      ∙ (rw (sender_lives (is_lost sc.recs from) refl) refl)))
      (subst (λ (c : TopologyScene). IsLastOpening c n m) back (last_one m refl tells_then))
      (subst (λ (c : TopologyScene). MessageTells c from n m) back tells_then))

-- A message is sent.
module _ (sc : scenes.Scene) (n : NodeId) (s : NodeState) (out : Out) (sound : IsSound sc) (r : IsReady sc n s)
    (first : s.outbox ≡ out ∷ drop 1 s.outbox) (i : TopologyInvariant (topology_scene sc)) where
  abbrev st : NodeState
  st = record s { outbox = drop 1 s.outbox }

  abbrev sent : Noted
  sent = record { node = Some n; rec = note.Sent out.to out.msg }

  there : (topology_scene sc).seat n ≡ Some (alive_as s)
  there = λ j. Some (record { life = r.alive j; state = topology_state (r.state_is j) })

  head : slice_get s.outbox 0 ≡ Some out
  head = ap (λ (os : List Out). slice_get os 0) first

  -- one more where the message goes
  abbrev bonus : TopVer → NodeId → NodeId → ℕ
  bonus v x y = if same_node n x && (same_node out.to y && is_opens_of v out.msg) then 1 else 0

  sent_once : (v : TopVer) (x y : NodeId) (now : ℕ) → now ≤ opens_on_link v (sc.link x y) + bonus v x y →
      now + opens_at v y (parts_with n (alive_as st) (topology_scene sc).seat x) + openings_by v y sc.recs ≤ 1
  sent_once v x y now counts = by_node (same_node n x) refl
    where
      by_node : (c : Bool) → same_node n x ≡ c → now + opens_at v y (parts_with n (alive_as st) (topology_scene sc).seat x)
          + openings_by v y sc.recs ≤ 1
      by_node true is_me =
          let mine = same_node_true n x is_me in
          let count = count_head (λ (o : Out). same_node o.to y && is_opens_of v o.msg) s.outbox out head in
          let once = subst (λ (o : Option TopologyPart). opens_on_link v (sc.link x y) + opens_at v y o
          + openings_by v y sc.recs ≤ 1) (ap (topology_scene sc).seat (sym mine) ∙ there) (i.once x y v) in
          let counts2 = subst (λ (c : Bool). now ≤ opens_on_link v (sc.link x y)
          + (if c && (same_node out.to y && is_opens_of v out.msg) then 1 else 0)) is_me counts in
          subst (λ (o : Option TopologyPart). now + opens_at v y o + openings_by v y sc.recs ≤ 1)
          (sym (put_same n (alive_as st) (topology_scene sc).seat)
          ∙ ap (parts_with n (alive_as st) (topology_scene sc).seat) mine) (omega (arith, count, once, counts2))
      by_node false other =
          let counts2 = subst (λ (c : Bool). now ≤ opens_on_link v (sc.link x y)
          + (if c && (same_node out.to y && is_opens_of v out.msg) then 1 else 0)) other counts in
          let once = i.once x y v in
          subst (λ (o : Option TopologyPart). now + opens_at v y o + openings_by v y sc.recs ≤ 1)
          (sym (put_other n (alive_as st) (topology_scene sc).seat x other)) (omega (arith, once, counts2))

  -- over these links
  sent_over : (link : NodeId → NodeId → List Message) →
      ((x y : NodeId) → HoldsOfEach (MessageTells (topology_scene sc) x y) (link x y)) →
      ((v : TopVer) (x y : NodeId) → opens_on_link v (link x y) ≤ opens_on_link v (sc.link x y) + bonus v x y)
      → TopologyInvariant (topology_scene (scenes.scene_in_act (record sc { link = link; recs = sc.recs ++ sent ∷ [] }) n st))
  sent_over link links counts =
      let N : TopologyScene = topology_scene sc in
      let own : TopologyPart = alive_as st in
      let next : TopologyScene = changed N N.events (parts_with n own N.seat) link (sent ∷ []) in
      let fits : NodeFits N n (topology_state s) = alive_fits N n (alive_as s) refl (i.seats n (alive_as s) there) in
      let later : Later N next = changed_later N N.events (parts_with n own N.seat) link (sent ∷ [])
      (λ x f at.
      (elim (same_node n x) as (λ c. same_node n x ≡ c → IsLostOr next x (λ (g : TopologyState). (g.known ≡ f.known)
      × (g.installed ≡ f.installed))) [
        | true ↦ λ t.
            let same : topology_state s ≡ f =
            ap (λ (y : TopologyPart). y.state) (some_is (alive_as s) (record { life = life.Alive; state = f }) (sym there
            ∙ ap N.seat (same_node_true n x t) ∙ at)) in
            inr (record {
              state = topology_state st;
              there = ap (parts_with n own N.seat) (sym (same_node_true n x t))
                  ∙ put_same n own N.seat;
              holds =
                  (ap (λ (y : TopologyState). y.known) same, ap (λ (y : TopologyState). y.installed) same);
            })
        | false ↦ λ g. inr (record { state = f; there = put_other n own N.seat x g ∙ at; holds = (refl, refl) })
      ]) refl)
      (λ x y top o t. exact_after N next
      (λ z f at.
      (elim (same_node n z) as (λ c. same_node n z ≡ c → (g : TopologyState)
      × (N.seat z ≡ Some (record { life = life.Alive; state = g })) × (g.installed ≡ f.installed)) [
        | true ↦ λ e.
            let same : topology_state st ≡ f =
            ap (λ (y : TopologyPart). y.state) (some_is own (record { life = life.Alive; state = f })
            (sym (put_same n own N.seat) ∙ ap (parts_with n own N.seat) (same_node_true n z e) ∙ at)) in
            (topology_state s, ap N.seat (sym (same_node_true n z e)) ∙ there, ap (λ (y : TopologyState). y.installed) same)
        | false ↦ λ g. (f, sym (put_other n own N.seat z g) ∙ at, refl)
      ]) refl)
      x y top o t.3)
      (λ j within. (within, refl)) in
      let still : (x : NodeId) → is_lost sc.recs x ≡ false → is_lost (sc.recs ++ sent ∷ []) x ≡ false =
      λ x lives. lost_parts sc.recs (sent ∷ []) x ∙ (rw lives refl) in
      let q = node_later N next later n (topology_state s) (still n fits.not_lost) fits.member fits in
      let i2 : TopologyInvariant next = changed_inv N N.events (parts_with n own N.seat) link (sent ∷ []) later i.few
      (λ x lives. i.lefts x (not_lost_before sc.recs (sent ∷ []) x lives))
      (λ j within x is_in. later.seen first_top x (i.sat j within x is_in))
      (λ x y v. sent_once v x y (opens_on_link v (link x y)) (counts v x y))
      (λ to v. none_opened v to (Some n) (note.Sent out.to out.msg ∷ []) refl) refl (tt, tt)
      (put_elim n own N.seat (λ (x : NodeId) (y : TopologyPart). PartFits next x y.life y.state)
      (record {
        me_is = q.me_is;
        not_lost = q.not_lost;
        member = q.member;
        within = q.within;
        known_is = q.known_is;
        map_fits = q.map_fits;
        map_member = q.map_member;
        exchange_fits = q.exchange_fits;
        exchange_oldest = q.exchange_oldest;
        singles_tell = q.singles_tell;
        outbox_tells = each_rest (λ (x : Out). MessageTells next n x.to x.msg) s.outbox q.outbox_tells;
      })
      (λ x y other at.
      let before = i.seats x y at in
      seat_later N next later x y.life y.state (λ alive2. let z = alive_fits N x y alive2 before in
      (still x z.not_lost, z.member)) before))
      (λ x y. link_later N next later x y (link x y) (links x y))
      i in
      acts (record sc { link = link; recs = sc.recs ++ sent ∷ [] }) n st r.alive
      (subst (λ (rs : List Rec). TopologyInvariant (record next { recs = (sc.recs ++ sent ∷ []) ++ noted_by (Some n) rs }))
      (sym r.none_noted)
      (subst (λ (rs : List Noted). TopologyInvariant (record next { recs = rs })) (sym (append_none (sc.recs ++ sent ∷ [])))
      i2))

  tells : MessageTells (topology_scene sc) n out.to out.msg
  tells =
      let fits : NodeFits (topology_scene sc) n (topology_state s) = alive_fits (topology_scene sc) n (alive_as s) refl
      (i.seats n (alive_as s) there) in
      each_first (λ (x : Out). MessageTells (topology_scene sc) n x.to x.msg) s.outbox out head fits.outbox_tells

  more : (a b : ℕ) → a ≤ a + b
  more a b = omega arith

  pub drops_kept : TopologyInvariant (topology_scene (scenes.scene_in_act (scenes.scene_after_drop sc n out) n st))
  drops_kept = sent_over sc.link i.links (λ v x y. more (opens_on_link v (sc.link x y)) (bonus v x y))

  pushed_each : (x y : NodeId) (c d : Bool) → same_node n x ≡ c → same_node out.to y ≡ d →
      HoldsOfEach (MessageTells (topology_scene sc) x y) (if c && d then sc.link x y ++ out.msg ∷ [] else sc.link x y)
  pushed_each x y true true from to =
      let here : MessageTells (topology_scene sc) x y out.msg =
      subst (λ (z : NodeId). MessageTells (topology_scene sc) z y out.msg) (same_node_true n x from)
      (subst (λ (z : NodeId). MessageTells (topology_scene sc) n z out.msg) (same_node_true out.to y to) tells) in
      each_both (MessageTells (topology_scene sc) x y) (sc.link x y) (out.msg ∷ []) (i.links x y) (here, tt)
  pushed_each x y true false from to = i.links x y
  pushed_each x y false d from to = i.links x y

  pushed_counts : (v : TopVer) (ms : List Message) (c d : Bool) → opens_on_link v (if c && d then ms ++ out.msg ∷ [] else ms)
      ≤ opens_on_link v ms + (if c && (d && is_opens_of v out.msg) then 1 else 0)
  pushed_counts v ms true true = one_more (opens_on_link v (ms ++ out.msg ∷ [])) (opens_on_link v ms) (is_opens_of v out.msg)
      (count_parts (is_opens_of v) ms (out.msg ∷ []))
    where
      one_more : (now before : ℕ) (c : Bool) → now ≡ before + length (if c then out.msg ∷ [] else []) →
          now ≤ before + (if c then 1 else 0)
      one_more now before true parts = omega (arith, parts)
      one_more now before false parts = omega (arith, parts)
  pushed_counts v ms true false = more (opens_on_link v ms) 0
  pushed_counts v ms false d = more (opens_on_link v ms) 0

  pub moves_kept : TopologyInvariant (topology_scene (scenes.scene_in_act (scene_after_send sc n out) n st))
  moves_kept = sent_over (scene_after_send sc n out).link
      (λ x y. pushed_each x y (same_node n x) (same_node out.to y) refl refl)
      (λ v x y. pushed_counts v (sc.link x y) (same_node n x) (same_node out.to y))
