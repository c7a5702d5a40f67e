-- The invariant of starters is kept by each event.
use Rattle.std.proofs.Common.{◌≡◌, ◌≤◌, ◌<◌, ◌^◌, ◌++◌, ◌&&◌, ℕ, List, [], ◌∷◌, ◌⊎◌, inl, inr, not, Bool, true, false, if◌then◌else◌, Option, Some, None, refl, ap, sym, subst, ◌∙◌, arith}
use Rattle.std.specs.List.{fold, list_all}
use Rattle.std.specs.Ordering.{nat_cmp}
use Rattle.std.specs.Prelude.{drop, slice_get, suc, ◌||◌}
use Rattle.act_rows.specs.Acts.{after_message, after_see}
use Rattle.act_rows.specs.Closing.{after_closing_rules}
use Rattle.act_rows.specs.Commands.{after_answer, after_call, new_session_state}
use Rattle.act_rows.specs.Exchange.{after_learn, left_after}
use Rattle.act_rows.specs.NewNodes.{session_states_on, with_session_if_on}
use Rattle.act_rows.specs.Searches.{after_expire}
use Rattle.act_rows.specs.Steps.{session_state_of}
use Rattle.frame_laws.proofs.Extending.{append_none}
use Rattle.ignite_types.proofs.NameLaws.{same_node_itself, same_node_true}
use Rattle.ignite_types.specs.Names.{same_node}
use Rattle.ignite_types.specs.Placement.{capped}
use Rattle.ignite_types.specs.declared.journal.NoLoss.{NoLoss}
use Rattle.ignite_types.specs.declared.journal.Rec.{Rec}
use Rattle.ignite_types.specs.declared.journal.TopoEvent.{TopoEvent}
use Rattle.ignite_types.specs.declared.message.Message.{Message}
use Rattle.ignite_types.specs.declared.message.Out.{Out}
use Rattle.ignite_types.specs.declared.names.NodeId.{NodeId}
use Rattle.ignite_types.specs.declared.names.TopVer.{TopVer}
use Rattle.ignite_types.specs.declared.scenario.Member.{Member}
use Rattle.ignite_types.specs.declared.scenario.Scenario.{Scenario}
use Rattle.ignite_types.specs.declared.scenario.Session.{Session}
use Rattle.journal_statements.specs.Noted.{Noted, is_lost, noted_by, recs_of}
use Rattle.link_laws.proofs.Journals.{lost_parts}
use Rattle.map_laws.proofs.MapFrames.{lost_same, recs_parts}
use Rattle.node_state.specs.Node.{NodeState}
use Rattle.node_state.specs.declared.session.SessionState.{SessionState}
use Rattle.ordered_table.specs.Entries.{at, put}
use Rattle.part_model.specs.Directory.{first_top, with_answer_given, with_event}
use Rattle.part_model.specs.NextMap.{is_member}
use Rattle.scenes.proofs.Sounds.{turned}
use Rattle.scenes.specs.Events.{EachEventLeads, IsReady, IsSound, is_cache_switch, joiner_end, joiner_start}
use Rattle.scenes.specs.Scenes.{Scene, either_state, one_record, opening_scene, plan_records, scene_after_drop, scene_after_join, scene_after_loss, scene_after_send, scene_after_step, scene_after_take, scene_after_tick, scene_in_act, scene_with_directory, scene_with_records, state_at_rest}
use Rattle.std.proofs.lemmas.Cmp.{nat_cmp_total}
use Rattle.std.proofs.lemmas.Map.Lookups.{exact_unsigned}
use Rattle.topology_laws.proofs.Lists.{each_both, each_change, each_rest, each_with}
use Rattle.topology_laws.proofs.Records.{lost_more, or_second}
use Rattle.topology_laws.specs.TopologyFacts.{HoldsOfEach, is_leave_of, never_leaves}
use Rattle.tx_model.specs.World.{is_alive}
use Rattle.ignite_types.specs.declared.journal.Rec.TheVariants as note
use Rattle.ignite_types.specs.declared.journal.TopoEvent.TheVariants as topo
use Rattle.transaction_laws.proofs.StarterActs as acts
use Rattle.transaction_laws.proofs.StarterActs.{Held, starter_silent}
use Rattle.transaction_laws.proofs.StarterNotes.{each_at, lists_later, lossless_by, message_later, notes_more, other_recs, own_or_lost_by, own_or_lost_parts, own_recs, silent_of, silent_own}
use Rattle.transaction_laws.proofs.Tables.{put_elim}
use Rattle.transaction_laws.specs.LeavesStarters.{StarterFace, starter_face}
use Rattle.transaction_laws.specs.StarterFacts.{SessionFitsAt, StarterFits, is_aside}
use Rattle.transaction_laws.specs.StarterInvariant.{ActPast, IsLostLeaver, NodeFits, StarterInvariant}
use Rattle.transaction_laws.specs.StarterKits.{HasRoom}
use Rattle.transaction_laws.specs.StarterNotes.{AreOwnOrLost, IsOwnOrLost, MessageNamesLost, NotesFit, tells_no_loss, was_open_here}

-- Records that say nothing of starters.

abbrev AreSilent : List Noted → Type 0
AreSilent more = list_all (λ (x : Noted). is_aside x.rec) more ≡ true

node_more : (initial : Bool) (most : ℕ) (recs more : List Noted) (n : NodeId) (s : NodeState) → AreSilent more →
    NodeFits initial most recs n s → NodeFits initial most (recs ++ more) n s
node_more initial most recs more n s silent f =
    let own = silent_of n more silent in
    record {
      starter = subst (λ (rs : List Rec). StarterFits n rs s.txs s.session_states) (sym (recs_parts n recs more))
          (starter_silent n (recs_of n recs) (recs_of n more) s own f.starter);
      notes = subst (λ (rs : List Rec). NotesFit n initial most rs s.session_states s.opened) (sym (recs_parts n recs more))
          (notes_more n initial most (recs_of n recs) (recs_of n more) s.session_states s.opened own f.notes);
      lists = lists_later recs more s.left s.reports s.outbox f.lists;
    }

leaver_later : (recs more : List Noted) (e : TopoEvent) → IsLostLeaver recs e → IsLostLeaver (recs ++ more) e
leaver_later recs more (topo.Left n) lost = lost_more recs more n lost
leaver_later recs more (topo.Join m) lost = tt
leaver_later recs more topo.Minor lost = tt
leaver_later recs more (topo.Start cache) lost = tt
leaver_later recs more (topo.Stop cache) lost = tt

-- who leaves by some of these events
left_by : (es more : List TopoEvent) (n : NodeId) → (never_leaves n es ≡ false) ⊎ (never_leaves n more ≡ false) →
    never_leaves n (es ++ more) ≡ false
left_by [] more n (inl gone) = absurd (cc (gone))
left_by [] more n (inr gone) = gone
left_by (e ∷ es) more n gone = by (λ rest. left_by es more n rest) (not (is_leave_of n e)) gone
  where
    by : ((never_leaves n es ≡ false) ⊎ (never_leaves n more ≡ false) → never_leaves n (es ++ more) ≡ false) → (c : Bool) →
        ((c && never_leaves n es) ≡ false) ⊎ (never_leaves n more ≡ false) → (c && never_leaves n (es ++ more)) ≡ false
    by goes false gone = refl
    by goes true gone = goes gone

-- more silent records, and one more topology event at most
silent_kept : (k : ℕ) (sc : Scene) (more : List Noted) (events : List TopoEvent) → AreSilent more →
    HoldsOfEach (IsLostLeaver (sc.recs ++ more)) events →
    ((n : NodeId) → is_lost more n ≡ true → never_leaves n events ≡ false) → StarterInvariant k sc
    → StarterInvariant k (record sc {
      directory = record sc.directory { events = sc.directory.events ++ events };
      recs =
          sc.recs ++ more;
    })
silent_kept k sc more events silent lost leaves i = record {
  nodes = λ n. node_more (is_member sc.scenario.nodes n) k sc.recs more n (sc.state n) silent (i.nodes n);
  links = λ a b. each_change (MessageNamesLost sc.recs) (MessageNamesLost (sc.recs ++ more)) (sc.link a b)
      (λ m named. message_later sc.recs more m named) (i.links a b);
  leavers = each_both (IsLostLeaver (sc.recs ++ more)) sc.directory.events events
      (each_change (IsLostLeaver sc.recs) (IsLostLeaver (sc.recs ++ more)) sc.directory.events
      (λ e there. leaver_later sc.recs more e there) i.leavers) lost;
  losses = λ n gone. left_by sc.directory.events events n (by n (is_lost sc.recs n) refl (sym (lost_parts sc.recs more n)
      ∙ gone));
  own_or_lost = own_or_lost_parts [] sc.recs more i.own_or_lost (silent_own sc.recs more silent);
}
  where
    by : (n : NodeId) (c : Bool) → is_lost sc.recs n ≡ c → (c || is_lost more n) ≡ true →
        (never_leaves n sc.directory.events ≡ false) ⊎ (never_leaves n events ≡ false)
    by n true is now = inl (i.losses n is)
    by n false is now = inr (leaves n now)

-- and no event
records_kept : (k : ℕ) (sc : Scene) (more : List Noted) → AreSilent more → ((n : NodeId) → is_lost more n ≡ false) →
    StarterInvariant k sc → StarterInvariant k (scene_with_records sc more)
records_kept k sc more silent lossless i =
    let next = silent_kept k sc more [] silent tt (λ n lost. let none = lossless n in absurd (cc (none, lost))) i in
    record {
      nodes = next.nodes;
      links = next.links;
      leavers = subst (λ (es : List TopoEvent). HoldsOfEach (IsLostLeaver (sc.recs ++ more)) es)
          (append_none sc.directory.events) next.leavers;
      losses = λ n lost. subst (λ (es : List TopoEvent). never_leaves n es ≡ false) (append_none sc.directory.events)
          (next.losses n lost);
      own_or_lost = next.own_or_lost;
    }

-- one event more is counted
pub more_counted : (k : ℕ) (sc : Scene) → StarterInvariant k sc → StarterInvariant (suc k) sc
more_counted k sc i = record {
  nodes = λ n. let f = i.nodes n in record {
    starter = f.starter;
    notes = record {
      few = λ session d here. let below = f.notes.few session d here in omega (arith, below);
      opened_is =
          f.notes.opened_is;
      fit = f.notes.fit;
    };
    lists = f.lists;
  };
  links = i.links;
  leavers = i.leavers;
  losses = i.losses;
  own_or_lost = i.own_or_lost;
}

-- A node acts.

abbrev pub past_of : ℕ → Scene → NodeId → ActPast
past_of k sc n = record { me = n; initial = is_member sc.scenario.nodes n; most = k; recs = sc.recs }

-- what is known when an act begins
begins : (k : ℕ) (sc : Scene) (n : NodeId) (s : NodeState) (lives : is_lost sc.recs n ≡ false) → s.me ≡ n → s.noted ≡ [] →
    NodeFits (is_member sc.scenario.nodes n) k sc.recs n s → Held (past_of k sc n) lives s
begins k sc n s lives me none f =
    let same : recs_of n sc.recs ≡ recs_of n sc.recs ++ s.noted = sym (ap (λ (rs : List Rec). recs_of n sc.recs ++ rs) none
    ∙ append_none (recs_of n sc.recs)) in
    record {
      starter = subst (λ (x : NodeId). StarterFits x (recs_of n sc.recs ++ s.noted) s.txs s.session_states) (sym me)
          (subst (λ (rs : List Rec). StarterFits n rs s.txs s.session_states) same f.starter);
      face = record {
        me_is = me;
        notes = subst (λ (rs : List Rec). NotesFit n (is_member sc.scenario.nodes n) k rs s.session_states s.opened) same
            f.notes;
        lists = f.lists;
        own_or_lost = subst (λ (rs : List Rec). HoldsOfEach (IsOwnOrLost sc.recs (Some n)) rs) (sym none) tt;
        lossless = ap (λ (rs : List Rec). list_all tells_no_loss rs) none;
      };
    }

pub ready : (k : ℕ) (sc : Scene) (n : NodeId) (s : NodeState) (lives : is_lost sc.recs n ≡ false) → IsReady sc n s →
    StarterInvariant k sc → Held (past_of k sc n) lives s
ready k sc n s lives r i =
    let f : NodeFits (is_member sc.scenario.nodes n) k sc.recs n (state_at_rest s) =
    subst (λ (x : NodeState). NodeFits (is_member sc.scenario.nodes n) k sc.recs n x) r.state_is (i.nodes n) in
    begins k sc n s lives r.me_is r.none_noted (record { starter = f.starter; notes = f.notes; lists = f.lists })

-- what is known of the node in its act holds of the scene
ends : (k : ℕ) (sc : Scene) (n : NodeId) (s : NodeState) (lives : is_lost sc.recs n ≡ false) → StarterInvariant k sc →
    Held (past_of k sc n) lives s → StarterInvariant k (scene_in_act sc n s)
ends k sc n s lives i h = record {
  nodes = λ m. by m (same_node n m) refl;
  links = λ a b. each_change (MessageNamesLost sc.recs) (MessageNamesLost recs) (sc.link a b)
      (λ x named. message_later sc.recs more x named) (i.links a b);
  leavers = each_change (IsLostLeaver sc.recs) (IsLostLeaver recs) sc.directory.events
      (λ e there. leaver_later sc.recs more e there) i.leavers;
  losses = λ m lost. i.losses m (sym (lost_same sc.recs more m (λ x. lossless_by (Some n) s.noted h.face.lossless x)) ∙ lost);
  own_or_lost = own_or_lost_parts [] sc.recs more i.own_or_lost (subst (λ (rs : List Noted). AreOwnOrLost rs more)
      (append_none sc.recs) (own_or_lost_by sc.recs [] (Some n) s.noted h.face.own_or_lost));
}
  where
    more : List Noted
    more = noted_by (Some n) s.noted

    recs : List Noted
    recs = sc.recs ++ more

    by : (m : NodeId) (c : Bool) → same_node n m ≡ c → NodeFits (is_member sc.scenario.nodes m) k recs m
        (either_state c (state_at_rest s) (sc.state m))
    by m true same = subst (λ (x : NodeId). NodeFits (is_member sc.scenario.nodes x) k recs x
        (either_state true (state_at_rest s) (sc.state x))) (same_node_true n m same) (record {
          starter = subst (λ (x : NodeId). StarterFits x (recs_of n recs) s.txs s.session_states) h.face.me_is
              (subst (λ (rs : List Rec). StarterFits s.me rs s.txs s.session_states) (sym (own_recs n sc.recs s.noted)) h.starter);
          notes = subst (λ (rs : List Rec). NotesFit n (is_member sc.scenario.nodes n) k rs s.session_states s.opened)
              (sym (own_recs n sc.recs s.noted)) h.face.notes;
          lists = lists_later sc.recs more s.left s.reports s.outbox h.face.lists;
        })
    by m false other =
        let f = i.nodes m in
        record {
          starter = subst (λ (rs : List Rec). StarterFits m rs (sc.state m).txs (sc.state m).session_states)
              (sym (other_recs m n sc.recs s.noted other)) f.starter;
          notes = subst (λ (rs : List Rec). NotesFit m (is_member sc.scenario.nodes m) k rs (sc.state m).session_states
              (sc.state m).opened) (sym (other_recs m n sc.recs s.noted other)) f.notes;
          lists = lists_later sc.recs more (sc.state m).left (sc.state m).reports (sc.state m).outbox f.lists;
        }

acts_kept : (k : ℕ) (sc : Scene) (n : NodeId) (s b : NodeState) → IsSound sc → IsReady sc n s →
    ((lives : is_lost sc.recs n ≡ false) → Held (past_of k sc n) lives s → Held (past_of k sc n) lives b) →
    StarterInvariant k sc → StarterInvariant k (scene_in_act sc n b)
acts_kept k sc n s b sound r row i =
    let lives = sound.alive_kept n (ap is_alive r.alive) in
    ends k sc n b lives i (row lives (ready k sc n s lives r i))

pub ready_next : (sc next : Scene) (n : NodeId) (s : NodeState) → next.life n ≡ sc.life n → next.state n ≡ sc.state n →
    IsReady sc n s → IsReady next n s
ready_next sc next n s life state r = record {
  alive = life ∙ r.alive;
  me_is = r.me_is;
  none_noted = r.none_noted;
  state_is =
      state ∙ r.state_is;
}

-- the node itself is known by its state before the act
own_fits : (k : ℕ) (sc : Scene) (n : NodeId) (s : NodeState) → sc.state n ≡ state_at_rest s → StarterInvariant k sc →
    NodeFits (is_member sc.scenario.nodes n) k sc.recs n (state_at_rest s)
own_fits k sc n s is i = subst (λ (x : NodeState). NodeFits (is_member sc.scenario.nodes n) k sc.recs n x) is (i.nodes n)

-- A message is taken.

pub taken : (k : ℕ) (sc : Scene) (from n : NodeId) (m : Message) → StarterInvariant k sc →
    StarterInvariant k (scene_after_take sc from n m)
taken k sc from n m i =
    let next = records_kept k sc (one_record (Some n) (note.Deliver from m)) refl (λ x. refl) i in
    record {
      nodes = next.nodes;
      links = λ a b. by (same_node from a && same_node n b) (sc.link a b) (next.links a b);
      leavers = next.leavers;
      losses = next.losses;
      own_or_lost = next.own_or_lost;
    }
  where
    by : (c : Bool) (ms : List Message) → HoldsOfEach (MessageNamesLost (scene_after_take sc from n m).recs) ms →
        HoldsOfEach (MessageNamesLost (scene_after_take sc from n m).recs) (if c then drop 1 ms else ms)
    by true ms all = each_rest (MessageNamesLost (scene_after_take sc from n m).recs) ms all
    by false ms all = all

-- A message leaves the outbox.

sent : (k : ℕ) (sc next : Scene) (n : NodeId) (s : NodeState) (out : Out) → IsReady next n s → is_lost next.recs n ≡ false →
    StarterInvariant k next → StarterInvariant k (scene_in_act next n (record s { outbox = drop 1 s.outbox }))
sent k sc next n s out r lives i =
    let h = ready k next n s lives r i in
    ends k next n (record s { outbox = drop 1 s.outbox }) lives i (record {
      starter = h.starter;
      face = record {
        me_is = h.face.me_is;
        notes = h.face.notes;
        lists = record {
          left_lost = h.face.lists.left_lost;
          reports_lost = h.face.lists.reports_lost;
          outbox_lost = each_rest (λ (o : Out). MessageNamesLost next.recs o.msg) s.outbox h.face.lists.outbox_lost;
        };
        own_or_lost = h.face.own_or_lost;
        lossless = h.face.lossless;
      };
    })

first_named : (k : ℕ) (sc : Scene) (n : NodeId) (s : NodeState) (out : Out) → IsReady sc n s →
    s.outbox ≡ out ∷ drop 1 s.outbox → StarterInvariant k sc → MessageNamesLost sc.recs out.msg
first_named k sc n s out r first i =
    (subst (λ (os : List Out). HoldsOfEach (λ (o : Out). MessageNamesLost sc.recs o.msg) os) first
    (own_fits k sc n s r.state_is i).lists.outbox_lost).0

moved : (k : ℕ) (sc : Scene) (n : NodeId) (out : Out) → MessageNamesLost sc.recs out.msg → StarterInvariant k sc →
    StarterInvariant k (scene_after_send sc n out)
moved k sc n out named i =
    let one = one_record (Some n) (note.Sent out.to out.msg) in
    let next = records_kept k sc one refl (λ x. refl) i in
    record {
      nodes = next.nodes;
      links = λ a b. by (same_node n a && same_node out.to b) (sc.link a b) (next.links a b);
      leavers = next.leavers;
      losses = next.losses;
      own_or_lost = next.own_or_lost;
    }
  where
    by : (c : Bool) (ms : List Message) → HoldsOfEach (MessageNamesLost (scene_after_send sc n out).recs) ms →
        HoldsOfEach (MessageNamesLost (scene_after_send sc n out).recs) (if c then ms ++ out.msg ∷ [] else ms)
    by true ms all = each_both (MessageNamesLost (scene_after_send sc n out).recs) ms (out.msg ∷ []) all
        (message_later sc.recs (one_record (Some n) (note.Sent out.to out.msg)) out.msg named, tt)
    by false ms all = all

-- A node joins: it learns the events before its own.

learned_face : (es : List TopoEvent) (s : NodeState) → starter_face (fold after_learn s es) ≡ record (starter_face s) {
  left =
      (fold after_learn s es).left;
}
learned_face [] s = refl
learned_face (e ∷ es) s = learned_face es (after_learn s e)

learned_left : (recs : List Noted) (es : List TopoEvent) (s : NodeState) → HoldsOfEach (IsLostLeaver recs) es →
    HoldsOfEach (λ (n : NodeId). is_lost recs n ≡ true) s.left → HoldsOfEach (λ (n : NodeId). is_lost recs n ≡ true)
    (fold after_learn s es).left
learned_left recs [] s lost left = left
learned_left recs (e ∷ es) s lost left = learned_left recs es (after_learn s e) lost.1 (one e lost.0)
  where
    one : (e : TopoEvent) → IsLostLeaver recs e → HoldsOfEach (λ (n : NodeId). is_lost recs n ≡ true) (left_after s.left e)
    one (topo.Left n) gone = each_with (λ (x : NodeId). is_lost recs x ≡ true) s.left n gone left
    one (topo.Join m) gone = left
    one topo.Minor gone = left
    one (topo.Start cache) gone = left
    one (topo.Stop cache) gone = left

joined : (k : ℕ) (sc : Scene) (m : Member) → StarterInvariant k sc → StarterInvariant k (scene_after_join sc m)
joined k sc m i = let next = silent_kept k sc (plan_records sc None) (topo.Join m ∷ []) refl (tt, tt)
    (λ n lost. absurd (cc (lost))) i in record {
      nodes = next.nodes;
      links = next.links;
      leavers = next.leavers;
      losses =
          next.losses;
      own_or_lost = next.own_or_lost;
    }

-- what is known of a joiner, by its face
abbrev IsKnownBy : Scene → Scene → Member → NodeState → ℕ → StarterFace → Type 0
IsKnownBy sc next m s k f = NodeFits (is_member sc.scenario.nodes m.node) k next.recs m.node
    (record s {
      txs = f.txs;
      session_states = f.session_states;
      opened = f.opened;
      left = f.left;
      reports = f.reports;
      outbox = f.outbox;
    })

joins_kept : (k : ℕ) (sc : Scene) (m : Member) (s : NodeState) → IsSound sc → is_lost sc.recs m.node ≡ false →
    sc.state m.node ≡ state_at_rest s → StarterInvariant k sc →
    StarterInvariant k (scene_in_act (scene_after_join sc m) m.node (joiner_end sc m s))
joins_kept k sc m s sound new is i =
    let next = scene_after_join sc m in
    let after = joined k sc m i in
    let es = sc.directory.events in
    let known = fold after_learn s es in
    let start = joiner_start sc s in
    let lives : is_lost next.recs m.node ≡ false = lost_same sc.recs (plan_records sc None) m.node (λ x. refl) ∙ new in
    let me : s.me ≡ m.node = ap (λ (x : NodeState). x.me) (sym is) ∙ sound.me_is m.node in
    let own = own_fits k next m.node s is after in
    let face = learned_face es s in
    let lost = each_change (IsLostLeaver sc.recs) (IsLostLeaver next.recs) es
    (λ e there. leaver_later sc.recs (plan_records sc None) e there) i.leavers in
    let first : IsKnownBy sc next m s k (starter_face known) = subst (IsKnownBy sc next m s k) (sym face) (record {
      starter = own.starter;
      notes = own.notes;
      lists = record {
        left_lost = learned_left next.recs es s lost own.lists.left_lost;
        reports_lost =
            own.lists.reports_lost;
        outbox_lost = own.lists.outbox_lost;
      };
    }) in
    let h : Held (past_of k next m.node) lives start = begins k next m.node start lives (ap (λ (f : StarterFace). f.me) face
    ∙ me) refl (record { starter = first.starter; notes = first.notes; lists = first.lists }) in
    ends k next m.node (joiner_end sc m s) lives after
    (acts.closes (past_of k next m.node) lives (after_see start start.read (topo.Join m))
    (acts.sees (past_of k next m.node) lives start start.read (topo.Join m) tt h))

-- A node is lost.

lost_now : (sc : Scene) (n : NodeId) → is_lost (sc.recs ++ (plan_records sc None ++ one_record None (note.Lost n))) n ≡ true
lost_now sc n = lost_parts sc.recs (plan_records sc None ++ one_record None (note.Lost n)) n
    ∙ or_second (is_lost sc.recs n) (is_lost (plan_records sc None ++ one_record None (note.Lost n)) n)
    (rw (same_node_itself n) refl)

left_now : (n x : NodeId) → is_lost (one_record None (note.Lost n)) x ≡ true → never_leaves x (topo.Left n ∷ []) ≡ false
left_now n x lost = by (same_node n x) refl lost
  where
    by : (c : Bool) → same_node n x ≡ c → (c || false) ≡ true → (not (same_node x n) && true) ≡ false
    by true same l = rw (turned x n ∙ same) refl
    by false other l = absurd (cc (l))

loses_kept : (k : ℕ) (sc : Scene) (n : NodeId) → StarterInvariant k sc → StarterInvariant k (scene_after_loss sc n)
loses_kept k sc n i =
    let next = silent_kept k sc (plan_records sc None ++ one_record None (note.Lost n)) (topo.Left n ∷ []) refl
    (lost_now sc n, tt) (λ x lost. left_now n x lost) i in
    record {
      nodes = λ m. let f = next.nodes m in record { starter = f.starter; notes = f.notes; lists = f.lists };
      links = λ a b. by (same_node n a || same_node n b) (sc.link a b) (next.links a b);
      leavers = next.leavers;
      losses = next.losses;
      own_or_lost = next.own_or_lost;
    }
  where
    by : (c : Bool) (ms : List Message) → HoldsOfEach (MessageNamesLost (scene_after_loss sc n).recs) ms →
        HoldsOfEach (MessageNamesLost (scene_after_loss sc n).recs) (if c then [] else ms)
    by true ms all = tt
    by false ms all = all

-- Each event.

pub call_room : (k : ℕ) → k < 2 ^ 62 → (sc : Scene) (n : NodeId) (s : NodeState) → IsReady sc n s → StarterInvariant k sc →
    (session : ℕ) (d : SessionState) → session_state_of s session ≡ Some d → HasRoom (suc k) d
call_room k few sc n s r i session d here = let below = (own_fits k sc n s r.state_is i).notes.few session d here in
    (omega (arith, below), omega (arith, few))

calls_kept : (k : ℕ) → k < 2 ^ 62 → (sc : Scene) (n : NodeId) (s : NodeState) (session : ℕ) → IsSound sc → IsReady sc n s →
    StarterInvariant k sc → StarterInvariant (suc k) (scene_in_act sc n (after_closing_rules (after_call s session)))
calls_kept k few sc n s session sound r i =
    acts_kept (suc k) sc n s (after_closing_rules (after_call s session)) sound r
    (λ lives h. acts.closes (past_of (suc k) sc n) lives (after_call s session)
    (acts.calls (past_of (suc k) sc n) lives s session (λ d here. call_room k few sc n s r i session d here) h))
    (more_counted k sc i)

takes_kept : (k : ℕ) (sc : Scene) (n : NodeId) (s : NodeState) (from : NodeId) (m : Message) → IsSound sc → IsReady sc n s →
    sc.link from n ≡ m ∷ drop 1 (sc.link from n) → StarterInvariant k sc →
    StarterInvariant k (scene_in_act (scene_after_take sc from n m) n (after_closing_rules (after_message s from m)))
takes_kept k sc n s from m sound r first i =
    let next = scene_after_take sc from n m in
    let after = taken k sc from n m i in
    let one = one_record (Some n) (note.Deliver from m) in
    let lives : is_lost next.recs n ≡ false = lost_same sc.recs one n (λ x. refl) ∙ sound.alive_kept n (ap is_alive r.alive) in
    let named : MessageNamesLost next.recs m =
    message_later sc.recs one m (subst (λ (ms : List Message). HoldsOfEach (MessageNamesLost sc.recs) ms) first
    (i.links from n)).0 in
    let p = past_of k next n in
    ends k next n (after_closing_rules (after_message s from m)) lives after
    (acts.closes p lives (after_message s from m)
    (acts.messages p lives s from m named (ready k next n s lives (ready_next sc next n s refl refl r) after)))

sees_kept : (k : ℕ) (sc : Scene) (n : NodeId) (s : NodeState) (e : TopoEvent) → IsSound sc → IsReady sc n s →
    slice_get sc.directory.events s.read ≡ Some e → StarterInvariant k sc →
    StarterInvariant k (scene_in_act sc n (after_closing_rules (after_see s s.read e)))
sees_kept k sc n s e sound r there i =
    acts_kept k sc n s (after_closing_rules (after_see s s.read e)) sound r
    (λ lives h. acts.closes (past_of k sc n) lives (after_see s s.read e)
    (acts.sees (past_of k sc n) lives s s.read e
    (each_at (IsLostLeaver sc.recs) sc.directory.events s.read e there i.leavers) h)) i

moves_kept : (k : ℕ) (sc : Scene) (n : NodeId) (s : NodeState) (out : Out) → IsSound sc → IsReady sc n s →
    s.outbox ≡ out ∷ drop 1 s.outbox → StarterInvariant k sc →
    StarterInvariant k (scene_in_act (scene_after_send sc n out) n (record s { outbox = drop 1 s.outbox }))
moves_kept k sc n s out sound r first i =
    let next = scene_after_send sc n out in
    sent k sc next n s out (ready_next sc next n s refl refl r)
    (lost_same sc.recs (one_record (Some n) (note.Sent out.to out.msg)) n (λ x. refl)
    ∙ sound.alive_kept n (ap is_alive r.alive))
    (moved k sc n out (first_named k sc n s out r first i) i)

drops_kept : (k : ℕ) (sc : Scene) (n : NodeId) (s : NodeState) (out : Out) → IsSound sc → IsReady sc n s →
    StarterInvariant k sc → StarterInvariant k
    (scene_in_act (scene_after_drop sc n out) n (record s { outbox = drop 1 s.outbox }))
drops_kept k sc n s out sound r i =
    let next = scene_after_drop sc n out in
    sent k sc next n s out (ready_next sc next n s refl refl r)
    (lost_same sc.recs (one_record (Some n) (note.Sent out.to out.msg)) n (λ x. refl)
    ∙ sound.alive_kept n (ap is_alive r.alive))
    (records_kept k sc (one_record (Some n) (note.Sent out.to out.msg)) refl (λ x. refl) i)

answers_kept : (k : ℕ) (sc : Scene) (n : NodeId) (s : NodeState) (session : ℕ) → IsSound sc → IsReady sc n s →
    StarterInvariant k sc → StarterInvariant k (scene_in_act (scene_with_directory sc (with_answer_given sc.directory)) n
    (after_answer s session))
answers_kept k sc n s session sound r i =
    let next = scene_with_directory sc (with_answer_given sc.directory) in
    let after : StarterInvariant k next = record {
      nodes = i.nodes;
      links = i.links;
      leavers = i.leavers;
      losses = i.losses;
      own_or_lost = i.own_or_lost;
    } in
    let lives = sound.alive_kept n (ap is_alive r.alive) in
    ends k next n (after_answer s session) lives after (acts.answers (past_of k next n) lives s session
    (ready k next n s lives (ready_next sc next n s refl refl r) after))

switch_kept : (k : ℕ) (sc : Scene) (e : TopoEvent) → IsLostLeaver (sc.recs ++ plan_records sc None) e →
    StarterInvariant k sc → StarterInvariant k (scene_after_step sc (with_event sc.directory e) None)
switch_kept k sc e lost i = let next = silent_kept k sc (plan_records sc None) (e ∷ []) refl (lost, tt)
    (λ n gone. absurd (cc (gone))) i in record {
      nodes = next.nodes;
      links = next.links;
      leavers = next.leavers;
      losses =
          next.losses;
      own_or_lost = next.own_or_lost;
    }

not_left : (recs : List Noted) (e : TopoEvent) → is_cache_switch e ≡ true → IsLostLeaver recs e
not_left recs (topo.Start cache) is = tt
not_left recs (topo.Stop cache) is = tt
not_left recs topo.Minor is = tt
not_left recs (topo.Join m) is = tt
not_left recs (topo.Left n) is = absurd (cc (is))

minor_kept : (k : ℕ) (sc : Scene) → StarterInvariant k sc →
    StarterInvariant k (scene_with_directory sc (with_event sc.directory topo.Minor))
minor_kept k sc i =
    let next = silent_kept k sc [] (topo.Minor ∷ []) refl (tt, tt) (λ n gone. absurd (cc (gone))) i in
    subst (λ (rs : List Noted). StarterInvariant k (record (scene_with_directory sc (with_event sc.directory topo.Minor)) {
      recs = rs;
    })) (append_none sc.recs) (record {
      nodes = next.nodes;
      links = next.links;
      leavers = next.leavers;
      losses =
          next.losses;
      own_or_lost = next.own_or_lost;
    })

plans_kept : (k : ℕ) (sc : Scene) (refused : Option NoLoss) → StarterInvariant k sc →
    StarterInvariant k (scene_after_step sc sc.directory refused)
plans_kept k sc refused i = let next = records_kept k sc (plan_records sc refused) refl (λ x. refl) i in
    record {
      nodes = next.nodes;
      links = next.links;
      leavers = next.leavers;
      losses = next.losses;
      own_or_lost =
          next.own_or_lost;
    }

ticks_kept : (k : ℕ) (sc : Scene) (to : ℕ) → StarterInvariant k sc → StarterInvariant k (scene_after_tick sc to)
ticks_kept k sc to i =
    let next = records_kept k sc (one_record None (note.Tick to)) refl (λ x. refl) i in
    record {
      nodes = λ n. let f = next.nodes n in record { starter = f.starter; notes = f.notes; lists = f.lists };
      links =
          next.links;
      leavers = next.leavers;
      losses = next.losses;
      own_or_lost = next.own_or_lost;
    }

pub starters_lead : (k : ℕ) → k < 2 ^ 62 → EachEventLeads (StarterInvariant k) (StarterInvariant (suc k))
starters_lead k few = record {
  answers = λ sc n s session sound r may i. more_counted k _ (answers_kept k sc n s session sound r i);
  calls = λ sc n s session sound r may i. calls_kept k few sc n s session sound r i;
  takes = λ sc n s from m sound r first i. more_counted k _ (takes_kept k sc n s from m sound r first i);
  expires = λ sc n s tx sound r own due i.
      more_counted k _ (acts_kept k sc n s (after_closing_rules (after_expire s tx)) sound r
      (λ lives h. acts.closes (past_of k sc n) lives (after_expire s tx) (acts.expires (past_of k sc n) lives s tx due h)) i);
  sees = λ sc n s e sound r there i. more_counted k _ (sees_kept k sc n s e sound r there i);
  switches = λ sc n s sound r may same i. more_counted k _ (minor_kept k sc i);
  moves = λ sc n s out sound r first i. more_counted k _ (moves_kept k sc n s out sound r first i);
  drops = λ sc n s out sound r first away i. more_counted k _ (drops_kept k sc n s out sound r i);
  joins = λ sc m s sound absent new is i. more_counted k _ (joins_kept k sc m s sound new is i);
  loses = λ sc n sound lives i. more_counted k _ (loses_kept k sc n i);
  plans = λ sc refused sound i. more_counted k _ (plans_kept k sc refused i);
  starts = λ sc e sound is i. more_counted k _ (switch_kept k sc e (not_left (sc.recs ++ plan_records sc None) e is) i);
  ticks = λ sc to sound i. more_counted k _ (ticks_kept k sc to i);
  breaks = λ sc n sound i. more_counted k _ (records_kept k sc (one_record (Some n) note.Memory) refl (λ x. refl) i);
}

-- The opening: no session has given a command.

abbrev IsFresh : Option SessionState → Type 0
IsFresh None = Unit {0}
IsFresh (Some d) = (d.tx ≡ None) × (d.ready ≡ None) × (d.wake ≡ None) × (d.started ≡ 0)

fresh_if_on : (n : NodeId) (number : ℕ) (session_states : List (ℕ × SessionState)) (x : Session) →
    ((m : ℕ) → IsFresh (at nat_cmp session_states m)) → (m : ℕ) →
    IsFresh (at nat_cmp (with_session_if_on n number session_states x) m)
fresh_if_on n number session_states x all =
    elim (same_node x.node n) as (λ b. (m : ℕ) →
    IsFresh (at nat_cmp (if b then put nat_cmp session_states number (new_session_state x.commands) else session_states)
    m)) [
      | true ↦ put_elim nat_cmp nat_cmp_total exact_unsigned (λ m z. IsFresh z) session_states number
          (new_session_state x.commands) (refl, refl, refl, refl) (λ m ne. all m)
      | false ↦ all
    ]

fresh_on : (n : NodeId) (number : ℕ) (session_states : List (ℕ × SessionState)) (xs : List Session) →
    ((m : ℕ) → IsFresh (at nat_cmp session_states m)) → (m : ℕ) →
    IsFresh (at nat_cmp (session_states_on n number session_states xs) m)
fresh_on n number session_states [] all = all
fresh_on n number session_states (x ∷ xs) all = fresh_on n (capped number 1) (with_session_if_on n number session_states x) xs
    (fresh_if_on n number session_states x all)

fresh_fits : (me : NodeId) (m : ℕ) (d : Option SessionState) → IsFresh d → SessionFitsAt me [] m d
fresh_fits me m None f = tt
fresh_fits me m (Some d) f = record {
  named = λ tx is. absurd (let none = f.0 in cc (none, is));
  there = λ tx is. absurd (let none = f.0 in cc (none, is));
  calm = λ none. (f.1, f.2);
  rests = λ free tx e is. absurd (let none = f.0 in cc (none, is));
  begins = λ c given starts tx e is. absurd (let none = f.0 in cc (none, is));
}

pub starters_open : (s : Scenario) → StarterInvariant 0 (opening_scene s)
starters_open s = record {
  nodes = λ n. record {
    starter = record {
      up = tt;
      entries = λ tx. tt;
      sessions = λ m. fresh_fits n m (at nat_cmp (session_states_on n 1 [] s.sessions) m) (fresh n m);
      fresh = λ tx d own here less. record { undecided = refl; unstarted = refl };
    };
    notes = record {
      few = λ session d here. none_started (at nat_cmp (session_states_on n 1 [] s.sessions) session) (fresh n session) d here;
      opened_is = λ top is. first_open (is_member s.nodes n) top is;
      fit = tt;
    };
    lists = record { left_lost = tt; reports_lost = tt; outbox_lost = tt };
  };
  links = λ a b. tt;
  leavers = tt;
  losses = λ n lost. absurd (cc (lost));
  own_or_lost = tt;
}
  where
    fresh : (n : NodeId) (m : ℕ) → IsFresh (at nat_cmp (session_states_on n 1 [] s.sessions) m)
    fresh n m = fresh_on n 1 [] s.sessions (λ x. tt) m

    none_started : (o : Option SessionState) → IsFresh o → (d : SessionState) → o ≡ Some d → d.started ≤ 0
    none_started None f d here = absurd (cc (here))
    none_started (Some x) f d here =
        let same : x ≡ d = cc (here) in
        let none : d.started ≡ 0 = ap (λ (z : SessionState). z.started) (sym same) ∙ f.3 in
        omega (arith, none)

    first_open : (initial : Bool) (top : TopVer) → (if initial then Some first_top else None) ≡ Some top →
        was_open_here initial [] top ≡ true
    first_open true top is = let same : first_top ≡ top = cc (is) in
        subst (λ (v : TopVer). was_open_here true [] v ≡ true) same refl
    first_open false top is = absurd (cc (is))
