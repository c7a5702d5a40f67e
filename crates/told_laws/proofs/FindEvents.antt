-- Each event keeps what is on its way between starters and primaries right.
use Rattle.std.proofs.Common.{◌≡◌, ◌<◌, ◌^◌, ◌++◌, ◌&&◌, ◌||◌, ℕ, List, [], ◌∷◌, Bool, true, false, if◌then◌else◌, Option, Some, None, refl, ap, sym, subst, ◌∙◌}
use Rattle.std.specs.List.{list_all}
use Rattle.std.specs.Prelude.{drop, fold, suc}
use Rattle.act_rows.specs.Acts.{after_message, after_see}
use Rattle.act_rows.specs.Closing.{after_closing_rules}
use Rattle.act_rows.specs.Commands.{after_answer, after_call}
use Rattle.act_rows.specs.Exchange.{after_learn}
use Rattle.act_rows.specs.Searches.{after_expire, is_overdue}
use Rattle.frame_laws.proofs.Extending.{append_none}
use Rattle.ignite_types.proofs.NameLaws.{same_node_true}
use Rattle.ignite_types.specs.Names.{same_node}
use Rattle.ignite_types.specs.declared.journal.Rec.{Rec}
use Rattle.ignite_types.specs.declared.journal.TopoEvent.{TopoEvent}
use Rattle.ignite_types.specs.declared.message.Message.{Message}
use Rattle.ignite_types.specs.declared.message.Out.{Out}
use Rattle.ignite_types.specs.declared.names.NodeId.{NodeId}
use Rattle.ignite_types.specs.declared.names.TxId.{TxId}
use Rattle.ignite_types.specs.declared.scenario.Member.{Member}
use Rattle.ignite_types.specs.declared.scenario.Scenario.{Scenario}
use Rattle.journal_statements.specs.Noted.{Noted, is_lost, noted_by, recs_of}
use Rattle.map_laws.proofs.MapFrames.{lost_same}
use Rattle.node_state.specs.Node.{NodeState}
use Rattle.part_model.specs.Directory.{with_answer_given}
use Rattle.scenes.specs.Events.{EachEventLeads, IsReady, IsSound, joiner_end, joiner_start}
use Rattle.scenes.specs.Scenes.{Scene, one_record, opening_scene, plan_records, scene_after_drop, scene_after_join, scene_after_loss, scene_after_send, scene_after_take, scene_in_act, scene_with_directory, scene_with_records, state_at_rest}
use Rattle.told_laws.proofs.FindRows.{answers_send, calls_send, closes_send, expires_send, messages_send, sees_send, sends_then}
use Rattle.told_laws.proofs.OwnRecords.{answer_notes, call_notes, closed_notes, expire_notes, message_notes, see_notes}
use Rattle.told_laws.specs.FindFacts.{FindInvariant, FindsFit, SendsRight, is_no_message}
use Rattle.told_laws.specs.ToldLaws.{is_recorded_right}
use Rattle.told_laws.specs.LeavesAccesses.{AccessFace, access_face, is_right, is_sent_right}
use Rattle.topology_laws.specs.TopologyFacts.{HoldsOfEach}
use Rattle.transaction_laws.proofs.LeavesStarters.{all_of_both}
use Rattle.transaction_laws.proofs.StarterActs as acts
use Rattle.transaction_laws.proofs.StarterActs.{Held, starter_silent}
use Rattle.transaction_laws.proofs.StarterEvents.{call_room, past_of, ready, ready_next, starters_lead, starters_open, taken}
use Rattle.transaction_laws.proofs.StarterNotes.{message_later}
use Rattle.transaction_laws.specs.StarterFacts.{StarterFits, StarterInAct}
use Rattle.transaction_laws.specs.StarterInvariant.{StarterInvariant}
use Rattle.transaction_laws.specs.StarterNotes.{MessageNamesLost}
use Rattle.tx_model.specs.World.{is_alive}
use Rattle.ignite_types.specs.declared.journal.Rec.TheVariants as note
use Rattle.ignite_types.specs.declared.journal.TopoEvent.TheVariants as topo

-- Records.

none_told : (who : Option NodeId) (rs : List Rec) → list_all is_no_message rs ≡ true →
    list_all is_recorded_right (noted_by who rs) ≡ true
none_told who [] none = refl
none_told who (note.Sent to m ∷ rs) none = absurd (cc (none))
none_told who (note.Deliver from m ∷ rs) none = absurd (cc (none))
none_told None (_ ∷ rs) none = none_told None rs none
none_told (Some n) (_ ∷ rs) none = none_told (Some n) rs none

-- A node acts.

acted : (sc : Scene) (n : NodeId) (a b : NodeState) → a.me ≡ n → list_all (is_sent_right n) a.outbox ≡ true →
    list_all is_no_message b.noted ≡ true → SendsRight a b → FindsFit sc → FindsFit (scene_in_act sc n b)
acted sc n a b me before none sends f = record {
  outs = λ m. by m (same_node n m) refl;
  links = f.links;
  told = all_of_both is_recorded_right sc.recs (noted_by (Some n) b.noted) f.told (none_told (Some n) b.noted none);
}
  where
    after : list_all (is_sent_right n) b.outbox ≡ true
    after = subst (λ (x : NodeId). list_all (is_sent_right x) b.outbox ≡ true) me
        (sends.right (subst (λ (x : NodeId). list_all (is_sent_right x) a.outbox ≡ true) (sym me) before))

    by : (m : NodeId) (c : Bool) → same_node n m ≡ c →
        list_all (is_sent_right m) (if c then b.outbox else (sc.state m).outbox) ≡ true
    by m true same = subst (λ (x : NodeId). list_all (is_sent_right x) b.outbox ≡ true) (same_node_true n m same) after
    by m false other = f.outs m

-- what a node that is about to act has in its outbox
own_outs : (sc : Scene) (n : NodeId) (s : NodeState) → sc.state n ≡ state_at_rest s → FindsFit sc →
    list_all (is_sent_right n) s.outbox ≡ true
own_outs sc n s is f = subst (λ (x : NodeState). list_all (is_sent_right n) x.outbox ≡ true) is (f.outs n)

acts_kept : (sc : Scene) (n : NodeId) (s b : NodeState) → IsReady sc n s →
    (list_all is_no_message s.noted ≡ true → list_all is_no_message b.noted ≡ true) → SendsRight s b → FindsFit sc →
    FindsFit (scene_in_act sc n b)
acts_kept sc n s b r notes sends f = acted sc n s b r.me_is (own_outs sc n s r.state_is f)
    (notes (subst (λ (rs : List Rec). list_all is_no_message rs ≡ true) (sym r.none_noted) refl)) sends f

-- more records, none of a message that was taken
more_records : (sc : Scene) (more : List Noted) → list_all is_recorded_right more ≡ true → FindsFit sc →
    FindsFit (scene_with_records sc more)
more_records sc more told f = record {
  outs = f.outs;
  links = f.links;
  told =
      all_of_both is_recorded_right sc.recs more f.told told;
}

-- Messages.

rest_right : (a b : NodeId) (ms : List Message) → list_all (is_right a b) ms ≡ true → list_all (is_right a b) (drop 1 ms) ≡ true
rest_right a b [] all = refl
rest_right a b (m ∷ ms) all = elim (is_right a b m) as (λ c. (c && list_all (is_right a b) ms) ≡ true →
    list_all (is_right a b) ms ≡ true) [ true ↦ λ rest. rest | false ↦ λ none. absurd (cc) ] all

first_right : (a b : NodeId) (m : Message) (ms : List Message) → list_all (is_right a b) (m ∷ ms) ≡ true → is_right a b m ≡ true
first_right a b m ms all = elim (is_right a b m) as (λ c. (c && list_all (is_right a b) ms) ≡ true → c ≡ true) [
  | true ↦
      λ rest. refl
  | false ↦ λ none. absurd (cc)
] all

first_out : (n : NodeId) (o : Out) (os : List Out) → list_all (is_sent_right n) (o ∷ os) ≡ true → is_right n o.to o.msg ≡ true
first_out n o os all = elim (is_right n o.to o.msg) as (λ c. (c && list_all (is_sent_right n) os) ≡ true → c ≡ true) [
  | true ↦
      λ rest. refl
  | false ↦ λ none. absurd (cc)
] all

rest_outs : (n : NodeId) (os : List Out) → list_all (is_sent_right n) os ≡ true → list_all (is_sent_right n) (drop 1 os) ≡ true
rest_outs n [] all = refl
rest_outs n (o ∷ os) all = elim (is_sent_right n o) as (λ c. (c && list_all (is_sent_right n) os) ≡ true →
    list_all (is_sent_right n) os ≡ true) [ true ↦ λ rest. rest | false ↦ λ none. absurd (cc) ] all

on_link : (sc : Scene) (from n : NodeId) (m : Message) → sc.link from n ≡ m ∷ drop 1 (sc.link from n) → FindsFit sc →
    is_right from n m ≡ true
on_link sc from n m first f =
    first_right from n m (drop 1 (sc.link from n)) (subst (λ (ms : List Message). list_all (is_right from n) ms ≡ true) first
    (f.links from n))

took : (sc : Scene) (from n : NodeId) (m : Message) → is_right from n m ≡ true → FindsFit sc →
    FindsFit (scene_after_take sc from n m)
took sc from n m right f = record {
  outs = f.outs;
  links = λ a b. by a b (same_node from a && same_node n b);
  told = all_of_both is_recorded_right sc.recs (one_record (Some n) (note.Deliver from m)) f.told (rw right refl);
}
  where
    by : (a b : NodeId) (c : Bool) → list_all (is_right a b) (if c then drop 1 (sc.link a b) else sc.link a b) ≡ true
    by a b true = rest_right a b (sc.link a b) (f.links a b)
    by a b false = f.links a b

sent_on : (sc : Scene) (n : NodeId) (out : Out) → is_right n out.to out.msg ≡ true → FindsFit sc →
    FindsFit (scene_after_send sc n out)
sent_on sc n out right f = record {
  outs = f.outs;
  links = λ a b. by a b (same_node n a) (same_node out.to b) refl refl;
  told = all_of_both is_recorded_right sc.recs (one_record (Some n) (note.Sent out.to out.msg)) f.told (rw right refl);
}
  where
    by : (a b : NodeId) (c d : Bool) → same_node n a ≡ c → same_node out.to b ≡ d →
        list_all (is_right a b) (if c && d then sc.link a b ++ out.msg ∷ [] else sc.link a b) ≡ true
    by a b true true one two =
        let here : is_right a b out.msg ≡ true = subst (λ (x : NodeId). is_right x b out.msg ≡ true) (same_node_true n a one)
        (subst (λ (x : NodeId). is_right n x out.msg ≡ true) (same_node_true out.to b two) right) in
        all_of_both (is_right a b) (sc.link a b) (out.msg ∷ []) (f.links a b) (rw here refl)
    by a b true false one two = f.links a b
    by a b false d one two = f.links a b

oldest_right : (sc : Scene) (n : NodeId) (s : NodeState) (out : Out) → IsReady sc n s → s.outbox ≡ out ∷ drop 1 s.outbox →
    FindsFit sc → is_right n out.to out.msg ≡ true
oldest_right sc n s out r first f =
    first_out n out (drop 1 s.outbox) (subst (λ (os : List Out). list_all (is_sent_right n) os ≡ true) first
    (own_outs sc n s r.state_is f))

-- the oldest message has left the outbox
without_first : (sc : Scene) (n : NodeId) (s : NodeState) → IsReady sc n s → FindsFit sc →
    FindsFit (scene_in_act sc n (record s { outbox = drop 1 s.outbox }))
without_first sc n s r f =
    acted sc n (record s { outbox = drop 1 s.outbox }) (record s { outbox = drop 1 s.outbox }) r.me_is
    (rest_outs n s.outbox (own_outs sc n s r.state_is f)) (subst (λ (rs : List Rec). list_all is_no_message rs ≡ true)
    (sym r.none_noted) refl)
    (record { same_me = refl; right = λ all. all }) f

-- Acts.

module _ (k : ℕ) (few : k < 2 ^ 62) where
  lives : (sc : Scene) (n : NodeId) (s : NodeState) → IsSound sc → IsReady sc n s → is_lost sc.recs n ≡ false
  lives sc n s sound r = sound.alive_kept n (ap is_alive r.alive)

  held : (sc : Scene) (n : NodeId) (s : NodeState) (stays : is_lost sc.recs n ≡ false) → IsReady sc n s →
      StarterInvariant k sc → StarterInAct (recs_of n sc.recs) s
  held sc n s stays r i = (ready k sc n s stays r i).starter

  answers_kept : (sc : Scene) (n : NodeId) (s : NodeState) (session : ℕ) → IsSound sc → IsReady sc n s → FindInvariant k sc →
      FindsFit (scene_in_act (scene_with_directory sc (with_answer_given sc.directory)) n (after_answer s session))
  answers_kept sc n s session sound r i =
      let next = scene_with_directory sc (with_answer_given sc.directory) in
      let f : FindsFit next = record { outs = i.finds.outs; links = i.finds.links; told = i.finds.told } in
      acts_kept next n s (after_answer s session) (ready_next sc next n s refl refl r) (answer_notes s session)
      (answers_send (recs_of n sc.recs) k s session (held sc n s (lives sc n s sound r) r i.starters)).1 f

  calls_kept : (sc : Scene) (n : NodeId) (s : NodeState) (session : ℕ) → IsSound sc → IsReady sc n s → FindInvariant k sc →
      FindsFit (scene_in_act sc n (after_closing_rules (after_call s session)))
  calls_kept sc n s session sound r i =
      let past = recs_of n sc.recs in
      let row = after_call s session in
      let first = calls_send past (suc k) s session (λ d here. call_room k few sc n s r i.starters session d here)
      (held sc n s (lives sc n s sound r) r i.starters) in
      let last = closes_send past k row first.0 in
      acts_kept sc n s (after_closing_rules row) r (λ none. closed_notes row (call_notes s session none))
      (sends_then s row (after_closing_rules row) first.1 last.1) i.finds

  expires_kept : (sc : Scene) (n : NodeId) (s : NodeState) (tx : TxId) → IsSound sc → IsReady sc n s →
      is_overdue s tx ≡ true → FindInvariant k sc → FindsFit (scene_in_act sc n (after_closing_rules (after_expire s tx)))
  expires_kept sc n s tx sound r due i =
      let past = recs_of n sc.recs in
      let row = after_expire s tx in
      let first = expires_send past k s tx due (held sc n s (lives sc n s sound r) r i.starters) in
      let last = closes_send past k row first.0 in
      acts_kept sc n s (after_closing_rules row) r (λ none. closed_notes row (expire_notes s tx none))
      (sends_then s row (after_closing_rules row) first.1 last.1) i.finds

  sees_kept : (sc : Scene) (n : NodeId) (s : NodeState) (e : TopoEvent) → IsSound sc → IsReady sc n s → FindInvariant k sc →
      FindsFit (scene_in_act sc n (after_closing_rules (after_see s s.read e)))
  sees_kept sc n s e sound r i =
      let past = recs_of n sc.recs in
      let row = after_see s s.read e in
      let first = sees_send past k s s.read e (held sc n s (lives sc n s sound r) r i.starters) in
      let last = closes_send past k row first.0 in
      acts_kept sc n s (after_closing_rules row) r (λ none. closed_notes row (see_notes s s.read e none))
      (sends_then s row (after_closing_rules row) first.1 last.1) i.finds

  takes_kept : (sc : Scene) (n : NodeId) (s : NodeState) (from : NodeId) (m : Message) → IsSound sc → IsReady sc n s →
      sc.link from n ≡ m ∷ drop 1 (sc.link from n) → FindInvariant k sc →
      FindsFit (scene_in_act (scene_after_take sc from n m) n (after_closing_rules (after_message s from m)))
  takes_kept sc n s from m sound r first i =
      let next = scene_after_take sc from n m in
      let one = one_record (Some n) (note.Deliver from m) in
      let right = on_link sc from n m first i.finds in
      let after = taken k sc from n m i.starters in
      let stays : is_lost next.recs n ≡ false = lost_same sc.recs one n (λ x. refl) ∙ lives sc n s sound r in
      let r2 = ready_next sc next n s refl refl r in
      let named : MessageNamesLost next.recs m =
      message_later sc.recs one m (subst (λ (ms : List Message). HoldsOfEach (MessageNamesLost sc.recs) ms) first
      (i.starters.links from n)).0 in
      let row = after_message s from m in
      let here = ready k next n s stays r2 after in
      let p = past_of k next n in
      let done = acts.messages p stays s from m named here in
      let sent = messages_send (recs_of n next.recs) k s from m (subst (λ (x : NodeId). is_right from x m ≡ true)
      (sym r.me_is) right) here.starter in
      let last = closes_send (recs_of n next.recs) k row done.starter in
      acts_kept next n s (after_closing_rules row) r2 (λ none. closed_notes row (message_notes s from m none))
      (sends_then s row (after_closing_rules row) sent last.1) (took sc from n m right i.finds)

  moves_kept : (sc : Scene) (n : NodeId) (s : NodeState) (out : Out) → IsReady sc n s → s.outbox ≡ out ∷ drop 1 s.outbox →
      FindInvariant k sc → FindsFit (scene_in_act (scene_after_send sc n out) n (record s { outbox = drop 1 s.outbox }))
  moves_kept sc n s out r first i =
      let right = oldest_right sc n s out r first i.finds in
      without_first (scene_after_send sc n out) n s (ready_next sc (scene_after_send sc n out) n s refl refl r)
      (sent_on sc n out right i.finds)

  drops_kept : (sc : Scene) (n : NodeId) (s : NodeState) (out : Out) → IsReady sc n s → s.outbox ≡ out ∷ drop 1 s.outbox →
      FindInvariant k sc → FindsFit (scene_in_act (scene_after_drop sc n out) n (record s { outbox = drop 1 s.outbox }))
  drops_kept sc n s out r first i =
      without_first (scene_after_drop sc n out) n s (ready_next sc (scene_after_drop sc n out) n s refl refl r)
      (more_records sc (one_record (Some n) (note.Sent out.to out.msg))
      (rw (oldest_right sc n s out r first i.finds) refl) i.finds)

  -- A node joins.

  learned : (es : List TopoEvent) (s : NodeState) → access_face (fold after_learn s es) ≡ access_face s
  learned [] s = refl
  learned (e ∷ es) s = learned es (after_learn s e)

  joins_kept : (sc : Scene) (m : Member) (s : NodeState) → IsSound sc → sc.state m.node ≡ state_at_rest s →
      FindInvariant k sc → FindsFit (scene_in_act (scene_after_join sc m) m.node (joiner_end sc m s))
  joins_kept sc m s sound is i =
      let next = scene_after_join sc m in
      let past = recs_of m.node sc.recs in
      let start = joiner_start sc s in
      let face = learned sc.directory.events s in
      let own : StarterFits m.node past s.txs s.session_states =
      subst (λ (x : NodeState). StarterFits m.node past x.txs x.session_states) is (i.starters.nodes m.node).starter in
      let me : s.me ≡ m.node = ap (λ (x : NodeState). x.me) (sym is) ∙ sound.me_is m.node in
      let first : StarterInAct past start =
      subst (λ (f : AccessFace). StarterFits f.me (past ++ []) f.txs f.session_states) (sym face)
      (subst (λ (rs : List Rec). StarterFits s.me rs s.txs s.session_states) (sym (append_none past))
      (subst (λ (x : NodeId). StarterFits x past s.txs s.session_states) (sym me) own)) in
      let row = after_see start start.read (topo.Join m) in
      let seen = sees_send past k start start.read (topo.Join m) first in
      let last = closes_send past k row seen.0 in
      let outs : list_all (is_sent_right m.node) start.outbox ≡ true =
      subst (λ (f : AccessFace). list_all (is_sent_right m.node) f.outbox ≡ true) (sym face)
      (own_outs sc m.node s is i.finds) in
      acted next m.node start (after_closing_rules row) (ap (λ (f : AccessFace). f.me) face ∙ me) outs
      (closed_notes row (see_notes start start.read (topo.Join m) refl))
      (sends_then start row (after_closing_rules row) seen.1 last.1)
      (record {
        outs = i.finds.outs;
        links = i.finds.links;
        told =
            all_of_both is_recorded_right sc.recs (plan_records sc None) i.finds.told refl;
      })

  loses_kept : (sc : Scene) (n : NodeId) → FindInvariant k sc → FindsFit (scene_after_loss sc n)
  loses_kept sc n i = record {
    outs = λ m. i.finds.outs m;
    links = λ a b. by a b (same_node n a || same_node n b);
    told = all_of_both is_recorded_right sc.recs (plan_records sc None ++ one_record None (note.Lost n)) i.finds.told refl;
  }
    where
      by : (a b : NodeId) (c : Bool) → list_all (is_right a b) (if c then [] else sc.link a b) ≡ true
      by a b true = refl
      by a b false = i.finds.links a b

  beside : (sc : Scene) (more : List Noted) → list_all is_recorded_right more ≡ true → FindInvariant k sc →
      FindsFit (scene_with_records sc more)
  beside sc more told i = more_records sc more told i.finds

  pub finds_lead : EachEventLeads (FindInvariant k) (FindInvariant (suc k))
  finds_lead =
      let lead = starters_lead k few in
      record {
        answers = λ sc n s session sound r may i. record {
          starters = lead.answers sc n s session sound r may i.starters;
          finds = answers_kept sc n s session sound r i;
        };
        calls = λ sc n s session sound r may i. record {
          starters = lead.calls sc n s session sound r may i.starters;
          finds =
              calls_kept sc n s session sound r i;
        };
        takes = λ sc n s from m sound r first i. record {
          starters = lead.takes sc n s from m sound r first i.starters;
          finds = takes_kept sc n s from m sound r first i;
        };
        expires = λ sc n s tx sound r own due i. record {
          starters = lead.expires sc n s tx sound r own due i.starters;
          finds = expires_kept sc n s tx sound r due i;
        };
        sees = λ sc n s e sound r there i. record {
          starters = lead.sees sc n s e sound r there i.starters;
          finds =
              sees_kept sc n s e sound r i;
        };
        switches = λ sc n s sound r may same i. record {
          starters = lead.switches sc n s sound r may same i.starters;
          finds =
              record { outs = i.finds.outs; links = i.finds.links; told = i.finds.told };
        };
        moves = λ sc n s out sound r first i. record {
          starters = lead.moves sc n s out sound r first i.starters;
          finds =
              moves_kept sc n s out r first i;
        };
        drops = λ sc n s out sound r first away i. record {
          starters = lead.drops sc n s out sound r first away i.starters;
          finds = drops_kept sc n s out r first i;
        };
        joins = λ sc m s sound absent new is i. record {
          starters = lead.joins sc m s sound absent new is i.starters;
          finds =
              joins_kept sc m s sound is i;
        };
        loses = λ sc n sound alive i. record { starters = lead.loses sc n sound alive i.starters; finds = loses_kept sc n i };
        plans = λ sc refused sound i. record {
          starters = lead.plans sc refused sound i.starters;
          finds = let f =
              beside sc (plan_records sc refused) refl i in record { outs = f.outs; links = f.links; told = f.told };
        };
        starts = λ sc e sound is i. record {
          starters = lead.starts sc e sound is i.starters;
          finds = let f =
              beside sc (plan_records sc None) refl i in record { outs = f.outs; links = f.links; told = f.told };
        };
        ticks = λ sc to sound i. record {
          starters = lead.ticks sc to sound i.starters;
          finds = let f =
              beside sc (one_record None (note.Tick to)) refl i in record {
                outs = λ m. f.outs m;
                links = f.links;
                told =
                    f.told;
              };
        };
        breaks = λ sc n sound i. record {
          starters = lead.breaks sc n sound i.starters;
          finds =
              beside sc (one_record (Some n) note.Memory) refl i;
        };
      }

pub finds_open : (s : Scenario) → FindInvariant 0 (opening_scene s)
finds_open s = record { starters = starters_open s; finds = record { outs = λ n. refl; links = λ a b. refl; told = refl } }
