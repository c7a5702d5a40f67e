-- What each event of a run owes, for a statement P of scenes that holds before it and Q that is to hold after it.
use Rattle.std.specs.List.{list_all}
use Rattle.std.specs.Prelude.{Bool, None, Option, Some, [], drop, false, length, suc, true, ℕ, ◌<◌, ◌^◌, ◌∷◌, ◌≡◌}
use Rattle.act_rows.specs.Acts.{after_message, after_see, may_answer, may_call, with_act_begun}
use Rattle.act_rows.specs.Closing.{after_closing_rules}
use Rattle.act_rows.specs.Commands.{after_answer, after_call}
use Rattle.act_rows.specs.Exchange.{after_learn_all}
use Rattle.act_rows.specs.Filling.{may_switch}
use Rattle.act_rows.specs.Searches.{after_expire, is_overdue}
use Rattle.part_model.specs.Directory.{event_at, survives, with_answer_given, with_event}
use Rattle.part_model.specs.NextMap.{is_higher, is_member}
use Rattle.ignite_types.specs.Names.{same_top}
use Rattle.ignite_types.specs.declared.journal.NoLoss.{NoLoss}
use Rattle.ignite_types.specs.declared.journal.TopoEvent.{TopoEvent}
use Rattle.ignite_types.specs.declared.message.Message.{Message}
use Rattle.ignite_types.specs.declared.message.Out.{Out}
use Rattle.ignite_types.specs.declared.names.NodeId.{NodeId}
use Rattle.ignite_types.specs.declared.names.TxId.{TxId}
use Rattle.ignite_types.specs.declared.placement.PartMap.{PartMap}
use Rattle.ignite_types.specs.declared.scenario.Member.{Member}
use Rattle.journal_statements.specs.Noted.{is_lost}
use Rattle.link_laws.specs.Carrying.{is_gone}
use Rattle.node_state.specs.Node.{NodeState}
use Rattle.scenes.specs.Scenes.{Scene, scene_in_act, state_at_rest, scene_after_drop, absent_state, scene_after_join, scene_after_loss, scene_after_send, scene_with_records, one_record, scene_after_step, scene_after_take, scene_after_tick, scene_with_directory, is_survivor}
use Rattle.tx_model.specs.World.{is_alive}
use Rattle.ignite_types.specs.declared.journal.Rec.TheVariants as note
use Rattle.ignite_types.specs.declared.journal.TopoEvent.TheVariants as topo
use Rattle.node_state.specs.declared.life.Life.TheVariants as life

-- what every scene of a legal run is known to be
pub record IsSound (sc : Scene) : Type 0 where
  pub me_is : (n : NodeId) → (sc.state n).me ≡ n
  -- those who live are the members of the directory; those who are gone are lost
  pub members_are : (n : NodeId) → is_alive (sc.life n) ≡ is_member sc.directory.members n
  pub gone_lost : (n : NodeId) → is_gone (sc.life n) ≡ true → is_lost sc.recs n ≡ true
  pub alive_kept : (n : NodeId) → is_alive (sc.life n) ≡ true → is_lost sc.recs n ≡ false
  -- who has not joined is as at the opening
  pub absent_fresh : (n : NodeId) → sc.life n ≡ life.Absent → sc.state n ≡ absent_state sc.scenario n
  -- nothing is on its way from or to a lost node
  pub from_lost : (a b : NodeId) → is_lost sc.recs a ≡ true → sc.link a b ≡ []
  pub to_lost : (a b : NodeId) → is_lost sc.recs b ≡ true → sc.link a b ≡ []
  pub plan_is : sc.directory.plan ≡ sc.scenario.plan
  pub room : suc (length sc.directory.events) < 2 ^ 63

-- a node that is about to act, in this state
pub record IsReady (sc : Scene) (n : NodeId) (s : NodeState) : Type 0 where
  pub alive : sc.life n ≡ life.Alive
  pub me_is : s.me ≡ n
  pub none_noted : s.noted ≡ []
  pub state_is : sc.state n ≡ state_at_rest s

-- a node that is alive and whose loss is not refused: some other one that is alive has a map, and of the highest of these each
-- partition that has owners keeps one among the members
pub record MayBeLost (sc : Scene) (n : NodeId) : Type 0 where
  pub alive : sc.life n ≡ life.Alive
  pub best : PartMap
  pub at : NodeId
  pub at_survives : is_survivor n at (sc.life at) ≡ true
  pub has_best : (sc.state at).installed ≡ Some best
  pub none_higher : (x : NodeId) (m : PartMap) → is_survivor n x (sc.life x) ≡ true → (sc.state x).installed ≡ Some m
      → is_higher m.top best.top ≡ false
  pub keeps_owners : list_all (survives sc.directory.members n) best.rows ≡ true

-- a plan's start or stop of a cache
abbrev pub is_cache_switch : TopoEvent → Bool
is_cache_switch (topo.Start cache) = true
is_cache_switch (topo.Stop cache) = true
is_cache_switch _ = false

-- a node that joins: first it learns the events before its Join, then it sees that one
abbrev pub joiner_start : Scene → NodeState → NodeState
joiner_start sc s = with_act_begun (after_learn_all s sc.directory.events sc.directory.clock)

abbrev pub joiner_end : Scene → Member → NodeState → NodeState
joiner_end sc m s = let start = joiner_start sc s in after_closing_rules (after_see start start.read (topo.Join m))

pub record EachEventLeads (P Q : Scene → Type 0) : Type 0 where
  -- acts of a node
  pub answers : (sc : Scene) (n : NodeId) (s : NodeState) (session : ℕ) → IsSound sc → IsReady sc n s
      → may_answer s session ≡ true → P sc
      → Q (scene_in_act (scene_with_directory sc (with_answer_given sc.directory)) n (after_answer s session))
  pub calls : (sc : Scene) (n : NodeId) (s : NodeState) (session : ℕ) → IsSound sc → IsReady sc n s → may_call s session ≡ true
      → P sc
      → Q (scene_in_act sc n (after_closing_rules (after_call s session)))
  pub takes : (sc : Scene) (n : NodeId) (s : NodeState) (from : NodeId) (m : Message) → IsSound sc → IsReady sc n s
      → sc.link from n ≡ m ∷ drop 1 (sc.link from n) → P sc
      → Q (scene_in_act (scene_after_take sc from n m) n (after_closing_rules (after_message s from m)))
  pub expires : (sc : Scene) (n : NodeId) (s : NodeState) (tx : TxId) → IsSound sc → IsReady sc n s → tx.node ≡ n
      → is_overdue s tx ≡ true → P sc
      → Q (scene_in_act sc n (after_closing_rules (after_expire s tx)))
  pub sees : (sc : Scene) (n : NodeId) (s : NodeState) (e : TopoEvent) → IsSound sc → IsReady sc n s
      → event_at sc.directory s.read ≡ Some e → P sc
      → Q (scene_in_act sc n (after_closing_rules (after_see s s.read e)))
  pub switches : (sc : Scene) (n : NodeId) (s : NodeState) → IsSound sc → IsReady sc n s → may_switch s ≡ true
      → same_top s.seen sc.directory.last ≡ true → P sc
      → Q (scene_with_directory sc (with_event sc.directory topo.Minor))
  -- a message goes from the outbox to the link; it is lost only where its addressee does not live
  pub moves : (sc : Scene) (n : NodeId) (s : NodeState) (out : Out) → IsSound sc → IsReady sc n s
      → s.outbox ≡ out ∷ drop 1 s.outbox → P sc
      → Q (scene_in_act (scene_after_send sc n out) n (record s { outbox = drop 1 s.outbox }))
  pub drops : (sc : Scene) (n : NodeId) (s : NodeState) (out : Out) → IsSound sc → IsReady sc n s
      → s.outbox ≡ out ∷ drop 1 s.outbox → is_alive (sc.life out.to) ≡ false → P sc
      → Q (scene_in_act (scene_after_drop sc n out) n (record s { outbox = drop 1 s.outbox }))
  -- the plan
  pub joins : (sc : Scene) (m : Member) (s : NodeState) → IsSound sc → sc.life m.node ≡ life.Absent
      → is_lost sc.recs m.node ≡ false → sc.state m.node ≡ state_at_rest s → P sc
      → Q (scene_in_act (scene_after_join sc m) m.node (joiner_end sc m s))
  pub loses : (sc : Scene) (n : NodeId) → IsSound sc → MayBeLost sc n → P sc → Q (scene_after_loss sc n)
  pub plans : (sc : Scene) (refused : Option NoLoss) → IsSound sc → P sc → Q (scene_after_step sc sc.directory refused)
  pub starts : (sc : Scene) (e : TopoEvent) → IsSound sc → is_cache_switch e ≡ true → P sc
      → Q (scene_after_step sc (with_event sc.directory e) None)
  -- the clock
  pub ticks : (sc : Scene) (to : ℕ) → IsSound sc → P sc → Q (scene_after_tick sc to)
  -- want of memory at a node; no event follows
  pub breaks : (sc : Scene) (n : NodeId) → IsSound sc → P sc → Q (scene_with_records sc (one_record (Some n) note.Memory))

-- a statement that each event keeps
abbrev pub EachEventKeeps : (Scene → Type 0) → Type 0
EachEventKeeps Inv = EachEventLeads Inv Inv
