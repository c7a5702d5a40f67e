-- The world and its journal as laws over every run see them: functions of node numbers. A node that acts is put over the
-- rest field by field, so that what a row leaves alone stays the same by computing.
use Rattle.std.specs.Prelude.{Bool, None, Option, Some, [], drop, false, if◌then◌else◌, ℕ, ◌&&◌, ◌++◌, ◌||◌, ◌∷◌}
use Rattle.act_rows.specs.NewNodes.{opening_map_of, opening_node}
use Rattle.act_rows.specs.Exchange.{without_single}
use Rattle.part_model.specs.Directory.{Directory, at_moment, directory_after_join, opening_directory, with_event, with_step_done}
use Rattle.part_model.specs.Links.{Inbox, Link, link_of}
use Rattle.part_model.specs.NextMap.{is_member}
use Rattle.ignite_types.specs.Names.{same_node}
use Rattle.ignite_types.specs.declared.journal.NoLoss.{NoLoss}
use Rattle.ignite_types.specs.declared.journal.Rec.{Rec}
use Rattle.ignite_types.specs.declared.list.List.{List}
use Rattle.ignite_types.specs.declared.message.Message.{Message}
use Rattle.ignite_types.specs.declared.message.Out.{Out}
use Rattle.ignite_types.specs.declared.names.NodeId.{NodeId}
use Rattle.ignite_types.specs.declared.scenario.Member.{Member}
use Rattle.ignite_types.specs.declared.scenario.Scenario.{Scenario}
use Rattle.journal_statements.specs.Noted.{Noted, noted_by}
use Rattle.node_state.specs.declared.life.Life.{Life}
use Rattle.node_state.specs.Node.{NodeState}
use Rattle.tx_model.specs.World.{Part, World, inbox_on, is_alive, part_at, place_of}
use Rattle.ignite_types.specs.declared.journal.Rec.TheVariants as note
use Rattle.ignite_types.specs.declared.journal.TopoEvent.TheVariants as topo
use Rattle.node_state.specs.declared.life.Life.TheVariants as life

pub record Scene : Type 0 where
  pub scenario : Scenario
  pub directory : Directory
  -- absent, alive or gone; a node that is not declared is absent for ever
  pub life : NodeId → Life
  -- the state of each node, but for its count of acts and what it noted; that of a gone one stays as it was
  pub state : NodeId → NodeState
  -- what lies in the inbox of the second from the first
  pub link : NodeId → NodeId → List Message
  pub recs : List Noted

-- a state but for its count and its records
abbrev pub state_at_rest : NodeState → NodeState
state_at_rest s = record s { acts = 0; noted = [] }

-- one of two states, field by field
abbrev pub either_state : Bool → NodeState → NodeState → NodeState
either_state b s t = record {
  me = if b then s.me else t.me;
  acts = if b then s.acts else t.acts;
  now = if b then s.now else t.now;
  caches = if b then s.caches else t.caches;
  read = if b then s.read else t.read;
  seen = if b then s.seen else t.seen;
  members = if b then s.members else t.members;
  running = if b then s.running else t.running;
  left = if b then s.left else t.left;
  installed = if b then s.installed else t.installed;
  opened = if b then s.opened else t.opened;
  session_states = if b then s.session_states else t.session_states;
  txs = if b then s.txs else t.txs;
  near = if b then s.near else t.near;
  stores = if b then s.stores else t.stores;
  queues = if b then s.queues else t.queues;
  readers = if b then s.readers else t.readers;
  order = if b then s.order else t.order;
  shares = if b then s.shares else t.shares;
  backups = if b then s.backups else t.backups;
  single_sent = if b then s.single_sent else t.single_sent;
  singles = if b then s.singles else t.singles;
  exchange = if b then s.exchange else t.exchange;
  complete = if b then s.complete else t.complete;
  claims = if b then s.claims else t.claims;
  round = if b then s.round else t.round;
  reports = if b then s.reports else t.reports;
  verdicts = if b then s.verdicts else t.verdicts;
  outbox = if b then s.outbox else t.outbox;
  noted = if b then s.noted else t.noted;
}

abbrev pub states_with : NodeId → NodeState → (NodeId → NodeState) → NodeId → NodeState
states_with n s f m = either_state (same_node n m) s (f m)

-- the node in this state, with what it has noted in its act, among the rest
abbrev pub scene_in_act : Scene → NodeId → NodeState → Scene
scene_in_act sc n s = record sc {
  state = states_with n (state_at_rest s) sc.state;
  recs = sc.recs ++ noted_by (Some n) s.noted;
}

-- The scene of a world.

-- a node that has not joined
abbrev pub absent_state : Scenario → NodeId → NodeState
absent_state s n = opening_node s (opening_map_of s) n false

abbrev pub part_or_absent : Scenario → NodeId → Option Part → Part
part_or_absent s n None = record { node = absent_state s n; life = life.Absent }
part_or_absent s n (Some p) = p

abbrev pub link_messages : Option Link → List Message
link_messages None = []
link_messages (Some l) = l.messages

abbrev pub inbox_messages : Option Inbox → NodeId → List Message
inbox_messages None from = []
inbox_messages (Some b) from = link_messages (link_of b from)

abbrev pub world_links : World → NodeId → NodeId → List Message
world_links w from to = inbox_messages (inbox_on w (place_of w to)) from

abbrev pub scene_of : Scenario → List Noted → World → Scene
scene_of s recs w = record {
  scenario = s;
  directory = w.directory;
  life = λ n. (part_or_absent s n (part_at w n)).life;
  state = λ n. state_at_rest (part_or_absent s n (part_at w n)).node;
  link = world_links w;
  recs = recs;
}

-- the scene that a run begins with
abbrev pub opening_life : Bool → Life
opening_life b = if b then life.Alive else life.Absent

abbrev pub opening_scene : Scenario → Scene
opening_scene s = record {
  scenario = s;
  directory = opening_directory s;
  life = λ n. opening_life (is_member s.nodes n);
  state = λ n. opening_node s (opening_map_of s) n (is_member s.nodes n);
  link = λ from to. [];
  recs = [];
}

-- What events do to a scene, beside the rows of a node that acts.

-- these records are noted
abbrev pub scene_with_records : Scene → List Noted → Scene
scene_with_records sc more = record sc { recs = sc.recs ++ more }

abbrev pub one_record : Option NodeId → Rec → List Noted
one_record who r = record { node = who; rec = r } ∷ []

abbrev pub scene_with_directory : Scene → Directory → Scene
scene_with_directory sc d = record sc { directory = d }

-- the oldest message is taken
abbrev pub links_after_take : NodeId → NodeId → (NodeId → NodeId → List Message) → NodeId → NodeId → List Message
links_after_take from to f x y = if same_node from x && same_node to y then drop 1 (f x y) else f x y

abbrev pub scene_after_take : Scene → NodeId → NodeId → Message → Scene
scene_after_take sc from to m = record sc {
  link = links_after_take from to sc.link;
  recs = sc.recs ++ one_record (Some to) (note.Deliver from m);
}

-- a message is put behind
abbrev pub links_after_send : NodeId → NodeId → Message → (NodeId → NodeId → List Message) → NodeId → NodeId → List Message
links_after_send from to m f x y = if same_node from x && same_node to y then f x y ++ m ∷ [] else f x y

-- the message has left the outbox, and lies in the inbox; or it is lost
abbrev pub scene_after_send : Scene → NodeId → Out → Scene
scene_after_send sc from out = record sc {
  link = links_after_send from out.to out.msg sc.link;
  recs = sc.recs ++ one_record (Some from) (note.Sent out.to out.msg);
}

abbrev pub scene_after_drop : Scene → NodeId → Out → Scene
scene_after_drop sc from out = scene_with_records sc (one_record (Some from) (note.Sent out.to out.msg))

abbrev pub plan_records : Scene → Option NoLoss → List Noted
plan_records sc refused = one_record None (note.Planned sc.directory.done refused)

-- a step of the plan that changes no part
abbrev pub scene_after_step : Scene → Directory → Option NoLoss → Scene
scene_after_step sc d refused = record sc { directory = with_step_done d; recs = sc.recs ++ plan_records sc refused }

abbrev pub lives_with : NodeId → Life → (NodeId → Life) → NodeId → Life
lives_with n at f m = if same_node n m then at else f m

-- the joiner lives, and is about to learn the events
abbrev pub scene_after_join : Scene → Member → Scene
scene_after_join sc m = record sc {
  directory = with_step_done (directory_after_join sc.directory m);
  life = lives_with m.node life.Alive sc.life;
  recs = sc.recs ++ plan_records sc None;
}

-- a node is lost: its state stays, its links are empty, and the others discard its Singles
abbrev pub links_without : NodeId → (NodeId → NodeId → List Message) → NodeId → NodeId → List Message
links_without id f x y = if same_node id x || same_node id y then [] else f x y

abbrev pub state_after_loss : NodeId → Bool → NodeState → NodeState
state_after_loss id b s = record s { singles = if b then (without_single s id).singles else s.singles }

abbrev pub is_survivor : NodeId → NodeId → Life → Bool
is_survivor id n at = if same_node id n then false else is_alive at

abbrev pub scene_after_loss : Scene → NodeId → Scene
scene_after_loss sc id = record sc {
  directory = with_step_done (with_event sc.directory (topo.Left id));
  life = lives_with id life.Gone sc.life;
  state = λ n. state_after_loss id (is_survivor id n (sc.life n)) (sc.state n);
  link = links_without id sc.link;
  recs = sc.recs ++ (plan_records sc None ++ one_record None (note.Lost id));
}

abbrev pub state_at_moment : ℕ → Bool → NodeState → NodeState
state_at_moment to b s = record s { now = if b then to else s.now }

abbrev pub scene_after_tick : Scene → ℕ → Scene
scene_after_tick sc to = record sc {
  directory = at_moment sc.directory to;
  state = λ n. state_at_moment to (is_alive (sc.life n)) (sc.state n);
  recs = sc.recs ++ one_record None (note.Tick to);
}
