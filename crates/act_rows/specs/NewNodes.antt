-- A declared node before its first act: version 1.0 is seen, and installed and open at an initial one.
use Rattle.std.specs.Ordering.{nat_cmp}
use Rattle.std.specs.Prelude.{Bool, None, Option, Some, [], false, if◌then◌else◌, map, true, ℕ, ◌∷◌}
use Rattle.act_rows.specs.Commands.{new_session_state}
use Rattle.part_model.specs.Copies.{Copy}
use Rattle.part_model.specs.Directory.{first_top, running_from}
use Rattle.part_model.specs.NextMap.{servers}
use Rattle.ignite_types.specs.Affinity.{opening_map}
use Rattle.ignite_types.specs.Names.{same_node}
use Rattle.ignite_types.specs.Placement.{capped}
use Rattle.ignite_types.specs.declared.list.List.{List}
use Rattle.ignite_types.specs.declared.names.NodeId.{NodeId}
use Rattle.ignite_types.specs.declared.placement.PartMap.{PartMap}
use Rattle.ignite_types.specs.declared.placement.Row.{Row}
use Rattle.ignite_types.specs.declared.scenario.Scenario.{Scenario}
use Rattle.ignite_types.specs.declared.scenario.Session.{Session}
use Rattle.node_state.specs.Node.{NodeState}
use Rattle.node_state.specs.declared.session.SessionState.{SessionState}
use Rattle.ordered_table.specs.Entries.{put}

abbrev pub opening_map_of : Scenario → PartMap
opening_map_of scenario =
    opening_map first_top (servers scenario.nodes) scenario.caches (running_from 0 scenario.caches)

abbrev pub with_session_if_on : NodeId → ℕ → List (ℕ × SessionState) → Session → List (ℕ × SessionState)
with_session_if_on id number session_states session =
    if same_node session.node id then put nat_cmp session_states number (new_session_state session.commands) else session_states

-- the sessions on a node, by their numbers, the first of these having this number
abbrev pub session_states_on : NodeId → ℕ → List (ℕ × SessionState) → List Session → List (ℕ × SessionState)
session_states_on id number session_states [] = session_states
session_states_on id number session_states (session ∷ more) =
    session_states_on id (capped number 1) (with_session_if_on id number session_states session) more

-- so many empty copies
abbrev pub empty_copies : List Row → List Copy
empty_copies rows = map (λ (row : Row). []) rows

abbrev pub map_if : Bool → PartMap → Option PartMap
map_if true m = Some m
map_if false m = None

-- a declared node before its first act, with a map where it is an initial one
abbrev pub opening_node : Scenario → PartMap → NodeId → Bool → NodeState
opening_node scenario m id initial = record {
  me = id;
  acts = 0;
  now = 0;
  caches = scenario.caches;
  read = 0;
  seen = first_top;
  members = scenario.nodes;
  running = running_from 0 scenario.caches;
  left = [];
  installed = map_if initial m;
  opened = if initial then Some first_top else None;
  session_states = session_states_on id 1 [] scenario.sessions;
  txs = [];
  near = [];
  stores = empty_copies m.rows;
  queues = [];
  readers = [];
  order = 0;
  shares = [];
  backups = [];
  single_sent = None;
  singles = [];
  exchange = None;
  complete = [];
  claims = [];
  round = None;
  reports = [];
  verdicts = [];
  outbox = [];
  noted = [];
}
