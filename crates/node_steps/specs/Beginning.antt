-- A node with these copies at which no key is held or read.
use Rattle.std.specs.Prelude.{List, []}
use Rattle.part_model.specs.Copies.{Copy}
use Rattle.node_state.specs.Node.{NodeState}
use Rattle.node_steps.specs.declared.node.NodeParts.{NodeParts}

abbrev pub begun_node : List Copy → NodeParts → NodeState
begun_node stores parts = record {
  me = parts.me;
  acts = parts.acts;
  now = parts.now;
  caches = parts.caches;
  read = parts.read;
  seen = parts.seen;
  members = parts.members;
  running = parts.running;
  left = parts.left;
  installed = parts.installed;
  opened = parts.opened;
  session_states = parts.session_states;
  txs = parts.txs;
  near = [];
  stores = stores;
  queues = [];
  readers = [];
  order = parts.order;
  shares = parts.shares;
  backups = parts.backups;
  single_sent = parts.single_sent;
  singles = parts.singles;
  exchange = parts.exchange;
  complete = parts.complete;
  claims = parts.claims;
  round = parts.round;
  reports = parts.reports;
  verdicts = parts.verdicts;
  outbox = parts.outbox;
  noted = parts.noted;
}
