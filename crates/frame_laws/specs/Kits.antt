-- What every row keeps: a relation between a node before and after it that holds of each small step and of one step after
-- another. A small step of a plain row is a change that leaves the plain frame of a node alone; or a record that is noted, of
-- no lock and none of the exchange; or messages outside the exchange, put into the outbox; or one of the three changes of lock
-- queues, with its record. The rows of the exchange have small steps of their own, each with its name.
--
-- The claims of movers are in the frame where a kit watches them: then its walks hold of all rows but that of Complete.
use Rattle.std.specs.List.{list_all}
use Rattle.std.specs.Prelude.{Bool, None, Option, Some, [], false, true, ℕ, ◌++◌, ◌∷◌, ◌≡◌}
use Rattle.frame_laws.specs.Extending.{is_own}
use Rattle.act_rows.specs.Exchange as exchange
use Rattle.act_rows.specs.Locks as locks
use Rattle.act_rows.specs.Steps as steps
use Rattle.part_model.specs.Queues.{Queues, other_owner}
use Rattle.ignite_types.specs.declared.journal.Rec.{Rec}
use Rattle.ignite_types.specs.declared.journal.TopoEvent.{TopoEvent}
use Rattle.ignite_types.specs.declared.list.List.{List}
use Rattle.ignite_types.specs.declared.message.Message.{Message}
use Rattle.ignite_types.specs.declared.message.Out.{Out}
use Rattle.ignite_types.specs.declared.message.Single.{Single}
use Rattle.ignite_types.specs.declared.names.NodeId.{NodeId}
use Rattle.ignite_types.specs.declared.names.TopVer.{TopVer}
use Rattle.ignite_types.specs.declared.names.TxId.{TxId}
use Rattle.ignite_types.specs.declared.placement.PartMap.{PartMap}
use Rattle.ignite_types.specs.declared.scenario.Cache.{Cache}
use Rattle.ignite_types.specs.declared.scenario.Member.{Member}
use Rattle.ignite_types.specs.declared.text.Key.{Key}
use Rattle.node_state.specs.Node.{NodeState}
use Rattle.node_state.specs.declared.topology.Claim.{Claim}
use Rattle.node_state.specs.declared.topology.Exchange.{Exchange}
use Rattle.ignite_types.specs.declared.message.Message.TheVariants as msg
use Rattle.ignite_types.specs.declared.journal.Rec.TheVariants as note

-- a record of a lock queue
abbrev pub is_lock : Rec → Bool
is_lock (note.Grant tx top key) = true
is_lock (note.Queue tx key holder) = true
is_lock (note.Drop tx key) = true
is_lock _ = false

-- a record of the exchange
abbrev pub is_exchange : Rec → Bool
is_exchange (note.Install m) = true
is_exchange (note.Opened top) = true
is_exchange _ = false

-- a message outside the exchange
abbrev pub is_plain_message : Message → Bool
is_plain_message (msg.Single top m complete) = false
is_plain_message (msg.Full m) = false
is_plain_message (msg.Installed top) = false
is_plain_message (msg.Opens top) = false
is_plain_message _ = true

abbrev pub is_plain_out : Out → Bool
is_plain_out out = is_plain_message out.msg

-- what a plain change leaves alone
pub record PlainFrame : Type 0 where
  pub me : NodeId
  pub acts : ℕ
  pub now : ℕ
  pub caches : List Cache
  pub noted : List Rec
  pub outbox : List Out
  pub queues : Queues
  pub read : ℕ
  pub seen : TopVer
  pub members : List Member
  pub running : List ℕ
  pub left : List NodeId
  pub installed : Option PartMap
  pub opened : Option TopVer
  pub single_sent : Option TopVer
  pub singles : List Single
  pub exchange : Option Exchange
  pub claims : List Claim

abbrev pub claims_watched : Bool → List Claim → List Claim
claims_watched true claims = claims
claims_watched false claims = []

abbrev pub plain_frame : Bool → NodeState → PlainFrame
plain_frame watched s = record {
  me = s.me;
  acts = s.acts;
  now = s.now;
  caches = s.caches;
  noted = s.noted;
  outbox = s.outbox;
  queues = s.queues;
  read = s.read;
  seen = s.seen;
  members = s.members;
  running = s.running;
  left = s.left;
  installed = s.installed;
  opened = s.opened;
  single_sent = s.single_sent;
  singles = s.singles;
  exchange = s.exchange;
  claims = claims_watched watched s.claims;
}

-- what plain rows keep, by whether the kit watches claims
pub record ClosedUnderWatchedSteps (watched : Bool) (R : NodeState → NodeState → Type 0) : Type 0 where
  pub nothing : (s : NodeState) → R s s
  pub andthen : (a b c : NodeState) → R a b → R b c → R a c
  pub aside : (before after : NodeState) → plain_frame watched after ≡ plain_frame watched before → R before after
  pub noting : (s : NodeState) (r : Rec) → is_own r ≡ true → is_lock r ≡ false → is_exchange r ≡ false →
      R s (steps.with_note s r)
  pub sent_all : (s : NodeState) (outs : List Out) → list_all is_plain_out outs ≡ true → R s (steps.with_outs s outs)
  -- a lock is granted or waited for; a place is left; an optimistic prepare owns a key that no other transaction owns
  pub placed : (s : NodeState) (from : NodeId) (tx : TxId) (top : TopVer) (key : Key) → R s (locks.after_lock s from tx top key)
  pub released : (s : NodeState) (tx : TxId) (key : Key) → R s (locks.after_release s tx key)
  pub owned : (s : NodeState) (tx : TxId) (top : TopVer) (key : Key) → other_owner tx (locks.owner_at s key) ≡ None →
      R s (steps.with_note (locks.with_queued s tx key) (note.Grant tx top key))

-- what all rows keep, those of the exchange too
pub record ClosedUnderAllWatchedSteps (watched : Bool) (R : NodeState → NodeState → Type 0) : Type 0 where
  pub plain : ClosedUnderWatchedSteps watched R
  -- a topology event is learned
  pub learns : (s : NodeState) (event : TopoEvent) → R s (exchange.after_learn s event)
  -- a Single is kept; those of old versions, or of a lost node, are dropped
  pub keeps_single : (s : NodeState) (single : Single) → R s (record s { singles = s.singles ++ single ∷ [] })
  pub drops_singles : (s : NodeState) (top : TopVer) → R s (exchange.without_singles s top)
  pub drops_lost : (s : NodeState) (who : NodeId) → R s (exchange.without_single s who)
  -- a map is installed, and noted
  pub installs : (s : NodeState) (m : PartMap) → R s (exchange.after_install s m)
  -- an exchange is begun, counted or over
  pub exchanges : (s : NodeState) (x : Option Exchange) → R s (record s { exchange = x })
  -- the version is open here, and noted
  pub opens : (s : NodeState) (top : TopVer) → R s (steps.with_note (record s { opened = Some top }) (note.Opened top))
  -- the Single of the last version seen is marked as sent
  pub marks_single : (s : NodeState) → R s (record s { single_sent = Some s.seen })
  pub sends : (s : NodeState) (outs : List Out) → R s (steps.with_outs s outs)

-- the same where claims are not watched
abbrev pub ClosedUnderSteps : (NodeState → NodeState → Type 0) → Type 0
ClosedUnderSteps R = ClosedUnderWatchedSteps false R

abbrev pub ClosedUnderAllSteps : (NodeState → NodeState → Type 0) → Type 0
ClosedUnderAllSteps R = ClosedUnderAllWatchedSteps false R
