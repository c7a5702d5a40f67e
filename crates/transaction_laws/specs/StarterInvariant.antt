-- The invariant of the laws of decisions and starts.
use Rattle.std.specs.List.{list_all}
use Rattle.std.specs.Prelude.{Bool, Some, [], false, true, ℕ, ◌++◌, ◌≡◌}
use Rattle.part_model.specs.NextMap.{is_member}
use Rattle.ignite_types.specs.declared.journal.Rec.{Rec}
use Rattle.ignite_types.specs.declared.journal.TopoEvent.{TopoEvent}
use Rattle.ignite_types.specs.declared.list.List.{List}
use Rattle.ignite_types.specs.declared.names.NodeId.{NodeId}
use Rattle.journal_statements.specs.Noted.{Noted, is_lost, recs_of}
use Rattle.node_state.specs.Node.{NodeState}
use Rattle.scenes.specs.Scenes.{Scene}
use Rattle.topology_laws.specs.TopologyFacts.{HoldsOfEach, never_leaves}
use Rattle.transaction_laws.specs.LeavesStarters.{StarterFace, starter_face}
use Rattle.transaction_laws.specs.StarterFacts.{StarterFits}
use Rattle.transaction_laws.specs.StarterNotes.{AreOwnOrLost, IsOwnOrLost, ListsFit, MessageNamesLost, NotesFit, tells_no_loss}
use Rattle.ignite_types.specs.declared.journal.TopoEvent.TheVariants as topo

-- who leaves by an event is lost
abbrev pub IsLostLeaver : List Noted → TopoEvent → Type 0
IsLostLeaver recs (topo.Left n) = is_lost recs n ≡ true
IsLostLeaver recs e = Unit {0}

-- a node by the records so far: lost, alive or not joined yet
pub record NodeFits (initial : Bool) (most : ℕ) (recs : List Noted) (n : NodeId) (s : NodeState) : Type 0 where
  pub starter : StarterFits n (recs_of n recs) s.txs s.session_states
  pub notes : NotesFit n initial most (recs_of n recs) s.session_states s.opened
  pub lists : ListsFit recs s.left s.reports s.outbox

-- after so many events
pub record StarterInvariant (events : ℕ) (sc : Scene) : Type 0 where
  pub nodes : (n : NodeId) → NodeFits (is_member sc.scenario.nodes n) events sc.recs n (sc.state n)
  -- lists on their way name lost starters
  pub links : (a b : NodeId) → HoldsOfEach (MessageNamesLost sc.recs) (sc.link a b)
  pub leavers : HoldsOfEach (IsLostLeaver sc.recs) sc.directory.events
  -- who is lost has left by an event
  pub losses : (n : NodeId) → is_lost sc.recs n ≡ true → never_leaves n sc.directory.events ≡ false
  -- each Start is by its own node; each decision too, or its starter was lost before
  pub own_or_lost : AreOwnOrLost [] sc.recs

-- What is known of a node in the midst of its act, beside its tables.

-- the node, whether it is an initial one, how many transactions a session has at most, and all records before the act
pub record ActPast : Type 0 where
  pub me : NodeId
  pub initial : Bool
  pub most : ℕ
  pub recs : List Noted

abbrev pub own_past : ActPast → List Rec
own_past past = recs_of past.me past.recs

pub record FaceFits (past : ActPast) (f : StarterFace) : Type 0 where
  pub me_is : f.me ≡ past.me
  pub notes : NotesFit past.me past.initial past.most (own_past past ++ f.noted) f.session_states f.opened
  pub lists : ListsFit past.recs f.left f.reports f.outbox
  pub own_or_lost : HoldsOfEach (IsOwnOrLost past.recs (Some past.me)) f.noted
  pub lossless : list_all tells_no_loss f.noted ≡ true

-- what each row keeps
abbrev pub KeepsFace : ActPast → NodeState → NodeState → Type 0
KeepsFace past before after = FaceFits past (starter_face before) → FaceFits past (starter_face after)
