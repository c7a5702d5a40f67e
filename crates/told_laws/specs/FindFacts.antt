-- What is on its way between starters and primaries: requests come from their transaction's starter, answers go to it.
use Rattle.std.specs.List.{list_all}
use Rattle.std.specs.Prelude.{Bool, false, true, ℕ, ◌≡◌}
use Rattle.ignite_types.specs.declared.journal.Rec.{Rec}
use Rattle.ignite_types.specs.declared.names.NodeId.{NodeId}
use Rattle.node_state.specs.Node.{NodeState}
use Rattle.scenes.specs.Scenes.{Scene}
use Rattle.told_laws.specs.LeavesAccesses.{is_right, is_sent_right}
use Rattle.told_laws.specs.ToldLaws.{is_recorded_right}
use Rattle.transaction_laws.specs.StarterInvariant.{StarterInvariant}
use Rattle.ignite_types.specs.declared.journal.Rec.TheVariants as note

-- the record of no message that was sent or taken
abbrev pub is_no_message : Rec → Bool
is_no_message (note.Sent to m) = false
is_no_message (note.Deliver from m) = false
is_no_message r = true

-- a row sends only what is right, if all was right before it
pub record SendsRight (a b : NodeState) : Type 0 where
  pub same_me : b.me ≡ a.me
  pub right : list_all (is_sent_right a.me) a.outbox ≡ true → list_all (is_sent_right a.me) b.outbox ≡ true

pub record FindsFit (sc : Scene) : Type 0 where
  -- what a node has in its outbox, and what lies on a link
  pub outs : (n : NodeId) → list_all (is_sent_right n) (sc.state n).outbox ≡ true
  pub links : (a b : NodeId) → list_all (is_right a b) (sc.link a b) ≡ true
  -- what was sent and taken
  pub told : list_all is_recorded_right sc.recs ≡ true

-- beside the invariant of starters, after so many events
pub record FindInvariant (events : ℕ) (sc : Scene) : Type 0 where
  pub starters : StarterInvariant events sc
  pub finds : FindsFit sc
