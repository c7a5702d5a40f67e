-- What it means that a value was taken out of its table to be changed: a vacant one stands in its place.
use Rattle.std.specs.Prelude.{None, Some, [], ℕ, ◌≡◌}
use Rattle.act_rows.specs.Commands.{new_entry, new_session_state}
use Rattle.act_rows.specs.Steps.{entry_of, no_top, session_state_of, share_of, with_entry, with_session_state, with_share}
use Rattle.ignite_types.specs.declared.names.TxId.{TxId}
use Rattle.ignite_types.specs.declared.placement.ShareState.TheVariants.{Preparing}
use Rattle.node_state.specs.declared.near.TxEntry.{TxEntry}
use Rattle.node_state.specs.Node.{NodeState}
use Rattle.node_state.specs.declared.primary.OwnShare.{OwnShare}
use Rattle.node_state.specs.declared.session.SessionState.{SessionState}
use Rattle.ignite_types.specs.declared.scenario.Mode.TheVariants as mode

pub record TakesEntry (old new : NodeState) (tx : TxId) (entry : TxEntry) : Type 0 where
  pub was : entry_of old tx ≡ Some entry
  pub vacant : new ≡ with_entry old tx (new_entry mode.Pessimistic None)

pub record TakesNoEntry (old new : NodeState) (tx : TxId) : Type 0 where
  pub was : entry_of old tx ≡ None
  pub same : new ≡ old

pub record TakesSessionState (old new : NodeState) (session : ℕ) (session_state : SessionState) : Type 0 where
  pub was : session_state_of old session ≡ Some session_state
  pub vacant : new ≡ with_session_state old session (new_session_state [])

pub record TakesNoSessionState (old new : NodeState) (session : ℕ) : Type 0 where
  pub was : session_state_of old session ≡ None
  pub same : new ≡ old

abbrev pub vacant_share : OwnShare
vacant_share = record {
  top = no_top;
  shares = [];
  writes = [];
  state = Preparing;
  awaited = [];
  near = [];
  askers = [];
}

pub record TakesShare (old new : NodeState) (tx : TxId) (share : OwnShare) : Type 0 where
  pub was : share_of old tx ≡ Some share
  pub vacant : new ≡ with_share old tx vacant_share

pub record TakesNoShare (old new : NodeState) (tx : TxId) : Type 0 where
  pub was : share_of old tx ≡ None
  pub same : new ≡ old
