-- A first access or a commit starts once the last version seen is open here: the transaction's version is fixed.
use Rattle.std.specs.Prelude.{Bool, None, Option, Some, [], if◌then◌else◌, is_some, true, ℕ, ◌∷◌}
use Rattle.act_rows.specs.Accesses.{access_key, after_run_command}
use Rattle.act_rows.specs.Steps.{entry_of, is_open, on_entry, session_state_of, with_note}
use Rattle.part_model.specs.Tables.{keys_in}
use Rattle.ignite_types.specs.declared.list.List.{List}
use Rattle.ignite_types.specs.declared.names.TopVer.{TopVer}
use Rattle.ignite_types.specs.declared.names.TxId.{TxId}
use Rattle.ignite_types.specs.declared.scenario.Command.{Command}
use Rattle.node_state.specs.declared.near.TxEntry.{TxEntry}
use Rattle.node_state.specs.declared.near.TxState.{TxState}
use Rattle.node_state.specs.Node.{NodeState}
use Rattle.node_state.specs.declared.session.SessionState.{SessionState}
use Rattle.ignite_types.specs.declared.scenario.Command.TheVariants as command
use Rattle.ignite_types.specs.declared.journal.Rec.TheVariants as note
use Rattle.node_state.specs.declared.near.TxState.TheVariants as state

abbrev pub with_version : NodeState → TxId → TopVer → NodeState
with_version s tx top = on_entry s tx (λ (e : TxEntry). record e { top = Some top; state = state.Active }) (entry_of s tx)

abbrev pub after_start : NodeState → TxId → Bool → Command → NodeState
after_start s tx block c = after_run_command (with_note (with_version s tx s.seen) (note.Start tx s.seen)) tx s.seen block c

-- accesses and commits take a version
abbrev pub takes_version : Command → Bool
takes_version command.Commit = true
takes_version c = is_some (access_key c)

abbrev pub after_start_command : NodeState → TxId → Bool → Option Command → NodeState
after_start_command s tx block None = s
after_start_command s tx block (Some c) = if takes_version c then after_start s tx block c else s

abbrev pub after_start_in : NodeState → TxId → SessionState → TxState → NodeState
after_start_in s tx d state.Idle = after_start_command s tx d.block d.pending
after_start_in s tx d _ = s

abbrev pub after_start_of : NodeState → TxId → SessionState → Option TxEntry → NodeState
after_start_of s tx d None = s
after_start_of s tx d (Some e) = after_start_in s tx d e.state

abbrev pub after_start_tx : NodeState → SessionState → Option TxId → NodeState
after_start_tx s d None = s
after_start_tx s d (Some tx) = after_start_of s tx d (entry_of s tx)

abbrev pub after_start_session : NodeState → Option SessionState → NodeState
after_start_session s None = s
after_start_session s (Some d) = after_start_tx s d d.tx

abbrev pub after_start_each : NodeState → List ℕ → NodeState
after_start_each s [] = s
after_start_each s (session ∷ more) = after_start_each (after_start_session s (session_state_of s session)) more

abbrev pub sessions_of : NodeState → List ℕ
sessions_of s = keys_in s.session_states

-- all that waits for the version, by session, where it is open
abbrev pub after_start_all : NodeState → NodeState
after_start_all s = if is_open s s.opened then after_start_each s (sessions_of s) else s
