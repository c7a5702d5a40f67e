-- What is known of a session, and how it is part of the walks of its transactions.
use Rattle.std.specs.Prelude.{None, false, ℕ}
use Rattle.ignite_types.specs.declared.names.NodeId.{NodeId}
use Rattle.ignite_types.specs.declared.names.TxId.{TxId}
use Rattle.ignite_types.specs.declared.scenario.Command.{Command}
use Rattle.commit_history.specs.declared.line.Line.{Line}
use Rattle.tx_model.specs.History.{fresh_walk, walk_after_call}
use Rattle.tx_model.specs.declared.walk.Walk.{Walk}

abbrev pub new_line : NodeId → Line
new_line node = record { node = node; started = 0; block = false; skipping = false; called = None }

-- the transaction that a session started last
abbrev pub tx_of_line : Line → ℕ → TxId
tx_of_line l session = record { node = l.node; session = session; number = l.started }

-- a walk that stands as the session does
abbrev pub walk_at_line : Line → Walk → Walk
walk_at_line l w = record w { started = l.started; block = l.block; skipping = l.skipping; called = l.called }

-- a session that stands as the walk says
abbrev pub line_after : Line → Walk → Line
line_after l w = record l { started = w.started; block = w.block; skipping = w.skipping; called = w.called }

abbrev pub line_after_call : Line → Command → Line
line_after_call l c = line_after l (walk_after_call (walk_at_line l fresh_walk) c)
