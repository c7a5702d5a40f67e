-- How far a transaction has come at its starter, in words.
use Rattle.std.specs.Prelude.{Bool, false, true}
use Rattle.node_state.specs.declared.near.TxState.{TxState}
use Rattle.node_state.specs.declared.near.TxState.TheVariants as state

-- it is not decided
abbrev pub is_open : TxState → Bool
is_open state.Committing = false
is_open state.RollingBack = false
is_open state.Ended = false
is_open _ = true

abbrev pub waits_for_lock : TxState → Bool
waits_for_lock state.Waiting = true
waits_for_lock state.Searching = true
waits_for_lock _ = false
