use Rattle.std.proofs.Common.{None, drop, map, ◌≡◌, ℕ}
use Rattle.act_rows.specs.Searches.{live_deadline, soonest_moment}
use Rattle.ignite_types.specs.declared.names.TxId.{TxId}
use Rattle.node_state.specs.declared.near.TxEntry.{TxEntry}
use Rattle.node_state.specs.declared.session.SessionState.{SessionState}
use Rattle.deadlock_search.proofs.deadlines.next_moment.Given as goal

abbrev pub invariant-loop-entry : goal.invariant-loop-entry
invariant-loop-entry l =
    soonest_moment l.now l.best (map (λ (e : TxId × TxEntry). live_deadline e.1) (drop l.entry-index l.entry-items))
    ≡ soonest_moment l.now None (map (λ (e : TxId × TxEntry). live_deadline e.1) l.entry-items)

abbrev pub invariant-loop-session_state : goal.invariant-loop-session_state
invariant-loop-session_state l =
    soonest_moment l.now l.best (map (λ (e : ℕ × SessionState). e.1.wake) (drop l.session_state-index l.session_state-items))
    ≡ soonest_moment l.now l.initial.best (map (λ (e : ℕ × SessionState). e.1.wake) l.session_state-items)
