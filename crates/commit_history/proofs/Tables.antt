-- What is found in the one walk after a change of one of its tables.
use Rattle.std.proofs.Common.{◌≡◌, ◌≢◌, List, [], Option, Some, unwrap_or, ℕ, false, ap}
use Rattle.std.specs.Ordering.{nat_cmp}
use Rattle.std.proofs.lemmas.Cmp.{nat_cmp_total}
use Rattle.part_model.specs.Copies.{Found}
use Rattle.commit_history.specs.Steps.{line_or, near_told_of, session_line_of, walk_of, with_line, with_walk}
use Rattle.commit_history.specs.declared.line.Line.{Line}
use Rattle.commit_history.specs.declared.walks.Walks.{Walks}
use Rattle.commit_history.proofs.Orders.{node_apart, session_apart, tx_apart}
use Rattle.ignite_types.proofs.NameLaws.{node_total, tx_total}
use Rattle.ignite_types.specs.Names.{node_cmp, same_node, same_tx, tx_cmp}
use Rattle.ignite_types.specs.declared.names.NodeId.{NodeId}
use Rattle.ignite_types.specs.declared.names.TxId.{TxId}
use Rattle.ignite_types.specs.declared.text.Key.{Key}
use Rattle.ordered_table.proofs.Laws as laws
use Rattle.ordered_table.specs.Entries.{at, put}
use Rattle.tx_model.specs.History.{fresh_walk}
use Rattle.tx_model.specs.declared.walk.Walk.{Walk}

pub walk_put : (m : Walks) (tx : TxId) (w : Walk) → walk_of (with_walk m tx w) tx ≡ w
walk_put m tx w = ap (λ (r : Option Walk). unwrap_or r fresh_walk) (laws.at_put_same tx_cmp tx_total m.walks tx w)

pub walk_put_other : (m : Walks) (u tx : TxId) (w : Walk) → same_tx u tx ≡ false → walk_of (with_walk m u w) tx ≡ walk_of m tx
walk_put_other m u tx w other = ap (λ (r : Option Walk). unwrap_or r fresh_walk)
    (laws.at_put_other tx_cmp tx_total m.walks u tx w (tx_apart u tx other))

pub line_put : (m : Walks) (session : ℕ) (l : Line) → session_line_of (with_line m session l) session ≡ Some l
line_put m session l = ap (λ (r : Option Line). line_or (at nat_cmp m.nodes session) r)
    (laws.at_put_same nat_cmp nat_cmp_total m.lines session l)

pub line_put_other : (m : Walks) (s session : ℕ) (l : Line) → s ≢ session → session_line_of (with_line m s l) session
    ≡ session_line_of m session
line_put_other m s session l other = ap (λ (r : Option Line). line_or (at nat_cmp m.nodes session) r)
    (laws.at_put_other nat_cmp nat_cmp_total m.lines s session l (session_apart s session other))

abbrev pub with_near : Walks → NodeId → List (Key × Found) → Walks
with_near m node known = record m { near = put node_cmp m.near node known }

pub near_put : (m : Walks) (node : NodeId) (known : List (Key × Found)) → near_told_of (with_near m node known) node ≡ known
near_put m node known = ap (λ (r : Option (List (Key × Found))). unwrap_or r [])
    (laws.at_put_same node_cmp node_total m.near node known)

pub near_put_other : (m : Walks) (other node : NodeId) (known : List (Key × Found)) → same_node other node ≡ false →
    near_told_of (with_near m other known) node ≡ near_told_of m node
near_put_other m other node known apart = ap (λ (r : Option (List (Key × Found))). unwrap_or r [])
    (laws.at_put_other node_cmp node_total m.near other node known (node_apart other node apart))
