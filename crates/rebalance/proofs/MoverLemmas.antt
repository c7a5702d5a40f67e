-- The movers of all rows have claimed where those of each row have.
use Rattle.std.proofs.Common.{[], ap, false, List, refl, sym, true, ◌&&◌, ◌++◌, ◌||◌, ◌∙◌, ◌∷◌, ◌≡◌}
use Rattle.std.proofs.lemmas.List.Concat.{flat_map-cons}
use Rattle.std.proofs.lemmas.List.Folds.{list_all-append}
use Rattle.std.specs.List.{list_all}
use Rattle.act_rows.specs.Filling.{all_claimed, has_claim, movers_in}
use Rattle.ignite_types.specs.declared.names.NodeId.{NodeId}
use Rattle.ignite_types.specs.declared.placement.Row.{Row}
use Rattle.node_state.specs.Node.{NodeState}
use Rattle.rebalance.specs.Movers.{all_claim, has_mover, has_movers}

has_some_append : (xs ys : List NodeId) → has_movers (xs ++ ys) ≡ (has_movers xs || has_movers ys)
has_some_append [] ys = refl
has_some_append (x ∷ xs) ys = refl

has_mover_some : (rows : List Row) → has_mover rows ≡ has_movers (movers_in rows)
has_mover_some [] = refl
has_mover_some (row ∷ rows) =
    ap (λ b. has_movers row.movers || b) (has_mover_some rows) ∙ sym (has_some_append row.movers (movers_in rows))
    ∙ ap has_movers (sym (flat_map-cons (λ (r : Row). r.movers) row rows))

all_claim_each : (s : NodeState) (rows : List Row) → all_claim s rows ≡ list_all (has_claim s) (movers_in rows)
all_claim_each s [] = refl
all_claim_each s (row ∷ rows) =
    ap (λ b. list_all (has_claim s) row.movers && b) (all_claim_each s rows)
    ∙ sym (list_all-append (has_claim s) row.movers (movers_in rows))
    ∙ ap (list_all (has_claim s)) (sym (flat_map-cons (λ (r : Row). r.movers) row rows))

all_claimed_some : (s : NodeState) (nodes : List NodeId) → (has_movers nodes && list_all (has_claim s) nodes)
    ≡ all_claimed s nodes
all_claimed_some s [] = refl
all_claimed_some s (node ∷ nodes) = refl

claimed_by_row : (s : NodeState) (rows : List Row) → (has_mover rows && all_claim s rows) ≡ all_claimed s (movers_in rows)
claimed_by_row s rows =
    ap (λ b. b && all_claim s rows) (has_mover_some rows) ∙ ap (λ b. has_movers (movers_in rows) && b) (all_claim_each s rows)
    ∙ all_claimed_some s (movers_in rows)

pub claimed_with_movers : (s : NodeState) (rows : List Row) → has_mover rows ≡ true →
    all_claim s rows ≡ all_claimed s (movers_in rows)
claimed_with_movers s rows some = ap (λ b. b && all_claim s rows) (sym some) ∙ claimed_by_row s rows

pub claimed_without_movers : (s : NodeState) (rows : List Row) → has_mover rows ≡ false → false ≡ all_claimed s (movers_in rows)
claimed_without_movers s rows none = ap (λ b. b && all_claim s rows) (sym none) ∙ claimed_by_row s rows
