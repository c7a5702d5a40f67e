-- The messages of plain rows are plain.
use Rattle.std.proofs.Common.{◌≡◌, ◌++◌, ◌&&◌, List, [], ◌∷◌, Option, Some, None, Bool, true, false, if◌then◌else◌, refl}
use Rattle.std.specs.List.{list_all}
use Rattle.std.specs.Prelude.{ℕ}
use Rattle.frame_laws.specs.Kits.{is_plain_message, is_plain_out}
use Rattle.act_rows.specs.Accesses.{prepare_outs}
use Rattle.act_rows.specs.Decisions.{backup_finish_outs, decision_outs, finishes_for_lost, is_committing, outs_after_left}
use Rattle.act_rows.specs.Exchange.{demand_outs, demands_of}
use Rattle.act_rows.specs.Primary.{backup_prepare_outs, near_outs, readers_but_me}
use Rattle.act_rows.specs.Steps.{live_among, live_holders, lost_among, outs_to}
use Rattle.part_model.specs.NextMap.{has_node}
use Rattle.ignite_types.specs.Names.{node_cmp}
use Rattle.ignite_types.specs.Placement.{capped, first_owner}
use Rattle.ignite_types.specs.declared.message.Message.{Message}
use Rattle.ignite_types.specs.declared.message.Out.{Out}
use Rattle.ignite_types.specs.declared.message.Stored.{Stored}
use Rattle.ignite_types.specs.declared.names.NodeId.{NodeId}
use Rattle.ignite_types.specs.declared.names.TopVer.{TopVer}
use Rattle.ignite_types.specs.declared.names.TxId.{TxId}
use Rattle.ignite_types.specs.declared.placement.Row.{Row}
use Rattle.ignite_types.specs.declared.placement.Share.{Share}
use Rattle.node_state.specs.declared.near.TxEntry.{TxEntry}
use Rattle.node_state.specs.Node.{NodeState}
use Rattle.ordered_set.specs.Members.{has}
use Rattle.ignite_types.specs.declared.message.Message.TheVariants as msg

pub both_plain : (xs ys : List Out) → list_all is_plain_out xs ≡ true → list_all is_plain_out ys ≡ true →
    list_all is_plain_out (xs ++ ys) ≡ true
both_plain [] ys first second = second
both_plain (x ∷ xs) ys first second =
    elim (is_plain_out x) as (λ b. (b && list_all is_plain_out xs) ≡ true → (b && list_all is_plain_out (xs ++ ys)) ≡ true) [
      | true ↦ λ rest. both_plain xs ys rest second
      | false ↦ λ none. absurd (cc)
    ] first

pub to_plain : (nodes : List NodeId) (m : Message) → is_plain_message m ≡ true → list_all is_plain_out (outs_to nodes m) ≡ true
to_plain [] m plain = refl
to_plain (n ∷ ns) m plain = rw plain (to_plain ns m plain)

pub lost_plain : (s : NodeState) (tx : TxId) (commit : Bool) (shares : List Share) (nodes : List NodeId) →
    list_all is_plain_out (finishes_for_lost s tx commit shares nodes) ≡ true
lost_plain s tx commit shares [] = refl
lost_plain s tx commit shares (n ∷ ns) =
    both_plain (backup_finish_outs tx n commit (live_holders s shares n)) (finishes_for_lost s tx commit shares ns)
    (to_plain (live_holders s shares n) (msg.BackupFinish tx n commit) refl) (lost_plain s tx commit shares ns)

pub decision_plain : (s : NodeState) (tx : TxId) (commit : Bool) (e : TxEntry) →
    list_all is_plain_out (decision_outs s tx commit e) ≡ true
decision_plain s tx commit e =
    both_plain (outs_to (live_among s e.asked) (msg.Finish tx commit))
    (finishes_for_lost s tx commit e.shares (lost_among s e.asked))
    (to_plain (live_among s e.asked) (msg.Finish tx commit) refl) (lost_plain s tx commit e.shares (lost_among s e.asked))

pub left_plain : (s : NodeState) (tx : TxId) (lost : NodeId) (e : TxEntry) →
    list_all is_plain_out (outs_after_left s tx lost e) ≡ true
left_plain s tx lost e =
    elim (has node_cmp e.awaited lost) as (λ b.
    list_all is_plain_out (if b then backup_finish_outs tx lost (is_committing e.state) (live_holders s e.shares lost)
    else []) ≡ true) [
      | true ↦ to_plain (live_holders s e.shares lost) (msg.BackupFinish tx lost (is_committing e.state)) refl
      | false ↦ refl
    ]

pub prepare_plain : (s : NodeState) (tx : TxId) (top : TopVer) (e : TxEntry) (shares : List Share) (nodes : List NodeId) →
    list_all is_plain_out (prepare_outs s tx top e shares nodes) ≡ true
prepare_plain s tx top e shares [] = refl
prepare_plain s tx top e shares (n ∷ ns) = prepare_plain s tx top e shares ns

pub backup_prepare_plain : (s : NodeState) (tx : TxId) (top : TopVer) (shares : List Share) (writes : List Stored)
    (nodes : List NodeId) → list_all is_plain_out (backup_prepare_outs s tx top shares writes nodes) ≡ true
backup_prepare_plain s tx top shares writes [] = refl
backup_prepare_plain s tx top shares writes (n ∷ ns) = backup_prepare_plain s tx top shares writes ns

pub near_plain : (s : NodeState) (tx : TxId) (writes : List Stored) → list_all is_plain_out (near_outs s tx writes) ≡ true
near_plain s tx [] = refl
near_plain s tx (w ∷ ws) =
    both_plain (outs_to (readers_but_me s w.key) (msg.NearUpdate tx w.key w.value w.ver)) (near_outs s tx ws)
    (to_plain (readers_but_me s w.key) (msg.NearUpdate tx w.key w.value w.ver) refl) (near_plain s tx ws)

demands_of_plain : (me : NodeId) (top : TopVer) (part : ℕ) (row : Row) (primary : Option NodeId) →
    list_all is_plain_out (demands_of me top part row primary) ≡ true
demands_of_plain me top part row None = refl
demands_of_plain me top part row (Some primary) =
    elim (has_node row.movers me) as (λ b.
    list_all is_plain_out (if b then record { to = primary; msg = msg.Demand top part None } ∷ [] else []) ≡ true) [
      | true ↦ refl
      | false ↦ refl
    ]

pub demands_plain : (me : NodeId) (top : TopVer) (part : ℕ) (rows : List Row) →
    list_all is_plain_out (demand_outs me top part rows) ≡ true
demands_plain me top part [] = refl
demands_plain me top part (row ∷ rows) =
    both_plain (demands_of me top part row (first_owner row)) (demand_outs me top (capped part 1) rows)
    (demands_of_plain me top part row (first_owner row)) (demands_plain me top (capped part 1) rows)
