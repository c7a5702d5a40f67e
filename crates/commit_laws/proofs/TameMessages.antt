-- What messages end: those of rows that leave commits alone, and those of a decision.
use Rattle.act_rows.specs.Accesses.{prepare_outs}
use Rattle.act_rows.specs.Decisions.{backup_finish_outs, decision_outs, finishes_for_lost}
use Rattle.act_rows.specs.Exchange.{demand_outs, demands_of}
use Rattle.act_rows.specs.Primary.{backup_prepare_outs, near_outs, readers_but_me}
use Rattle.act_rows.specs.Steps.{live_among, live_holders, lost_among, outs_to}
use Rattle.commit_laws.specs.CommitSteps.{committed_by, committed_if, ends_only, is_end_of, is_tame, is_tame_out}
use Rattle.ignite_types.proofs.NameLaws.{same_tx_itself}
use Rattle.ignite_types.specs.Placement.{capped, first_owner}
use Rattle.ignite_types.specs.declared.message.Message.{Message}
use Rattle.ignite_types.specs.declared.message.Out.{Out}
use Rattle.ignite_types.specs.declared.message.Stored.{Stored}
use Rattle.ignite_types.specs.declared.names.NodeId.{NodeId}
use Rattle.ignite_types.specs.declared.names.TopVer.{TopVer}
use Rattle.ignite_types.specs.declared.names.TxId.{TxId}
use Rattle.ignite_types.specs.declared.placement.Row.{Row}
use Rattle.ignite_types.specs.declared.placement.Share.{Share}
use Rattle.link_laws.proofs.Journals.{first_rest}
use Rattle.node_state.specs.Node.{NodeState}
use Rattle.node_state.specs.declared.near.TxEntry.{TxEntry}
use Rattle.part_model.specs.NextMap.{has_node}
use Rattle.std.proofs.Common.{Bool, List, None, Option, Some, [], false, if◌then◌else◌, refl, true, ◌&&◌, ◌++◌, ◌∷◌, ◌≡◌}
use Rattle.std.specs.List.{list_all}
use Rattle.std.specs.Option.{is_none}
use Rattle.std.specs.Prelude.{ℕ}
use Rattle.transaction_laws.proofs.LeavesStarters.{all_of_both}
use Rattle.ignite_types.specs.declared.message.Message.TheVariants as msg

pub both_tame : (xs ys : List Out) → list_all is_tame_out xs ≡ true → list_all is_tame_out ys ≡ true →
    list_all is_tame_out (xs ++ ys) ≡ true
both_tame [] ys first second = second
both_tame (x ∷ xs) ys first second =
    elim (is_tame_out x) as (λ b. (b && list_all is_tame_out xs) ≡ true → (b && list_all is_tame_out (xs ++ ys)) ≡ true) [
      | true ↦ λ rest. both_tame xs ys rest second
      | false ↦ λ none. absurd (cc)
    ] first

pub to_tame : (nodes : List NodeId) (m : Message) → is_tame m ≡ true → list_all is_tame_out (outs_to nodes m) ≡ true
to_tame [] m plain = refl
to_tame (n ∷ ns) m plain = rw plain (to_tame ns m plain)

-- Messages that end one transaction.

pub ends_own : (tx : TxId) (commit : Bool) → ends_only tx commit (committed_if commit tx) ≡ true
ends_own tx true = rw (same_tx_itself tx) refl
ends_own tx false = refl

tame_one : (tx : TxId) (commit : Bool) (o : Option TxId) → is_none o ≡ true → ends_only tx commit o ≡ true
tame_one tx commit None tame = refl
tame_one tx commit (Some u) tame = absurd (cc (tame))

pub tame_end : (tx : TxId) (commit : Bool) (outs : List Out) → list_all is_tame_out outs ≡ true →
    list_all (is_end_of tx commit) outs ≡ true
tame_end tx commit [] tame = refl
tame_end tx commit (o ∷ os) tame =
    let both = first_rest (is_tame_out o) (list_all is_tame_out os) tame in
    rw (tame_one tx commit (committed_by o.msg) both.0) (tame_end tx commit os both.1)

pub both_end : (tx : TxId) (commit : Bool) (xs ys : List Out) → list_all (is_end_of tx commit) xs ≡ true →
    list_all (is_end_of tx commit) ys ≡ true → list_all (is_end_of tx commit) (xs ++ ys) ≡ true
both_end tx commit xs ys first second = all_of_both (is_end_of tx commit) xs ys first second

pub to_end : (tx : TxId) (commit : Bool) (nodes : List NodeId) (m : Message) → ends_only tx commit (committed_by m) ≡ true →
    list_all (is_end_of tx commit) (outs_to nodes m) ≡ true
to_end tx commit [] m ends = refl
to_end tx commit (n ∷ ns) m ends = rw ends (to_end tx commit ns m ends)

pub lost_end : (s : NodeState) (tx : TxId) (commit : Bool) (shares : List Share) (nodes : List NodeId) →
    list_all (is_end_of tx commit) (finishes_for_lost s tx commit shares nodes) ≡ true
lost_end s tx commit shares [] = refl
lost_end s tx commit shares (n ∷ ns) =
    both_end tx commit (backup_finish_outs tx n commit (live_holders s shares n)) (finishes_for_lost s tx commit shares ns)
    (to_end tx commit (live_holders s shares n) (msg.BackupFinish tx n commit) (ends_own tx commit))
    (lost_end s tx commit shares ns)

pub decision_ends : (s : NodeState) (tx : TxId) (commit : Bool) (e : TxEntry) →
    list_all (is_end_of tx commit) (decision_outs s tx commit e) ≡ true
decision_ends s tx commit e =
    both_end tx commit (outs_to (live_among s e.asked) (msg.Finish tx commit))
    (finishes_for_lost s tx commit e.shares (lost_among s e.asked))
    (to_end tx commit (live_among s e.asked) (msg.Finish tx commit) (ends_own tx commit))
    (lost_end s tx commit e.shares (lost_among s e.asked))

-- Messages that end none as committed.

pub prepare_tame : (s : NodeState) (tx : TxId) (top : TopVer) (e : TxEntry) (shares : List Share) (nodes : List NodeId) →
    list_all is_tame_out (prepare_outs s tx top e shares nodes) ≡ true
prepare_tame s tx top e shares [] = refl
prepare_tame s tx top e shares (n ∷ ns) = prepare_tame s tx top e shares ns

pub backup_prepare_tame : (s : NodeState) (tx : TxId) (top : TopVer) (shares : List Share) (writes : List Stored)
    (nodes : List NodeId) → list_all is_tame_out (backup_prepare_outs s tx top shares writes nodes) ≡ true
backup_prepare_tame s tx top shares writes [] = refl
backup_prepare_tame s tx top shares writes (n ∷ ns) = backup_prepare_tame s tx top shares writes ns

pub near_tame : (s : NodeState) (tx : TxId) (writes : List Stored) → list_all is_tame_out (near_outs s tx writes) ≡ true
near_tame s tx [] = refl
near_tame s tx (w ∷ ws) =
    both_tame (outs_to (readers_but_me s w.key) (msg.NearUpdate tx w.key w.value w.ver)) (near_outs s tx ws)
    (to_tame (readers_but_me s w.key) (msg.NearUpdate tx w.key w.value w.ver) refl) (near_tame s tx ws)

demands_of_tame : (me : NodeId) (top : TopVer) (part : ℕ) (row : Row) (primary : Option NodeId) →
    list_all is_tame_out (demands_of me top part row primary) ≡ true
demands_of_tame me top part row None = refl
demands_of_tame me top part row (Some primary) =
    elim (has_node row.movers me) as (λ b.
    list_all is_tame_out (if b then record { to = primary; msg = msg.Demand top part None } ∷ [] else []) ≡ true) [
      | true ↦ refl
      | false ↦ refl
    ]

pub demands_tame : (me : NodeId) (top : TopVer) (part : ℕ) (rows : List Row) →
    list_all is_tame_out (demand_outs me top part rows) ≡ true
demands_tame me top part [] = refl
demands_tame me top part (row ∷ rows) =
    both_tame (demands_of me top part row (first_owner row)) (demand_outs me top (capped part 1) rows)
    (demands_of_tame me top part row (first_owner row)) (demands_tame me top (capped part 1) rows)
