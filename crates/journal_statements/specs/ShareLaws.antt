-- What holds of the shares of transactions at live nodes, in the world after every prefix of a journal's groups.
use Rattle.std.specs.List.{flat_map, list_all, list_any}
use Rattle.std.specs.Prelude.{Bool, Option, Some, [], false, filter, if◌then◌else◌, map, not, option_to_list, true, ◌&&◌, ◌++◌, ◌||◌, ◌∷◌}
use Rattle.act_rows.specs.Steps.{entry_of}
use Rattle.part_model.specs.Orders.{is_lower_top}
use Rattle.ignite_types.specs.Names.{same_node, same_tx}
use Rattle.ignite_types.specs.declared.journal.Group.{Group}
use Rattle.ignite_types.specs.declared.journal.Journal.{Journal}
use Rattle.ignite_types.specs.declared.journal.Rec.{Rec}
use Rattle.ignite_types.specs.declared.list.List.{List}
use Rattle.ignite_types.specs.declared.placement.ShareState.{ShareState}
use Rattle.ignite_types.specs.declared.names.NodeId.{NodeId}
use Rattle.ignite_types.specs.declared.names.TopVer.{TopVer}
use Rattle.ignite_types.specs.declared.names.TxId.{TxId}
use Rattle.ignite_types.specs.declared.placement.PartMap.{PartMap}
use Rattle.ignite_types.specs.declared.placement.Share.{Share}
use Rattle.ignite_types.specs.declared.scenario.Scenario.{Scenario}
use Rattle.node_state.specs.declared.near.TxEntry.{TxEntry}
use Rattle.node_state.specs.declared.primary.BackupName.{BackupName}
use Rattle.node_state.specs.declared.primary.BackupShare.{BackupShare}
use Rattle.node_state.specs.declared.primary.OwnShare.{OwnShare}
use Rattle.tx_model.specs.History.{committed_in}
use Rattle.tx_model.specs.Opening.{opening, session_nodes_from}
use Rattle.tx_model.specs.World.{Part, World, is_alive_part, outcome}
use Rattle.journal_statements.specs.Noted.{Homes, Noted, holders_of_key, is_committed_before, maps_installed, noted, noted_in}
use Rattle.ignite_types.specs.declared.placement.ShareState.TheVariants.{Committed, Prepared}
use Rattle.ignite_types.specs.declared.journal.Rec.TheVariants as note

-- A share as it stands at its holder.
pub record HeldAt : Type 0 where
  pub tx : TxId
  pub holder : NodeId
  pub primary : NodeId
  pub top : TopVer
  pub state : ShareState
  -- all shares of the transaction
  pub shares : List Share

abbrev pub own_share_at : NodeId → TxId × OwnShare → HeldAt
own_share_at id share = record {
  tx = share.0;
  holder = id;
  primary = id;
  top = share.1.top;
  state = share.1.state;
  shares = share.1.shares;
}

abbrev pub backup_share_at : NodeId → BackupName × BackupShare → HeldAt
backup_share_at id share = record {
  tx = share.0.tx;
  holder = id;
  primary = share.0.primary;
  top = share.1.top;
  state = share.1.state;
  shares = share.1.shares;
}

abbrev pub held_at_part : Part → List HeldAt
held_at_part p = if is_alive_part p
    then map (own_share_at p.node.me) p.node.shares ++ map (backup_share_at p.node.me) p.node.backups
    else []

-- the shares at live nodes
abbrev pub held_in : World → List HeldAt
held_in w = flat_map held_at_part w.parts

abbrev pub is_share_committed : ShareState → Bool
is_share_committed Committed = true
is_share_committed s = false

abbrev pub is_ready_state : ShareState → Bool
is_ready_state Prepared = true
is_ready_state Committed = true
is_ready_state s = false

-- Preparing, Prepared or Undoing
abbrev pub is_open_share : HeldAt → Bool
is_open_share h = not (is_share_committed h.state)

abbrev pub is_share_of : TxId → Share → HeldAt → Bool
is_share_of tx share h = same_tx h.tx tx && same_node h.holder share.holder && same_node h.primary share.primary

-- No map above an open share's version.

abbrev pub is_below_maps : List PartMap → HeldAt → Bool
is_below_maps maps h = not (is_open_share h) || list_all (λ (m : PartMap). not (is_lower_top h.top m.top)) maps

abbrev pub shares_below_maps : List PartMap → List HeldAt → Bool
shares_below_maps maps held = list_all (is_below_maps maps) held

-- At a first commit decision.

abbrev pub entries_of_tx : World → TxId → List TxEntry
entries_of_tx w tx = flat_map (λ (p : Part). option_to_list (entry_of p.node tx)) (filter is_alive_part w.parts)

abbrev pub shares_of_starter : World → TxId → List Share
shares_of_starter w tx = flat_map (λ (e : TxEntry). e.shares) (entries_of_tx w tx)

abbrev pub shares_of_tx : World → List HeldAt → TxId → List Share
shares_of_tx w held tx =
    shares_of_starter w tx ++ flat_map (λ (h : HeldAt). h.shares) (filter (λ (h : HeldAt). same_tx h.tx tx) held)

abbrev pub is_live_in : World → NodeId → Bool
is_live_in w id = list_any (λ (p : Part). same_node p.node.me id && is_alive_part p) w.parts

abbrev pub is_ready_at : World → List HeldAt → TxId → Share → Bool
is_ready_at w held tx share = not (is_live_in w share.holder)
    || list_any (λ (h : HeldAt). is_share_of tx share h && is_ready_state h.state) held

-- each live holder of a share of it is Prepared or Committed
abbrev pub is_ready_everywhere : World → TxId → Bool
is_ready_everywhere w tx = let held = held_in w in list_all (is_ready_at w held tx) (shares_of_tx w held tx)

abbrev pub is_first_commit : List Noted → TxId → Bool
is_first_commit before tx = not (is_committed_before before tx)

abbrev pub commit_ready : World → List Noted → Rec → Bool
commit_ready w before r =
    list_all (λ (tx : TxId). not (is_first_commit before tx) || is_ready_everywhere w tx) (option_to_list (committed_in r))

-- Behind a drop.

-- a key of the transaction was dropped by this primary, and these nodes hold the key's partition for it
pub record Dropped : Type 0 where
  pub tx : TxId
  pub primary : NodeId
  pub holders : List NodeId

abbrev pub dropped_in : List PartMap → List Noted → Option NodeId → Rec → List Dropped
dropped_in maps before (Some id) (note.Drop tx key) =
    record { tx = tx; primary = id; holders = holders_of_key maps before tx key } ∷ []
dropped_in maps before who r = []

abbrev pub is_dropped_for : HeldAt → Dropped → Bool
is_dropped_for h d = same_tx d.tx h.tx && same_node d.primary h.primary && list_any (same_node h.holder) d.holders

abbrev pub is_over_for : List Dropped → HeldAt → Bool
is_over_for drops h = not (is_open_share h) || not (list_any (is_dropped_for h) drops)

-- no live holder of a dropped key's partition has an open share of the transaction for that primary
abbrev pub drops_over : List Dropped → List HeldAt → Bool
drops_over drops held = list_all (is_over_for drops) held

-- Behind a forgotten share.

abbrev pub is_still_held : List HeldAt → HeldAt → Bool
is_still_held held h = list_any (is_share_of h.tx (record { holder = h.holder; primary = h.primary })) held

-- the transactions of which a live holder has just forgotten a Committed share
abbrev pub forgotten_by : World → List HeldAt → List HeldAt → List TxId
forgotten_by w earlier held = map (λ (h : HeldAt). h.tx)
    (filter (λ (h : HeldAt). is_share_committed h.state && is_live_in w h.holder && not (is_still_held held h)) earlier)

abbrev pub forgotten_over : List TxId → List HeldAt → Bool
forgotten_over forgotten held =
    list_all (λ (h : HeldAt). not (is_open_share h) || not (list_any (same_tx h.tx) forgotten)) held

-- After every group.

-- So far: the world, the records, the drops, and the transactions of which a share was forgotten.
pub record Shared : Type 0 where
  pub world : World
  pub recs : List Noted
  pub drops : List Dropped
  pub forgotten : List TxId

abbrev pub shared_after : Shared → List PartMap → World → List Noted → Shared
shared_after s maps w recs = record {
  world = w;
  recs = s.recs ++ recs;
  drops = s.drops ++ flat_map (λ (n : Noted). dropped_in maps (s.recs ++ recs) n.node n.rec) recs;
  forgotten = s.forgotten ++ forgotten_by w (held_in s.world) (held_in w);
}

abbrev pub shares_fit : Scenario → Shared → Bool
shares_fit scenario s = let held = held_in s.world in
    shares_below_maps (maps_installed scenario s.recs) held && drops_over s.drops held && forgotten_over s.forgotten held

abbrev pub share_laws_from : Scenario → Homes → List PartMap → Shared → List Group → Bool
share_laws_from scenario homes maps s [] = true
share_laws_from scenario homes maps s (g ∷ gs) =
    let now = shared_after s maps (outcome s.world g.event).world (noted_in scenario homes g) in
    list_all (commit_ready s.world s.recs) g.recs && shares_fit scenario now && share_laws_from scenario homes maps now gs

abbrev pub share_laws : Journal → Bool
share_laws j = share_laws_from j.scenario (session_nodes_from 1 [] j.scenario.sessions)
    (maps_installed j.scenario (noted j.scenario j.groups))
    (record { world = opening j.scenario; recs = []; drops = []; forgotten = [] }) j.groups
