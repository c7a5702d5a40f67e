-- What becomes of a transaction whose starter was lost, by what the members report of it.
use Rattle.std.specs.List.{flat_map, list_all, list_any}
use Rattle.std.specs.Prelude.{Bool, None, Option, Some, [], false, if◌then◌else◌, length, nat_eq, not, true, ◌&&◌, ◌||◌, ◌∷◌}
use Rattle.part_model.specs.Copies.{with_kept}
use Rattle.part_model.specs.NextMap.{is_member, map_holders}
use Rattle.part_model.specs.Orders.{same_share}
use Rattle.ignite_types.specs.Good.{members}
use Rattle.ignite_types.specs.declared.list.List.{List}
use Rattle.ignite_types.specs.declared.message.Orphan.{Orphan}
use Rattle.ignite_types.specs.declared.placement.Share.{Share}
use Rattle.ignite_types.specs.declared.placement.ShareState.{ShareState}
use Rattle.ignite_types.specs.declared.placement.ShareState.TheVariants.{Committed, Prepared}
use Rattle.ignite_types.specs.declared.scenario.Member.{Member}

-- all that the lists report of shares
abbrev pub reported_shares : List Orphan → List (Share × ShareState)
reported_shares orphans = flat_map (λ (o : Orphan). o.held) orphans

abbrev pub is_committed_state : ShareState → Bool
is_committed_state Committed = true
is_committed_state _ = false

abbrev pub is_committed_share : List (Share × ShareState) → Bool
is_committed_share map_holders = list_any (λ (h : Share × ShareState). is_committed_state h.1) map_holders

abbrev pub all_shares_committed : List (Share × ShareState) → Bool
all_shares_committed map_holders = list_all (λ (h : Share × ShareState). is_committed_state h.1) map_holders

abbrev pub is_ready : ShareState → Bool
is_ready Prepared = true
is_ready Committed = true
is_ready _ = false

-- the share is reported Prepared or Committed
abbrev pub is_ready_in : List (Share × ShareState) → Share → Bool
is_ready_in map_holders share = list_any (λ (h : Share × ShareState). same_share h.0 share && is_ready h.1) map_holders

-- the shares of the transaction, as the first list that names them has them
abbrev pub shares_named : List Orphan → List Share
shares_named [] = []
shares_named (o ∷ os) = if nat_eq (length o.shares) 0 then shares_named os else o.shares

-- some share is reported, and every reported one is Committed: nothing is left to do
abbrev pub is_settled : List Orphan → Bool
is_settled orphans = not (nat_eq (length (reported_shares orphans)) 0) && all_shares_committed (reported_shares orphans)

-- the holder of a share is no member, or the share is reported Prepared or Committed
abbrev pub is_member_ready : List (Share × ShareState) → List Member → Share → Bool
is_member_ready map_holders members share = not (is_member members share.holder) || is_ready_in map_holders share

abbrev pub members_ready : List (Share × ShareState) → List Member → List Share → Bool
members_ready map_holders members shares = list_all (is_member_ready map_holders members) shares

-- shares are named, and each whose holder is a member is reported Prepared or Committed
abbrev pub all_ready : List Orphan → List Member → Bool
all_ready orphans members = not (nat_eq (length (shares_named orphans)) 0)
    && members_ready (reported_shares orphans) members (shares_named orphans)

-- commit or not: the verdict kept from an earlier round; commit, where a share is reported Committed or all are ready;
-- else rollback
abbrev pub verdict : Option Bool → List Orphan → List Member → Bool
verdict (Some with_kept) orphans members = with_kept
verdict None orphans members = is_committed_share (reported_shares orphans) || all_ready orphans members
