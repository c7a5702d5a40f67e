-- The invariant of the laws of votes, where topology stands still; it stands beside that of the laws of owners.
use Rattle.std.specs.Prelude.{Option, Some, [], true, ℕ, ◌≡◌}
use Rattle.act_rows.specs.NewNodes.{opening_map_of}
use Rattle.act_rows.specs.Steps.{backup_cmp}
use Rattle.ignite_types.specs.Names.{same_top, tx_cmp}
use Rattle.ignite_types.specs.declared.list.List.{List}
use Rattle.ignite_types.specs.declared.names.NodeId.{NodeId}
use Rattle.ignite_types.specs.declared.names.TopVer.{TopVer}
use Rattle.ignite_types.specs.declared.names.TxId.{TxId}
use Rattle.ignite_types.specs.declared.placement.PartMap.{PartMap}
use Rattle.node_state.specs.Node.{NodeState}
use Rattle.node_state.specs.declared.primary.BackupName.{BackupName}
use Rattle.node_state.specs.declared.primary.BackupShare.{BackupShare}
use Rattle.node_state.specs.declared.primary.OwnShare.{OwnShare}
use Rattle.ordered_table.specs.Places.{IsAscending}
use Rattle.owner_laws.specs.OwnerInvariant.{OwnerInvariant, stands_still}
use Rattle.scenes.specs.Scenes.{Scene}
use Rattle.vote_laws.specs.VoteFacts.{VotesHold}
use Rattle.vote_laws.specs.VoteViews.{vote_view}
use Rattle.node_state.specs.declared.life.Life.TheVariants as life

-- a node that is alive: its shares are in order, it has the opening map, of the version that it has seen last, and it has seen
-- none leave
pub record VoterFits (m : PartMap) (installed : Option PartMap) (seen : TopVer) (shares : List (TxId × OwnShare))
    (backups : List (BackupName × BackupShare)) (left : List NodeId) : Type 0 where
  pub installed_is : installed ≡ Some m
  pub seen_is : same_top m.top seen ≡ true
  pub shares_up : IsAscending tx_cmp shares
  pub backups_up : IsAscending backup_cmp backups
  pub none_left : left ≡ []

abbrev pub VoterStands : PartMap → NodeState → Type 0
VoterStands m s = VoterFits m s.installed s.seen s.shares s.backups s.left

pub record VotesFit (sc : Scene) : Type 0 where
  pub votes : VotesHold (vote_view sc)
  pub nodes : (n : NodeId) → sc.life n ≡ life.Alive → VoterStands (opening_map_of sc.scenario) (sc.state n)

-- both invariants, after so many events
pub record VoteInvariant (events : ℕ) (sc : Scene) : Type 0 where
  pub owners : OwnerInvariant events sc
  pub votes : stands_still sc.directory.events ≡ true → VotesFit sc
