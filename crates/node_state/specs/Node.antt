-- The whole state of a node. The protocol's rows are functions on it, whatever tables the code of a node keeps it in.
use Rattle.std.specs.Prelude.{Bool, Option, ℕ}
use Rattle.part_model.specs.Copies.{Copy}
use Rattle.part_model.specs.NearEntries.{NearCache, Readers}
use Rattle.part_model.specs.Queues.{Queues}
use Rattle.ignite_types.specs.declared.journal.Rec.{Rec}
use Rattle.ignite_types.specs.declared.list.List.{List}
use Rattle.ignite_types.specs.declared.message.Out.{Out}
use Rattle.ignite_types.specs.declared.message.Single.{Single}
use Rattle.ignite_types.specs.declared.names.NodeId.{NodeId}
use Rattle.ignite_types.specs.declared.names.TopVer.{TopVer}
use Rattle.ignite_types.specs.declared.names.TxId.{TxId}
use Rattle.ignite_types.specs.declared.placement.PartMap.{PartMap}
use Rattle.ignite_types.specs.declared.scenario.Cache.{Cache}
use Rattle.ignite_types.specs.declared.scenario.Member.{Member}
use Rattle.node_state.specs.declared.near.TxEntry.{TxEntry}
use Rattle.node_state.specs.declared.primary.BackupName.{BackupName}
use Rattle.node_state.specs.declared.primary.BackupShare.{BackupShare}
use Rattle.node_state.specs.declared.primary.OwnShare.{OwnShare}
use Rattle.node_state.specs.declared.session.SessionState.{SessionState}
use Rattle.node_state.specs.declared.topology.Claim.{Claim}
use Rattle.node_state.specs.declared.topology.Exchange.{Exchange}
use Rattle.node_state.specs.declared.topology.Report.{Report}
use Rattle.node_state.specs.declared.topology.Round.{Round}

pub record NodeState : Type 0 where
  pub me : NodeId
  -- how many acts the node has done
  pub acts : ℕ
  -- the clock
  pub now : ℕ
  -- the caches of the scenario
  pub caches : List Cache
  -- how many topology events the node has read, or learned when it joined
  pub read : ℕ
  -- the last topology version that the node has seen, and its members by age
  pub seen : TopVer
  pub members : List Member
  -- the caches that run in that version, ascending
  pub running : List ℕ
  -- the nodes that this node has seen leave, ascending
  pub left : List NodeId
  pub installed : Option PartMap
  -- the last version that was opened here
  pub opened : Option TopVer
  -- the node's sessions, by their number
  pub session_states : List (ℕ × SessionState)
  -- the transactions that were started here and have not ended, or whose fault is not told yet, by their names
  pub txs : List (TxId × TxEntry)
  -- the near cache of each cache that has one, by the cache's number; the most recent entry first
  pub near : List (ℕ × NearCache)
  -- the copies of all partitions, by their number
  pub stores : List Copy
  -- for each key that is held the transactions at its lock: the first owns it, the others wait
  pub queues : Queues
  -- for each key the nodes to which updates of it go
  pub readers : Readers
  -- the last number that was drawn for an entry's version
  pub order : ℕ
  -- this primary's own shares
  pub shares : List (TxId × OwnShare)
  -- the shares held for other primaries
  pub backups : List (BackupName × BackupShare)
  -- the last version for which a Single was sent
  pub single_sent : Option TopVer
  -- the Singles that came, in their order
  pub singles : List Single
  -- the exchange that this node coordinates, until another version is seen
  pub exchange : Option Exchange
  -- the partitions whose copies are filled here under the installed map, ascending
  pub complete : List ℕ
  -- the claims that came under the installed map or a later one, ascending
  pub claims : List Claim
  pub round : Option Round
  -- the lists of orphans that came
  pub reports : List Report
  -- the verdicts that this node has given
  pub verdicts : List (TxId × Bool)
  -- the messages that wait to be sent, the oldest first
  pub outbox : List Out
  -- the records noted in the act in work
  pub noted : List Rec
