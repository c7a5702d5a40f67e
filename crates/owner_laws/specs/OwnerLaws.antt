-- The laws of owners and of the messages about locks, as statements of a scene.
use Rattle.std.specs.List.{list_all}
use Rattle.std.specs.Prelude.{Bool, Some, false, true, ◌++◌, ◌≡◌, ◌⊎◌}
use Rattle.act_rows.specs.NewNodes.{opening_map_of}
use Rattle.act_rows.specs.Steps.{entry_of, session_state_of, share_of}
use Rattle.ignite_types.specs.Names.{key_cmp}
use Rattle.ignite_types.specs.Placement.{primary_of}
use Rattle.ignite_types.specs.declared.message.Message.{Message}
use Rattle.ignite_types.specs.declared.names.NodeId.{NodeId}
use Rattle.ignite_types.specs.declared.names.TxId.{TxId}
use Rattle.ignite_types.specs.declared.scenario.PlanStep.{PlanStep}
use Rattle.ignite_types.specs.declared.scenario.Scenario.{Scenario}
use Rattle.ignite_types.specs.declared.scenario.Step.{Step}
use Rattle.ignite_types.specs.declared.text.Key.{Key}
use Rattle.node_state.specs.declared.near.TxEntry.{TxEntry}
use Rattle.ordered_set.specs.Members.{has}
use Rattle.owner_laws.specs.LockFacts.{ALock, ALockOk, Apart, In, WaitsOn, is_live, is_locking, once, owner}
use Rattle.owner_laws.specs.LockViews.{View}
use Rattle.part_model.specs.Queues.{queue_in}
use Rattle.scenes.specs.Scenes.{Scene}
use Rattle.scenes.specs.Views.{outbox_for}
use Rattle.transaction_laws.specs.StarterStates.{is_open}
use Rattle.ignite_types.specs.declared.scenario.Step.TheVariants as step

abbrev pub leaves_topology : Step → Bool
leaves_topology (step.Hold from to) = true
leaves_topology (step.Release from to) = true
leaves_topology other = false

-- no step of the plan is a join or a loss, or starts or stops a cache
abbrev pub topology_stands : Scenario → Bool
topology_stands s = list_all (λ (p : PlanStep). leaves_topology p.step) s.plan

-- what these laws see of a scene: on each link what lies in the inbox, followed by what the sender's outbox has for it
abbrev pub lock_view : Scene → View
lock_view sc = record {
  entry = λ n. entry_of (sc.state n);
  session_state = λ n. session_state_of (sc.state n);
  queue = λ n. queue_in (sc.state n).queues;
  share = λ n. share_of (sc.state n);
  flight = λ a b. sc.link a b ++ outbox_for b (sc.state a).outbox;
}

-- an undecided pessimistic transaction owns each key that it has accessed, at the key's primary, or it waits for it
abbrev pub OwnsItsKeys : Scene → Type 0
OwnsItsKeys sc = (tx : TxId) (e : TxEntry) (key : Key) (primary : NodeId) → entry_of (sc.state tx.node) tx ≡ Some e
    → is_open e.state ≡ true → is_locking e.mode ≡ true → has key_cmp e.keys key ≡ true
    → primary_of (opening_map_of sc.scenario) key ≡ Some primary
    → (owner (queue_in (sc.state primary).queues key) ≡ Some tx)
    ⊎ WaitsOn (Some e) (session_state_of (sc.state tx.node) tx.session) key

-- an undecided transaction's Lock of a key, its place in the key's queue and its LockOk are one token
pub record IsOneToken (v : View) : Type 0 where
  -- while its Lock is on its way it waits for the key, and stands in no queue of it
  pub lock_comes : (from to : NodeId) (tx : TxId) (key : Key) (m : Message) → is_live v.entry tx ≡ true →
      In m (v.flight from to)
      → once m ≡ Some (ALock tx key) → WaitsOn (v.entry tx.node tx) (v.session_state tx.node tx.session) key
      × (In tx (v.queue to key) → ⊥)
  -- while its LockOk is on its way it waits for the key, and owns it
  pub lock_ok_comes : (from to : NodeId) (tx : TxId) (key : Key) (m : Message) → is_live v.entry tx ≡ true →
      In m (v.flight from to)
      → once m ≡ Some (ALockOk tx key) → WaitsOn (v.entry tx.node tx) (v.session_state tx.node tx.session) key
      × (owner (v.queue from key) ≡ Some tx)
  -- where it stands in a queue it owns the key, or waits for it
  pub place_stands : (node : NodeId) (tx : TxId) (key : Key) → is_live v.entry tx ≡ true → In tx (v.queue node key)
      → (owner (v.queue node key) ≡ Some tx) ⊎ WaitsOn (v.entry tx.node tx) (v.session_state tx.node tx.session) key
  -- no two of its messages of one kind, about one key, are on one link
  pub once_each : (from to : NodeId) → Apart v.entry (v.flight from to)

abbrev pub LocksAreTokens : Scene → Type 0
LocksAreTokens sc = IsOneToken (lock_view sc)
