-- What is true of locks in every world that a run without topology events reaches, as long as a transaction is undecided.
use Rattle.std.specs.Prelude.{Bool, [], false, true, ◌∷◌, ◌≡◌, ◌≤◌, ◌⊎◌, None, Option, Some, slice_get}
use Rattle.act_rows.specs.Accesses.{is_pending_access}
use Rattle.ignite_types.specs.Placement.{primary_of}
use Rattle.ignite_types.specs.Names.{key_cmp}
use Rattle.ignite_types.specs.declared.list.List.{List}
use Rattle.ignite_types.specs.declared.message.Message.{Message}
use Rattle.ignite_types.specs.declared.message.Wanted.{Wanted}
use Rattle.ignite_types.specs.declared.names.NodeId.{NodeId}
use Rattle.ignite_types.specs.declared.names.TxId.{TxId}
use Rattle.ignite_types.specs.declared.placement.PartMap.{PartMap}
use Rattle.ignite_types.specs.declared.scenario.Mode.{Mode}
use Rattle.ignite_types.specs.declared.text.Key.{Key}
use Rattle.node_state.specs.declared.near.TxEntry.{TxEntry}
use Rattle.node_state.specs.declared.primary.OwnShare.{OwnShare}
use Rattle.node_state.specs.declared.session.SessionState.{SessionState}
use Rattle.ordered_set.specs.Members.{has}
use Rattle.transaction_laws.specs.StarterStates.{is_open, waits_for_lock}
use Rattle.scenes.specs.Rows.{MessageInHand}
use Rattle.owner_laws.specs.LockViews.{View}
use Rattle.ignite_types.specs.declared.message.Message.TheVariants as msg
use Rattle.ignite_types.specs.declared.scenario.Mode.TheVariants as mode
use Rattle.node_state.specs.declared.near.TxState.TheVariants as state

-- x stands in the list
abbrev pub In : {A : Type 0} → A → List A → Type 0
In x [] = ⊥
In x (y ∷ ys) = (x ≡ y) ⊎ In x ys

abbrev pub Each : {A : Type 0} → (A → Type 0) → List A → Type 0
Each P xs = (x : _) → In x xs → P x

abbrev pub owner : List TxId → Option TxId
owner q = slice_get q 0

abbrev pub is_locking : Mode → Bool
is_locking mode.Pessimistic = true
is_locking mode.Optimistic = false

-- the starter keeps it, and it is not decided
abbrev pub undecided : Option TxEntry → Bool
undecided None = false
undecided (Some e) = is_open e.state

abbrev pub waits : Option TxEntry → Bool
waits None = false
waits (Some e) = waits_for_lock e.state

-- it waits for the lock of this key
pub record WaitsOn (e : Option TxEntry) (d : Option SessionState) (k : Key) : Type 0 where
  pub waiting : waits e ≡ true
  pub on : is_pending_access k d ≡ true

-- its session has opened it
abbrev pub IsNamed : Option SessionState → TxId → Type 0
IsNamed None t = ⊥
IsNamed (Some d) t = t.number ≤ d.started

-- while it is undecided it has asked for the key, where it locks
abbrev pub IsTouched : Option TxEntry → Key → Type 0
IsTouched e k = (x : TxEntry) → e ≡ Some x → is_open x.state ≡ true → is_locking x.mode ≡ true → has key_cmp x.keys k ≡ true

-- a Lock on its way from a to b
pub record LockFact (m : PartMap) (e : Option TxEntry) (d : Option SessionState) (q : List TxId) (a b : NodeId) (t : TxId)
    (k : Key) : Type 0 where
  pub named : IsNamed d t
  pub from : t.node ≡ a
  pub to : primary_of m k ≡ Some b
  pub touched : IsTouched e k
  pub waits_on : undecided e ≡ true → WaitsOn e d k
  pub unqueued : undecided e ≡ true → In t q → ⊥

-- a LockOk on its way from a to b
pub record LockOkFact (m : PartMap) (e : Option TxEntry) (d : Option SessionState) (q : List TxId) (a b : NodeId) (t : TxId)
    (k : Key) : Type 0 where
  pub named : IsNamed d t
  pub to : t.node ≡ b
  pub from : primary_of m k ≡ Some a
  pub waits_on : undecided e ≡ true → WaitsOn e d k
  pub owns : undecided e ≡ true → owner q ≡ Some t

-- a Prepare on its way to b: its keys are this node's
pub record PrepareFact (m : PartMap) (e : Option TxEntry) (d : Option SessionState) (b : NodeId) (t : TxId) (x : Mode)
    (wanted : List Wanted) : Type 0 where
  pub named : IsNamed d t
  pub preparing : (y : TxEntry) → e ≡ Some y → is_open y.state ≡ true → (y.state ≡ state.Preparing) × (y.mode ≡ x)
  pub here : Each (λ (w : Wanted). primary_of m w.key ≡ Some b) wanted

-- a Finish on its way
pub record FinishFact (e : Option TxEntry) (d : Option SessionState) (t : TxId) : Type 0 where
  pub named : IsNamed d t
  pub over : undecided e ≡ false

-- what a message on its way tells of locks; messages of topology are never on their way
abbrev pub Fact : PartMap → View → NodeId → NodeId → Message → Type 0
Fact m v a b (msg.Lock t top k) = LockFact m (v.entry t.node t) (v.session_state t.node t.session) (v.queue b k) a b t k
Fact m v a b (msg.LockOk t k found) = LockOkFact m (v.entry t.node t) (v.session_state t.node t.session) (v.queue a k) a b t k
Fact m v a b (msg.Prepare t top x shares wanted writes) =
    PrepareFact m (v.entry t.node t) (v.session_state t.node t.session) b t x wanted
Fact m v a b (msg.Finish t commit) = FinishFact (v.entry t.node t) (v.session_state t.node t.session) t
Fact m v a b (msg.Single top x complete) = ⊥
Fact m v a b (msg.Full x) = ⊥
Fact m v a b (msg.Installed top) = ⊥
Fact m v a b (msg.Opens top) = ⊥
Fact m v a b (msg.Demand top part after) = ⊥
Fact m v a b (msg.Supply top part entries last) = ⊥
Fact m v a b (msg.Complete top) = ⊥
Fact m v a b (msg.Orphans round list) = ⊥
Fact m v a b _ = Unit {0}

-- messages that come once on their link
pub data Tag : Type 0 where
  ALock : TxId → Key → Tag
  ALockOk : TxId → Key → Tag

abbrev pub once : Message → Option Tag
once (msg.Lock t top k) = Some (ALock t k)
once (msg.LockOk t k found) = Some (ALockOk t k)
once _ = None

abbrev pub tagged : Tag → TxId
tagged (ALock t k) = t
tagged (ALockOk t k) = t

-- what a starter keeps of each transaction
abbrev pub Entries : Type 0
Entries = NodeId → TxId → Option TxEntry

abbrev pub is_live : Entries → TxId → Bool
is_live entry t = undecided (entry t.node t)

-- no message of the list is this one again, of an undecided transaction
abbrev pub IsNew : Entries → Message → List Message → Type 0
IsNew entry x ms = (y : Message) (g : Tag) → is_live entry (tagged g) ≡ true → In y ms → once x ≡ Some g → once y ≡ Some g → ⊥

abbrev pub Apart : Entries → List Message → Type 0
Apart entry [] = Unit {0}
Apart entry (x ∷ ms) = IsNew entry x ms × Apart entry ms

-- a place in a queue
pub record PlaceFact (m : PartMap) (e : Option TxEntry) (d : Option SessionState) (q : List TxId) (n : NodeId) (k : Key)
    (t : TxId) : Type 0 where
  pub named : IsNamed d t
  pub here : primary_of m k ≡ Some n
  pub touched : IsTouched e k
  pub either : undecided e ≡ true → (owner q ≡ Some t) ⊎ WaitsOn e d k

-- a key that an undecided transaction has asked for is owned, or waited for
abbrev pub KeyFact : TxEntry → Option SessionState → List TxId → TxId → Key → Type 0
KeyFact e d q t k = (owner q ≡ Some t) ⊎ WaitsOn (Some e) d k

-- a finish in work is of a decided transaction
abbrev pub ShareFact : Option TxEntry → Option SessionState → TxId → Option OwnShare → Type 0
ShareFact e d t None = Unit {0}
ShareFact e d t (Some h) = IsNamed d t × ((h.askers ≡ [] → ⊥) → undecided e ≡ false)

abbrev pub KeysFact : PartMap → View → TxId → TxEntry → Type 0
KeysFact m v t e = is_open e.state ≡ true → is_locking e.mode ≡ true → (k : Key) (n : NodeId) → has key_cmp e.keys k ≡ true →
    primary_of m k ≡ Some n → KeyFact e (v.session_state t.node t.session) (v.queue n k) t k

pub record Locks (m : PartMap) (v : View) : Type 0 where
  pub facts : (a b : NodeId) → Each (Fact m v a b) (v.flight a b)
  pub apart : (a b : NodeId) → Apart v.entry (v.flight a b)
  pub places : (n : NodeId) (k : Key) (t : TxId) → In t (v.queue n k) →
      PlaceFact m (v.entry t.node t) (v.session_state t.node t.session) (v.queue n k) n k t
  pub shares : (n : NodeId) (t : TxId) → ShareFact (v.entry t.node t) (v.session_state t.node t.session) t (v.share n t)
  pub keys : (t : TxId) (e : TxEntry) → v.entry t.node t ≡ Some e → KeysFact m v t e

-- what a message in hand tells
abbrev pub InHand : PartMap → View → NodeId → Option MessageInHand → Type 0
InHand m v me None = Unit {0}
InHand m v me (Some h) = Fact m v h.from me h.message × IsNew v.entry h.message (v.flight h.from me)
