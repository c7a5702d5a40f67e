-- What the laws of topology know of versions, maps, nodes and messages on their way.
use Rattle.std.specs.List.{list_all}
use Rattle.std.specs.Prelude.{None, Option, Some, [], length, true, ℕ, ◌&&◌, ◌+◌, ◌++◌, ◌<◌, ◌||◌, ◌∷◌, ◌≡◌, ◌≤◌, ◌⊎◌, false, Bool, not, filter, if◌then◌else◌}
use Rattle.part_model.specs.Directory.{oldest_member}
use Rattle.part_model.specs.NextMap.{is_member}
use Rattle.ignite_types.specs.declared.journal.Rec.{Rec}
use Rattle.ignite_types.specs.declared.journal.TopoEvent.{TopoEvent}
use Rattle.ignite_types.specs.declared.list.List.{List}
use Rattle.ignite_types.specs.declared.message.Message.{Message}
use Rattle.ignite_types.specs.declared.message.Out.{Out}
use Rattle.ignite_types.specs.declared.message.Single.{Single}
use Rattle.ignite_types.specs.declared.names.NodeId.{NodeId}
use Rattle.ignite_types.specs.declared.names.TopVer.{TopVer}
use Rattle.ignite_types.specs.declared.placement.PartMap.{PartMap}
use Rattle.ignite_types.specs.declared.scenario.Member.{Member}
use Rattle.journal_statements.specs.Noted.{Noted, is_lost, map_of_version, maps_installed}
use Rattle.journal_statements.specs.Topologies.{Topology}
use Rattle.node_state.specs.declared.life.Life.{Life}
use Rattle.node_state.specs.declared.topology.Exchange.{Exchange}
use Rattle.topology_laws.specs.TopologyScenes.{TopologyPart, TopologyScene, TopologyState, has_noted_map, map_of, topology_at}
use Rattle.ignite_types.specs.declared.message.Message.TheVariants as msg
use Rattle.ignite_types.specs.declared.journal.Rec.TheVariants as note
use Rattle.node_state.specs.declared.life.Life.TheVariants as life
use Rattle.ignite_types.specs.declared.journal.TopoEvent.TheVariants as topo
use Rattle.ignite_types.specs.Names.{same_node, same_top}
use Rattle.journal_statements.specs.Versions.{has_opened}

abbrev pub HoldsOfEach : {A : Type 0} → (A → Type 0) → List A → Type 0
HoldsOfEach P [] = Unit {0}
HoldsOfEach P (x ∷ xs) = P x × HoldsOfEach P xs

-- the first version is no higher than the second
abbrev pub IsUpTo : TopVer → TopVer → Type 0
IsUpTo a b = (a.major < b.major) ⊎ ((a.major ≡ b.major) × (a.minor ≤ b.minor))

-- the first version is lower than the second
abbrev pub IsBelow : TopVer → TopVer → Type 0
IsBelow a b = (a.major < b.major) ⊎ ((a.major ≡ b.major) × (a.minor < b.minor))

-- the installed map has this version or a higher one
abbrev pub HasAtLeast : TopVer → Option PartMap → Type 0
HasAtLeast top None = ⊥
HasAtLeast top (Some m) = IsUpTo top m.top

-- a node that is alive
pub record IsAliveWith (sc : TopologyScene) (n : NodeId) (P : TopologyState → Type 0) : Type 0 where
  pub state : TopologyState
  pub there : sc.seat n ≡ Some (record { life = life.Alive; state = state })
  pub holds : P state

-- the node is lost, or it is alive and this holds of it
abbrev pub IsLostOr : TopologyScene → NodeId → (TopologyState → Type 0) → Type 0
IsLostOr sc n P = (is_lost sc.recs n ≡ true) ⊎ IsAliveWith sc n P

abbrev pub HasSeen : TopologyScene → TopVer → NodeId → Type 0
HasSeen sc top n = IsLostOr sc n (λ (f : TopologyState). IsUpTo top f.known.top)

abbrev pub HasMap : TopologyScene → TopVer → NodeId → Type 0
HasMap sc top n = IsLostOr sc n (λ (f : TopologyState). HasAtLeast top f.installed)

abbrev pub is_lost_or_has_installed : List Noted → TopVer → Member → Bool
is_lost_or_has_installed recs top m = is_lost recs m.node || has_noted_map recs top m.node

-- each member of a version is lost or has installed a map of it
pub record AllHaveInstalled (sc : TopologyScene) (top : TopVer) : Type 0 where
  pub place : ℕ
  pub within : place ≤ length sc.events
  pub is_top : (topology_at sc place).top ≡ top
  pub all : list_all (is_lost_or_has_installed sc.recs top) (topology_at sc place).members ≡ true

-- the oldest member of a version is lost, or has installed a map of it or a higher one
pub record OldestHasMap (sc : TopologyScene) (top : TopVer) : Type 0 where
  pub place : ℕ
  pub within : place ≤ length sc.events
  pub is_top : (topology_at sc place).top ≡ top
  pub by_oldest : (c : NodeId) → oldest_member (topology_at sc place).members ≡ Some c → HasMap sc top c

-- the node is the oldest member of a version
pub record IsOldestMember (sc : TopologyScene) (top : TopVer) (n : NodeId) : Type 0 where
  pub place : ℕ
  pub within : place ≤ length sc.events
  pub is_top : (topology_at sc place).top ≡ top
  pub oldest : oldest_member (topology_at sc place).members ≡ Some n

-- the node is a member of a version
pub record IsMemberOf (sc : TopologyScene) (top : TopVer) (n : NodeId) : Type 0 where
  pub place : ℕ
  pub within : place ≤ length sc.events
  pub is_top : (topology_at sc place).top ≡ top
  pub member : is_member (topology_at sc place).members n ≡ true

-- a map is the one of its version
abbrev pub IsMapOfVersion : TopologyScene → Option PartMap → Type 0
IsMapOfVersion sc None = Unit {0}
IsMapOfVersion sc (Some m) = map_of sc m.top ≡ Some m

-- the first map is none, or the second has its version or a higher one
abbrev pub IsNoHigherMap : Option PartMap → Option PartMap → Type 0
IsNoHigherMap None other = Unit {0}
IsNoHigherMap (Some m) other = HasAtLeast m.top other

-- a Single has the map that its sender has installed; or its receiver has installed that map or a higher one, and where it sent
-- the Single to itself, the map of the Single's version
pub record IsBehind (from to : NodeId) (top : TopVer) (a c : TopologyState) : Type 0 where
  pub no_higher : IsNoHigherMap a.installed c.installed
  pub own : same_node from to ≡ true → HasAtLeast top c.installed

abbrev pub IsExact : TopologyScene → NodeId → NodeId → TopVer → Option PartMap → Type 0
IsExact sc from to top m = (a c : TopologyState) → sc.seat from ≡ Some (record { life = life.Alive; state = a })
    → sc.seat to ≡ Some (record { life = life.Alive; state = c })
    → (m ≡ a.installed) ⊎ IsBehind from to top a c

-- the node is lost, or has installed the map or a higher one
abbrev pub HasMapItself : TopologyScene → NodeId → Option PartMap → Type 0
HasMapItself sc n None = Unit {0}
HasMapItself sc n (Some m) = HasMap sc m.top n

-- who sends its Single has seen the version, and sends it to the version's oldest member
abbrev pub SingleTells : TopologyScene → NodeId → NodeId → TopVer → Option PartMap → Type 0
SingleTells sc from to top m =
    HasSeen sc top from × IsOldestMember sc top to × IsMapOfVersion sc m × IsExact sc from to top m × HasMapItself sc from m

-- a map of the version was installed
pub record HasSomeMap (sc : TopologyScene) (top : TopVer) : Type 0 where
  pub one : PartMap
  pub is_map : map_of sc top ≡ Some one

-- what a message on its way tells
abbrev pub MessageTells : TopologyScene → NodeId → NodeId → Message → Type 0
MessageTells sc from to (msg.Single top m complete) = SingleTells sc from to top m
MessageTells sc from to (msg.Full m) =
    HasSeen sc m.top to × (map_of sc m.top ≡ Some m) × IsOldestMember sc m.top from × HasMap sc m.top from
    × IsMemberOf sc m.top to
MessageTells sc from to (msg.Installed top) = has_noted_map sc.recs top from ≡ true
MessageTells sc from to (msg.Opens top) = AllHaveInstalled sc top × IsOldestMember sc top from × HasSomeMap sc top
MessageTells sc from to _ = Unit {0}

abbrev pub MapFits : TopologyScene → Topology → Option PartMap → Type 0
MapFits sc t None = Unit {0}
MapFits sc t (Some m) = (map_of sc m.top ≡ Some m) × IsUpTo m.top t.top

abbrev pub MemberFits : TopologyScene → NodeId → Option PartMap → Type 0
MemberFits sc n None = Unit {0}
MemberFits sc n (Some m) = IsMemberOf sc m.top n

abbrev pub ExchangeFits : TopologyScene → Topology → Option Exchange → Type 0
ExchangeFits sc t None = Unit {0}
ExchangeFits sc t (Some x) = (x.top ≡ t.top) × (list_all (has_noted_map sc.recs x.top) x.installed ≡ true)

-- the members of the last version
abbrev pub last_members : TopologyScene → List Member
last_members sc = (topology_at sc (length sc.events)).members

abbrev pub OldestFits : TopologyScene → NodeId → Option Exchange → Type 0
OldestFits sc n None = Unit {0}
OldestFits sc n (Some x) = IsOldestMember sc x.top n × HasSomeMap sc x.top

-- a node that is alive
pub record NodeFits (sc : TopologyScene) (n : NodeId) (f : TopologyState) : Type 0 where
  pub me_is : f.me ≡ n
  pub not_lost : is_lost sc.recs n ≡ false
  pub member : is_member (last_members sc) n ≡ true
  pub within : f.read ≤ length sc.events
  pub known_is : f.known ≡ topology_at sc f.read
  pub map_fits : MapFits sc f.known f.installed
  pub map_member : MemberFits sc n f.installed
  pub exchange_fits : ExchangeFits sc f.known f.exchange
  pub exchange_oldest : OldestFits sc n f.exchange
  pub singles_tell : HoldsOfEach (λ (x : Single). SingleTells sc x.from n x.top x.map) f.singles
  pub outbox_tells : HoldsOfEach (λ (o : Out). MessageTells sc n o.to o.msg) f.outbox

-- a node that has not joined
pub record IsUnjoined (sc : TopologyScene) (n : NodeId) (f : TopologyState) : Type 0 where
  pub me_is : f.me ≡ n
  pub none_read : f.read ≡ 0
  pub known_is : f.known ≡ topology_at sc 0
  pub no_map : f.installed ≡ None
  pub no_exchange : f.exchange ≡ None
  pub no_singles : f.singles ≡ []
  pub no_outbox : f.outbox ≡ []

abbrev pub PartFits : TopologyScene → NodeId → Life → TopologyState → Type 0
PartFits sc n life.Alive f = NodeFits sc n f
PartFits sc n life.Absent f = IsUnjoined sc n f
PartFits sc n life.Gone f = Unit {0}

-- The laws, each by the records before.

-- a map is the one that was installed of its version; where a version is opened each of its members is lost or has installed it
abbrev pub RecordFits : TopologyScene → List Noted → Rec → Type 0
RecordFits sc before (note.Install m) = (there : PartMap)
    → map_of_version (maps_installed sc.scenario before) m.top ≡ Some there → m ≡ there
RecordFits sc before (note.Opened top) = AllHaveInstalled (record sc { recs = before }) top
RecordFits sc before _ = Unit {0}

abbrev pub RecordsFitFrom : TopologyScene → List Noted → List Noted → Type 0
RecordsFitFrom sc before [] = Unit {0}
RecordsFitFrom sc before (n ∷ ns) = RecordFits sc before n.rec × RecordsFitFrom sc (before ++ n ∷ []) ns

abbrev pub is_leave_of : NodeId → TopoEvent → Bool
is_leave_of n (topo.Left id) = same_node n id
is_leave_of n e = false

-- the node does not leave by these events
abbrev pub never_leaves : NodeId → List TopoEvent → Bool
never_leaves n events = list_all (λ (e : TopoEvent). not (is_leave_of n e)) events

-- How often a version is opened, or may still be.

abbrev pub is_opens_of : TopVer → Message → Bool
is_opens_of v (msg.Opens top) = same_top top v
is_opens_of v m = false

abbrev pub opens_on_link : TopVer → List Message → ℕ
opens_on_link v ms = length (filter (is_opens_of v) ms)

abbrev pub opens_in_outbox : TopVer → NodeId → List Out → ℕ
opens_in_outbox v to outs = length (filter (λ (o : Out). same_node o.to to && is_opens_of v o.msg) outs)

abbrev pub opens_in_exchange : TopVer → Option Exchange → ℕ
opens_in_exchange v None = 0
opens_in_exchange v (Some x) = if same_top x.top v then 1 else 0

abbrev pub opens_at_part : TopVer → NodeId → Life → TopologyState → ℕ
opens_at_part v to life.Alive f = opens_in_outbox v to f.outbox + opens_in_exchange v f.exchange
opens_at_part v to life.Absent f = 0
opens_at_part v to life.Gone f = 0

abbrev pub opens_at : TopVer → NodeId → Option TopologyPart → ℕ
opens_at v to None = 0
opens_at v to (Some x) = opens_at_part v to x.life x.state

abbrev pub openings_by : TopVer → NodeId → List Noted → ℕ
openings_by v node recs = length (filter (has_opened node v) recs)

-- what the first may still open of a version at the second
abbrev pub openings_to_come : TopologyScene → TopVer → NodeId → NodeId → ℕ
openings_to_come sc v from to = opens_on_link v (sc.link from to) + opens_at v to (sc.seat from)

-- once this message is taken here, nothing of its version is left that might open it here again
abbrev pub IsLastOpening : TopologyScene → NodeId → Message → Type 0
IsLastOpening sc n (msg.Opens top) = (from : NodeId) → openings_to_come sc top from n + openings_by top n sc.recs ≡ 0
IsLastOpening sc n m = Unit {0}
