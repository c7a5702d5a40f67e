-- What is known of a draft behind each line.
use Rattle.std.proofs.Common.{◌≡◌, ℕ, ◌+◌, ◌≤◌, Bool, true, false, List, [], ◌∷◌, ◌++◌, length}
use Rattle.std.specs.Prelude.{◌&&◌, ◌||◌, not, nat_le, filter, filter_map, flat_map, map, sum_by, slice_get, option_to_list, ◌⊎◌}
use Rattle.std.specs.List.{list_all, list_any}
use Rattle.ignite_types.specs.Good.{Long, ObjectKind, Queue, Sequence, are_distinct, can_stop, count_up, good_blocks, good_cache, good_item, good_kinds, has_cache_line, in_order, is_name, is_started, is_within, joining, no_moment_falls, object_of, open_behind, same_cache_name, same_member_node, same_session_name, starting, starts_cache}
use Rattle.ignite_types.specs.Good as good
use Rattle.ignite_types.specs.declared.names.NodeId.{NodeId}
use Rattle.ignite_types.specs.declared.text.Key.{Key}
use Rattle.ignite_types.specs.declared.scenario.Cache.{Cache}
use Rattle.ignite_types.specs.declared.scenario.Item.{Item}
use Rattle.ignite_types.specs.declared.scenario.Member.{Member}
use Rattle.ignite_types.specs.declared.scenario.PlanStep.{PlanStep}
use Rattle.ignite_types.specs.declared.scenario.Session.{Session}
use Rattle.ignite_types.specs.declared.scenario.Step.{Step}
use Rattle.ignite_types.specs.declared.scenario.Step.TheVariants as step
use Rattle.scen_text.specs.declared.draft.Draft.{Draft}
use Rattle.scen_text.specs.declared.limits.Kind.{Kind}
use Rattle.scen_text.specs.declared.limits.Kind.TheVariants as kind
use Rattle.scen_text.specs.declared.limits.Settings.{Settings}
use Rattle.scen_text.specs.declared.place.Place.{Place}
use Rattle.scen_text.specs.declared.place.Place.TheVariants as place
use Rattle.scen_text.specs.Drafts.{nodes_named}
use Rattle.scen_text.specs.Known.{is_named, same_object}
use Rattle.scen_text.specs.Limits.{default_cache}
use Rattle.scen_text.specs.Places.{in_script, is_start_place, rank}

-- caches

pub record Fit (s : Settings) : Type 0 where
  pub parts : is_within 1 1024 s.parts ≡ true
  pub backups : nat_le s.backups 3 ≡ true
  pub near : nat_le s.near 10000 ≡ true

-- before the line of the format
pub record NoCaches (format : ℕ) (settings : Settings) (caches : List Cache) (partitions : ℕ) : Type 0 where
  pub is : format ≡ 1
  pub fit : Fit settings
  pub none : caches ≡ []
  pub zero : partitions ≡ 0

pub record FirstCaches (format : ℕ) (settings : Settings) (caches : List Cache) : Type 0 where
  pub is : format ≡ 1
  pub fit : Fit settings
  pub one : caches ≡ default_cache settings ∷ []

-- a cache that runs from the start, or one that is none of data
abbrev pub is_kind : Cache → Bool
is_kind cache = cache.first || not cache.«data»

pub record SecondCaches (format : ℕ) (caches : List Cache) (partitions : ℕ) : Type 0 where
  pub is : format ≡ 2
  pub each : list_all good_cache caches ≡ true
  pub order : in_order caches ≡ true
  pub kinds : list_all is_kind caches ≡ true
  pub distinct : are_distinct same_cache_name caches ≡ true
  pub few : length caches ≤ 8
  pub sum : partitions ≡ sum_by (λ cache. cache.parts) caches
  pub most : partitions ≤ 1024

abbrev pub CachesOf : ℕ → Settings → List Cache → ℕ → Type 0
CachesOf format settings caches partitions = NoCaches format settings caches partitions
    ⊎ (FirstCaches format settings caches ⊎ SecondCaches format caches partitions)

-- what is not there yet
pub record Placed (place : Place) (caches : List Cache) (plan : List PlanStep) (sessions : List Session) : Type 0 where
  pub lines : nat_le (rank place) 5 ≡ true → list_all has_cache_line caches ≡ true
  pub firsts : nat_le (rank place) 7 ≡ true → list_all (λ cache. cache.first) caches ≡ true
  pub no_plan : nat_le (rank place) 7 ≡ true → plan ≡ []
  pub no_session : nat_le (rank place) 8 ≡ true → sessions ≡ []

-- nodes

pub record NodesOf (nodes members : List Member) (plan : List PlanStep) : Type 0 where
  pub whole : members ≡ nodes ++ filter_map (λ planned. joining planned.step) plan
  pub within : list_all (λ member. is_within 1 99 member.node.0) members ≡ true
  pub distinct : are_distinct same_member_node members ≡ true
  pub few : length members ≤ 16

-- the plan

abbrev pub stop_fits : List Cache → List Step → Step → Bool
stop_fits caches before (step.Stop n) = can_stop caches before n
stop_fits caches before _ = true

abbrev pub stops_fit : List Cache → List Step → List PlanStep → Bool
stops_fit caches before [] = true
stops_fit caches before (planned ∷ more) = stop_fits caches before planned.step
    && stops_fit caches (before ++ planned.step ∷ []) more

abbrev pub steps_of : List PlanStep → List Step
steps_of plan = map (λ planned. planned.step) plan

abbrev pub started_of : List PlanStep → List ℕ
started_of plan = filter_map (λ planned. starting planned.step) plan

-- the cache of this number is one that a step starts
abbrev pub started_at : List Cache → ℕ → Bool
started_at caches n = list_any is_started (option_to_list (slice_get caches n))

pub record PlanOf (named : List NodeId) (caches : List Cache) (plan : List PlanStep) : Type 0 where
  pub few : length plan ≤ 64
  pub moments : list_all (λ planned. is_within 1 1000000 planned.moment) plan ≡ true
  pub rising : no_moment_falls plan ≡ true
  pub nodes : list_all (λ planned. nodes_named named planned.step) plan ≡ true
  pub stops : stops_fit caches [] plan ≡ true
  pub numbers : count_up (length (filter (λ cache. cache.first) caches)) (started_of plan) ≡ true
  pub counted : length (filter is_started caches) ≡ length (started_of plan)
  pub total : length caches ≡ length (filter (λ cache. cache.first) caches) + length (started_of plan)
  pub begun : (n : ℕ) → started_at caches n ≡ true → list_any (starts_cache n) (steps_of plan) ≡ true

-- sessions

abbrev pub good_script : List NodeId → List Cache → Session → Bool
good_script named caches session =
    is_name session.name && is_named named session.node && nat_le (length session.commands) 1000
    && list_all (good_item caches) session.commands && good_blocks false session.commands

pub record SessionsOf (named : List NodeId) (caches : List Cache) (sessions : List Session) : Type 0 where
  pub few : length sessions ≤ 64
  pub each : list_all (good_script named caches) sessions ≡ true
  pub distinct : are_distinct same_session_name sessions ≡ true

-- whether a block is open behind these commands
abbrev pub open_after : Bool → List Item → Bool
open_after opened [] = opened
open_after opened (item ∷ more) = open_after (open_behind opened item) more

abbrev pub is_block : Place → Bool
is_block place.Block = true
is_block _ = false

-- the session that is being read
pub record ScriptOf (place : Place) (named : List NodeId) (caches : List Cache) (sessions : List Session)
    (session : Session) : Type 0 where
  pub good : in_script place ≡ true → good_script named caches session ≡ true
  pub new : in_script place ≡ true → list_any (λ other. same_session_name other session) sessions ≡ false
  pub few : in_script place ≡ true → length sessions ≤ 63
  pub opened : in_script place ≡ true → open_after false session.commands ≡ is_block place
  pub none : in_script place ≡ false → session.commands ≡ []

-- objects

abbrev pub kind_seen : Kind → ObjectKind
kind_seen kind.Long = Long
kind_seen kind.Sequence = Sequence
kind_seen kind.Queue = Queue

-- the table has this kind of this object
abbrev pub in_table : List (Key × Kind) → Key × ObjectKind → Bool
in_table objects object = list_any (λ known. same_object known.0 object.0 && good.same_kind (kind_seen known.1) object.1)
    objects

abbrev pub objects_in : List Session → Session → List (Key × ObjectKind)
objects_in sessions session = filter_map object_of (flat_map (λ whole. whole.commands) sessions ++ session.commands)

pub record ObjectsOf (objects : List (Key × Kind)) (sessions : List Session) (session : Session) : Type 0 where
  pub agree : good_kinds (objects_in sessions session) ≡ true
  pub kept : list_all (in_table objects) (objects_in sessions session) ≡ true

-- all of it
pub record Kept (d : Draft) : Type 0 where
  pub unread : is_start_place d.place ≡ true → NoCaches d.format d.settings d.caches d.partitions
  pub caches : CachesOf d.format d.settings d.caches d.partitions
  pub placed : Placed d.place d.caches d.plan d.sessions
  pub nodes : NodesOf d.nodes d.members d.plan
  pub plan : PlanOf d.named d.caches d.plan
  pub sessions : SessionsOf d.named d.caches d.sessions
  pub script : ScriptOf d.place d.named d.caches d.sessions d.session
  pub objects : ObjectsOf d.objects d.sessions d.session
