-- Which scenarios are good: those that a scenario's text can give, with the forms, the names, the order and the limits of
-- its lines. The length of the text is not looked at.
use Rattle.std.specs.Prelude.{ℕ, ◌+◌, Bool, true, false, not, ◌&&◌, ◌||◌, nat_le, ◌==◌, bytes_eq, codes, List, [], ◌∷◌, ◌++◌, length, filter, filter_map, flat_map, sum_by, slice_get, Option, Some, None, option_to_list}
use Rattle.std.specs.List.{list_all, list_any}
use Rattle.ignite_types.specs.Texts.{is_digit, is_letter, is_key_byte, is_value_byte}
use Rattle.ignite_types.specs.declared.limits.TheConstants.{BACKUPS, CACHES, COMMANDS, MOMENTS, NAME_BYTES, NEAR_ENTRIES, NODES, NODE_NUMBERS, PARTITIONS, SESSIONS, STEPS, VALUE_BYTES}
use Rattle.ignite_types.specs.declared.names.NodeId.{NodeId}
use Rattle.ignite_types.specs.declared.text.Key.{Key}
use Rattle.ignite_types.specs.declared.scenario.Cache.{Cache}
use Rattle.ignite_types.specs.declared.scenario.Command.{Command}
use Rattle.ignite_types.specs.declared.scenario.Command.TheVariants.{Begin, Get, Put, Remove, Add, Commit, Rollback, Sleep, Close}
use Rattle.ignite_types.specs.declared.scenario.Item.{Item}
use Rattle.ignite_types.specs.declared.scenario.Item.TheVariants.{Plain, Incr, Next, Offer, Poll}
use Rattle.ignite_types.specs.declared.scenario.Member.{Member}
use Rattle.ignite_types.specs.declared.scenario.PlanStep.{PlanStep}
use Rattle.ignite_types.specs.declared.scenario.Scenario.{Scenario}
use Rattle.ignite_types.specs.declared.scenario.Session.{Session}
use Rattle.ignite_types.specs.declared.scenario.Step.{Step}
use Rattle.ignite_types.specs.declared.scenario.Step.TheVariants.{Join, Lose, Hold, Release, Start, Stop}

-- at least the first number and at most the second
abbrev pub is_within : ℕ → ℕ → ℕ → Bool
is_within least most n = nat_le least n && nat_le n most

-- bytes of one form, from one to `most` of them
abbrev pub is_text : (ℕ → Bool) → ℕ → List ℕ → Bool
is_text allowed most bytes = is_within 1 most (length bytes) && list_all allowed bytes

abbrev pub is_name_byte : ℕ → Bool
is_name_byte byte = is_letter byte || is_digit byte

-- the name of a session or of a cache, or the bytes of an object
abbrev pub is_name : List ℕ → Bool
is_name bytes = is_text is_name_byte NAME_BYTES bytes

-- no two of the elements are the same by the test
abbrev pub are_distinct : {A : Type 0} → (A → A → Bool) → List A → Bool
are_distinct same [] = true
are_distinct same (x ∷ xs) = not (list_any (same x) xs) && are_distinct same xs

-- a cache that runs from the start and whose keys are plain: one of a cache line
abbrev pub has_cache_line : Cache → Bool
has_cache_line cache = cache.first && not cache.«data»

-- a cache of data objects: one of a data line
abbrev pub has_data_line : Cache → Bool
has_data_line cache = cache.first && cache.«data»

-- a cache that a step of the plan starts
abbrev pub is_started : Cache → Bool
is_started cache = not cache.first && not cache.«data»

abbrev pub good_cache : Cache → Bool
good_cache cache = is_name cache.name && is_within 1 PARTITIONS cache.parts && nat_le cache.backups BACKUPS
    && nat_le cache.near NEAR_ENTRIES

-- the caches of cache lines come first, then those of data lines, then the started ones
abbrev pub in_order : List Cache → Bool
in_order [] = true
in_order (cache ∷ more) =
    (has_cache_line cache || (has_data_line cache && not (list_any has_cache_line more))
    || (is_started cache && list_all is_started more))
    && in_order more

abbrev pub same_cache_name : Cache → Cache → Bool
same_cache_name a b = bytes_eq a.name b.name

-- at least one has a cache line; at most 8 of them, with at most 1024 partitions in all
abbrev pub good_caches : List Cache → Bool
good_caches caches =
    list_all good_cache caches && in_order caches && list_any has_cache_line caches && are_distinct same_cache_name caches
    && nat_le (length caches) CACHES && nat_le (sum_by (λ cache. cache.parts) caches) PARTITIONS

-- format 1 has one cache, which is named `default`, and runs from the start
abbrev pub is_default : List Cache → Bool
is_default (cache ∷ []) = bytes_eq cache.name (codes "default") && has_cache_line cache
is_default _ = false

abbrev pub good_format : ℕ → List Cache → Bool
good_format format caches = (format == 1 && is_default caches) || format == 2

-- the node that a step lets join
abbrev pub joining : Step → Option Member
joining (Join member) = Some member
joining _ = None

-- the nodes that have a line, and then those that join
abbrev pub members : Scenario → List Member
members s = s.nodes ++ filter_map (λ planned. joining planned.step) s.plan

abbrev pub same_member_node : Member → Member → Bool
same_member_node a b = a.node.0 == b.node.0

abbrev pub has_member : List Member → NodeId → Bool
has_member all node = list_any (λ member. member.node.0 == node.0) all

-- numbers from 1 to 99, each once, at most 16 of them over the run; a server has a line
abbrev pub good_nodes : Scenario → Bool
good_nodes s =
    list_all (λ member. is_within 1 NODE_NUMBERS member.node.0) (members s) && are_distinct same_member_node (members s)
    && nat_le (length (members s)) NODES && list_any (λ member. member.server) s.nodes

abbrev pub no_moment_falls : List PlanStep → Bool
no_moment_falls [] = true
no_moment_falls (planned ∷ []) = true
no_moment_falls (planned ∷ next ∷ more) = nat_le planned.moment next.moment && no_moment_falls (next ∷ more)

abbrev pub starts_cache : ℕ → Step → Bool
starts_cache n (Start cache) = cache == n
starts_cache n _ = false

abbrev pub stops : ℕ → Step → Bool
stops n (Stop cache) = cache == n
stops n _ = false

-- a cache may be stopped that has a cache line or was started in the steps before, once, but never cache 0
abbrev pub can_stop : List Cache → List Step → ℕ → Bool
can_stop caches before n =
    not (n == 0) && (list_any has_cache_line (option_to_list (slice_get caches n)) || list_any (starts_cache n) before)
    && not (list_any (stops n) before)

-- a step names nodes that have a line or join, and stops what may be stopped
abbrev pub good_step : List Cache → List Member → List Step → Step → Bool
good_step caches all before (Lose node) = has_member all node
good_step caches all before (Hold sender addressee) = has_member all sender && has_member all addressee
good_step caches all before (Release sender addressee) = has_member all sender && has_member all addressee
good_step caches all before (Stop cache) = can_stop caches before cache
good_step caches all before _ = true

abbrev pub good_steps : List Cache → List Member → List Step → List PlanStep → Bool
good_steps caches all before [] = true
good_steps caches all before (planned ∷ more) =
    good_step caches all before planned.step && good_steps caches all (before ++ planned.step ∷ []) more

-- the cache that a step starts
abbrev pub starting : Step → Option ℕ
starting (Start cache) = Some cache
starting _ = None

-- these numbers follow one another from this one on
abbrev pub count_up : ℕ → List ℕ → Bool
count_up n [] = true
count_up n (number ∷ more) = number == n && count_up (n + 1) more

-- the steps start the started caches, in their order and each once
abbrev pub good_starts : List Cache → List ℕ → Bool
good_starts caches started =
    count_up (length (filter (λ cache. cache.first) caches)) started
    && (length (filter is_started caches) == length started)

-- at most 64 steps, at moments from 1 to 1000000 that do not fall
abbrev pub good_plan : Scenario → Bool
good_plan s =
    nat_le (length s.plan) STEPS && list_all (λ planned. is_within 1 MOMENTS planned.moment) s.plan && no_moment_falls s.plan
    && good_steps s.caches (members s) [] s.plan && good_starts s.caches (filter_map (λ planned. starting planned.step) s.plan)

abbrev pub is_plain_cache : Option Cache → Bool
is_plain_cache (Some cache) = not cache.«data»
is_plain_cache None = false

abbrev pub is_data_cache : Option Cache → Bool
is_data_cache (Some cache) = cache.«data»
is_data_cache None = false

-- a key of a cache that is no data cache
abbrev pub good_key : List Cache → Key → Bool
good_key caches key = is_text is_key_byte 32 key.text && is_plain_cache (slice_get caches key.cache)

-- an object of a data cache
abbrev pub good_object : List Cache → Key → Bool
good_object caches key = is_name key.text && is_data_cache (slice_get caches key.cache)

abbrev pub good_value : List ℕ → Bool
good_value value = is_text is_value_byte VALUE_BYTES value

-- a timeout is at most 1000000, a sleep from 1 to 1000000; `Close` is never written
abbrev pub good_command : List Cache → Command → Bool
good_command caches (Begin mode timeout) = nat_le timeout MOMENTS
good_command caches (Get key) = good_key caches key
good_command caches (Put key value) = good_key caches key && good_value value
good_command caches (Remove key) = good_key caches key
good_command caches (Add key number) = good_key caches key
good_command caches (Sleep moments) = is_within 1 MOMENTS moments
good_command caches Close = false
good_command caches _ = true

abbrev pub good_item : List Cache → Item → Bool
good_item caches (Plain command) = good_command caches command
good_item caches (Incr key number) = good_object caches key
good_item caches (Next key) = good_object caches key
good_item caches (Offer key value) = good_object caches key && good_value value
good_item caches (Poll key) = good_object caches key

abbrev pub is_plain : Item → Bool
is_plain (Plain command) = true
is_plain _ = false

-- whether a block is open behind an item: a `begin` opens one, a `commit` or a `rollback` closes it
abbrev pub open_behind : Bool → Item → Bool
open_behind opened (Plain (Begin mode timeout)) = true
open_behind opened (Plain Commit) = false
open_behind opened (Plain Rollback) = false
open_behind opened _ = opened

-- no data command stands in a block
abbrev pub good_blocks : Bool → List Item → Bool
good_blocks opened [] = true
good_blocks opened (item ∷ more) = (is_plain item || not opened) && good_blocks (open_behind opened item) more

-- at most 1000 commands, on a node that has a line or joins
abbrev pub good_session : List Cache → List Member → Session → Bool
good_session caches all session =
    is_name session.name && has_member all session.node && nat_le (length session.commands) COMMANDS
    && list_all (good_item caches) session.commands && good_blocks false session.commands

-- what an object is
pub data ObjectKind : Type 0 where
  Long : ObjectKind
  Sequence : ObjectKind
  Queue : ObjectKind

abbrev pub same_kind : ObjectKind → ObjectKind → Bool
same_kind Long Long = true
same_kind Sequence Sequence = true
same_kind Queue Queue = true
same_kind _ _ = false

-- the object that a data command names, and the kind that it makes of it
abbrev pub object_of : Item → Option (Key × ObjectKind)
object_of (Plain command) = None
object_of (Incr key number) = Some (key, Long)
object_of (Next key) = Some (key, Sequence)
object_of (Offer key value) = Some (key, Queue)
object_of (Poll key) = Some (key, Queue)

abbrev pub agree_in_kind : Key × ObjectKind → Key × ObjectKind → Bool
agree_in_kind a b = not ((a.0.cache == b.0.cache) && bytes_eq a.0.text b.0.text) || same_kind a.1 b.1

-- each object has one kind
abbrev pub good_kinds : List (Key × ObjectKind) → Bool
good_kinds [] = true
good_kinds (object ∷ more) = list_all (agree_in_kind object) more && good_kinds more

abbrev pub same_session_name : Session → Session → Bool
same_session_name a b = bytes_eq a.name b.name

-- at most 64 sessions, with names of their own
abbrev pub good_sessions : Scenario → Bool
good_sessions s =
    nat_le (length s.sessions) SESSIONS && list_all (good_session s.caches (members s)) s.sessions
    && are_distinct same_session_name s.sessions
    && good_kinds (filter_map object_of (flat_map (λ session. session.commands) s.sessions))

-- whether a scenario is good
abbrev pub good : Scenario → Bool
good s = good_format s.format s.caches && good_caches s.caches && good_nodes s && good_plan s && good_sessions s
