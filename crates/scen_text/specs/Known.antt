-- What the lines before a line name.
use Rattle.std.specs.Prelude.{ℕ, Bool, true, false, ◌&&◌, not, ◌==◌, nat_le, List, bytes_eq, position, Option, Some, None, Result, Ok, Err, if◌then◌else◌}
use Rattle.std.specs.List.{list_any, list_all}
use Rattle.ignite_types.specs.Good.{stops}
use Rattle.ignite_types.specs.declared.names.NodeId.{NodeId}
use Rattle.ignite_types.specs.declared.text.Key.{Key}
use Rattle.ignite_types.specs.declared.scenario.Cache.{Cache}
use Rattle.ignite_types.specs.declared.scenario.Member.{Member}
use Rattle.ignite_types.specs.declared.scenario.PlanStep.{PlanStep}
use Rattle.ignite_types.specs.declared.scenario.Session.{Session}
use Rattle.scen_text.specs.declared.cause.Cause.{Cause}
use Rattle.scen_text.specs.declared.cause.Cause.TheVariants.{NoSuchCache}
use Rattle.scen_text.specs.declared.cause.What.{What}
use Rattle.scen_text.specs.declared.cause.What.TheVariants as what
use Rattle.scen_text.specs.declared.line.KeyWords.{KeyWords}
use Rattle.scen_text.specs.declared.place.Place.{Place}
use Rattle.scen_text.specs.declared.place.Place.TheVariants as place
use Rattle.scen_text.specs.declared.limits.Kind.{Kind}
use Rattle.scen_text.specs.declared.limits.Kind.TheVariants.{Long, Sequence, Queue}

-- the number of the cache of this name
abbrev pub cache_place : List Cache → List ℕ → Option ℕ
cache_place caches name = position (λ cache. bytes_eq cache.name name) caches

abbrev pub has_cache : List Cache → List ℕ → Bool
has_cache caches name = list_any (λ cache. bytes_eq cache.name name) caches

-- a data cache has this name
abbrev pub names_data : List Cache → List ℕ → Bool
names_data caches name = list_any (λ cache. cache.«data» && bytes_eq cache.name name) caches

-- a cache that is none of data has this name
abbrev pub names_plain : List Cache → List ℕ → Bool
names_plain caches name = list_any (λ cache. not cache.«data» && bytes_eq cache.name name) caches

abbrev pub same_object : Key → Key → Bool
same_object a b = (a.cache == b.cache) && bytes_eq a.text b.text

abbrev pub same_object_kind : Kind → Kind → Bool
same_object_kind Long Long = true
same_object_kind Sequence Sequence = true
same_object_kind Queue Queue = true
same_object_kind _ _ = false

-- the object is known to be of another kind
abbrev pub is_other : List (Key × Kind) → Key → Kind → Bool
is_other objects key kind =
    list_any (λ known_cache. same_object known_cache.0 key && not (same_object_kind known_cache.1 kind)) objects

-- the object's kind is known
abbrev pub has_object : List (Key × Kind) → Key → Bool
has_object objects key = list_any (λ known_cache. same_object known_cache.0 key) objects

abbrev pub is_named : List NodeId → NodeId → Bool
is_named named node = list_any (λ known_cache. known_cache.0 == node.0) named

abbrev pub has_session : List Session → List ℕ → Bool
has_session sessions name = list_any (λ session. bytes_eq session.name name) sessions

-- a step of the plan stops this cache
abbrev pub is_stopped : List PlanStep → ℕ → Bool
is_stopped plan cache = list_any (λ planned. stops cache planned.step) plan

-- the same of a name that may be too long to be one
abbrev pub names_data_here : List Cache → Option (List ℕ) → Bool
names_data_here caches (Some name) = names_data caches name
names_data_here caches None = false

abbrev pub names_plain_here : List Cache → Option (List ℕ) → Bool
names_plain_here caches (Some name) = names_plain caches name
names_plain_here caches None = false

abbrev pub is_first : Option ℕ → Bool
is_first (Some number) = number == 0
is_first None = false

-- cache 0 has this name
abbrev pub names_first : List Cache → Option (List ℕ) → Bool
names_first caches (Some name) = is_first (cache_place caches name)
names_first caches None = false

abbrev pub place_named : List Cache → Option (List ℕ) → Option ℕ
place_named caches (Some name) = cache_place caches name
place_named caches None = None

-- the number of the cache that a command names
abbrev pub place_of_key : List Cache → KeyWords → Option ℕ
place_of_key caches key = place_named caches key.cache

-- the number of a cache that a line before names
abbrev pub known_cache : Option ℕ → Result ℕ Cause
known_cache (Some number) = Ok number
known_cache None = Err NoSuchCache

-- the key in the cache of this number
abbrev pub key_in_cache : ℕ → Key → Key
key_in_cache number key = record key { cache = number }

-- no line before makes the object one of another kind
abbrev pub agrees_with_known : List (Key × Kind) → Option ℕ → Option Key → Kind → Bool
agrees_with_known objects (Some number) (Some key) kind = not (is_other objects (key_in_cache number key) kind)
agrees_with_known objects _ _ kind = true

-- no step before stands at a later moment
abbrev pub rises : List PlanStep → ℕ → Bool
rises plan moment = list_all (λ planned. nat_le planned.moment moment) plan

abbrev pub has_server : List Member → Bool
has_server nodes = list_any (λ member. member.server) nodes

abbrev pub has_line : List Cache → Bool
has_line caches = list_any (λ cache. cache.first && not cache.«data») caches

abbrev pub cache_line_place : Bool → Place
cache_line_place is_data = if is_data then place.Data else place.Caches

abbrev pub cache_what : Bool → What
cache_what is_data = if is_data then what.Data else what.Cache

abbrev pub member_what : Bool → What
member_what server = if server then what.Server else what.Client
