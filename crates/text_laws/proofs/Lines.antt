-- The lines of a scenario's canonical text, each as its words.
use Rattle.std.specs.Prelude.{ℕ, ◌==◌, not, List, [], ◌∷◌, ◌++◌, codes, decimal, map, flat_map, slice_get, Option, Some, None, if◌then◌else◌}
use Rattle.std.specs.Fmt.{signed_decimal}
use Rattle.ignite_types.specs.declared.scenario.Cache.{Cache}
use Rattle.ignite_types.specs.declared.scenario.Command.{Command}
use Rattle.ignite_types.specs.declared.scenario.Command.TheVariants.{Begin, Get, Put, Remove, Add, Commit, Rollback, Sleep, Close}
use Rattle.ignite_types.specs.declared.scenario.Item.{Item}
use Rattle.ignite_types.specs.declared.scenario.Item.TheVariants.{Plain, Incr, Next, Offer, Poll}
use Rattle.ignite_types.specs.declared.scenario.Member.{Member}
use Rattle.ignite_types.specs.declared.scenario.PlanStep.{PlanStep}
use Rattle.ignite_types.specs.declared.scenario.Scenario.{Scenario}
use Rattle.ignite_types.specs.declared.scenario.Session.{Session}
use Rattle.ignite_types.specs.declared.scenario.Step.{Step}
use Rattle.ignite_types.specs.declared.scenario.Step.TheVariants.{Join, Lose, Hold, Release, Start, Stop}
use Rattle.scen_print.specs.Items.{mode_text, key_text}
use Rattle.scen_print.specs.Printing.{role_text}

abbrev pub shape_words : Cache → List (List ℕ)
shape_words cache = cache.name ∷ decimal cache.parts ∷ decimal cache.backups ∷ decimal cache.near ∷ []

abbrev pub cache_keyword : Cache → List ℕ
cache_keyword cache = if cache.«data» then codes "data" else codes "cache"

-- a cache that a step starts has no line
abbrev pub cache_lines : Cache → List (List (List ℕ))
cache_lines cache = if not cache.first then [] else ((cache_keyword cache ∷ shape_words cache) ∷ [])

abbrev pub setting_words : List ℕ → ℕ → List (List ℕ)
setting_words word n = word ∷ decimal n ∷ []

abbrev pub first_lines : List Cache → List (List (List ℕ))
first_lines [] = []
first_lines (cache ∷ more) =
    setting_words (codes "parts") cache.parts ∷ setting_words (codes "backups") cache.backups ∷ setting_words
    (codes "near") cache.near ∷ []

abbrev pub head_lines : Scenario → List (List (List ℕ))
head_lines s =
    if s.format == 2 then ((codes "scenario" ∷ codes "2" ∷ []) ∷ flat_map cache_lines s.caches)
    else ((codes "scenario" ∷ codes "1" ∷ []) ∷ first_lines s.caches)

abbrev pub member_words : Member → List (List ℕ)
member_words member = role_text member.server ∷ decimal member.node.0 ∷ []

abbrev pub started_words : Option Cache → List (List ℕ)
started_words None = codes "start" ∷ [] ∷ []
started_words (Some cache) = codes "start" ∷ shape_words cache

abbrev pub stopped_words : Option Cache → List (List ℕ)
stopped_words None = codes "stop" ∷ [] ∷ []
stopped_words (Some cache) = codes "stop" ∷ cache.name ∷ []

abbrev pub step_words : Scenario → Step → List (List ℕ)
step_words s (Join member) = codes "join" ∷ decimal member.node.0 ∷ role_text member.server ∷ []
step_words s (Lose node) = codes "lose" ∷ decimal node.0 ∷ []
step_words s (Hold sender addressee) = codes "hold" ∷ decimal sender.0 ∷ decimal addressee.0 ∷ []
step_words s (Release sender addressee) = codes "release" ∷ decimal sender.0 ∷ decimal addressee.0 ∷ []
step_words s (Start cache) = started_words (slice_get s.caches cache)
step_words s (Stop cache) = stopped_words (slice_get s.caches cache)

abbrev pub planned_words : Scenario → PlanStep → List (List ℕ)
planned_words s planned = codes "plan" ∷ decimal planned.moment ∷ step_words s planned.step

abbrev pub command_words : Scenario → Command → List (List ℕ)
command_words s (Begin mode timeout) = codes "begin" ∷ mode_text mode ∷ decimal timeout ∷ []
command_words s (Get key) = codes "get" ∷ key_text s key ∷ []
command_words s (Put key value) = codes "put" ∷ key_text s key ∷ value ∷ []
command_words s (Remove key) = codes "remove" ∷ key_text s key ∷ []
command_words s (Add key number) = codes "add" ∷ key_text s key ∷ signed_decimal number ∷ []
command_words s Commit = codes "commit" ∷ []
command_words s Rollback = codes "rollback" ∷ []
command_words s (Sleep moments) = codes "sleep" ∷ decimal moments ∷ []
command_words s Close = codes "close" ∷ []

abbrev pub item_words : Scenario → Item → List (List ℕ)
item_words s (Plain command) = command_words s command
item_words s (Incr key number) = codes "incr" ∷ key_text s key ∷ signed_decimal number ∷ []
item_words s (Next key) = codes "next" ∷ key_text s key ∷ []
item_words s (Offer key value) = codes "offer" ∷ key_text s key ∷ value ∷ []
item_words s (Poll key) = codes "poll" ∷ key_text s key ∷ []

abbrev pub session_lines : Scenario → Session → List (List (List ℕ))
session_lines s session =
    (codes "session" ∷ session.name ∷ decimal session.node.0 ∷ [])
    ∷ (map (item_words s) session.commands ++ ((codes "end" ∷ []) ∷ []))

abbrev pub all_lines : Scenario → List (List (List ℕ))
all_lines s = head_lines s
    ++ (map member_words s.nodes ++ (map (planned_words s) s.plan ++ flat_map (session_lines s) s.sessions))
