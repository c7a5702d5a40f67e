-- The canonical text of a scenario.
use Rattle.std.specs.Prelude.{ℕ, Bool, ◌==◌, not, List, [], ◌∷◌, ◌++◌, codes, decimal, flat_map, slice_get, Option, Some, None, if◌then◌else◌}
use Rattle.ignite_types.specs.declared.names.NodeId.{NodeId}
use Rattle.ignite_types.specs.declared.scenario.Cache.{Cache}
use Rattle.ignite_types.specs.declared.scenario.Item.{Item}
use Rattle.ignite_types.specs.declared.scenario.Member.{Member}
use Rattle.ignite_types.specs.declared.scenario.PlanStep.{PlanStep}
use Rattle.ignite_types.specs.declared.scenario.Scenario.{Scenario}
use Rattle.ignite_types.specs.declared.scenario.Session.{Session}
use Rattle.ignite_types.specs.declared.scenario.Step.{Step}
use Rattle.ignite_types.specs.declared.scenario.Step.TheVariants.{Join, Lose, Hold, Release, Start, Stop}
use Rattle.scen_print.specs.Items.{item_text}

-- `NAME P B R`
abbrev pub shape_text : Cache → List ℕ
shape_text cache = cache.name ++ (32 ∷ decimal cache.parts) ++ (32 ∷ decimal cache.backups) ++ (32 ∷ decimal cache.near)

abbrev pub setting_text : List ℕ → ℕ → List ℕ
setting_text word n = word ++ decimal n ++ 10 ∷ []

abbrev pub settings_text : Cache → List ℕ
settings_text cache =
    setting_text (codes "parts ") cache.parts ++ setting_text (codes "backups ") cache.backups ++ setting_text
    (codes "near ") cache.near

-- the settings of the one cache of format 1
abbrev pub first_text : List Cache → List ℕ
first_text [] = []
first_text (cache ∷ more) = settings_text cache

-- `cache NAME P B R` or `data NAME P B R`; a cache that a step starts has no line
abbrev pub cache_line_text : Cache → List ℕ
cache_line_text cache =
    if not cache.first then []
    else ((if cache.«data» then codes "data " else codes "cache ") ++ shape_text cache ++ 10 ∷ [])

-- the lines before those of the nodes
abbrev pub head_text : Scenario → List ℕ
head_text s =
    if s.format == 2 then codes "scenario 2\n" ++ flat_map cache_line_text s.caches else codes "scenario 1\n"
    ++ first_text s.caches

abbrev pub role_text : Bool → List ℕ
role_text server = if server then codes "server" else codes "client"

-- `server N` or `client N`
abbrev pub member_text : Member → List ℕ
member_text member = role_text member.server ++ (32 ∷ decimal member.node.0) ++ 10 ∷ []

abbrev pub link_text : List ℕ → NodeId → NodeId → List ℕ
link_text word sender addressee = word ++ (32 ∷ decimal sender.0) ++ (32 ∷ decimal addressee.0)

abbrev pub started_text : Option Cache → List ℕ
started_text None = codes "start "
started_text (Some cache) = codes "start " ++ shape_text cache

abbrev pub stopped_text : Option Cache → List ℕ
stopped_text None = codes "stop "
stopped_text (Some cache) = codes "stop " ++ cache.name

-- a step in its canonical form
abbrev pub step_text : Scenario → Step → List ℕ
step_text s (Join member) = codes "join" ++ (32 ∷ decimal member.node.0) ++ 32 ∷ role_text member.server
step_text s (Lose node) = codes "lose" ++ (32 ∷ decimal node.0)
step_text s (Hold sender addressee) = link_text (codes "hold") sender addressee
step_text s (Release sender addressee) = link_text (codes "release") sender addressee
step_text s (Start cache) = started_text (slice_get s.caches cache)
step_text s (Stop cache) = stopped_text (slice_get s.caches cache)

-- `plan M STEP`
abbrev pub planned_text : Scenario → PlanStep → List ℕ
planned_text s planned = codes "plan " ++ decimal planned.moment ++ (32 ∷ step_text s planned.step) ++ 10 ∷ []

abbrev pub item_line_text : Scenario → Item → List ℕ
item_line_text s item = item_text s item ++ 10 ∷ []

-- a session's lines, from `session` to `end`
abbrev pub session_text : Scenario → Session → List ℕ
session_text s session =
    codes "session " ++ session.name ++ (32 ∷ decimal session.node.0) ++ 10 ∷ [] ++ flat_map
    (item_line_text s) session.commands ++ codes "end\n"

-- the canonical text of a scenario: each default is written, one space stands between words, and no line is blank or a
-- remark
abbrev pub scenario_text : Scenario → List ℕ
scenario_text s =
    head_text s ++ flat_map member_text s.nodes ++ flat_map (planned_text s) s.plan ++ flat_map (session_text s) s.sessions
