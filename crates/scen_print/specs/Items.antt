-- The texts of a scenario's keys and commands.
use Rattle.std.specs.Prelude.{ℕ, List, [], ◌∷◌, ◌++◌, codes, decimal, Option, Some, None, slice_get, ◌==◌, if◌then◌else◌}
use Rattle.std.specs.Fmt.{signed_decimal}
use Rattle.ignite_types.specs.declared.text.Key.{Key}
use Rattle.ignite_types.specs.declared.scenario.Cache.{Cache}
use Rattle.ignite_types.specs.declared.scenario.Mode.{Mode}
use Rattle.ignite_types.specs.declared.scenario.Mode.TheVariants.{Pessimistic, Optimistic}
use Rattle.ignite_types.specs.declared.scenario.Command.{Command}
use Rattle.ignite_types.specs.declared.scenario.Command.TheVariants.{Begin, Get, Put, Remove, Add, Commit, Rollback, Sleep, Close}
use Rattle.ignite_types.specs.declared.scenario.Item.{Item}
use Rattle.ignite_types.specs.declared.scenario.Item.TheVariants.{Plain, Incr, Next, Offer, Poll}
use Rattle.ignite_types.specs.declared.scenario.Scenario.{Scenario}

-- a cache's name and a slash, where there is such a cache
abbrev pub cache_text : Option Cache → List ℕ
cache_text None = []
cache_text (Some cache) = cache.name ++ codes "/"

-- a key: its bytes, in format 2 behind its cache's name and a slash
abbrev pub key_text : Scenario → Key → List ℕ
key_text scenario key =
    if scenario.format == 2 then cache_text (slice_get scenario.caches key.cache) ++ key.text else key.text

abbrev pub mode_text : Mode → List ℕ
mode_text Pessimistic = codes "pessimistic"
mode_text Optimistic = codes "optimistic"

-- a plain command with every default written out
abbrev pub command_text : Scenario → Command → List ℕ
command_text s (Begin mode timeout) = codes "begin " ++ (mode_text mode ++ 32 ∷ decimal timeout)
command_text s (Get key) = codes "get " ++ key_text s key
command_text s (Put key value) = codes "put " ++ key_text s key ++ (32 ∷ value)
command_text s (Remove key) = codes "remove " ++ key_text s key
command_text s (Add key number) = codes "add " ++ key_text s key ++ (32 ∷ signed_decimal number)
command_text s Commit = codes "commit"
command_text s Rollback = codes "rollback"
command_text s (Sleep moments) = codes "sleep" ++ (32 ∷ decimal moments)
command_text s Close = codes "close"

-- an item of a script in its canonical form
abbrev pub item_text : Scenario → Item → List ℕ
item_text s (Plain command) = command_text s command
item_text s (Incr key number) = codes "incr " ++ key_text s key ++ (32 ∷ signed_decimal number)
item_text s (Next key) = codes "next " ++ key_text s key
item_text s (Offer key value) = codes "offer " ++ key_text s key ++ (32 ∷ value)
item_text s (Poll key) = codes "poll " ++ key_text s key
