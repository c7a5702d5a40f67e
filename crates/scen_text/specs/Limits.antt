-- The limits of the numbers of a scenario, and what a line makes of its words.
use Rattle.std.specs.Prelude.{ℕ, Bool, true, false, ◌&&◌, nat_le, codes, Option, Some, None, Result, Ok}
use Rattle.ignite_types.specs.Good.{is_within}
use Rattle.ignite_types.specs.declared.limits.TheConstants.{BACKUPS, MOMENTS, NEAR_ENTRIES, NODE_NUMBERS, PARTITIONS}
use Rattle.ignite_types.specs.declared.text.Key.{Key}
use Rattle.ignite_types.specs.declared.scenario.Cache.{Cache}
use Rattle.ignite_types.specs.declared.scenario.Command.{Command}
use Rattle.ignite_types.specs.declared.scenario.Command.TheVariants as command
use Rattle.ignite_types.specs.declared.scenario.Item.{Item}
use Rattle.ignite_types.specs.declared.scenario.Item.TheVariants as item
use Rattle.ignite_types.specs.declared.scenario.Step.{Step}
use Rattle.ignite_types.specs.declared.scenario.Step.TheVariants as step
use Rattle.scen_text.specs.declared.cause.Cause.{Cause}
use Rattle.scen_text.specs.declared.cause.Cause.TheVariants.{Limit}
use Rattle.scen_text.specs.declared.cause.What.{What}
use Rattle.scen_text.specs.declared.cause.What.TheVariants as what
use Rattle.scen_text.specs.declared.line.CacheWords.{CacheWords}
use Rattle.scen_text.specs.declared.line.Setting.{Setting}
use Rattle.scen_text.specs.declared.line.Setting.TheVariants as setting
use Rattle.scen_text.specs.declared.line.Verb.{Verb}
use Rattle.scen_text.specs.declared.line.Verb.TheVariants as verb
use Rattle.scen_text.specs.declared.limits.Kind.{Kind}
use Rattle.scen_text.specs.declared.limits.Kind.TheVariants as kind
use Rattle.scen_text.specs.declared.limits.Settings.{Settings}
use Rattle.scen_text.specs.Causes.{◌>>=◌, rule, fit}

-- the settings of format 1 where no line sets one
abbrev pub default_settings : Settings
default_settings = record { parts = PARTITIONS; backups = 0; near = 0 }

abbrev pub set : Settings → Setting → ℕ → Settings
set settings setting.Parts n = record settings { parts = n }
set settings setting.Backups n = record settings { backups = n }
set settings setting.Near n = record settings { near = n }

abbrev pub setting_fits : Setting → ℕ → Bool
setting_fits setting.Parts n = is_within 1 PARTITIONS n
setting_fits setting.Backups n = nat_le n BACKUPS
setting_fits setting.Near n = nat_le n NEAR_ENTRIES

abbrev pub setting_what : Setting → What
setting_what setting.Parts = what.Parts
setting_what setting.Backups = what.Backups
setting_what setting.Near = what.Near

-- the one cache of format 1
abbrev pub default_cache : Settings → Cache
default_cache settings =
    record {
      name = codes "default";
      parts = settings.parts;
      backups = settings.backups;
      near = settings.near;
      first = true;
      «data» = false;
    }

abbrev pub cache_fits : CacheWords → Bool
cache_fits words = is_within 1 PARTITIONS words.parts && nat_le words.backups BACKUPS && nat_le words.near NEAR_ENTRIES

-- the cache that these words name, of a line or a step at which its numbers are named so
abbrev pub cache_of : What → Bool → Bool → CacheWords → Result Cache Cause
cache_of w first is_data words = do
  called ← fit words.name what.Name
  _ ← rule (cache_fits words) (Limit w)
  Ok (record {
    name = called;
    parts = words.parts;
    backups = words.backups;
    near = words.near;
    first = first;
    «data» =
        is_data;
  })

-- the numbers of a step are those that nodes may have
abbrev pub nodes_fit : Step → Bool
nodes_fit (step.Lose n) = is_within 1 NODE_NUMBERS n.0
nodes_fit (step.Hold sender addressee) = is_within 1 NODE_NUMBERS sender.0 && is_within 1 NODE_NUMBERS addressee.0
nodes_fit (step.Release sender addressee) = is_within 1 NODE_NUMBERS sender.0 && is_within 1 NODE_NUMBERS addressee.0
nodes_fit _ = true

-- timeouts and sleeps
abbrev pub bare_fits : Command → Bool
bare_fits (command.Begin mode timeout) = nat_le timeout MOMENTS
bare_fits (command.Sleep moments) = is_within 1 MOMENTS moments
bare_fits _ = true

abbrev pub bare_what : Command → What
bare_what (command.Sleep moments) = what.Sleep
bare_what _ = what.Begin

-- what a data command makes of its object
abbrev pub kind_of : Verb → Option Kind
kind_of (verb.Incr number) = Some kind.Long
kind_of verb.Next = Some kind.Sequence
kind_of (verb.Offer value) = Some kind.Queue
kind_of verb.Poll = Some kind.Queue
kind_of _ = None

-- the command on this key
abbrev pub keyed : Verb → Key → Result Item Cause
keyed verb.Get key = Ok (item.Plain (command.Get key))
keyed (verb.Put value) key = fit value what.Value >>= λ v. Ok (item.Plain (command.Put key v))
keyed verb.Remove key = Ok (item.Plain (command.Remove key))
keyed (verb.Add number) key = Ok (item.Plain (command.Add key number))
keyed (verb.Incr number) key = Ok (item.Incr key number)
keyed verb.Next key = Ok (item.Next key)
keyed (verb.Offer value) key = fit value what.Value >>= λ v. Ok (item.Offer key v)
keyed verb.Poll key = Ok (item.Poll key)
