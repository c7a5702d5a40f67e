-- The parts of lines: caches, nodes, roles, modes, keys and objects.
use Rattle.std.specs.Prelude.{ℕ, Bool, true, false, ◌==◌, List, codes, bytes_eq, Some, Result, Ok, Err, if◌then◌else◌}
use Rattle.ignite_types.specs.declared.names.NodeId.{NodeId}
use Rattle.ignite_types.specs.declared.scenario.Mode.{Mode}
use Rattle.ignite_types.specs.declared.scenario.Mode.TheVariants.{Pessimistic, Optimistic}
use Rattle.scen_text.specs.declared.cause.Cause.{Cause}
use Rattle.scen_text.specs.declared.cause.Cause.TheVariants.{Syntax}
use Rattle.scen_text.specs.declared.line.CacheWords.{CacheWords}
use Rattle.scen_text.specs.declared.line.KeyWords.{KeyWords}
use Rattle.scen_text.specs.Causes.{◌>>=◌}
use Rattle.scen_text.specs.Words.{at_slash, four_words, key_of_word, name, number_of_word, object}

-- the name and the three numbers of a cache
abbrev pub cache_words : List (List ℕ) → Result CacheWords Cause
cache_words rest = do
  found ← four_words rest
  called ← name found.0
  parts ← number_of_word found.1
  backups ← number_of_word found.2
  near ← number_of_word found.3
  Ok (record { name = called; parts = parts; backups = backups; near = near })

abbrev pub node_of_word : List ℕ → Result NodeId Cause
node_of_word word = number_of_word word >>= λ n. Ok (record { 0 = n })

-- whether the word is `server`; the other word is `client`
abbrev pub role : List ℕ → Result Bool Cause
role word =
    if bytes_eq word (codes "server") then Ok true else (if bytes_eq word (codes "client") then Ok false else Err Syntax)

abbrev pub mode : List ℕ → Result Mode Cause
mode word =
    if bytes_eq word (codes "pessimistic") then Ok Pessimistic else
    (if bytes_eq word (codes "optimistic") then Ok Optimistic else Err Syntax)

-- `NAME/K` in format 2; in format 1 `K`, of the cache named `default`
abbrev pub key_words : ℕ → List ℕ → Result KeyWords Cause
key_words format word = if format == 2 then (do
  found ← at_slash word
  cache ← name found.0
  k ← key_of_word found.1
  Ok (record { cache = cache; key = k }))
    else (key_of_word word >>= λ k. Ok (record { cache = Some (codes "default"); key = k }))

-- `NAME/X`
abbrev pub object_words : List ℕ → Result KeyWords Cause
object_words word = do
  found ← at_slash word
  cache ← name found.0
  k ← object found.1
  Ok (record { cache = cache; key = k })
