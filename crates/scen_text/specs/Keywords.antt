-- The first words of lines, and the words of steps.
use Rattle.std.specs.Prelude.{ℕ, ◌&&◌, ◌==◌, List, codes, bytes_eq, Option, Some, None, if◌then◌else◌}
use Rattle.scen_text.specs.declared.keyword.Keyword.{Keyword}
use Rattle.scen_text.specs.declared.keyword.Keyword.TheVariants as keyword
use Rattle.scen_text.specs.declared.keyword.StepKeyword.{StepKeyword}
use Rattle.scen_text.specs.declared.keyword.StepKeyword.TheVariants as step

-- the first words of both formats, but for those of commands
abbrev pub shared_keyword : List ℕ → Option Keyword
shared_keyword word =
    if bytes_eq word (codes "scenario") then Some keyword.Scenario
    else (if bytes_eq word (codes "server") then Some keyword.Server
    else (if bytes_eq word (codes "client") then Some keyword.Client
    else (if bytes_eq word (codes "plan") then Some keyword.Plan
    else (if bytes_eq word (codes "session") then Some keyword.Session
    else (if bytes_eq word (codes "end") then Some keyword.End else None)))))

-- the commands of both formats
abbrev pub command_keyword : List ℕ → Option Keyword
command_keyword word =
    if bytes_eq word (codes "begin") then Some keyword.Begin
    else (if bytes_eq word (codes "get") then Some keyword.Get
    else (if bytes_eq word (codes "put") then Some keyword.Put
    else (if bytes_eq word (codes "remove") then Some keyword.Remove
    else (if bytes_eq word (codes "add") then Some keyword.Add
    else (if bytes_eq word (codes "commit") then Some keyword.Commit
    else (if bytes_eq word (codes "rollback") then Some keyword.Rollback
    else (if bytes_eq word (codes "sleep") then Some keyword.Sleep else None)))))))

-- the first words of format 1 alone
abbrev pub first_keyword : List ℕ → Option Keyword
first_keyword word =
    if bytes_eq word (codes "parts") then Some keyword.Parts
    else (if bytes_eq word (codes "backups") then Some keyword.Backups
    else (if bytes_eq word (codes "near") then Some keyword.Near else None))

-- the first words of format 2 alone
abbrev pub second_keyword : List ℕ → Option Keyword
second_keyword word =
    if bytes_eq word (codes "cache") then Some keyword.Cache
    else (if bytes_eq word (codes "data") then Some keyword.Data
    else (if bytes_eq word (codes "incr") then Some keyword.Incr
    else (if bytes_eq word (codes "next") then Some keyword.Next
    else (if bytes_eq word (codes "offer") then Some keyword.Offer
    else (if bytes_eq word (codes "poll") then Some keyword.Poll else None)))))

abbrev pub or_else : {A : Type 0} → Option A → Option A → Option A
or_else (Some x) other = Some x
or_else None other = other

-- the keyword that a word is in a format
abbrev pub keyword_of : ℕ → List ℕ → Option Keyword
keyword_of format word =
    or_else (shared_keyword word)
    (or_else (command_keyword word) (if format == 2 then second_keyword word else first_keyword word))

-- the step that a word is in a format: caches are started and stopped in format 2 alone
abbrev pub step_keyword : ℕ → List ℕ → Option StepKeyword
step_keyword format word =
    if bytes_eq word (codes "join") then Some step.Join
    else (if bytes_eq word (codes "lose") then Some step.Lose
    else (if bytes_eq word (codes "hold") then Some step.Hold
    else (if bytes_eq word (codes "release") then Some step.Release
    else (if (format == 2) && bytes_eq word (codes "start") then Some step.Start
    else (if (format == 2) && bytes_eq word (codes "stop") then Some step.Stop else None)))))
