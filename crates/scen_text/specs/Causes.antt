-- Why a text is refused, and what is said of it.
use Rattle.std.specs.Prelude.{◌≡◌, ℕ, Bool, true, false, List, [], ◌∷◌, ◌++◌, codes, decimal, Option, Some, None, Result, Ok, Err}
use Rattle.scen_text.specs.declared.cause.What.{What}
use Rattle.scen_text.specs.declared.cause.What.TheVariants as what
use Rattle.scen_text.specs.declared.cause.Cause.{Cause}
use Rattle.scen_text.specs.declared.cause.Cause.TheVariants.{TooLong, NotUtf8, UnknownWord, Syntax, Limit, NoSuchNode, NoSuchCache, DoubleName, Missing}
use Rattle.scen_text.specs.declared.cause.LineFault.{LineFault}
use Rattle.scen_text.specs.declared.cause.LineFault.TheVariants as fault
use Rattle.scen_text.specs.declared.cause.ReadFault.{ReadFault}
use Rattle.scen_text.specs.declared.cause.ReadFault.TheVariants as read

-- a refusal: a line, from 1, or 0 for the whole text, and the cause
pub record Refusal : Type 0 where
  pub line : ℕ
  pub cause : Cause

abbrev pub what_text : What → List ℕ
what_text what.Parts = codes "parts"
what_text what.Backups = codes "backups"
what_text what.Near = codes "near"
what_text what.Server = codes "server"
what_text what.Client = codes "client"
what_text what.Cache = codes "cache"
what_text what.Data = codes "data"
what_text what.Plan = codes "plan"
what_text what.Session = codes "session"
what_text what.Begin = codes "begin"
what_text what.Sleep = codes "sleep"
what_text what.Key = codes "key"
what_text what.Value = codes "value"
what_text what.Name = codes "name"
what_text what.Moment = codes "moment"
what_text what.Commands = codes "commands"
what_text what.Nodes = codes "nodes"
what_text what.Steps = codes "steps"
what_text what.Sessions = codes "sessions"
what_text what.Caches = codes "caches"

abbrev pub cause_text : Cause → List ℕ
cause_text TooLong = codes "too long"
cause_text NotUtf8 = codes "not utf-8"
cause_text UnknownWord = codes "unknown word"
cause_text Syntax = codes "syntax"
cause_text (Limit w) = codes "limit "
cause_text NoSuchNode = codes "no such node"
cause_text NoSuchCache = codes "no such cache"
cause_text DoubleName = codes "double name"
cause_text Missing = codes "missing"

-- what stands behind the word `limit`
abbrev pub past_text : Cause → List ℕ
past_text (Limit w) = what_text w
past_text _ = []

-- the line that a program prints for a refusal
abbrev pub refusal_text : ℕ → Cause → List ℕ
refusal_text line cause =
    codes "refused line " ++ decimal line ++ codes ": " ++ cause_text cause ++ past_text cause ++ (10 ∷ [])

-- a rule that must hold, or the cause of the refusal
abbrev pub rule : Bool → Cause → Result (Unit {0}) Cause
rule true cause = Ok tt
rule false cause = Err cause

-- what was read of a word, which is nothing where the word is past its limit
abbrev pub fit : {A : Type 0} → Option A → What → Result A Cause
fit (Some x) w = Ok x
fit None w = Err (Limit w)

-- a step after a step that may be refused
infixl 10 ◌>>=◌
abbrev pub ◌>>=◌ : {A B : Type 0} → Result A Cause → (A → Result B Cause) → Result B Cause
(Ok x) >>= next = next x
(Err cause) >>= next = Err cause

-- what a call answered, seen by `view`, is what the definition says
abbrev pub Gives : {A B : Type 0} → (A → B) → Result A Cause → Result B Cause → Type 0
Gives view (Ok x) said = said ≡ Ok (view x)
Gives view (Err cause) said = said ≡ Err cause

-- the same, unless memory ran out
abbrev pub GivesInMemory : {A : Type 0} → Result A LineFault → Result A Cause → Type 0
GivesInMemory (Ok x) said = said ≡ Ok x
GivesInMemory (Err (fault.Bad cause)) said = said ≡ Err cause
GivesInMemory (Err fault.NoMemory) said = Unit {0}

-- the same of a value that a call changed
abbrev pub Becomes : {A : Type 0} → Result (Unit {0}) LineFault → A → Result A Cause → Type 0
Becomes (Ok done) new said = said ≡ Ok new
Becomes (Err (fault.Bad cause)) new said = said ≡ Err cause
Becomes (Err fault.NoMemory) new said = Unit {0}

-- what was read is what the definition says, and so is a refusal; only want of memory may come at any text
abbrev pub Reads : {A : Type 0} → Result A ReadFault → Result A Refusal → Type 0
Reads (Ok x) said = said ≡ Ok x
Reads (Err (read.Refused line cause)) said = said ≡ Err (record { line = line; cause = cause })
Reads (Err read.NoMemory) said = Unit {0}

-- a fault of a line, as the refusal of the text there
abbrev pub refused : ℕ → LineFault → ReadFault
refused line (fault.Bad cause) = read.Refused line cause
refused line fault.NoMemory = read.NoMemory
