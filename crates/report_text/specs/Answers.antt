-- The texts of names, versions and answers.
use Rattle.part_model.specs.declared.script.Told.{Told}
use Rattle.part_model.specs.declared.script.Told.TheVariants as told
use Rattle.std.specs.Prelude.{ℕ, ◌-◌, List, [], ◌∷◌, ◌++◌, codes, decimal, Option, Some, None, slice_get}
use Rattle.ignite_types.specs.declared.answer.Answer.{Answer}
use Rattle.ignite_types.specs.declared.answer.Answer.TheVariants as answer
use Rattle.ignite_types.specs.declared.answer.Fail.{Fail}
use Rattle.ignite_types.specs.declared.answer.Fail.TheVariants.{Changed, Candidate}
use Rattle.ignite_types.specs.declared.answer.Fault.{Fault}
use Rattle.ignite_types.specs.declared.answer.Fault.TheVariants.{Check, Timeout, Deadlock, Cut, NodeLost}
use Rattle.ignite_types.specs.declared.names.CacheVersion.{CacheVersion}
use Rattle.ignite_types.specs.declared.names.NodeId.{NodeId}
use Rattle.ignite_types.specs.declared.names.TopVer.{TopVer}
use Rattle.ignite_types.specs.declared.names.TxId.{TxId}
use Rattle.ignite_types.specs.declared.scenario.Cache.{Cache}
use Rattle.ignite_types.specs.declared.scenario.Scenario.{Scenario}
use Rattle.ignite_types.specs.declared.scenario.Session.{Session}
use Rattle.scen_print.specs.Items.{key_text}

-- a session's name, where there is such a session
abbrev pub session_name : Option Session → List ℕ
session_name None = []
session_name (Some session) = session.name

-- a cache's name, where there is such a cache
abbrev pub cache_name : Option Cache → List ℕ
cache_name None = []
cache_name (Some cache) = cache.name

-- a transaction: its session's name, `#` and its number
abbrev pub tx_text : Scenario → TxId → List ℕ
tx_text s tx = session_name (slice_get s.sessions (tx.session - 1)) ++ (35 ∷ decimal tx.number)

-- a topology version: `major.minor`
abbrev pub top_text : TopVer → List ℕ
top_text top = decimal top.major ++ (46 ∷ decimal top.minor)

-- a word, two nodes and a blank between them
abbrev pub nodes_text : List ℕ → NodeId → NodeId → List ℕ
nodes_text word a b = (word ++ decimal a.0) ++ (32 ∷ decimal b.0)

-- an entry's version: `major.minor:order:node`
abbrev pub version_text : CacheVersion → List ℕ
version_text ver = top_text ver.top ++ ((58 ∷ decimal ver.order) ++ (58 ∷ decimal ver.node.0))

abbrev pub fail_text : Scenario → Fail → List ℕ
fail_text s (Changed key had has) =
    (codes "changed " ++ key_text s key) ++ ((codes " had " ++ version_text had) ++ (codes " has " ++ version_text has))
fail_text s (Candidate key holder) = (codes "locked " ++ key_text s key) ++ (codes " by " ++ tx_text s holder)

abbrev pub fault_text : Scenario → Fault → List ℕ
fault_text s (Check fail) = fail_text s fail
fault_text s Timeout = codes "timeout"
fault_text s Deadlock = codes "timeout deadlock"
fault_text s (Cut node) = codes "timeout cut " ++ decimal node.0
fault_text s (NodeLost node) = codes "node lost " ++ decimal node.0

abbrev pub answer_text : Scenario → Answer → List ℕ
answer_text s answer.Done = codes "ok"
answer_text s (answer.Found value) = codes "value " ++ value
answer_text s answer.Absent = codes "none"
answer_text s answer.Committed = codes "committed"
answer_text s answer.RolledBack = codes "rolled back"
answer_text s (answer.Failed fault) = fault_text s fault
answer_text s answer.TooManyKeys = codes "too many keys"
answer_text s answer.NotNumber = codes "not a number"
answer_text s answer.Overflow = codes "overflow"
answer_text s answer.NoTransaction = codes "no transaction"
answer_text s answer.TransactionOpen = codes "transaction open"
answer_text s answer.Skipped = codes "skipped"
answer_text s (answer.NoCache cache) = codes "no cache " ++ cache_name (slice_get s.caches cache)

-- what an item of a script is answered
abbrev pub item_told_text : Scenario → Told → List ℕ
item_told_text s (told.Plain answer) = answer_text s answer
item_told_text s told.Empty = codes "empty"
