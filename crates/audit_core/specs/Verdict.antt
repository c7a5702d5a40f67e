-- Whether a history is one serial history of a plain map, and else its first fault.
use Rattle.std.specs.Prelude.{Bool, List, Option, None, Some, [], ◌∷◌, ◌++◌, ◌+◌, if◌then◌else◌, ℕ}
use Rattle.std.specs.List.{list_any}
use Rattle.std.specs.Ordering.{match_ordering, is_lt}
use Rattle.ignite_types.specs.Names.{top_cmp}
use Rattle.ordered_table.specs.Entries.{at, put, without}
use Rattle.serde_json.specs.Data.{Data}
use Rattle.audit_core.specs.Histories.{Bytes, KeyChange, PlainEntries, bytes_cmp, equal_bytes, equal_values}
use Rattle.audit_core.specs.Shape.{history_of}
use Rattle.audit_core.specs.declared.history.HistoryEntry.{HistoryEntry}
use Rattle.audit_core.specs.declared.history.History.{History}
use Rattle.audit_core.specs.declared.ledger.Ledger.{Ledger}
use Rattle.audit_core.specs.declared.verdict.EntryFault.{EntryFault}
use Rattle.audit_core.specs.declared.verdict.EntryFault.TheVariants as fault
use Rattle.audit_core.specs.declared.verdict.Finding.{Finding}
use Rattle.audit_core.specs.declared.verdict.Finding.TheVariants as finding

-- ---- the map

-- a write, or a removal
abbrev pub change_in : PlainEntries → Bytes → Option Bytes → PlainEntries
change_in m key None = without bytes_cmp m key
change_in m key (Some value) = put bytes_cmp m key value

abbrev pub changes_in : PlainEntries → List KeyChange → PlainEntries
changes_in m [] = m
changes_in m (c ∷ cs) = changes_in (change_in m c.0 c.1) cs

-- the first read that is not the map's value
abbrev pub first_wrong_read : PlainEntries → List KeyChange → Option Bytes
first_wrong_read m [] = None
first_wrong_read m (r ∷ rs) = if equal_values (at bytes_cmp m r.0) r.1 then first_wrong_read m rs else Some r.0

-- the first key at which one of two maps has nothing or another value than the other
abbrev pub unequal_key : Bytes × Bytes → KeyChange → Option Bytes → Option Bytes
unequal_key e c rest =
    match_ordering (bytes_cmp e.0 c.0) (Some e.0) (if equal_values (Some e.1) c.1 then rest else Some e.0) (Some c.0)

abbrev pub least_difference : PlainEntries → List KeyChange → Option Bytes
least_difference [] [] = None
least_difference [] (c ∷ cs) = Some c.0
least_difference (e ∷ es) [] = Some e.0
least_difference (e ∷ es) (c ∷ cs) = unequal_key e c (least_difference es cs)

-- ---- the entries

abbrev pub is_among : Bytes → List Bytes → Bool
is_among name names = list_any (equal_bytes name) names

abbrev pub with_name : List Bytes → Bytes → List Bytes
with_name names name = if is_among name names then names else names ++ name ∷ []

-- before the first entry: no name, no version above 0.0, the empty map
abbrev pub new_ledger : Ledger
new_ledger = record { names = []; top = record { major = 0; minor = 0 }; map = [] }

-- what an entry leaves: one more name, its version, the map with its writes done
abbrev pub ledger_after : Ledger → HistoryEntry → Ledger
ledger_after l e = record { names = with_name l.names e.tx; top = e.top; map = changes_in l.map e.writes }

abbrev pub read_fault : Option Bytes → Option EntryFault
read_fault None = None
read_fault (Some key) = Some (fault.Read key)

-- the first fault of an entry: its name came before; its version is lower than the one before it; a bad read
abbrev pub entry_fault : Ledger → HistoryEntry → Option EntryFault
entry_fault l e =
    if is_among e.tx l.names then Some fault.Twice
    else (if is_lt (top_cmp e.top l.top) then Some fault.VersionFalls
    else read_fault (first_wrong_read l.map e.reads))

-- ---- the whole

-- what the two maps say after so many entries
abbrev pub map_finding : ℕ → Option Bytes → Finding
map_finding n None = finding.Yes n
map_finding n (Some key) = finding.Map key

-- what an entry at this place says, or else those behind it
abbrev pub fault_or : ℕ → Option EntryFault → Finding → Finding
fault_or place None rest = rest
fault_or place (Some f) rest = finding.Entry place f

-- the first fault from here on, `n` entries being done
abbrev pub verdict_from : ℕ → Ledger → List HistoryEntry → List KeyChange → Finding
verdict_from n l [] map = map_finding n (least_difference l.map map)
verdict_from n l (e ∷ es) map = fault_or (n + 1) (entry_fault l e) (verdict_from (n + 1) (ledger_after l e) es map)

abbrev pub verdict_of_history : History → Finding
verdict_of_history h = verdict_from 0 new_ledger h.entries h.map

abbrev pub finding_in : Option History → Finding
finding_in None = finding.NoShape
finding_in (Some h) = verdict_of_history h

-- what there is to say of a JSON value
abbrev pub finding_of : Data → Finding
finding_of d = finding_in (history_of d)
