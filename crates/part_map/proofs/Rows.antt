-- One row more: the rows from one partition on begin with that partition's row.
use Rattle.std.proofs.Common.{◌≡◌, ℕ, ◌+◌, ◌-◌, ◌<◌, List, [], ◌∷◌, ◌++◌, arith, suc, append_assoc}
use Rattle.ignite_types.specs.declared.names.NodeId.{NodeId}
use Rattle.ignite_types.specs.declared.placement.Row.{Row}
use Rattle.ignite_types.specs.Affinity.{bare_rows, ideal, ideal_rows}

one_left : (part parts : ℕ) → part < parts → parts - part ≡ suc (parts - (part + 1))
one_left part parts h = omega arith

pub ideal_pushed : (servers : List NodeId) (backups part parts : ℕ) (rows pushed whole : List Row)
    (owners movers : List NodeId) → part < parts → pushed ≡ rows ++ record { owners = owners; movers = movers } ∷ [] →
    owners ≡ ideal part servers backups → movers ≡ [] → rows ++ ideal_rows servers backups part (parts - part) ≡ whole →
    pushed ++ ideal_rows servers backups (part + 1) (parts - (part + 1)) ≡ whole
ideal_pushed servers backups part parts rows pushed whole owners movers h is of none before =
    rw (is, append_assoc, of, none) (rw (one_left part parts h) at before)

pub bare_pushed : (part parts : ℕ) (rows pushed whole : List Row) (owners movers : List NodeId) → part < parts →
    pushed ≡ rows ++ record { owners = owners; movers = movers } ∷ [] → owners ≡ [] → movers ≡ [] →
    rows ++ bare_rows (parts - part) ≡ whole → pushed ++ bare_rows (parts - (part + 1)) ≡ whole
bare_pushed part parts rows pushed whole owners movers h is no_owners none before =
    rw (is, append_assoc, no_owners, none) (rw (one_left part parts h) at before)
