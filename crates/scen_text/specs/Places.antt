-- Where the lines of a text may stand.
use Rattle.std.specs.Prelude.{ℕ, Bool, true, false, ◌&&◌, nat_le, nat_lt}
use Rattle.ignite_types.specs.declared.scenario.Command.TheVariants as command
use Rattle.ignite_types.specs.declared.scenario.Item.{Item}
use Rattle.ignite_types.specs.declared.scenario.Item.TheVariants.{Plain}
use Rattle.scen_text.specs.declared.line.Setting.{Setting}
use Rattle.scen_text.specs.declared.line.Setting.TheVariants as setting
use Rattle.scen_text.specs.declared.place.Place.{Place}
use Rattle.scen_text.specs.declared.place.Place.TheVariants as place

-- the order of the lines; no line but those of a session stands within one
abbrev pub rank : Place → ℕ
rank place.Start = 0
rank place.Head = 1
rank place.Parts = 2
rank place.Backups = 3
rank place.Near = 4
rank place.Caches = 5
rank place.Data = 6
rank place.Nodes = 7
rank place.Plan = 8
rank place.Sessions = 9
rank place.Script = 10
rank place.Block = 10

-- behind the line of the format and behind no line that comes later in the order
abbrev pub may_follow : Place → Place → Bool
may_follow last next = nat_le 1 (rank last) && nat_le (rank last) (rank next)

-- the same, and not behind one of its kind
abbrev pub stands_once : Place → Place → Bool
stands_once last next = nat_le 1 (rank last) && nat_lt (rank last) (rank next)

-- within a session
abbrev pub in_script : Place → Bool
in_script place.Script = true
in_script place.Block = true
in_script _ = false

-- within a session, and in no block
abbrev pub is_outside : Place → Bool
is_outside place.Script = true
is_outside _ = false

abbrev pub is_start_place : Place → Bool
is_start_place place.Start = true
is_start_place _ = false

-- behind the line of the format, and in no session
abbrev pub is_outside_session : Place → Bool
is_outside_session place.Start = false
is_outside_session place.Script = false
is_outside_session place.Block = false
is_outside_session _ = true

-- the place behind a command: a `begin` opens a block, and a `commit` or a `rollback` closes it
abbrev pub place_after : Place → Item → Place
place_after last (Plain (command.Begin mode timeout)) = place.Block
place_after last (Plain command.Commit) = place.Script
place_after last (Plain command.Rollback) = place.Script
place_after last _ = last

abbrev pub place_of_setting : Setting → Place
place_of_setting setting.Parts = place.Parts
place_of_setting setting.Backups = place.Backups
place_of_setting setting.Near = place.Near
