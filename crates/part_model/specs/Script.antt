-- A session's script: which plain command comes next, what each item is answered, and how the numbers of a sequence are
-- given out.
use Rattle.std.specs.Fmt.{signed_decimal}
use Rattle.std.specs.Option.{option_and_then, option_map}
use Rattle.std.specs.Prelude.{None, Option, Some, [], codes, decimal, drop, fold, if◌then◌else◌, int_le, int_lt, nat_le, pos, slice_get, take, ℕ, ℤ, ◌&&◌, ◌++◌, ◌+ℤ◌, ◌-ℤ◌, ◌∷◌}
use Rattle.part_model.specs.Numbers.{number_of}
use Rattle.part_model.specs.Orders.{next_count}
use Rattle.part_model.specs.declared.script.Phase.{Phase}
use Rattle.part_model.specs.declared.script.Progress.{Progress}
use Rattle.part_model.specs.declared.script.Range.{Range}
use Rattle.part_model.specs.declared.script.Told.{Told}
use Rattle.ignite_types.specs.Names.{key_cmp}
use Rattle.ignite_types.specs.declared.answer.Answer.{Answer}
use Rattle.ignite_types.specs.declared.list.List.{List}
use Rattle.ignite_types.specs.declared.scenario.Command.{Command}
use Rattle.ignite_types.specs.declared.scenario.Item.{Item}
use Rattle.ignite_types.specs.declared.text.Key.{Key}
use Rattle.ordered_table.specs.Entries.{at, put, without}
use Rattle.ignite_types.specs.declared.answer.Answer.TheVariants as answer
use Rattle.ignite_types.specs.declared.scenario.Command.TheVariants as command
use Rattle.ignite_types.specs.declared.scenario.Item.TheVariants as item
use Rattle.ignite_types.specs.declared.scenario.Mode.TheVariants as mode
use Rattle.part_model.specs.declared.script.Phase.TheVariants as phase
use Rattle.part_model.specs.declared.script.Told.TheVariants as told

-- the keys of a data object: the numbers of the last item offered and of the last one taken, and each item
abbrev pub own_key : Key → List ℕ → Key
own_key object suffix = record { cache = object.cache; text = take 32 (object.text ++ suffix) }

abbrev pub tail_key : Key → Key
tail_key object = own_key object (codes ".t")

abbrev pub head_key : Key → Key
head_key object = own_key object (codes ".h")

abbrev pub item_key : Key → ℕ → Key
item_key object number = own_key object (46 ∷ decimal number)

-- The plain command that an item needs next.

abbrev pub offer_command : Key → List ℕ → Phase → Command
offer_command object value phase.Fresh = command.Begin mode.Pessimistic 0
offer_command object value phase.OfferBegun = command.Add (tail_key object) (pos 1)
offer_command object value (phase.OfferNumbered number) = command.Put (item_key object number) value
offer_command object value phase.OfferPut = command.Commit
offer_command object value _ = command.Rollback

abbrev pub poll_command : Key → Phase → Command
poll_command object phase.Fresh = command.Begin mode.Pessimistic 0
poll_command object phase.PollBegun = command.Get (head_key object)
poll_command object (phase.PollHead head) = command.Get (item_key object (next_count head))
poll_command object phase.PollEmpty = command.Commit
poll_command object (phase.PollFound head value) = command.Add (head_key object) (pos 1)
poll_command object (phase.PollCounted head value) = command.Remove (item_key object (next_count head))
poll_command object (phase.PollTaken value) = command.Commit
poll_command object _ = command.Rollback

abbrev pub command_of : Item → Phase → Command
command_of (item.Plain c) phase = c
command_of (item.Incr object amount) phase = command.Add object amount
command_of (item.Next object) phase = command.Add object (pos 10)
command_of (item.Offer object value) phase = offer_command object value phase
command_of (item.Poll object) phase = poll_command object phase

-- What an answer does to the item at hand.

abbrev pub answer_number : Answer → Option ℤ
answer_number (answer.Found value) = number_of value
answer_number _ = None

abbrev pub number_between : ℕ → ℕ → Option ℤ → Option ℕ
number_between least most (Some (pos n)) = if nat_le least n && nat_le n most then Some n else None
number_between least most _ = None

-- how an item goes on after an answer that it can use
abbrev pub offer_after : Phase → Answer → Option Phase
offer_after phase.Fresh answer.Done = Some phase.OfferBegun
offer_after phase.OfferBegun a = option_map phase.OfferNumbered (number_between 1 999999 (answer_number a))
offer_after (phase.OfferNumbered number) answer.Done = Some phase.OfferPut
offer_after _ _ = None

-- after the number of the last item taken was read
abbrev pub head_after : Answer → Option Phase
head_after answer.Absent = Some (phase.PollHead 0)
head_after a = option_map phase.PollHead (number_between 0 999998 (answer_number a))

abbrev pub poll_after : Phase → Answer → Option Phase
poll_after phase.Fresh answer.Done = Some phase.PollBegun
poll_after phase.PollBegun a = head_after a
poll_after (phase.PollHead head) answer.Absent = Some phase.PollEmpty
poll_after (phase.PollHead head) (answer.Found value) = Some (phase.PollFound head value)
poll_after (phase.PollFound head value) a = option_map (λ (n : ℤ). phase.PollCounted head value) (answer_number a)
poll_after (phase.PollCounted head value) answer.Done = Some (phase.PollTaken value)
poll_after _ _ = None

-- after an answer that it can't use its block is rolled back, and that answer is the item's
abbrev pub phase_or_undone : Answer → Option Phase → Phase
phase_or_undone a None = phase.Undone a
phase_or_undone a (Some next) = next

abbrev pub phase_after : Item → Phase → Answer → Phase
phase_after (item.Offer object value) p a = phase_or_undone a (offer_after p a)
phase_after (item.Poll object) p a = phase_or_undone a (poll_after p a)
phase_after _ p a = phase.Fresh

abbrev pub if_committed : Answer → Told → Told
if_committed answer.Committed result = result
if_committed a result = told.Plain a

-- the first of ten numbers, of which the sum is the last
abbrev pub first_number : Answer → Option ℤ → Answer
first_number a None = a
first_number a (Some sum) = if int_le (pos 10) sum then answer.Found (signed_decimal (sum -ℤ pos 9)) else a

abbrev pub offer_end : Phase → Answer → Option Told
offer_end phase.OfferPut a = Some (if_committed a (told.Plain answer.Done))
offer_end (phase.Undone why) a = Some (told.Plain why)
offer_end _ a = None

abbrev pub poll_end : Phase → Answer → Option Told
poll_end phase.PollEmpty a = Some (if_committed a told.Empty)
poll_end (phase.PollTaken value) a = Some (if_committed a (told.Plain (answer.Found value)))
poll_end (phase.Undone why) a = Some (told.Plain why)
poll_end _ a = None

-- what the item is answered, where this answer of a plain command ends it
abbrev pub item_end : Item → Phase → Answer → Option Told
item_end (item.Plain c) p a = Some (told.Plain a)
item_end (item.Incr object amount) p a = Some (told.Plain a)
item_end (item.Next object) p a = Some (told.Plain (first_number a (answer_number a)))
item_end (item.Offer object value) p a = offer_end p a
item_end (item.Poll object) p a = poll_end p a

-- Numbers that a session has left of a sequence.

abbrev pub Ranges : Type 0
Ranges = List (Key × Range)

abbrev pub range_of : Option ℤ → Option Range
range_of None = None
range_of (Some sum) = if int_le (pos 10) sum then Some (record { next = sum -ℤ pos 8; last = sum }) else None

abbrev pub with_range : Ranges → Key → Option Range → Ranges
with_range ranges object None = ranges
with_range ranges object (Some range) = put key_cmp ranges object range

-- a new range is kept of the ten numbers, the first of which is given out at once
abbrev pub ranges_after : Item → Ranges → Answer → Ranges
ranges_after (item.Next object) ranges a = with_range ranges object (range_of (answer_number a))
ranges_after _ ranges a = ranges

abbrev pub unless_used_up : Range → Option Range
unless_used_up range = if int_le range.next range.last then Some range else None

-- the numbers that are left for an item that needs no command then
abbrev pub numbers_left_for : Item → Ranges → Option (Key × Range)
numbers_left_for (item.Next object) ranges =
    option_map (λ (range : Range). (object, range)) (option_and_then unless_used_up (at key_cmp ranges object))
numbers_left_for _ ranges = None

-- Progress.

-- how far a session has come after an answer, and what the items that ended were answered
pub record Advance : Type 0 where
  pub progress : Progress
  pub told : List Told

abbrev pub next_place : Progress → Progress
next_place p = record { place = next_count p.place; phase = phase.Fresh; ranges = p.ranges }

-- the numbers behind the first one; a sequence of which none is left is taken out
abbrev pub without_first : Ranges → Key × Range → Ranges
without_first ranges (object, range) =
    if int_lt range.next range.last then put key_cmp ranges object (record { next = range.next +ℤ pos 1; last = range.last })
    else without key_cmp ranges object

-- an item that needs no command is answered the least number that is left
abbrev pub progress_after_number : Progress → Key × Range → Progress
progress_after_number p left = record (next_place p) { ranges = without_first p.ranges left }

abbrev pub told_number : Key × Range → Told
told_number (object, range) = told.Plain (answer.Found (signed_decimal range.next))

abbrev pub advance_of_number : Progress → List Told → Option (Key × Range) → (Progress → List Told → Advance) → Advance
advance_of_number p said None later = record { progress = p; told = said }
advance_of_number p said (Some left) later = later (progress_after_number p left) (said ++ told_number left ∷ [])

-- the items that need no command are passed over
abbrev pub advance_past_numbers : List Item → Progress → List Told → Advance
advance_past_numbers [] p said = record { progress = p; told = said }
advance_past_numbers (item ∷ items) p said =
    advance_of_number p said (numbers_left_for item p.ranges) (λ next now_said. advance_past_numbers items next now_said)

abbrev pub advance_past_item : List Item → Progress → Item → Answer → Option Told → Advance
advance_past_item script p item a None = record { progress = record p { phase = phase_after item p.phase a }; told = [] }
advance_past_item script p item a (Some end) = let next = next_place (record p { ranges = ranges_after item p.ranges a }) in
    advance_past_numbers (drop next.place script) next (end ∷ [])

abbrev pub advance_of_item : List Item → Progress → Answer → Option Item → Advance
advance_of_item script p a None = record { progress = p; told = [] }
advance_of_item script p a (Some item) = advance_past_item script p item a (item_end item p.phase a)

-- after one more answer of a plain command
abbrev pub advance : List Item → Progress → Answer → Advance
advance script p a = advance_of_item script p a (slice_get script p.place)

abbrev pub no_progress : Progress
no_progress = record { place = 0; phase = phase.Fresh; ranges = [] }

-- how far a session has come after these answers
abbrev pub progress_after : List Item → List Answer → Progress
progress_after script answers = fold (λ (p : Progress) (a : Answer). (advance script p a).progress) no_progress answers

-- what its items were answered by then
abbrev pub told_from : List Item → Progress → List Answer → List Told
told_from script p [] = []
told_from script p (a ∷ answers) = let after = advance script p a in after.told ++ told_from script after.progress answers

abbrev pub told_after : List Item → List Answer → List Told
told_after script answers = told_from script no_progress answers

abbrev pub command_at : List Item → Progress → Option Command
command_at script p = option_map (λ (item : Item). command_of item p.phase) (slice_get script p.place)

-- a session's next plain command, by its script and its answers so far
abbrev pub next_command : List Item → List Answer → Option Command
next_command script answers = command_at script (progress_after script answers)
