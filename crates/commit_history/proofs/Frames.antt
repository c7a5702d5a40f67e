-- What the answer of a call leaves alone.
use Rattle.std.proofs.Common.{◌≡◌, ◌≤◌, ◌-◌, ◌^◌, List, Some, None, Result, Ok, Err, true, false, if◌then◌else◌, ◌==◌, ◌&&◌, ◌||◌, ℕ, refl, ap, sym, ◌∙◌, arith}
use Rattle.part_model.specs.Copies.{Found}
use Rattle.part_model.specs.Numbers.{sum_with_value}
use Rattle.commit_history.specs.Following.{assembled}
use Rattle.commit_history.specs.Lines.{line_after, walk_at_line}
use Rattle.commit_history.specs.declared.line.Line.{Line}
use Rattle.ignite_types.specs.Names.{key_cmp}
use Rattle.ignite_types.specs.declared.answer.Answer.{Answer}
use Rattle.ignite_types.specs.declared.names.TxId.{TxId}
use Rattle.ignite_types.specs.declared.scenario.Command.{Command}
use Rattle.ignite_types.specs.declared.scenario.Mode.{Mode}
use Rattle.ignite_types.specs.declared.text.Key.{Key}
use Rattle.ordered_table.specs.Entries.{at}
use Rattle.tx_model.specs.History.{is_done, known_value, walk_after_answer, walk_after_counted_access, walk_after_done_access, walk_after_told_fault, walk_with_add, walk_with_first_read, walk_with_read, walk_with_sum, walk_without_call}
use Rattle.tx_model.specs.declared.walk.Walk.{Walk}
use Rattle.ignite_types.specs.declared.answer.Answer.TheVariants as answer
use Rattle.ignite_types.specs.declared.scenario.Command.TheVariants as command

-- the same walk over another near cache and other decisions
abbrev pub beside : List (Key × Found) → List TxId → Walk → Walk
beside near overs w = record w { near = near; overs = overs }

read_beside : (near : List (Key × Found)) (overs : List TxId) (w : Walk) (key : Key) →
    walk_with_read (beside near overs w) key ≡ beside near overs (walk_with_read w key)
read_beside near overs w key =
    elim (at key_cmp w.reads key) as (λ r. walk_with_first_read (beside near overs w) key r (at key_cmp w.writes key)
    ≡ beside near overs (walk_with_first_read w key r (at key_cmp w.writes key))) [
      | None ↦ elim (at key_cmp w.writes key) as (λ r. walk_with_first_read (beside near overs w) key None r
          ≡ beside near overs (walk_with_first_read w key None r)) [
            | None ↦ refl
            | Some x ↦ refl
          ]
      | Some x ↦ refl
    ]

sum_beside : (near : List (Key × Found)) (overs : List TxId) (w : Walk) (key : Key) (sum : Result (List ℕ) Answer) →
    walk_with_sum (beside near overs w) key sum ≡ beside near overs (walk_with_sum w key sum)
sum_beside near overs w key (Ok value) = refl
sum_beside near overs w key (Err a) = refl

-- an access looks at neither
pub access_beside : (near : List (Key × Found)) (overs : List TxId) (w : Walk) (c : Command) →
    walk_after_done_access (beside near overs w) c ≡ beside near overs (walk_after_done_access w c)
access_beside near overs w (command.Get key) = read_beside near overs w key
access_beside near overs w (command.Put key value) = refl
access_beside near overs w (command.Remove key) = refl
access_beside near overs w (command.Add key amount) =
    ap (λ v. walk_with_add v key amount) (read_beside near overs w key)
    ∙ sum_beside near overs (walk_with_read w key) key (sum_with_value (known_value (walk_with_read w key) key) amount)
access_beside near overs w (command.Begin mode timeout) = refl
access_beside near overs w command.Commit = refl
access_beside near overs w command.Rollback = refl
access_beside near overs w (command.Sleep n) = refl
access_beside near overs w command.Close = refl

counted_beside : (near : List (Key × Found)) (overs : List TxId) (tx : TxId) (w : Walk) (c : Command) (a : Answer) →
    walk_after_counted_access tx (beside near overs w) c a ≡ beside near overs (walk_after_counted_access tx w c a)
counted_beside near overs tx w c a =
    elim ((w.started == tx.number) && is_done a) as (λ b.
    (if b then walk_after_done_access (beside near overs w) c else beside near overs w) ≡ beside near overs
    (if b then walk_after_done_access w c else w)) [
      | true ↦ access_beside near overs w c
      | false ↦ refl
    ]

after_beside : (near : List (Key × Found)) (overs : List TxId) (w : Walk) (a : Answer) →
    walk_without_call (walk_after_told_fault (beside near overs w) a) ≡ beside near overs
    (walk_without_call (walk_after_told_fault w a))
after_beside near overs w answer.Done = refl
after_beside near overs w (answer.Found value) = refl
after_beside near overs w answer.Absent = refl
after_beside near overs w answer.Committed = refl
after_beside near overs w answer.RolledBack = refl
after_beside near overs w (answer.Failed why) = refl
after_beside near overs w answer.TooManyKeys = refl
after_beside near overs w answer.NotNumber = refl
after_beside near overs w answer.Overflow = refl
after_beside near overs w answer.NoTransaction = refl
after_beside near overs w answer.TransactionOpen = refl
after_beside near overs w answer.Skipped = refl
after_beside near overs w (answer.NoCache cache) = refl

other_beside : (near : List (Key × Found)) (overs : List TxId) (tx : TxId) (w : Walk) (c : Command) (a : Answer) →
    walk_without_call (walk_after_told_fault (walk_after_counted_access tx (beside near overs w) c a) a) ≡ beside near overs
    (walk_without_call (walk_after_told_fault (walk_after_counted_access tx w c a) a))
other_beside near overs tx w c a =
    ap (λ v. walk_without_call (walk_after_told_fault v a)) (counted_beside near overs tx w c a)
    ∙ after_beside near overs (walk_after_counted_access tx w c a) a

begin_beside : (near : List (Key × Found)) (overs : List TxId) (tx : TxId) (w : Walk) (mode : Mode) (timeout : ℕ)
    (a : Answer) → walk_after_answer tx (beside near overs w) (Some (command.Begin mode timeout)) a ≡ beside near overs
    (walk_after_answer tx w (Some (command.Begin mode timeout)) a)
begin_beside near overs tx w mode timeout answer.Done = refl
begin_beside near overs tx w mode timeout (answer.Found value) = refl
begin_beside near overs tx w mode timeout answer.Absent = refl
begin_beside near overs tx w mode timeout answer.Committed = refl
begin_beside near overs tx w mode timeout answer.RolledBack = refl
begin_beside near overs tx w mode timeout (answer.Failed why) = refl
begin_beside near overs tx w mode timeout answer.TooManyKeys = refl
begin_beside near overs tx w mode timeout answer.NotNumber = refl
begin_beside near overs tx w mode timeout answer.Overflow = refl
begin_beside near overs tx w mode timeout answer.NoTransaction = refl
begin_beside near overs tx w mode timeout answer.TransactionOpen = refl
begin_beside near overs tx w mode timeout answer.Skipped = refl
begin_beside near overs tx w mode timeout (answer.NoCache cache) = refl

-- the answer of a call looks at neither
pub answer_beside : (near : List (Key × Found)) (overs : List TxId) (tx : TxId) (w : Walk) (c : Command) (a : Answer) →
    walk_after_answer tx (beside near overs w) (Some c) a ≡ beside near overs (walk_after_answer tx w (Some c) a)
answer_beside near overs tx w (command.Begin mode timeout) a = begin_beside near overs tx w mode timeout a
answer_beside near overs tx w command.Commit a = refl
answer_beside near overs tx w command.Rollback a = refl
answer_beside near overs tx w command.Close a = refl
answer_beside near overs tx w (command.Get key) a = other_beside near overs tx w (command.Get key) a
answer_beside near overs tx w (command.Put key value) a = other_beside near overs tx w (command.Put key value) a
answer_beside near overs tx w (command.Remove key) a = other_beside near overs tx w (command.Remove key) a
answer_beside near overs tx w (command.Add key amount) a = other_beside near overs tx w (command.Add key amount) a
answer_beside near overs tx w (command.Sleep n) a = other_beside near overs tx w (command.Sleep n) a

-- What an access leaves of the session.

read_line : (l : Line) (w : Walk) (key : Key) → line_after l (walk_with_read w key) ≡ line_after l w
read_line l w key =
    elim (at key_cmp w.reads key) as (λ r. line_after l (walk_with_first_read w key r (at key_cmp w.writes key))
    ≡ line_after l w) [
      | None ↦ elim (at key_cmp w.writes key) as (λ r. line_after l (walk_with_first_read w key None r) ≡ line_after l w) [
        | None ↦ refl
        | Some x ↦ refl
      ]
      | Some x ↦ refl
    ]

sum_line : (l : Line) (w : Walk) (key : Key) (sum : Result (List ℕ) Answer) → line_after l (walk_with_sum w key sum)
    ≡ line_after l w
sum_line l w key (Ok value) = refl
sum_line l w key (Err a) = refl

access_line : (l : Line) (w : Walk) (c : Command) → line_after l (walk_after_done_access w c) ≡ line_after l w
access_line l w (command.Get key) = read_line l w key
access_line l w (command.Put key value) = refl
access_line l w (command.Remove key) = refl
access_line l w (command.Add key amount) =
    sum_line l (walk_with_read w key) key (sum_with_value (known_value (walk_with_read w key) key) amount) ∙ read_line l w key
access_line l w (command.Begin mode timeout) = refl
access_line l w command.Commit = refl
access_line l w command.Rollback = refl
access_line l w (command.Sleep n) = refl
access_line l w command.Close = refl

counted_line : (l : Line) (tx : TxId) (w : Walk) (c : Command) (a : Answer) →
    line_after l (walk_after_counted_access tx w c a) ≡ line_after l w
counted_line l tx w c a =
    elim ((w.started == tx.number) && is_done a) as (λ b. line_after l (if b then walk_after_done_access w c else w)
    ≡ line_after l w) [
      | true ↦ access_line l w c
      | false ↦ refl
    ]

-- a session after an answer of an access
abbrev ended : Line → Answer → Line
ended l (answer.Failed why) = record l { skipping = l.block || l.skipping; block = false; called = None }
ended l _ = record l { called = None }

ended_is : (l : Line) (w : Walk) (a : Answer) → line_after l (walk_without_call (walk_after_told_fault w a))
    ≡ ended (line_after l w) a
ended_is l w answer.Done = refl
ended_is l w (answer.Found value) = refl
ended_is l w answer.Absent = refl
ended_is l w answer.Committed = refl
ended_is l w answer.RolledBack = refl
ended_is l w (answer.Failed why) = refl
ended_is l w answer.TooManyKeys = refl
ended_is l w answer.NotNumber = refl
ended_is l w answer.Overflow = refl
ended_is l w answer.NoTransaction = refl
ended_is l w answer.TransactionOpen = refl
ended_is l w answer.Skipped = refl
ended_is l w (answer.NoCache cache) = refl

ended_walk : (l : Line) (v : Walk) (near : List (Key × Found)) (overs : List TxId) (g : Found) (a : Answer) →
    walk_without_call (walk_after_told_fault (assembled l v near overs g) a) ≡ assembled (ended l a) v near overs None
ended_walk l v near overs g answer.Done = refl
ended_walk l v near overs g (answer.Found value) = refl
ended_walk l v near overs g answer.Absent = refl
ended_walk l v near overs g answer.Committed = refl
ended_walk l v near overs g answer.RolledBack = refl
ended_walk l v near overs g (answer.Failed why) = refl
ended_walk l v near overs g answer.TooManyKeys = refl
ended_walk l v near overs g answer.NotNumber = refl
ended_walk l v near overs g answer.Overflow = refl
ended_walk l v near overs g answer.NoTransaction = refl
ended_walk l v near overs g answer.TransactionOpen = refl
ended_walk l v near overs g answer.Skipped = refl
ended_walk l v near overs g (answer.NoCache cache) = refl

-- an answer of another transaction's access
other_apart : (tx cur : TxId) (l : Line) (v x : Walk) (near : List (Key × Found)) (overs : List TxId) (g : Found)
    (c : Command) (a : Answer) → (l.started == tx.number) ≡ false →
    walk_without_call (walk_after_told_fault (walk_after_counted_access tx (assembled l v near overs g) c a) a) ≡ assembled
    (line_after l (walk_without_call (walk_after_told_fault (walk_after_counted_access cur (walk_at_line l x) c a) a))) v
    near overs None
other_apart tx cur l v x near overs g c a apart =
    let line : line_after l (walk_without_call (walk_after_told_fault (walk_after_counted_access cur (walk_at_line l x) c a)
    a)) ≡ ended l a =
    ended_is l (walk_after_counted_access cur (walk_at_line l x) c a) a
    ∙ ap (λ k. ended k a) (counted_line l cur (walk_at_line l x) c a) in
    let gone : walk_without_call (walk_after_told_fault (walk_after_counted_access tx (assembled l v near overs g) c a) a)
    ≡ assembled (ended l a) v near overs None = rw apart (ended_walk l v near overs g a) in
    gone ∙ sym (ap (λ (k : Line). assembled k v near overs None) line)

begin_apart : (tx cur : TxId) (l : Line) (v x : Walk) (near : List (Key × Found)) (overs : List TxId) (g : Found)
    (mode : Mode) (timeout : ℕ) (a : Answer) →
    walk_after_answer tx (assembled l v near overs g) (Some (command.Begin mode timeout)) a ≡ assembled
    (line_after l (walk_after_answer cur (walk_at_line l x) (Some (command.Begin mode timeout)) a)) v near overs None
begin_apart tx cur l v x near overs g mode timeout answer.Done = refl
begin_apart tx cur l v x near overs g mode timeout (answer.Found value) = refl
begin_apart tx cur l v x near overs g mode timeout answer.Absent = refl
begin_apart tx cur l v x near overs g mode timeout answer.Committed = refl
begin_apart tx cur l v x near overs g mode timeout answer.RolledBack = refl
begin_apart tx cur l v x near overs g mode timeout (answer.Failed why) = refl
begin_apart tx cur l v x near overs g mode timeout answer.TooManyKeys = refl
begin_apart tx cur l v x near overs g mode timeout answer.NotNumber = refl
begin_apart tx cur l v x near overs g mode timeout answer.Overflow = refl
begin_apart tx cur l v x near overs g mode timeout answer.NoTransaction = refl
begin_apart tx cur l v x near overs g mode timeout answer.TransactionOpen = refl
begin_apart tx cur l v x near overs g mode timeout answer.Skipped = refl
begin_apart tx cur l v x near overs g mode timeout (answer.NoCache cache) = refl

-- an answer of another transaction's call changes no more than the session's part
pub answer_apart : (tx cur : TxId) (l : Line) (v x : Walk) (near : List (Key × Found)) (overs : List TxId) (g : Found)
    (c : Command) (a : Answer) → (l.started == tx.number) ≡ false →
    walk_after_answer tx (assembled l v near overs g) (Some c) a ≡ assembled
    (line_after l (walk_after_answer cur (walk_at_line l x) (Some c) a)) v near overs None
answer_apart tx cur l v x near overs g (command.Begin mode timeout) a apart =
    begin_apart tx cur l v x near overs g mode timeout a
answer_apart tx cur l v x near overs g command.Commit a apart = refl
answer_apart tx cur l v x near overs g command.Rollback a apart = refl
answer_apart tx cur l v x near overs g command.Close a apart = refl
answer_apart tx cur l v x near overs g (command.Get key) a apart =
    other_apart tx cur l v x near overs g (command.Get key) a apart
answer_apart tx cur l v x near overs g (command.Put key value) a apart =
    other_apart tx cur l v x near overs g (command.Put key value) a apart
answer_apart tx cur l v x near overs g (command.Remove key) a apart =
    other_apart tx cur l v x near overs g (command.Remove key) a apart
answer_apart tx cur l v x near overs g (command.Add key amount) a apart =
    other_apart tx cur l v x near overs g (command.Add key amount) a apart
answer_apart tx cur l v x near overs g (command.Sleep n) a apart =
    other_apart tx cur l v x near overs g (command.Sleep n) a apart

-- How many transactions a session has started after an answer.

ended_started : (l : Line) (a : Answer) → (ended l a).started ≡ l.started
ended_started l answer.Done = refl
ended_started l (answer.Found value) = refl
ended_started l answer.Absent = refl
ended_started l answer.Committed = refl
ended_started l answer.RolledBack = refl
ended_started l (answer.Failed why) = refl
ended_started l answer.TooManyKeys = refl
ended_started l answer.NotNumber = refl
ended_started l answer.Overflow = refl
ended_started l answer.NoTransaction = refl
ended_started l answer.TransactionOpen = refl
ended_started l answer.Skipped = refl
ended_started l (answer.NoCache cache) = refl

abbrev Starts : ℕ → ℕ → Type 0
Starts before after = (after ≤ 2 ^ 64 - 1) × (before ≤ after)

starts_same : (before after : ℕ) → after ≡ before → before ≤ 2 ^ 64 - 1 → Starts before after
starts_same before after same fits = rw same (fits, omega arith)

other_starts : (tx : TxId) (l : Line) (w : Walk) (c : Command) (a : Answer) → w.started ≤ 2 ^ 64 - 1 →
    Starts w.started (walk_without_call (walk_after_told_fault (walk_after_counted_access tx w c a) a)).started
other_starts tx l w c a fits =
    let same : (walk_without_call (walk_after_told_fault (walk_after_counted_access tx w c a) a)).started ≡ w.started =
    ap (λ (k : Line). k.started) (ended_is l (walk_after_counted_access tx w c a) a
    ∙ ap (λ k. ended k a) (counted_line l tx w c a)) ∙ ended_started (line_after l w) a in
    starts_same w.started (walk_without_call (walk_after_told_fault (walk_after_counted_access tx w c a) a)).started same fits

begin_starts : (tx : TxId) (w : Walk) (mode : Mode) (timeout : ℕ) (a : Answer) → w.started ≤ 2 ^ 64 - 1 →
    Starts w.started (walk_after_answer tx w (Some (command.Begin mode timeout)) a).started
begin_starts tx w mode timeout answer.Done fits = (omega (arith, fits), omega (arith, fits))
begin_starts tx w mode timeout (answer.Found value) fits = (fits, omega arith)
begin_starts tx w mode timeout answer.Absent fits = (fits, omega arith)
begin_starts tx w mode timeout answer.Committed fits = (fits, omega arith)
begin_starts tx w mode timeout answer.RolledBack fits = (fits, omega arith)
begin_starts tx w mode timeout (answer.Failed why) fits = (fits, omega arith)
begin_starts tx w mode timeout answer.TooManyKeys fits = (fits, omega arith)
begin_starts tx w mode timeout answer.NotNumber fits = (fits, omega arith)
begin_starts tx w mode timeout answer.Overflow fits = (fits, omega arith)
begin_starts tx w mode timeout answer.NoTransaction fits = (fits, omega arith)
begin_starts tx w mode timeout answer.TransactionOpen fits = (fits, omega arith)
begin_starts tx w mode timeout answer.Skipped fits = (fits, omega arith)
begin_starts tx w mode timeout (answer.NoCache cache) fits = (fits, omega arith)

-- they are no fewer
pub answer_starts : (tx : TxId) (l : Line) (w : Walk) (c : Command) (a : Answer) → w.started ≤ 2 ^ 64 - 1 →
    Starts w.started (walk_after_answer tx w (Some c) a).started
answer_starts tx l w (command.Begin mode timeout) a fits = begin_starts tx w mode timeout a fits
answer_starts tx l w command.Commit a fits = (fits, omega arith)
answer_starts tx l w command.Rollback a fits = (fits, omega arith)
answer_starts tx l w command.Close a fits = (fits, omega arith)
answer_starts tx l w (command.Get key) a fits = other_starts tx l w (command.Get key) a fits
answer_starts tx l w (command.Put key value) a fits = other_starts tx l w (command.Put key value) a fits
answer_starts tx l w (command.Remove key) a fits = other_starts tx l w (command.Remove key) a fits
answer_starts tx l w (command.Add key amount) a fits = other_starts tx l w (command.Add key amount) a fits
answer_starts tx l w (command.Sleep n) a fits = other_starts tx l w (command.Sleep n) a fits
