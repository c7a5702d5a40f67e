-- What a source and a sink over memory answer, and what they are afterwards.
use Rattle.std.specs.Prelude.{ℕ, ◌-◌, Bool, ◌||◌, ◌&&◌, nat_lt, ◌==◌, if◌then◌else◌, min, List, ◌++◌, length, take, drop, Result, Ok, Err}
use Rattle.host_io.specs.declared.failed.Failed.{Failed}
use Rattle.host_io.specs.Plan.{Plan, fails_next, faulted, plan_after_call}

-- a source: the bytes that are left, and its calls of `take`
pub record Supply : Type 0 where
  pub left : List ℕ
  pub plan : Plan

-- how many bytes a buffer of this length gets
abbrev pub taken_count : Supply → ℕ → ℕ
taken_count s room = min room (length s.left)

abbrev pub take_answer : Supply → ℕ → Result ℕ Failed
take_answer s room = if fails_next s.plan then Err (record {}) else Ok (taken_count s room)

abbrev pub after_take : Supply → ℕ → Supply
after_take s room = if fails_next s.plan
    then record s { plan = faulted (plan_after_call s.plan) }
    else record s { left = drop (taken_count s room) s.left; plan = plan_after_call s.plan }

-- a sink: the bytes that it holds, how many it has room for in all, and its calls of `put`
pub record Store : Type 0 where
  pub held : List ℕ
  pub room : ℕ
  pub plan : Plan

-- how many bytes of a piece of this length fit
abbrev pub put_count : Store → ℕ → ℕ
put_count s len = min len (s.room - length s.held)

-- the call is one that fails, or nothing fits of a piece that is not empty
abbrev pub put_fails : Store → ℕ → Bool
put_fails s len = fails_next s.plan || (nat_lt 0 len && (put_count s len == 0))

abbrev pub put_answer : Store → ℕ → Result ℕ Failed
put_answer s len = if put_fails s len then Err (record {}) else Ok (put_count s len)

abbrev pub after_put : Store → List ℕ → Store
after_put s bytes = if put_fails s (length bytes)
    then record s { plan = faulted (plan_after_call s.plan) }
    else record s { held = s.held ++ take (put_count s (length bytes)) bytes; plan = plan_after_call s.plan }
