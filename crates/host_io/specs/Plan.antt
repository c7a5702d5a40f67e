-- The calls of an object over memory: which of them fail, and how many were made and failed.
use Rattle.std.specs.Prelude.{ℕ, ◌+◌, Bool, ◌&&◌, nat_lt, ◌==◌, List}
use Rattle.std.specs.List.{list_any}
use Rattle.host_io.specs.Faults.{last_count, next_count}

-- the numbers of the calls that fail, counted from 1; the calls made and the faults, as far as a count goes
pub record Plan : Type 0 where
  pub fails : List ℕ
  pub made : ℕ
  pub faults : ℕ

-- no call was made
abbrev pub fresh_plan : List ℕ → Plan
fresh_plan fails = record { fails = fails; made = 0; faults = 0 }

-- whether the next call is one that fails; past the last number of a call none does
abbrev pub fails_next : Plan → Bool
fails_next p = nat_lt p.made last_count && list_any (λ n. n == p.made + 1) p.fails

-- one more call was made
abbrev pub plan_after_call : Plan → Plan
plan_after_call p = record p { made = next_count p.made }

-- one more fault was counted
abbrev pub faulted : Plan → Plan
faulted p = record p { faults = next_count p.faults }
