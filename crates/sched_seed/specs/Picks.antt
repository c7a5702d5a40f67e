-- The picks of a seed: the words of its stream 1 for any seed but 0, which always picks 0.
use Rattle.std.specs.Prelude.{ℕ, ◌%◌, ◌==◌, Option, Some, None, if◌then◌else◌}
use Rattle.rand_pcg.specs.Lcg.{Lcg}
use Rattle.sched_seed.specs.Words.{after_word, generator_at, word, word_of}

-- pick number k, from 0, of n numbers; each pick takes one word, also where n is 1
abbrev pub pick : ℕ → ℕ → ℕ → ℕ
pick seed k n = if seed == 0 then 0 else word seed 1 k % n

-- the generator that a picker has before its pick number k; seed 0 has none
abbrev pub picker_at : ℕ → ℕ → Option Lcg
picker_at seed k = if seed == 0 then None else Some (generator_at seed 1 k)

-- what a picker picks of n numbers
abbrev pub next_pick : Option Lcg → ℕ → ℕ
next_pick None n = 0
next_pick (Some g) n = word_of g % n

-- the picker after one pick
abbrev pub after_pick : Option Lcg → Option Lcg
after_pick None = None
after_pick (Some g) = Some (after_word g)
