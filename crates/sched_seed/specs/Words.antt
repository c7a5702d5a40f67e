-- The words of a seed's streams. A stream is one congruential generator; a word is taken from its state before each step.
use Rattle.std.specs.Prelude.{ℕ}
use Rattle.rand_pcg.specs.Lcg.{Lcg, advance, increment_of, next, started}
use Rattle.rand_pcg.specs.Pcg.{multiplier_64, output_xsh_rr}

-- the word that a generator gives next
abbrev pub word_of : Lcg → ℕ
word_of g = output_xsh_rr g.state

-- the generator once it has given that word
abbrev pub after_word : Lcg → Lcg
after_word g = next 64 multiplier_64 g

-- the generator of a seed's stream, before its first word
abbrev pub generator : ℕ → ℕ → Lcg
generator seed stream = started 64 multiplier_64 seed (increment_of 64 stream)

-- the generator after so many words
abbrev pub generator_at : ℕ → ℕ → ℕ → Lcg
generator_at seed stream k = advance 64 multiplier_64 k (generator seed stream)

-- a stream's word number k, from 0
abbrev pub word : ℕ → ℕ → ℕ → ℕ
word seed stream k = word_of (generator_at seed stream k)
