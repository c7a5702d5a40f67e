-- Generated transactions. Each moves an amount from one of sixteen keys to another, and is made from four words.
use Rattle.std.specs.Prelude.{ℕ, zero, suc, ◌+◌, ◌%◌, ◌==◌, pos, neg_ℤ, decimal, List, [], ◌∷◌, ◌++◌, if◌then◌else◌}
use Rattle.ignite_types.specs.declared.scenario.Command.{Command}
use Rattle.ignite_types.specs.declared.scenario.Command.TheVariants.{Begin, Add, Commit, Sleep}
use Rattle.ignite_types.specs.declared.scenario.Item.{Item}
use Rattle.ignite_types.specs.declared.scenario.Item.TheVariants.{Plain}
use Rattle.ignite_types.specs.declared.scenario.Mode.TheVariants.{Pessimistic, Optimistic}
use Rattle.ignite_types.specs.declared.text.Key.{Key}
use Rattle.rand_pcg.specs.Lcg.{Lcg}
use Rattle.sched_seed.specs.Words.{after_word, word_of}
use Rattle.sched_seed.specs.declared.transaction.Words.{Words}

-- the next four words of a generator
abbrev pub words_of : Lcg → Words
words_of g =
    record {
      mode = word_of g;
      from = word_of (after_word g);
      to = word_of (after_word (after_word g));
      amount = word_of (after_word (after_word (after_word g)));
    }

-- the generator after four words
abbrev pub after_words : Lcg → Lcg
after_words g = after_word (after_word (after_word (after_word g)))

-- a letter with a number, in decimal: a key or a session's name
abbrev pub numbered : ℕ → ℕ → List ℕ
numbered letter number = letter ∷ decimal number

-- the key of a number: `k0` to `k15`
abbrev pub numbered_key : ℕ → Key
numbered_key number = record { cache = 0; text = numbered 107 number }

abbrev pub begin_of : ℕ → Command
begin_of mode = if mode % 2 == 0 then Begin Pessimistic 50 else Begin Optimistic 0

-- a number below 16, or the one after `from` where it is `from`
abbrev pub other_than : ℕ → ℕ → ℕ
other_than from to = if to == from then (from + 1) % 16 else to

-- takes an amount from one key and adds it to another
abbrev pub moved_amount : ℕ → ℕ → ℕ → List Item
moved_amount from to amount =
    Plain (Add (numbered_key from) (neg_ℤ (pos amount))) ∷ Plain (Add (numbered_key to) (pos amount)) ∷ []

abbrev pub transaction : Words → List Item
transaction words =
    Plain (begin_of words.mode) ∷ []
    ++ moved_amount (words.from % 16) (other_than (words.from % 16) (words.to % 16)) (words.amount % 100 + 1)
    ++ Plain Commit ∷ Plain (Sleep 1) ∷ []

-- so many transactions
abbrev pub script : ℕ → Lcg → List Item
script zero g = []
script (suc more) g = transaction (words_of g) ++ script more (after_words g)

-- the generator after their words
abbrev pub after_script : ℕ → Lcg → Lcg
after_script zero g = g
after_script (suc more) g = after_script more (after_words g)
