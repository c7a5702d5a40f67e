-- One transaction more, and one session more.
use Rattle.std.proofs.Common.{◌≡◌, ℕ, ◌+◌, ◌-◌, ◌<◌, List, [], ◌∷◌, ◌++◌, arith, suc, append_assoc}
use Rattle.ignite_types.specs.declared.scenario.Item.{Item}
use Rattle.ignite_types.specs.declared.scenario.Session.{Session}
use Rattle.rand_pcg.specs.Lcg.{Lcg}
use Rattle.sched_seed.specs.Generated.{generated_session, sessions_from}
use Rattle.sched_seed.specs.Transactions.{after_script, after_words, script, transaction, words_of}
use Rattle.sched_seed.specs.declared.transaction.Words.{Words}

one_left : (done all : ℕ) → done < all → all - done ≡ suc (all - (done + 1))
one_left done all h = omega arith

pub script_pushed : (done txs : ℕ) (commands pushed whole : List Item) (words : Words) (g next : Lcg) → done < txs →
    words ≡ words_of g → next ≡ after_words g → pushed ≡ commands ++ transaction words →
    commands ++ script (txs - done) g ≡ whole → pushed ++ script (txs - (done + 1)) next ≡ whole
script_pushed done txs commands pushed whole words g next h drawn rest is before =
    rw (is, append_assoc commands _ _, drawn, rest) (rw (one_left done txs h) at before)

pub script_passed : (done txs : ℕ) (whole g next : Lcg) → done < txs → next ≡ after_words g →
    after_script (txs - done) g ≡ whole → after_script (txs - (done + 1)) next ≡ whole
script_passed done txs whole g next h rest before = rw rest (rw (one_left done txs h) at before)

pub session_pushed : (place sessions txs : ℕ) (list pushed whole : List Session) (s : Session) (g next : Lcg) →
    place < sessions → s ≡ generated_session place txs g → next ≡ after_script txs g → pushed ≡ list ++ s ∷ [] →
    list ++ sessions_from place (sessions - place) txs g ≡ whole →
    pushed ++ sessions_from (place + 1) (sessions - (place + 1)) txs next ≡ whole
session_pushed place sessions txs list pushed whole s g next h made rest is before =
    rw (is, append_assoc, made, rest) (rw (one_left place sessions h) at before)
