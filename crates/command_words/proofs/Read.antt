-- What a parse of the words says of the line.
use Rattle.std.proofs.Common.{◌≡◌, ◌∙◌, List, [], ◌∷◌, Option, Some, None, Result, Err, IfOk, refl, sym, ap, subst, true}
use Rattle.std.specs.Option.{ok_or}
use Rattle.clap.specs.Matches.{first_value}
use Rattle.clap.specs.Walk.{first_of, nothing_held, rows_of}
use Rattle.clap.specs.Simple.{built, is_simple, matches_of}
use Rattle.clap.specs.Kinds.{IsAmong, Kinds}
use Rattle.clap.specs.Faults.{fault_of, is_simple_and_free}
use Rattle.clap.specs.declared.error.kind.ErrorKind.{ErrorKind}
use Rattle.clap.specs.declared.error.kind.ErrorKind.TheVariants.{OutOfMemory}
use Rattle.clap.specs.declared.parser.matches.Found.{Found}
use Rattle.clap.proofs.FaultLemmas.{leaf_fault}
use Rattle.clap.proofs.WalkLemmas.{first_value-rows}
use Rattle.command_words.specs.declared.SimWords.{SimWords}
use Rattle.command_words.specs.declared.WordsFault.{WordsFault}
use Rattle.command_words.specs.declared.WordsFault.TheVariants.{Usage, NoMemory}
use Rattle.command_words.specs.Line.{line}
use Rattle.command_words.specs.Options.{Text}
use Rattle.command_words.specs.Parse.{asked_of, fault, sim_app}
use Rattle.command_words.proofs.Known.{known, rules}
use Rattle.command_words.proofs.Turns.{answered}
use Rattle.command_words.proofs.Walks.{walked_line}

pub is_free : is_simple_and_free sim_app ≡ true
is_free = refl

pub is_ready : is_simple sim_app ≡ true
is_ready = refl

-- the parser's faults and its rows, together
said : (words : List Text) → answered (fault_of sim_app words) (asked_of (λ id. first_of id (matches_of sim_app words)))
    ≡ line words
said words =
    ap (λ (kinds : Kinds). answered kinds (asked_of (λ id. first_of id (matches_of sim_app words))))
    (leaf_fault (built sim_app) nothing_held words refl)
    ∙ walked_line rules known words

pub taken_line : (words : List Text) (f : Found) → fault_of sim_app words ≡ [] → rows_of f ≡ matches_of sim_app words →
    asked_of (first_value f) ≡ line words
taken_line words f passes same =
    ap asked_of (λ i id. first_value-rows f id i)
    ∙ (ap (λ xs. asked_of (λ id. first_of id xs)) same
    ∙ (sym (ap (λ (kinds : Kinds). answered kinds (asked_of (λ id. first_of id (matches_of sim_app words)))) passes)
    ∙ said words))

refused_by : (k : ErrorKind) (kinds : Kinds) (x : Option SimWords) → IsAmong k kinds → answered kinds x ≡ None
refused_by k [] x h = absurd h
refused_by k (y ∷ ys) x h = refl

pub refused_line : (words : List Text) (k : ErrorKind) → IsAmong k (fault_of sim_app words) → line words ≡ None
refused_line words k h = sym (said words)
    ∙ refused_by k (fault_of sim_app words) (asked_of (λ id. first_of id (matches_of sim_app words))) h

-- the answer that is made of what is asked for
pub asked_ok : (o l : Option SimWords) (r : Result SimWords WordsFault) → o ≡ l → r ≡ ok_or o Usage →
    IfOk r (λ asked. l ≡ Some asked)
asked_ok None l r e is = subst (λ (x : Result SimWords WordsFault). IfOk x (λ asked. l ≡ Some asked)) (sym is) tt
asked_ok (Some x) l r e is = subst (λ (x : Result SimWords WordsFault). IfOk x (λ asked. l ≡ Some asked)) (sym is) (sym e)

pub asked_usage : (o l : Option SimWords) (r : Result SimWords WordsFault) → o ≡ l → r ≡ ok_or o Usage → r ≡ Err Usage →
    l ≡ None
asked_usage None l r e is usage = sym e
asked_usage (Some x) l r e is usage = cc

-- want of memory is no mistake in the words
pub no_memory : (k : ErrorKind) → k ≡ OutOfMemory → fault k ≡ Usage → ⊥
no_memory k is usage = let other : NoMemory ≡ Usage = ap fault (sym is) ∙ usage in cc
