-- What is known of an answer, where there is one.
use Rattle.std.proofs.Common.{◌≡◌, Bool, true, false, refl}
use Rattle.std.specs.Prelude.{Option, Some, None, Result, Ok, Err}
use Rattle.scen_text.specs.declared.cause.Cause.{Cause}
use Rattle.scen_text.specs.declared.cause.What.{What}
use Rattle.scen_text.specs.Causes.{◌>>=◌, rule, fit}

-- the fact holds of what is answered, if something is
abbrev pub Holds : {A E : Type 0} → (A → Type 0) → Result A E → Type 0
Holds P (Ok x) = P x
Holds P (Err e) = Unit {0}

pub then_holds : {A B : Type 0} (P : B → Type 0) (Q : A → Type 0) (r : Result A Cause) (next : A → Result B Cause) →
    Holds Q r → ((x : A) → Q x → Holds P (next x)) → Holds P (r >>= next)
then_holds P Q (Ok x) next h f = f x h
then_holds P Q (Err e) next h f = tt

pub any_holds : {A E : Type 0} (r : Result A E) → Holds (λ x. Unit {0}) r
any_holds (Ok x) = tt
any_holds (Err e) = tt

-- behind a step of which nothing is to be known
pub any_then : {A B : Type 0} (P : B → Type 0) (r : Result A Cause) (next : A → Result B Cause) →
    ((x : A) → Holds P (next x)) → Holds P (r >>= next)
any_then P (Ok x) next f = f x
any_then P (Err e) next f = tt

-- behind a rule it holds
pub rule_then : {B : Type 0} (P : B → Type 0) (b : Bool) (cause : Cause) (next : Unit {0} → Result B Cause) →
    (b ≡ true → Holds P (next tt)) → Holds P (rule b cause >>= next)
rule_then P true cause next f = f refl
rule_then P false cause next f = tt

-- behind a word that fits it is there
pub fit_then : {A B : Type 0} (P : B → Type 0) (o : Option A) (w : What) (next : A → Result B Cause) →
    ((x : A) → o ≡ Some x → Holds P (next x)) → Holds P (fit o w >>= next)
fit_then P (Some x) w next f = f x refl
fit_then P None w next f = tt

-- behind a step that answers
pub ok_then : {A B : Type 0} (P : B → Type 0) (r : Result A Cause) (next : A → Result B Cause) →
    ((x : A) → r ≡ Ok x → Holds P (next x)) → Holds P (r >>= next)
ok_then P (Ok x) next f = f x refl
ok_then P (Err e) next f = tt
