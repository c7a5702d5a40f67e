-- A session's command speaks of one key.
use Rattle.std.proofs.Common.{◌≡◌, List, [], ◌∷◌, true, Option, Some, None, ℕ, nat_eq, refl, sym, ◌∙◌}
use Rattle.std.specs.Cmp.{first_so, second_so}
use Rattle.std.specs.Cmp.Lexicographic.{pointwise}
use Rattle.std.specs.Option.{option_and_then}
use Rattle.std.proofs.lemmas.Bool.{eqb-true}
use Rattle.act_rows.specs.Accesses.{access_key, is_pending_access, is_that_key}
use Rattle.ignite_types.specs.Names.{same_key}
use Rattle.ignite_types.specs.declared.text.Key.{Key}
use Rattle.node_state.specs.declared.session.SessionState.{SessionState}

texts_exact : (s t : List ℕ) → pointwise nat_eq s t ≡ true → s ≡ t
texts_exact [] [] h = refl
texts_exact [] (y ∷ t) h = absurd (cc)
texts_exact (x ∷ s) [] h = absurd (cc)
texts_exact (x ∷ s) (y ∷ t) h =
    let first : x ≡ y = eqb-true x y (first_so (nat_eq x y) (pointwise nat_eq s t) h) in
    let rest : s ≡ t = texts_exact s t (second_so (nat_eq x y) (pointwise nat_eq s t) h) in
    cc

same_key_true : (a b : Key) → same_key a b ≡ true → a ≡ b
same_key_true a b h = let cache : a.cache ≡ b.cache =
    eqb-true a.cache b.cache (first_so (nat_eq a.cache b.cache) (pointwise nat_eq a.text b.text) h) in
    let text : a.text ≡ b.text =
    texts_exact a.text b.text (second_so (nat_eq a.cache b.cache) (pointwise nat_eq a.text b.text) h) in
    (λ i. record { cache = cache i; text = text i })

is_key_is : (k l : Key) (x : Option Key) → is_that_key k x ≡ true → is_that_key l x ≡ true → k ≡ l
is_key_is k l None a b = absurd (cc)
is_key_is k l (Some x) a b = same_key_true k x a ∙ sym (same_key_true l x b)

pub pending_is : (k l : Key) (d : Option SessionState) → is_pending_access k d ≡ true → is_pending_access l d ≡ true → k ≡ l
pending_is k l None a b = absurd (cc)
pending_is k l (Some d) a b = is_key_is k l (option_and_then access_key d.pending) a b
