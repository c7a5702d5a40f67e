-- Items as they are read one by one, and members as they are counted.
use Rattle.std.proofs.Common.{◌≡◌, ◌+◌, ◌<◌, true, false, drop, get_or, suc, List, [], ◌∷◌, ◌++◌, ◌==◌, Option, Some, None, String, Global, length, option_map, add-one, append-nil, append_assoc, refl, ap, sym, ◌∙◌, ℕ}
use Rattle.serde_json.specs.View.{items_view, members_view, view}
use Rattle.serde_json.specs.declared.value.Value.{Value}
use Rattle.std.specs.List.{list_all}
use Rattle.std.specs.Option.{is_some}
use Rattle.std.proofs.Math.Seq.{drop-cons}
use Rattle.serde_json.specs.Data.{Data}
use Rattle.serde_json.specs.Find.{as_object}
use Rattle.audit_core.specs.Histories.{KeyChange}
use Rattle.audit_core.specs.Shape.{◌>>=◌, both_items, changes_of, count_is, each, has_members, printed_map_of, members_count, only_if, present_only}

-- one more item behind those that were read
pub one_more : {A : Type 0} (done : List A) (x : A) (rest : Option (List A)) →
    option_map (λ xs. done ++ xs) (rest >>= (λ xs. Some (x ∷ xs))) ≡ option_map (λ xs. (done ++ x ∷ []) ++ xs) rest
one_more done x None = refl
one_more done x (Some xs) = ap Some (sym (append_assoc done (x ∷ []) xs))

-- an object has as many members as its map
pub count_of_entries : (es : List (String Global × Value)) → members_count (members_view es) ≡ length es
count_of_entries [] = refl
count_of_entries (e ∷ es) = rw (count_of_entries es, add-one) refl

-- items that were taken one by one are all, once none is left
pub all_taken : {X : Type 0} (done left all : List X) → done ++ left ≡ all → left ≡ [] → done ≡ all
all_taken done left all is none = sym (append-nil done) ∙ (ap (λ r. done ++ r) (sym none) ∙ is)

-- one more item was read
pub each_step : {A : Type 0} (f : Data → Option A) (vs : List Value) (i : ℕ) (v : Value) (x : A) (done : List A)
    (all : Option (List A)) → i < length vs → v ≡ get_or vs i v → f (view v) ≡ Some x
    → option_map (λ xs. done ++ xs) (each f (items_view (drop i vs))) ≡ all →
    option_map (λ xs. (done ++ x ∷ []) ++ xs) (each f (items_view (drop (i + 1) vs))) ≡ all
each_step {A} f vs i v x done all within here read is =
    let front : drop i vs ≡ v ∷ drop (suc i) vs = drop-cons vs i v within ∙ ap (λ w. w ∷ drop (suc i) vs) (sym here) in
    let opened : each f (items_view (drop i vs))
    ≡ (Some x >>= (λ y. each f (items_view (drop (suc i) vs)) >>= (λ xs. Some (y ∷ xs)))) =
    ap (λ ws. each f (items_view ws)) front
    ∙ ap (λ o. o >>= (λ y. each f (items_view (drop (suc i) vs)) >>= (λ xs. Some (y ∷ xs)))) read in
    rw add-one (sym (one_more done x (each f (items_view (drop (suc i) vs))))
    ∙ (ap (λ o. option_map (λ xs. done ++ xs) o) (sym opened) ∙ is))

-- a list of another length than two has no two items
pub not_two : (vs : List Value) → (length vs ≡ 2 → ⊥) → both_items (items_view vs) ≡ None
not_two [] other = refl
not_two (a ∷ []) other = refl
not_two (a ∷ b ∷ []) other = absurd (other refl)
not_two (a ∷ b ∷ c ∷ cs) other = refl

-- an object's members, counted
pub members_there : (n : ℕ) (d : Data) (es : List (String Global × Value)) → Some (members_view es) ≡ as_object d →
    (length es == n) ≡ has_members n d
members_there n d es is = ap (λ m. m == n) (sym (count_of_entries es)) ∙ ap (count_is n) is

pub map_read : (d : Data) (cs : List KeyChange) → changes_of d ≡ Some cs → list_all (λ (c : KeyChange). is_some c.1) cs
    ≡ true → printed_map_of d ≡ Some cs
map_read d cs is all = ap (λ o. o >>= present_only) is ∙ ap (λ b. only_if b cs) all

pub map_refused : (d : Data) (cs : List KeyChange) → changes_of d ≡ Some cs → list_all (λ (c : KeyChange). is_some c.1) cs
    ≡ false → printed_map_of d ≡ None
map_refused d cs is all = ap (λ o. o >>= present_only) is ∙ ap (λ b. only_if b cs) all
