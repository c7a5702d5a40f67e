-- The records of a journal, node by node, and the test of each grant.
use Rattle.std.proofs.Common.{◌≡◌, ◌++◌, ◌&&◌, ◌||◌, List, [], ◌∷◌, Option, Some, None, Bool, true, false, not, refl, ap, sym, subst, ◌∙◌}
use Rattle.std.specs.List.{flat_map, list_all}
use Rattle.part_model.specs.Orders.{is_node}
use Rattle.ignite_types.specs.Names.{same_key, same_node, same_tx}
use Rattle.ignite_types.specs.declared.journal.Rec.{Rec}
use Rattle.ignite_types.specs.declared.names.NodeId.{NodeId}
use Rattle.ignite_types.specs.declared.names.TxId.{TxId}
use Rattle.ignite_types.specs.declared.text.Key.{Key}
use Rattle.journal_statements.specs.Noted.{Noted, each_from, noted_by, rec_of, recs_of}
use Rattle.journal_statements.specs.Waits.{grant_fits, holds_after, leaves_free}
use Rattle.lock_laws.specs.Tracking.{GrantFits, GrantsFit}
use Rattle.frame_laws.proofs.Extending.{append_none, append_twice}
use Rattle.ignite_types.specs.declared.journal.Rec.TheVariants as note

flat_append : {A B : Type 0} (f : A → List B) (xs ys : List A) → flat_map f (xs ++ ys) ≡ flat_map f xs ++ flat_map f ys
flat_append f [] ys = refl
flat_append f (x ∷ xs) ys = ap (λ rest. f x ++ rest) (flat_append f xs ys)
    ∙ sym (append_twice (f x) (flat_map f xs) (flat_map f ys))

pub recs_append : (id : NodeId) (xs ys : List Noted) → recs_of id (xs ++ ys) ≡ recs_of id xs ++ recs_of id ys
recs_append id xs ys = flat_append (rec_of id) xs ys

-- what a node notes is its own
pub recs_own : (id : NodeId) (who : Option NodeId) (rs : List Rec) → is_node id who ≡ true → recs_of id (noted_by who rs) ≡ rs
recs_own id who [] own = refl
recs_own id who (r ∷ rs) own = rw own (ap (λ rest. r ∷ rest) (recs_own id who rs own))

pub recs_other : (id : NodeId) (who : Option NodeId) (rs : List Rec) → is_node id who ≡ false →
    recs_of id (noted_by who rs) ≡ []
recs_other id who [] other = refl
recs_other id who (r ∷ rs) other = rw other (recs_other id who rs other)

-- No other holder, in the words of the statement.

free_by : (tx : TxId) (key : Key) (own : List Rec) →
    ((u : TxId) → same_tx u tx ≡ false → holds_after u key false own ≡ false) → (u : TxId) (k : Key) →
    (same_tx u tx || not (same_key k key) || not (holds_after u key false own)) ≡ true
free_by tx key own fits u k =
    elim (same_tx u tx) as (λ b. same_tx u tx ≡ b → (b || not (same_key k key) || not (holds_after u key false own)) ≡ true) [
      | true ↦ λ is. refl
      | false ↦ λ other.
          rw (fits u other)
          (elim (not (same_key k key)) as (λ b. (b || true) ≡ true) [ true ↦ refl | false ↦ refl ])
    ] refl

leaves : (tx : TxId) (key : Key) (own : List Rec) →
    ((u : TxId) → same_tx u tx ≡ false → holds_after u key false own ≡ false) → (r : Rec) → leaves_free tx key own r ≡ true
leaves tx key own fits (note.Grant u top k) = free_by tx key own fits u k
leaves tx key own fits (note.Call s c) = refl
leaves tx key own fits (note.Answer s a) = refl
leaves tx key own fits (note.Deliver from message) = refl
leaves tx key own fits (note.Start u top) = refl
leaves tx key own fits (note.Decide u commit) = refl
leaves tx key own fits (note.Fault u why) = refl
leaves tx key own fits (note.Sent to message) = refl
leaves tx key own fits (note.See place) = refl
leaves tx key own fits (note.Queue u k holder) = refl
leaves tx key own fits (note.Drop u k) = refl
leaves tx key own fits (note.Apply u top primary k new ver) = refl
leaves tx key own fits (note.Install m) = refl
leaves tx key own fits (note.Opened top) = refl
leaves tx key own fits (note.Lost gone) = refl
leaves tx key own fits (note.Tick moment) = refl
leaves tx key own fits (note.Waits u round waits) = refl
leaves tx key own fits (note.Expire u) = refl
leaves tx key own fits (note.Searched u edges) = refl
leaves tx key own fits (note.Planned place refused) = refl
leaves tx key own fits note.Memory = refl

all_leave : (tx : TxId) (key : Key) (own rs : List Rec) →
    ((u : TxId) → same_tx u tx ≡ false → holds_after u key false own ≡ false) → list_all (leaves_free tx key own) rs ≡ true
all_leave tx key own [] fits = refl
all_leave tx key own (r ∷ rs) fits = rw (leaves tx key own fits r) (all_leave tx key own rs fits)

grant_is : (before : List Noted) (who : NodeId) (r : Rec) → GrantFits (recs_of who before) r →
    grant_fits before (Some who) r ≡ true
grant_is before who (note.Grant tx top key) fits = all_leave tx key (recs_of who before) (recs_of who before) fits
grant_is before who (note.Call s c) fits = refl
grant_is before who (note.Answer s a) fits = refl
grant_is before who (note.Deliver from message) fits = refl
grant_is before who (note.Start u top) fits = refl
grant_is before who (note.Decide u commit) fits = refl
grant_is before who (note.Fault u why) fits = refl
grant_is before who (note.Sent to message) fits = refl
grant_is before who (note.See place) fits = refl
grant_is before who (note.Queue u k holder) fits = refl
grant_is before who (note.Drop u k) fits = refl
grant_is before who (note.Apply u top primary k new ver) fits = refl
grant_is before who (note.Install m) fits = refl
grant_is before who (note.Opened top) fits = refl
grant_is before who (note.Lost gone) fits = refl
grant_is before who (note.Tick moment) fits = refl
grant_is before who (note.Waits u round waits) fits = refl
grant_is before who (note.Expire u) fits = refl
grant_is before who (note.Searched u edges) fits = refl
grant_is before who (note.Planned place refused) fits = refl
grant_is before who note.Memory fits = refl

-- the test of one_holder
abbrev pub test_grant : List Noted → Noted → Bool
test_grant before n = grant_fits before n.node n.rec

pub own_pass : (before : List Noted) (who : NodeId) (rs : List Rec) → same_node who who ≡ true →
    GrantsFit (recs_of who before) rs → each_from test_grant before (noted_by (Some who) rs) ≡ true
own_pass before who [] itself fits = refl
own_pass before who (r ∷ rs) itself fits =
    let n : Noted = record { node = Some who; rec = r } in
    let grown : recs_of who (before ++ n ∷ []) ≡ recs_of who before ++ r ∷ [] = recs_append who before (n ∷ [])
    ∙ ap (λ xs. recs_of who before ++ xs) (recs_own who (Some who) (r ∷ []) itself) in
    rw (grant_is before who r fits.0)
    (own_pass (before ++ n ∷ []) who rs itself (subst (λ (own : List Rec). GrantsFit own rs) (sym grown) fits.1))

pub nobodys_pass : (before : List Noted) (rs : List Rec) → each_from test_grant before (noted_by None rs) ≡ true
nobodys_pass before [] = refl
nobodys_pass before (r ∷ rs) = nobodys_pass (before ++ record { node = None; rec = r } ∷ []) rs

pub split_pass : (before xs ys : List Noted) → each_from test_grant before xs ≡ true → each_from test_grant (before ++ xs) ys
    ≡ true → each_from test_grant before (xs ++ ys) ≡ true
split_pass before [] ys first second = subst (λ (ns : List Noted). each_from test_grant ns ys ≡ true)
    (append_none before) second
split_pass before (x ∷ xs) ys first second =
    elim (test_grant before x) as (λ b. (b && each_from test_grant (before ++ x ∷ []) xs) ≡ true →
    (b && each_from test_grant (before ++ x ∷ []) (xs ++ ys)) ≡ true) [
      | true ↦ λ rest. split_pass (before ++ x ∷ []) xs ys rest
          (subst (λ (ns : List Noted). each_from test_grant ns ys ≡ true) (sym (append_twice before (x ∷ []) xs)) second)
      | false ↦ λ none. absurd (cc)
    ] first
