-- The records of all parts, when one node notes more.
use Rattle.std.proofs.Common.{◌≡◌, ◌++◌, ℕ, zero, suc, List, [], ◌∷◌, Option, Some, None, Bool, true, false, map, slice_get, slice_set, refl, ap, sym, subst, ◌∙◌, arith}
use Rattle.std.specs.Prelude.{position}
use Rattle.std.proofs.lemmas.Bool.Decides.{nat_tests}
use Rattle.std.proofs.lemmas.List.Quantifiers.{position-Some}
use Rattle.std.proofs.lemmas.Option.{get_or_from_slice_get}
use Rattle.frame_laws.specs.Kits.{is_lock}
use Rattle.frame_laws.proofs.Extending.{append_none}
use Rattle.part_model.specs.Orders.{is_node}
use Rattle.ignite_types.proofs.NameLaws.{same_node_itself}
use Rattle.ignite_types.specs.Names.{same_node}
use Rattle.ignite_types.specs.declared.journal.Rec.{Rec}
use Rattle.ignite_types.specs.declared.names.NodeId.{NodeId}
use Rattle.journal_statements.specs.Noted.{Noted, noted_by, recs_of}
use Rattle.lock_laws.specs.Tracking.{AllOwnersMatch, AreApart, IsAbsentFrom, OwnersMatch}
use Rattle.lock_laws.proofs.Journals.{recs_append, recs_other, recs_own}
use Rattle.lock_laws.proofs.Tracking.{lockless_tells}
use Rattle.tx_model.specs.World.{Part}

same_node_back : (a b : NodeId) → same_node a b ≡ false → same_node b a ≡ false
same_node_back a b other = grind (arith, nat_tests)

-- a node that notes nothing of this goes on
kept_tells : (noted : List Noted) (who : Option NodeId) (rs : List Rec) (p : Part) → is_node p.node.me who ≡ false →
    OwnersMatch (recs_of p.node.me noted) p.node.queues →
    OwnersMatch (recs_of p.node.me (noted ++ noted_by who rs)) p.node.queues
kept_tells noted who rs p other tells =
    let same : recs_of p.node.me (noted ++ noted_by who rs) ≡ recs_of p.node.me noted =
    recs_append p.node.me noted (noted_by who rs) ∙ ap (λ xs. recs_of p.node.me noted ++ xs)
    (recs_other p.node.me who rs other) ∙ append_none (recs_of p.node.me noted) in
    subst (λ (xs : List Rec). OwnersMatch xs p.node.queues) (sym same) tells

pub others_tell : (noted : List Noted) (who : NodeId) (rs : List Rec) (ps : List Part) → IsAbsentFrom who ps →
    AllOwnersMatch noted ps → AllOwnersMatch (noted ++ noted_by (Some who) rs) ps
others_tell noted who rs [] apart all = tt
others_tell noted who rs (p ∷ ps) apart all = (
  kept_tells noted (Some who) rs p apart.0 all.0,
  others_tell noted who rs ps apart.1 all.1,
)

pub nobody_tells : (noted : List Noted) (rs : List Rec) (ps : List Part) → AllOwnersMatch noted ps →
    AllOwnersMatch (noted ++ noted_by None rs) ps
nobody_tells noted rs [] all = tt
nobody_tells noted rs (p ∷ ps) all = (kept_tells noted None rs p refl all.0, nobody_tells noted rs ps all.1)

-- a record that is no lock, whoever notes it
lockless_one : (noted : List Noted) (who : Option NodeId) (r : Rec) (p : Part) → is_lock r ≡ false →
    OwnersMatch (recs_of p.node.me noted) p.node.queues →
    OwnersMatch (recs_of p.node.me (noted ++ noted_by who (r ∷ []))) p.node.queues
lockless_one noted who r p lockless tells =
    elim (is_node p.node.me who) as (λ b. is_node p.node.me who ≡ b →
    OwnersMatch (recs_of p.node.me (noted ++ noted_by who (r ∷ []))) p.node.queues) [
      | true ↦ λ own.
          let more : recs_of p.node.me (noted ++ noted_by who (r ∷ [])) ≡ recs_of p.node.me noted ++ r ∷ [] =
          recs_append p.node.me noted (noted_by who (r ∷ [])) ∙ ap (λ xs. recs_of p.node.me noted ++ xs)
          (recs_own p.node.me who (r ∷ []) own) in
          subst (λ (xs : List Rec). OwnersMatch xs p.node.queues) (sym more)
          (lockless_tells (recs_of p.node.me noted) r p.node.queues lockless tells)
      | false ↦ λ other. kept_tells noted who (r ∷ []) p other tells
    ] refl

pub lockless_all : (noted : List Noted) (who : Option NodeId) (r : Rec) (ps : List Part) → is_lock r ≡ false →
    AllOwnersMatch noted ps → AllOwnersMatch (noted ++ noted_by who (r ∷ [])) ps
lockless_all noted who r [] lockless all = tt
lockless_all noted who r (p ∷ ps) lockless all =
    (lockless_one noted who r p lockless all.0, lockless_all noted who r ps lockless all.1)

-- the part at a place
apart_at : (id : NodeId) (ps : List Part) (k : ℕ) (p : Part) → slice_get ps k ≡ Some p → IsAbsentFrom id ps →
    same_node p.node.me id ≡ false
apart_at id [] k p here apart = absurd (cc)
apart_at id (x ∷ ps) zero p here apart = let is : x ≡ p = cc in subst (λ (y : Part). same_node y.node.me id ≡ false) is apart.0
apart_at id (x ∷ ps) (suc k) p here apart = apart_at id ps k p here apart.1

apart_set : (id : NodeId) (ps : List Part) (k : ℕ) (q : Part) → same_node q.node.me id ≡ false → IsAbsentFrom id ps →
    IsAbsentFrom id (slice_set ps k q)
apart_set id [] k q other apart = tt
apart_set id (x ∷ ps) zero q other apart = (other, apart.1)
apart_set id (x ∷ ps) (suc k) q other apart = (apart.0, apart_set id ps k q other apart.1)

pub are_apart_set : (ps : List Part) (k : ℕ) (p q : Part) → slice_get ps k ≡ Some p → q.node.me ≡ p.node.me → AreApart ps →
    AreApart (slice_set ps k q)
are_apart_set [] k p q here same apart = tt
are_apart_set (x ∷ ps) zero p q here same apart =
    let is : x ≡ p = cc in
    let me : x.node.me ≡ q.node.me = ap (λ (y : Part). y.node.me) is ∙ sym same in
    (subst (λ (id : NodeId). IsAbsentFrom id ps) me apart.0, apart.1)
are_apart_set (x ∷ ps) (suc k) p q here same apart = (
  apart_set x.node.me ps k q (rw same (apart_at x.node.me ps k p here apart.0)) apart.0,
  are_apart_set ps k p q here same apart.1,
)

-- one part acts
pub set_tells : (noted : List Noted) (rs : List Rec) (ps : List Part) (k : ℕ) (p q : Part) → slice_get ps k ≡ Some p →
    q.node.me ≡ p.node.me → AreApart ps → AllOwnersMatch noted ps
    → (OwnersMatch (recs_of p.node.me noted) p.node.queues → OwnersMatch (recs_of p.node.me noted ++ rs) q.node.queues) →
    AllOwnersMatch (noted ++ noted_by (Some p.node.me) rs) (slice_set ps k q)
set_tells noted rs [] k p q here same apart all act = tt
set_tells noted rs (x ∷ ps) zero p q here same apart all act =
    let is : x ≡ p = cc in
    let who = p.node.me in
    let own : recs_of who (noted ++ noted_by (Some who) rs) ≡ recs_of who noted ++ rs =
    recs_append who noted (noted_by (Some who) rs)
    ∙ ap (λ xs. recs_of who noted ++ xs) (recs_own who (Some who) rs (same_node_itself who)) in
    let before : OwnersMatch (recs_of who noted) p.node.queues =
    subst (λ (y : Part). OwnersMatch (recs_of y.node.me noted) y.node.queues) is all.0 in
    let now : OwnersMatch (recs_of who (noted ++ noted_by (Some who) rs)) q.node.queues =
    subst (λ (xs : List Rec). OwnersMatch xs q.node.queues) (sym own) (act before) in (
      subst (λ (id : NodeId). OwnersMatch (recs_of id (noted ++ noted_by (Some who) rs)) q.node.queues) (sym same) now,
      others_tell noted who rs ps (subst (λ (y : Part). IsAbsentFrom y.node.me ps) is apart.0) all.1,
    )
set_tells noted rs (x ∷ ps) (suc k) p q here same apart all act = (
  kept_tells noted (Some p.node.me) rs x (same_node_back p.node.me x.node.me (apart_at x.node.me ps k p here apart.0)) all.0,
  set_tells noted rs ps k p q here same apart.1 all.1 act,
)

-- each part is changed, but not its number and its queues
module _ (f : Part → Part) (me : (p : Part) → (f p).node.me ≡ p.node.me) (queues : (p : Part) →
    (f p).node.queues ≡ p.node.queues) where
  pub map_tells : (noted : List Noted) (ps : List Part) → AllOwnersMatch noted ps → AllOwnersMatch noted (map f ps)
  map_tells noted [] all = tt
  map_tells noted (p ∷ ps) all = (rw (me p, queues p) all.0, map_tells noted ps all.1)

  apart_map : (id : NodeId) (ps : List Part) → IsAbsentFrom id ps → IsAbsentFrom id (map f ps)
  apart_map id [] apart = tt
  apart_map id (p ∷ ps) apart = (rw (me p) apart.0, apart_map id ps apart.1)

  pub are_apart_map : (ps : List Part) → AreApart ps → AreApart (map f ps)
  are_apart_map [] apart = tt
  are_apart_map (p ∷ ps) apart = (rw (me p) (apart_map p.node.me ps apart.0), are_apart_map ps apart.1)

-- the first place that passes a test has what passes it
pub first_passes : {X : Type 0} (test : X → Bool) (xs : List X) (k : ℕ) (x : X) → position test xs ≡ Some k →
    slice_get xs k ≡ Some x → test x ≡ true
first_passes test xs k x first here = subst (λ y. test y ≡ true) (get_or_from_slice_get xs k x x here)
    (position-Some test xs k x first).1
