-- What is at a key after an edit, and two edits of one key in a row.
use Rattle.std.proofs.Common.{◌≡◌, ◌≢◌, List, [], ◌∷◌, Some, None, IsSome, refl, ap, sym, ◌∙◌}
use Rattle.std.specs.declared.cmp.Ordering.{Ordering}
use Rattle.std.specs.declared.cmp.Ordering.TheVariants.{Less, Equal, Greater}
use Rattle.std.specs.Cmp.{IsTotalOrder}
use Rattle.std.specs.Ordering.{match_ordering}
use Rattle.std.proofs.lemmas.Cmp.{tied_itself, alike_right}
use Rattle.ordered_table.specs.Entries.{at, put, without}
use Rattle.ordered_table.specs.Places.{IsBelowAll, IsAscending}
use Rattle.ordered_table.proofs.Ascending.{below_all-less, below_all-equal}

module _ {K V : Type 0} (cmp : K → K → Ordering) (o : IsTotalOrder cmp) where
  -- the last of two values put at a key stays
  pub put_put : (es : List (K × V)) (k : K) (v w : V) → put cmp (put cmp es k v) k w ≡ put cmp es k w
  put_put [] k v w = rw (tied_itself o k)
  put_put (e ∷ es) k v w =
      elim (cmp k e.0) as (λ r. cmp k e.0 ≡ r →
      put cmp (match_ordering r ((k, v) ∷ e ∷ es) ((k, v) ∷ es) (e ∷ put cmp es k v)) k w ≡ match_ordering r
      ((k, w) ∷ e ∷ es) ((k, w) ∷ es) (e ∷ put cmp es k w)) [
        | Less ↦ λ g. rw (tied_itself o k)
        | Equal ↦ λ g. rw (tied_itself o k)
        | Greater ↦ λ g. rw g (ap (λ r. e ∷ r) (put_put es k v w))
      ] refl

  -- what was put at a key is gone once the key is taken out
  pub without_put : (es : List (K × V)) (k : K) (v : V) → without cmp (put cmp es k v) k ≡ without cmp es k
  without_put [] k v = rw (tied_itself o k)
  without_put (e ∷ es) k v =
      elim (cmp k e.0) as (λ r. cmp k e.0 ≡ r →
      without cmp (match_ordering r ((k, v) ∷ e ∷ es) ((k, v) ∷ es) (e ∷ put cmp es k v)) k ≡ match_ordering r (e ∷ es) es
      (e ∷ without cmp es k)) [
        | Less ↦ λ g. rw (tied_itself o k)
        | Equal ↦ λ g. rw (tied_itself o k)
        | Greater ↦ λ g. rw g (ap (λ r. e ∷ r) (without_put es k v))
      ] refl

  -- a key has the value that was put there
  pub at_put_same : (es : List (K × V)) (k : K) (v : V) → at cmp (put cmp es k v) k ≡ Some v
  at_put_same [] k v = rw (tied_itself o k)
  at_put_same (e ∷ es) k v =
      elim (cmp k e.0) as (λ r. cmp k e.0 ≡ r → at cmp (match_ordering r ((k, v) ∷ e ∷ es) ((k, v) ∷ es) (e ∷ put cmp es k v))
      k ≡ Some v) [
        | Less ↦ λ g. rw (tied_itself o k)
        | Equal ↦ λ g. rw (tied_itself o k)
        | Greater ↦ λ g. rw g (at_put_same es k v)
      ] refl

  -- so the key is there
  pub put_there : (es : List (K × V)) (k : K) (v : V) → IsSome (at cmp (put cmp es k v) k)
  put_there es k v = rw (at_put_same es k v)

  -- and any other key has what it had
  pub at_put_other : (es : List (K × V)) (k q : K) (v : V) → cmp q k ≢ Equal → at cmp (put cmp es k v) q ≡ at cmp es q
  at_put_other [] k q v other =
      elim (cmp q k) as (λ r. cmp q k ≡ r → match_ordering r None (Some v) None ≡ None) [
        | Less ↦ λ h. refl
        | Equal ↦ λ h. absurd (other h)
        | Greater ↦ λ h. refl
      ] refl
  at_put_other (e ∷ es) k q v other =
      elim (cmp k e.0) as (λ r. cmp k e.0 ≡ r → at cmp (match_ordering r ((k, v) ∷ e ∷ es) ((k, v) ∷ es) (e ∷ put cmp es k v))
      q ≡ at cmp (e ∷ es) q) [
        | Less ↦ λ g.
            elim (cmp q k) as (λ r. cmp q k ≡ r → match_ordering r None (Some v) (at cmp (e ∷ es) q) ≡ at cmp (e ∷ es) q) [
              | Less ↦ λ h. rw (o.trans q k e.0 h g)
              | Equal ↦ λ h. absurd (other h)
              | Greater ↦ λ h. refl
            ] refl
        | Equal ↦ λ g.
            elim (cmp q k) as (λ r. cmp q k ≡ r → match_ordering r None (Some v) (at cmp es q) ≡ at cmp (e ∷ es) q) [
              | Less ↦ λ h. rw (sym (alike_right o k e.0 q g) ∙ h)
              | Equal ↦ λ h. absurd (other h)
              | Greater ↦ λ h. rw (sym (alike_right o k e.0 q g) ∙ h)
            ] refl
        | Greater ↦ λ g. rw (at_put_other es k q v other)
      ] refl

  -- a key that is below all others has no value
  at_below_all : (es : List (K × V)) (k : K) → IsBelowAll cmp k es → at cmp es k ≡ None
  at_below_all [] k below = refl
  at_below_all (e ∷ es) k below = rw below.0

  -- a key that was taken out has no value
  pub at_without : (es : List (K × V)) (k : K) → IsAscending cmp es → at cmp (without cmp es k) k ≡ None
  at_without [] k ascending = refl
  at_without (e ∷ es) k ascending =
      elim (cmp k e.0) as (λ r. cmp k e.0 ≡ r → at cmp (match_ordering r (e ∷ es) es (e ∷ without cmp es k)) k ≡ None) [
        | Less ↦ λ g. rw g
        | Equal ↦ λ g. at_below_all es k (below_all-equal cmp o k e.0 es g ascending.0)
        | Greater ↦ λ g. rw g (at_without es k ascending.1)
      ] refl

  -- and any other key has what it had
  pub at_without_other : (es : List (K × V)) (k q : K) → IsAscending cmp es → cmp q k ≢ Equal →
      at cmp (without cmp es k) q ≡ at cmp es q
  at_without_other [] k q ascending other = refl
  at_without_other (e ∷ es) k q ascending other =
      elim (cmp k e.0) as (λ r. cmp k e.0 ≡ r → at cmp (match_ordering r (e ∷ es) es (e ∷ without cmp es k)) q
      ≡ at cmp (e ∷ es) q) [
        | Less ↦ λ g. refl
        | Equal ↦ λ g.
            elim (cmp q e.0) as (λ r. cmp q e.0 ≡ r → at cmp es q ≡ match_ordering r None (Some e.1) (at cmp es q)) [
              | Less ↦ λ h. at_below_all es q (below_all-less cmp o q e.0 es h ascending.0)
              | Equal ↦ λ h. absurd (other (alike_right o k e.0 q g ∙ h))
              | Greater ↦ λ h. refl
            ] refl
        | Greater ↦ λ g. rw (at_without_other es k q ascending.1 other)
      ] refl
