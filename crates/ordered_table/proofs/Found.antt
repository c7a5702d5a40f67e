-- What a binary search finds among entries whose keys ascend.
use Rattle.std.proofs.Common.{◌≡◌, ℕ, zero, suc, ◌<◌, ◌≤◌, List, [], ◌∷◌, length, slice_get, ◌-◌, get_or, set, Some, None, Result, Ok, Err, IfOk, IfErr, refl, ap, sym, ◌∙◌, arith}
use Rattle.std.specs.declared.cmp.Ordering.{Ordering}
use Rattle.std.specs.declared.cmp.Ordering.TheVariants.{Less, Equal, Greater}
use Rattle.std.specs.Cmp.{IsTotalOrder}
use Rattle.std.specs.List.{insert, remove}
use Rattle.std.specs.List.Sorted.{IsSearchInRange, IsBinarySearchResult}
use Rattle.std.specs.Ordering.{ordering_index}
use Rattle.std.proofs.lemmas.Cmp.{tied_back}
use Rattle.std.proofs.lemmas.Option.{slice_get_within, slice_get-get_or}
use Rattle.ordered_table.specs.Entries.{at, put, without}
use Rattle.ordered_table.specs.Places.{IsBelowAll, IsAscending, IsFound, IsMissing}
use Rattle.ordered_table.proofs.Orders.{less_back, greater_back, comparison_rises, least_is_less}
use Rattle.ordered_table.proofs.Ascending.{ascending_put, ascending_without}

module _ {K V : Type 0} (cmp : K → K → Ordering) (o : IsTotalOrder cmp) where
  -- a key below all others is below the one at each place
  below_each : (k : K) (es : List (K × V)) → IsBelowAll cmp k es → (j : ℕ) (d : K × V) → j < length es →
      cmp k (get_or es j d).0 ≡ Less
  below_each k [] below j d within = absurd (omega arith)
  below_each k (e ∷ es) below zero d within = below.0
  below_each k (e ∷ es) below (suc j) d within = below_each k es below.1 j d (omega arith)

  -- the comparisons with a key rise along the entries
  comparisons_rise : (es : List (K × V)) (k : K) → IsAscending cmp es → (i j : ℕ) (d : K × V) → i ≤ j → j < length es →
      ordering_index (cmp (get_or es i d).0 k) ≤ ordering_index (cmp (get_or es j d).0 k)
  comparisons_rise [] k ascending i j d le within = absurd (omega arith)
  comparisons_rise (e ∷ es) k ascending zero zero d le within = omega arith
  comparisons_rise (e ∷ es) k ascending zero (suc j) d le within =
      comparison_rises o e.0 _ k (below_each e.0 es ascending.0 j d (omega arith))
  comparisons_rise (e ∷ es) k ascending (suc i) zero d le within = absurd (omega arith)
  comparisons_rise (e ∷ es) k ascending (suc i) (suc j) d le within = comparisons_rise es k ascending.1 i j d (omega arith)
      (omega arith)

  -- the entry at place i has the key
  record IsTiedAt (es : List (K × V)) (k : K) (i : ℕ) : Type 0 where
    within : i < length es
    tied : (d : K × V) → cmp (get_or es i d).0 k ≡ Equal

  -- the entries before place i have smaller keys, and those from it on greater ones
  record IsGap (es : List (K × V)) (k : K) (i : ℕ) : Type 0 where
    within : i ≤ length es
    below : (j : ℕ) (d : K × V) → j < i → cmp (get_or es j d).0 k ≡ Less
    above : (j : ℕ) (d : K × V) → i ≤ j → j < length es → cmp (get_or es j d).0 k ≡ Greater

  tied_tail : (e : K × V) (es : List (K × V)) (k : K) (i : ℕ) → IsTiedAt (e ∷ es) k (suc i) → IsTiedAt es k i
  tied_tail e es k i is = record { within = omega (arith, is.within); tied = is.tied }

  gap_tail : (e : K × V) (es : List (K × V)) (k : K) (i : ℕ) → IsGap (e ∷ es) k (suc i) → IsGap es k i
  gap_tail e es k i is = record {
    within = omega (arith, is.within);
    below = λ j d lt. is.below (suc j) d (omega arith);
    above = λ j d le lt. is.above (suc j) d (omega arith) (omega arith);
  }

  -- a key that comes later is greater than the first
  tied_later : (e : K × V) (es : List (K × V)) (k : K) (i : ℕ) → IsBelowAll cmp e.0 es → IsTiedAt es k i → cmp k e.0 ≡ Greater
  tied_later e es k i below is =
      sym (o.congr _ k e.0 (is.tied e)) ∙ less_back o e.0 _ (below_each e.0 es below i e is.within)

  found_value : (es : List (K × V)) (k : K) (i : ℕ) → IsAscending cmp es → IsTiedAt es k i → (d : K × V) →
      at cmp es k ≡ Some (get_or es i d).1
  found_value [] k i ascending is d = absurd (omega (arith, is.within))
  found_value (e ∷ es) k zero ascending is d = rw (tied_back o e.0 k (is.tied d))
  found_value (e ∷ es) k (suc i) ascending is d =
      let later = tied_tail e es k i is in
      rw (tied_later e es k i ascending.0 later) (found_value es k i ascending.1 later d)

  found_write : (es : List (K × V)) (k : K) (i : ℕ) → IsAscending cmp es → IsTiedAt es k i → (v : V) →
      put cmp es k v ≡ set es i (k, v)
  found_write [] k i ascending is v = absurd (omega (arith, is.within))
  found_write (e ∷ es) k zero ascending is v = rw (tied_back o e.0 k (is.tied e))
  found_write (e ∷ es) k (suc i) ascending is v =
      let later = tied_tail e es k i is in
      rw (tied_later e es k i ascending.0 later) (ap (λ r. e ∷ r) (found_write es k i ascending.1 later v))

  found_rest : (es : List (K × V)) (k : K) (i : ℕ) → IsAscending cmp es → IsTiedAt es k i → without cmp es k ≡ remove es i
  found_rest [] k i ascending is = absurd (omega (arith, is.within))
  found_rest (e ∷ es) k zero ascending is = rw (tied_back o e.0 k (is.tied e))
  found_rest (e ∷ es) k (suc i) ascending is =
      let later = tied_tail e es k i is in
      rw (tied_later e es k i ascending.0 later) (ap (λ r. e ∷ r) (found_rest es k i ascending.1 later))

  missing_value : (es : List (K × V)) (k : K) (i : ℕ) → IsGap es k i → at cmp es k ≡ None
  missing_value [] k i is = refl
  missing_value (e ∷ es) k zero is = rw (greater_back o e.0 k (is.above 0 e (omega arith) (omega arith)))
  missing_value (e ∷ es) k (suc i) is =
      rw (less_back o e.0 k (is.below 0 e (omega arith))) (missing_value es k i (gap_tail e es k i is))

  missing_write : (es : List (K × V)) (k : K) (i : ℕ) → IsGap es k i → (v : V) → put cmp es k v ≡ insert es i (k, v)
  missing_write [] k zero is v = refl
  missing_write [] k (suc i) is v = absurd (omega (arith, is.within))
  missing_write (e ∷ es) k zero is v = rw (greater_back o e.0 k (is.above 0 e (omega arith) (omega arith)))
  missing_write (e ∷ es) k (suc i) is v =
      rw (less_back o e.0 k (is.below 0 e (omega arith))) (ap (λ r. e ∷ r) (missing_write es k i (gap_tail e es k i is) v))

  missing_rest : (es : List (K × V)) (k : K) (i : ℕ) → IsGap es k i → without cmp es k ≡ es
  missing_rest [] k i is = refl
  missing_rest (e ∷ es) k zero is = rw (greater_back o e.0 k (is.above 0 e (omega arith) (omega arith)))
  missing_rest (e ∷ es) k (suc i) is =
      rw (less_back o e.0 k (is.below 0 e (omega arith))) (ap (λ r. e ∷ r) (missing_rest es k i (gap_tail e es k i is)))

  found : (es : List (K × V)) (k : K) (i : ℕ) → IsAscending cmp es → IsTiedAt es k i → IsFound cmp es k i
  found es k i ascending is = record {
    within = is.within;
    value = found_value es k i ascending is;
    write = found_write es k i ascending is;
    rest = found_rest es k i ascending is;
    write_ascends = λ v. rw (sym (found_write es k i ascending is v)) (ascending_put cmp o es k v ascending);
    rest_ascends = rw (sym (found_rest es k i ascending is)) (ascending_without cmp o es k ascending);
  }

  missing : (es : List (K × V)) (k : K) (i : ℕ) → IsAscending cmp es → IsGap es k i → IsMissing cmp es k i
  missing es k i ascending is = record {
    within = is.within;
    value = missing_value es k i is;
    write = missing_write es k i is;
    rest = missing_rest es k i is;
    write_ascends = λ v. rw (sym (missing_write es k i is v)) (ascending_put cmp o es k v ascending);
  }

  -- a key above the last one belongs at the end
  pub above_last : (es : List (K × V)) (k : K) (x : K × V) → IsAscending cmp es → slice_get es (length es - 1) ≡ Some x →
      cmp x.0 k ≡ Less → IsMissing cmp es k (length es)
  above_last es k x ascending last less =
      let within = slice_get_within es (length es - 1) x last in
      let read : (d : K × V) → get_or es (length es - 1) d ≡ x = λ d. let e = slice_get-get_or es (length es - 1) d within in
      cc in
      missing es k (length es) ascending (record {
        within = omega arith;
        below = λ j d lt. least_is_less _ (
            let rise = comparisons_rise es k ascending j (length es - 1) d (omega arith) within in
            let least : ordering_index (cmp (get_or es (length es - 1) d).0 k) ≡ 0 = rw (read d, less) in
            omega arith);
        above = λ j d le lt. absurd (omega arith);
      })

  -- a binary search ends at the key, or where it belongs
  pub searched : (es : List (K × V)) (k : K) → IsAscending cmp es → (r : Result ℕ ℕ) → IsSearchInRange r (length es) →
      IsBinarySearchResult (λ e. cmp e.0 k) es r →
      record { found : IfOk r (IsFound cmp es k); missing : IfErr r (IsMissing cmp es k) }
  searched es k ascending (Ok i) within tied = record {
    found = found es k i ascending (record { within = within; tied = tied });
    missing = tt;
  }
  searched es k ascending (Err i) within parted =
      let gap = parted (comparisons_rise es k ascending) in record {
        found = tt;
        missing = missing es k i ascending (record {
          within = within;
          below = λ j d lt. gap.0 j d (omega arith) lt;
          above = λ j d le lt. gap.1 j d le lt;
        });
      }
