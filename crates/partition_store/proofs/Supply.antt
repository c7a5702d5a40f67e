-- Supplied entries that are taken one after another.
use Rattle.std.proofs.Common.{◌≡◌, ℕ, Bool, true, false, zero, suc, ◌<◌, ◌+◌, List, [], ◌∷◌, length, take, get_or, Some, ◌∙◌, arith, add-one}
use Rattle.part_model.specs.Copies.{Copy, copy_after_supply, copy_after_write, with_kept, with_supplied_over}
use Rattle.part_model.specs.Orders.{is_lower}
use Rattle.part_model.specs.declared.copies.Entry.{Entry}
use Rattle.ignite_types.specs.Names.{key_cmp}
use Rattle.ignite_types.specs.declared.message.Stored.{Stored}
use Rattle.ordered_table.specs.Entries.{at, put}

supplied_one : (copy : Copy) (entries : List Stored) (i : ℕ) (entry : Stored) → i < length entries →
    entry ≡ get_or entries i entry
    → with_supplied_over (copy_after_supply copy (take i entries)) entry
    (at key_cmp (copy_after_supply copy (take i entries)) entry.key) ≡ copy_after_supply copy (take (suc i) entries)
supplied_one copy [] i entry within here = absurd (omega arith)
supplied_one copy (e ∷ es) zero entry within here = rw here
supplied_one copy (e ∷ es) (suc i) entry within here =
    supplied_one (with_supplied_over copy e (at key_cmp copy e.key)) es i entry (omega arith) here

-- one more of them
pub supplied_more : (copy new : Copy) (entries : List Stored) (i : ℕ) (entry : Stored) → i < length entries →
    entry ≡ get_or entries i entry
    → new ≡ with_supplied_over (copy_after_supply copy (take i entries)) entry
    (at key_cmp (copy_after_supply copy (take i entries)) entry.key) → new ≡ copy_after_supply copy (take (i + 1) entries)
supplied_more copy new entries i entry within here is = rw add-one (is ∙ supplied_one copy entries i entry within here)

module _ (copy : Copy) (write : Stored) (there : Entry) (found : Some there ≡ at key_cmp copy write.key) where
  -- what is there is newer than a write
  pub newer_stays : (filling : Bool) → is_lower write.ver there.ver ≡ true → copy_after_write copy write filling ≡ copy
  newer_stays filling lower = rw (← found, lower)

  -- or it is not
  pub older_goes : (filling : Bool) → is_lower write.ver there.ver ≡ false →
      copy_after_write copy write filling ≡ with_kept copy write filling write.value
  older_goes filling lower = rw (← found, lower)

  pub supplied_newer : is_lower there.ver write.ver ≡ true → with_supplied_over copy write (at key_cmp copy write.key)
      ≡ put key_cmp copy write.key (record { value = write.value; ver = write.ver })
  supplied_newer lower = rw (← found, lower)

  pub supplied_older : is_lower there.ver write.ver ≡ false → with_supplied_over copy write (at key_cmp copy write.key) ≡ copy
  supplied_older lower = rw (← found, lower)
