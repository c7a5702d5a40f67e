-- A next map has live owners, where no member is lost and each partition of its base has an owner among them.
use Rattle.std.proofs.Common.{◌≡◌, ◌+◌, ◌||◌, ℕ, List, [], ◌∷◌, Bool, true, false, if◌then◌else◌, refl, ap, sym, subst, ◌∙◌}
use Rattle.std.specs.List.{list_all, list_any}
use Rattle.std.specs.Prelude.{drop, filter, not}
use Rattle.std.proofs.lemmas.List.Folds.{list_any-append}
use Rattle.ignite_types.specs.declared.message.Single.{Single}
use Rattle.ignite_types.specs.declared.names.NodeId.{NodeId}
use Rattle.ignite_types.specs.declared.names.TopVer.{TopVer}
use Rattle.ignite_types.specs.declared.placement.Row.{Row}
use Rattle.ignite_types.specs.declared.scenario.Member.{Member}
use Rattle.journal_statements.specs.MapLaws.{has_live_owner}
use Rattle.journal_statements.specs.Maps.{has_owner}
use Rattle.journal_statements.specs.Noted.{Noted, is_lost}
use Rattle.link_laws.proofs.Journals.{first_rest}
use Rattle.part_model.specs.NextMap.{first_row, is_filled, is_member, map_holders, next_row, next_rows, nodes_missing, row_of_missing, running_row}
use Rattle.placement_laws.proofs.Rows.{both_pass}
use Rattle.placement_laws.specs.PlacementLaws.{holds_only}
use Rattle.survivor_laws.specs.SurvivorFacts.{keeps_one}
use Rattle.topology_laws.proofs.Records.{or_first, or_second}

-- one that passes the filter too
pub any_kept : {A : Type 0} (p picks : A → Bool) (xs : List A) → ((x : A) → p x ≡ true → picks x ≡ true) →
    list_any p xs ≡ true → list_any p (filter picks xs) ≡ true
any_kept p picks [] gives some = absurd (cc (some))
any_kept p picks (x ∷ xs) gives some = by (λ rest. any_kept p picks xs gives rest) (p x) refl (picks x) refl some
  where
    by : (list_any p xs ≡ true → list_any p (filter picks xs) ≡ true) → (c : Bool) → p x ≡ c → (d : Bool) → picks x ≡ d →
        (c || list_any p xs) ≡ true → list_any p (if d then x ∷ filter picks xs else filter picks xs) ≡ true
    by later true is true picked here = or_first (p x) (list_any p (filter picks xs)) is
    by later true is false other here = let also = gives x is in absurd (cc (also, other))
    by later false is true picked rest = or_second (p x) (list_any p (filter picks xs)) (later rest)
    by later false is false other rest = later rest

pub any_change : {A : Type 0} (p q : A → Bool) (xs : List A) → ((x : A) → p x ≡ true → q x ≡ true) → list_any p xs ≡ true →
    list_any q xs ≡ true
any_change p q [] gives some = absurd (cc (some))
any_change p q (x ∷ xs) gives some = by (λ rest. any_change p q xs gives rest) (p x) refl some
  where
    by : (list_any p xs ≡ true → list_any q xs ≡ true) → (c : Bool) → p x ≡ c → (c || list_any p xs) ≡ true →
        list_any q (x ∷ xs) ≡ true
    by later true is here = or_first (q x) (list_any q xs) (gives x is)
    by later false is rest = or_second (q x) (list_any q xs) (later rest)

module _ (recs : List Noted) (members : List Member) (all_live : (x : NodeId) → is_member members x ≡ true →
    is_lost recs x ≡ false) where
  abbrev is_live : NodeId → Bool
  is_live id = not (is_lost recs id)

  live_member : (x : NodeId) → is_member members x ≡ true → is_live x ≡ true
  live_member x is = ap not (all_live x is)

  -- the wanted nodes are members
  wanted_live : (w : NodeId) (ws : List NodeId) → list_all (is_member members) (w ∷ ws) ≡ true →
      has_live_owner recs (record { owners = w ∷ ws; movers = [] }) ≡ true
  wanted_live w ws all =
      let both = first_rest (is_member members w) (list_all (is_member members) ws) all in
      or_first (is_live w) (list_any is_live ws) (live_member w both.0)

  or_live : (row : Row) → list_any is_live row.owners ≡ true → has_live_owner recs row ≡ true
  or_live row some = or_second (not (has_owner row)) (list_any is_live row.owners) some

  next_row_live : (singles : List Single) (version : TopVer) (part : ℕ) (wanted : List NodeId) (row : Row) →
      list_all (is_member members) wanted ≡ true → keeps_one members row ≡ true →
      has_live_owner recs (next_row members singles version part wanted row) ≡ true
  next_row_live singles version part [] row all keeps = refl
  next_row_live singles version part (w ∷ ws) row all keeps = by row.owners refl
    where
      missing : (holders xs : List NodeId) → list_any is_live holders ≡ true →
          has_live_owner recs (row_of_missing (w ∷ ws) holders xs) ≡ true
      missing holders [] some = wanted_live w ws all
      missing holders (x ∷ xs) some = or_live (record { owners = holders; movers = x ∷ xs }) some

      by : (os : List NodeId) → row.owners ≡ os →
          has_live_owner recs (running_row members singles version part (w ∷ ws) row os) ≡ true
      by [] none = wanted_live w ws all
      by (o ∷ os) some =
          let holders = map_holders members singles version part row in
          let one : list_any (is_member members) (o ∷ os) ≡ true =
          subst (λ (xs : List NodeId). keeps_one members (record row { owners = xs }) ≡ true) some keeps in
          let kept : list_any is_live (filter (is_member members) row.owners) ≡ true =
          subst (λ (xs : List NodeId). list_any is_live (filter (is_member members) xs) ≡ true) (sym some)
          (any_change (is_member members) is_live (filter (is_member members) (o ∷ os)) live_member
          (any_kept (is_member members) (is_member members) (o ∷ os) (λ x is. is) one)) in
          missing holders (nodes_missing (w ∷ ws) holders)
          (list_any-append is_live (filter (is_member members) row.owners)
          (filter (is_filled members singles version part) row.movers)
          ∙ or_first (list_any is_live (filter (is_member members) row.owners))
          (list_any is_live (filter (is_filled members singles version part) row.movers)) kept)

  -- a row of the base that is not there has no owners
  first_keeps : (rows : List Row) → list_all (keeps_one members) rows ≡ true → keeps_one members (first_row rows) ≡ true
  first_keeps [] all = refl
  first_keeps (r ∷ rs) all = (first_rest (keeps_one members r) (list_all (keeps_one members) rs) all).0

  rest_keeps : (rows : List Row) → list_all (keeps_one members) rows ≡ true → list_all (keeps_one members) (drop 1 rows) ≡ true
  rest_keeps [] all = refl
  rest_keeps (r ∷ rs) all = (first_rest (keeps_one members r) (list_all (keeps_one members) rs) all).1

  pub next_live : (singles : List Single) (version : TopVer) (part : ℕ) (ideals rows : List Row) →
      list_all (holds_only (is_member members)) ideals ≡ true → list_all (keeps_one members) rows ≡ true
      → list_all (has_live_owner recs) (next_rows members singles version part ideals rows) ≡ true
  next_live singles version part [] rows ideal keeps = refl
  next_live singles version part (x ∷ xs) rows ideal keeps =
      let both = first_rest (holds_only (is_member members) x) (list_all (holds_only (is_member members)) xs) ideal in
      let wanted = first_rest (list_all (is_member members) x.owners) (list_all (is_member members) x.movers) both.0 in
      both_pass (has_live_owner recs (next_row members singles version part x.owners (first_row rows)))
      (list_all (has_live_owner recs) (next_rows members singles version (part + 1) xs (drop 1 rows)))
      (next_row_live singles version part x.owners (first_row rows) wanted.0 (first_keeps rows keeps))
      (next_live singles version (part + 1) xs (drop 1 rows) both.1 (rest_keeps rows keeps))
