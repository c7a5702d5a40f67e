-- Where one stands in a queue as others come and go, under any test for the same one.
use Rattle.std.proofs.Common.{Bool, List, None, Option, Some, [], ap, cond, false, filter, is_some, not, refl, slice_get, subst, sym, true, ◌++◌, ◌||◌, ◌∙◌, ◌∷◌, ◌≡◌, ◌≢◌, ◌⊎◌, inl, inr}
use Rattle.std.proofs.Math.Bool.{or-true}
use Rattle.std.specs.List.{list_any}

-- the test tells whether two are the same
pub record Tells {T : Type 0} (same : T → T → Bool) : Type 0 where
  pub itself : (a : T) → same a a ≡ true
  pub apart : (a b : T) → a ≢ b → same a b ≡ false
  pub decide : (a b : T) → (a ≡ b) ⊎ (a ≢ b)

module _ {T : Type 0} {same : T → T → Bool} (tells : Tells same) where
  abbrev pub among : T → List T → Bool
  among t q = list_any (λ (u : T). same t u) q

  abbrev pub left : T → List T → List T
  left t q = filter (λ (u : T). not (same u t)) q

  abbrev pub place : List T → T → Option Bool
  place [] t = None
  place (owner ∷ waiters) t = cond (among t waiters) (Some true) (cond (same t owner) (Some false) None)

  pub left_same : (t : T) (q : List T) → left t (t ∷ q) ≡ left t q
  left_same t q = rw (tells.itself t)

  left_other : (t v : T) (q : List T) → v ≢ t → left t (v ∷ q) ≡ v ∷ left t q
  left_other t v q other = rw (tells.apart v t other)

  -- one who left is not among the others
  pub gone : (t : T) (q : List T) → among t (left t q) ≡ false
  gone t [] = refl
  gone t (v ∷ q) =
      elim (tells.decide v t) [
        | inl is ↦ subst (λ (x : T). among t (left t (x ∷ q)) ≡ false) (sym is) (ap (among t) (left_same t q) ∙ gone t q)
        | inr other ↦ ap (among t) (left_other t v q other)
            ∙ ap (λ b. b || among t (left t q)) (tells.apart t v (λ h. other (sym h))) ∙ gone t q
      ]

  -- and the others stay
  pub others_stay : (t u : T) (q : List T) → u ≢ t → among u (left t q) ≡ among u q
  others_stay t u [] other = refl
  others_stay t u (v ∷ q) other =
      elim (tells.decide v t) [
        | inl is ↦ subst (λ (x : T). among u (left t (x ∷ q)) ≡ among u (x ∷ q)) (sym is) (ap (among u) (left_same t q)
            ∙ others_stay t u q other ∙ ap (λ b. b || among u q) (sym (tells.apart u t other)))
        | inr apart_v ↦ ap (among u) (left_other t v q apart_v) ∙ ap (λ b. same u v || b) (others_stay t u q other)
      ]

  owner_placed : (a : Bool) → is_some (cond a (Some false) None) ≡ (a || false)
  owner_placed true = refl
  owner_placed false = refl

  pub is_placed : (q : List T) (t : T) → is_some (place q t) ≡ among t q
  is_placed [] t = refl
  is_placed (o ∷ ws) t =
      elim (among t ws) as (λ b. is_some (cond b (Some true) (cond (same t o) (Some false) None)) ≡ (same t o || b)) [
        | true ↦ sym (or-true (same t o))
        | false ↦ owner_placed (same t o)
      ]

  none_from : {X : Type 0} (found : Option X) → is_some found ≡ false → found ≡ None
  none_from None h = refl
  none_from (Some x) h = absurd (cc)

  pub not_placed : (q : List T) (t : T) → among t q ≡ false → place q t ≡ None
  not_placed q t none = none_from (place q t) (is_placed q t ∙ none)

  among_pushed : (q : List T) (t : T) → among t (q ++ t ∷ []) ≡ true
  among_pushed [] t = rw (tells.itself t)
  among_pushed (v ∷ q) t = ap (λ b. same t v || b) (among_pushed q t) ∙ or-true (same t v)

  among_pushed_other : (q : List T) (t u : T) → u ≢ t → among u (q ++ t ∷ []) ≡ among u q
  among_pushed_other [] t u other = rw (tells.apart u t other)
  among_pushed_other (v ∷ q) t u other = ap (λ b. same u v || b) (among_pushed_other q t u other)

  -- one who comes owns an empty queue, and waits in any other
  pub place_pushed : (q : List T) (t : T) → place (q ++ t ∷ []) t ≡ Some (is_some (slice_get q 0))
  place_pushed [] t = rw (tells.itself t)
  place_pushed (o ∷ ws) t = ap (λ b. cond b (Some true) (cond (same t o) (Some false) None)) (among_pushed ws t)

  pub place_pushed_other : (q : List T) (t u : T) → u ≢ t → place (q ++ t ∷ []) u ≡ place q u
  place_pushed_other [] t u other = rw (tells.apart u t other)
  place_pushed_other (o ∷ ws) t u other = ap (λ b. cond b (Some true) (cond (same u o) (Some false) None))
      (among_pushed_other ws t u other)

  -- where the owner leaves and nobody waits, nobody else has a place
  pub place_none_next : (t u : T) (ws : List T) → left t ws ≡ [] → u ≢ t → None ≡ place (t ∷ ws) u
  place_none_next t u ws none other =
      let behind : among u ws ≡ false = sym (others_stay t u ws other) ∙ ap (among u) none in
      sym (not_placed (t ∷ ws) u (ap (λ b. b || among u ws) (tells.apart u t other) ∙ behind))

  -- and where somebody waits, the others keep their places
  pub place_next : (t u w : T) (ws rest : List T) → left t ws ≡ w ∷ rest → u ≢ t → u ≢ w → place (w ∷ rest) u ≡ place (t ∷ ws) u
  place_next t u w ws rest is other apart_w =
      let behind : among u ws ≡ among u rest = sym (others_stay t u ws other) ∙ ap (among u) is
      ∙ ap (λ b. b || among u rest) (tells.apart u w apart_w) in
      rw (tells.apart u w apart_w, tells.apart u t other, behind)

  -- who owns the key next is another, and has waited
  pub next_other : (t w : T) (ws rest : List T) → left t ws ≡ w ∷ rest → w ≢ t
  next_other t w ws rest is same_w =
      let none : among w (w ∷ rest) ≡ false = ap (among w) (sym is) ∙ subst (λ (x : T). among x (left t ws) ≡ false)
      (sym same_w) (gone t ws) in
      let there : among w (w ∷ rest) ≡ true = ap (λ b. b || among w rest) (tells.itself w) in
      absurd (cc)

  pub next_waited : (t w : T) (ws rest : List T) → left t ws ≡ w ∷ rest → among w (t ∷ ws) ≡ true
  next_waited t w ws rest is =
      let there : among w (w ∷ rest) ≡ true = ap (λ b. b || among w rest) (tells.itself w) in
      let behind : among w ws ≡ true = sym (others_stay t w ws (next_other t w ws rest is)) ∙ ap (among w) is ∙ there in
      ap (λ b. same w t || b) behind ∙ or-true (same w t)

  pub place_dropped : (t u o : T) (ws : List T) → u ≢ t → place (o ∷ left t ws) u ≡ place (o ∷ ws) u
  place_dropped t u o ws other = ap (λ b. cond b (Some true) (cond (same u o) (Some false) None)) (others_stay t u ws other)

  -- where one is not found, nobody leaves
  pub nobody_leaves : (t : T) (q : List T) → among t q ≡ false → left t q ≡ q
  nobody_leaves t [] none = refl
  nobody_leaves t (v ∷ q) none =
      elim (tells.decide v t) [
        | inl is ↦ let here = ap (same t) is ∙ tells.itself t in absurd (let some : (same t v || among t q) ≡ true =
            ap (λ b. b || among t q) here in cc)
        | inr other ↦ left_other t v q other
            ∙ ap (λ r. v ∷ r) (nobody_leaves t q (ap (λ b. b || among t q) (sym (tells.apart t v (λ h. other (sym h)))) ∙ none))
      ]
