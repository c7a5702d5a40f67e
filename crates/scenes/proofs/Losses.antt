-- What a loss that is not refused tells of the world: the highest map that survives, and its owners.
use Rattle.std.proofs.Common.{◌≡◌, ◌≤◌, ◌<◌, ◌⊎◌, inl, inr, ◌&&◌, ◌||◌, ◌==◌, List, [], ◌∷◌, Option, Some, None, Bool, true, false, if◌then◌else◌, not, ℕ, zero, suc, refl, ap, sym, subst, ◌∙◌, arith}
use Rattle.std.specs.List.{list_all}
use Rattle.std.specs.Option.{option_map}
use Rattle.std.specs.Prelude.{nat_lt, slice_get}
use Rattle.std.proofs.lemmas.Bool.Decides.{nat_tests}
use Rattle.ignite_types.proofs.NameLaws.{same_node_itself}
use Rattle.ignite_types.specs.Names.{same_node}
use Rattle.ignite_types.specs.Placement.{capped}
use Rattle.ignite_types.specs.declared.names.NodeId.{NodeId}
use Rattle.ignite_types.specs.declared.names.TopVer.{TopVer}
use Rattle.ignite_types.specs.declared.placement.PartMap.{PartMap}
use Rattle.ignite_types.specs.declared.placement.Row.{Row}
use Rattle.ignite_types.specs.declared.scenario.Member.{Member}
use Rattle.ignite_types.specs.declared.scenario.Scenario.{Scenario}
use Rattle.journal_statements.specs.Noted.{Noted}
use Rattle.link_laws.specs.Carrying.{NodesApart}
use Rattle.link_laws.proofs.Journals.{first_rest}
use Rattle.node_state.specs.Node.{NodeState}
use Rattle.part_model.specs.Directory.{first_bare, leaves_partition, refusal_of_loss, survives}
use Rattle.part_model.specs.NextMap.{is_higher, is_member, newer_map}
use Rattle.scenes.specs.Events.{MayBeLost}
use Rattle.scenes.specs.Scenes.{Scene, is_survivor, part_or_absent, scene_of, state_at_rest}
use Rattle.scenes.proofs.Parts.{part_me}
use Rattle.scenes.proofs.Sounds.{turned}
use Rattle.scenes.proofs.Worlds.{life_here, state_here}
use Rattle.tx_model.specs.World.{Part, World, best_map_from, best_map_without, is_alive, outlives, part_at, part_on, place_of}
use Rattle.ignite_types.specs.declared.journal.NoLoss.TheVariants as refusal
use Rattle.node_state.specs.declared.life.Life.TheVariants as life

-- Versions in their order.

abbrev Reaches : TopVer → TopVer → Type 0
Reaches a b = (a.major < b.major) ⊎ ((a.major ≡ b.major) × (a.minor ≤ b.minor))

reaches : (a b : TopVer) → is_higher a b ≡ false → Reaches a b
reaches a b low =
    (elim (nat_lt b.major a.major) as (λ r. nat_lt b.major a.major ≡ r →
    (r || ((a.major == b.major) && nat_lt b.minor a.minor)) ≡ false → Reaches a b) [
      | true ↦ λ t e. absurd (cc (e))
      | false ↦ λ f e.
          (elim (a.major == b.major) as (λ r. (a.major == b.major) ≡ r → (r && nat_lt b.minor a.minor) ≡ false → Reaches a b) [
            | true ↦ λ t2 e2. inr (grind (arith, nat_tests, t2), grind (arith, nat_tests, e2))
            | false ↦ λ f2 e2. inl (grind (arith, nat_tests, f, f2))
          ]) refl e
    ]) refl low

not_higher : (a b : TopVer) → Reaches a b → is_higher a b ≡ false
not_higher a b (inl less) = grind (arith, nat_tests, less)
not_higher a b (inr up) = grind (arith, nat_tests, up.0, up.1)

reaches_on : (a b c : TopVer) → Reaches a b → Reaches b c → Reaches a c
reaches_on a b c (inl x) (inl y) = inl (omega (arith, x, y))
reaches_on a b c (inl x) (inr y) = inl (let same = y.0 in omega (arith, x, same))
reaches_on a b c (inr x) (inl y) = inl (let same = x.0 in omega (arith, same, y))
reaches_on a b c (inr x) (inr y) = let p = x.0 in let q = y.0 in let r = x.1 in let t = y.1 in inr (p ∙ q, omega (arith, r, t))

higher_reaches : (a b : TopVer) → is_higher a b ≡ true → Reaches b a
higher_reaches a b high =
    (elim (nat_lt b.major a.major) as (λ r. nat_lt b.major a.major ≡ r →
    (r || ((a.major == b.major) && nat_lt b.minor a.minor)) ≡ true → Reaches b a) [
      | true ↦ λ t e. inl (grind (arith, nat_tests, t))
      | false ↦ λ f e.
          let both = first_rest (a.major == b.major) (nat_lt b.minor a.minor) e in
          inr (grind (arith, nat_tests, both.0), grind (arith, nat_tests, both.1))
    ]) refl high

itself : (a : TopVer) → Reaches a a
itself a = inr (refl, omega arith)

-- The highest map.

abbrev UpTo : Option PartMap → Option PartMap → Type 0
UpTo None other = Unit {0}
UpTo (Some m) None = ⊥
UpTo (Some m) (Some best) = Reaches m.top best.top

up_on : (a b c : Option PartMap) → UpTo a b → UpTo b c → UpTo a c
up_on None b c x y = tt
up_on (Some a) None c x y = absurd x
up_on (Some a) (Some b) None x y = absurd y
up_on (Some a) (Some b) (Some c) x y = reaches_on a.top b.top c.top x y

up_itself : (a : Option PartMap) → UpTo a a
up_itself None = tt
up_itself (Some a) = itself a.top

newer_up : (best next : Option PartMap) → UpTo best (newer_map best next) × UpTo next (newer_map best next)
newer_up None next = (tt, up_itself next)
newer_up (Some best) None = (itself best.top, tt)
newer_up (Some best) (Some next) =
    elim (is_higher next.top best.top) as (λ b. is_higher next.top best.top ≡ b →
    UpTo (Some best) (if b then Some next else Some best) × UpTo (Some next) (if b then Some next else Some best)) [
      | true ↦ λ t. (higher_reaches next.top best.top t, itself next.top)
      | false ↦ λ f. (itself best.top, reaches next.top best.top f)
    ] refl

-- the map that is newer is one of the two
pub newer_is : (best next : Option PartMap) (m : PartMap) → newer_map best next ≡ Some m → (best ≡ Some m) ⊎ (next ≡ Some m)
newer_is None next m is = inr is
newer_is (Some best) None m is = inl is
newer_is (Some best) (Some next) m is =
    (elim (is_higher next.top best.top) as (λ b. (if b then Some next else Some best) ≡ Some m → (Some best ≡ Some m)
    ⊎ (Some next ≡ Some m)) [
      | true ↦ λ e. inr e
      | false ↦ λ e. inl e
    ]) is

abbrev no_best : Option PartMap
no_best = None

abbrev taken : NodeId → Option PartMap → Part → Option PartMap
taken id best p = if outlives id p then newer_map best p.node.installed else best

taken_up : (id : NodeId) (best : Option PartMap) (p : Part) → UpTo best (taken id best p)
taken_up id best p = by (outlives id p)
  where
    by : (c : Bool) → UpTo best (if c then newer_map best p.node.installed else best)
    by true = (newer_up best p.node.installed).0
    by false = up_itself best

best_up : (id : NodeId) (best : Option PartMap) (ps : List Part) → UpTo best (best_map_from id best ps)
best_up id best [] = up_itself best
best_up id best (p ∷ ps) = up_on best (taken id best p) (best_map_from id (taken id best p) ps) (taken_up id best p)
    (best_up id (taken id best p) ps)

-- no survivor has a higher one
best_each : (id : NodeId) (best : Option PartMap) (ps : List Part) (k : ℕ) (q : Part) → slice_get ps k ≡ Some q →
    outlives id q ≡ true → UpTo q.node.installed (best_map_from id best ps)
best_each id best [] k q there out = absurd (cc (there))
best_each id best (p ∷ ps) zero q there out =
    let same : p ≡ q = cc (there) in
    let lives : outlives id p ≡ true = ap (outlives id) same ∙ out in
    let here : UpTo p.node.installed (taken id best p) = rw lives ((newer_up best p.node.installed).1) in
    subst (λ (x : Part). UpTo x.node.installed (best_map_from id (taken id best p) ps)) same
    (up_on p.node.installed (taken id best p) (best_map_from id (taken id best p) ps) here (best_up id (taken id best p) ps))
best_each id best (p ∷ ps) (suc k) q there out = best_each id (taken id best p) ps k q there out

-- it is installed at one
pub record Survivor (id : NodeId) (ps : List Part) (m : PartMap) : Type 0 where
  pub place : ℕ
  pub part : Part
  pub stands : slice_get ps place ≡ Some part
  pub lives_on : outlives id part ≡ true
  pub has_it : part.node.installed ≡ Some m

best_there : (id : NodeId) (best : Option PartMap) (ps : List Part) (m : PartMap) → best_map_from id best ps ≡ Some m →
    (best ≡ Some m) ⊎ Survivor id ps m
best_there id best [] m is = inl is
best_there id best (p ∷ ps) m is = by_rest (best_there id (taken id best p) ps m is)
  where
    here : (c : Bool) → outlives id p ≡ c → (if c then newer_map best p.node.installed else best) ≡ Some m → (best ≡ Some m)
        ⊎ Survivor id (p ∷ ps) m
    here true lives found = by_newer (newer_is best p.node.installed m found)
      where
        by_newer : (best ≡ Some m) ⊎ (p.node.installed ≡ Some m) → (best ≡ Some m) ⊎ Survivor id (p ∷ ps) m
        by_newer (inl before) = inl before
        by_newer (inr now) = inr (record { place = zero; part = p; stands = refl; lives_on = lives; has_it = now })
    here false gone found = inl found

    by_rest : (taken id best p ≡ Some m) ⊎ Survivor id ps m → (best ≡ Some m) ⊎ Survivor id (p ∷ ps) m
    by_rest (inl first) = here (outlives id p) refl first
    by_rest (inr x) = inr (record {
      place = suc x.place;
      part = x.part;
      stands = x.stands;
      lives_on = x.lives_on;
      has_it =
          x.has_it;
    })

-- A loss that leaves no partition bare.

none_bare : (members : List Member) (id : NodeId) (part : ℕ) (rows : List Row) → first_bare members id part rows ≡ None →
    list_all (survives members id) rows ≡ true
none_bare members id part [] none = refl
none_bare members id part (row ∷ rows) none =
    (elim (survives members id row) as (λ b. (if b then first_bare members id (capped part 1) rows else Some part) ≡ None →
    (b && list_all (survives members id) rows) ≡ true) [
      | true ↦ λ e. none_bare members id (capped part 1) rows e
      | false ↦ λ e. absurd (cc (e))
    ]) none

unmapped : (o : Option ℕ) → option_map refusal.LeavesPartition o ≡ None → o ≡ None
unmapped None is = refl
unmapped (Some n) is = absurd (cc (is))

module _ (s : Scenario) (recs : List Noted) (w : World) (id : NodeId) (apart : NodesApart w.parts)
    (alive : (scene_of s recs w).life id ≡ life.Alive) (unrefused : refusal_of_loss w.directory id (best_map_without w id)
    ≡ None) where
  abbrev sc : Scene
  sc = scene_of s recs w

  not_left : leaves_partition w.directory.members id (best_map_without w id) ≡ None
  not_left = by (is_member w.directory.members id) unrefused
    where
      by : (c : Bool) → (if c then leaves_partition w.directory.members id (best_map_without w id) else Some refusal.NotIn)
          ≡ None → leaves_partition w.directory.members id (best_map_without w id) ≡ None
      by true none = none
      by false none = absurd (cc (none))

  has_some : (m : PartMap) × (best_map_without w id ≡ Some m) × (list_all (survives w.directory.members id) m.rows ≡ true)
  has_some = by (best_map_without w id) refl not_left
    where
      by : (o : Option PartMap) → best_map_without w id ≡ o → leaves_partition w.directory.members id o ≡ None → (m : PartMap)
          × (best_map_without w id ≡ Some m) × (list_all (survives w.directory.members id) m.rows ≡ true)
      by None is none = absurd (cc (none))
      by (Some m) is none = (
        m,
        is,
        none_bare w.directory.members id 0 m.rows (unmapped (first_bare w.directory.members id 0 m.rows) none),
      )

  survivor_is : (p : Part) → is_survivor id p.node.me p.life ≡ outlives id p
  survivor_is p = by (is_alive p.life) (same_node id p.node.me) (same_node p.node.me id) (turned id p.node.me)
    where
      by : (a b c : Bool) → b ≡ c → (if b then false else a) ≡ (if a then not c else false)
      by true true c same = ap not same
      by true false c same = ap not same
      by false true c same = refl
      by false false c same = refl

  -- a part that survives, where a survivor stands
  stands_at : (x : NodeId) → is_survivor id x (sc.life x) ≡ true → (k : ℕ) × (p : Part) × (slice_get w.parts k ≡ Some p)
      × (outlives id p ≡ true) × ((sc.state x).installed ≡ p.node.installed)
  stands_at x lives = by (place_of w x) refl
    where
      at : (r : Option ℕ) → place_of w x ≡ r → (q : Option Part) → part_on w r ≡ q →
          is_survivor id x (part_or_absent s x q).life ≡ true → (k : ℕ) × (p : Part) × (slice_get w.parts k ≡ Some p)
          × (outlives id p ≡ true) × ((state_at_rest (part_or_absent s x q).node).installed ≡ p.node.installed)
      at r place None is on = absurd (no_one (same_node id x) on)
        where
          no_one : (c : Bool) → (if c then false else false) ≡ true → ⊥
          no_one true e = absurd (cc (e))
          no_one false e = absurd (cc (e))
      at None place (Some p) is on = absurd (cc (is))
      at (Some k) place (Some p) is on =
          let me : p.node.me ≡ x = part_me w x p (ap (part_on w) place ∙ is) in
          (k, p, is, sym (survivor_is p) ∙ ap (λ (n : NodeId). is_survivor id n p.life) me ∙ on, refl)

      by : (r : Option ℕ) → place_of w x ≡ r → (k : ℕ) × (p : Part) × (slice_get w.parts k ≡ Some p) × (outlives id p ≡ true)
          × ((sc.state x).installed ≡ p.node.installed)
      by r place =
          let here : part_at w x ≡ part_on w r = ap (part_on w) place in
          let found = at r place (part_on w r) refl (ap (λ (q : Option Part). is_survivor id x (part_or_absent s x q).life)
          (sym here) ∙ lives) in (
            found.0,
            found.1,
            found.2,
            found.3,
            ap (λ (q : Option Part). (state_at_rest (part_or_absent s x q).node).installed)
                here ∙ found.4,
          )

  highest : (best : PartMap) → best_map_without w id ≡ Some best → (x : NodeId) (m : PartMap) →
      is_survivor id x (sc.life x) ≡ true → (sc.state x).installed ≡ Some m → is_higher m.top best.top ≡ false
  highest best is x m lives has =
      let p = stands_at x lives in
      let up : UpTo p.1.node.installed (best_map_without w id) = best_each id None w.parts p.0 p.1 p.2 p.3 in
      not_higher m.top best.top (subst (λ (o : Option PartMap). UpTo (Some m) o) is
      (subst (λ (o : Option PartMap). UpTo o (best_map_without w id)) (sym p.4 ∙ has) up))

  pub may_be_lost : MayBeLost sc id
  may_be_lost = by has_some
    where
      with_best : (m : PartMap) → best_map_without w id ≡ Some m → list_all (survives w.directory.members id) m.rows ≡ true →
          (no_best ≡ Some m) ⊎ Survivor id w.parts m → MayBeLost sc id
      with_best m is owned (inl none) = absurd (cc (none))
      with_best m is owned (inr x) =
          let same = same_node_itself x.part.node.me in
          record {
            alive = alive;
            best = m;
            at = x.part.node.me;
            at_survives = ap (is_survivor id x.part.node.me)
                (life_here s recs w x.place x.part apart x.stands x.part.node.me same) ∙ survivor_is x.part ∙ x.lives_on;
            has_best = ap (λ (st : NodeState). st.installed)
                (state_here s recs w x.place x.part apart x.stands x.part.node.me same) ∙ x.has_it;
            none_higher = highest m is;
            keeps_owners = owned;
          }

      by : (m : PartMap) × (best_map_without w id ≡ Some m) × (list_all (survives w.directory.members id) m.rows ≡ true) →
          MayBeLost sc id
      by x = with_best x.0 x.1 x.2 (best_there id no_best w.parts x.0 x.1)
