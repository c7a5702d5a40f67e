-- The highest map that a survivor of a loss has installed is the highest one that survivors have noted.
use Rattle.std.proofs.Common.{◌≡◌, ◌++◌, ◌&&◌, List, [], ◌∷◌, Option, Some, None, Bool, true, false, if◌then◌else◌, not, ℕ, zero, suc, refl, ap, sym, subst, ◌∙◌}
use Rattle.std.specs.List.{flat_map}
use Rattle.std.specs.Prelude.{filter, option_to_list, slice_get}
use Rattle.std.proofs.lemmas.List.Folds.{list_any-append}
use Rattle.act_rows.specs.NewNodes.{map_if, opening_map_of}
use Rattle.claim_laws.proofs.ClaimLaws.{known_all}
use Rattle.ignite_types.proofs.NameLaws.{same_node_itself, same_top_itself}
use Rattle.ignite_types.specs.Names.{same_node, same_top}
use Rattle.ignite_types.specs.declared.names.NodeId.{NodeId}
use Rattle.ignite_types.specs.declared.names.TopVer.{TopVer}
use Rattle.ignite_types.specs.declared.placement.PartMap.{PartMap}
use Rattle.ignite_types.specs.declared.scenario.Scenario.{Scenario}
use Rattle.journal_statements.specs.Noted.{Noted, is_lost, map_of_version, maps_installed}
use Rattle.journal_statements.specs.Refusals.{best_map, highest, maps_at, survives_loss}
use Rattle.link_laws.proofs.Places.{some_is}
use Rattle.link_laws.specs.Carrying.{LinkInvariant, is_gone}
use Rattle.map_laws.specs.MapFacts.{maps_by}
use Rattle.node_state.specs.Node.{NodeState}
use Rattle.node_state.specs.declared.life.Life.{Life}
use Rattle.part_model.specs.Directory.{first_top}
use Rattle.part_model.specs.NextMap.{is_member, newer_map}
use Rattle.scenes.proofs.Sounds.{alive_is, at_part}
use Rattle.scenes.proofs.Worlds.{life_here, state_here}
use Rattle.scenes.specs.Events.{IsSound}
use Rattle.scenes.specs.Scenes.{Scene, scene_of}
use Rattle.survivor_laws.proofs.OwnersLeft.{HoldsOfSome, IsKnown, each_pair, has_id, has_version, highest_holds, highest_takes, kept_each, kept_has, maps_among}
use Rattle.survivor_laws.specs.SurvivorFacts.{IsNotedAt}
use Rattle.survivor_laws.specs.SurvivorInvariant.{MapsAndSurvivors}
use Rattle.topology_laws.proofs.Lists.{each_both, each_change}
use Rattle.topology_laws.proofs.Records.{or_first, or_second}
use Rattle.topology_laws.proofs.Steps.{alive_fits}
use Rattle.topology_laws.proofs.Tops.{up_both, up_twice}
use Rattle.topology_laws.specs.TopologyFacts.{HasAtLeast, HoldsOfEach, IsUpTo, MapFits}
use Rattle.topology_laws.specs.TopologyScenes.{TopologyPart, topology_scene, topology_state}
use Rattle.tx_model.specs.Opening.{declared_nodes, ids_of}
use Rattle.tx_model.specs.World.{Part, World, best_map_from, best_map_without, is_alive, outlives}
use Rattle.node_state.specs.declared.life.Life.TheVariants as life

-- Two lists of known maps with the same highest one.

-- each map of the first list has its version in the second; no map of the second is above the highest one of the first
same_highest : (s : Scenario) (recs : List Noted) (xs ys : List PartMap) →
    HoldsOfEach (λ (m : PartMap). IsKnown s recs m × (has_version m.top ys ≡ true)) xs →
    HoldsOfEach (λ (m : PartMap). IsKnown s recs m × HasAtLeast m.top (highest None xs)) ys → highest None xs ≡ highest None ys
same_highest s recs xs ys first second =
    by (highest None xs) (highest None ys)
    (highest_holds (λ (m : PartMap). IsKnown s recs m × (has_version m.top ys ≡ true)) None xs tt first)
    (highest_holds (λ (m : PartMap). IsKnown s recs m × HasAtLeast m.top (highest None xs)) None ys tt second) refl refl
  where
    by : (a b : Option PartMap) → HoldsOfSome (λ (m : PartMap). IsKnown s recs m × (has_version m.top ys ≡ true)) a →
        HoldsOfSome (λ (m : PartMap). IsKnown s recs m × HasAtLeast m.top (highest None xs)) b → highest None xs ≡ a →
        highest None ys ≡ b → a ≡ b
    by None None one two is_a is_b = refl
    by None (Some y) one two is_a is_b = absurd (subst (HasAtLeast y.top) is_a two.1)
    by (Some x) None one two is_a is_b = absurd (subst (HasAtLeast x.top) is_b (highest_takes None ys x.top one.1))
    by (Some x) (Some y) one two is_a is_b =
        let high : IsUpTo x.top y.top = subst (HasAtLeast x.top) is_b (highest_takes None ys x.top one.1) in
        let low : IsUpTo y.top x.top = subst (HasAtLeast y.top) is_a two.1 in
        let same : y.top ≡ x.top = up_both y.top x.top low high in
        let is : x ≡ y = some_is x y (sym one.0 ∙ sym (ap (map_of_version (maps_installed s recs)) same) ∙ two.0) in
        ap (λ (m : PartMap). Some m) is

-- The maps at the parts that survive.

abbrev maps_of_part : NodeId → Part → List PartMap
maps_of_part id p = if outlives id p then option_to_list p.node.installed else []

abbrev maps_of_parts : NodeId → List Part → List PartMap
maps_of_parts id ps = flat_map (maps_of_part id) ps

best_is : (id : NodeId) (best : Option PartMap) (ps : List Part) → best_map_from id best ps ≡ highest best (maps_of_parts id ps)
best_is id best [] = refl
best_is id best (p ∷ ps) = by (λ b. best_is id b ps) (outlives id p) p.node.installed
  where
    none_newer : (b : Option PartMap) → newer_map b None ≡ b
    none_newer None = refl
    none_newer (Some m) = refl

    by : ((b : Option PartMap) → best_map_from id b ps ≡ highest b (maps_of_parts id ps)) → (c : Bool) (o : Option PartMap) →
        best_map_from id (if c then newer_map best o else best) ps
        ≡ highest best ((if c then option_to_list o else []) ++ maps_of_parts id ps)
    by rest true (Some m) = rest (newer_map best (Some m))
    by rest true None = ap (λ (b : Option PartMap). best_map_from id b ps) (none_newer best) ∙ rest best
    by rest false o = rest best

-- what holds of the map of each part that survives
parts_each : (P : PartMap → Type 0) (id : NodeId) (ps : List Part) →
    ((k : ℕ) (p : Part) (m : PartMap) → slice_get ps k ≡ Some p → outlives id p ≡ true → p.node.installed ≡ Some m → P m) →
    HoldsOfEach P (maps_of_parts id ps)
parts_each P id [] each = tt
parts_each P id (p ∷ ps) each =
    each_both P (maps_of_part id p) (maps_of_parts id ps) (by (outlives id p) refl p.node.installed refl)
    (parts_each P id ps (λ k q m there. each (suc k) q m there))
  where
    by : (c : Bool) → outlives id p ≡ c → (o : Option PartMap) → p.node.installed ≡ o →
        HoldsOfEach P (if c then option_to_list o else [])
    by true out (Some m) is = (each zero p m refl out is, tt)
    by true out None is = tt
    by false out o is = tt

part_has : (id : NodeId) (ps : List Part) (k : ℕ) (p : Part) (m : PartMap) → slice_get ps k ≡ Some p → outlives id p ≡ true →
    p.node.installed ≡ Some m → has_version m.top (maps_of_parts id ps) ≡ true
part_has id [] k p m there out is = absurd (cc (there))
part_has id (q ∷ qs) zero p m there out is =
    let same : q ≡ p = some_is q p there in
    let here : has_version m.top (maps_of_part id q) ≡ true =
    ap (λ (x : Part). has_version m.top (maps_of_part id x)) same
    ∙ ap (λ (c : Bool). has_version m.top (if c then option_to_list p.node.installed else [])) out
    ∙ ap (λ (o : Option PartMap). has_version m.top (option_to_list o)) is ∙ (rw (same_top_itself m.top) refl) in
    list_any-append (λ (x : PartMap). same_top x.top m.top) (maps_of_part id q) (maps_of_parts id qs)
    ∙ or_first (has_version m.top (maps_of_part id q)) (has_version m.top (maps_of_parts id qs)) here
part_has id (q ∷ qs) (suc k) p m there out is =
    list_any-append (λ (x : PartMap). same_top x.top m.top) (maps_of_part id q) (maps_of_parts id qs)
    ∙ or_second (has_version m.top (maps_of_part id q)) (has_version m.top (maps_of_parts id qs))
    (part_has id qs k p m there out is)

-- At a loss.

module _ (s : Scenario) (recs : List Noted) (w : World) (c : LinkInvariant s recs w) (sound : IsSound (scene_of s recs w))
    (i : MapsAndSurvivors (scene_of s recs w)) (declared : (x : NodeId) → is_member w.directory.members x ≡ true →
    is_member (declared_nodes s) x ≡ true) (id : NodeId) where
  abbrev sc : Scene
  sc = scene_of s recs w

  known : HoldsOfEach (IsKnown s recs) (maps_installed s recs)
  known = known_all (topology_scene sc) [] recs (refl, tt) i.maps.topology.fit

  -- a node that survives, by its part
  survives : (x : NodeId) (p : Part) → p.node.me ≡ x → outlives id p ≡ true → is_lost recs x ≡ false →
      survives_loss recs id x ≡ true
  survives x p me out lives =
      by (is_alive p.life) (same_node p.node.me id) (same_node x id) (ap (λ (n : NodeId). same_node n id) me) out
    where
      by : (a b d : Bool) → b ≡ d → (if a then not b else false) ≡ true → (not d && not (is_lost recs x)) ≡ true
      by true true d same on = absurd (cc (on))
      by true false d same on = rw (sym same, lives) refl
      by false b d same on = absurd (cc (on))

  alive_of : (p : Part) → outlives id p ≡ true → is_alive p.life ≡ true
  alive_of p = by (is_alive p.life)
    where
      by : (a : Bool) → (if a then not (same_node p.node.me id) else false) ≡ true → a ≡ true
      by true on = refl
      by false on = absurd (cc (on))

  outlives_of : (x : NodeId) (p : Part) → p.node.me ≡ x → is_alive p.life ≡ true → same_node x id ≡ false →
      outlives id p ≡ true
  outlives_of x p me alive other = rw (alive, ap (λ (n : NodeId). same_node n id) me ∙ other) refl

  -- each installed map is known, and noted
  part_fits : (k : ℕ) (p : Part) (m : PartMap) → slice_get w.parts k ≡ Some p → outlives id p ≡ true →
      p.node.installed ≡ Some m → IsKnown s recs m × (has_version m.top (flat_map (maps_at s recs)
      (filter (survives_loss recs id) (ids_of s))) ≡ true)
  part_fits k p m there out is =
      let x = p.node.me in
      let itself = same_node_itself x in
      let alive : sc.life x ≡ life.Alive = life_here s recs w k p c.apart there x itself ∙ alive_is p.life (alive_of p out) in
      let state = state_here s recs w k p c.apart there x itself in
      let has : (sc.state x).installed ≡ Some m = ap (λ (st : NodeState). st.installed) state ∙ is in
      let here : TopologyPart = record { life = sc.life x; state = topology_state (sc.state x) } in
      let fits : MapFits (topology_scene sc) (topology_state (sc.state x)).known (Some m) =
      subst (MapFits (topology_scene sc) (topology_state (sc.state x)).known) has
      (alive_fits (topology_scene sc) x here alive (i.maps.topology.seats x here refl)).map_fits in
      let noted : IsNotedAt s recs x (Some m) = subst (IsNotedAt s recs x) has (i.survivors.noted x) in
      let lives : is_lost recs x ≡ false = sound.alive_kept x (ap is_alive alive) in
      let member : is_member w.directory.members x ≡ true = sym (sound.members_are x) ∙ ap is_alive alive in (
        fits.0,
        kept_has (survives_loss recs id) (ids_of s) x (maps_at s recs) m.top (has_id s x (declared x member))
            (survives x p refl out lives) noted,
      )

  -- what a node that is not lost has noted is up to its map
  noted_low : (x : NodeId) → is_lost recs x ≡ false →
      HoldsOfEach (λ (m : PartMap). HasAtLeast m.top (sc.state x).installed) (maps_at s recs x)
  noted_low x lives =
      let n = i.maps.maps.nodes x lives in
      each_both (λ (m : PartMap). HasAtLeast m.top (sc.state x).installed)
      (option_to_list (map_if (is_member s.nodes x) (opening_map_of s))) (maps_by x recs)
      (by (is_member s.nodes x) n.has_first) n.has_last
    where
      by : (d : Bool) → (d ≡ true → HasAtLeast first_top (sc.state x).installed) →
          HoldsOfEach (λ (m : PartMap). HasAtLeast m.top (sc.state x).installed) (option_to_list (map_if d (opening_map_of s)))
      by true has = (has refl, tt)
      by false has = tt

  -- the map of a node that survives is at its part
  at_its_part : (x : NodeId) (m : PartMap) → same_node x id ≡ false → sc.life x ≡ life.Alive → (sc.state x).installed ≡ Some m →
      has_version m.top (maps_of_parts id w.parts) ≡ true
  at_its_part x m other alive has =
      at_part s w x (λ (p : Part). is_alive p.life ≡ true → p.node.installed ≡ Some m →
      has_version m.top (maps_of_parts id w.parts) ≡ true)
      (λ none. absurd (cc (none)))
      (λ k p place there me lives is. part_has id w.parts k p m there (outlives_of x p me lives other) is)
      (ap is_alive alive) has

  not_both : (a b : Bool) → (not a && not b) ≡ true → (a ≡ false) × (b ≡ false)
  not_both true b both = absurd (cc (both))
  not_both false true both = absurd (cc (both))
  not_both false false both = (refl, refl)

  node_low : (x : NodeId) → survives_loss recs id x ≡ true →
      HoldsOfEach (λ (m : PartMap). IsKnown s recs m × HasAtLeast m.top (highest None (maps_of_parts id w.parts)))
      (maps_at s recs x)
  node_low x on =
      let two = not_both (same_node x id) (is_lost recs x) on in
      each_pair (IsKnown s recs) (λ (m : PartMap). HasAtLeast m.top (highest None (maps_of_parts id w.parts)))
      (maps_at s recs x) (maps_among s (IsKnown s recs) recs x known)
      (each_change (λ (m : PartMap). HasAtLeast m.top (sc.state x).installed)
      (λ (m : PartMap). HasAtLeast m.top (highest None (maps_of_parts id w.parts))) (maps_at s recs x)
      (λ m low. by two.0 two.1 (sc.state x).installed refl m low) (noted_low x two.1))
    where
      lives_at : (at : Life) → sc.life x ≡ at → is_lost recs x ≡ false → (m : PartMap) → (sc.state x).installed ≡ Some m →
          sc.life x ≡ life.Alive
      lives_at life.Alive is lives m has = is
      lives_at life.Absent is lives m has =
          let fresh = ap (λ (st : NodeState). st.installed) (sound.absent_fresh x is) in absurd (cc (fresh, has))
      lives_at life.Gone is lives m has =
          let gone = sound.gone_lost x (ap is_gone is) in absurd (cc (gone, lives))

      up : (top : TopVer) (m : PartMap) (r : Option PartMap) → IsUpTo top m.top → HasAtLeast m.top r → HasAtLeast top r
      up top m None low high = absurd high
      up top m (Some best) low high = up_twice top m.top best.top low high

      by : same_node x id ≡ false → is_lost recs x ≡ false → (o : Option PartMap) → (sc.state x).installed ≡ o →
          (m : PartMap) → HasAtLeast m.top (sc.state x).installed →
          HasAtLeast m.top (highest None (maps_of_parts id w.parts))
      by other lives None is m low = absurd (subst (HasAtLeast m.top) is low)
      by other lives (Some own) is m low =
          up m.top own (highest None (maps_of_parts id w.parts)) (subst (HasAtLeast m.top) is low)
          (highest_takes None (maps_of_parts id w.parts) own.top
          (at_its_part x own other (lives_at (sc.life x) refl lives own is) is))

  pub best_noted : best_map_without w id ≡ best_map s recs id
  best_noted = best_is id None w.parts
      ∙ same_highest s recs (maps_of_parts id w.parts)
      (flat_map (maps_at s recs) (filter (survives_loss recs id) (ids_of s)))
      (parts_each (λ (m : PartMap). IsKnown s recs m × (has_version m.top (flat_map (maps_at s recs)
      (filter (survives_loss recs id) (ids_of s))) ≡ true)) id w.parts part_fits)
      (kept_each (survives_loss recs id) (ids_of s) (maps_at s recs)
      (λ (m : PartMap). IsKnown s recs m × HasAtLeast m.top (highest None (maps_of_parts id w.parts))) node_low)
