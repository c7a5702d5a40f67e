-- A late switch begins only where each mover has claimed, in every run.
use Rattle.std.proofs.Common.{◌≡◌, ◌≤◌, ◌<◌, ◌+◌, ◌^◌, ◌++◌, ◌&&◌, ◌||◌, List, [], ◌∷◌, Option, Some, None, Bool, true, false, length, ℕ, refl, ap, sym, subst, ◌∙◌, arith, not, suc}
use Rattle.std.specs.List.{list_all, list_any}
use Rattle.std.specs.Ordering.{match_ordering, ordering_then}
use Rattle.std.specs.Prelude.{option_to_list}
use Rattle.std.specs.declared.cmp.Ordering.{Ordering}
use Rattle.std.specs.declared.cmp.Ordering.TheVariants.{Equal, Greater, Less}
use Rattle.act_rows.specs.Filling.{all_claimed, claim_cmp, has_claim, may_switch, movers_in}
use Rattle.act_rows.specs.NewNodes.{map_if, opening_map_of}
use Rattle.act_rows.specs.Steps.{is_installed, is_oldest, is_open, rows_of}
use Rattle.claim_laws.proofs.ClaimEvents.{claims_kept, opening_told}
use Rattle.claim_laws.specs.ClaimFacts.{ClaimsAreTold, is_told}
use Rattle.frame_laws.proofs.Extending.{append_none, append_twice}
use Rattle.ignite_types.proofs.NameLaws.{exact_nodes, exact_tops, same_top_true}
use Rattle.ignite_types.specs.Names.{node_cmp, same_top, top_cmp}
use Rattle.ignite_types.specs.declared.journal.Event.{Event}
use Rattle.ignite_types.specs.declared.journal.Group.{Group}
use Rattle.ignite_types.specs.declared.journal.Journal.{Journal}
use Rattle.ignite_types.specs.declared.names.NodeId.{NodeId}
use Rattle.ignite_types.specs.declared.names.TopVer.{TopVer}
use Rattle.ignite_types.specs.declared.placement.PartMap.{PartMap}
use Rattle.ignite_types.specs.declared.scenario.Scenario.{Scenario}
use Rattle.journal_statements.specs.MapLaws.{is_claim_of, movers_claimed, switch_fits, switches_claimed, switches_from}
use Rattle.journal_statements.specs.Noted.{Noted, is_lost, map_of_version, maps_installed, noted_in, recs_of}
use Rattle.journal_statements.specs.Refusals.{highest, maps_at}
use Rattle.link_laws.proofs.Frames.{all_change}
use Rattle.link_laws.proofs.Journals.{first_rest}
use Rattle.link_laws.proofs.Places.{some_is}
use Rattle.link_laws.specs.Carrying.{LinkInvariant}
use Rattle.map_laws.specs.MapFacts.{NodeMaps, maps_by}
use Rattle.node_state.specs.Node.{NodeState}
use Rattle.node_state.specs.declared.topology.Claim.{Claim}
use Rattle.ordered_set.specs.Members.{has}
use Rattle.part_model.specs.Directory.{first_top}
use Rattle.part_model.specs.NextMap.{is_member}
use Rattle.scenes.proofs.EachRun.{few}
use Rattle.scenes.proofs.Events.{at_alive}
use Rattle.scenes.proofs.Runs.{Holds, group_holds, groups_hold, plan_of_good}
use Rattle.scenes.proofs.Sounds.{alive_is, sound_of}
use Rattle.scenes.proofs.Worlds.{life_here, state_here}
use Rattle.scenes.specs.EachRun.{IsRunOf, is_short_run}
use Rattle.scenes.specs.Events.{IsSound}
use Rattle.scenes.specs.Scenes.{Scene, scene_of}
use Rattle.survivor_laws.proofs.OwnersLeft.{HoldsOfSome, IsKnown, each_pair, highest_holds, highest_takes, known_next, maps_among, opening_survivors}
use Rattle.survivor_laws.proofs.SurvivorEvents.{survivors_kept}
use Rattle.survivor_laws.specs.SurvivorFacts.{IsNotedAt}
use Rattle.survivor_laws.specs.SurvivorInvariant.{MapsAndSurvivors}
use Rattle.topology_laws.proofs.Lists.{each_both}
use Rattle.topology_laws.proofs.Steps.{alive_fits}
use Rattle.topology_laws.proofs.Tops.{up_both}
use Rattle.topology_laws.specs.TopologyFacts.{HasAtLeast, HoldsOfEach, IsUpTo, MapFits, RecordsFitFrom}
use Rattle.topology_laws.specs.TopologyScenes.{TopologyPart, TopologyScene, topology_scene, topology_state}
use Rattle.tx_model.specs.Opening.{opening, session_nodes_from}
use Rattle.tx_model.specs.Runs.{AreSteps}
use Rattle.tx_model.specs.World.{World, can_be, can_switch, is_alive, is_quiet, is_tick, outcome, state_of_part}
use Rattle.ignite_types.specs.declared.journal.Event.TheVariants as event
use Rattle.node_state.specs.declared.life.Life.TheVariants as life

-- A claim that is found is one of those that are kept.

both_tied : (r t : Ordering) → ordering_then r t ≡ Equal → (r ≡ Equal) × (t ≡ Equal)
both_tied Less t tied = absurd (cc (tied))
both_tied Equal t tied = (refl, tied)
both_tied Greater t tied = absurd (cc (tied))

exact_claims : (a b : Claim) → claim_cmp a b ≡ Equal → a ≡ b
exact_claims a b tied =
    let parts = both_tied (top_cmp a.top b.top) (node_cmp a.node b.node) tied in
    (λ i. record { top = exact_tops a.top b.top parts.0 i; node = exact_nodes a.node b.node parts.1 i })

found_passes : (test : Claim → Bool) (claims : List Claim) (c : Claim) → list_all test claims ≡ true →
    has claim_cmp claims c ≡ true → test c ≡ true
found_passes test [] c all found = absurd (cc (found))
found_passes test (x ∷ xs) c all found =
    let both = first_rest (test x) (list_all test xs) all in
    by (claim_cmp c x) refl both.0 found (λ more. found_passes test xs c both.1 more)
  where
    by : (o : Ordering) → claim_cmp c x ≡ o → test x ≡ true → match_ordering o false true (has claim_cmp xs c) ≡ true →
        (has claim_cmp xs c ≡ true → test c ≡ true) → test c ≡ true
    by Less is one there rest = absurd (cc (there))
    by Equal is one there rest = ap test (exact_claims c x is) ∙ one
    by Greater is one there rest = rest there

-- The installed map is the highest one.

module _ (s : Scenario) (recs : List Noted) (k : NodeId) (m : PartMap) where
  low_at : HoldsOfEach (λ (x : PartMap). HasAtLeast x.top (Some m)) (maps_by k recs) →
      (is_member s.nodes k ≡ true → HasAtLeast first_top (Some m)) →
      HoldsOfEach (λ (x : PartMap). IsUpTo x.top m.top) (maps_at s recs k)
  low_at rest first = each_both (λ (x : PartMap). IsUpTo x.top m.top)
      (option_to_list (map_if (is_member s.nodes k) (opening_map_of s))) (maps_by k recs) (by (is_member s.nodes k) first) rest
    where
      by : (c : Bool) → (c ≡ true → HasAtLeast first_top (Some m)) →
          HoldsOfEach (λ (x : PartMap). IsUpTo x.top m.top) (option_to_list (map_if c (opening_map_of s)))
      by true has = (has refl, tt)
      by false has = tt

  highest_is : HoldsOfEach (IsKnown s recs) (maps_installed s recs) → IsKnown s recs m →
      list_any (λ (x : PartMap). same_top x.top m.top) (maps_at s recs k) ≡ true →
      HoldsOfEach (λ (x : PartMap). IsUpTo x.top m.top) (maps_at s recs k) → highest None (maps_at s recs k) ≡ Some m
  highest_is known is_map has low =
      by (highest None (maps_at s recs k)) (highest_takes None (maps_at s recs k) m.top has)
      (highest_holds (λ (x : PartMap). IsUpTo x.top m.top × IsKnown s recs x) None (maps_at s recs k) tt
      (each_pair (λ (x : PartMap). IsUpTo x.top m.top) (IsKnown s recs) (maps_at s recs k) low
      (maps_among s (IsKnown s recs) recs k known)))
    where
      by : (r : Option PartMap) → HasAtLeast m.top r →
          HoldsOfSome (λ (x : PartMap). IsUpTo x.top m.top × IsKnown s recs x) r → r ≡ Some m
      by None high one = absurd high
      by (Some x) high one =
          let same : x.top ≡ m.top = up_both x.top m.top one.0 high in
          let is : m ≡ x = some_is m x (sym is_map ∙ sym (ap (map_of_version (maps_installed s recs)) same) ∙ one.1) in
          ap (λ (y : PartMap). Some y) (sym is)

pub known_all : (sc : TopologyScene) (before ns : List Noted) → HoldsOfEach (IsKnown sc.scenario before)
    (maps_installed sc.scenario before) → RecordsFitFrom sc before ns →
    HoldsOfEach (IsKnown sc.scenario (before ++ ns)) (maps_installed sc.scenario (before ++ ns))
known_all sc before [] known fit = subst (λ (rs : List Noted). HoldsOfEach (IsKnown sc.scenario rs)
    (maps_installed sc.scenario rs)) (sym (append_none before)) known
known_all sc before (n ∷ ns) known fit = subst (λ (rs : List Noted). HoldsOfEach (IsKnown sc.scenario rs)
    (maps_installed sc.scenario rs)) (append_twice before (n ∷ []) ns)
    (known_all sc (before ++ n ∷ []) ns (known_next sc before n fit.0 known) fit.1)

-- Where a node may begin the late switch.

-- each mover has a claim that is told
movers_told : (recs : List Noted) (k : NodeId) (s : NodeState) (top : TopVer) (movers : List NodeId) → s.seen ≡ top →
    list_all (is_told recs k) s.claims ≡ true → all_claimed s movers ≡ true →
    list_all (λ (mover : NodeId). list_any (is_claim_of mover top) (recs_of k recs)) movers ≡ true
movers_told recs k s top [] seen told claimed = refl
movers_told recs k s top (mover ∷ movers) seen told claimed =
    all_change (has_claim s) (λ (x : NodeId). list_any (is_claim_of x top) (recs_of k recs)) (mover ∷ movers)
    (λ x there. subst (λ (v : TopVer). list_any (is_claim_of x v) (recs_of k recs) ≡ true) seen
    (found_passes (is_told recs k) s.claims (record { top = s.seen; node = x }) told there)) claimed

module _ (sc : Scene) (k : NodeId) (sound : IsSound sc) (told : ClaimsAreTold sc) (i : MapsAndSurvivors sc)
    (alive : sc.life k ≡ life.Alive) (may : may_switch (sc.state k) ≡ true) where
  abbrev st : NodeState
  st = sc.state k

  lives : is_lost sc.recs k ≡ false
  lives = sound.alive_kept k (ap is_alive alive)

  maps_kept : NodeMaps sc.scenario sc.recs k st.caches st.installed st.singles
  maps_kept = i.maps.maps.nodes k lives

  map_known : MapFits (topology_scene sc) (topology_state st).known st.installed
  map_known =
      let here : TopologyPart = record { life = sc.life k; state = topology_state st } in
      (alive_fits (topology_scene sc) k here alive (i.maps.topology.seats k here refl)).map_fits

  known : HoldsOfEach (IsKnown sc.scenario sc.recs) (maps_installed sc.scenario sc.recs)
  known = known_all (topology_scene sc) [] sc.recs (refl, tt) i.maps.topology.fit

  all_there : all_claimed st (movers_in (rows_of st)) ≡ true
  all_there = (first_rest (is_oldest st && is_installed st st.seen && is_open st st.opened)
      (all_claimed st (movers_in (rows_of st))) may).1

  installed_there : is_installed st st.seen ≡ true
  installed_there =
      let three = (first_rest (is_oldest st && is_installed st st.seen && is_open st st.opened)
      (all_claimed st (movers_in (rows_of st))) may).0 in
      let two = (first_rest (is_oldest st && is_installed st st.seen) (is_open st st.opened) three).0 in
      (first_rest (is_oldest st) (is_installed st st.seen) two).1

  switch_claimed : movers_claimed (recs_of k sc.recs) (highest None (maps_at sc.scenario sc.recs k)) ≡ true
  switch_claimed = by st.installed refl
    where
      by : (o : Option PartMap) → st.installed ≡ o →
          movers_claimed (recs_of k sc.recs) (highest None (maps_at sc.scenario sc.recs k)) ≡ true
      by None none =
          let there = subst (λ (o : Option PartMap). is_installed (record st { installed = o }) st.seen ≡ true) none
          installed_there in absurd (cc (there))
      by (Some m) is =
          let node_maps = subst (λ (o : Option PartMap). NodeMaps sc.scenario sc.recs k st.caches o st.singles) is maps_kept in
          let fits = subst (MapFits (topology_scene sc) (topology_state st).known) is map_known in
          let noted = subst (IsNotedAt sc.scenario sc.recs k) is (i.survivors.noted k) in
          let top : m.top ≡ st.seen = same_top_true m.top st.seen
          (subst (λ (o : Option PartMap). is_installed (record st { installed = o }) st.seen ≡ true) is installed_there) in
          let claimed = subst (λ (o : Option PartMap). all_claimed st (movers_in (rows_of (record st { installed = o })))
          ≡ true)
          is all_there in
          ap (movers_claimed (recs_of k sc.recs)) (highest_is sc.scenario sc.recs k m known fits.0 noted
          (low_at sc.scenario sc.recs k m node_maps.has_last node_maps.has_first))
          ∙ movers_told sc.recs k st m.top (movers_in m.rows) (sym top) (told k) claimed

-- Each group.

module _ (s : Scenario) (recs : List Noted) (w : World) (c : LinkInvariant s recs w) (sound : IsSound (scene_of s recs w))
    (told : ClaimsAreTold (scene_of s recs w)) (i : MapsAndSurvivors (scene_of s recs w)) where
  switch_holds : (k : NodeId) → can_be w (event.Minor k) ≡ true →
      movers_claimed (recs_of k recs) (highest None (maps_at s recs k)) ≡ true
  switch_holds k can =
      at_alive w k (λ r q. can_switch w.directory (state_of_part q) ≡ true →
      movers_claimed (recs_of k recs) (highest None (maps_at s recs k)) ≡ true)
      (λ e. absurd (cc (e)))
      (λ place p is same alive e.
      let may = (first_rest (may_switch p.node) (same_top p.node.seen w.directory.last) e).0 in
      switch_claimed (scene_of s recs w) k sound told i
      (life_here s recs w place p c.apart is k same ∙ alive_is p.life alive)
      (ap may_switch (state_here s recs w place p c.apart is k same) ∙ may))
      can

  event_fits : (e : Event) → can_be w e ≡ true → switch_fits s recs e ≡ true
  event_fits (event.Minor k) can = switch_holds k can
  event_fits _ can = refl

switches_hold : (s : Scenario) (recs : List Noted) (w : World) (gs : List Group) → length s.plan ≤ 64 →
    length w.directory.events + length gs < 2 ^ 63 → Holds ClaimsAreTold s recs w → Holds MapsAndSurvivors s recs w →
    AreSteps w gs → switches_from s (session_nodes_from 1 [] s.sessions) recs gs ≡ true
switches_hold s recs w [] short room claims maps steps = refl
switches_hold s recs w (g ∷ gs) short room claims maps steps =
    let can = first_rest (not w.broken && can_be w g.event) (not (is_tick g.event) || is_quiet w) steps.0.possible_event in
    let possible = (first_rest (not w.broken) (can_be w g.event) can.0).1 in
    let space : suc (length w.directory.events) < 2 ^ 63 = omega (arith, room) in
    let fits = event_fits s recs w claims.carries (sound_of s recs w claims.carries space claims.base) claims.inv maps.inv
    g.event
    possible in
    let more_claims = group_holds ClaimsAreTold claims_kept s recs w g short space claims steps.0 in
    let more_maps = group_holds MapsAndSurvivors survivors_kept s recs w g short space maps steps.0 in
    let count = more_claims.1 in
    rw fits (switches_hold s (recs ++ noted_in s (session_nodes_from 1 [] s.sessions) g) (outcome w g.event).world gs short
    (omega (arith, room, count)) more_claims.0 more_maps.0 steps.1)

-- Of every run.

pub switches_claimed_hold : (events : ℕ) → is_short_run events ≡ true → (j : Journal) → IsRunOf events j →
    switches_claimed j ≡ true
switches_claimed_hold events short j run =
    let s = j.scenario in
    let size = few events short j run in
    let claims = (groups_hold ClaimsAreTold claims_kept s [] run.is_good (omega arith) (opening_told s) tt).0 in
    let maps = (groups_hold MapsAndSurvivors survivors_kept s [] run.is_good (omega arith) (opening_survivors s run.is_good)
    tt).0 in
    switches_hold s [] (opening s) j.groups (plan_of_good s run.is_good) (omega (arith, size)) claims maps run.is_legal.steps
