-- At every moment of a run at most one transaction holds a key at one node.
use Rattle.std.proofs.Common.{◌≡◌, ◌++◌, ℕ, List, [], ◌∷◌, Option, Some, None, true, false, map, refl, ap, sym, subst}
use Rattle.std.specs.List.{flat_map}
use Rattle.std.specs.Option.{option_and_then}
use Rattle.std.specs.Ordering.{match_ordering, nat_cmp}
use Rattle.std.specs.declared.cmp.Ordering.TheVariants.{Less, Equal, Greater}
use Rattle.std.proofs.lemmas.Cmp.{tied_itself}
use Rattle.act_rows.specs.NewNodes.{opening_map_of}
use Rattle.ignite_types.proofs.NameLaws.{exact_nodes, node_total, same_node_true}
use Rattle.ignite_types.specs.Names.{node_cmp, same_node}
use Rattle.ignite_types.specs.declared.journal.Event.{Event}
use Rattle.ignite_types.specs.declared.journal.Group.{Group}
use Rattle.ignite_types.specs.declared.journal.Journal.{Journal}
use Rattle.ignite_types.specs.declared.names.NodeId.{NodeId}
use Rattle.ignite_types.specs.declared.placement.PartMap.{PartMap}
use Rattle.ignite_types.specs.declared.scenario.Member.{Member}
use Rattle.ignite_types.specs.declared.scenario.Scenario.{Scenario}
use Rattle.part_model.specs.Directory.{next_step, node_set}
use Rattle.journal_statements.specs.Noted.{Homes, Noted, actor, each_from, noted_by, noted_for, noted_in}
use Rattle.lock_laws.specs.Carrying.{LockInvariant, LockStepInvariant, OneHolder}
use Rattle.lock_laws.specs.Tracking.{AllOwnersMatch, AreApart, IsAbsentFrom}
use Rattle.lock_laws.proofs.Events.{answer_goes, calls_goes, expires_goes, live_me, sees_goes, sends_goes, still, switches_goes, takes_goes}
use Rattle.lock_laws.proofs.Journals.{split_pass, test_grant}
use Rattle.lock_laws.proofs.Plans.{memory_goes, plan_goes, tick_goes}
use Rattle.ordered_set.specs.Members.{with_member}
use Rattle.ordered_table.proofs.Ascending.{ascending_put}
use Rattle.ordered_table.specs.Entries.{at, put}
use Rattle.ordered_table.specs.Places.{IsAscending, IsBelowAll}
use Rattle.tx_model.specs.Opening.{declared_nodes, ids_of, opening, opening_parts, session_nodes_from}
use Rattle.tx_model.specs.Runs.{AreSteps}
use Rattle.tx_model.specs.World as world
use Rattle.tx_model.specs.World.{World, inbox_on, live_place, outcome, part_on, session_node}
use Rattle.ignite_types.specs.declared.journal.Event.TheVariants as event

module _ (s : Scenario) (noted : List Noted) where
  abbrev session_nodes : Homes
  session_nodes = session_nodes_from 1 [] s.sessions

  answer_home : (w : World) (session : ℕ) (home : Option NodeId) → LockInvariant s noted w → let place =
      option_and_then (live_place w) home in let o = world.answer_outcome w session place (part_on w place) in
      LockStepInvariant s noted o.world (noted_by home o.recs)
  answer_home w session None c = still s noted w w None refl refl refl c
  answer_home w session (Some id) c = answer_goes s noted w session id (live_place w id) (part_on w (live_place w id)) refl
      (λ k p live here. live_me w id k p live here) c

  call_home : (w : World) (session : ℕ) (home : Option NodeId) → LockInvariant s noted w → let place =
      option_and_then (live_place w) home in let o = world.call_outcome w session place (part_on w place) in
      LockStepInvariant s noted o.world (noted_by home o.recs)
  call_home w session None c = still s noted w w None refl refl refl c
  call_home w session (Some id) c = calls_goes s noted w session id (live_place w id) (part_on w (live_place w id)) refl
      (λ k p live here. live_me w id k p live here) c

  pub event_goes : (w : World) (e : Event) → LockInvariant s noted w → let o = outcome w e in
      LockStepInvariant s noted o.world (noted_for s (actor session_nodes e) e o.recs)
  event_goes w (event.Answer session) c =
      subst (λ (hs : Homes). let o = outcome w (event.Answer session) in
      LockStepInvariant s noted o.world (noted_by (at nat_cmp hs session) o.recs)) c.session_nodes
      (answer_home w session (session_node w session) c)
  event_goes w (event.Act id from) c = let place = live_place w id in takes_goes s noted w id from place (part_on w place)
      (inbox_on w place) refl (λ k p live here. live_me w id k p live here) c
  event_goes w (event.Send id) c = let place = live_place w id in sends_goes s noted w id place (part_on w place) refl
      (λ k p live here. live_me w id k p live here) c
  event_goes w (event.See id) c = let place = live_place w id in sees_goes s noted w id place (part_on w place) refl
      (λ k p live here. live_me w id k p live here) c
  event_goes w (event.Expire tx) c = let place = live_place w tx.node in
      expires_goes s noted w tx.node tx place (part_on w place) refl (λ k p live here. live_me w tx.node k p live here) c
  event_goes w (event.Minor id) c = let place = live_place w id in switches_goes s noted w id place (part_on w place) refl
      (λ k p live here. live_me w id k p live here) c
  event_goes w (event.Call session) c =
      subst (λ (hs : Homes). let o = outcome w (event.Call session) in
      LockStepInvariant s noted o.world (noted_by (at nat_cmp hs session) o.recs)) c.session_nodes
      (call_home w session (session_node w session) c)
  event_goes w event.Plan c = plan_goes s noted w (next_step w.directory) refl c
  event_goes w event.Tick c = tick_goes s noted w (world.least_moment w) c
  event_goes w (event.Memory id) c = let place = live_place w id in memory_goes s noted w id place (part_on w place) refl c

run_passes : (s : Scenario) (noted : List Noted) (w : World) (gs : List Group) → AreSteps w gs → LockInvariant s noted w →
    each_from test_grant noted (flat_map (λ (g : Group). noted_in s (session_nodes_from 1 [] s.sessions) g) gs) ≡ true
run_passes s noted w [] steps c = refl
run_passes s noted w (g ∷ gs) steps c =
    let hs = session_nodes_from 1 [] s.sessions in
    let o = outcome w g.event in
    let ns = noted_for s (actor hs g.event) g.event o.recs in
    let goes = event_goes s noted w g.event c in
    let rest = run_passes s (noted ++ ns) o.world gs steps.1 goes.carries in
    rw steps.0.same_records (split_pass noted ns (flat_map (λ (h : Group). noted_in s hs h) gs) goes.pass rest)

-- The opening world: the declared nodes have different numbers.

abbrev as_table : List NodeId → List (NodeId × Unit {0})
as_table ids = map (λ (id : NodeId). (id, tt)) ids

table_with : (ids : List NodeId) (id : NodeId) → as_table (with_member node_cmp ids id) ≡ put node_cmp (as_table ids) id tt
table_with [] id = refl
table_with (x ∷ ids) id =
    elim (node_cmp id x) as (λ r. node_cmp id x ≡ r →
    as_table (match_ordering r (id ∷ x ∷ ids) (x ∷ ids) (x ∷ with_member node_cmp ids id)) ≡ match_ordering r
    ((id, tt) ∷ (x, tt) ∷ as_table ids) ((id, tt) ∷ as_table ids) ((x, tt) ∷ put node_cmp (as_table ids) id tt)) [
      | Less ↦ λ g. refl
      | Equal ↦ λ g. ap (λ (y : NodeId). (y, tt) ∷ as_table ids) (sym (exact_nodes id x g))
      | Greater ↦ λ g. ap (λ rest. (x, tt) ∷ rest) (table_with ids id)
    ] refl

set_ascends : (ids : List NodeId) (ms : List Member) → IsAscending node_cmp (as_table ids) →
    IsAscending node_cmp (as_table (node_set ids ms))
set_ascends ids [] up = up
set_ascends ids (m ∷ ms) up = set_ascends (with_member node_cmp ids m.node) ms
    (rw (table_with ids m.node) (ascending_put node_cmp node_total (as_table ids) m.node tt up))

less_apart : (a b : NodeId) → node_cmp a b ≡ Less → same_node b a ≡ false
less_apart a b less =
    elim (same_node b a) as (λ r. same_node b a ≡ r → r ≡ false) [
      | true ↦ λ g.
          let is = same_node_true b a g in
          let tied = tied_itself node_total a in
          let below = rw is at less in
          absurd (cc)
      | false ↦ λ g. refl
    ] refl

module _ (s : Scenario) (m : PartMap) where
  apart_below : (id : NodeId) (ids : List NodeId) → IsBelowAll node_cmp id (as_table ids) →
      IsAbsentFrom id (opening_parts s m ids)
  apart_below id [] below = tt
  apart_below id (x ∷ ids) below = (less_apart id x below.0, apart_below id ids below.1)

  opening_apart : (ids : List NodeId) → IsAscending node_cmp (as_table ids) → AreApart (opening_parts s m ids)
  opening_apart [] up = tt
  opening_apart (x ∷ ids) up = (apart_below x ids up.0, opening_apart ids up.1)

  opening_tell : (ids : List NodeId) → AllOwnersMatch [] (opening_parts s m ids)
  opening_tell [] = tt
  opening_tell (x ∷ ids) = (record { ascending = tt; owners = λ tx key. refl }, opening_tell ids)

opening_carries : (s : Scenario) → LockInvariant s [] (opening s)
opening_carries s = record {
  apart = opening_apart s (opening_map_of s) (ids_of s) (set_ascends [] (declared_nodes s) tt);
  tell = opening_tell s (opening_map_of s) (ids_of s);
  session_nodes = refl;
  plan = refl;
}

pub one_holder_at_a_time : (j : Journal) → OneHolder j
one_holder_at_a_time j legal = run_passes j.scenario [] (opening j.scenario) j.groups legal.steps (opening_carries j.scenario)
