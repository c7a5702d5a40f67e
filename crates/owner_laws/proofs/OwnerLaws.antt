-- The laws of owners and of the messages about locks, of the scene in which a run ends.
use Rattle.std.proofs.Common.{◌≡◌, ℕ, List, [], ◌∷◌, true, Some, None, refl, ap, sym, subst, ◌∙◌, length}
use Rattle.std.specs.List.{flat_map, list_all}
use Rattle.std.specs.Prelude.{slice_get, suc, zero}
use Rattle.act_rows.specs.NewNodes.{opening_map_of}
use Rattle.ignite_types.specs.declared.journal.Event.{Event}
use Rattle.ignite_types.specs.declared.journal.Group.{Group}
use Rattle.ignite_types.specs.declared.journal.Journal.{Journal}
use Rattle.ignite_types.specs.declared.journal.Rec.{Rec}
use Rattle.ignite_types.specs.declared.message.Message.{Message}
use Rattle.ignite_types.specs.declared.names.NodeId.{NodeId}
use Rattle.ignite_types.specs.declared.names.TxId.{TxId}
use Rattle.ignite_types.specs.declared.placement.PartMap.{PartMap}
use Rattle.ignite_types.specs.declared.scenario.PlanStep.{PlanStep}
use Rattle.ignite_types.specs.declared.scenario.Step.{Step}
use Rattle.ignite_types.specs.declared.text.Key.{Key}
use Rattle.journal_statements.specs.Topologies.{event_of_planned, event_of_step, events_in_rec, events_of}
use Rattle.link_laws.proofs.Journals.{first_rest}
use Rattle.owner_laws.proofs.OwnerEvents.{owners_lead, owners_open}
use Rattle.owner_laws.specs.LockFacts.{ALock, ALockOk, Fact, In, Locks, WaitsOn, is_live, once, owner}
use Rattle.owner_laws.specs.LockViews.{View}
use Rattle.owner_laws.specs.OwnerInvariant.{OwnerInvariant, OwnersFit, is_minor, stands_still}
use Rattle.owner_laws.specs.OwnerLaws.{IsOneToken, LocksAreTokens, OwnsItsKeys, leaves_topology, lock_view, topology_stands}
use Rattle.scenes.proofs.EachRun.{directory_told, few}
use Rattle.scenes.specs.EachRun.{IsRunOf, is_short_run, last_scene}
use Rattle.transaction_laws.proofs.CountedRuns.{counted_holds}
use Rattle.transaction_laws.proofs.LeavesStarters.{all_of_both}
use Rattle.ignite_types.specs.declared.journal.Event.TheVariants as event
use Rattle.ignite_types.specs.declared.journal.Rec.TheVariants as note
use Rattle.ignite_types.specs.declared.message.Message.TheVariants as msg
use Rattle.ignite_types.specs.declared.scenario.Step.TheVariants as step

-- Where the plan leaves topology alone only late switches are told.

step_still : (x : Step) → leaves_topology x ≡ true → stands_still (event_of_step x) ≡ true
step_still (step.Hold from to) is = refl
step_still (step.Release from to) is = refl
step_still (step.Join m) is = absurd (cc (is))
step_still (step.Lose n) is = absurd (cc (is))
step_still (step.Start cache) is = absurd (cc (is))
step_still (step.Stop cache) is = absurd (cc (is))

planned_still : (plan : List PlanStep) (place : ℕ) → list_all (λ (p : PlanStep). leaves_topology p.step) plan ≡ true →
    stands_still (event_of_planned (slice_get plan place)) ≡ true
planned_still [] place is = refl
planned_still (p ∷ ps) zero is =
    step_still p.step (first_rest (leaves_topology p.step) (list_all (λ (x : PlanStep). leaves_topology x.step) ps) is).0
planned_still (p ∷ ps) (suc place) is =
    planned_still ps place (first_rest (leaves_topology p.step) (list_all (λ (x : PlanStep). leaves_topology x.step) ps) is).1

module _ (plan : List PlanStep) (is : list_all (λ (p : PlanStep). leaves_topology p.step) plan ≡ true) where
  rec_still : (r : Rec) → stands_still (events_in_rec plan r) ≡ true
  rec_still (note.Planned place None) = planned_still plan place is
  rec_still (note.Planned place (Some why)) = refl
  rec_still _ = refl

  recs_still : (rs : List Rec) → stands_still (flat_map (events_in_rec plan) rs) ≡ true
  recs_still [] = refl
  recs_still (r ∷ rs) = all_of_both is_minor (events_in_rec plan r) (flat_map (events_in_rec plan) rs) (rec_still r)
      (recs_still rs)

  group_still : (rs : List Rec) (e : Event) → stands_still (events_of plan rs e) ≡ true
  group_still rs (event.Minor id) = refl
  group_still rs _ = recs_still rs

  pub groups_still : (gs : List Group) → stands_still (flat_map (λ (g : Group). events_of plan g.recs g.event) gs) ≡ true
  groups_still [] = refl
  groups_still (g ∷ gs) = all_of_both is_minor (events_of plan g.recs g.event)
      (flat_map (λ (x : Group). events_of plan x.recs x.event) gs) (group_still g.recs g.event) (groups_still gs)

-- What is known of locks says that they are tokens.

module _ (m : PartMap) (v : View) (i : Locks m v) where
  lock_tells : (from to : NodeId) (x : Message) (tx : TxId) (key : Key) → Fact m v from to x → once x ≡ Some (ALock tx key) →
      is_live v.entry tx ≡ true → WaitsOn (v.entry tx.node tx) (v.session_state tx.node tx.session) key
      × (In tx (v.queue to key) → ⊥)
  lock_tells from to (msg.Lock u top k) tx key f is live =
      let same : u ≡ tx = cc (is) in
      let same_key : k ≡ key = cc (is) in
      let here : is_live v.entry u ≡ true = subst (λ (t : TxId). is_live v.entry t ≡ true) (sym same) live in
      subst (λ (t : TxId). WaitsOn (v.entry t.node t) (v.session_state t.node t.session) key × (In t (v.queue to key) → ⊥)) same
      (subst (λ (l : Key). WaitsOn (v.entry u.node u) (v.session_state u.node u.session) l × (In u (v.queue to l) → ⊥))
      same_key (f.waits_on here, f.unqueued here))
  lock_tells from to _ tx key f is live = absurd (cc (is))

  lock_ok_tells : (from to : NodeId) (x : Message) (tx : TxId) (key : Key) → Fact m v from to x →
      once x ≡ Some (ALockOk tx key) → is_live v.entry tx ≡ true →
      WaitsOn (v.entry tx.node tx) (v.session_state tx.node tx.session) key × (owner (v.queue from key) ≡ Some tx)
  lock_ok_tells from to (msg.LockOk u k found) tx key f is live =
      let same : u ≡ tx = cc (is) in
      let same_key : k ≡ key = cc (is) in
      let here : is_live v.entry u ≡ true = subst (λ (t : TxId). is_live v.entry t ≡ true) (sym same) live in
      subst (λ (t : TxId). WaitsOn (v.entry t.node t) (v.session_state t.node t.session) key
      × (owner (v.queue from key) ≡ Some t)) same
      (subst (λ (l : Key). WaitsOn (v.entry u.node u) (v.session_state u.node u.session) l
      × (owner (v.queue from l) ≡ Some u)) same_key (f.waits_on here, f.owns here))
  lock_ok_tells from to _ tx key f is live = absurd (cc (is))

  tokens : IsOneToken v
  tokens = record {
    lock_comes = λ from to tx key x live here is. lock_tells from to x tx key (i.facts from to x here) is live;
    lock_ok_comes = λ from to tx key x live here is. lock_ok_tells from to x tx key (i.facts from to x here) is live;
    place_stands = λ node tx key live here. (i.places node key tx here).either live;
    once_each = i.apart;
  }

-- Of every run.

module _ (events : ℕ) (short : is_short_run events ≡ true) (j : Journal) (run : IsRunOf events j)
    (stands : topology_stands j.scenario ≡ true) where
  holds : OwnerInvariant (length j.groups) (last_scene j)
  holds = counted_holds OwnerInvariant owners_lead (λ s is. owners_open s) j run.is_good (few events short j run) run.is_legal

  fits : OwnersFit (last_scene j)
  fits = holds.owners (ap stands_still (directory_told events short j run) ∙ groups_still j.scenario.plan stands j.groups)

  pub owns_keys : OwnsItsKeys (last_scene j)
  owns_keys tx e key primary there undecided locks accessed first =
      fits.locks.keys tx e there undecided locks key primary accessed first

  pub are_tokens : LocksAreTokens (last_scene j)
  are_tokens = tokens (opening_map_of j.scenario) (lock_view (last_scene j)) fits.locks
