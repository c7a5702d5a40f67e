-- The events at a node that concern no link.
use Rattle.std.proofs.Common.{◌≡◌, ◌++◌, List, [], ◌∷◌, Option, Some, None, true, false, if◌then◌else◌, ℕ, refl, sym, subst}
use Rattle.std.specs.List.{list_all}
use Rattle.std.specs.Prelude.{slice_get, slice_set}
use Rattle.frame_laws.specs.Acting.{Notes}
use Rattle.frame_laws.proofs.Acts.{answers, calls, expires, switches}
use Rattle.frame_laws.proofs.Acts as acts
use Rattle.act_rows.specs.Acts.{Acted, answer_act, call_act, expire_act, may_answer, minor_act, see_act, with_act_begun}
use Rattle.part_model.specs.Directory.{Directory, event_at, with_answer_given, with_event}
use Rattle.ignite_types.specs.Names.{same_node}
use Rattle.ignite_types.specs.declared.journal.Rec.{Rec}
use Rattle.ignite_types.specs.declared.names.NodeId.{NodeId}
use Rattle.ignite_types.specs.declared.names.TxId.{TxId}
use Rattle.ignite_types.specs.declared.scenario.Scenario.{Scenario}
use Rattle.journal_statements.specs.Noted.{Noted, noted_by}
use Rattle.link_laws.specs.Carrying.{LinkInvariant, LinkStepInvariant, is_calm}
use Rattle.link_laws.proofs.Frames.{at_live, broken_keeps, directory_keeps, idle_keeps, not_lost, parts_keep, same_keeps, set_stood}
use Rattle.link_laws.proofs.Journals.{all_calm, both_calm, calm_fits, calm_same}
use Rattle.tx_model.specs.World.{Outcome, Part, World, answer_outcome, call_outcome, expire_outcome, is_alive, live_place, memory_outcome, minor_outcome, outcome_of_act, part_on, see_outcome, unchanged, with_directory}
use Rattle.tx_model.specs.World as world
use Rattle.ignite_types.specs.declared.journal.Rec.TheVariants as note
use Rattle.ignite_types.specs.declared.journal.TopoEvent.TheVariants as topo

-- what rows note is calm
pub plain_calm : (recs : List Rec) → Notes recs [] [] → list_all is_calm recs ≡ true
plain_calm recs n = subst (λ (rs : List Rec). list_all is_calm rs ≡ true) (sym n.recs_are)
    (both_calm n.first n.last (all_calm n.first n.first_own) (all_calm n.last n.last_own))

pub see_calm : (recs : List Rec) (place : ℕ) → Notes recs [] (note.See place ∷ []) → list_all is_calm recs ≡ true
see_calm recs place n = subst (λ (rs : List Rec). list_all is_calm rs ≡ true) (sym n.recs_are)
    (both_calm n.first (note.See place ∷ n.last) (all_calm n.first n.first_own) (all_calm n.last n.last_own))

-- the outcome of an event of this node is kept
abbrev pub KeepsAt : Scenario → List Noted → Option NodeId → Outcome → Type 0
KeepsAt s recs who o = LinkStepInvariant s recs (noted_by who o.recs) o.world

module _ (s : Scenario) (recs : List Noted) (w : World) (c : LinkInvariant s recs w) where
  pub stays : (who : Option NodeId) → KeepsAt s recs who (unchanged w)
  stays who = idle_keeps s recs w c

  pub calm_keeps : (id : NodeId) (k : ℕ) (p : Part) (d : Directory) (act : Acted) → slice_get w.parts k ≡ Some p →
      same_node p.node.me id ≡ true → is_alive p.life ≡ true
      → act.state.me ≡ p.node.me → list_all is_calm act.recs ≡ true → d.plan ≡ w.directory.plan →
      d.members ≡ w.directory.members → d.done ≡ w.directory.done
      → KeepsAt s recs (Some id) (outcome_of_act (with_directory w d) k p act)
  calm_keeps id k p d act is same alive me calm plan members done = record {
    passes = calm_fits s.plan recs id act.recs calm (not_lost s recs w k p id c is same alive);
    carried =
        same_keeps s recs (recs ++ noted_by (Some id) act.recs) (outcome_of_act (with_directory w d) k p act).world
        (calm_same s.plan recs (Some id) act.recs calm)
        (parts_keep s recs (with_directory w d) (slice_set w.parts k (record { node = act.state; life = p.life }))
        (set_stood w.parts k p (record { node = act.state; life = p.life }) is (sym me) refl)
        (directory_keeps s recs w d plan members done c));
  }

  pub answer_keeps : (session : ℕ) (id : NodeId) → KeepsAt s recs (Some id) (let place = live_place w id in
      answer_outcome w session place (part_on w place))
  answer_keeps session id =
      at_live w id (λ r q. KeepsAt s recs (Some id) (answer_outcome w session r q)) (stays (Some id)) (λ k. stays (Some id))
      (λ k p place is same alive.
      elim (may_answer p.node session) as (λ b. KeepsAt s recs (Some id)
      (if b then outcome_of_act (with_directory w (with_answer_given w.directory)) k p (answer_act p.node session) else
      unchanged w)) [
        | true ↦ let plain = answers p.node session in calm_keeps id k p (with_answer_given w.directory)
            (answer_act p.node session) is same alive plain.0.same_me (plain_calm _ plain.1) refl refl refl
        | false ↦ stays (Some id)
      ])

  pub call_keeps : (session : ℕ) (id : NodeId) → KeepsAt s recs (Some id) (let place = live_place w id in
      call_outcome w session place (part_on w place))
  call_keeps session id =
      at_live w id (λ r q. KeepsAt s recs (Some id) (call_outcome w session r q)) (stays (Some id)) (λ k. stays (Some id))
      (λ k p place is same alive.
      let plain = calls p.node session in
      calm_keeps id k p w.directory (call_act p.node session) is same alive plain.0.same_me (plain_calm _ plain.1) refl
      refl refl)

  pub expire_keeps : (tx : TxId) (id : NodeId) → KeepsAt s recs (Some id) (let place = live_place w id in
      expire_outcome w tx place (part_on w place))
  expire_keeps tx id =
      at_live w id (λ r q. KeepsAt s recs (Some id) (expire_outcome w tx r q)) (stays (Some id)) (λ k. stays (Some id))
      (λ k p place is same alive.
      let plain = expires p.node tx in calm_keeps id k p w.directory (expire_act p.node tx) is same alive plain.0.same_me
      (plain_calm _ plain.1) refl refl refl)

  pub switch_keeps : (id : NodeId) → KeepsAt s recs (Some id) (let place = live_place w id in
      minor_outcome w place (part_on w place))
  switch_keeps id =
      at_live w id (λ r q. KeepsAt s recs (Some id) (minor_outcome w r q)) (stays (Some id)) (λ k. stays (Some id))
      (λ k p place is same alive.
      let plain = switches p.node in calm_keeps id k p (with_event w.directory topo.Minor) (minor_act p.node) is same alive
      plain.0.same_me (plain_calm _ plain.1) refl refl refl)

  pub see_keeps : (id : NodeId) → KeepsAt s recs (Some id) (let place = live_place w id in
      see_outcome w place (part_on w place))
  see_keeps id =
      at_live w id (λ r q. KeepsAt s recs (Some id) (see_outcome w r q)) (stays (Some id)) (λ k. stays (Some id))
      (λ k p place is same alive.
      elim (event_at w.directory p.node.read) as (λ e. KeepsAt s recs (Some id) (world.see_outcome_of w k p e)) [
        | None ↦ stays (Some id)
        | Some event ↦ let seen = acts.sees p.node event in
            calm_keeps id k p w.directory (see_act p.node event) is same alive seen.0.same_me (see_calm _ p.node.read seen.1)
            refl refl refl
      ])

  -- a node wants memory
  pub memory_keeps : (id : NodeId) (k : ℕ) (p : Part) → slice_get w.parts k ≡ Some p → same_node p.node.me id ≡ true →
      is_alive p.life ≡ true
      → KeepsAt s recs (Some id) (memory_outcome w (Some k) (Some p))
  memory_keeps id k p is same alive = record {
    passes = calm_fits s.plan recs id (note.Memory ∷ []) refl (not_lost s recs w k p id c is same alive);
    carried =
        same_keeps s recs (recs ++ noted_by (Some id) (note.Memory ∷ [])) (memory_outcome w (Some k) (Some p)).world
        (calm_same s.plan recs (Some id) (note.Memory ∷ []) refl)
        (broken_keeps s recs (record w { parts = slice_set w.parts k (record { node = with_act_begun p.node; life = p.life }) })
        (parts_keep s recs w (slice_set w.parts k (record { node = with_act_begun p.node; life = p.life }))
        (set_stood w.parts k p (record { node = with_act_begun p.node; life = p.life }) is refl refl) c));
  }
