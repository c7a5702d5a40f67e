-- What a joiner has learned, and who stays a member after a loss.
use Rattle.std.proofs.Common.{◌≡◌, ◌<◌, ◌+◌, ◌^◌, ◌++◌, ◌||◌, List, [], ◌∷◌, Some, None, Bool, true, false, if◌then◌else◌, not, length, ℕ, suc, refl, ap, sym, subst, ◌∙◌, arith}
use Rattle.std.specs.Prelude.{fold, slice_get}
use Rattle.act_rows.specs.Exchange.{after_learn}
use Rattle.part_model.specs.Directory.{without_node}
use Rattle.part_model.specs.NextMap.{is_member}
use Rattle.part_model.specs.Orders.{next_count}
use Rattle.ignite_types.proofs.NameLaws.{same_node_true}
use Rattle.ignite_types.specs.Names.{same_node}
use Rattle.ignite_types.specs.declared.journal.TopoEvent.{TopoEvent}
use Rattle.ignite_types.specs.declared.names.NodeId.{NodeId}
use Rattle.ignite_types.specs.declared.scenario.Member.{Member}
use Rattle.journal_statements.specs.Topologies.{last_topology}
use Rattle.link_laws.proofs.Places.{same_node_turned}
use Rattle.node_state.specs.Node.{NodeState}
use Rattle.topology_laws.specs.TopologyScenes.{topology_state}
use Rattle.topology_laws.proofs.Tops.{raised_is}

-- What a joiner has learned.

pub learned_me : (es : List TopoEvent) (s : NodeState) → (fold after_learn s es).me ≡ s.me
learned_me [] s = refl
learned_me (e ∷ es) s = learned_me es (after_learn s e)

pub learned_known : (es : List TopoEvent) (s : NodeState) → (topology_state (fold after_learn s es)).known ≡ last_topology
    (topology_state s).known es
learned_known [] s = refl
learned_known (e ∷ es) s = learned_known es (after_learn s e)

pub learned_map : (es : List TopoEvent) (s : NodeState) → (fold after_learn s es).installed ≡ s.installed
learned_map [] s = refl
learned_map (e ∷ es) s = learned_map es (after_learn s e)

pub learned_singles : (es : List TopoEvent) (s : NodeState) → (fold after_learn s es).singles ≡ s.singles
learned_singles [] s = refl
learned_singles (e ∷ es) s = learned_singles es (after_learn s e)

pub learned_outbox : (es : List TopoEvent) (s : NodeState) → (fold after_learn s es).outbox ≡ s.outbox
learned_outbox [] s = refl
learned_outbox (e ∷ es) s = learned_outbox es (after_learn s e)

pub learned_exchange : (es : List TopoEvent) (s : NodeState) → s.exchange ≡ None → (fold after_learn s es).exchange ≡ None
learned_exchange [] s none = none
learned_exchange (e ∷ es) s none = learned_exchange es (after_learn s e) refl

pub learned_read : (es : List TopoEvent) (s : NodeState) → s.read + length es < 2 ^ 63 →
    (fold after_learn s es).read ≡ s.read + length es
learned_read [] s small = none_more s.read
  where
    none_more : (n : ℕ) → n ≡ n + 0
    none_more n = omega arith
learned_read (e ∷ es) s small =
    let next : next_count s.read ≡ suc s.read = raised_is s.read (omega (arith, small)) in
    learned_read es (after_learn s e) (rw next (omega (arith, small))) ∙ (rw next (one_less s.read (length es)))
  where
    one_less : (a b : ℕ) → suc a + b ≡ a + suc b
    one_less a b = omega arith

pub seam : {A : Type 0} (xs : List A) (x : A) → slice_get (xs ++ x ∷ []) (length xs) ≡ Some x
seam [] x = refl
seam (y ∷ ys) x = seam ys x

pub not_off : (b : Bool) → (b ≡ true → ⊥) → not b ≡ true
not_off true none = absurd (none refl)
not_off false none = refl

pub was_member : (id n : NodeId) (ms : List Member) → is_member (without_node id ms) n ≡ true → is_member ms n ≡ true
was_member id n [] is = is
was_member id n (m ∷ ms) is =
    elim (same_node n m.node) as (λ b. same_node n m.node ≡ b → (b || is_member ms n) ≡ true) [
      | true ↦ λ t. refl
      | false ↦ λ f.
          (elim (same_node m.node id) as (λ b. is_member (if not b then m ∷ without_node id ms else without_node id ms) n
          ≡ true → is_member ms n ≡ true) [
            | true ↦ λ e. was_member id n ms e
            | false ↦ λ e. was_member id n ms (sym (ap (λ (c : Bool). c || is_member (without_node id ms) n) f) ∙ e)
          ]) is
    ] refl

pub still_member : (id n : NodeId) (ms : List Member) → same_node id n ≡ false → is_member ms n ≡ true →
    is_member (without_node id ms) n ≡ true
still_member id n [] other is = absurd (cc (is))
still_member id n (m ∷ ms) other is =
    (elim (same_node n m.node) as (λ b. same_node n m.node ≡ b → (b || is_member ms n) ≡ true →
    is_member (without_node id (m ∷ ms)) n ≡ true) [
      | true ↦ λ t e.
          let apart : same_node m.node id ≡ false = false_if (same_node m.node id) (λ x. let back =
          same_node_turned m.node id x in let here =
          subst (λ (y : NodeId). same_node id y ≡ false) (same_node_true n m.node t) other in absurd (cc (back, here))) in
          rw apart (rw t refl)
      | false ↦ λ f e.
          elim (same_node m.node id) as (λ b. is_member (if not b then m ∷ without_node id ms else without_node id ms) n
          ≡ true) [
            | true ↦ still_member id n ms other e
            | false ↦ rw f (still_member id n ms other e)
          ]
    ]) refl is
  where
    false_if : (b : Bool) → (b ≡ true → ⊥) → b ≡ false
    false_if true none = absurd (none refl)
    false_if false none = refl
