-- Who may not open a version.
use Rattle.std.proofs.Common.{◌≡◌, ◌&&◌, List, Option, Some, None, Bool, true, false, if◌then◌else◌, ℕ, refl, ap, sym, subst, ◌∙◌, arith}
use Rattle.ignite_types.proofs.NameLaws.{same_top_true}
use Rattle.ignite_types.proofs.NameLaws.{same_node_itself}
use Rattle.ignite_types.specs.Names.{same_node, same_top}
use Rattle.ignite_types.specs.declared.message.Message.{Message}
use Rattle.ignite_types.specs.declared.message.Out.{Out}
use Rattle.ignite_types.specs.declared.names.NodeId.{NodeId}
use Rattle.ignite_types.specs.declared.names.TopVer.{TopVer}
use Rattle.link_laws.proofs.Places.{some_is}
use Rattle.node_state.specs.declared.life.Life.{Life}
use Rattle.node_state.specs.declared.topology.Exchange.{Exchange}
use Rattle.part_model.specs.Directory.{oldest_member}
use Rattle.topology_laws.specs.TopologyFacts.{HoldsOfEach, HasSomeMap, IsOldestMember, OldestFits, PartFits, MessageTells, opens_at_part, opens_at, opens_in_exchange, is_opens_of, openings_to_come, opens_on_link, opens_in_outbox}
use Rattle.topology_laws.specs.TopologyInvariant.{TopologyInvariant}
use Rattle.topology_laws.specs.TopologyScenes.{TopologyPart, TopologyScene, TopologyState, topology_at}
use Rattle.topology_laws.proofs.Counts.{count_none}
use Rattle.topology_laws.proofs.Lists.{each_change}
use Rattle.topology_laws.proofs.Tops.{one_place}
use Rattle.ignite_types.specs.declared.message.Message.TheVariants as msg
use Rattle.node_state.specs.declared.life.Life.TheVariants as life

-- a version has one oldest member
pub one_oldest : (sc : TopologyScene) (v : TopVer) (a n : NodeId) → TopologyInvariant sc → IsOldestMember sc v a →
    IsOldestMember sc v n → a ≡ n
one_oldest sc v a n i x y =
    let place = one_place sc.scenario sc.events x.place y.place i.few x.within y.within (x.is_top ∙ sym y.is_top) in
    some_is a n (sym x.oldest ∙ ap (λ (k : ℕ). oldest_member (topology_at sc k).members) place ∙ y.oldest)

module _ (sc : TopologyScene) (v : TopVer) (a : NodeId) (never : IsOldestMember sc v a → HasSomeMap sc v → ⊥) where
  none_opens : (to : NodeId) (m : Message) → MessageTells sc a to m → is_opens_of v m ≡ false
  none_opens to (msg.Opens top) t =
      (elim (same_top top v) as (λ b. same_top top v ≡ b → b ≡ false) [
        | true ↦ λ e.
            let same = same_top_true top v e in
            absurd (never (subst (λ (u : TopVer). IsOldestMember sc u a) same t.1)
            (subst (λ (u : TopVer). HasSomeMap sc u) same t.2))
        | false ↦ λ f. refl
      ]) refl
  none_opens to _ t = refl

  pub none_in : (to : NodeId) (ms : List Message) → HoldsOfEach (MessageTells sc a to) ms → opens_on_link v ms ≡ 0
  none_in to ms all = count_none (is_opens_of v) ms
      (each_change (MessageTells sc a to) (λ (m : Message). is_opens_of v m ≡ false) ms (λ m t. none_opens to m t) all)

  pub none_out : (to : NodeId) (outs : List Out) → HoldsOfEach (λ (o : Out). MessageTells sc a o.to o.msg) outs →
      opens_in_outbox v to outs ≡ 0
  none_out to outs all =
      count_none (λ (o : Out). same_node o.to to && is_opens_of v o.msg) outs
      (each_change (λ (o : Out). MessageTells sc a o.to o.msg) (λ (o : Out). (same_node o.to to && is_opens_of v o.msg)
      ≡ false) outs
      (λ o t. and_none (same_node o.to to) (is_opens_of v o.msg) (none_opens o.to o.msg t)) all)
    where
      and_none : (x y : Bool) → y ≡ false → (x && y) ≡ false
      and_none true y is = is
      and_none false y is = refl

  abbrev in_if : Bool → ℕ
  in_if b = if b then 1 else 0

  none_exchange : (x : Option Exchange) → OldestFits sc a x → opens_in_exchange v x ≡ 0
  none_exchange None fits = refl
  none_exchange (Some x) fits =
      (elim (same_top x.top v) as (λ b. same_top x.top v ≡ b → in_if b ≡ 0) [
        | true ↦ λ e.
            let same = same_top_true x.top v e in
            absurd (never (subst (λ (u : TopVer). IsOldestMember sc u a) same fits.0)
            (subst (λ (u : TopVer). HasSomeMap sc u) same fits.1))
        | false ↦ λ f. refl
      ]) refl

  none_held : (to : NodeId) (at : Life) (f : TopologyState) → PartFits sc a at f → opens_at_part v to at f ≡ 0
  none_held to life.Alive f fits =
      let out = none_out to f.outbox fits.outbox_tells in
      let exchange = none_exchange f.exchange fits.exchange_oldest in
      omega (arith, out, exchange)
  none_held to life.Absent f fits = refl
  none_held to life.Gone f fits = refl

  none_seat : (to : NodeId) → TopologyInvariant sc → (o : Option TopologyPart) → sc.seat a ≡ o → opens_at v to o ≡ 0
  none_seat to i None is = refl
  none_seat to i (Some x) is = none_held to x.life x.state (i.seats a x is)

  pub idle : TopologyInvariant sc → (to : NodeId) → openings_to_come sc v a to ≡ 0
  idle i to =
      let links = none_in to (sc.link a to) (i.links a to) in
      let held = none_seat to i (sc.seat a) refl in
      omega (arith, links, held)

-- none but the oldest member opens a version
pub idle_other : (sc : TopologyScene) (v : TopVer) (n a to : NodeId) → TopologyInvariant sc → IsOldestMember sc v n →
    same_node n a ≡ false → openings_to_come sc v a to ≡ 0
idle_other sc v n a to i oldest other =
    idle sc v a
    (λ x one.
    let same = one_oldest sc v n a i oldest x in
    let itself = subst (λ (k : NodeId). same_node n k ≡ true) same (same_node_itself n) in
    absurd (cc (itself, other)))
    i to
