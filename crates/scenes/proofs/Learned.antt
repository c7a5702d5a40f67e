-- What a joiner learns leaves its number alone.
use Rattle.std.proofs.Common.{◌≡◌, List, [], ◌∷◌, refl}
use Rattle.std.specs.Prelude.{fold}
use Rattle.act_rows.specs.Exchange.{after_learn}
use Rattle.ignite_types.specs.declared.journal.TopoEvent.{TopoEvent}
use Rattle.node_state.specs.Node.{NodeState}

-- a joiner keeps its number while it learns
pub learned_me : (es : List TopoEvent) (s : NodeState) → (fold after_learn s es).me ≡ s.me
learned_me [] s = refl
learned_me (e ∷ es) s = learned_me es (after_learn s e)
