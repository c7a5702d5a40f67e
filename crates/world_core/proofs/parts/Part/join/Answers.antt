use Rattle.std.proofs.Common.{◌≡◌, ap, subst}
use Rattle.act_rows.specs.Acts.{join_act}
use Rattle.node_state.specs.Node.{NodeState}
use Rattle.node_state.specs.declared.life.Life.TheVariants as life
use Rattle.tx_model.specs.World.{Part}
use Rattle.world_core.proofs.parts.Part.join.Goals as goal

pub returns-clause-part : goal.returns-clause-part
returns-clause-part c =
    let left : Part = record { node = c.join.new.node; life = life.Alive } in
    subst (λ (p : Part). left ≡ record {
      node = (join_act p.node c.args.events.now c.args.now c.args.own.now).state;
      life =
          life.Alive;
    }) c.self.view_is
    (ap (λ (s : NodeState). record { node = s; life = life.Alive }) c.in_ok-recs.ensures.state)

pub returns-clause-recs : goal.returns-clause-recs
returns-clause-recs c =
    subst (λ (p : Part). c.in_ok-recs.recs ≡ (join_act p.node c.args.events.now c.args.now c.args.own.now).recs)
    c.self.view_is c.in_ok-recs.ensures.recs
