use Rattle.std.proofs.Common.{◌≡◌, ◌*◌, ◌+◌, Option, suc, ap, arith, ◌∙◌}
use Rattle.scenes.specs.Scenes.{part_or_absent}
use Rattle.tx_model.specs.World.{Part}
use Rattle.world_parts.specs.Laws.{values_at, world_at}
use Rattle.world_parts.proofs.Shapes.{node_part_is}
use Rattle.world_parts.specs.declared.parts.WorldPart.TheVariants as part
use Rattle.world_parts.proofs.numbers.node_part.Goals as goal

pub returns-clause-value : goal.returns-clause-value
returns-clause-value c s gs id p declared is =
    let number : 2 * c.args.place + 1 ≡ suc (2 * c.args.place) = omega arith in
    ap (values_at s gs) number ∙ node_part_is s (world_at s gs) c.args.place id declared
    ∙ ap (λ (o : Option Part). part.Node (part_or_absent s id o)) is
