use Rattle.std.proofs.Common.{◌≡◌, ◌*◌, ◌+◌, Option, suc, ap, arith, ◌∙◌}
use Rattle.part_model.specs.Links.{Inbox}
use Rattle.world_parts.specs.Laws.{values_at, world_at}
use Rattle.world_parts.specs.Parts.{inbox_or_new}
use Rattle.world_parts.proofs.Shapes.{inbox_part_is}
use Rattle.world_parts.specs.declared.parts.WorldPart.TheVariants as part
use Rattle.world_parts.proofs.numbers.inbox_part.Goals as goal

pub returns-clause-value : goal.returns-clause-value
returns-clause-value c s gs id b declared is =
    let number : 2 * c.args.place + 2 ≡ suc (suc (2 * c.args.place)) = omega arith in
    ap (values_at s gs) number ∙ inbox_part_is s (world_at s gs) c.args.place id declared
    ∙ ap (λ (o : Option Inbox). part.Inbox (inbox_or_new o)) is
