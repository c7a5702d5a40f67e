use Rattle.std.proofs.Common.{◌≡◌, ◌*◌, ◌+◌, ◌<◌, ℕ, subst, arith}
use Rattle.std.specs.Prelude.{All}
use Rattle.world_parts.specs.Parts.{part_count}
use Rattle.world_parts.specs.Steps.{touches}
use Rattle.world_parts.proofs.Ascending.{touches_ascend, touches_below}
use Rattle.world_parts.proofs.Runs.{history_is_run, worlds_round}
use Rattle.world_parts.proofs.numbers.part_count.Goals as goal

pub returns-clause-touched : goal.returns-clause-touched
returns-clause-touched c s g long =
    let number : part_count s ≡ 2 * c.args.nodes + 1 = omega (arith, long) in
    record {
      ascend = touches_ascend s g.event g.recs;
      below = subst (λ (n : ℕ). All (λ p. p < n) (touches s g)) number
          (touches_below s g.event g.recs);
    }

pub returns-clause-worlds : goal.returns-clause-worlds
returns-clause-worlds c s gs long run = worlds_round s gs run

pub returns-clause-histories : goal.returns-clause-histories
returns-clause-histories c s log long is_good legal = history_is_run s log is_good legal
