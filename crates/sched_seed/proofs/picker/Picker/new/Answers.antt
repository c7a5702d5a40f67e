use Rattle.std.proofs.Common.{◌≡◌, rules, ◌∙◌}
use Rattle.sched_seed.proofs.PickLemmas.{picker_of, picker_at_zero}
use Rattle.sched_seed.proofs.picker.Picker.new.Goals as goal
use Rattle.sched_seed.proofs.picker.Picker.new.Goals.{then-seed-eq0, else-seed-eq0}

pub returns : goal.returns
returns c =
    let made : c.if-seed-eq0.generator ≡ picker_of c.args.seed =
    elim c.if-seed-eq0.branch [ then-seed-eq0 w ↦ search rules | else-seed-eq0 w ↦ search rules ] in
    made ∙ picker_at_zero c.args.seed
